-- What the whole call does. Each part of its promise is a record or a definition of its own.
use Rattle.std.specs.Prelude.{◌≡◌, ◌⊎◌, ℕ, ◌<◌, ◌≤◌, List, length, map, Option, Some, None, String, string_bytes}
use Rattle.std.specs.declared.alloc.Global.{Global}
use Rattle.std.specs.Io.KnownBytes.{Keeps}
use Rattle.vb_io.specs.{Causes.Rose, Files.{Files, file_of, OfTold}}
use Rattle.vb_text.specs.Units.{utf8_of}
use Rattle.vb_threads.specs.World.{Thread, World}
use Rattle.vb_value.specs.{Store.Store, declared.stop.{Stop.{Stop, TheVariants.{Ended, Uncaught, HeapLimit, TurnLimit, WriteFault, Memory as NoMemory}}, Status.{Status, TheVariants.Write}}}
use Rattle.vb_code.specs.{Code.class_name, Machine.CodeThread}
use Rattle.vb_bound.specs.Tree.{Tree}
use Rattle.vb_meaning.specs.Source.{SourceThread}
use Rattle.vb_turns.specs.Ran.{AreMains}
use Rattle.vb_top.specs.{declared.{outcome.{Answer.{Answer, TheVariants.{Usage, Missing, TooLong, LoadFault, Refused, Memory, Stopped}}, Report.Report, Finished.Finished}, running.Outcome.Outcome}, Words.file_of_words, Programs.{IsProgram, LeastBroken}, Answers.{status_of, line_of, Tells}, Reports.{ShowsRun, StopStandsIn, StopStandsInCode, CodeRan, Counts, AsksWriting, RanProgram}}
use Rattle.vb_bind.specs.Grammar.{widest}

-- the longest file, in bytes
abbrev pub longest_file : ℕ
longest_file = 4194304

-- bytes that an object may have: just those that it tells, and any where it tells none
abbrev pub MayBe : Option (List ℕ) → List ℕ → Type 0
MayBe told bytes = (known : List ℕ) → told ≡ Some known → known ≡ bytes

-- What a call was given and what it gave back: the objects' bytes and counts of faults before and after it.
pub record Call : Type 0 where
  pub words : List (List ℕ)
  pub files : Option Files
  pub files_after : Option Files
  pub folder_before : ℕ
  pub folder_now : ℕ
  pub input : List ℕ  -- the bytes of the input
  pub input_after : Option (List ℕ)
  pub out_old : Option (List ℕ)
  pub out_new : Option (List ℕ)
  pub out_before : ℕ
  pub out_now : ℕ
  pub err_old : Option (List ℕ)
  pub err_new : Option (List ℕ)
  pub err_before : ℕ
  pub err_now : ℕ
  pub status : Status
  pub report : Option Report

abbrev pub call_of : List (List ℕ) → Option Files → Option Files → ℕ → ℕ → List ℕ → Option (List ℕ) → Option (List ℕ) → Option (List ℕ) → ℕ → ℕ → Option (List ℕ) → Option (List ℕ) → ℕ → ℕ → Status → Option Report → Call
call_of words files files_after folder_before folder_now input input_after out_old out_new out_before out_now err_old err_new err_before err_now status report = record {
  words = words;
  files = files;
  files_after = files_after;
  folder_before = folder_before;
  folder_now = folder_now;
  input = input;
  input_after = input_after;
  out_old = out_old;
  out_new = out_new;
  out_before = out_before;
  out_now = out_now;
  err_old = err_old;
  err_new = err_new;
  err_before = err_before;
  err_now = err_now;
  status = status;
  report = report;
}

-- The file of these words was loaded from a folder that tells these files.
pub record IsLoaded (words : List (List ℕ)) (told : Option Files) (file bytes : List ℕ) : Type 0 where
  pub words_are : file_of_words words ≡ Some file
  pub found : OfTold told (λ files. file_of files file ≡ Some bytes)
  pub short : length bytes ≤ longest_file

-- WORDS AND FILES

-- the file is there and not too long
abbrev pub MayBeHad : Files → List ℕ → Type 0
MayBeHad files file = (bytes : List ℕ) × (file_of files file ≡ Some bytes) × (length bytes ≤ longest_file)

-- when an answer may come, by the words, the folder's files and its count of faults
abbrev pub Judged : List (List ℕ) → Option Files → ℕ → ℕ → List ℕ → Answer → Type 0
Judged words told before now file Usage = file_of_words words ≡ None
Judged words told before now file Missing = (file_of_words words ≡ Some file) × OfTold told (λ files. file_of files file ≡ None)
Judged words told before now file TooLong = (file_of_words words ≡ Some file) × OfTold told (λ files. (bytes : List ℕ) × (file_of files file ≡ Some bytes) × (longest_file < length bytes))
Judged words told before now file LoadFault = (file_of_words words ≡ Some file) × Rose before now × OfTold told (λ files. MayBeHad files file)
Judged words told before now file (Refused line rule) = (bytes : List ℕ) × IsLoaded words told file bytes
Judged words told before now file Memory = file_of_words words ≡ Some file
Judged words told before now file (Stopped stop) = (bytes : List ℕ) × IsLoaded words told file bytes

-- a report is there exactly where the program was run, and keeps the stop
abbrev pub IsReported : Answer → Option Report → Type 0
IsReported (Stopped stop) (Some r) = r.stop ≡ stop
IsReported (Stopped stop) None = ⊥
IsReported Usage report = report ≡ None
IsReported Missing report = report ≡ None
IsReported TooLong report = report ≡ None
IsReported LoadFault report = report ≡ None
IsReported (Refused line rule) report = report ≡ None
IsReported Memory report = report ≡ None

abbrev pub IsNameIn : Report → Stop → List ℕ → Type 0
IsNameIn r (Uncaught thread class) name = name ≡ utf8_of (class_name r.code class)
IsNameIn r Ended name = Unit {0}
IsNameIn r HeapLimit name = Unit {0}
IsNameIn r TurnLimit name = Unit {0}
IsNameIn r WriteFault name = Unit {0}
IsNameIn r NoMemory name = Unit {0}

-- the name is that of the class that was thrown, if one was
abbrev pub IsNameOf : Option Report → List ℕ → Type 0
IsNameOf None name = Unit {0}
IsNameOf (Some r) name = IsNameIn r r.stop name

-- Usage comes exactly where the words are no command, a file's answer exactly where it isn't there or is too long, and a
-- read fault only of a file that is neither, and where the folder's count rose. The status and the line in err are the answer's. The folder keeps its files.
pub record WordsAndFiles (call : Call) (said : Answer) (file name : List ℕ) : Type 0 where
  pub judged : Judged call.words call.files call.folder_before call.folder_now file said
  pub reported : IsReported said call.report
  pub named : IsNameOf call.report name
  pub told : Tells (line_of said file name) (status_of said) call.status call.err_old call.err_new call.err_before call.err_now
  pub kept : call.files_after ≡ call.files

-- LEAST REFUSAL

-- A refusal comes exactly where the bytes break a rule, with the least line and the least rule there; a run comes exactly
-- where they are a program.
abbrev pub LeastRefusal : List (List ℕ) → Option Files → List ℕ → Answer → Type 0
LeastRefusal words told file Usage = Unit {0}
LeastRefusal words told file Missing = Unit {0}
LeastRefusal words told file TooLong = Unit {0}
LeastRefusal words told file LoadFault = Unit {0}
LeastRefusal words told file (Refused line rule) = (bytes : List ℕ) × IsLoaded words told file bytes × LeastBroken bytes line rule
LeastRefusal words told file Memory = Unit {0}
LeastRefusal words told file (Stopped stop) = (bytes : List ℕ) × (t : Tree) × IsLoaded words told file bytes × IsProgram bytes t

-- THE RUNS BEHIND A REPORT

-- The program, the run of the program under the journal's schedule, and the run of the code under the journal.
pub record Runs (call : Call) (file : List ℕ) : Type 0 where
  pub bytes : List ℕ
  pub tree : Tree
  pub loaded : IsLoaded call.words call.files file bytes
  pub program : IsProgram bytes tree
  pub source : World SourceThread Store
  pub machine : World CodeThread Store
  pub thread : Thread CodeThread  -- thread 0 after its last entry
  pub steps : ℕ  -- the silent instructions that it has done since

abbrev pub RunsOf : Call → List ℕ → Option Report → Type 0
RunsOf call file None = Unit {0}
RunsOf call file (Some r) = Runs call file

-- CONSOLE LINES

-- The kept schedule is legal and out has gained the console text; without a report nothing was written.
abbrev pub ConsoleLines : (call : Call) (file : List ℕ) (report : Option Report) → RunsOf call file report → Type 0
ConsoleLines call file None runs = Keeps call.out_old call.out_new
ConsoleLines call file (Some r) runs = ShowsRun call.input call.out_old call.out_new runs.tree r runs.source

-- STOP STANDS

-- The stop stands in the run of the program, and in that of the code.
abbrev pub StopStands : (call : Call) (file : List ℕ) (report : Option Report) → RunsOf call file report → Type 0
StopStands call file None runs = Unit {0}
StopStands call file (Some r) runs = StopStandsIn runs.tree r runs.source r.stop × StopStandsInCode r runs.machine runs.thread runs.steps

-- THE CODE DID IT

-- The code stands for the program, its run is as the report says, and the input has left what that run has left.
abbrev pub CodeDidIt : (call : Call) (file : List ℕ) (report : Option Report) → RunsOf call file report → Type 0
CodeDidIt call file None runs = Unit {0}
CodeDidIt call file (Some r) runs = CodeRan call.input runs.tree r runs.source runs.machine runs.thread runs.steps × MayBe call.input_after runs.machine.store.input

-- NUMBERS

abbrev pub Numbers : (call : Call) (file : List ℕ) (report : Option Report) → RunsOf call file report → Type 0
Numbers call file None runs = Unit {0}
Numbers call file (Some r) runs = Counts r (widest runs.program.parsed.read.lines) runs.source

-- SCHEDULE

abbrev pub Schedule : Option Report → Type 0
Schedule None = Unit {0}
Schedule (Some r) = AreMains r.journal

-- CUT SHORT

-- the code's thread asks a write next
abbrev pub AsksIt : (call : Call) (file : List ℕ) (report : Option Report) → RunsOf call file report → Type 0
AsksIt call file None runs = ⊥
AsksIt call file (Some r) runs = AsksWriting r runs.machine

-- A read fault comes only where the folder's count rose, a write fault of the run only where that of out rose and the code
-- asks a write next, and status 9 beside it only where that of err rose.
pub record CutShort (call : Call) (file : List ℕ) (said : Answer) (runs : RunsOf call file call.report) : Type 0 where
  pub read : said ≡ LoadFault → Rose call.folder_before call.folder_now
  pub write : said ≡ Stopped WriteFault → Rose call.out_before call.out_now × AsksIt call file call.report runs
  pub told : call.status ≡ Write → (said ≡ Stopped WriteFault) ⊎ Rose call.err_before call.err_now
  pub later : (call.folder_before ≤ call.folder_now) × (call.out_before ≤ call.out_now) × (call.err_before ≤ call.err_now)

-- COMPLETE

-- how a run of a program comes out where nothing fails
abbrev pub IsProper : Answer → Type 0
IsProper (Stopped WriteFault) = ⊥
IsProper (Stopped Ended) = Unit {0}
IsProper (Stopped (Uncaught thread class)) = Unit {0}
IsProper (Stopped HeapLimit) = Unit {0}
IsProper (Stopped TurnLimit) = Unit {0}
IsProper (Stopped NoMemory) = Unit {0}
IsProper Memory = Unit {0}
IsProper Usage = ⊥
IsProper Missing = ⊥
IsProper TooLong = ⊥
IsProper LoadFault = ⊥
IsProper (Refused line rule) = ⊥

-- Known words, a file that is there and not too long, no broken rule and no rise of any count.
pub record IsWell (call : Call) (files : Files) (file bytes : List ℕ) (t : Tree) : Type 0 where
  pub words : file_of_words call.words ≡ Some file
  pub told : call.files ≡ Some files
  pub found : file_of files file ≡ Some bytes
  pub short : length bytes ≤ longest_file
  pub program : IsProgram bytes t
  pub folder : Rose call.folder_before call.folder_now → ⊥
  pub out : Rose call.out_before call.out_now → ⊥
  pub err : Rose call.err_before call.err_now → ⊥

-- then the status is that of a run that has ended, has thrown or has come to a limit, or tells want of memory
abbrev pub Complete : Call → Answer → Type 0
Complete call said = (files : Files) (file bytes : List ℕ) (t : Tree) → IsWell call files file bytes t → IsProper said × (call.status ≡ status_of said)

-- BEFORE IT IS TOLD

-- The outcome of a run: the report, which may tell want of memory in the place of its stop, and the name of a class that was
-- thrown.
pub record TellsRun (from : Report) (said : Answer) (report : Option Report) (name : List ℕ) : Type 0 where
  pub kept : Report
  pub report_is : report ≡ Some kept
  pub said_is : said ≡ Stopped kept.stop
  pub named : IsNameIn kept kept.stop name
  pub ran : (t : Tree) (input : List ℕ) (old new : Option (List ℕ)) (before now : ℕ) → RanProgram t from input old new before now → RanProgram t kept input old new before now

-- what the bytes of a file came to
abbrev pub Built : List ℕ → List ℕ → Option (List ℕ) → Option (List ℕ) → ℕ → ℕ → Answer → Option Report → List ℕ → Type 0
Built bytes input old new before now (Refused line rule) None name = LeastBroken bytes line rule × Keeps old new
Built bytes input old new before now Memory None name = Keeps old new
Built bytes input old new before now (Stopped stop) (Some r) name = (r.stop ≡ stop) × IsNameIn r r.stop name × (t : Tree) × IsProgram bytes t × RanProgram t r input old new before now
Built bytes input old new before now said report name = ⊥

-- a report keeps a run of a program that was loaded; without one nothing was written
abbrev pub RanBy : List (List ℕ) → Option Files → List ℕ → List ℕ → Option (List ℕ) → Option (List ℕ) → ℕ → ℕ → Option Report → Type 0
RanBy words told file input old new before now None = Keeps old new
RanBy words told file input old new before now (Some r) = (bytes : List ℕ) × (t : Tree) × IsLoaded words told file bytes × IsProgram bytes t × RanProgram t r input old new before now

-- What the call did before it told it.
pub record Works (words : List (List ℕ)) (told : Option Files) (file : List ℕ) (folder_before folder_now : ℕ) (input : List ℕ) (old new : Option (List ℕ)) (before now : ℕ) (said : Answer) (report : Option Report) (name : List ℕ) : Type 0 where
  pub judged : Judged words told folder_before folder_now file said
  pub reported : IsReported said report
  pub named : IsNameOf report name
  pub least : LeastRefusal words told file said
  pub ran : RanBy words told file input old new before now report

-- the same of the objects, by what they tell
abbrev pub WorksOn : {F O : Type 0} → (F → Option Files) → (F → ℕ) → (O → Option (List ℕ)) → (O → ℕ) → List ℕ → F → F → O → O → Outcome → Type 0
WorksOn holds fails written faults file folder folder_after out out_after done =
    (words : List (List ℕ)) → file_of_words words ≡ Some file → (input : List ℕ)
    → Works words (holds folder) file (fails folder) (fails folder_after) input (written out) (written out_after) (faults out) (faults out_after) done.said done.report (string_bytes done.name)

abbrev pub BuiltOn : {O : Type 0} → (O → Option (List ℕ)) → (O → ℕ) → List ℕ → O → O → Outcome → Type 0
BuiltOn written faults bytes out out_after done =
    (input : List ℕ) → Built bytes input (written out) (written out_after) (faults out) (faults out_after) done.said done.report (string_bytes done.name)

abbrev pub ToldOn : {E : Type 0} → (E → Option (List ℕ)) → (E → ℕ) → List ℕ → Outcome → Status → E → E → Type 0
ToldOn written faults file done status err err_after =
    Tells (line_of done.said file (string_bytes done.name)) (status_of done.said) status (written err) (written err_after) (faults err) (faults err_after)

-- THE WHOLE CALL

-- said is what the call has come to, about file; name is the full name of a class that was thrown.
pub record Headline (call : Call) : Type 0 where
  pub said : Answer
  pub file : List ℕ
  pub name : List ℕ
  pub runs : RunsOf call file call.report
  pub words_and_files : WordsAndFiles call said file name
  pub least_refusal : LeastRefusal call.words call.files file said
  pub console_lines : ConsoleLines call file call.report runs
  pub stop_stands : StopStands call file call.report runs
  pub code_did_it : CodeDidIt call file call.report runs
  pub numbers : Numbers call file call.report runs
  pub schedule : Schedule call.report
  pub cut_short : CutShort call file said runs
  pub complete : Complete call said

-- the same of the objects, by what they tell, for each input that the source may hold
abbrev pub HeadlineOn : {F I O E : Type 0} → (F → Option Files) → (F → ℕ) → (I → Option (List ℕ)) → (O → Option (List ℕ)) → (O → ℕ) → (E → Option (List ℕ)) → (E → ℕ) → List (String Global) → F → F → I → O → E → Finished I O E → Type 0
HeadlineOn holds fails left written faults err_written err_faults words folder folder_after input out err done =
    (bytes : List ℕ) → MayBe (left input) bytes
    → Headline (call_of (map (λ w. string_bytes w) words) (holds folder) (holds folder_after) (fails folder) (fails folder_after) bytes (left done.input) (written out) (written done.out) (faults out) (faults done.out) (err_written err) (err_written done.err) (err_faults err) (err_faults done.err) done.status done.report)
