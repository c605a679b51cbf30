-- What a report promises of the run that it keeps.
use Rattle.std.specs.Prelude.{◌≡◌, ℕ, ◌+◌, ◌*◌, ◌<◌, ◌≤◌, ◌++◌, List, [], ◌∷◌, map, sum, length, Option}
use Rattle.std.specs.Io.KnownBytes.{Appends}
use Rattle.vb_io.specs.Causes.{Rose}
use Rattle.vb_text.specs.Units.{utf8_of}
use Rattle.vb_threads.specs.{Machine.{AsksWrite, quiet, begun, taken}, World.{Thread, World, Run as Legal, opening}, Stands.StandsFor, Schedule.{Scheduled, schedule_of, AreTails, Shows, ShowsNow, Ended as AllHaveEnded, Uncaught as HasThrown, HeapLimit as NoHeap, Stands}}
use Rattle.vb_value.specs.{Store.Store, declared.stop.{Limits.Limits, Stop.{Stop, TheVariants.{Ended, Uncaught, HeapLimit, TurnLimit, WriteFault, Memory}}}}
use Rattle.vb_code.specs.{Code.{Code, class_name}, Machine.{CodeThread, code_next, code_machine}, Shapes.IsChecked}
use Rattle.vb_bound.specs.Tree.{Tree}
use Rattle.vb_meaning.specs.Source.{SourceThread, source_machine}
use Rattle.vb_turns.specs.{declared.alone.Run.Run, Ran.{entry_of, AreMains, StandsBy}}
use Rattle.vb_top.specs.declared.outcome.Report.{Report}

abbrev pub report_with : Code → Run → Stop → Report
report_with code run stop = record { code = code; journal = run.journal; tails = run.tails; turns = run.turns; begun = run.begun; threads = run.threads; units = run.units; stop = stop }

-- the most turns and the most heap units
abbrev pub turn_limit : ℕ
turn_limit = 10000000

abbrev pub heap_limit : ℕ
heap_limit = 4194304

-- the limits of a run for which the words give none
abbrev pub limits : Limits
limits = record { turns = turn_limit; heap = heap_limit }

-- what out has gained: the console text of the run, and at a write fault a proper front of the next text beside
abbrev pub Gains : Tree → World SourceThread Store → List ℕ → List ℕ → Stop → (List ℕ → Type 0) → Type 0
Gains t w tails console Ended Gained = Gained console
Gains t w tails console (Uncaught thread class) Gained = Gained console
Gains t w tails console HeapLimit Gained = Gained console
Gains t w tails console TurnLimit Gained = Gained console
Gains t w tails console Memory Gained = Gained console
Gains t w tails console WriteFault Gained = (text : List ℕ) × (front : List ℕ) × (back : List ℕ) × Shows (source_machine t) w tails 0 (AsksWrite text) × (utf8_of text ≡ front ++ back) × (0 < length back) × Gained (console ++ front)

-- The journal's schedule and its tails are legal for the program, and out, which held old, has gained exactly the console
-- text of that run.
pub record ShowsRun (input : List ℕ) (old new : Option (List ℕ)) (t : Tree) (r : Report) (w : World SourceThread Store) : Type 0 where
  pub legal : Scheduled (source_machine t) (opening (source_machine t) input heap_limit) (schedule_of (map entry_of r.journal)) w
  pub tails : AreTails (source_machine t) w r.tails
  pub gains : Gains t w r.tails w.store.console r.stop (λ text. Appends old new text)

-- the stop stands in the run of the program
abbrev pub StopStandsIn : Tree → Report → World SourceThread Store → Stop → Type 0
StopStandsIn t r w Ended = Stands (source_machine t) w r.tails heap_limit AllHaveEnded
StopStandsIn t r w (Uncaught thread class) = Stands (source_machine t) w r.tails heap_limit (HasThrown thread (class_name r.code class))
StopStandsIn t r w HeapLimit = Stands (source_machine t) w r.tails heap_limit NoHeap
StopStandsIn t r w TurnLimit = (r.turns ≡ turn_limit) × (Stands (source_machine t) w r.tails heap_limit AllHaveEnded → ⊥)
StopStandsIn t r w WriteFault = Unit {0}
StopStandsIn t r w Memory = Unit {0}

-- the stop stands in the run of the code, where thread 0 is; at the turn limit no other stop stands there
abbrev pub StopStandsInCode : Report → World CodeThread Store → Thread CodeThread → ℕ → Type 0
StopStandsInCode r machine thread steps = StandsBy r.code machine.store (quiet (code_next r.code) steps thread.state) r.turns limits r.stop

-- The code is checked and stands for the program, the journal is legal for it, and its run has the same console text and has
-- read nothing. The turns are those up to the last entry and the silent ones since, with which the tails' statements have begun.
pub record CodeRan (input : List ℕ) (t : Tree) (r : Report) (source : World SourceThread Store) (machine : World CodeThread Store) (thread : Thread CodeThread) (steps : ℕ) : Type 0 where
  pub checked : IsChecked r.code
  pub stands : StandsFor (code_machine r.code) (source_machine t)
  pub legal : Legal (code_machine r.code) (opening (code_machine r.code) input heap_limit) (map entry_of r.journal) machine
  pub same_text : machine.store.console ≡ source.store.console
  pub input_left : machine.store.input ≡ input
  pub one : machine.threads ≡ thread ∷ []
  pub paid : r.turns ≡ machine.paid + taken (code_next r.code) steps thread.state
  pub tails : r.tails ≡ (thread.since + begun (code_next r.code) steps thread.state) ∷ []

-- The turns are within their limit, and at most 256 for each token of the widest line and each beginning. The other numbers
-- are those of the run.
pub record Counts (r : Report) (wide : ℕ) (w : World SourceThread Store) : Type 0 where
  pub within : r.turns ≤ turn_limit
  pub begun : r.begun ≡ w.begun + sum r.tails
  pub threads : r.threads ≡ 0
  pub units : r.units ≡ w.store.units
  pub work : r.turns ≤ 256 * wide * (r.threads + 1) * (r.begun + 1)

-- the code's thread asks a write next
abbrev pub AsksWriting : Report → World CodeThread Store → Type 0
AsksWriting r machine = (text : List ℕ) × ShowsNow (code_machine r.code) machine r.tails 0 (AsksWrite text)

-- A run of a program that a report keeps, with this input; out held old and holds new, and its count of faults went from
-- before to now.
pub record RanProgram (t : Tree) (r : Report) (input : List ℕ) (old new : Option (List ℕ)) (before now : ℕ) : Type 0 where
  pub source : World SourceThread Store
  pub machine : World CodeThread Store
  pub thread : Thread CodeThread
  pub steps : ℕ
  pub shows : ShowsRun input old new t r source
  pub stands : StopStandsIn t r source r.stop
  pub stands_in_code : StopStandsInCode r machine thread steps
  pub did : CodeRan input t r source machine thread steps
  pub counted : (wide : ℕ) → 1 ≤ wide → Counts r wide source
  pub mains : AreMains r.journal
  pub faulted : r.stop ≡ WriteFault → Rose before now × AsksWriting r machine
