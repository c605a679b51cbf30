-- The parts of the whole call.
use Rattle.std.proofs.Common.{◌≡◌, ◌⊎◌, inl, inr, ℕ, ◌<◌, ◌≤◌, Bool, true, false, List, [], ◌++◌, length, Option, Some, None, refl, sym, ap, subst, ◌∙◌, arith}
use Rattle.std.proofs.KnownBytes.{Keeps-refl}
use Rattle.vb_io.specs.{Causes.Rose, Files.{Files, file_of, OfTold, Loads}, declared.LoadErr.{LoadErr, TheVariants.Failed}}
use Rattle.std.specs.Prelude.{Err, nat_le}
use Rattle.std.proofs.lemmas.Bool.Decides.{nat_tests}
use Rattle.vb_value.specs.declared.stop.{Stop.TheVariants.{Ended, Uncaught, HeapLimit, TurnLimit, WriteFault, Memory as NoMemory}, Status.{Status, TheVariants.Write}}
use Rattle.vb_bound.specs.Tree.{Tree}
use Rattle.vb_top.specs.{declared.outcome.{Answer.{Answer, TheVariants.{Usage, Missing, TooLong, LoadFault, Refused, Memory, Stopped}}, Report.Report}, Words.file_of_words, Programs.{IsProgram, LeastBroken}, Answers.{Tells, line_of, status_of}, Reports.RanProgram, Headline.{longest_file, Call, MayBe, IsLoaded, MayBeHad, Judged, IsReported, TellsRun, Built, Works, IsProper, Headline, Complete, call_of}}
use Rattle.vb_lexer.proofs.Unique.{never_both}
use Rattle.vb_syntax.specs.declared.{tokens.Line.Line, words.ContextualWords.ContextualWords}
use Rattle.vb_bind.specs.Grammar.{widest}
use Rattle.vb_parse.specs.Rules.{BreaksLines}
use Rattle.vb_top.proofs.Compiled.{same_lines, is_wide}

pub loaded : (words : List (List ℕ)) (told : Option Files) (file got items bytes : List ℕ) → file_of_words words ≡ Some file → got ≡ [] ++ bytes → items ≡ got → length bytes ≤ longest_file → OfTold told (λ files. file_of files file ≡ Some bytes) → IsLoaded words told file items
loaded words told file got items bytes w e f len found =
    let is : bytes ≡ items = sym (f ∙ e) in
    subst (λ b. IsLoaded words told file b) is (record { words_are = w; found = found; short = len })

pub built_by : (bytes : List ℕ) (t : Tree) (from : Report) (said : Answer) (report : Option Report) (name : List ℕ) → IsProgram bytes t → TellsRun from said report name → (input : List ℕ) (old new : Option (List ℕ)) (before now : ℕ) → RanProgram t from input old new before now → Built bytes input old new before now said report name
built_by bytes t from said report name p tells input old new before now ran =
    subst (λ o. Built bytes input old new before now said o name) (sym tells.report_is) (subst (λ a. Built bytes input old new before now a (Some tells.kept) name) (sym tells.said_is) (refl, tells.named, t, p, tells.ran t input old new before now ran))

pub refused_built : (bytes input : List ℕ) (old : Option (List ℕ)) (before : ℕ) (said : Answer) (line rule : ℕ) (report : Option Report) (name : List ℕ) → LeastBroken bytes line rule → (said ≡ Refused line rule) ⊎ (said ≡ Memory) → report ≡ None → Built bytes input old old before before said report name
refused_built bytes input old before said line rule report name broken (inl e) k =
    subst (λ o. Built bytes input old old before before said o name) (sym k) (subst (λ a. Built bytes input old old before before a None name) (sym e) (broken, Keeps-refl old))
refused_built bytes input old before said line rule report name broken (inr e) k =
    subst (λ o. Built bytes input old old before before said o name) (sym k) (subst (λ a. Built bytes input old old before before a None name) (sym e) (Keeps-refl old))

-- a program breaks no rule
sound_program : (bytes : List ℕ) (t : Tree) (line rule : ℕ) → IsProgram bytes t → LeastBroken bytes line rule → ⊥
sound_program bytes t line rule p (inl breaks) = never_both p.parsed.read.names 0 bytes p.parsed.read.lines line rule p.parsed.read.lexed.lexed breaks.0.1
sound_program bytes t line rule p (inr (inl (read, least))) =
    let same = same_lines bytes read p.parsed.read in
    let here : BreaksLines read.words p.parsed.read.lines line rule = subst (λ (ls : List Line). BreaksLines read.words ls line rule) same.0 least.0.1 in
    p.parsed.sound line rule (subst (λ (w : ContextualWords). BreaksLines w p.parsed.read.lines line rule) same.2 here)
sound_program bytes t line rule p (inr (inr unbuilt)) = unbuilt.2 t p

pub works_of : (words : List (List ℕ)) (told : Option Files) (file bytes : List ℕ) (fb fn : ℕ) (input : List ℕ) (old new : Option (List ℕ)) (b n : ℕ) (said : Answer) (report : Option Report) (name : List ℕ) → IsLoaded words told file bytes → Built bytes input old new b n said report name → Works words told file fb fn input old new b n said report name
works_of words told file bytes fb fn input old new b n (Refused line rule) None name is h = record { judged = (bytes, is); reported = refl; named = tt; least = (bytes, is, h.0); ran = h.1 }
works_of words told file bytes fb fn input old new b n Memory None name is h = record { judged = is.words_are; reported = refl; named = tt; least = tt; ran = h }
works_of words told file bytes fb fn input old new b n (Stopped stop) (Some r) name is h = record { judged = (bytes, is); reported = h.0; named = h.1; least = (bytes, h.2, is, h.3); ran = (bytes, h.2, is, h.3, h.4) }
works_of words told file bytes fb fn input old new b n Usage None name is h = absurd h
works_of words told file bytes fb fn input old new b n Missing None name is h = absurd h
works_of words told file bytes fb fn input old new b n TooLong None name is h = absurd h
works_of words told file bytes fb fn input old new b n LoadFault None name is h = absurd h
works_of words told file bytes fb fn input old new b n (Stopped stop) None name is h = absurd h
works_of words told file bytes fb fn input old new b n Usage (Some r) name is h = absurd h
works_of words told file bytes fb fn input old new b n Missing (Some r) name is h = absurd h
works_of words told file bytes fb fn input old new b n TooLong (Some r) name is h = absurd h
works_of words told file bytes fb fn input old new b n LoadFault (Some r) name is h = absurd h
works_of words told file bytes fb fn input old new b n (Refused line rule) (Some r) name is h = absurd h
works_of words told file bytes fb fn input old new b n Memory (Some r) name is h = absurd h

pub usage_works : (words : List (List ℕ)) (told : Option Files) (fb : ℕ) (input : List ℕ) (old : Option (List ℕ)) (b : ℕ) (name : List ℕ) → file_of_words words ≡ None → Works words told [] fb fb input old old b b Usage None name
usage_works words told fb input old b name e = record { judged = e; reported = refl; named = tt; least = tt; ran = Keeps-refl old }

-- without a fault no more than this comes of a well-formed call
not_both : (words : List (List ℕ)) (file : List ℕ) → file_of_words words ≡ Some file → file_of_words words ≡ None → ⊥
not_both words file a b = let no : Some file ≡ None = sym a ∙ b in absurd (cc)

same_file : (words : List (List ℕ)) (file other : List ℕ) → file_of_words words ≡ Some file → file_of_words words ≡ Some other → file ≡ other
same_file words file other a b = let same : Some file ≡ Some other = sym a ∙ b in cc

same_bytes : (files : Files) (file bytes other : List ℕ) → file_of files file ≡ Some bytes → file_of files file ≡ Some other → bytes ≡ other
same_bytes files file bytes other a b = let same : Some bytes ≡ Some other = sym a ∙ b in cc

-- only a write fault of the run has status 9
write_status : (said : Answer) → status_of said ≡ Write → said ≡ Stopped WriteFault
write_status Usage e = absurd (cc)
write_status Missing e = absurd (cc)
write_status TooLong e = absurd (cc)
write_status LoadFault e = absurd (cc)
write_status (Refused line rule) e = absurd (cc)
write_status Memory e = absurd (cc)
write_status (Stopped Ended) e = absurd (cc)
write_status (Stopped (Uncaught thread class)) e = absurd (cc)
write_status (Stopped HeapLimit) e = absurd (cc)
write_status (Stopped TurnLimit) e = absurd (cc)
write_status (Stopped WriteFault) e = refl
write_status (Stopped NoMemory) e = absurd (cc)

nine : (said : Answer) (line : List ℕ) (status : Status) (old new : Option (List ℕ)) (before now : ℕ) → Tells line (status_of said) status old new before now → status ≡ Write → (said ≡ Stopped WriteFault) ⊎ Rose before now
nine said line status old new before now (inl h) e = inl (write_status said (sym h.0 ∙ e))
nine said line status old new before now (inr h) e = inr h.2

status_is : (said : Answer) (line : List ℕ) (status : Status) (old new : Option (List ℕ)) (before now : ℕ) → Tells line (status_of said) status old new before now → (Rose before now → ⊥) → status ≡ status_of said
status_is said line status old new before now (inl h) never = h.0
status_is said line status old new before now (inr h) never = absurd (never h.2)

module _ (words : List (List ℕ)) (told : Option Files) (file : List ℕ) (fb fn : ℕ) (input : List ℕ) (old new : Option (List ℕ)) (b n : ℕ) (name : List ℕ) where
  -- a write fault of the run has a report, and the count of out rose
  fault_rose : (report : Option Report) → Works words told file fb fn input old new b n (Stopped WriteFault) report name → Rose b n
  fault_rose None works = absurd works.reported
  fault_rose (Some r) works = (works.ran.4.faulted works.reported).0

  proper : (said : Answer) (report : Option Report) → Works words told file fb fn input old new b n said report name → (files : Files) (other bytes : List ℕ) (t : Tree) → file_of_words words ≡ Some other → told ≡ Some files → file_of files other ≡ Some bytes → length bytes ≤ longest_file → IsProgram bytes t → (Rose fb fn → ⊥) → (Rose b n → ⊥) → IsProper said
  proper Usage report works files other bytes t w k found short p folder out = absurd (not_both words other w works.judged)
  proper Missing report works files other bytes t w k found short p folder out =
      let j = works.judged in
      let same = same_file words file other j.0 w in
      let none : file_of files file ≡ None = j.1 files k in
      let no : Some bytes ≡ None = sym found ∙ ap (λ f. file_of files f) (sym same) ∙ none in
      absurd (cc)
  proper TooLong report works files other bytes t w k found short p folder out =
      let j = works.judged in
      let same = same_file words file other j.0 w in
      let long = j.1 files k in
      let equal : bytes ≡ long.0 = same_bytes files file bytes long.0 (ap (λ f. file_of files f) same ∙ found) long.1 in
      let len : length bytes ≡ length long.0 = ap length equal in
      let over = long.2 in
      absurd (omega arith)
  proper LoadFault report works files other bytes t w k found short p folder out = absurd (folder works.judged.1)
  proper (Refused line rule) report works files other bytes t w k found short p folder out =
      let l = works.least in
      let same = same_file words file other l.1.words_are w in
      let equal : bytes ≡ l.0 = same_bytes files file bytes l.0 (ap (λ f. file_of files f) same ∙ found) (l.1.found files k) in
      absurd (sound_program l.0 t line rule (subst (λ x. IsProgram x t) equal p) l.2)
  proper Memory report works files other bytes t w k found short p folder out = tt
  proper (Stopped Ended) report works files other bytes t w k found short p folder out = tt
  proper (Stopped (Uncaught thread class)) report works files other bytes t w k found short p folder out = tt
  proper (Stopped HeapLimit) report works files other bytes t w k found short p folder out = tt
  proper (Stopped TurnLimit) report works files other bytes t w k found short p folder out = tt
  proper (Stopped NoMemory) report works files other bytes t w k found short p folder out = tt
  proper (Stopped WriteFault) report works files other bytes t w k found short p folder out = absurd (out (fault_rose report works))

  module _ (told_after : Option Files) (input_after : Option (List ℕ)) (eo en : Option (List ℕ)) (eb ef : ℕ) (status : Status) (said : Answer) (kept : told_after ≡ told) (left : MayBe input_after input) (folder_later : fb ≤ fn) (out_later : b ≤ n) (err_later : eb ≤ ef) (tells : Tells (line_of said file name) (status_of said) status eo en eb ef) where
    abbrev call : Option Report → Call
    call report = call_of words told told_after fb fn input input_after old new b n eo en eb ef status report

    read_rose : (report : Option Report) → Works words told file fb fn input old new b n said report name → said ≡ LoadFault → Rose fb fn
    read_rose report works e = (subst (λ a. Judged words told fb fn file a) e works.judged).1

    completes : (report : Option Report) → Works words told file fb fn input old new b n said report name → Complete (call report) said
    completes report works files other bytes t well =
        (proper said report works files other bytes t well.words well.told well.found well.short well.program well.folder well.out, status_is said (line_of said file name) status eo en eb ef tells well.err)

    pub whole : (report : Option Report) → Works words told file fb fn input old new b n said report name → Headline (call report)
    whole None works = record {
      said = said;
      file = file;
      name = name;
      runs = tt;
      words_and_files = record { judged = works.judged; reported = works.reported; named = works.named; told = tells; kept = kept };
      least_refusal = works.least;
      console_lines = works.ran;
      stop_stands = tt;
      code_did_it = tt;
      numbers = tt;
      schedule = tt;
      cut_short = record { read = read_rose None works; write = λ e. absurd (subst (λ a. IsReported a None) e works.reported); told = nine said (line_of said file name) status eo en eb ef tells; later = (folder_later, out_later, err_later) };
      complete = completes None works;
    }
    whole (Some r) works =
        let ran = works.ran in
        let x = ran.4 in
        record {
          said = said;
          file = file;
          name = name;
          runs = record { bytes = ran.0; tree = ran.1; loaded = ran.2; program = ran.3; source = x.source; machine = x.machine; thread = x.thread; steps = x.steps };
          words_and_files = record { judged = works.judged; reported = works.reported; named = works.named; told = tells; kept = kept };
          least_refusal = works.least;
          console_lines = x.shows;
          stop_stands = (x.stands, x.stands_in_code);
          code_did_it = (x.did, subst (λ i. MayBe input_after i) (sym x.did.input_left) left);
          numbers = x.counted (widest ran.3.parsed.read.lines) (is_wide ran.0 ran.1 ran.3);
          schedule = x.mains;
          cut_short = record { read = read_rose (Some r) works; write = λ e. x.faulted (subst (λ a. IsReported a (Some r)) e works.reported); told = nine said (line_of said file name) status eo en eb ef tells; later = (folder_later, out_later, err_later) };
          complete = completes (Some r) works;
        }

-- the same of the objects that are handed back
pub finished : {I O : Type 0} (left : I → Option (List ℕ)) (written : O → Option (List ℕ)) (faults : O → ℕ) (words : List (List ℕ)) (told told_after : Option Files) (file : List ℕ) (fb fn : ℕ) (bytes : List ℕ) (input input_after : I) (old new out : O) (eo en : Option (List ℕ)) (eb ef : ℕ) (status : Status) (said : Answer) (report kept : Option Report) (name : List ℕ) → Works words told file fb fn bytes (written old) (written new) (faults old) (faults new) said report name → told_after ≡ told → MayBe (left input) bytes → input_after ≡ input → out ≡ new → kept ≡ report → fb ≤ fn → faults old ≤ faults new → eb ≤ ef → Tells (line_of said file name) (status_of said) status eo en eb ef → Headline (call_of words told told_after fb fn bytes (left input_after) (written old) (written out) (faults old) (faults out) eo en eb ef status kept)
finished left written faults words told told_after file fb fn bytes input input_after old new out eo en eb ef status said report kept name works same may input_is out_is report_is folder_later out_later err_later tells =
    subst (λ i. Headline (call_of words told told_after fb fn bytes (left i) (written old) (written out) (faults old) (faults out) eo en eb ef status kept)) (sym input_is)
    (subst (λ o. Headline (call_of words told told_after fb fn bytes (left input) (written old) (written o) (faults old) (faults o) eo en eb ef status kept)) (sym out_is)
    (subst (λ r. Headline (call_of words told told_after fb fn bytes (left input) (written old) (written new) (faults old) (faults new) eo en eb ef status r)) (sym report_is)
    (whole words told file fb fn bytes (written old) (written new) (faults old) (faults new) name told_after (left input) eo en eb ef status said same may folder_later out_later err_later tells report works)))

pub same_count : (n : ℕ) → n ≤ n
same_count n = omega arith

-- a load that has failed is that of a file that can be had
pub could_be_had : (told : Option Files) (file : List ℕ) (before now : ℕ) (reason : LoadErr) (old new : List ℕ) → reason ≡ Failed → Loads told file longest_file before now (Err reason) old new → OfTold told (λ files. MayBeHad files file)
could_be_had told file before now reason old new e loads = with_failed (subst (λ r. Loads told file longest_file before now (Err r) old new) e loads)
  where
    with_failed : Loads told file longest_file before now (Err Failed) old new → OfTold told (λ files. MayBeHad files file)
    with_failed l = λ files k. by_file l files k (file_of files file) refl
      where
        by_length : Loads told file longest_file before now (Err Failed) old new → (files : Files) → told ≡ Some files → (bytes : List ℕ) → file_of files file ≡ Some bytes → (b : Bool) → nat_le (length bytes) longest_file ≡ b → MayBeHad files file
        by_length l files k bytes f true t = let le : length bytes ≤ longest_file = grind (arith, nat_tests, t) in (bytes, f, le)
        by_length l files k bytes f false t = let lt : longest_file < length bytes = grind (arith, nat_tests, t) in let no = l.longer files k bytes f lt in absurd (cc)

        by_file : Loads told file longest_file before now (Err Failed) old new → (files : Files) → told ≡ Some files → (o : Option (List ℕ)) → file_of files file ≡ o → MayBeHad files file
        by_file l files k None f = let no = l.absent files k f in absurd (cc)
        by_file l files k (Some bytes) f = by_length l files k bytes f (nat_le (length bytes) longest_file) refl

pub failed_works : (words : List (List ℕ)) (told : Option Files) (file : List ℕ) (fb fn : ℕ) (input : List ℕ) (old : Option (List ℕ)) (b : ℕ) (said : Answer) (report : Option Report) (name : List ℕ) → file_of_words words ≡ Some file → Rose fb fn → OfTold told (λ files. MayBeHad files file) → said ≡ LoadFault → report ≡ None → Works words told file fb fn input old old b b said report name
failed_works words told file fb fn input old b said report name w rose had e k =
    subst (λ o. Works words told file fb fn input old old b b said o name) (sym k) (subst (λ a. Works words told file fb fn input old old b b a None name) (sym e) (record { judged = (w, rose, had); reported = refl; named = tt; least = tt; ran = Keeps-refl old }))
