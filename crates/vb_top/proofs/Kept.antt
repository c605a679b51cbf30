-- What the run of a program's code says of the program: the parts of a report's promise.
use Rattle.std.proofs.Common.{◌≡◌, ℕ, ◌+◌, ◌*◌, ◌≤◌, List, [], ◌∷◌, ◌++◌, map, length, Option, Some, refl, sym, ap, subst, ◌∙◌, arith}
use Rattle.std.specs.Prelude.{sum}
use Rattle.std.specs.Io.KnownBytes.{Appends}
use Rattle.std.proofs.Math.Nat.{mul-le-mul_left}
use Rattle.vb_io.specs.Causes.{Rose}
use Rattle.vb_threads.specs.{Machine.{View, AsksNew, AsksWrite, HasThrown as Threw, begun}, World.{World, Entry, Run as Legal, opening, at}, Stands.StandsFor, Schedule.{Told, AllEnded, Ended as AllHaveEnded, Uncaught as HasThrown, HeapLimit as NoHeap}, Work.IsWithin}
use Rattle.vb_threads.proofs.Schedules.{told_by_schedule}
use Rattle.vb_value.specs.{Store.{Places, Store, Ask, New, Write, End, seen, after}, declared.stop.Stop.{Stop, TheVariants.{Ended, Uncaught, HeapLimit, TurnLimit, WriteFault, Memory}}}
use Rattle.vb_code.specs.{Code.{Code, class_name}, Machine.{CodeThread, code_next, code_machine}, Shapes.IsChecked}
use Rattle.vb_bound.specs.Tree.{Tree}
use Rattle.vb_meaning.specs.Source.{source_machine}
use Rattle.vb_meaning.proofs.Commits.{each_commits}
use Rattle.vb_turns.specs.{declared.alone.Run.Run, Ran.{entry_of, Ran}}
use Rattle.vb_turns.proofs.Finishes.{shows_now}
use Rattle.vb_top.specs.Reports.{report_with, heap_limit, limits, Gains, StopStandsIn, AsksWriting, RanProgram}

-- no ask takes input
after_input : (w : Store) (t : ℕ) (a : Ask) → (after w t a).input ≡ w.input
after_input w t (New class units) = refl
after_input w t (Write text) = refl
after_input w t End = refl

run_input : (c : Code) (journal : List Entry) (w v : World CodeThread Store) → Legal (code_machine c) w journal v → v.store.input ≡ w.store.input
run_input c [] w v r = ap (λ (x : World CodeThread Store). x.store.input) r
run_input c (e ∷ journal) w v r =
    let d = r.1 in
    run_input c journal r.0 v r.2 ∙ ap (λ (x : World CodeThread Store). x.store.input) d.leads ∙ after_input w.store e.thread d.ask

module _ (t : Tree) (code : Code) (run : Run) (input : List ℕ) (old new : Option (List ℕ)) (before now : ℕ) (stands_for : StandsFor (code_machine code) (source_machine t)) where
  module _ (stop : Stop) (ran : Ran code limits run stop input old new before now) where
    pub told : Told (code_machine code) (source_machine t) input heap_limit (map entry_of run.journal) ran.world run.tails
    told = told_by_schedule (code_machine code) (source_machine t) (each_commits t) stands_for input heap_limit (map entry_of run.journal) ran.world run.tails ran.legal ran.reaches

    consoles : ran.world.store.console ≡ told.world.store.console
    consoles = ap (λ (v : View Places). v.console) told.looks

    pub same_units : run.units ≡ told.world.store.units
    same_units = ran.units ∙ ap (λ (v : View Places). v.units) told.looks

  gains : (stop : Stop) (ran : Ran code limits run stop input old new before now) → Gains t (told stop ran).world run.tails (told stop ran).world.store.console stop (λ text. Appends old new text)
  gains Ended ran = subst (λ x. Appends old new x) (consoles Ended ran) ran.shows
  gains (Uncaught thread class) ran = subst (λ x. Appends old new x) (consoles (Uncaught thread class) ran) ran.shows
  gains HeapLimit ran = subst (λ x. Appends old new x) (consoles HeapLimit ran) ran.shows
  gains TurnLimit ran = subst (λ x. Appends old new x) (consoles TurnLimit ran) ran.shows
  gains Memory ran = subst (λ x. Appends old new x) (consoles Memory ran) ran.shows
  gains WriteFault ran =
      let s = ran.shows in
      (s.0, s.1, s.2, (told WriteFault ran).shows 0 (AsksWrite s.0) (shows_now code limits run WriteFault input old new before now ran 0 (AsksWrite s.0) s.3), s.4, s.5, subst (λ x. Appends old new (x ++ s.1)) (consoles WriteFault ran) s.6)

  stands_in : (stop : Stop) (ran : Ran code limits run stop input old new before now) → StopStandsIn t (report_with code run stop) (told stop ran).world stop
  stands_in Ended ran = (told Ended ran).stands heap_limit AllHaveEnded (subst (λ n. AllEnded n (seen ran.world.store)) (sym (ap length ran.one)) ran.stands)
  stands_in (Uncaught thread class) ran =
      let stop = Uncaught thread class in
      (told stop ran).stands heap_limit (HasThrown thread (class_name code class)) (shows_now code limits run stop input old new before now ran thread (Threw (class_name code class)) ran.stands)
  stands_in HeapLimit ran =
      let s = ran.stands in
      (told HeapLimit ran).stands heap_limit NoHeap (record { thread = s.thread; class = s.class; units = s.units; asks = shows_now code limits run HeapLimit input old new before now ran s.thread (AsksNew s.class s.units) s.asks; over = s.over })
  stands_in TurnLimit ran =
      let x = told TurnLimit ran in
      let one : length x.world.threads ≡ 1 = sym x.as_many ∙ ap length ran.one in
      (ran.stands.0, λ all. ran.stands.1 AllHaveEnded (subst (λ (v : View Places). AllEnded 1 v) (sym x.looks) (subst (λ n. AllEnded n (seen x.world.store)) one all)))
  stands_in WriteFault ran = tt
  stands_in Memory ran = tt

  asks_it : (stop : Stop) (ran : Ran code limits run stop input old new before now) → stop ≡ WriteFault → Rose before now × AsksWriting (report_with code run stop) ran.world
  asks_it Ended ran e = cc
  asks_it (Uncaught thread class) ran e = cc
  asks_it HeapLimit ran e = cc
  asks_it TurnLimit ran e = cc
  asks_it Memory ran e = cc
  asks_it WriteFault ran e = let s = ran.shows in (s.7, (s.0, shows_now code limits run WriteFault input old new before now ran 0 (AsksWrite s.0) s.3))

  at_most : (turns begun wide threads : ℕ) → turns ≤ 256 * (begun + 1) → 1 ≤ wide → threads ≡ 0 → turns ≤ 256 * wide * (threads + 1) * (begun + 1)
  at_most turns begun wide threads le some none =
      let more : 256 * (begun + 1) * 1 ≤ 256 * (begun + 1) * wide = mul-le-mul_left (256 * (begun + 1)) some in
      rw none (omega arith)

  pub ran_program : (stop : Stop) → IsChecked code → ((input : List ℕ) (heap : ℕ) (journal : List Entry) (w : World CodeThread Store) → Legal (code_machine code) (opening (code_machine code) input heap) journal w → IsWithin (code_machine code) 256 w) → Ran code limits run stop input old new before now → RanProgram t (report_with code run stop) input old new before now
  ran_program stop checked paced ran =
      let x = told stop ran in
      let tail = ran.tail in
      let first : at ran.world.threads 0 ≡ Some ran.thread = ap (λ l. at l 0) ran.one in
      let work = (paced input heap_limit (map entry_of run.journal) ran.world ran.legal).within ran.thread first ran.steps in
      let sums : sum run.tails ≡ ran.thread.since + begun (code_next code) ran.steps ran.thread.state = ap sum tail ∙ omega arith in
      record {
        source = x.world;
        machine = ran.world;
        thread = ran.thread;
        steps = ran.steps;
        shows = record { legal = x.legal; tails = x.tails; gains = gains stop ran };
        stands = stands_in stop ran;
        stands_in_code = ran.stands;
        did = record { checked = checked; stands = stands_for; legal = ran.legal; same_text = consoles stop ran; input_left = run_input code (map entry_of run.journal) (opening (code_machine code) input heap_limit) ran.world ran.legal; one = ran.one; paid = ran.turns; tails = tail };
        counted = λ wide some. record {
          within = ran.within;
          begun = ran.begun ∙ (omega (arith, x.begun, sums));
          threads = ran.threads;
          units = same_units stop ran;
          work = at_most run.turns run.begun wide run.threads (omega (arith, ran.turns, ran.begun, work)) some ran.threads;
        };
        mains = ran.committed;
        faulted = asks_it stop ran;
      }
