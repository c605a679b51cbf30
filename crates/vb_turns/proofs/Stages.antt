-- A run so far goes on by silent steps and by an entry.
use Rattle.std.proofs.Common.{◌≡◌, inr, ℕ, zero, suc, ◌+◌, ◌*◌, ◌<◌, ◌≤◌, Bool, true, false, cond, List, [], ◌∷◌, ◌++◌, map, Option, Some, None, refl, sym, ap, ap₂, subst, ◌∙◌, arith, append-nil, append_assoc}
use Rattle.std.proofs.lemmas.Bool.Decides.{nat_tests}
use Rattle.std.proofs.lemmas.List.{map-append}
use Rattle.vb_threads.specs.{Machine.{Next, Machine, state_of, begins_of, takes, quiet, begun, taken, Ended as OverEnded}, World.{World, Entry as OneEntry, Does, Run as Legal, at, put, moved, world_after, opening}}
use Rattle.vb_value.specs.{Store.{Store, Ask, New, Write, End, after, fits}, declared.{journal.Entry.Entry, stop.{Limits.Limits, Stop.{Stop, TheVariants.{Ended, Uncaught, HeapLimit, TurnLimit, WriteFault, Memory}}}, action.Action.{Action, TheVariants.{New as NewAction, Write as WriteAction, End as EndAction}}}, Datum.Datum}
use Rattle.vb_code.specs.{declared.local.{Local.Local, Position.{Position, TheVariants.{At as AtPlace, Writing, Throwing, Returned as HasReturned, Ended as HasEnded, Thrown}}}, Code.Code, Machine.{code_next, code_machine, Gone}, Local.{thread_of, thread_at, ask_of}, Shapes.IsState}
use Rattle.vb_frames.specs.Frames.{AsksNow, RunsOn, asked, given, asked_at, given_at}
use Rattle.vb_turns.specs.{declared.alone.Running.Running, Ran.{entry_of, AreMains}, Stage.{IsStage, IsFine, IsSame, Leads, Adds, Performs, PutsAll, Ends, EndsBy, GoesOn, units_asked, written_by, ended_by}}
use Rattle.std.specs.Io.KnownBytes.{Appends, Keeps}
use Rattle.std.proofs.KnownBytes.{Appends-trans, Appends-nil}
use Rattle.vb_io.specs.Causes.{Rose}

module _ {S A R : Type 0} (next : S → Next S A R) where
  quiet-add : (j k : ℕ) (s : S) → quiet next (j + k) s ≡ quiet next k (quiet next j s)
  quiet-add zero k s = let e : zero + k ≡ k = omega arith in ap (λ n. quiet next n s) e
  quiet-add (suc j) k s = let e : suc j + k ≡ suc (j + k) = omega arith in ap (λ n. quiet next n s) e ∙ quiet-add j k (state_of s (next s))

  begun-add : (j k : ℕ) (s : S) → begun next (j + k) s ≡ begun next j s + begun next k (quiet next j s)
  begun-add zero k s = let e : zero + k ≡ k = omega arith in ap (λ n. begun next n s) e ∙ omega arith
  begun-add (suc j) k s =
      let e : suc j + k ≡ suc (j + k) = omega arith in
      let r = begun-add j k (state_of s (next s)) in
      ap (λ n. begun next n s) e ∙ ap (λ n. begins_of (next s) + n) r ∙ omega arith

  taken-add : (j k : ℕ) (s : S) → taken next (j + k) s ≡ taken next j s + taken next k (quiet next j s)
  taken-add zero k s = let e : zero + k ≡ k = omega arith in ap (λ n. taken next n s) e ∙ omega arith
  taken-add (suc j) k s =
      let e : suc j + k ≡ suc (j + k) = omega arith in
      let r = taken-add j k (state_of s (next s)) in
      ap (λ n. taken next n s) e ∙ ap (λ n. takes (next s) + n) r ∙ omega arith

-- a journal with one entry more
run_more : {C P S A R W : Type 0} (m : Machine C P S A R W) (journal : List OneEntry) (w v u : World S W) (e : OneEntry) → Legal m w journal v → Does m v e u → Legal m w (journal ++ e ∷ []) u
run_more {S} {A} {R} {W} m [] w v u e r d = (u, subst (λ (z : World S W). Does m z e u) r d, refl)
run_more m (f ∷ journal) w v u e r d = (r.0, r.1, run_more m journal r.0 v u e r.2 d)

-- a silent run leads from stage to stage
pub advanced : (c : Code) (limits : Limits) (old : Running) (l : Local) (k : ℕ) → RunsOn c old.local l k → Leads c limits old (record { local = l; journal = old.journal; turns = old.turns + k; settled = old.settled; units = old.units }) [] []
advanced c limits old l k runs console ended stage input =
    let s = stage input in
    let next = code_next c in
    let here = s.arrives in
    let q = quiet-add next s.steps k s.thread.state in
    let b = begun-add next s.steps k s.thread.state in
    let t = taken-add next s.steps k s.thread.state in
    let more = ap (λ u. begun next k u) here in
    let done = ap (λ u. taken next k u) here in
    record {
      world = s.world;
      legal = s.legal;
      thread = s.thread;
      one = s.one;
      steps = s.steps + k;
      arrives = q ∙ ap (λ u. quiet next k u) here ∙ sym runs.thread;
      tail = omega (arith, runs.begun, s.tail, b, more);
      turns = omega (arith, runs.each, s.turns, t, done);
      begun = s.begun;
      units = s.units;
      limit = s.limit;
      shown = s.shown ∙ sym (append-nil console);
      over = s.over ∙ sym (append-nil ended);
    }

-- what an ask does to the store
units-after : (w : Store) (t : ℕ) (a : Ask) → (after w t a).units ≡ w.units + units_asked a
units-after w t (New class units) = refl
units-after w t (Write text) = omega arith
units-after w t End = omega arith

heap-after : (w : Store) (t : ℕ) (a : Ask) → (after w t a).heap ≡ w.heap
heap-after w t (New class units) = refl
heap-after w t (Write text) = refl
heap-after w t End = refl

console-after : (w : Store) (t : ℕ) (a : Ask) → (after w t a).console ≡ w.console ++ written_by a
console-after w t (New class units) = sym (append-nil w.console)
console-after w t (Write text) = refl
console-after w t End = sym (append-nil w.console)

ended-after : (w : Store) (a : Ask) → (after w 0 a).ended ≡ w.ended ++ ended_by a
ended-after w (New class units) = sym (append-nil w.ended)
ended-after w (Write text) = sym (append-nil w.ended)
ended-after w End = refl

fits-in : (w : Store) (a : Ask) → w.units + units_asked a ≤ w.heap → fits w a ≡ true
fits-in w (New class units) le = grind (arith, nat_tests)
fits-in w (Write text) le = refl
fits-in w End le = refl

-- an entry leads from stage to stage
pub entered : (c : Code) (limits : Limits) (old new : Running) (committed : Bool) (units : ℕ) (e : Entry) → AsksNow c old.local committed → units ≡ units_asked (asked c old.local) → old.units + units ≤ limits.heap → e ≡ record { thread = 0; worker = 0; committed = committed } → new.journal ≡ old.journal ++ e ∷ [] → thread_of c new.local ≡ given c old.local → new.turns ≡ old.turns + 1 → new.units ≡ old.units + units → new.settled ≡ cond committed (old.settled + old.local.begun) old.settled → new.local.begun ≡ cond committed 0 old.local.begun → Leads c limits old new (written_by (asked c old.local)) (ended_by (asked c old.local))
entered c limits old new committed units e asks is le entry journal thread turns grown settled begins console ended stage input =
    let s = stage input in
    let m = code_machine c in
    let l = old.local in
    let ask = asked c l in
    let w = s.world in
    let n = s.thread.since + begun (code_next c) s.steps s.thread.state in
    let k = taken (code_next c) s.steps s.thread.state in
    let u = world_after m w 0 ask (given c l) committed n k in
    let one : OneEntry = record { thread = 0; worker = 0; committed = committed } in
    let room : w.store.units + units_asked ask ≤ w.store.heap = omega (arith, s.units, s.limit, is, le) in
    let does : Does m w one u = record {
      thread = s.thread;
      there = ap (λ ts. at ts 0) s.one;
      steps = s.steps;
      ask = ask;
      commits = asks.commits;
      go = λ r. given c l;
      asks = ap (λ x. code_next c x) s.arrives ∙ asks.asks;
      enabled_here = refl;
      fits_here = fits-in w.store ask room;
      committed = sym (asks.marked (m.rows.answer w.store 0 ask));
      leads = refl;
    } in
    let more : map entry_of new.journal ≡ map entry_of old.journal ++ one ∷ [] = ap (λ j. map entry_of j) journal ∙ map-append entry_of old.journal (e ∷ []) ∙ ap (λ x. map entry_of old.journal ++ entry_of x ∷ []) entry in
    record {
      world = u;
      legal = subst (λ j. Legal m (opening m input limits.heap) j u) (sym more) (run_more m (map entry_of old.journal) (opening m input limits.heap) w u one s.legal does);
      thread = moved (given c l) committed n;
      one = ap (λ ts. put ts 0 (moved (given c l) committed n)) s.one;
      steps = 0;
      arrives = sym thread;
      tail = begins ∙ ap (λ x. cond committed 0 x) s.tail ∙ omega arith;
      turns = omega (arith, turns, s.turns);
      begun = settled ∙ ap₂ (λ x y. cond committed (x + y) x) s.begun s.tail;
      units = omega (arith, grown, s.units, is, units-after w.store 0 ask);
      limit = heap-after w.store 0 ask ∙ s.limit;
      shown = console-after w.store 0 ask ∙ ap (λ x. x ++ written_by ask) s.shown;
      over = ended-after w.store ask ∙ ap (λ x. x ++ ended_by ask) s.over;
    }

pub mains_more : (js : List Entry) (e : Entry) → AreMains js → e.thread ≡ 0 → e.worker ≡ 0 → AreMains (js ++ e ∷ [])
mains_more [] e h t w = (t, w, tt)
mains_more (j ∷ js) e h t w = (h.0, h.1, mains_more js e h.2 t w)

-- stages one after another
pub leads_on : (c : Code) (limits : Limits) (a b d : Running) (m n o p : List ℕ) → Leads c limits a b m o → Leads c limits b d n p → Leads c limits a d (m ++ n) (o ++ p)
leads_on c limits a b d m n o p f g console ended stage =
    subst (λ x. IsStage c limits.heap d x (ended ++ (o ++ p))) (append_assoc console m n)
    (subst (λ y. IsStage c limits.heap d ((console ++ m) ++ n) y) (append_assoc ended o p) (g (console ++ m) (ended ++ o) (f console ended stage)))

pub leads_none : (c : Code) (limits : Limits) (a : Running) → Leads c limits a a [] []
leads_none c limits a console ended stage =
    subst (λ x. IsStage c limits.heap a x (ended ++ [])) (sym (append-nil console)) (subst (λ y. IsStage c limits.heap a console y) (sym (append-nil ended)) stage)

-- a thread ends by its last ask alone
ends_at : (c : Code) (q : Position) (ops slots : List Datum) → Gone OverEnded ≡ given_at c q ops slots → ended_by (asked_at c q ops) ≡ [] → ⊥
ends_at c (AtPlace place) ops slots e h = cc
ends_at c (Writing place) ops slots e h = cc
ends_at c (Throwing place class) ops slots e h = cc
ends_at c HasReturned ops slots e h = cc
ends_at c HasEnded ops slots e h = cc
ends_at c (Thrown class) ops slots e h = cc

pub goes_past : (c : Code) (l l' : Local) → thread_of c l' ≡ given c l → ended_by (asked c l) ≡ [] → l'.position ≡ HasEnded → ⊥
goes_past c l l' e h at = ends_at c l.position l.operands l.slots (sym (ap (λ q. thread_at c q l'.operands l'.slots) at) ∙ e) h

-- what an action has put is what it asks to write
pub puts_none : (c : Code) (a : Action) (ask : Ask) (before after : Option (List ℕ)) (faults now : ℕ) → ask_of c a ≡ ask → PutsAll a before after faults now None → Appends before after (written_by ask)
puts_none c a ask before after faults now e h = subst (λ x. Appends before after (written_by x)) e (puts a h)
  where
    puts : (a : Action) → PutsAll a before after faults now None → Appends before after (written_by (ask_of c a))
    puts (NewAction class) h = h.1
    puts (WriteAction text) h = h
    puts EndAction h = h.1

-- the statements are counted once
counted : (b : Bool) (s l : ℕ) → cond b (s + l) s + cond b 0 l ≡ s + l
counted true s l = omega arith
counted false s l = refl

-- a run that has made its entry
pub added : (c : Code) (limits : Limits) (old new : Running) (committed : Bool) (units : ℕ) (e : Entry) → AsksNow c old.local committed → IsFine c limits old → units ≡ units_asked (asked c old.local) → old.units + units ≤ limits.heap → old.turns < limits.turns → e ≡ record { thread = 0; worker = 0; committed = committed } → new.journal ≡ old.journal ++ e ∷ [] → thread_of c new.local ≡ given c old.local → new.turns ≡ old.turns + 1 → new.units ≡ old.units + units → new.settled ≡ cond committed (old.settled + old.local.begun) old.settled → new.local.begun ≡ cond committed 0 old.local.begun → (before after : Option (List ℕ)) → Appends before after (written_by (asked c old.local)) → Adds c limits old new (asked c old.local) before after
added c limits old new committed units e asks fine is le left entry journal thread turns grown settled begins before after shows =
    let fewer : new.settled + new.local.begun ≤ 4294967296 * new.turns = omega (arith, settled, begins, counted committed old.settled old.local.begun, fine.small.begun, turns) in
    let within : new.turns ≤ limits.turns = omega (arith, turns, left) in
    let room : new.units ≤ limits.heap = omega (arith, grown, le) in
    record {
      leads = entered c limits old new committed units e asks is le entry journal thread turns grown settled begins;
      fine = record {
        state = subst (IsState c) (sym thread) asks.state;
        small = record { begun = fewer; turns = within; units = room };
        mains = subst AreMains (sym journal) (mains_more old.journal e fine.mains (ap (λ (x : Entry). x.thread) entry) (ap (λ (x : Entry). x.worker) entry));
      };
      turns = turns;
      going = goes_past c old.local new.local thread;
      shows = shows;
    }

abbrev made : Local → List Entry → ℕ → ℕ → ℕ → Running
made l j t b u = record { local = l; journal = j; turns = t; settled = b; units = u }

same_is : (old new : Running) → IsSame old new → new ≡ old
same_is old new s =
    ap (λ x. made x new.journal new.turns new.settled new.units) s.local
    ∙ ap (λ x. made old.local x new.turns new.settled new.units) s.journal
    ∙ ap (λ x. made old.local old.journal x new.settled new.units) s.turns
    ∙ ap (λ x. made old.local old.journal old.turns x new.units) s.settled
    ∙ ap (λ x. made old.local old.journal old.turns old.settled x) s.units

keeps_none : (before after : Option (List ℕ)) → Keeps before after → Appends before after []
keeps_none None after h = tt
keeps_none (Some xs) None h = h
keeps_none (Some xs) (Some ys) h = h ∙ sym (append-nil xs)

module _ (c : Code) (limits : Limits) (old mid : Running) (leads : Leads c limits old mid [] []) (fine : IsFine c limits mid) where
  -- a stop with nothing done since the silent run
  pub stands_at : (stop : Stop) (before after : Option (List ℕ)) (faults now : ℕ) → EndsBy c limits mid stop [] [] before after faults now → Ends c limits old mid stop before after faults now
  stands_at stop before after faults now h = record { more = []; over = []; leads = leads; small = fine.small; mains = fine.mains; ends = h }

  pub stopped_at : (new : Running) (committed : Bool) (stop : Stop) (before after : Option (List ℕ)) (faults now : ℕ) → AsksNow c mid.local committed → Performs c limits mid new before after faults now (Some stop) → Ends c limits old new stop before after faults now
  stopped_at new committed Ended before after faults now asks p = absurd p
  stopped_at new committed (Uncaught thread class) before after faults now asks p = absurd p
  stopped_at new committed TurnLimit before after faults now asks p =
      subst (λ r. Ends c limits old r TurnLimit before after faults now) (sym (same_is mid new p.0)) (stands_at TurnLimit before after faults now (p.2, refl, inr ((committed, asks), p.3), keeps_none before after p.1))
  stopped_at new committed HeapLimit before after faults now asks p =
      subst (λ r. Ends c limits old r HeapLimit before after faults now) (sym (same_is mid new p.0)) (stands_at HeapLimit before after faults now ((committed, asks), p.2, keeps_none before after p.1))
  stopped_at new committed WriteFault before after faults now asks p =
      subst (λ r. Ends c limits old r WriteFault before after faults now) (sym (same_is mid new p.0)) (stands_at WriteFault before after faults now ((committed, asks), p.1, p.2, p.3.0, p.3.1, p.3.2, p.3.3, p.3.4, p.4))
  stopped_at new committed Memory before after faults now asks p =
      subst (λ r. Ends c limits old r Memory before after faults now) (sym (same_is mid new p.0)) (stands_at Memory before after faults now (keeps_none before after p.1))

  module _ (new : Running) (a : Action) (last : Bool) (before after : Option (List ℕ)) (faults now : ℕ) (adds : Adds c limits mid new (asked c mid.local) before after) (same : ask_of c a ≡ asked c mid.local) (ends : ended_by (ask_of c a) ≡ cond last (0 ∷ []) []) where
    over_is : (b : Bool) → last ≡ b → ended_by (asked c mid.local) ≡ cond b (0 ∷ []) []
    over_is b e = ap ended_by (sym same) ∙ ends ∙ ap (λ x. cond x (0 ∷ []) []) e

    pub ended_at : last ≡ true → Ends c limits old new Ended before after faults now
    ended_at e = record {
      more = written_by (asked c mid.local);
      over = ended_by (asked c mid.local);
      leads = leads_on c limits old mid new [] (written_by (asked c mid.local)) [] (ended_by (asked c mid.local)) leads adds.leads;
      small = adds.fine.small;
      mains = adds.fine.mains;
      ends = (over_is true e, adds.shows);
    }

    pub goes_at : last ≡ false → GoesOn c limits old new before after
    goes_at e = record {
      more = written_by (asked c mid.local);
      leads = subst (λ o. Leads c limits old new (written_by (asked c mid.local)) o) (over_is false e) (leads_on c limits old mid new [] (written_by (asked c mid.local)) [] (ended_by (asked c mid.local)) leads adds.leads);
      fine = adds.fine;
      going = adds.going (over_is false e);
      shows = adds.shows;
    }

-- what goes on and then goes on
pub goes_twice : (c : Code) (limits : Limits) (a b d : Running) (x y z : Option (List ℕ)) → GoesOn c limits a b x y → GoesOn c limits b d y z → GoesOn c limits a d x z
goes_twice c limits a b d x y z g h = record {
  more = g.more ++ h.more;
  leads = leads_on c limits a b d g.more h.more [] [] g.leads h.leads;
  fine = h.fine;
  going = h.going;
  shows = Appends-trans x y z g.more h.more g.shows h.shows;
}

pub goes_none : (c : Code) (limits : Limits) (a : Running) (x : Option (List ℕ)) → IsFine c limits a → (a.local.position ≡ HasEnded → ⊥) → GoesOn c limits a a x x
goes_none c limits a x fine going = record { more = []; leads = leads_none c limits a; fine = fine; going = going; shows = Appends-nil x }

rose_before : (f g h : ℕ) → f ≤ g → Rose g h → Rose f h
rose_before f g h le rose = omega arith

-- and then stops
pub goes_ends : (c : Code) (limits : Limits) (a b d : Running) (stop : Stop) (x y z : Option (List ℕ)) (f g now : ℕ) → f ≤ g → GoesOn c limits a b x y → Ends c limits b d stop y z g now → Ends c limits a d stop x z f now
goes_ends c limits a b d stop x y z f g now le goes e = record {
  more = goes.more ++ e.more;
  over = e.over;
  leads = leads_on c limits a b d goes.more e.more [] e.over goes.leads e.leads;
  small = e.small;
  mains = e.mains;
  ends = by stop e.ends;
}
  where
    more : (xs : List ℕ) → Appends y z xs → Appends x z (goes.more ++ xs)
    more xs h = Appends-trans x y z goes.more xs goes.shows h

    by : (stop : Stop) → EndsBy c limits d stop e.more e.over y z g now → EndsBy c limits d stop (goes.more ++ e.more) e.over x z f now
    by Ended h = (h.0, more e.more h.1)
    by (Uncaught thread class) h = (h.0, h.1, more e.more h.2)
    by HeapLimit h = (h.0, h.1, more e.more h.2)
    by TurnLimit h = (h.0, h.1, h.2, more e.more h.3)
    by WriteFault h = (h.0, h.1, h.2, h.3, h.4, h.5, h.6, subst (λ xs. Appends x z xs) (sym (append_assoc goes.more e.more h.3)) (more (e.more ++ h.3) h.7), rose_before f g now le h.8)
    by Memory h = more e.more h
