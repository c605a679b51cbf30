-- A run that has stopped is as its stop says.
use Rattle.std.proofs.Common.{◌≡◌, inl, inr, ℕ, zero, suc, ◌+◌, ◌<◌, ◌≤◌, Bool, List, [], ◌∷◌, ◌++◌, map, length, Option, Some, None, refl, sym, ap, subst, ◌∙◌, arith, lit<}
use Rattle.std.specs.Prelude.{Contains}
use Rattle.std.specs.Io.KnownBytes.{Appends}
use Rattle.vb_threads.specs.{Machine.{Sign, HasThrown, IsTooDeep, AsksNew, AsksWrite, quiet, begun}, World.{Run as Legal, at, opening}, Stands.{Comes, sign, IsStuck}, Schedule.{Reaches, ShowsNow, Stop as ThreadStop, Ended as AllHaveEnded, Uncaught as UncaughtStop, AllWaiting, HeapLimit as NoHeap, DepthLimit}}
use Rattle.vb_value.specs.{Store.{Ask, New, Write, End, sign_of}, declared.stop.{Limits.Limits, Stop.{Stop, TheVariants.{Ended, Uncaught, HeapLimit, TurnLimit, WriteFault, Memory}}}}
use Rattle.vb_code.specs.{declared.local.Position.TheVariants.Thrown, Code.{Code, class_name}, Machine.{CodeThread, code_next, code_machine}, Local.{thread_at, thread_of}}
use Rattle.vb_frames.specs.Frames.{AsksNow, asked}
use Rattle.vb_turns.specs.{declared.alone.{Run.Run, Running.Running}, Ran.{Ran, entry_of, AreMains, ShowsIn, StandsIn, ShowsBy, StandsBy}, Stage.{Stage, IsStage, Ends, EndsBy, HasMore, units_asked}}

-- the first stage
pub first_stage : (c : Code) (limits : Limits) (r : Running) → thread_of c r.local ≡ (code_machine c).main → r.local.begun ≡ 0 → r.journal ≡ [] → r.turns ≡ 0 → r.settled ≡ 0 → r.units ≡ 0 → IsStage c limits.heap r [] []
first_stage c limits r main begun journal turns settled units input =
    let start = opening (code_machine c) input limits.heap in
    record {
      world = start;
      legal = subst (λ j. Legal (code_machine c) start (map entry_of j) start) (sym journal) refl;
      thread = record { state = (code_machine c).main; since = 0 };
      one = refl;
      steps = 0;
      arrives = sym main;
      tail = omega (arith, begun);
      turns = omega (arith, turns);
      begun = settled;
      units = units;
      limit = refl;
      shown = refl;
      over = refl;
    }

-- an ask above the heap limit is for an object
heap_asked : (a : Ask) (units heap : ℕ) → units ≤ heap → heap < units + units_asked a → (class : List ℕ) × (more : ℕ) × (a ≡ New class more)
heap_asked (New class more) units heap le lt = (class, more, refl)
heap_asked (Write text) units heap le lt = absurd (omega arith)
heap_asked End units heap le lt = absurd (omega arith)

never_thrown : (a : Ask) (class : List ℕ) → sign_of a ≡ Some (HasThrown class) → ⊥
never_thrown (New name units) class e = absurd (cc)
never_thrown (Write text) class e = absurd (cc)
never_thrown End class e = absurd (cc)

never_deep : (a : Ask) → sign_of a ≡ Some IsTooDeep → ⊥
never_deep (New name units) e = absurd (cc)
never_deep (Write text) e = absurd (cc)
never_deep End e = absurd (cc)

new_units : (a : Ask) (class : List ℕ) (units : ℕ) → sign_of a ≡ Some (AsksNew class units) → units_asked a ≡ units
new_units (New name more) class units e = cc
new_units (Write text) class units e = absurd (cc)
new_units End class units e = absurd (cc)

module _ (c : Code) (limits : Limits) (input : List ℕ) (r : Running) (console over : List ℕ) (s : Stage c limits.heap input r console over) (tails : List ℕ) (are : tails ≡ r.local.begun ∷ []) where
  number : ℕ
  number = s.thread.since + begun (code_next c) s.steps s.thread.state

  tail_is : tails ≡ (s.thread.since + begun (code_next c) s.steps s.thread.state) ∷ []
  tail_is = are ∙ ap (λ n. n ∷ []) s.tail

  one_thread : length s.world.threads ≡ 1
  one_thread = ap length s.one

  comes : Comes (code_machine c) s.world 0 (s.thread.since + begun (code_next c) s.steps s.thread.state) (thread_of c r.local)
  comes = record { thread = s.thread; there = ap (λ ts. at ts 0) s.one; steps = s.steps; counts = refl; arrives = s.arrives }

  come : (ts : List ℕ) → ts ≡ (s.thread.since + begun (code_next c) s.steps s.thread.state) ∷ [] → (t n : ℕ) → at ts t ≡ Some n → (x : CodeThread) × Comes (code_machine c) s.world t n x
  come [] e t n h = absurd (cc)
  come (m ∷ ms) e zero n h =
      let a : m ≡ s.thread.since + begun (code_next c) s.steps s.thread.state = cc in
      let b : m ≡ n = cc in
      (thread_of c r.local, subst (λ k. Comes (code_machine c) s.world 0 k (thread_of c r.local)) (sym a ∙ b) comes)
  come (m ∷ ms) e (suc t) n h =
      let a : ms ≡ [] = cc in
      let none : at ms t ≡ None = ap (λ xs. at xs t) a in
      let both : None ≡ Some n = sym none ∙ h in
      absurd (cc)

  pub reaches : Reaches (code_machine c) s.world tails
  reaches = record { as_many = ap length tail_is ∙ sym one_thread; come = come tails tail_is }

  shows_ask : (x : Sign) (committed : Bool) (a : Ask) → AsksNow c r.local committed → asked c r.local ≡ a → sign_of a ≡ Some x → ShowsIn c s.world.store (thread_of c r.local) 0 x
  shows_ask x committed a asks is e = (refl, ap (λ n. sign (code_machine c).rows s.world.store n) asks.asks ∙ ap sign_of is ∙ e)

  shows_thrown : (class : ℕ) → r.local.position ≡ Thrown class → ShowsIn c s.world.store (thread_of c r.local) 0 (HasThrown (class_name c class))
  shows_thrown class e = (refl, ap (λ q. sign (code_machine c).rows s.world.store (code_next c (thread_at c q r.local.operands r.local.slots))) e)

  contains_first : (xs : List ℕ) → xs ≡ 0 ∷ [] → (t : ℕ) → t < 1 → Contains xs t
  contains_first xs e t lt =
      let first : 0 ≡ t = omega (arith, lt) in
      subst (λ ys. Contains ys t) (sym e) (0, lit< tt, first)

  contains_none : (xs : List ℕ) → xs ≡ [] → Contains xs 0 → ⊥
  contains_none xs e h = let le = ap length e in let lt = h.1 in absurd (omega (arith, lt, le))

  -- what a thread shows that goes on is what it asks
  shows_more : (x : Sign) → HasMore c limits r → sign (code_machine c).rows s.world.store (code_next c (thread_of c r.local)) ≡ Some x → (sign_of (asked c r.local) ≡ Some x) × (r.units + units_asked (asked c r.local) ≤ limits.heap)
  shows_more x (inl (begins, after, step)) e =
      let none : None ≡ Some x = sym (ap (λ n. sign (code_machine c).rows s.world.store n) step) ∙ e in
      absurd (cc)
  shows_more x (inr ((committed, asks), fits)) e = (sym (ap (λ n. sign (code_machine c).rows s.world.store n) asks.asks) ∙ e, fits)

  goes_free : HasMore c limits r → IsStuck (code_machine c).rows s.world.store 0 (code_next c (thread_of c r.local)) → ⊥
  goes_free (inl (begins, after, step)) h = subst (λ n. IsStuck (code_machine c).rows s.world.store 0 n) step h
  goes_free (inr ((committed, asks), fits)) h =
      let stuck = subst (λ n. IsStuck (code_machine c).rows s.world.store 0 n) asks.asks h in
      absurd (cc)

  -- where the thread goes on, and has not ended, no stop stands
  none_stands : HasMore c limits r → over ≡ [] → (other : ThreadStop) → StandsIn c s.world.store (thread_of c r.local) limits.heap other → ⊥
  none_stands more going AllHaveEnded h = contains_none s.world.store.ended (s.over ∙ going) (h 0 (lit< tt))
  none_stands more going (UncaughtStop thread class) h = never_thrown (asked c r.local) class (shows_more (HasThrown class) more h.1).0
  none_stands more going AllWaiting h = goes_free more h.1
  none_stands more going NoHeap h =
      let shown = shows_more (AsksNew h.class h.units) more h.asks.1 in
      let same = new_units (asked c r.local) h.class h.units shown.0 in
      let room = shown.1 in
      let past = h.over in
      absurd (omega (arith, s.units, same, room, past))
  none_stands more going (DepthLimit thread) h = never_deep (asked c r.local) (shows_more IsTooDeep more h.1).0

  module _ (before after : Option (List ℕ)) (faults now : ℕ) where
    appended : (more : List ℕ) → console ≡ more → Appends before after more → Appends before after s.world.store.console
    appended more e h = subst (λ xs. Appends before after xs) (sym (s.shown ∙ e)) h

    shows : (stop : Stop) → EndsBy c limits r stop console over before after faults now → ShowsBy c s.world.store (thread_of c r.local) stop before after faults now
    shows Ended h = appended console refl h.1
    shows (Uncaught thread class) h = appended console refl h.2
    shows HeapLimit h = appended console refl h.2
    shows TurnLimit h = appended console refl h.3
    shows Memory h = appended console refl h
    shows WriteFault h = (h.1, h.3, h.4, shows_ask (AsksWrite h.1) h.0.0 (Write h.1) h.0.1 h.2 refl, h.5, h.6, subst (λ xs. Appends before after (xs ++ h.3)) (sym s.shown) h.7, h.8)

    pub shows_there : (stop : Stop) → EndsBy c limits r stop console over before after faults now → ShowsBy c s.world.store (quiet (code_next c) s.steps s.thread.state) stop before after faults now
    shows_there stop h = subst (λ x. ShowsBy c s.world.store x stop before after faults now) (sym s.arrives) (shows stop h)

    stands : (stop : Stop) → r.units ≤ limits.heap → EndsBy c limits r stop console over before after faults now → StandsBy c s.world.store (thread_of c r.local) r.turns limits stop
    stands Ended le h = contains_first s.world.store.ended (s.over ∙ h.0)
    stands (Uncaught thread class) le h = (h.0, (shows_thrown class h.1).1)
    stands HeapLimit le h =
        let a = heap_asked (asked c r.local) r.units limits.heap le h.1 in
        let units = ap units_asked a.2 in
        let past : limits.heap < s.world.store.units + a.1 = omega (arith, h.1, s.units, units) in
        record { thread = 0; class = a.0; units = a.1; asks = shows_ask (AsksNew a.0 a.1) h.0.0 (New a.0 a.1) h.0.1 a.2 refl; over = past }
    stands TurnLimit le h = (h.0, none_stands h.2 h.1)
    stands WriteFault le h = tt
    stands Memory le h = tt

    pub stands_there : (stop : Stop) → r.units ≤ limits.heap → EndsBy c limits r stop console over before after faults now → StandsBy c s.world.store (quiet (code_next c) s.steps s.thread.state) r.turns limits stop
    stands_there stop le h = subst (λ x. StandsBy c s.world.store x r.turns limits stop) (sym s.arrives) (stands stop le h)

-- the run that is kept
pub ran : (c : Code) (limits : Limits) (first r : Running) (stop : Stop) (before after : Option (List ℕ)) (faults now : ℕ) → IsStage c limits.heap first [] [] → Ends c limits first r stop before after faults now → (run : Run) → run.journal ≡ r.journal → run.tails ≡ r.local.begun ∷ [] → run.turns ≡ r.turns → run.begun ≡ r.settled + r.local.begun → run.threads ≡ 0 → run.units ≡ r.units → (input : List ℕ) → Ran c limits run stop input before after faults now
ran c limits first r stop before after faults now begins e run journal tails turns begun threads units input =
    let s = e.leads [] [] begins input in
    let within : run.turns ≤ limits.turns = omega (arith, turns, e.small.turns) in
    record {
      world = s.world;
      legal = subst (λ j. Legal (code_machine c) (opening (code_machine c) input limits.heap) (map entry_of j) s.world) (sym journal) s.legal;
      thread = s.thread;
      one = s.one;
      steps = s.steps;
      reaches = reaches c limits input r e.more e.over s run.tails tails;
      tail = tails ∙ ap (λ n. n ∷ []) s.tail;
      turns = turns ∙ s.turns;
      begun = omega (arith, begun, s.begun, s.tail);
      threads = threads;
      units = units ∙ s.units;
      within = within;
      committed = subst AreMains (sym journal) e.mains;
      shows = shows_there c limits input r e.more e.over s run.tails tails before after faults now stop e.ends;
      stands = subst (λ n. StandsBy c s.world.store (quiet (code_next c) s.steps s.thread.state) n limits stop) (sym turns) (stands_there c limits input r e.more e.over s run.tails tails before after faults now stop e.small.units e.ends);
    }

-- what the thread shows where it is, it shows at its number of statements
pub shows_now : (c : Code) (limits : Limits) (run : Run) (stop : Stop) (input : List ℕ) (before after : Option (List ℕ)) (faults now : ℕ) (ran : Ran c limits run stop input before after faults now) (t : ℕ) (x : Sign) → ShowsIn c ran.world.store (quiet (code_next c) ran.steps ran.thread.state) t x → ShowsNow (code_machine c) ran.world run.tails t x
shows_now c limits run stop input before after faults now ran t x h =
    subst (λ n. ShowsNow (code_machine c) ran.world run.tails n x) (sym h.0) (record {
      number = ran.thread.since + begun (code_next c) ran.steps ran.thread.state;
      there = ap (λ ts. at ts 0) ran.tail;
      state = quiet (code_next c) ran.steps ran.thread.state;
      comes = record { thread = ran.thread; there = ap (λ ts. at ts 0) ran.one; steps = ran.steps; counts = refl; arrives = refl };
      shown = h.1;
    })
