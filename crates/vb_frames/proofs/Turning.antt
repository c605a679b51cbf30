-- A turn is a step of the code, and a silent run is a run of its steps.
use Rattle.std.proofs.Common.{◌≡◌, ℕ, zero, suc, ◌+◌, ◌<◌, ◌^◌, Bool, true, pos, List, map, length, Some, refl, sym, ap, ap₂, subst, ◌∙◌, arith, get_or}
use Rattle.std.specs.Prelude.{slice_get}
use Rattle.std.proofs.lemmas.List.{length-map}
use Rattle.std.proofs.lemmas.Option.{slice_get-get_or, slice_get-map}
use Rattle.std.specs.Option.{option_map}
use Rattle.vb_threads.specs.Machine.{Next, Silent, Asks, state_of, begins_of as begun_by, takes, quiet, begun, taken}
use Rattle.vb_value.specs.Store.{Reply, Done}
use Rattle.vb_code.specs.{declared.{instr.{Instr.{Instr, TheVariants.Push}, Constant.TheVariants.Integer, Step.Step}, local.{Position.TheVariants.{Returned as HasReturned, Ended as HasEnded}, Local.Local}}, Code.{Code, body_of, begins_of, begins_at}, Machine.{CodeThread, At, code_next, act, fetched}, Shapes.IsState, Local.{thread_at, thread_of}}
use Rattle.vb_frames.specs.{declared.turn.Did.TheVariants.Went, Frames.{AwaitsAt, AsksNow, RunsOn, HasStep, asked, asked_at, given, given_at}, Turn.{place_of, Needs, Stays, Stops, Obeys, TurnsTo}}
use Rattle.vb_frames.proofs.{States.{IsGoing, within_body, needs_at, state_next, state_given}, Moves.thread_here}

-- what stands for a step that is not there
abbrev pub no_step : Step
no_step = record { begins = 0; instr = Push (Integer (pos 0)) }

module _ (c : Code) (steps : List Step) (old : Local) (place : ℕ) (body : body_of c ≡ map (λ (s : Step). s.instr) steps) (state : IsState c (thread_of c old)) (here : place_of old.position ≡ Some place) where
  state_here : IsState c (At place old.operands old.slots)
  state_here = subst (IsState c) (thread_here c old.position place old.operands old.slots here) state

  pub within_steps : place < length steps
  within_steps =
      let lt = within_body c place old.operands old.slots state_here in
      let long : length (body_of c) ≡ length steps = ap length body ∙ length-map steps (λ (s : Step). s.instr) in
      omega (arith, lt, long)

  pub step_there : (d : Step) → slice_get steps place ≡ Some (get_or steps place d)
  step_there d = slice_get-get_or steps place d within_steps

  pub instr_there : (d : Step) → slice_get (body_of c) place ≡ Some (get_or steps place d).instr
  instr_there d = ap (λ b. slice_get b place) body ∙ slice_get-map (λ (s : Step). s.instr) steps place ∙ ap (λ o. option_map (λ (s : Step). s.instr) o) (step_there d)

  pub step_needs : (d : Step) → Needs c (get_or steps place d).instr old.operands old.slots
  step_needs d = needs_at c place old.operands old.slots (get_or steps place d).instr state_here (instr_there d)

module _ (c : Code) (old mid : Local) (place : ℕ) (i : Instr) (n : ℕ) (here : place_of old.position ≡ Some place) (at : slice_get (body_of c) place ≡ Some i) (begins : begins_at (begins_of c) place ≡ n) where
  next_here : code_next c (thread_of c old) ≡ act c i n place old.operands old.slots
  next_here =
      ap (λ s. code_next c s) (thread_here c old.position place old.operands old.slots here)
      ∙ ap (λ o. fetched c o place old.operands old.slots) at
      ∙ ap (λ b. act c i b place old.operands old.slots) begins

  pub turn_went : (k : ℕ) → k ≡ n → n < 2 ^ 32 → Obeys c i place old mid Went → (b : ℕ) × (code_next c (thread_of c old) ≡ Silent b (thread_of c mid)) × (mid.begun + k ≡ old.begun + b) × (b < 2 ^ 32)
  turn_went k is few h = (n, next_here ∙ h.0 n, omega (arith, is, h.1), few)

  pub steps_next : ((b : ℕ) → (state : CodeThread) × (act c i b place old.operands old.slots ≡ Silent b state)) → HasStep c old
  steps_next h = (n, (h n).0, next_here ∙ (h n).1)

  pub turn_asked : (committed : Bool) → IsState c (thread_of c old) → Stops c i place old mid committed → (thread_of c mid ≡ thread_of c old) × (mid.begun ≡ old.begun) × AsksNow c mid committed
  turn_asked committed state h =
      let same : thread_of c mid ≡ thread_of c old =
      thread_here c mid.position place mid.operands mid.slots h.here
      ∙ ap₂ (λ o s. At place o s) h.stays.operands h.stays.slots
      ∙ sym (thread_here c old.position place old.operands old.slots here) in
      let asks = next_here ∙ h.asks n in
      (same, h.stays.begun, record { awaits = h.awaits; state = state_given c (thread_of c old) (given c mid) (asked c mid) h.commits Done state asks; commits = h.commits; asks = ap (λ s. code_next c s) same ∙ asks; marked = h.marked })

pub turn_stays : (c : Code) (old mid : Local) → Stays old mid → mid.position ≡ old.position → (thread_of c mid ≡ thread_of c old) × (mid.begun ≡ old.begun)
turn_stays c old mid h at =
    (ap (λ q. thread_at c q mid.operands mid.slots) at ∙ ap₂ (λ o s. thread_at c old.position o s) h.operands h.slots, h.begun)

-- a thread that has returned asks for its end
pub returned_asks : (c : Code) (l : Local) → l.position ≡ HasReturned → AsksNow c l true
returned_asks c l at = record {
  awaits = subst (λ q. AwaitsAt q l.operands) (sym at) tt;
  state = subst (λ q. IsState c (given_at c q l.operands l.slots)) (sym at) tt;
  commits = λ r. true;
  asks = ap (λ q. code_next c (thread_at c q l.operands l.slots)) at ∙ sym (ap (λ q. Asks (asked_at c q l.operands) (λ (r : Reply). true) (λ (r : Reply). given_at c q l.operands l.slots)) at);
  marked = λ r. refl;
}

module _ {S A R : Type 0} (next : S → Next S A R) where
  -- one step more at the end
  quiet-last : (k : ℕ) (s : S) → quiet next (k + 1) s ≡ state_of (quiet next k s) (next (quiet next k s))
  quiet-last zero s = refl
  quiet-last (suc k) s = let e : suc k + 1 ≡ suc (k + 1) = omega arith in ap (λ n. quiet next n s) e ∙ quiet-last k (state_of s (next s))

  taken-last : (k : ℕ) (s : S) → taken next (k + 1) s ≡ taken next k s + takes (next (quiet next k s))
  taken-last zero s = omega arith
  taken-last (suc k) s =
      let e : suc k + 1 ≡ suc (k + 1) = omega arith in
      let r = taken-last k (state_of s (next s)) in
      ap (λ n. taken next n s) e ∙ ap (λ n. takes (next s) + n) r ∙ omega arith

  begun-last : (k : ℕ) (s : S) → begun next (k + 1) s ≡ begun next k s + begun_by (next (quiet next k s))
  begun-last zero s = omega arith
  begun-last (suc k) s =
      let e : suc k + 1 ≡ suc (k + 1) = omega arith in
      let r = begun-last k (state_of s (next s)) in
      ap (λ n. begun next n s) e ∙ ap (λ n. begun_by (next s) + n) r ∙ omega arith

-- a silent run goes on by a silent step
pub runs_more : (c : Code) (old mid new : Local) (k : ℕ) → RunsOn c old mid k → TurnsTo c mid new Went → RunsOn c old new (k + 1)
runs_more c old mid new k r t =
    let next = code_next c in
    let s = thread_of c old in
    let at : next (quiet next k s) ≡ Silent t.0 (thread_of c new) = ap (λ u. next u) (sym r.thread) ∙ t.1 in
    let e1 = ap (λ x. takes x) at in
    let e2 = ap (λ x. begun_by x) at in
    record {
      thread = sym (quiet-last next k s ∙ ap (λ x. state_of (quiet next k s) x) at);
      each = omega (arith, r.each, taken-last next k s, e1);
      begun = omega (arith, r.begun, begun-last next k s, e2, t.2);
    }

-- and rests where it was
pub runs_same : (c : Code) (old mid new : Local) (k : ℕ) → RunsOn c old mid k → thread_of c new ≡ thread_of c mid → new.begun ≡ mid.begun → RunsOn c old new k
runs_same c old mid new k r e f = record { thread = e ∙ r.thread; each = r.each; begun = f ∙ r.begun }

pub runs_none : (c : Code) (l : Local) → RunsOn c l l 0
runs_none c l = record { thread = refl; each = refl; begun = omega arith }

-- a thread that goes on has not ended
ended_rests : (c : Code) (l : Local) → IsGoing (thread_of c l) → l.position ≡ HasEnded → ⊥
ended_rests c l h e = subst (λ q. IsGoing (thread_at c q l.operands l.slots)) e h

pub kept_going : (c : Code) (mid new : Local) → IsState c (thread_of c mid) → TurnsTo c mid new Went → IsState c (thread_of c new) × (new.position ≡ HasEnded → ⊥)
kept_going c mid new state t =
    let h = state_next c (thread_of c mid) (thread_of c new) t.0 state t.1 in
    (h.0, ended_rests c new h.1)

pub same_state : (c : Code) (mid new : Local) → IsState c (thread_of c mid) → thread_of c new ≡ thread_of c mid → IsState c (thread_of c new)
same_state c mid new state e = subst (IsState c) (sym e) state
