-- Every step of the reading keeps what is known, up to its end.
use Rattle.std.proofs.Common.{◌≡◌, ℕ, zero, suc, List, [], Some, None, refl, subst}
use Rattle.vb_syntax.specs.declared.{tokens.Token.Token, expression.VariableInitializer.VariableInitializer}
use Rattle.vb_parse_expr.specs.{declared.{pending.{Pending.Pending, Goal.Goal}, machine.State.State}, TypeReading.popped}
use Rattle.vb_parse_expr.specs.declared.machine.State.TheVariants as at
use Rattle.vb_parse_expr.specs.MachineReading as machine
use Rattle.vb_parse_expr.proofs.{Waiting.{nothing, Wanting, Ended, Holds, Keeps}, Wanting.want_keeps, Closes.braces_keep, Primaries.primary_keeps}

module _ (goal : Goal) (all : List Token) where
  step_keeps : (ws : List Pending) (s : State) (ts : List Token) → Holds goal all ws s ts → Keeps goal all (machine.step goal ws s ts)
  unfolding machine.step
  step_keeps ws at.Want ts h = want_keeps goal all ws ts h
  step_keeps ws (at.Primary x) ts h = primary_keeps goal all ws x ts h
  step_keeps ws (at.Braces is) ts h = braces_keep goal all ws is ts h
  step_keeps ws (at.Done i) ts h = h

  abbrev RunsTo : ℕ → VariableInitializer → List Token → Type 0
  RunsTo n i rest = (ws : List Pending) (s : State) (ts : List Token) → Holds goal all ws s ts
      → machine.run goal n ws s ts ≡ Some (i, rest) → Ended goal all i rest

  step_ends_at : (n : ℕ) (i : VariableInitializer) (rest : List Token) (r : machine.Step) → Keeps goal all r
      → machine.step_ends (machine.run goal n) r ≡ Some (i, rest) → RunsTo n i rest → Ended goal all i rest
  step_ends_at n i rest None h e again = cc
  step_ends_at n i rest (Some (ws, at.Want, ts)) h e again = again ws at.Want ts h e
  step_ends_at n i rest (Some (ws, at.Primary x, ts)) h e again = again ws (at.Primary x) ts h e
  step_ends_at n i rest (Some (ws, at.Braces is, ts)) h e again = again ws (at.Braces is) ts h e
  step_ends_at n i rest (Some (ws, at.Done j, ts)) h e again =
      let same : ◌≡◌ {A = VariableInitializer × List Token} (j, ts) (i, rest) = cc in
      subst (λ (p : VariableInitializer × List Token). Ended goal all p.0 p.1) same h

  run_keeps : (n : ℕ) (i : VariableInitializer) (rest : List Token) → RunsTo n i rest
  unfolding machine.run
  run_keeps zero i rest ws s ts h e = cc
  run_keeps (suc n) i rest ws s ts h e =
      step_ends_at n i rest (machine.step goal ws s ts) (step_keeps ws s ts h) e (λ vs t us h' e'. run_keeps n i rest vs t us h' e')

none_popped : popped {A = Pending} [] ≡ None
unfolding popped
none_popped = refl

pub run_ended : (goal : Goal) (n : ℕ) (ts rest : List Token) (i : VariableInitializer) → machine.run goal n [] at.Want ts ≡ Some (i, rest)
    → Ended goal ts i rest
run_ended goal n ts rest i e =
    let start : Wanting goal ts [] ts = record { used = []; split = refl; waits = nothing [] none_popped } in
    run_keeps goal ts n i rest [] at.Want ts start e
