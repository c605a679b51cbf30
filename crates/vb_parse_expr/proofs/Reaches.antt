-- From one state of the reading to another in a count of turns, at most two for each token.
use Rattle.std.proofs.Common.{◌≡◌, ℕ, suc, ◌+◌, ◌-◌, ◌*◌, ◌<◌, ◌≤◌, List, length, Some, Err, ap, ◌∙◌, arith}
use Rattle.vb_syntax.specs.declared.{tokens.Token.Token, expression.VariableInitializer.VariableInitializer}
use Rattle.vb_parse_expr.specs.{declared.{pending.{Pending.Pending, Goal.Goal}, machine.State.State}, MachineReading.{step, run, step_ends, turn_ends, finished}}
use Rattle.vb_parse_expr.specs.declared.machine.State.TheVariants as at

-- from one state to the other, in so many turns
pub record Reaches (goal : Goal) (ws : List Pending) (s : State) (ts : List Token) (ws' : List Pending) (s' : State) (ts' : List Token) : Type 0 where
  pub turns : ℕ
  pub few : turns + 2 * length ts' ≤ 2 * length ts
  pub same : (m : ℕ) → run goal (turns + m) ws s ts ≡ run goal m ws' s' ts'

-- a turn that ends nothing
turn : (goal : Goal) (m : ℕ) (ws : List Pending) (s : State) (ts : List Token) (p : List Pending × State × List Token)
    → step goal ws s ts ≡ Some p → finished p.1 ≡ Err p.1 → run goal (suc m) ws s ts ≡ run goal m p.0 p.1 p.2
unfolding run
turn goal m ws s ts p e going = ap (step_ends (run goal m)) e ∙ ap (turn_ends (run goal m) p.0 p.2) going

module _ {goal : Goal} where
  pub nothing : (ws : List Pending) (s : State) (ts : List Token) → Reaches goal ws s ts ws s ts
  nothing ws s ts = record {
    turns = 0;
    few = omega arith;
    same = λ m. let e : 0 + m ≡ m = omega arith in ap (λ n. run goal n ws s ts) e;
  }

  pub then : {ws ws' ws″ : List Pending} {s s' s″ : State} {ts ts' ts″ : List Token}
      → Reaches goal ws s ts ws' s' ts' → Reaches goal ws' s' ts' ws″ s″ ts″ → Reaches goal ws s ts ws″ s″ ts″
  then {ws = ws} {s = s} {ts = ts} f g = record {
    turns = f.turns + g.turns;
    few = omega (arith, f.few, g.few);
    same = λ m. let e : f.turns + g.turns + m ≡ f.turns + (g.turns + m) = omega arith in
        ap (λ n. run goal n ws s ts) e ∙ f.same (g.turns + m) ∙ g.same m;
  }

  pub one_step : (ws : List Pending) (s : State) (ts : List Token) (ws' : List Pending) (s' : State) (ts' : List Token)
      → step goal ws s ts ≡ Some (ws', s', ts') → finished s' ≡ Err s' → length ts' < length ts → Reaches goal ws s ts ws' s' ts'
  one_step ws s ts ws' s' ts' e going shorter = record {
    turns = 1;
    few = omega arith;
    same = λ m. let plus : 1 + m ≡ suc m = omega arith in
        ap (λ n. run goal n ws s ts) plus ∙ turn goal m ws s ts (ws', s', ts') e going;
  }

  -- a token that is taken by one step, with a step that takes none behind all that follows it
  pub around : (ws : List Pending) (s : State) (ts : List Token) (ws₁ : List Pending) (s₁ : State) (ts₁ : List Token)
      (ws₂ : List Pending) (s₂ : State) (ts₂ : List Token) (ws₃ : List Pending) (s₃ : State)
      → step goal ws s ts ≡ Some (ws₁, s₁, ts₁) → finished s₁ ≡ Err s₁ → length ts₁ < length ts → Reaches goal ws₁ s₁ ts₁ ws₂ s₂ ts₂
      → step goal ws₂ s₂ ts₂ ≡ Some (ws₃, s₃, ts₂) → finished s₃ ≡ Err s₃ → Reaches goal ws s ts ws₃ s₃ ts₂
  around ws s ts ws₁ s₁ ts₁ ws₂ s₂ ts₂ ws₃ s₃ e going shorter inner e₂ going₂ = record {
    turns = inner.turns + 2;
    few = omega (arith, inner.few);
    same = λ m. let plus : inner.turns + 2 + m ≡ suc (inner.turns + suc m) = omega arith in
        ap (λ n. run goal n ws s ts) plus ∙ turn goal (inner.turns + suc m) ws s ts (ws₁, s₁, ts₁) e going
        ∙ inner.same (suc m) ∙ turn goal m ws₂ s₂ ts₂ (ws₃, s₃, ts₂) e₂ going₂;
  }

  -- the last turn
  pub ends : {ws ws' ws″ : List Pending} {s s' : State} {ts rest : List Token} {i : VariableInitializer} (most : ℕ)
      → Reaches goal ws s ts ws' s' rest → step goal ws' s' rest ≡ Some (ws″, at.Done i, rest) → 2 * length ts < most
      → run goal most ws s ts ≡ Some (i, rest)
  unfolding run
  ends {ws = ws} {ws' = ws'} {ws″ = ws″} {s = s} {s' = s'} {ts = ts} {rest = rest} {i = i} most f e enough =
      let left = most - (f.turns + 1) in
      let turns : most ≡ f.turns + suc left = omega (arith, f.few) in
      ap (λ n. run goal n ws s ts) turns ∙ f.same (suc left) ∙ ap (step_ends (run goal left)) e
