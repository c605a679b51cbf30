-- A turn of the reading of an expression.
use Rattle.std.proofs.Common.{◌≡◌, ℕ, suc, List, Some, None, Ok, Err, refl, ap, ◌∙◌}
use Rattle.vb_syntax.specs.declared.{tokens.Token.Token, expression.VariableInitializer.VariableInitializer}
use Rattle.vb_parse_expr.specs.{declared.{pending.{Pending.Pending, Goal.Goal}, machine.State.State}, MachineReading.{run, step, step_ends, turn_ends, finished}}
use Rattle.vb_parse_expr.specs.declared.machine.State.TheVariants as at

pub unfinished : (s : State) → ((i : VariableInitializer) → s ≡ at.Done i → ⊥) → finished s ≡ Err s
unfinished at.Want on = refl
unfinished (at.Primary x) on = refl
unfinished (at.Braces is) on = refl
unfinished (at.Done i) on = absurd (on i refl)

pub turn_on : (goal : Goal) (n : ℕ) (ws : List Pending) (s : State) (ts : List Token) (p : List Pending × State × List Token) (t : State)
    → step goal ws s ts ≡ Some p → finished p.1 ≡ Err t → run goal (suc n) ws s ts ≡ run goal n p.0 t p.2
unfolding run
turn_on goal n ws s ts p t e f = ap (step_ends (run goal n)) e ∙ ap (turn_ends (run goal n) p.0 p.2) f

pub turn_done : (goal : Goal) (n : ℕ) (ws : List Pending) (s : State) (ts : List Token) (p : List Pending × State × List Token) (x : VariableInitializer)
    → step goal ws s ts ≡ Some p → finished p.1 ≡ Ok x → run goal (suc n) ws s ts ≡ Some (x, p.2)
unfolding run
turn_done goal n ws s ts p x e f = ap (step_ends (run goal n)) e ∙ ap (turn_ends (run goal n) p.0 p.2) f

pub turn_fails : (goal : Goal) (n : ℕ) (ws : List Pending) (s : State) (ts : List Token) → step goal ws s ts ≡ None → run goal (suc n) ws s ts ≡ None
unfolding run
turn_fails goal n ws s ts e = ap (step_ends (run goal n)) e
