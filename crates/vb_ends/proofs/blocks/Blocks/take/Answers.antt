use Rattle.std.proofs.Common.{◌≡◌, List, ◌∷◌, subst, sym}
use Rattle.vb_ends.specs.{declared.role.Mark.Mark, Stack.{Tracks, IsState, state_of, stepped}}
use Rattle.vb_ends.proofs.Machine.{on_ok, state_next}
use Rattle.vb_ends.proofs.blocks.Blocks.take.Goals as goal

pub returns-clause-ok : goal.returns-clause-ok
returns-clause-ok c =
    on_ok c.step.result (state_of c.step.new.self ≡ stepped c.args.role c.args.line (state_of c.args.self.now))
    ((marks : List Mark) → Tracks c.args.self.now marks → Tracks c.step.new.self (record { role = c.args.role; line = c.args.line } ∷ marks))
    (λ e marks t. subst (λ st. IsState st (record { role = c.args.role; line = c.args.line } ∷ marks)) (sym e) (state_next c.args.role c.args.line (state_of c.args.self.now) marks t))
    c.step.ensures.ok
