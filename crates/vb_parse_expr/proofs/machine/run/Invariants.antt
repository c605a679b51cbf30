use Rattle.std.proofs.Common.{◌≡◌, ◌-◌, []}
use Rattle.vb_parse_expr.specs.declared.machine.State.TheVariants as at
use Rattle.vb_parse_expr.specs.TypeReading.{most_turns}
use Rattle.vb_parse_expr.specs.MachineReading as spec
use Rattle.vb_parse_expr.proofs.machine.run.Given as goal

abbrev pub invariant-loop-turn : goal.invariant-loop-turn
invariant-loop-turn l =
    spec.run l.goal most_turns [] at.Want l.tokens ≡ spec.run l.goal (most_turns - l._turn) l.waiting l.state l.rest

abbrev pub decreases-loop-turn : goal.decreases-loop-turn
decreases-loop-turn l = most_turns - l._turn
