use Rattle.std.proofs.Common.{◌≡◌, ◌-◌, length}
use Rattle.vb_parse_expr.specs.MachineReading as spec
use Rattle.vb_parse_expr.proofs.operators.settled.Given as goal

abbrev pub invariant-loop-turn : goal.invariant-loop-turn
invariant-loop-turn l =
    spec.settled l.fn.strength (length l.fn.waiting) l.fn.waiting l.fn.found ≡ spec.settled l.strength (l._turn-end - l._turn) l.waiting l.operand
