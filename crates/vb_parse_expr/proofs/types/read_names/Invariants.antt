use Rattle.std.proofs.Common.{◌≡◌, ◌-◌, [], length}
use Rattle.vb_parse_expr.specs.TypeReading as spec
use Rattle.vb_parse_expr.proofs.types.read_names.Given as goal

abbrev pub invariant-loop-turn : goal.invariant-loop-turn
invariant-loop-turn l =
    spec.names (length l.tokens) [] l.tokens ≡ spec.names (l._turn-end - l._turn) l.names l.rest
