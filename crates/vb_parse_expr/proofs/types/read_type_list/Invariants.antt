use Rattle.std.proofs.Common.{◌≡◌, ◌-◌, [], length}
use Rattle.vb_parse_expr.specs.TypeReading as spec
use Rattle.vb_parse_expr.proofs.types.read_type_list.Given as goal

abbrev pub invariant-loop-turn : goal.invariant-loop-turn
invariant-loop-turn l =
    spec.type_list (length l.tokens) [] l.tokens ≡ spec.type_list (l._turn-end - l._turn) l.found l.rest
