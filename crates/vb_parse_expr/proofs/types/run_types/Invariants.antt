use Rattle.std.proofs.Common.{◌≡◌, ◌-◌}
use Rattle.vb_parse_expr.specs.declared.types.TypeState.TheVariants as at
use Rattle.vb_parse_expr.specs.TypeReading as spec
use Rattle.vb_parse_expr.proofs.types.run_types.Given as goal

abbrev pub invariant-loop-turn : goal.invariant-loop-turn
invariant-loop-turn l =
    spec.run_types spec.most_turns l.fn.waiting at.Want l.tokens ≡ spec.run_types (spec.most_turns - l._turn) l.waiting l.state l.rest

abbrev pub decreases-loop-turn : goal.decreases-loop-turn
decreases-loop-turn l = spec.most_turns - l._turn
