use Rattle.std.proofs.Common.{◌≡◌, length}
use Rattle.vb_parse_expr.specs.Words as spec
use Rattle.vb_parse_expr.proofs.words.has_unused.Given as goal

abbrev pub invariant-loop-rest : goal.invariant-loop-rest
invariant-loop-rest l = spec.has_unused l.fn.tokens ≡ spec.has_unused l.rest

abbrev pub decreases-loop-rest : goal.decreases-loop-rest
decreases-loop-rest l = length l.rest
