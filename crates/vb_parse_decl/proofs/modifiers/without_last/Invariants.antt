use Rattle.std.proofs.Common.{◌≡◌, ◌++◌, length}
use Rattle.vb_parse_decl.specs.ModifierReading as spec
use Rattle.vb_parse_decl.proofs.modifiers.without_last.Given as goal

abbrev pub invariant-loop-rest : goal.invariant-loop-rest
invariant-loop-rest l = l.kept ++ spec.without_last l.rest ≡ spec.without_last l.modifiers

abbrev pub decreases-loop-rest : goal.decreases-loop-rest
decreases-loop-rest l = length l.rest
