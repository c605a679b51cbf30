use Rattle.std.proofs.Common.{◌≡◌, length}
use Rattle.vb_parse.specs.Modifiers.{are_at_odds}
use Rattle.vb_parse.proofs.modifiers.are_at_odds.Given as goal

abbrev pub invariant-loop-rest : goal.invariant-loop-rest
invariant-loop-rest l = are_at_odds l.rest ≡ are_at_odds l.modifiers

abbrev pub decreases-loop-rest : goal.decreases-loop-rest
decreases-loop-rest l = length l.rest
