use Rattle.std.proofs.Common.{length}
use Rattle.vb_parse.specs.UpTo.{IsUpTo}
use Rattle.vb_parse.proofs.front.up_to.Given as goal

abbrev pub invariant-loop-row : goal.invariant-loop-row
invariant-loop-row l = IsUpTo l.line l.fn.rows l.front

abbrev pub decreases-loop-row : goal.decreases-loop-row
decreases-loop-row l = length l.front
