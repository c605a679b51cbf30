use Rattle.std.proofs.Common.{reverse, length}
use Rattle.vb_tree.proofs.Reaching.{Reaches}
use Rattle.vb_tree.proofs.tree.stand.Given as goal

abbrev pub invariant-loop-row : goal.invariant-loop-row
invariant-loop-row l = Reaches (reverse l.fn.rows) l.rest l.top (reverse l.below)

abbrev pub decreases-loop-row : goal.decreases-loop-row
decreases-loop-row l = length l.rest
