use Rattle.std.proofs.Common.{◌≡◌, ◌++◌, reverse, length}
use Rattle.vb_tree.proofs.tree.reversed.Given as goal

abbrev pub invariant-loop-row : goal.invariant-loop-row
invariant-loop-row l = l.fn.rows ≡ l.left ++ reverse l.rest

abbrev pub decreases-loop-row : goal.decreases-loop-row
decreases-loop-row l = length l.left
