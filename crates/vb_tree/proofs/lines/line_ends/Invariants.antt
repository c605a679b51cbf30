use Rattle.std.proofs.Common.{◌≡◌, reverse, length}
use Rattle.vb_blocks.specs.Steps.{line_ends}
use Rattle.vb_tree.proofs.Frames.{line_ends_of}
use Rattle.vb_tree.proofs.lines.line_ends.Given as goal

abbrev pub invariant-loop-frame : goal.invariant-loop-frame
invariant-loop-frame l = line_ends_of l.frame (reverse l.below) ≡ line_ends l.fn.scope l.fn.body (reverse l.fn.below)

abbrev pub decreases-loop-frame : goal.decreases-loop-frame
decreases-loop-frame l = length l.below
