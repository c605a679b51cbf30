use Rattle.std.proofs.Common.{◌≡◌, reverse, length}
use Rattle.vb_blocks.specs.Steps.{else_begins}
use Rattle.vb_tree.proofs.Frames.{else_begins_of}
use Rattle.vb_tree.proofs.lines.else_begins.Given as goal

abbrev pub invariant-loop-frame : goal.invariant-loop-frame
invariant-loop-frame l = else_begins_of l.frame (reverse l.below) ≡ else_begins l.fn.scope l.fn.body (reverse l.fn.below)

abbrev pub decreases-loop-frame : goal.decreases-loop-frame
decreases-loop-frame l = length l.below
