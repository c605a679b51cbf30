use Rattle.std.proofs.Common.{◌≡◌, reverse, length}
use Rattle.vb_ends.specs.Stack.{left}
use Rattle.vb_ends.proofs.blocks.Blocks.finish.Given as goal

abbrev pub invariant-loop-block : goal.invariant-loop-block
invariant-loop-block l = left (reverse l.stack) l.first ≡ left (reverse l.fn.self.stack) l.fn.self.first

abbrev pub decreases-loop-block : goal.decreases-loop-block
decreases-loop-block l = length l.stack
