use Rattle.std.proofs.Common.{◌≡◌, reverse, length}
use Rattle.vb_ends.specs.Stack.{passed}
use Rattle.vb_ends.proofs.blocks.Blocks.pass.Given as goal

abbrev pub invariant-loop-block : goal.invariant-loop-block
invariant-loop-block l = passed l.sort (reverse l.self.stack) l.self.first ≡ passed l.sort (reverse l.fn.self.stack) l.fn.self.first

abbrev pub decreases-loop-block : goal.decreases-loop-block
decreases-loop-block l = length l.self.stack
