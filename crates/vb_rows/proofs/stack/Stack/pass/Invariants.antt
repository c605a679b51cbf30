use Rattle.std.proofs.Common.{◌≡◌, reverse, length}
use Rattle.vb_rows.specs.Stacks.{passed}
use Rattle.vb_rows.proofs.stack.Stack.pass.Given as goal

abbrev pub invariant-loop-block : goal.invariant-loop-block
invariant-loop-block l = passed l.sort (reverse l.self) ≡ passed l.sort (reverse l.fn.self)

abbrev pub decreases-loop-block : goal.decreases-loop-block
decreases-loop-block l = length l.self
