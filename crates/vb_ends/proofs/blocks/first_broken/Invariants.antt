use Rattle.std.proofs.Common.{reverse, take}
use Rattle.vb_ends.specs.Stack.{Tracks}
use Rattle.vb_ends.proofs.blocks.first_broken.Given as goal

abbrev pub invariant-loop-mark : goal.invariant-loop-mark
invariant-loop-mark l = Tracks l.blocks (reverse (take l.mark-index l.marks))
