use Rattle.vb_ends.proofs.Counting.{counted_none}
use Rattle.vb_rows.specs.Stacks.{sorts_of}
use Rattle.vb_rows.proofs.{Stacks.{sorts_none}}
use Rattle.vb_rows.proofs.stack.Stack.new.Goals as goal

pub invariant_of-result : goal.invariant_of-result
invariant_of-result c = counted_none (sorts_of c.new.result) (sorts_none c.new.result c.new.ensures)
