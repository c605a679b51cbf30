use Rattle.vb_ends.proofs.Counting.{counted_none}
use Rattle.vb_ends.proofs.stack.Stack.new.Goals as goal

pub invariant_of-result : goal.invariant_of-result
invariant_of-result c = counted_none c.new.result c.new.ensures
