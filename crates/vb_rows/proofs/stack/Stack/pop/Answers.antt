use Rattle.std.proofs.Common.{arith}
use Rattle.vb_ends.proofs.Counting.{counted_last, counted_pop}
use Rattle.vb_rows.specs.Stacks.{sorts_of}
use Rattle.vb_rows.proofs.Stacks.{as_open, sorts_more}
use Rattle.vb_rows.proofs.stack.Stack.pop.Goals as goal

pub overflow_sub-self : goal.overflow_sub-self
overflow_sub-self c =
    let less = sorts_more c.pop.new.self c.self.inside.blocks c.in-Some.last c.in-Some.ensures in
    let last = counted_last c.self.inside.counts (sorts_of c.self.inside.blocks) (sorts_of c.pop.new.self) (as_open c.in-Some.last) c.number.result c.number.ensures.is less c.self.invariant in omega (arith, last)

pub invariant_of-self-2 : goal.invariant_of-self-2
invariant_of-self-2 c =
    counted_pop c.self.inside.counts (sorts_of c.self.inside.blocks) (sorts_of c.pop.new.self) (as_open c.in-Some.last) c.number.result c.number.ensures.is (omega (arith, c.self.told, c.number.ensures.below))
    (sorts_more c.pop.new.self c.self.inside.blocks c.in-Some.last c.in-Some.ensures) c.self.invariant
