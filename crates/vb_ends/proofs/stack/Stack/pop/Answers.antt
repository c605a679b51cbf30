use Rattle.std.proofs.Common.{arith}
use Rattle.vb_ends.proofs.Counting.{counted_last, counted_pop}
use Rattle.vb_ends.proofs.stack.Stack.pop.Goals as goal

pub overflow_sub-self : goal.overflow_sub-self
overflow_sub-self c =
    let last = counted_last c.self.inside.counts c.self.inside.blocks c.pop.new.self c.in-Some.last c.number.result c.number.ensures.is c.in-Some.ensures c.self.invariant in omega (arith, last)

pub invariant_of-self-2 : goal.invariant_of-self-2
invariant_of-self-2 c =
    counted_pop c.self.inside.counts c.self.inside.blocks c.pop.new.self c.in-Some.last c.number.result c.number.ensures.is (omega (arith, c.self.told, c.number.ensures.below)) c.in-Some.ensures c.self.invariant
