use Rattle.std.proofs.Common.{◌+◌, refl, arith, slice_index_or}
use Rattle.vb_ends.proofs.Counting.{counted_push, counted_within}
use Rattle.vb_ends.proofs.stack.Stack.push.Goals as goal

pub prove-unreachable-requires : goal.prove-unreachable-requires
prove-unreachable-requires c =
    let within = counted_within c.self.inside.counts c.self.inside.blocks c.push.new.self c.args.block c.number-number.result c.number-number.ensures.is c.in_ok-push.ensures.ok c.self.invariant in
    omega (arith, within, c.len.ensures, c.if-prove.true)

pub invariant_of-self-2 : goal.invariant_of-self-2
invariant_of-self-2 c =
    counted_push c.self.inside.counts c.self.inside.blocks c.push.new.self c.args.block c.number-number.result (slice_index_or c.self.inside.counts c.number-number.result 0 + 1) c.number-number.ensures.is
    (omega (arith, c.self.told, c.number-number.ensures.below)) refl c.in_ok-push.ensures.ok c.self.invariant
