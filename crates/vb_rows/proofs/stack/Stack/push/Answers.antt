use Rattle.std.proofs.Common.{◌+◌, refl, arith, slice_index_or}
use Rattle.vb_ends.proofs.Counting.{counted_push, counted_within}
use Rattle.vb_rows.specs.Stacks.{sorts_of}
use Rattle.vb_rows.proofs.Stacks.{as_open, sorts_more, sorts_length}
use Rattle.vb_rows.proofs.stack.Stack.push.Goals as goal

pub prove-unreachable-requires : goal.prove-unreachable-requires
prove-unreachable-requires c =
    let more = sorts_more c.self.inside.blocks c.push.new.self c.args.block c.in_ok-push.ensures.ok in
    let within = counted_within c.self.inside.counts (sorts_of c.self.inside.blocks) (sorts_of c.push.new.self) (as_open c.args.block) c.number-number.result c.number-number.ensures.is more c.self.invariant in
    let long = sorts_length c.push.new.self in
    omega (arith, within, long, c.len.ensures, c.if-prove.true)

pub invariant_of-self-2 : goal.invariant_of-self-2
invariant_of-self-2 c =
    counted_push c.self.inside.counts (sorts_of c.self.inside.blocks) (sorts_of c.push.new.self) (as_open c.args.block) c.number-number.result (slice_index_or c.self.inside.counts c.number-number.result 0 + 1) c.number-number.ensures.is
    (omega (arith, c.self.told, c.number-number.ensures.below)) refl (sorts_more c.self.inside.blocks c.push.new.self c.args.block c.in_ok-push.ensures.ok) c.self.invariant
