use Rattle.std.proofs.Common.{◌∙◌, ap, reverse}
use Rattle.vb_ends.specs.Counts.{holds}
use Rattle.vb_ends.proofs.Counting.{counted_holds}
use Rattle.vb_ends.proofs.stack.Stack.holds.Goals as goal

pub returns : goal.returns
returns c =
    counted_holds c.self.inside.counts c.self.inside.blocks c.number.result c.args.sort c.self.invariant c.number.ensures.is
    ∙ ap (λ xs. holds c.args.sort (reverse xs)) c.self.view_is
