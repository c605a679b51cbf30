use Rattle.vb_rows.proofs.Stacks.{holds_told}
use Rattle.vb_rows.proofs.stack.Stack.holds.Goals as goal

pub returns : goal.returns
returns c = holds_told c.self.inside.counts c.self.inside.blocks c.args.self.now c.number.result c.args.sort c.self.invariant c.number.ensures.is c.self.view_is
