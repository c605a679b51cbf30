use Rattle.vb_rows.proofs.Stacks.{block_opened}
use Rattle.vb_rows.proofs.stack.Stack.open.Goals as goal

pub returns : goal.returns
returns c = block_opened c.args.sort c.iterates-in_iterator.result c.args.is_iterator c.args.self.now c.push.new.self c.iterates-in_iterator.ensures c.in_ok-push.ensures
