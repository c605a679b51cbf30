use Rattle.std.proofs.Common.{◌∙◌}
use Rattle.vb_rows.proofs.Stacks.{none_innermost, last_innermost}
use Rattle.vb_rows.proofs.stack.Stack.is_innermost.Goals as goal

pub returns-in-Some : goal.returns-in-Some
returns-in-Some c = c.is_same.ensures ∙ last_innermost c.args.sort c.args.self.now c.in-Some.ensures.0 c.in-Some.block c.in-Some.ensures.1

pub returns-in-None : goal.returns-in-None
returns-in-None c = none_innermost c.args.sort c.args.self.now c.in-None.ensures
