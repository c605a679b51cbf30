use Rattle.std.proofs.Common.{◌∙◌, sym, reverse}
use Rattle.vb_rows.proofs.Stacks.{statement_popped, statement_left}
use Rattle.vb_rows.proofs.stack.Stack.end_statement.Goals as goal

pub returns-then-is_innermost : goal.returns-then-is_innermost
returns-then-is_innermost c = statement_popped c.args.sort c.args.self.now c.pop.new.self c.pop.result c.pop.ensures (sym c.is_innermost.ensures ∙ c.if-is_innermost.true)

pub returns : goal.returns
returns c = statement_left c.args.sort (reverse c.args.self.now) (sym c.is_innermost.ensures ∙ c.if-is_innermost.false)
