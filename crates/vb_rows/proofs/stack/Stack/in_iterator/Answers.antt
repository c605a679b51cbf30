use Rattle.vb_rows.proofs.Stacks.{none_iterates, last_iterates}
use Rattle.vb_rows.proofs.stack.Stack.in_iterator.Goals as goal

pub returns-in-Some : goal.returns-in-Some
returns-in-Some c = last_iterates c.args.self.now c.in-Some.ensures.0 c.in-Some.block c.in-Some.ensures.1

pub returns-in-None : goal.returns-in-None
returns-in-None c = none_iterates c.args.self.now c.in-None.ensures
