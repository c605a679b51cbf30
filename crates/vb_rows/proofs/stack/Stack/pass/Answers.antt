use Rattle.std.proofs.Common.{◌∙◌, sym}
use Rattle.vb_rows.proofs.Stacks.{passed_here, passed_next, passed_none}
use Rattle.vb_rows.proofs.stack.Stack.pass.Goals as goal

pub returns-then-is_same : goal.returns-then-is_same
returns-then-is_same c = sym (passed_here c.args.sort c.loop-block.self c.pop.new.self c.in-Some.block c.in-Some.ensures (sym c.is_same.ensures ∙ c.if-is_same.true)) ∙ c.loop-block.invariant

pub loop-block-preserved : goal.loop-block-preserved
loop-block-preserved c = sym (passed_next c.args.sort c.loop-block.self c.pop.new.self c.in-Some.block c.in-Some.ensures (sym c.is_same.ensures ∙ c.if-is_same.false)) ∙ c.loop-block.invariant

pub returns : goal.returns
returns c = passed_none c.args.sort c.loop-block.self c.pop.new.self c.in_default.ensures ∙ c.loop-block.invariant
