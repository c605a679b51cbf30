use Rattle.std.proofs.Common.{◌∙◌, sym, ap, reverse}
use Rattle.vb_ends.specs.Stack.{passed}
use Rattle.vb_ends.proofs.Machine.{passed_here, passed_next, passed_none}
use Rattle.vb_ends.proofs.blocks.Blocks.pass.Goals as goal

pub returns-then-is_same : goal.returns-then-is_same
returns-then-is_same c =
    sym (passed_here c.args.sort c.pop.new.self c.in-Some.block c.loop-block.self.first (sym c.is_same.ensures ∙ c.if-is_same.true))
    ∙ sym (ap (λ xs. passed c.args.sort (reverse xs) c.loop-block.self.first) c.in-Some.ensures) ∙ c.loop-block.invariant

pub loop-block-preserved : goal.loop-block-preserved
loop-block-preserved c =
    ap (λ n. passed c.args.sort (reverse c.pop.new.self) n) c.lesser-self.ensures
    ∙ sym (passed_next c.args.sort c.pop.new.self c.in-Some.block c.loop-block.self.first (sym c.is_same.ensures ∙ c.if-is_same.false))
    ∙ sym (ap (λ xs. passed c.args.sort (reverse xs) c.loop-block.self.first) c.in-Some.ensures) ∙ c.loop-block.invariant

pub returns : goal.returns
returns c = passed_none c.args.sort c.loop-block.self.stack c.pop.new.self c.loop-block.self.first c.in_default.ensures ∙ c.loop-block.invariant
