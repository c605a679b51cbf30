use Rattle.std.proofs.Common.{◌≡◌, ◌∙◌, sym, ap, subst, reverse}
use Rattle.vb_ends.specs.{Stack.{left, state_of}, Enders.BreaksBackwards}
use Rattle.vb_diag.specs.Broken.{IsLeastLine}
use Rattle.vb_ends.proofs.Machine.{left_next, left_none, state_last}
use Rattle.vb_ends.proofs.blocks.Blocks.finish.Goals as goal

pub loop-block-preserved : goal.loop-block-preserved
loop-block-preserved c =
    ap (λ n. left (reverse c.pop.new.self) n) c.lesser-first.ensures ∙ sym (left_next c.pop.new.self c.in-Some.block c.loop-block.first)
    ∙ sym (ap (λ xs. left (reverse xs) c.loop-block.first) c.in-Some.ensures) ∙ c.loop-block.invariant

pub returns : goal.returns
returns c = λ marks t.
    let last : c.loop-block.first ≡ left (reverse c.args.self.stack) c.args.self.first =
    sym (left_none c.loop-block.stack c.loop-block.first c.in_default.ensures.0) ∙ c.loop-block.invariant in
    subst (λ n. IsLeastLine (BreaksBackwards marks) n) (sym last) (state_last (state_of c.args.self) marks t)
