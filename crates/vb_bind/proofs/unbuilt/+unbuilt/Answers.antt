use Rattle.std.proofs.Common.{sym, subst, ◌∙◌}
use Rattle.vb_diag.specs.Broken.{IsLeastLine}
use Rattle.vb_bind.specs.Grammar.{HasUnbuiltStatement}
use Rattle.vb_bind.proofs.Least.{least_behind, least_whole, least_itself, least_inside, least_nothing}
use Rattle.vb_bind.proofs.unbuilt.+unbuilt.Goals as goal

pub first_in_block-loop-statement-preserved : goal.first_in_block-loop-statement-preserved
first_in_block-loop-statement-preserved t c =
    least_behind c.args.known.now c.args.block.now c.loop-statement.statement-index c.statement-item.result c.loop-statement.first c.first_in_statement.result c.lesser-first.result c.loop-statement-test.true c.statement-item.is c.lesser-first.ensures c.loop-statement.invariant c.first_in_statement.ensures

pub first_in_block-returns : goal.first_in_block-returns
first_in_block-returns t c = least_whole c.args.known.now c.args.block.now c.loop-statement.statement-index c.loop-statement.first c.loop-statement-test.false c.loop-statement.invariant

pub first_in_statement-returns-then-not-is_built :
    goal.first_in_statement-returns-then-not-is_built
first_in_statement-returns-then-not-is_built t c = least_itself c.args.known.now c.args.statement.now (sym c.is_built.ensures ∙ c.if-not-is_built.true)

pub first_in_statement-returns-in-While : goal.first_in_statement-returns-in-While
first_in_statement-returns-in-While t c =
    let known = c.args.known.now in
    least_inside known c.args.statement.now c.in-While.field-0 c.in-While.body c.first_in_block.result c.in-While.is (sym c.is_built.ensures ∙ c.if-not-is_built.false)
    (subst (λ ss. IsLeastLine (λ n. HasUnbuiltStatement known n ss) c.first_in_block.result) c.as_slice.ensures c.first_in_block.ensures)

pub first_in_statement-returns-in_default : goal.first_in_statement-returns-in_default
first_in_statement-returns-in_default t c = least_nothing c.args.known.now c.args.statement.now c.in_default.not-While (sym c.is_built.ensures ∙ c.if-not-is_built.false)
