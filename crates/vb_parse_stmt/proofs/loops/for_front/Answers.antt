use Rattle.std.proofs.Common.{rules, ◌≡◌, Err}
use Rattle.vb_parse_stmt.specs.declared.front.Front.TheVariants as front
use Rattle.vb_parse_stmt.specs.{Reading.IsItemFrom, BlockParts.{IsEach, IsCounted}}
use Rattle.vb_parse_decl.proofs.Refusals.{passed_on}
use Rattle.vb_parse_stmt.proofs.LoopRefusals.{no_for_each, no_for}
use Rattle.vb_parse_stmt.proofs.loops.for_front.Goals as goal

pub returns-in_err-variable : goal.returns-in_err-variable
returns-in_err-variable c =
    let same : c.from_residual.result ≡ Err c.in_err-variable.field-0.0 = search (rules, c.from_residual.ensures) in
    passed_on IsEach (IsItemFrom c.args.context.now front.For) c.args.line.now _ _ c.in_err-variable.field-0.0 c.from_residual.result same
    (no_for_each c.args.context.now c.args.line.now.tokens (c.if-is_word_at.ensures.answer.0 (search rules))) c.in_err-variable.ensures

pub returns-in_err-variable-2 : goal.returns-in_err-variable-2
returns-in_err-variable-2 c =
    let same : c.from_residual-in_err-variable-2.result ≡ Err c.in_err-variable-2.field-0.0 = search (rules, c.from_residual-in_err-variable-2.ensures) in
    passed_on IsCounted (IsItemFrom c.args.context.now front.For) c.args.line.now _ _ c.in_err-variable-2.field-0.0 c.from_residual-in_err-variable-2.result same
    (no_for c.args.context.now c.args.line.now.tokens (λ at. search (rules, c.if-is_word_at.ensures.answer, at))) c.in_err-variable-2.ensures
