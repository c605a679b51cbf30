use Rattle.std.proofs.Common.{rules, ◌≡◌, Err}
use Rattle.vb_syntax.specs.declared.keyword.Keyword.TheVariants as word
use Rattle.vb_parse_decl.specs.Parts.{reserved, IsExpression}
use Rattle.vb_parse_stmt.specs.BlockParts.{IsCaughtPair}
use Rattle.vb_parse_decl.proofs.Refusals.{passed_on}
use Rattle.vb_parse_stmt.proofs.{BlockParted.dropped_at, GuardRefusals.no_caught_when}
use Rattle.vb_parse_stmt.proofs.tries.caught.Goals as goal

pub returns-in_err-filter : goal.returns-in_err-filter
returns-in_err-filter c =
    let same : c.from_residual.result ≡ Err c.in_err-filter.field-0.0 = search (rules, c.from_residual.ensures) in
    passed_on IsExpression IsCaughtPair c.args.line.now _ _ c.in_err-filter.field-0.0 c.from_residual.result same
    (no_caught_when _ _ (dropped_at c.args.line.now.tokens 1 (reserved word.When) (c.if-is_word_at.ensures.answer.0 (search rules)))) c.in_err-filter.ensures

pub returns-in_ok-filter : goal.returns-in_ok-filter
returns-in_ok-filter c =
    (_, dropped_at c.args.line.now.tokens 1 (reserved word.When) (c.if-is_word_at.ensures.answer.0 (search rules)), c.in_ok-filter.ensures)
