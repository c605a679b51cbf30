-- Where the test of a loop isn't an expression, there is no condition.
use Rattle.std.proofs.Common.{rules, ◌≡◌, Err, Some}
use Rattle.std.specs.List.{slice_get}
use Rattle.vb_syntax.specs.declared.keyword.Keyword.TheVariants as word
use Rattle.vb_syntax.specs.declared.tokens.Token.TheVariants as token
use Rattle.vb_parse_decl.specs.Parts.{reserved, IsExpression, IsOptional}
use Rattle.vb_parse_stmt.specs.Statements.{IsCondition}
use Rattle.vb_parse_decl.proofs.Refusals.{passed_on}
use Rattle.vb_parse_stmt.proofs.{BlockParted.dropped_at, LoopRefusals.{no_while_condition, no_until_condition}}
use Rattle.vb_parse_stmt.proofs.loops.condition.Goals as goal

pub returns-in_err-test : goal.returns-in_err-test
returns-in_err-test c =
    let same : c.from_residual.result ≡ Err c.in_err-test.field-0.0 = search (rules, c.from_residual.ensures) in
    let found : slice_get c.args.line.now.tokens 1 ≡ Some (reserved word.While) = search rules in
    let here = dropped_at c.args.line.now.tokens 1 (reserved word.While) found in
    passed_on IsExpression (IsOptional (IsCondition c.args.context.now.words)) c.args.line.now _ _
    c.in_err-test.field-0.0 c.from_residual.result same (no_while_condition c.args.context.now.words _ _ here) c.in_err-test.ensures

pub returns-in_err-test-2 : goal.returns-in_err-test-2
returns-in_err-test-2 c =
    let same : c.from_residual-in_err-test-2.result ≡ Err c.in_err-test-2.field-0.0 = search (rules, c.from_residual-in_err-test-2.ensures) in
    let found : slice_get c.args.line.now.tokens 1 ≡ Some (token.Name c.args.context.now.words.until) = search rules in
    let here = dropped_at c.args.line.now.tokens 1 (token.Name c.args.context.now.words.until) found in
    passed_on IsExpression (IsOptional (IsCondition c.args.context.now.words)) c.args.line.now _ _
    c.in_err-test-2.field-0.0 c.from_residual-in_err-test-2.result same (no_until_condition c.args.context.now.words _ _ here) c.in_err-test-2.ensures
