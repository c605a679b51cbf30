use Rattle.std.proofs.Common.{rules, ◌≡◌, Err}
use Rattle.vb_parse_stmt.specs.declared.front.Front.TheVariants as front
use Rattle.vb_parse_decl.specs.Parts.{IsExpression, IsOptional}
use Rattle.vb_parse_stmt.specs.Reading.{IsItemFrom}
use Rattle.vb_parse_decl.proofs.Refusals.{passed_on}
use Rattle.vb_parse_stmt.proofs.SimpleForms.{no_throw}
use Rattle.vb_parse_stmt.proofs.simple.throw.Goals as goal

pub returns-in_err-thrown : goal.returns-in_err-thrown
returns-in_err-thrown c =
    let same : c.from_residual.result ≡ Err c.in_err-thrown.field-0.0 = search (rules, c.from_residual.ensures) in
    passed_on (IsOptional IsExpression) (IsItemFrom c.args.context.now front.Throw) c.args.line.now _ _ c.in_err-thrown.field-0.0 c.from_residual.result same
    (λ none. no_throw c.args.context.now c.args.line.now.tokens none) c.in_err-thrown.ensures
