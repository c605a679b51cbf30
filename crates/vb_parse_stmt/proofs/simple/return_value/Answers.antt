use Rattle.std.proofs.Common.{rules, ◌≡◌, Err}
use Rattle.vb_parse_stmt.specs.declared.front.Front.TheVariants as front
use Rattle.vb_parse_decl.specs.Parts.{IsExpression, IsOptional}
use Rattle.vb_parse_stmt.specs.Reading.{IsItemFrom}
use Rattle.vb_parse_decl.proofs.Refusals.{passed_on}
use Rattle.vb_parse_stmt.proofs.SimpleForms.{no_return}
use Rattle.vb_parse_stmt.proofs.simple.return_value.Goals as goal

pub returns-in_err-returned : goal.returns-in_err-returned
returns-in_err-returned c =
    let same : c.from_residual.result ≡ Err c.in_err-returned.field-0.0 = search (rules, c.from_residual.ensures) in
    passed_on (IsOptional IsExpression) (IsItemFrom c.args.context.now front.Return) c.args.line.now _ _ c.in_err-returned.field-0.0 c.from_residual.result same
    (λ none. no_return c.args.context.now c.args.line.now.tokens none) c.in_err-returned.ensures
