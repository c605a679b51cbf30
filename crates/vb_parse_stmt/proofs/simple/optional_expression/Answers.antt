use Rattle.std.proofs.Common.{rules, ◌≡◌, Err, arith}
use Rattle.vb_parse_decl.specs.Parts.{IsExpression, IsOptional}
use Rattle.vb_parse_decl.proofs.Refusals.{passed_on}
use Rattle.vb_parse_stmt.proofs.SimpleRefusals.{no_optional}
use Rattle.vb_parse_stmt.proofs.simple.optional_expression.Goals as goal

pub returns-in_err-found : goal.returns-in_err-found
returns-in_err-found c =
    let same : c.from_residual.result ≡ Err c.in_err-found.field-0.0 = search (rules, c.from_residual.ensures) in
    passed_on IsExpression (IsOptional IsExpression) c.args.line.now _ _ c.in_err-found.field-0.0 c.from_residual.result same
    (λ none. no_optional c.args.line.now.tokens c.args.from c.requires (λ e. omega arith) none) c.in_err-found.ensures
