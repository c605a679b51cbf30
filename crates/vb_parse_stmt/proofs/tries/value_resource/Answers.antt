use Rattle.std.proofs.Common.{rules, ◌≡◌, Err}
use Rattle.vb_parse_decl.proofs.Refusals.{passed_on}
use Rattle.vb_parse_decl.specs.Parts.{IsExpression}
use Rattle.vb_parse_stmt.specs.Statements.{IsResource}
use Rattle.vb_parse_stmt.proofs.GuardResources.{no_value_resource}
use Rattle.vb_parse_stmt.proofs.tries.value_resource.Goals as goal

pub returns-in_err-value : goal.returns-in_err-value
returns-in_err-value c =
    let same : c.from_residual.result ≡ Err c.in_err-value.field-0.0 = search (rules, c.from_residual.ensures) in
    passed_on IsExpression IsResource c.args.line.now _ _ c.in_err-value.field-0.0 c.from_residual.result same
    (no_value_resource c.args.line.now.tokens c.requires.undeclared) c.in_err-value.ensures
