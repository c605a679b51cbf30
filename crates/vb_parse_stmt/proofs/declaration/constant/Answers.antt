use Rattle.std.proofs.Common.{rules, ◌≡◌, Err}
use Rattle.vb_parse_stmt.specs.declared.front.Front.TheVariants as front
use Rattle.vb_parse_decl.specs.{Parts.AreListed, Declarators.IsDeclarator}
use Rattle.vb_parse_stmt.specs.Reading.{IsItemFrom}
use Rattle.vb_parse_decl.proofs.Refusals.{passed_on}
use Rattle.vb_parse_stmt.proofs.DeclaredItems.{no_constant}
use Rattle.vb_parse_stmt.proofs.declaration.constant.Goals as goal

pub returns-in_err-found : goal.returns-in_err-found
returns-in_err-found c =
    let same : c.from_residual.result ≡ Err c.in_err-found.field-0.0 = search (rules, c.from_residual.ensures) in
    passed_on (AreListed IsDeclarator) (IsItemFrom c.args.context.now front.Const) c.args.line.now _ _ c.in_err-found.field-0.0 c.from_residual.result same
    (λ none. no_constant c.args.context.now c.args.line.now.tokens none) c.in_err-found.ensures
