use Rattle.std.proofs.Common.{rules, ◌≡◌, Err}
use Rattle.vb_parse_stmt.specs.declared.front.Front.TheVariants as front
use Rattle.vb_parse_decl.specs.Parts.{IsExpression}
use Rattle.vb_parse_stmt.specs.Reading.{IsItemFrom}
use Rattle.vb_parse_decl.proofs.Refusals.{passed_on}
use Rattle.vb_parse_stmt.proofs.SimpleForms.{no_yield_item}
use Rattle.vb_parse_stmt.proofs.simple.yield_value.Goals as goal

pub returns-in_err-given : goal.returns-in_err-given
returns-in_err-given c =
    let same : c.from_residual.result ≡ Err c.in_err-given.field-0.0 = search (rules, c.from_residual.ensures) in
    passed_on IsExpression (IsItemFrom c.args.context.now front.Yield) c.args.line.now _ _ c.in_err-given.field-0.0 c.from_residual.result same
    (λ none. no_yield_item c.args.context.now c.args.line.now.tokens none) c.in_err-given.ensures
