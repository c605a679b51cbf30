use Rattle.std.proofs.Common.{rules, ◌≡◌, Err}
use Rattle.vb_parse_stmt.specs.declared.front.Front.TheVariants as front
use Rattle.vb_parse_decl.specs.Parts.{IsExpression}
use Rattle.vb_parse_stmt.specs.Reading.{IsItemFrom}
use Rattle.vb_parse_decl.proofs.Refusals.{passed_on}
use Rattle.vb_parse_stmt.proofs.BlockFronts.{no_with}
use Rattle.vb_parse_stmt.proofs.tries.with.Goals as goal

pub returns-in_err-value : goal.returns-in_err-value
returns-in_err-value c =
    let same : c.from_residual.result ≡ Err c.in_err-value.field-0.0 = search (rules, c.from_residual.ensures) in
    passed_on IsExpression (IsItemFrom c.args.context.now front.With) c.args.line.now _ _ c.in_err-value.field-0.0 c.from_residual.result same
    (no_with c.args.context.now c.args.line.now.tokens) c.in_err-value.ensures
