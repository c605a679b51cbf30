use Rattle.std.proofs.Common.{rules, ◌≡◌, Err}
use Rattle.vb_parse_stmt.specs.declared.front.Front.TheVariants as front
use Rattle.vb_parse_stmt.specs.{Reading.IsItemFrom, BlockParts.IsCaughtPair}
use Rattle.vb_parse_decl.proofs.Refusals.{passed_on}
use Rattle.vb_parse_stmt.proofs.GuardRefusals.{no_catch}
use Rattle.vb_parse_stmt.proofs.tries.catch.Goals as goal

pub returns-in_err-variable : goal.returns-in_err-variable
returns-in_err-variable c =
    let same : c.from_residual.result ≡ Err c.in_err-variable.field-0.0 = search (rules, c.from_residual.ensures) in
    passed_on IsCaughtPair (IsItemFrom c.args.context.now front.Catch) c.args.line.now _ _ c.in_err-variable.field-0.0 c.from_residual.result same
    (no_catch c.args.context.now c.args.line.now.tokens) c.in_err-variable.ensures
