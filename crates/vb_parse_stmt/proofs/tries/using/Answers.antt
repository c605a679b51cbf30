use Rattle.std.proofs.Common.{rules, ◌≡◌, Err}
use Rattle.vb_parse_decl.proofs.Refusals.{passed_on}
use Rattle.vb_parse_stmt.specs.{Statements.IsResource, Reading.IsItemFrom}
use Rattle.vb_parse_stmt.specs.declared.front.Front.TheVariants as front
use Rattle.vb_parse_stmt.proofs.GuardResources.{no_using}
use Rattle.vb_parse_stmt.proofs.tries.using.Goals as goal

pub returns-in_err-found : goal.returns-in_err-found
returns-in_err-found c =
    let same : c.from_residual.result ≡ Err c.in_err-found.field-0.0 = search (rules, c.from_residual.ensures) in
    passed_on IsResource (IsItemFrom c.args.context.now front.Using) c.args.line.now _ _ c.in_err-found.field-0.0 c.from_residual.result same
    (no_using c.args.context.now c.args.line.now.tokens) c.in_err-found.ensures
