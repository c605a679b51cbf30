use Rattle.std.proofs.Common.{rules, ◌≡◌, Err}
use Rattle.vb_parse_stmt.specs.declared.front.Front.TheVariants as front
use Rattle.vb_parse_stmt.specs.{Statements.IsTest, Reading.IsItemFrom}
use Rattle.vb_parse_decl.proofs.Refusals.{passed_on}
use Rattle.vb_parse_stmt.proofs.BlockFronts.{no_else_if}
use Rattle.vb_parse_stmt.proofs.branches.else_if.Goals as goal

pub returns-in_err-tested : goal.returns-in_err-tested
returns-in_err-tested c =
    let same : c.from_residual.result ≡ Err c.in_err-tested.field-0.0 = search (rules, c.from_residual.ensures) in
    passed_on IsTest (IsItemFrom c.args.context.now front.ElseIf) c.args.line.now _ _ c.in_err-tested.field-0.0 c.from_residual.result same
    (no_else_if c.args.context.now c.args.line.now.tokens) c.in_err-tested.ensures
