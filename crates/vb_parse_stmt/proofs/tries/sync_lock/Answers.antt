use Rattle.std.proofs.Common.{rules, ◌≡◌, Err}
use Rattle.vb_parse_stmt.specs.declared.front.Front.TheVariants as front
use Rattle.vb_parse_decl.specs.Parts.{IsExpression}
use Rattle.vb_parse_stmt.specs.Reading.{IsItemFrom}
use Rattle.vb_parse_decl.proofs.Refusals.{passed_on}
use Rattle.vb_parse_stmt.proofs.BlockFronts.{no_sync_lock}
use Rattle.vb_parse_stmt.proofs.tries.sync_lock.Goals as goal

pub returns-in_err-object : goal.returns-in_err-object
returns-in_err-object c =
    let same : c.from_residual.result ≡ Err c.in_err-object.field-0.0 = search (rules, c.from_residual.ensures) in
    passed_on IsExpression (IsItemFrom c.args.context.now front.SyncLock) c.args.line.now _ _ c.in_err-object.field-0.0 c.from_residual.result same
    (no_sync_lock c.args.context.now c.args.line.now.tokens) c.in_err-object.ensures
