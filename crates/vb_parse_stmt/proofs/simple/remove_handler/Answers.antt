use Rattle.std.proofs.Common.{rules, ◌≡◌, Err}
use Rattle.vb_parse_stmt.specs.declared.front.Front.TheVariants as front
use Rattle.vb_parse_stmt.specs.{SimpleLines.IsTwo, Reading.IsItemFrom}
use Rattle.vb_parse_decl.proofs.Refusals.{passed_on}
use Rattle.vb_parse_stmt.proofs.SimpleForms.{no_remove}
use Rattle.vb_parse_stmt.proofs.simple.remove_handler.Goals as goal

pub returns-in_err-event : goal.returns-in_err-event
returns-in_err-event c =
    let same : c.from_residual.result ≡ Err c.in_err-event.field-0.0 = search (rules, c.from_residual.ensures) in
    passed_on IsTwo (IsItemFrom c.args.context.now front.RemoveHandler) c.args.line.now _ _ c.in_err-event.field-0.0 c.from_residual.result same
    (λ none. no_remove c.args.context.now c.args.line.now.tokens none) c.in_err-event.ensures
