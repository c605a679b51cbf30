use Rattle.std.proofs.Common.{rules, ◌≡◌, Err}
use Rattle.vb_parse_stmt.specs.declared.front.Front.TheVariants as front
use Rattle.vb_parse_decl.specs.Parts.{IsPrimary}
use Rattle.vb_parse_stmt.specs.Reading.{IsItemFrom}
use Rattle.vb_parse_decl.proofs.Refusals.{passed_on}
use Rattle.vb_parse_stmt.proofs.SimpleForms.{no_call}
use Rattle.vb_parse_stmt.proofs.simple.call.Goals as goal

pub returns-in_err-called : goal.returns-in_err-called
returns-in_err-called c =
    let same : c.from_residual.result ≡ Err c.in_err-called.field-0.0 = search (rules, c.from_residual.ensures) in
    passed_on IsPrimary (IsItemFrom c.args.context.now front.Call) c.args.line.now _ _ c.in_err-called.field-0.0 c.from_residual.result same
    (λ none. no_call c.primary_begins.ensures c.args.context.now c.args.line.now.tokens c.requires none) c.in_err-called.ensures
