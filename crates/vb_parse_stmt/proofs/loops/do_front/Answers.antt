use Rattle.std.proofs.Common.{rules, ◌≡◌, Err}
use Rattle.vb_parse_stmt.specs.declared.front.Front.TheVariants as front
use Rattle.vb_parse_decl.specs.Parts.{IsOptional}
use Rattle.vb_parse_stmt.specs.{Statements.IsCondition, Reading.IsItemFrom}
use Rattle.vb_parse_decl.proofs.Refusals.{passed_on}
use Rattle.vb_parse_stmt.proofs.BlockFronts.{no_do}
use Rattle.vb_parse_stmt.proofs.loops.do_front.Goals as goal

pub returns-in_err-test : goal.returns-in_err-test
returns-in_err-test c =
    let same : c.from_residual.result ≡ Err c.in_err-test.field-0.0 = search (rules, c.from_residual.ensures) in
    passed_on (IsOptional (IsCondition c.args.context.now.words)) (IsItemFrom c.args.context.now front.Do) c.args.line.now _ _
    c.in_err-test.field-0.0 c.from_residual.result same (no_do c.args.context.now c.args.line.now.tokens) c.in_err-test.ensures
