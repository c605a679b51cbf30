use Rattle.std.proofs.Common.{rules, ◌≡◌, Err, arith}
use Rattle.std.proofs.lemmas.Option.{slice_get_within}
use Rattle.vb_parse_expr.specs.Words.{comma}
use Rattle.vb_parse_decl.specs.Parts.{IsExpression}
use Rattle.vb_parse_stmt.specs.SimpleLines.{IsTwo}
use Rattle.vb_parse_decl.proofs.{Parted.parted_at, Refusals.passed_on}
use Rattle.vb_parse_stmt.proofs.{SimpleRefusals.{no_two, no_front_two}, simple.two_expressions.Goals.{else-behind-len-via-then-behind-len+else-is_comma_at, else-behind-len-via-else-behind-len}}
use Rattle.vb_parse_stmt.proofs.simple.two_expressions.Goals as goal

pub returns-in_err-right-in-Ok : goal.returns-in_err-right-in-Ok
returns-in_err-right-in-Ok c =
    let same : c.from_residual.result ≡ Err c.in_err-right-in-Ok.field-0.0 = search (rules, c.from_residual.ensures) in
    passed_on IsExpression IsTwo c.args.line.now _ _ c.in_err-right-in-Ok.field-0.0 c.from_residual.result same
    (λ none. no_two c.one_reading.ensures.expressions c.args.line.now.tokens c.args.from c.in-Ok.behind c.in-Ok.left (omega arith)
    c.in-Ok.ensures.0 c.in-Ok.ensures.1 (λ y at p. none y p))
    c.in_err-right-in-Ok.ensures

pub returns-in_ok-right-in-Ok : goal.returns-in_ok-right-in-Ok
returns-in_ok-right-in-Ok c =
    let at = c.if-is_comma_at.ensures.0 (search rules) in
    let found = c.in-Ok.ensures.1 in
    parted_at comma IsExpression IsExpression c.args.line.now.tokens c.args.from c.in-Ok.behind c.in-Ok.left c.in_ok-right-in-Ok.right
    c.in-Ok.ensures.0 at (record { strength = found.strength; weakest = found.weakest; spells = found.spells }) c.in_ok-right-in-Ok.ensures

pub returns-else-behind-len : goal.returns-else-behind-len
returns-else-behind-len c = (
  no_two c.one_reading.ensures.expressions c.args.line.now.tokens c.args.from c.in-Ok.behind c.in-Ok.left (omega arith)
      c.in-Ok.ensures.0 c.in-Ok.ensures.1 (λ y at p. elim c.else-behind-len.branch [
        | else-behind-len-via-then-behind-len+else-is_comma_at w ↦ search (rules, w.if-is_comma_at.ensures, at)
        | else-behind-len-via-else-behind-len w ↦ omega (arith, slice_get_within c.args.line.now.tokens c.in-Ok.behind comma at)
      ]),
  c.refusal.ensures,
)

pub returns-in-Err-Refused : goal.returns-in-Err-Refused
returns-in-Err-Refused c =
    let told = rw c.in-Err-Refused.field-0-is at c.in-Err-Refused.ensures in
    (no_front_two _ told.0, c.refusal-in-Err-Refused.ensures)
