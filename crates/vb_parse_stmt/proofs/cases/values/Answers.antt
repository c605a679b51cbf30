use Rattle.std.proofs.Common.{rules, ◌≡◌, ◌+◌, true, false, Err, arith, ◌∙◌, sym, ap, drop}
use Rattle.std.proofs.lemmas.Bool.{both_ways}
use Rattle.vb_parse_decl.specs.{Parts.IsExpression, DeclaredReading.{IsPartAt, is_over}}
use Rattle.vb_parse_stmt.specs.{Statements.IsCaseItem, CaseReading.is_to}
use Rattle.vb_parse_stmt.proofs.CaseItems.{value_found, range_found, no_value, other_value}
use Rattle.vb_parse_decl.proofs.DeclaredFinds.{found_on}
use Rattle.vb_parse_stmt.proofs.cases.values.Goals as goal

pub returns-then-is_over : goal.returns-then-is_over
returns-then-is_over c =
    let over : is_over (drop c.in-Ok.behind c.args.line.now.tokens) ≡ true = ap is_over (sym c.rest.ensures.rest) ∙ sym c.is_over.ensures ∙ c.if-is_over.true in
    (c.in-Ok.ensures.0, value_found c.args.line.now.tokens c.args.from c.in-Ok.behind c.in-Ok.first c.in-Ok.ensures.0 c.in-Ok.ensures.1 over)

pub returns-in_err-last-in-Ok : goal.returns-in_err-last-in-Ok
returns-in_err-last-in-Ok c =
    let same : c.from_residual.result ≡ Err c.in_err-last-in-Ok.field-0.0 = search (rules, c.from_residual.ensures) in
    let over : is_over (drop c.in-Ok.behind c.args.line.now.tokens) ≡ false = ap is_over (sym c.rest.ensures.rest) ∙ sym c.is_over.ensures ∙ c.if-is_over.false in
    found_on (IsPartAt is_over IsExpression) (IsPartAt is_over IsCaseItem) c.args.line.now c.args.from (c.in-Ok.behind + 1) c.in_err-last-in-Ok.field-0.0 c.from_residual.result same
    (λ none. other_value c.one_reading.ensures.expressions c.args.line.now.tokens c.args.from c.in-Ok.behind c.in-Ok.first c.rest.ensures.few
    c.in-Ok.ensures.0 c.in-Ok.ensures.1 c.requires.other over (λ y n e p. none y n p))
    c.in_err-last-in-Ok.ensures

pub returns-in_ok-last-in-Ok : goal.returns-in_ok-last-in-Ok
returns-in_ok-last-in-Ok c =
    let begins : is_to (drop c.in-Ok.behind c.args.line.now.tokens) ≡ true =
    ap is_to (sym c.rest-else-is_over.ensures.rest) ∙ sym c.is_to.ensures ∙ c.if-is_to.true in
    let value = c.in_ok-last-in-Ok.ensures in (
      omega (arith, value.0, c.in-Ok.ensures.0),
      range_found c.args.line.now.tokens c.args.from c.in-Ok.behind c.in_ok-last-in-Ok.end c.in-Ok.first c.in_ok-last-in-Ok.last
          c.in-Ok.ensures.0 value.0 c.in-Ok.ensures.1 begins value.1,
    )

pub returns-else-is_to : goal.returns-else-is_to
returns-else-is_to c =
    let over : is_over (drop c.in-Ok.behind c.args.line.now.tokens) ≡ false = ap is_over (sym c.rest.ensures.rest) ∙ sym c.is_over.ensures ∙ c.if-is_over.false in
    let begins : is_to (drop c.in-Ok.behind c.args.line.now.tokens) ≡ false =
    ap is_to (sym c.rest-else-is_over.ensures.rest) ∙ sym c.is_to.ensures ∙ c.if-is_to.false in (
      other_value c.one_reading.ensures.expressions c.args.line.now.tokens c.args.from c.in-Ok.behind c.in-Ok.first c.rest.ensures.few
          c.in-Ok.ensures.0 c.in-Ok.ensures.1 c.requires.other over (λ y n e p. both_ways _ begins e),
      c.refusal.ensures,
    )

pub returns-in-Err-Refused : goal.returns-in-Err-Refused
returns-in-Err-Refused c =
    let told = rw c.in-Err-Refused.field-0-is at c.in-Err-Refused.ensures in
    (no_value _ c.requires.other told.0, c.refusal-in-Err-Refused.ensures)
