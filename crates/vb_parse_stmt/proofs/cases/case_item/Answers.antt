use Rattle.std.proofs.Common.{rules, ◌≡◌, ℕ, ◌+◌, ◌-◌, drop, Some, Err, arith, ◌∙◌, sym, ap, subst}
use Rattle.vb_parse_decl.specs.{Parts.IsExpression, DeclaredReading.{IsPartAt, is_over}}
use Rattle.vb_parse_stmt.specs.{Statements.IsCaseItem, CaseReading.{relation_front, relation_size}}
use Rattle.vb_parse_stmt.proofs.CaseItems.{relation_found, no_compared}
use Rattle.vb_parse_decl.proofs.DeclaredFinds.{found_on}
use Rattle.vb_parse_stmt.proofs.cases.case_item.Goals as goal

pub returns-in_err-value-in-Some : goal.returns-in_err-value-in-Some
returns-in_err-value-in-Some c =
    let tokens = c.args.line.now.tokens in
    let from = c.args.from in
    let same : c.from_residual.result ≡ Err c.in_err-value-in-Some.field-0.0 = search (rules, c.from_residual.ensures) in
    let front : relation_front (drop from tokens) ≡ Some c.in-Some.relation =
    ap relation_front (sym c.rest.ensures.rest) ∙ sym c.relation_front.ensures ∙ c.in-Some.is in
    let size : c.relation_size-size.result ≡ relation_size (drop from tokens) = c.relation_size-size.ensures ∙ ap relation_size c.rest-in-Some.ensures.rest in
    found_on (IsPartAt is_over IsExpression) (IsPartAt is_over IsCaseItem) c.args.line.now from (from + c.relation_size-size.result) c.in_err-value-in-Some.field-0.0 c.from_residual.result same
    (λ none. no_compared c.primary_begins.ensures tokens from c.in-Some.relation front
    (λ x n p. none x n (subst (λ (k : ℕ). IsPartAt is_over IsExpression (drop (from + k) tokens) x n) (sym size) p)))
    c.in_err-value-in-Some.ensures

pub returns-in_ok-value-in-Some : goal.returns-in_ok-value-in-Some
returns-in_ok-value-in-Some c =
    let tokens = c.args.line.now.tokens in
    let from = c.args.from in
    let front : relation_front (drop from tokens) ≡ Some c.in-Some.relation =
    ap relation_front (sym c.rest.ensures.rest) ∙ sym c.relation_front.ensures ∙ c.in-Some.is in
    let size : c.relation_size-size.result ≡ relation_size (drop from tokens) = c.relation_size-size.ensures ∙ ap relation_size c.rest-in-Some.ensures.rest in
    let found = c.in_ok-value-in-Some.ensures in
    let behind = c.in_ok-value-in-Some.behind in (
      omega (arith, found.0),
      relation_found tokens from behind c.in-Some.relation c.in_ok-value-in-Some.value front (omega (arith, found.0, size))
          (subst (λ (k : ℕ). IsPartAt is_over IsExpression (drop (from + k) tokens) c.in_ok-value-in-Some.value (behind - (from + k))) size found.1),
    )
