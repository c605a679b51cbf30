use Rattle.std.proofs.Common.{rules, ◌≡◌, ◌+◌, true, false, Err, arith, ◌∙◌, sym, ap, drop}
use Rattle.std.proofs.lemmas.Bool.{both_ways}
use Rattle.vb_parse_expr.specs.Expressions.{SpellsInitializer}
use Rattle.vb_parse_decl.specs.DeclaredReading.{IsPartAt, IsTyped, is_over, begins_equal}
use Rattle.vb_parse_decl.proofs.{DeclaredValues.{value_at, no_typed_at, other_typed}, DeclaredFinds.found_on}
use Rattle.vb_parse_decl.proofs.declarator.typed.Goals as goal

pub returns-in_err-initial-in-Ok : goal.returns-in_err-initial-in-Ok
returns-in_err-initial-in-Ok c =
    let same : c.from_residual.result ≡ Err c.in_err-initial-in-Ok.field-0.0 = search (rules, c.from_residual.ensures) in
    let over : is_over (drop c.in-Ok.behind c.args.line.now.tokens) ≡ false = ap is_over (sym c.rest.ensures.rest) ∙ sym c.is_over.ensures ∙ c.if-is_over.false in
    found_on (IsPartAt is_over SpellsInitializer) (IsPartAt is_over IsTyped) c.args.line.now c.args.from (c.in-Ok.behind + 1) c.in_err-initial-in-Ok.field-0.0 c.from_residual.result same
    (λ none. other_typed c.one_reading.ensures.types c.args.line.now.tokens c.args.from c.in-Ok.behind c.in-Ok.declared c.rest.ensures.few
    c.in-Ok.ensures.0 c.in-Ok.ensures.1 over (λ i n e p. none i n p))
    c.in_err-initial-in-Ok.ensures

pub returns-in_ok-initial-in-Ok : goal.returns-in_ok-initial-in-Ok
returns-in_ok-initial-in-Ok c =
    let begins : begins_equal (drop c.in-Ok.behind c.args.line.now.tokens) ≡ true =
    ap begins_equal (sym c.rest-else-is_over.ensures.rest) ∙ sym c.begins_equal.ensures ∙ c.if-begins_equal.true in
    let value = c.in_ok-initial-in-Ok.ensures in (
      omega (arith, value.0, c.in-Ok.ensures.0),
      value_at c.args.line.now.tokens c.args.from c.in-Ok.behind c.in_ok-initial-in-Ok.end c.in-Ok.declared c.in_ok-initial-in-Ok.initial
          c.in-Ok.ensures.0 value.0 c.in-Ok.ensures.1 begins value.1,
    )

pub returns-else-begins_equal : goal.returns-else-begins_equal
returns-else-begins_equal c =
    let over : is_over (drop c.in-Ok.behind c.args.line.now.tokens) ≡ false = ap is_over (sym c.rest.ensures.rest) ∙ sym c.is_over.ensures ∙ c.if-is_over.false in
    let begins : begins_equal (drop c.in-Ok.behind c.args.line.now.tokens) ≡ false =
    ap begins_equal (sym c.rest-else-is_over.ensures.rest) ∙ sym c.begins_equal.ensures ∙ c.if-begins_equal.false in (
      other_typed c.one_reading.ensures.types c.args.line.now.tokens c.args.from c.in-Ok.behind c.in-Ok.declared c.rest.ensures.few
          c.in-Ok.ensures.0 c.in-Ok.ensures.1 over (λ i n e p. both_ways _ begins e),
      c.refusal.ensures,
    )

pub returns-in-Err-Refused : goal.returns-in-Err-Refused
returns-in-Err-Refused c =
    let told = rw c.in-Err-Refused.field-0-is at c.in-Err-Refused.ensures in
    (no_typed_at _ told.0, c.refusal-in-Err-Refused.ensures)
