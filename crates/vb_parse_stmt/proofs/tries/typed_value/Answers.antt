use Rattle.std.proofs.Common.{rules, ◌≡◌, Err}
use Rattle.vb_parse_decl.proofs.Refusals.{passed_on}
use Rattle.vb_parse_decl.specs.Parts.{IsExpression}
use Rattle.vb_parse_expr.specs.Types.{IsTypeFront}
use Rattle.vb_parse_stmt.specs.BlockParts.{StandsFrom, IsTypedValue}
use Rattle.vb_parse_stmt.proofs.GuardResources.{no_typed_value, other_typed_value, typed_value_found}
use Rattle.vb_parse_stmt.proofs.tries.typed_value.Goals as goal

pub returns-in_err-declared : goal.returns-in_err-declared
returns-in_err-declared c =
    let same : c.from_residual.result ≡ Err c.in_err-declared.field-0.0 = search (rules, c.from_residual.ensures) in
    passed_on (StandsFrom IsTypeFront c.args.from) IsTypedValue c.args.line.now _ _ c.in_err-declared.field-0.0 c.from_residual.result same
    (no_typed_value c.args.from _) c.in_err-declared.ensures

pub returns-in_err-value : goal.returns-in_err-value
returns-in_err-value c =
    let same : c.from_residual-in_err-value.result ≡ Err c.in_err-value.field-0.0 = search (rules, c.from_residual-in_err-value.ensures) in
    passed_on IsExpression IsTypedValue c.args.line.now _ _ c.in_err-value.field-0.0 c.from_residual-in_err-value.result same
    (λ none. other_typed_value c.one_reading.ensures.types c.args.line.now.tokens c.args.from c.in_ok-declared.behind c.in_ok-declared.declared
    c.few_tokens.ensures c.in_ok-declared.ensures (λ x at p. none x p))
    c.in_err-value.ensures

pub returns-in_ok-value : goal.returns-in_ok-value
returns-in_ok-value c =
    typed_value_found c.args.line.now.tokens c.args.from c.in_ok-declared.behind c.in_ok-declared.declared c.in_ok-value.value c.in_ok-declared.ensures
    (c.if-is_equal_at.ensures.0 (search rules)) c.in_ok-value.ensures

pub returns-else-is_equal_at : goal.returns-else-is_equal_at
returns-else-is_equal_at c = (
  other_typed_value c.one_reading.ensures.types c.args.line.now.tokens c.args.from c.in_ok-declared.behind c.in_ok-declared.declared
      c.few_tokens.ensures c.in_ok-declared.ensures (λ x at p. search (rules, c.if-is_equal_at.ensures, at)),
  c.refusal.ensures,
)
