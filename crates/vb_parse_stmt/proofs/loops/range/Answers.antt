use Rattle.std.proofs.Common.{rules, ◌≡◌, Err}
use Rattle.vb_parse_expr.specs.Fronts.{IsFront}
use Rattle.vb_parse_stmt.specs.{Statements.{IsLimit, IsRange}, BlockParts.StandsFrom}
use Rattle.vb_parse_decl.proofs.Refusals.{passed_on}
use Rattle.vb_parse_stmt.proofs.LoopRefusals.{no_range, other_range, range_found}
use Rattle.vb_parse_stmt.proofs.loops.range.Goals as goal

pub returns-in_err-start : goal.returns-in_err-start
returns-in_err-start c =
    let same : c.from_residual.result ≡ Err c.in_err-start.field-0.0 = search (rules, c.from_residual.ensures) in
    passed_on (StandsFrom IsFront c.args.from) IsRange c.args.line.now _ _ c.in_err-start.field-0.0 c.from_residual.result same
    (no_range c.args.from _) c.in_err-start.ensures

pub returns-in_err-bounds : goal.returns-in_err-bounds
returns-in_err-bounds c =
    let same : c.from_residual-in_err-bounds.result ≡ Err c.in_err-bounds.field-0.0 = search (rules, c.from_residual-in_err-bounds.ensures) in
    passed_on IsLimit IsRange c.args.line.now _ _ c.in_err-bounds.field-0.0 c.from_residual-in_err-bounds.result same
    (λ none. other_range c.one_reading.ensures.expressions c.args.line.now.tokens c.args.from c.in_ok-start.behind c.in_ok-start.start c.few_tokens.ensures
    c.in_ok-start.ensures (λ x at p. none x p))
    c.in_err-bounds.ensures

pub returns-in_ok-bounds : goal.returns-in_ok-bounds
returns-in_ok-bounds c =
    range_found c.args.line.now.tokens c.args.from c.in_ok-start.behind c.in_ok-start.start c.in_ok-bounds.bounds c.in_ok-start.ensures
    (c.if-is_word_at.ensures.answer.0 (search rules)) c.in_ok-bounds.ensures

pub returns-else-is_word_at : goal.returns-else-is_word_at
returns-else-is_word_at c = (
  other_range c.one_reading.ensures.expressions c.args.line.now.tokens c.args.from c.in_ok-start.behind c.in_ok-start.start c.few_tokens.ensures
      c.in_ok-start.ensures (λ x at p. search (rules, c.if-is_word_at.ensures.answer, at)),
  c.refusal.ensures,
)
