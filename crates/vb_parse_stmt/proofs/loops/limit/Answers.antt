use Rattle.std.proofs.Common.{rules, ◌≡◌, Err, arith}
use Rattle.vb_parse_expr.specs.Fronts.{IsFront}
use Rattle.vb_parse_decl.specs.Parts.{IsExpression}
use Rattle.vb_parse_stmt.specs.{Statements.IsLimit, BlockParts.StandsFrom}
use Rattle.vb_parse_decl.proofs.Refusals.{passed_on}
use Rattle.vb_parse_stmt.proofs.LoopRefusals.{no_limit, other_limit, limit_found}
use Rattle.vb_parse_stmt.proofs.loops.limit.Goals as goal

pub returns-in_err-found : goal.returns-in_err-found
returns-in_err-found c =
    let same : c.from_residual.result ≡ Err c.in_err-found.field-0.0 = search (rules, c.from_residual.ensures) in
    passed_on (StandsFrom IsFront c.args.from) IsLimit c.args.line.now _ _ c.in_err-found.field-0.0 c.from_residual.result same
    (no_limit c.args.from _) c.in_err-found.ensures

pub returns-in_err-step : goal.returns-in_err-step
returns-in_err-step c =
    let same : c.from_residual-in_err-step.result ≡ Err c.in_err-step.field-0.0 = search (rules, c.from_residual-in_err-step.ensures) in
    passed_on IsExpression IsLimit c.args.line.now _ _ c.in_err-step.field-0.0 c.from_residual-in_err-step.result same
    (λ none. other_limit c.one_reading.ensures.expressions c.args.line.now.tokens c.args.from c.in_ok-found.behind c.in_ok-found.found c.few_tokens.ensures c.requires
    c.in_ok-found.ensures (λ e. omega arith) (λ x at p. none x p))
    c.in_err-step.ensures

pub returns-in_ok-step : goal.returns-in_ok-step
returns-in_ok-step c =
    limit_found c.args.line.now.tokens c.args.from c.in_ok-found.behind c.in_ok-found.found c.in_ok-step.step c.in_ok-found.ensures
    (c.if-is_word_at.ensures.answer.0 (search rules)) c.in_ok-step.ensures

pub returns-else-is_word_at : goal.returns-else-is_word_at
returns-else-is_word_at c = (
  other_limit c.one_reading.ensures.expressions c.args.line.now.tokens c.args.from c.in_ok-found.behind c.in_ok-found.found c.few_tokens.ensures c.requires
      c.in_ok-found.ensures (λ e. omega arith) (λ x at p. search (rules, c.if-is_word_at.ensures.answer, at)),
  c.refusal.ensures,
)
