use Rattle.std.proofs.Common.{rules, ◌≡◌, Err}
use Rattle.vb_parse_stmt.specs.{Statements.IsRange, BlockParts.{StandsFrom, IsVariableFront, IsCounted}}
use Rattle.vb_parse_decl.proofs.Refusals.{passed_on}
use Rattle.vb_parse_stmt.proofs.LoopRefusals.{no_counted, other_counted, counted_found}
use Rattle.vb_parse_stmt.proofs.loops.counted.Goals as goal

pub returns-in_err-variable : goal.returns-in_err-variable
returns-in_err-variable c =
    let same : c.from_residual.result ≡ Err c.in_err-variable.field-0.0 = search (rules, c.from_residual.ensures) in
    passed_on (StandsFrom IsVariableFront c.args.from) IsCounted c.args.line.now _ _ c.in_err-variable.field-0.0 c.from_residual.result same
    (no_counted c.args.from _) c.in_err-variable.ensures

pub returns-in_err-values : goal.returns-in_err-values
returns-in_err-values c =
    let same : c.from_residual-in_err-values.result ≡ Err c.in_err-values.field-0.0 = search (rules, c.from_residual-in_err-values.ensures) in
    passed_on IsRange IsCounted c.args.line.now _ _ c.in_err-values.field-0.0 c.from_residual-in_err-values.result same
    (λ none. other_counted c.one_reading.ensures.types c.args.line.now.tokens c.args.from c.in_ok-variable.behind c.in_ok-variable.variable c.few_tokens.ensures
    c.in_ok-variable.ensures (λ x at p. none x p))
    c.in_err-values.ensures

pub returns-in_ok-values : goal.returns-in_ok-values
returns-in_ok-values c =
    counted_found c.args.line.now.tokens c.args.from c.in_ok-variable.behind c.in_ok-variable.variable c.in_ok-values.values c.in_ok-variable.ensures
    (c.if-is_equal_at.ensures.0 (search rules)) c.in_ok-values.ensures

pub returns-else-is_equal_at : goal.returns-else-is_equal_at
returns-else-is_equal_at c = (
  other_counted c.one_reading.ensures.types c.args.line.now.tokens c.args.from c.in_ok-variable.behind c.in_ok-variable.variable c.few_tokens.ensures
      c.in_ok-variable.ensures (λ x at p. search (rules, c.if-is_equal_at.ensures, at)),
  c.refusal.ensures,
)
