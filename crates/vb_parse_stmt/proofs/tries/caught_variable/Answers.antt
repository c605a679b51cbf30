use Rattle.std.proofs.Common.{rules, ◌≡◌, Err, arith}
use Rattle.vb_parse_decl.specs.Parts.{IsExpression}
use Rattle.vb_parse_stmt.specs.BlockParts.{StandsFrom, IsCatchVariableFront, IsCaughtPair}
use Rattle.vb_parse_decl.proofs.Refusals.{passed_on}
use Rattle.vb_parse_stmt.proofs.GuardRefusals.{no_caught, other_caught, caught_found, variable_all}
use Rattle.vb_parse_stmt.proofs.tries.caught_variable.Goals as goal

pub returns-in_err-variable : goal.returns-in_err-variable
returns-in_err-variable c =
    let same : c.from_residual.result ≡ Err c.in_err-variable.field-0.0 = search (rules, c.from_residual.ensures) in
    passed_on (StandsFrom IsCatchVariableFront 1) IsCaughtPair c.args.line.now _ _ c.in_err-variable.field-0.0 c.from_residual.result same
    (no_caught c.args.line.now.tokens c.requires.longer c.requires.other) c.in_err-variable.ensures

pub returns-in_err-filter : goal.returns-in_err-filter
returns-in_err-filter c =
    let same : c.from_residual-in_err-filter.result ≡ Err c.in_err-filter.field-0.0 = search (rules, c.from_residual-in_err-filter.ensures) in
    passed_on IsExpression IsCaughtPair c.args.line.now _ _ c.in_err-filter.field-0.0 c.from_residual-in_err-filter.result same
    (λ none. other_caught c.one_reading.ensures.types c.args.line.now.tokens c.in_ok-variable.behind c.in_ok-variable.variable c.requires.longer
    c.requires.other c.few_tokens.ensures c.in_ok-variable.ensures (λ e. omega arith) (λ x at p. none x p))
    c.in_err-filter.ensures

pub returns-in_ok-filter : goal.returns-in_ok-filter
returns-in_ok-filter c =
    caught_found c.args.line.now.tokens c.in_ok-variable.behind c.in_ok-variable.variable c.in_ok-filter.filter c.in_ok-variable.ensures
    (c.if-is_word_at.ensures.answer.0 (search rules)) c.in_ok-filter.ensures

pub returns-else-is_word_at : goal.returns-else-is_word_at
returns-else-is_word_at c = (
  other_caught c.one_reading.ensures.types c.args.line.now.tokens c.in_ok-variable.behind c.in_ok-variable.variable c.requires.longer
      c.requires.other c.few_tokens.ensures c.in_ok-variable.ensures (λ e. omega arith) (λ x at p. search (rules, c.if-is_word_at.ensures.answer, at)),
  c.refusal.ensures,
)

pub returns-then-behind-len : goal.returns-then-behind-len
returns-then-behind-len c = variable_all c.args.line.now.tokens 1 c.in_ok-variable.behind c.in_ok-variable.variable c.in_ok-variable.ensures (omega arith)
