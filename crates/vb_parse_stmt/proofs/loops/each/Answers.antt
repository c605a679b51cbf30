use Rattle.std.proofs.Common.{rules, ◌≡◌, Err}
use Rattle.vb_parse_decl.specs.Parts.{IsExpression}
use Rattle.vb_parse_stmt.specs.BlockParts.{StandsFrom, IsVariableFront, IsEach}
use Rattle.vb_parse_decl.proofs.Refusals.{passed_on}
use Rattle.vb_parse_stmt.proofs.LoopRefusals.{no_each, other_each, each_found}
use Rattle.vb_parse_stmt.proofs.loops.each.Goals as goal

pub returns-in_err-variable : goal.returns-in_err-variable
returns-in_err-variable c =
    let same : c.from_residual.result ≡ Err c.in_err-variable.field-0.0 = search (rules, c.from_residual.ensures) in
    passed_on (StandsFrom IsVariableFront c.args.from) IsEach c.args.line.now _ _ c.in_err-variable.field-0.0 c.from_residual.result same
    (no_each c.args.from _) c.in_err-variable.ensures

pub returns-in_err-collection : goal.returns-in_err-collection
returns-in_err-collection c =
    let same : c.from_residual-in_err-collection.result ≡ Err c.in_err-collection.field-0.0 = search (rules, c.from_residual-in_err-collection.ensures) in
    passed_on IsExpression IsEach c.args.line.now _ _ c.in_err-collection.field-0.0 c.from_residual-in_err-collection.result same
    (λ none. other_each c.one_reading.ensures.types c.args.line.now.tokens c.args.from c.in_ok-variable.behind c.in_ok-variable.variable c.few_tokens.ensures
    c.in_ok-variable.ensures (λ x at p. none x p))
    c.in_err-collection.ensures

pub returns-in_ok-collection : goal.returns-in_ok-collection
returns-in_ok-collection c =
    each_found c.args.line.now.tokens c.args.from c.in_ok-variable.behind c.in_ok-variable.variable c.in_ok-collection.collection c.in_ok-variable.ensures
    (c.if-is_word_at.ensures.answer.0 (search rules)) c.in_ok-collection.ensures

pub returns-else-is_word_at : goal.returns-else-is_word_at
returns-else-is_word_at c = (
  other_each c.one_reading.ensures.types c.args.line.now.tokens c.args.from c.in_ok-variable.behind c.in_ok-variable.variable c.few_tokens.ensures
      c.in_ok-variable.ensures (λ x at p. search (rules, c.if-is_word_at.ensures.answer, at)),
  c.refusal.ensures,
)
