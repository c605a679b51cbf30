use Rattle.std.proofs.Common.{rules, ◌≡◌, ◌+◌, Err, None, sym, arith}
use Rattle.std.specs.List.{slice_get}
use Rattle.vb_parse_expr.specs.Types.{IsTypeFront}
use Rattle.vb_parse_stmt.specs.BlockParts.{StandsFrom, IsCatchVariableFront, found_name}
use Rattle.vb_parse_decl.proofs.Refusals.{passed_on}
use Rattle.vb_parse_stmt.proofs.LoopVariables.{catch_variable_declared, no_catch_variable_name, no_catch_variable_type, no_catch_variable_as}
use Rattle.vb_parse_stmt.proofs.tries.catch_variable_at.Goals as goal

pub returns-in_default : goal.returns-in_default
returns-in_default c =
    let none : found_name (slice_get c.args.line.now.tokens c.args.from) ≡ None = search (rules, c.name_at.ensures.name) in
    (no_catch_variable_name c.args.line.now.tokens c.args.from none, c.refusal.ensures)

pub overflow_add-from : goal.overflow_add-from
overflow_add-from c = omega (arith, c.in-Some.ensures.within, c.few_tokens.ensures)

pub overflow_add-from-then-is_word_at : goal.overflow_add-from-then-is_word_at
overflow_add-from-then-is_word_at c = omega (arith, c.if-is_word_at.ensures.within (search rules), c.few_tokens.ensures)

pub returns-in_err-declared : goal.returns-in_err-declared
returns-in_err-declared c =
    let same : c.from_residual.result ≡ Err c.in_err-declared.field-0.0 = search (rules, c.from_residual.ensures) in
    passed_on (StandsFrom IsTypeFront (c.args.from + 2)) (StandsFrom IsCatchVariableFront c.args.from) c.args.line.now _ _
    c.in_err-declared.field-0.0 c.from_residual.result same
    (no_catch_variable_type c.args.line.now.tokens c.args.from) c.in_err-declared.ensures

pub returns-in_ok-declared : goal.returns-in_ok-declared
returns-in_ok-declared c =
    catch_variable_declared c.args.line.now.tokens c.args.from c.in_ok-declared.behind c.in-Some.name c.in_ok-declared.declared (sym c.in-Some.ensures.name)
    (c.if-is_word_at.ensures.answer.0 (search rules)) c.in_ok-declared.ensures

pub returns-else-is_word_at : goal.returns-else-is_word_at
returns-else-is_word_at c = (
  no_catch_variable_as c.args.line.now.tokens c.args.from (λ at. search (rules, c.if-is_word_at.ensures.answer, at)),
  c.refusal-else-is_word_at.ensures,
)
