use Rattle.std.proofs.Common.{rules, ◌≡◌, ◌+◌, Err, None, sym, arith}
use Rattle.std.specs.List.{slice_get}
use Rattle.vb_parse_expr.specs.Types.{IsTypeFront}
use Rattle.vb_parse_stmt.specs.BlockParts.{StandsFrom, IsVariableFront, found_name}
use Rattle.vb_parse_decl.proofs.Refusals.{passed_on}
use Rattle.vb_parse_stmt.proofs.LoopVariables.{variable_alone, variable_declared, no_variable_name, no_variable_type}
use Rattle.vb_parse_stmt.proofs.loops.variable_at.Goals as goal

pub returns-in_default : goal.returns-in_default
returns-in_default c =
    let none : found_name (slice_get c.args.line.now.tokens c.args.from) ≡ None = search (rules, c.name_at.ensures.name) in
    (no_variable_name c.args.line.now.tokens c.args.from none, c.refusal.ensures)

pub overflow_add-from : goal.overflow_add-from
overflow_add-from c = omega (arith, c.in-Some.ensures.within, c.few_tokens.ensures)

pub overflow_add-from-then-is_word_at : goal.overflow_add-from-then-is_word_at
overflow_add-from-then-is_word_at c = omega (arith, c.if-is_word_at.ensures.within (search rules), c.few_tokens.ensures)

pub overflow_add-result : goal.overflow_add-result
overflow_add-result c = omega (arith, c.in-Some.ensures.within, c.few_tokens.ensures)

pub returns-in_err-found : goal.returns-in_err-found
returns-in_err-found c =
    let same : c.from_residual.result ≡ Err c.in_err-found.field-0.0 = search (rules, c.from_residual.ensures) in
    passed_on (StandsFrom IsTypeFront (c.args.from + 2)) (StandsFrom IsVariableFront c.args.from) c.args.line.now _ _
    c.in_err-found.field-0.0 c.from_residual.result same
    (no_variable_type c.args.line.now.tokens c.args.from (c.if-is_word_at.ensures.answer.0 (search rules))) c.in_err-found.ensures

pub returns-in_ok-found : goal.returns-in_ok-found
returns-in_ok-found c =
    variable_declared c.args.line.now.tokens c.args.from c.in_ok-found.behind c.in-Some.name c.in_ok-found.found (sym c.in-Some.ensures.name)
    (c.if-is_word_at.ensures.answer.0 (search rules)) c.in_ok-found.ensures

pub returns-else-is_word_at : goal.returns-else-is_word_at
returns-else-is_word_at c =
    variable_alone c.args.line.now.tokens c.args.from c.in-Some.name (sym c.in-Some.ensures.name)
    (λ at. search (rules, c.if-is_word_at.ensures.answer, at))
