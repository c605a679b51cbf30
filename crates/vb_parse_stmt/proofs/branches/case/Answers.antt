use Rattle.std.proofs.Common.{rules, ◌≡◌, Err, refl}
use Rattle.vb_syntax.specs.declared.keyword.Keyword.TheVariants as word
use Rattle.vb_parse_stmt.specs.declared.front.Front.TheVariants as front
use Rattle.vb_parse_decl.specs.Parts.{AreListed}
use Rattle.vb_parse_stmt.specs.{Statements.IsCaseItem, Reading.IsItemFrom}
use Rattle.vb_parse_decl.proofs.Refusals.{passed_on}
use Rattle.vb_parse_stmt.proofs.{SimpleFirsts.starts, CaseSame.{no_case, case_else_here, case_else_last}}
use Rattle.vb_parse_stmt.proofs.branches.case.Goals as goal

pub returns-then-is_last_word : goal.returns-then-is_last_word
returns-then-is_last_word c =
    let tokens = c.args.line.now.tokens in
    let last = c.is_last_word.ensures.0 (search rules) in
    (refl, case_else_here tokens (starts c.args.context.now front.Case word.Case refl tokens c.requires) last.0 last.1)

pub returns-in_err-found : goal.returns-in_err-found
returns-in_err-found c =
    let tokens = c.args.line.now.tokens in
    let same : c.from_residual.result ≡ Err c.in_err-found.field-0.0 = search (rules, c.from_residual.ensures) in
    passed_on (AreListed IsCaseItem) (IsItemFrom c.args.context.now front.Case) c.args.line.now _ _ c.in_err-found.field-0.0 c.from_residual.result same
    (λ none. no_case c.args.context.now tokens (λ here. search (rules, c.is_last_word.ensures.1 (case_else_last tokens here), c.if-is_last_word.false)) none)
    c.in_err-found.ensures
