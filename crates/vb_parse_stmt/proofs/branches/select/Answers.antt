use Rattle.std.proofs.Common.{rules, ◌≡◌, Err, subst, ℕ, drop}
use Rattle.vb_syntax.specs.declared.expression.Expr.{Expr}
use Rattle.vb_parse_stmt.specs.declared.front.Front.TheVariants as front
use Rattle.vb_parse_decl.specs.Parts.{IsExpression}
use Rattle.vb_parse_stmt.specs.Reading.{IsItemFrom}
use Rattle.vb_parse_decl.proofs.Refusals.{passed_on}
use Rattle.vb_parse_stmt.proofs.{BranchRefusals.{no_select_case, no_select}, branches.select.Goals.{then-is_word_at, else-is_word_at}}
use Rattle.vb_parse_stmt.proofs.branches.select.Goals as goal

pub returns-in_err-value : goal.returns-in_err-value
returns-in_err-value c =
    let same : c.from_residual.result ≡ Err c.in_err-value.field-0.0 = search (rules, c.from_residual.ensures) in
    let tokens = c.args.line.now.tokens in
    passed_on IsExpression (IsItemFrom c.args.context.now front.Select) c.args.line.now _ _ c.in_err-value.field-0.0 c.from_residual.result same
    (λ none. elim c.if-is_word_at.branch [
      | then-is_word_at w ↦ no_select_case c.primary_begins.ensures c.args.context.now tokens (c.is_word_at.ensures.answer.0 (search rules))
          (subst (λ (n : ℕ). (x : Expr) → IsExpression (drop n tokens) x → ⊥) w.from-is none)
      | else-is_word_at w ↦ no_select c.args.context.now tokens (λ at. search (rules, c.is_word_at.ensures.answer, at))
          (subst (λ (n : ℕ). (x : Expr) → IsExpression (drop n tokens) x → ⊥) w.from-is none)
    ])
    c.in_err-value.ensures
