use Rattle.std.proofs.Common.{◌∙◌, sym, ap}
use Rattle.vb_parse_decl.specs.DeclaredReading.{is_closing}
use Rattle.vb_parse_decl.proofs.DeclaredParts.{no_expression_at, closing_over, expression_at}
use Rattle.vb_parse_decl.proofs.declarator.closed_expression.Goals as goal

pub returns-else-is_closing : goal.returns-else-is_closing
returns-else-is_closing c = (
  no_expression_at c.one_reading.ensures.expressions is_closing closing_over c.args.line.now.tokens c.args.from c.in-Ok.behind c.in-Ok.found
      c.rest.ensures.few c.in-Ok.ensures.0 c.in-Ok.ensures.1
      (ap is_closing (sym c.rest.ensures.rest) ∙ sym c.is_closing.ensures ∙ c.if-is_closing.false),
  c.refusal.ensures,
)

pub returns-in-Err-Refused : goal.returns-in-Err-Refused
returns-in-Err-Refused c =
    let told = rw c.in-Err-Refused.field-0-is at c.in-Err-Refused.ensures in
    (λ x n p. told.0 x n (expression_at is_closing closing_over _ x n p), c.refusal-in-Err-Refused.ensures)
