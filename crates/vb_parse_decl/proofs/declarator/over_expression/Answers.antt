use Rattle.std.proofs.Common.{◌∙◌, sym, ap}
use Rattle.vb_parse_decl.specs.DeclaredReading.{is_over}
use Rattle.vb_parse_decl.proofs.{DeclaredParts.{no_expression_at, expression_at}, DeclaredValues.over_ends}
use Rattle.vb_parse_decl.proofs.declarator.over_expression.Goals as goal

pub returns-else-is_over : goal.returns-else-is_over
returns-else-is_over c = (
  no_expression_at c.one_reading.ensures.expressions is_over over_ends c.args.line.now.tokens c.args.from c.in-Ok.behind c.in-Ok.found
      c.rest.ensures.few c.in-Ok.ensures.0 c.in-Ok.ensures.1
      (ap is_over (sym c.rest.ensures.rest) ∙ sym c.is_over.ensures ∙ c.if-is_over.false),
  c.refusal.ensures,
)

pub returns-in-Err-Refused : goal.returns-in-Err-Refused
returns-in-Err-Refused c =
    let told = rw c.in-Err-Refused.field-0-is at c.in-Err-Refused.ensures in
    (λ x n p. told.0 x n (expression_at is_over over_ends _ x n p), c.refusal-in-Err-Refused.ensures)
