use Rattle.std.proofs.Common.{arith}
use Rattle.vb_parse_decl.proofs.{Wholes.expression_front, Refusals.no_expression}
use Rattle.vb_parse_decl.proofs.parts.whole_expression.Goals as goal

pub returns-else-behind-len : goal.returns-else-behind-len
returns-else-behind-len c = (
  no_expression c.one_reading.ensures.expressions c.args.line.now.tokens c.args.from c.in-Ok.behind c.in-Ok.found (omega arith) c.requires
      c.in-Ok.ensures.0 c.in-Ok.ensures.1 (λ e. omega arith),
  c.refusal.ensures,
)

pub returns-in-Err-Refused : goal.returns-in-Err-Refused
returns-in-Err-Refused c =
    let refused = c.in-Err-Refused.ensures in
    let told = rw c.in-Err-Refused.field-0-is at refused in
    (λ x p. told.0 x _ (expression_front _ x p), c.refusal-in-Err-Refused.ensures)
