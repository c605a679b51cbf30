use Rattle.std.proofs.Common.{arith}
use Rattle.vb_parse_decl.proofs.{Wholes.initializer_front, Refusals.no_initializer}
use Rattle.vb_parse_decl.proofs.parts.whole_initializer.Goals as goal

pub returns-else-end-len : goal.returns-else-end-len
returns-else-end-len c = (
  no_initializer c.one_reading.ensures.initializers c.args.line.now.tokens c.args.from c.in-Ok.end c.in-Ok.found (omega arith) c.requires
      c.in-Ok.ensures.0 c.in-Ok.ensures.1 (λ e. omega arith),
  c.refusal.ensures,
)

pub returns-in-Err-Refused : goal.returns-in-Err-Refused
returns-in-Err-Refused c =
    let refused = c.in-Err-Refused.ensures in
    let told = rw c.in-Err-Refused.field-0-is at refused in
    (λ x p. told.0 x _ (initializer_front _ x p), c.refusal-in-Err-Refused.ensures)
