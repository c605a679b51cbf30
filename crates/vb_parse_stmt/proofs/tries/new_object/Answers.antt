use Rattle.std.proofs.Common.{arith}
use Rattle.vb_parse_stmt.proofs.GuardResources.{no_new, short_new, new_told}
use Rattle.vb_parse_stmt.proofs.tries.new_object.Goals as goal

pub returns-then-behind-len : goal.returns-then-behind-len
returns-then-behind-len c =
    new_told c.one_reading.ensures.primaries c.args.line.now c.args.from c.in-Ok.behind c.in-Ok.made c.few_tokens.ensures c.in-Ok.ensures.0 c.in-Ok.ensures.1
    (omega arith) c.args.line.now.tokens c.created.result c.created.ensures

pub returns-else-behind-len : goal.returns-else-behind-len
returns-else-behind-len c = (
  short_new c.one_reading.ensures.primaries c.args.line.now.tokens c.args.from c.in-Ok.behind c.in-Ok.made c.few_tokens.ensures c.requires
      c.in-Ok.ensures.0 c.in-Ok.ensures.1 (λ e. omega arith),
  c.refusal.ensures,
)

pub returns-in-Err-Refused : goal.returns-in-Err-Refused
returns-in-Err-Refused c =
    let told = rw c.in-Err-Refused.field-0-is at c.in-Err-Refused.ensures in
    (no_new _ told.0, c.refusal-in-Err-Refused.ensures)
