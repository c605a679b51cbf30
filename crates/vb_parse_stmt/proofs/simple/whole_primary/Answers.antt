use Rattle.std.proofs.Common.{arith}
use Rattle.vb_parse_decl.proofs.Wholes.{primary_front}
use Rattle.vb_parse_stmt.proofs.SimpleRefusals.{no_primary}
use Rattle.vb_parse_stmt.proofs.simple.whole_primary.Goals as goal

pub returns-else-behind-len : goal.returns-else-behind-len
returns-else-behind-len c = (
  no_primary c.one_reading.ensures.primaries c.args.line.now.tokens c.args.from c.in-Ok.behind c.in-Ok.found (omega arith) c.requires
      c.in-Ok.ensures.0 c.in-Ok.ensures.1 (λ e. omega arith),
  c.refusal.ensures,
)

pub returns-in-Err-Refused : goal.returns-in-Err-Refused
returns-in-Err-Refused c =
    let told = rw c.in-Err-Refused.field-0-is at c.in-Err-Refused.ensures in
    (λ x p. told.0 x _ (primary_front _ x p), c.refusal-in-Err-Refused.ensures)
