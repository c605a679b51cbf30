use Rattle.std.proofs.Common.{rules}
use Rattle.vb_parse_stmt.proofs.BranchRefusals.{test_at, no_test_front, no_test}
use Rattle.vb_parse_stmt.proofs.branches.test.Goals as goal

pub returns-then-ends_test : goal.returns-then-ends_test
returns-then-ends_test c =
    test_at c.args.line.now.tokens c.args.from c.in-Ok.behind c.in-Ok.found c.in-Ok.ensures.0 (c.if-ends_test.ensures.0 (search rules)) c.in-Ok.ensures.1

pub returns-else-ends_test : goal.returns-else-ends_test
returns-else-ends_test c = (
  no_test c.one_reading.ensures.expressions c.args.line.now.tokens c.args.from c.in-Ok.behind c.in-Ok.found c.few_tokens.ensures c.requires
      c.in-Ok.ensures.0 c.in-Ok.ensures.1 (λ ends. search (rules, c.if-ends_test.ensures, ends)),
  c.refusal.ensures,
)

pub returns-in-Err-Refused : goal.returns-in-Err-Refused
returns-in-Err-Refused c =
    let told = rw c.in-Err-Refused.field-0-is at c.in-Err-Refused.ensures in
    (no_test_front _ told.0, c.refusal-in-Err-Refused.ensures)
