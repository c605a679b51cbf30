use Rattle.std.proofs.Common.{rules, ◌≡◌, false, ◌∙◌, sym, ap, drop}
use Rattle.std.proofs.lemmas.Bool.{both_ways}
use Rattle.vb_parse_decl.specs.DeclaredReading.{is_over}
use Rattle.vb_parse_decl.proofs.DeclaredValues.{no_new, new_at}
use Rattle.vb_parse_decl.proofs.declarator.creation.Goals as goal

pub returns-then-not-is_over : goal.returns-then-not-is_over
returns-then-not-is_over c =
    let over : is_over (drop c.in-Ok.behind c.args.line.now.tokens) ≡ false =
    ap is_over (sym c.rest.ensures.rest) ∙ sym c.is_over.ensures ∙ search (rules, c.if-not-is_over.true) in (
      no_new c.one_reading.ensures.primaries c.args.line.now.tokens c.args.from c.in-Ok.behind c.in-Ok.made
          c.rest.ensures.few c.in-Ok.ensures.0 c.in-Ok.ensures.1 (λ p same e. both_ways _ over e),
      c.refusal.ensures,
    )

pub returns-in-Ok : goal.returns-in-Ok
returns-in-Ok c = (
  no_new c.one_reading.ensures.primaries c.args.line.now.tokens c.args.from c.in-Ok.behind c.in-Ok.made
      c.rest.ensures.few c.in-Ok.ensures.0 c.in-Ok.ensures.1 (λ p same e. c.in_default.not-ObjectCreation p.0 p.1 same),
  c.refusal-in_default.ensures,
)

pub returns : goal.returns
returns c =
    let told = rw c.in-Err-Refused.field-0-is at c.in-Err-Refused.ensures in
    (λ x n p. told.0 _ n (new_at _ x n p), c.refusal-in-Err-Refused.ensures)
