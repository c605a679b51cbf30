use Rattle.std.proofs.Common.{rules, ◌≡◌, Err, sym, ap, ◌∙◌, arith}
use Rattle.vb_syntax.specs.declared.tokens.Token.TheVariants as token
use Rattle.vb_parse_decl.specs.Parts.{IsExpression, IsPrimary, equal}
use Rattle.vb_parse_stmt.specs.{Statements.compound_sign, SimpleLines.{IsPrimaryLine, compound_there}}
use Rattle.vb_parse_decl.proofs.{Parted.parted_at, Refusals.passed_on}
use Rattle.vb_parse_stmt.proofs.SimpleRefusals.{no_line, other_line, not_both, operator_sign, compound_read}
use Rattle.vb_parse_stmt.proofs.simple.primary_line.Goals as goal

pub returns-in_err-value-in-Ok : goal.returns-in_err-value-in-Ok
returns-in_err-value-in-Ok c =
    let same : c.from_residual.result ≡ Err c.in_err-value-in-Ok.field-0.0 = search (rules, c.from_residual.ensures) in
    let at = c.if-is_equal_at.ensures.0 (search rules) in
    passed_on IsExpression IsPrimaryLine c.args.line.now _ _ c.in_err-value-in-Ok.field-0.0 c.from_residual.result same
    (λ none. other_line c.one_reading.ensures.primaries c.args.line.now.tokens c.in-Ok.behind c.in-Ok.target (omega arith)
    c.in-Ok.ensures.1 (λ e. omega arith) (λ y there p. none y p) (λ o y there p. not_both _ o at there))
    c.in_err-value-in-Ok.ensures

pub returns-then-is_equal_at : goal.returns-then-is_equal_at
returns-then-is_equal_at c =
    let at = c.if-is_equal_at.ensures.0 (search rules) in
    let found = c.in-Ok.ensures.1 in
    parted_at equal IsPrimary IsExpression c.args.line.now.tokens 0 c.in-Ok.behind c.in-Ok.target c.in_ok-value-in-Ok.value
    c.in-Ok.ensures.0 at (record { edge = found.edge; spells = found.spells }) c.in_ok-value-in-Ok.ensures

pub returns-in_default : goal.returns-in_default
returns-in_default c = (
  other_line c.one_reading.ensures.primaries c.args.line.now.tokens c.in-Ok.behind c.in-Ok.target (omega arith)
      c.in-Ok.ensures.1 (λ e. omega arith) (λ y at p. search (rules, c.if-is_equal_at.ensures, at))
      (λ o y at p. c.in_default.not-Some o (c.compound_at.ensures ∙ ap compound_there at ∙ compound_read o)),
  c.refusal.ensures,
)

pub returns-in_err-operand-in-Ok : goal.returns-in_err-operand-in-Ok
returns-in_err-operand-in-Ok c =
    let same : c.from_residual-in_err-operand-in-Ok.result ≡ Err c.in_err-operand-in-Ok.field-0.0 = search (rules, c.from_residual-in_err-operand-in-Ok.ensures) in
    passed_on IsExpression IsPrimaryLine c.args.line.now _ _ c.in_err-operand-in-Ok.field-0.0 c.from_residual-in_err-operand-in-Ok.result same
    (λ none. other_line c.one_reading.ensures.primaries c.args.line.now.tokens c.in-Ok.behind c.in-Ok.target (omega arith)
    c.in-Ok.ensures.1 (λ e. omega arith) (λ y at p. search rules) (λ o y there p. none y p))
    c.in_err-operand-in-Ok.ensures

pub returns-in_ok-operand-in-Ok : goal.returns-in_ok-operand-in-Ok
returns-in_ok-operand-in-Ok c =
    let at = operator_sign _ c.in-Some.operator (sym c.compound_at.ensures ∙ c.in-Some.is) in
    let found = c.in-Ok.ensures.1 in
    parted_at (token.Symbol (compound_sign c.in-Some.operator)) IsPrimary IsExpression c.args.line.now.tokens 0 c.in-Ok.behind c.in-Ok.target
    c.in_ok-operand-in-Ok.operand c.in-Ok.ensures.0 at (record { edge = found.edge; spells = found.spells }) c.in_ok-operand-in-Ok.ensures

pub returns-in-Err-Refused : goal.returns-in-Err-Refused
returns-in-Err-Refused c =
    let told = rw c.in-Err-Refused.field-0-is at c.in-Err-Refused.ensures in
    (no_line _ told.0, c.refusal-in-Err-Refused.ensures)
