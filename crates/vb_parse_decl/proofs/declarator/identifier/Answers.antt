use Rattle.std.proofs.Common.{rules, ◌≡◌, Some, None, Err, arith, ◌∙◌, sym, ap, drop}
use Rattle.vb_parse_decl.specs.{Declarators.IsIdentifier, DeclaredReading.{IsPartAt, IsModifier, ends_identifier, first_name}}
use Rattle.vb_parse_decl.proofs.{DeclaredNames.{identifier_at, no_identifier, no_name}, DeclaredFinds.found_on}
use Rattle.vb_parse_decl.proofs.declarator.identifier.Goals as goal

pub returns-in_default : goal.returns-in_default
returns-in_default c =
    let none : first_name (drop c.args.from c.args.line.now.tokens) ≡ None =
    ap first_name (sym c.rest.ensures.rest) ∙ sym c.first_name.ensures ∙ search (rules, c.in_default.is) in
    (no_name (drop c.args.from c.args.line.now.tokens) none, c.refusal.ensures)

pub returns-in_err-modifier : goal.returns-in_err-modifier
returns-in_err-modifier c =
    let same : c.from_residual.result ≡ Err c.in_err-modifier.field-0.0 = search (rules, c.from_residual.ensures) in
    found_on (IsPartAt ends_identifier IsModifier) (IsPartAt ends_identifier IsIdentifier) c.args.line.now c.args.from _ c.in_err-modifier.field-0.0 c.from_residual.result same
    (λ none. no_identifier c.args.line.now.tokens c.args.from none) c.in_err-modifier.ensures

pub returns : goal.returns
returns c =
    let named : first_name (drop c.args.from c.args.line.now.tokens) ≡ Some c.in-Some.name =
    ap first_name (sym c.rest.ensures.rest) ∙ sym c.first_name.ensures ∙ c.in-Some.is in
    let found = c.in_ok-modifier.ensures in (
      omega (arith, found.0),
      identifier_at c.args.line.now.tokens c.args.from c.in_ok-modifier.behind c.in-Some.name c.in_ok-modifier.modifier named found.0 found.1,
    )
