use Rattle.std.proofs.Common.{rules, ◌≡◌, ◌+◌, ◌-◌, true, false, List, [], ◌∷◌, ◌++◌, Err, arith, ◌∙◌, sym, ap, subst, drop}
use Rattle.vb_syntax.specs.declared.declarator.VariableIdentifier.{VariableIdentifier}
use Rattle.vb_parse_decl.specs.{Parts.AreListed, Declarators.IsIdentifier, DeclaredReading.{IsPartAt, is_as, ends_identifier}}
use Rattle.vb_parse_decl.proofs.{DeclaredLists.{Leads, leads_on, leads_to, no_first}, DeclaredNames.{one_identifier, identifier_ends, comma_behind}, DeclaredFinds.found_on}
use Rattle.vb_parse_decl.proofs.declarator.identifiers.Goals as goal

pub returns-in_err-one : goal.returns-in_err-one
returns-in_err-one c =
    let same : c.from_residual.result ≡ Err c.in_err-one.field-0.0 = search (rules, c.from_residual.ensures) in
    found_on (IsPartAt ends_identifier IsIdentifier) (IsPartAt is_as (AreListed IsIdentifier)) c.args.line.now c.args.from c.loop-at.at c.in_err-one.field-0.0 c.from_residual.result same
    (λ none. no_first ends_identifier is_as IsIdentifier identifier_ends c.args.line.now.tokens c.args.from c.loop-at.at c.loop-at.found c.loop-at.invariant none)
    c.in_err-one.ensures

pub returns-then-is_as : goal.returns-then-is_as
returns-then-is_as c =
    let tokens = c.args.line.now.tokens in
    let found = c.in_ok-one.ensures in
    let pushed : c.push.new.self ≡ c.loop-at.found ++ c.in_ok-one.one ∷ [] = search (rules, c.in_ok-push.ensures.ok) in
    let ends : is_as (drop c.in_ok-one.behind tokens) ≡ true = ap is_as (sym c.rest.ensures.rest) ∙ sym c.is_as.ensures ∙ c.if-is_as.true in (
      omega (arith, c.loop-at.invariant.under, found.0),
      subst (λ (vs : List VariableIdentifier). IsPartAt is_as (AreListed IsIdentifier) (drop c.args.from tokens) vs (c.in_ok-one.behind - c.args.from)) (sym pushed)
          (leads_to ends_identifier is_as IsIdentifier tokens c.args.from c.loop-at.at c.in_ok-one.behind c.loop-at.found c.in_ok-one.one
          c.loop-at.invariant found.0 found.1 ends),
    )

pub loop-at-preserved : goal.loop-at-preserved
loop-at-preserved c =
    let tokens = c.args.line.now.tokens in
    let found = c.in_ok-one.ensures in
    let pushed : c.push.new.self ≡ c.loop-at.found ++ c.in_ok-one.one ∷ [] = search (rules, c.in_ok-push.ensures.ok) in
    let goes : is_as (drop c.in_ok-one.behind tokens) ≡ false = ap is_as (sym c.rest.ensures.rest) ∙ sym c.is_as.ensures ∙ c.if-is_as.false in
    subst (λ (vs : List VariableIdentifier). Leads is_as IsIdentifier tokens c.args.from (c.in_ok-one.behind + 1) vs) (sym pushed)
    (leads_on ends_identifier is_as IsIdentifier identifier_ends (one_identifier c.primary_begins.ensures c.one_reading.ensures.expressions)
    tokens c.args.from c.loop-at.at c.in_ok-one.behind c.loop-at.found c.in_ok-one.one c.rest.ensures.few c.loop-at.invariant found.0 found.1
    (comma_behind tokens c.loop-at.at c.in_ok-one.behind found.0 found.1.over goes))
