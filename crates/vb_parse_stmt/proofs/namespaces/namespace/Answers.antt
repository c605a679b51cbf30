use Rattle.std.proofs.Common.{rules, ◌≡◌, ◌+◌, ◌-◌, true, false, List, [], ◌∷◌, ◌++◌, drop, Some, None, arith, ◌∙◌, sym, ap, subst}
use Rattle.vb_text.specs.declared.names.Name.{Name}
use Rattle.vb_parse_expr.specs.Types.{SpellsNames}
use Rattle.vb_parse_decl.specs.DeclaredReading.{IsPartAt, is_over, first_name}
use Rattle.vb_parse_stmt.specs.NamespaceReading.{is_dot}
use Rattle.vb_parse_stmt.proofs.ImportsNames.{NamesLead, no_first_name, no_name_behind, no_names_at_end, names_lead_to, names_lead_on}
use Rattle.vb_parse_stmt.proofs.namespaces.namespace.Goals as goal

pub returns-in_default : goal.returns-in_default
returns-in_default c =
    let tokens = c.args.line.now.tokens in
    let none : first_name (drop c.loop-at.at tokens) ≡ None =
    ap first_name (sym c.rest.ensures.rest) ∙ sym c.first_name.ensures ∙ search (rules, c.in_default.is) in
    (no_first_name tokens c.args.from c.loop-at.at c.loop-at.found c.loop-at.invariant none, c.refusal.ensures)

pub returns-then-is_over : goal.returns-then-is_over
returns-then-is_over c =
    let tokens = c.args.line.now.tokens in
    let at = c.loop-at.at in
    let named : first_name (drop at tokens) ≡ Some c.in-Some.name = ap first_name (sym c.rest.ensures.rest) ∙ sym c.first_name.ensures ∙ c.in-Some.is in
    let over : is_over (drop (at + 1) tokens) ≡ true = ap is_over (sym c.rest-in-loop-at.ensures.rest) ∙ sym c.is_over.ensures ∙ c.if-is_over.true in
    let pushed : c.push.new.self ≡ c.loop-at.found ++ c.in-Some.name ∷ [] = search (rules, c.in_ok-push.ensures.ok) in (
      omega (arith, c.loop-at.invariant.under),
      subst (λ (ns : List Name). IsPartAt is_over SpellsNames (drop c.args.from tokens) ns (at + 1 - c.args.from)) (sym pushed)
          (names_lead_to tokens c.args.from at c.loop-at.found c.in-Some.name c.loop-at.invariant named over),
    )

pub returns-then-not-is_dot : goal.returns-then-not-is_dot
returns-then-not-is_dot c =
    let tokens = c.args.line.now.tokens in
    let at = c.loop-at.at in
    let over : is_over (drop (at + 1) tokens) ≡ false = ap is_over (sym c.rest-in-loop-at.ensures.rest) ∙ sym c.is_over.ensures ∙ c.if-is_over.false in
    let other : c.is_dot.result ≡ false = search (rules, c.if-not-is_dot.true) in
    let dotted : is_dot (drop (at + 1) tokens) ≡ false = ap is_dot (sym c.rest-in-loop-at-2.ensures.rest) ∙ sym c.is_dot.ensures ∙ other in
    (no_name_behind tokens c.args.from at c.loop-at.found c.loop-at.invariant over dotted, c.refusal-then-not-is_dot.ensures)

pub loop-at-preserved : goal.loop-at-preserved
loop-at-preserved c =
    let tokens = c.args.line.now.tokens in
    let at = c.loop-at.at in
    let named : first_name (drop at tokens) ≡ Some c.in-Some.name = ap first_name (sym c.rest.ensures.rest) ∙ sym c.first_name.ensures ∙ c.in-Some.is in
    let over : is_over (drop (at + 1) tokens) ≡ false = ap is_over (sym c.rest-in-loop-at.ensures.rest) ∙ sym c.is_over.ensures ∙ c.if-is_over.false in
    let there : c.is_dot.result ≡ true = search (rules, c.if-not-is_dot.false) in
    let dotted : is_dot (drop (at + 1) tokens) ≡ true = ap is_dot (sym c.rest-in-loop-at-2.ensures.rest) ∙ sym c.is_dot.ensures ∙ there in
    let pushed : c.push.new.self ≡ c.loop-at.found ++ c.in-Some.name ∷ [] = search (rules, c.in_ok-push.ensures.ok) in
    subst (λ (ns : List Name). NamesLead tokens c.args.from (at + 2) ns) (sym pushed)
    (names_lead_on tokens c.args.from at c.loop-at.found c.in-Some.name c.loop-at.invariant named over dotted)

pub returns : goal.returns
returns c = (
  no_names_at_end c.args.line.now.tokens c.args.from c.loop-at.at c.loop-at.found c.loop-at.invariant (λ inside. omega (arith, inside)),
  c.refusal-2.ensures,
)
