use Rattle.std.proofs.Common.{rules, ◌≡◌, true, false, Err, arith, ◌∙◌, sym, ap, drop}
use Rattle.vb_parse_decl.specs.{Parts.IsExpression, Declarators.IsBound, DeclaredReading.{IsPartAt, anything, is_closing, begins_opening}}
use Rattle.vb_parse_decl.proofs.{DeclaredParts.{bound_at, no_bound, no_opening, opening_first, inside, closed_inside}, DeclaredFinds.found_on}
use Rattle.vb_parse_decl.proofs.declarator.bound.Goals as goal

pub returns-then-not-begins_opening : goal.returns-then-not-begins_opening
returns-then-not-begins_opening c =
    let other : c.begins_opening.result ≡ false = search (rules, c.if-not-begins_opening.true) in
    let none : begins_opening (drop c.args.from c.args.line.now.tokens) ≡ false =
    ap begins_opening (sym c.rest.ensures.rest) ∙ sym c.begins_opening.ensures ∙ other in
    (λ x n p. no_opening _ x n none p, c.refusal.ensures)

pub overflow_add-from : goal.overflow_add-from
overflow_add-from c =
    let begins : begins_opening (drop c.args.from c.args.line.now.tokens) ≡ true =
    ap begins_opening (sym c.rest.ensures.rest) ∙ sym c.begins_opening.ensures ∙ search (rules, c.if-not-begins_opening.false) in
    omega (arith, c.rest.ensures.few, inside c.args.line.now.tokens c.args.from _ _ (opening_first _ begins))

pub returns-in_err-found : goal.returns-in_err-found
returns-in_err-found c =
    let same : c.from_residual.result ≡ Err c.in_err-found.field-0.0 = search (rules, c.from_residual.ensures) in
    found_on (IsPartAt is_closing IsExpression) (IsPartAt anything IsBound) c.args.line.now c.args.from _ c.in_err-found.field-0.0 c.from_residual.result same
    (λ none. no_bound c.args.line.now.tokens c.args.from none) c.in_err-found.ensures

pub overflow_add-result : goal.overflow_add-result
overflow_add-result c =
    let found = c.in_ok-found.ensures in
    omega (arith, c.rest.ensures.few, closed_inside c.args.line.now.tokens _ c.in_ok-found.behind c.in_ok-found.found found.0 found.1)

pub returns : goal.returns
returns c =
    let begins : begins_opening (drop c.args.from c.args.line.now.tokens) ≡ true =
    ap begins_opening (sym c.rest.ensures.rest) ∙ sym c.begins_opening.ensures ∙ search (rules, c.if-not-begins_opening.false) in
    let found = c.in_ok-found.ensures in
    (omega (arith, found.0), bound_at c.args.line.now.tokens c.args.from c.in_ok-found.behind c.in_ok-found.found begins found.0 found.1)
