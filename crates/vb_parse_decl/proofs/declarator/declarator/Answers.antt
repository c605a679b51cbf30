use Rattle.std.proofs.Common.{rules, ◌≡◌, ◌+◌, true, false, Some, None, Err, arith, ◌∙◌, sym, ap, drop}
use Rattle.vb_parse_decl.specs.{Parts.{AreListed, IsExpression}, Declarators.{IsIdentifier, IsNew, IsDeclarator}, DeclaredReading.{IsPartAt, IsTyped, is_over, is_as, begins_new, inferred_name}}
use Rattle.vb_parse_decl.proofs.{DeclaredDeclarators.{Readings, inferred_found, typed_found, new_found, no_inferred_value, no_names, no_made_new, no_type_behind}, DeclaredFinds.found_on}
use Rattle.vb_parse_decl.proofs.declarator.declarator.Goals as goal

pub returns-in_err-value : goal.returns-in_err-value
returns-in_err-value c =
    let same : c.from_residual.result ≡ Err c.in_err-value.field-0.0 = search (rules, c.from_residual.ensures) in
    let named : inferred_name (drop c.args.from c.args.line.now.tokens) ≡ Some c.in-Some.name =
    ap inferred_name (sym c.rest.ensures.rest) ∙ sym c.inferred_name.ensures ∙ c.in-Some.is in
    found_on (IsPartAt is_over IsExpression) (IsPartAt is_over IsDeclarator) c.args.line.now c.args.from (c.args.from + 2) c.in_err-value.field-0.0 c.from_residual.result same
    (λ absent. no_inferred_value c.args.line.now.tokens c.args.from c.in-Some.name named absent) c.in_err-value.ensures

pub returns-in-Some : goal.returns-in-Some
returns-in-Some c =
    let named : inferred_name (drop c.args.from c.args.line.now.tokens) ≡ Some c.in-Some.name =
    ap inferred_name (sym c.rest.ensures.rest) ∙ sym c.inferred_name.ensures ∙ c.in-Some.is in
    let found = c.in_ok-value.ensures in (
      omega (arith, found.0),
      inferred_found c.args.line.now.tokens c.args.from c.in_ok-value.behind c.in-Some.name c.in_ok-value.value named found.0 found.1,
    )

pub returns-in_err-names : goal.returns-in_err-names
returns-in_err-names c =
    let same : c.from_residual-in_err-names.result ≡ Err c.in_err-names.field-0.0 = search (rules, c.from_residual-in_err-names.ensures) in
    let none : inferred_name (drop c.args.from c.args.line.now.tokens) ≡ None =
    ap inferred_name (sym c.rest.ensures.rest) ∙ sym c.inferred_name.ensures ∙ search (rules, c.in_default.is) in
    found_on (IsPartAt is_as (AreListed IsIdentifier)) (IsPartAt is_over IsDeclarator) c.args.line.now c.args.from c.args.from c.in_err-names.field-0.0 c.from_residual-in_err-names.result same
    (λ absent. no_names c.args.line.now.tokens c.args.from none absent) c.in_err-names.ensures

pub returns-in_err-class : goal.returns-in_err-class
returns-in_err-class c =
    let same : c.from_residual-in_err-class.result ≡ Err c.in_err-class.field-0.0 = search (rules, c.from_residual-in_err-class.ensures) in
    let laws : Readings = record {
      begins = c.primary_begins.ensures;
      expressions = c.one_reading.ensures.expressions;
      primaries = c.one_reading.ensures.primaries;
      initializers = c.one_reading.ensures.initializers;
      types = c.one_reading.ensures.types;
    } in
    let none : inferred_name (drop c.args.from c.args.line.now.tokens) ≡ None =
    ap inferred_name (sym c.rest.ensures.rest) ∙ sym c.inferred_name.ensures ∙ search (rules, c.in_default.is) in
    let new : begins_new (drop (c.in_ok-names.at + 1) c.args.line.now.tokens) ≡ true =
    ap begins_new (sym c.rest-2.ensures.rest) ∙ sym c.begins_new.ensures ∙ c.if-begins_new.true in
    let names = c.in_ok-names.ensures in
    found_on (IsPartAt is_over IsNew) (IsPartAt is_over IsDeclarator) c.args.line.now c.args.from (c.in_ok-names.at + 1) c.in_err-class.field-0.0 c.from_residual-in_err-class.result same
    (λ absent. no_made_new laws c.args.line.now.tokens c.args.from c.in_ok-names.at _ c.rest.ensures.few names.0 none names.1 new absent)
    c.in_err-class.ensures

pub returns-then-begins_new : goal.returns-then-begins_new
returns-then-begins_new c =
    let names = c.in_ok-names.ensures in
    let made = c.in_ok-class.ensures in (
      omega (arith, names.0, made.0),
      new_found c.args.line.now.tokens c.args.from c.in_ok-names.at c.in_ok-class.behind _ _ _ names.0 made.0 names.1 made.1,
    )

pub returns-in_err-declared : goal.returns-in_err-declared
returns-in_err-declared c =
    let same : c.from_residual-in_err-declared.result ≡ Err c.in_err-declared.field-0.0 = search (rules, c.from_residual-in_err-declared.ensures) in
    let laws : Readings = record {
      begins = c.primary_begins.ensures;
      expressions = c.one_reading.ensures.expressions;
      primaries = c.one_reading.ensures.primaries;
      initializers = c.one_reading.ensures.initializers;
      types = c.one_reading.ensures.types;
    } in
    let none : inferred_name (drop c.args.from c.args.line.now.tokens) ≡ None =
    ap inferred_name (sym c.rest.ensures.rest) ∙ sym c.inferred_name.ensures ∙ search (rules, c.in_default.is) in
    let new : begins_new (drop (c.in_ok-names.at + 1) c.args.line.now.tokens) ≡ false =
    ap begins_new (sym c.rest-2.ensures.rest) ∙ sym c.begins_new.ensures ∙ c.if-begins_new.false in
    let names = c.in_ok-names.ensures in
    found_on (IsPartAt is_over IsTyped) (IsPartAt is_over IsDeclarator) c.args.line.now c.args.from (c.in_ok-names.at + 1) c.in_err-declared.field-0.0 c.from_residual-in_err-declared.result same
    (λ absent. no_type_behind laws c.args.line.now.tokens c.args.from c.in_ok-names.at _ c.rest.ensures.few names.0 none names.1 new absent)
    c.in_err-declared.ensures

pub returns : goal.returns
returns c =
    let names = c.in_ok-names.ensures in
    let typed = c.in_ok-declared.ensures in (
      omega (arith, names.0, typed.0),
      typed_found c.args.line.now.tokens c.args.from c.in_ok-names.at c.in_ok-declared.behind _ c.in_ok-declared.declared c.in_ok-declared.initial
          names.0 typed.0 names.1 typed.1,
    )
