use Rattle.std.proofs.Common.{rules, ◌≡◌, ◌+◌, ◌-◌, true, false, Err, arith, ◌∙◌, sym, ap, drop}
use Rattle.std.proofs.lemmas.List.{drop-drop}
use Rattle.vb_parse_decl.specs.{Declarators.IsBound, DeclaredReading.{IsPartAt, IsModifier, anything, ends_identifier, begins_array}}
use Rattle.vb_parse_decl.proofs.{DeclaredNames.{array_at, no_array_end, no_modifier, other_modifier, bound_modifier}, DeclaredFinds.found_on}
use Rattle.vb_parse_decl.proofs.declarator.modifier_at.Goals as goal

pub returns-then-ends_identifier-2 : goal.returns-then-ends_identifier-2
returns-then-ends_identifier-2 c =
    let begins : begins_array (drop c.args.from c.args.line.now.tokens) ≡ true = ap begins_array (sym c.rest-2.ensures.rest) ∙ sym c.begins_array.ensures ∙ c.if-begins_array.true in
    let over : ends_identifier (drop 2 (drop c.args.from c.args.line.now.tokens)) ≡ true =
    ap ends_identifier (drop-drop 2 c.args.from c.args.line.now.tokens ∙ sym c.rest-then-begins_array.ensures.rest) ∙ sym c.ends_identifier-then-begins_array.ensures ∙ c.if-ends_identifier-2.true in
    (omega arith, array_at (drop c.args.from c.args.line.now.tokens) (c.args.from + 2 - c.args.from) (omega arith) begins over)

pub returns-else-ends_identifier-2 : goal.returns-else-ends_identifier-2
returns-else-ends_identifier-2 c =
    let begins : begins_array (drop c.args.from c.args.line.now.tokens) ≡ true = ap begins_array (sym c.rest-2.ensures.rest) ∙ sym c.begins_array.ensures ∙ c.if-begins_array.true in
    let over : ends_identifier (drop 2 (drop c.args.from c.args.line.now.tokens)) ≡ false =
    ap ends_identifier (drop-drop 2 c.args.from c.args.line.now.tokens ∙ sym c.rest-then-begins_array.ensures.rest) ∙ sym c.ends_identifier-then-begins_array.ensures ∙ c.if-ends_identifier-2.false in
    (no_array_end c.primary_begins.ensures (drop c.args.from c.args.line.now.tokens) begins over, c.refusal.ensures)

pub returns-in_err-found : goal.returns-in_err-found
returns-in_err-found c =
    let same : c.from_residual.result ≡ Err c.in_err-found.field-0.0 = search (rules, c.from_residual.ensures) in
    let plain : ends_identifier (drop c.args.from c.args.line.now.tokens) ≡ false = ap ends_identifier (sym c.rest.ensures.rest) ∙ sym c.ends_identifier.ensures ∙ c.if-ends_identifier.false in
    let array : begins_array (drop c.args.from c.args.line.now.tokens) ≡ false = ap begins_array (sym c.rest-2.ensures.rest) ∙ sym c.begins_array.ensures ∙ c.if-begins_array.false in
    found_on (IsPartAt anything IsBound) (IsPartAt ends_identifier IsModifier) c.args.line.now c.args.from c.args.from c.in_err-found.field-0.0 c.from_residual.result same
    (λ none. no_modifier (drop c.args.from c.args.line.now.tokens) plain array none) c.in_err-found.ensures

pub returns-then-ends_identifier-3 : goal.returns-then-ends_identifier-3
returns-then-ends_identifier-3 c =
    let found = c.in_ok-found.ensures in
    let over : ends_identifier (drop c.in_ok-found.behind c.args.line.now.tokens) ≡ true =
    ap ends_identifier (sym c.rest-3.ensures.rest) ∙ sym c.ends_identifier-2.ensures ∙ c.if-ends_identifier-3.true in
    (found.0, bound_modifier c.args.line.now.tokens c.args.from c.in_ok-found.behind c.in_ok-found.found found.0 found.1 over)

pub returns-else-ends_identifier-3 : goal.returns-else-ends_identifier-3
returns-else-ends_identifier-3 c =
    let found = c.in_ok-found.ensures in
    let plain : ends_identifier (drop c.args.from c.args.line.now.tokens) ≡ false = ap ends_identifier (sym c.rest.ensures.rest) ∙ sym c.ends_identifier.ensures ∙ c.if-ends_identifier.false in
    let array : begins_array (drop c.args.from c.args.line.now.tokens) ≡ false = ap begins_array (sym c.rest-2.ensures.rest) ∙ sym c.begins_array.ensures ∙ c.if-begins_array.false in
    let over : ends_identifier (drop c.in_ok-found.behind c.args.line.now.tokens) ≡ false =
    ap ends_identifier (sym c.rest-3.ensures.rest) ∙ sym c.ends_identifier-2.ensures ∙ c.if-ends_identifier-3.false in (
      other_modifier c.one_reading.ensures.expressions c.args.line.now.tokens c.args.from c.in_ok-found.behind c.in_ok-found.found
          c.rest.ensures.few found.0 plain array found.1 over,
      c.refusal-else-ends_identifier-3.ensures,
    )
