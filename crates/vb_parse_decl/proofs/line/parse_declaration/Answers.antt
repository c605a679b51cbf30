use Rattle.std.proofs.Common.{rules, ◌≡◌, ◌-◌, ◌+◌, ◌≤◌, false, None, length, drop, Err, sym, ◌∙◌, ap, arith}
use Rattle.vb_parse_expr.specs.TypeReading.{most_tokens}
use Rattle.vb_parse_decl.specs.{DeclarationLines.IsDeclarationLine, LineReading.{IsAfterModifiers, begins_constants}, ModifierReading.read_modifiers}
use Rattle.vb_parse_decl.proofs.{LineTells.{shorter, within, constants_within, variables_within, constants_line, no_constants, variables_line, no_variables, header_line, no_header}, Refusals.passed_on}
use Rattle.vb_parse_decl.proofs.line.parse_declaration.Goals as goal

pub overflow_sub-at : goal.overflow_sub-at
overflow_sub-at c =
    let read : read_modifiers c.args.line.now.tokens ≡ (c.in_ok-modifiers.modifiers, c.in_ok-modifiers.rest.now) =
    ap read_modifiers (sym c.as_slice.ensures) ∙ sym c.in_ok-modifiers.ensures in
    omega (arith, c.len.ensures, shorter c.args.words.now c.args.line.now.tokens c.in_ok-modifiers.rest.now c.in_ok-modifiers.modifiers read)

pub with_modifiers-requires : goal.with_modifiers-requires
with_modifiers-requires c =
    let read : read_modifiers c.args.line.now.tokens ≡ (c.in_ok-modifiers.modifiers, c.in_ok-modifiers.rest.now) =
    ap read_modifiers (sym c.as_slice.ensures) ∙ sym c.in_ok-modifiers.ensures in
    within c.args.words.now c.args.line.now.tokens c.in_ok-modifiers.rest.now c.in_ok-modifiers.modifiers read c.len.result 1 c.len.ensures
    (constants_within c.in_ok-modifiers.rest.now (sym c.begins_constants.ensures ∙ c.if-begins_constants.true))

pub returns-in_err-found : goal.returns-in_err-found
returns-in_err-found c =
    let us = c.in_ok-modifiers.rest.now in
    let ms = c.in_ok-modifiers.modifiers in
    let read : read_modifiers c.args.line.now.tokens ≡ (c.in_ok-modifiers.modifiers, c.in_ok-modifiers.rest.now) =
    ap read_modifiers (sym c.as_slice.ensures) ∙ sym c.in_ok-modifiers.ensures in
    let same : c.from_residual-in_err-found.result ≡ Err c.in_err-found.field-0.0 = search (rules, c.from_residual-in_err-found.ensures) in
    passed_on (IsAfterModifiers ms) (IsDeclarationLine c.args.words.now) c.args.line.now c.args.line.now.tokens (drop (c.len.result - length us + 1) c.args.line.now.tokens)
    c.in_err-found.field-0.0 c.from_residual-in_err-found.result same
    (λ none. no_constants c.args.words.now c.args.line.now.tokens us ms read c.len.result c.len.ensures (sym c.begins_constants.ensures ∙ c.if-begins_constants.true) none)
    c.in_err-found.ensures

pub returns-then-begins_constants : goal.returns-then-begins_constants
returns-then-begins_constants c =
    let read : read_modifiers c.args.line.now.tokens ≡ (c.in_ok-modifiers.modifiers, c.in_ok-modifiers.rest.now) =
    ap read_modifiers (sym c.as_slice.ensures) ∙ sym c.in_ok-modifiers.ensures in
    constants_line c.args.words.now c.args.line.now.tokens c.in_ok-modifiers.rest.now c.in_ok-modifiers.modifiers read c.len.result c.in_ok-found.found c.len.ensures
    (sym c.begins_constants.ensures ∙ c.if-begins_constants.true) c.in_ok-found.ensures

pub with_modifiers-requires-in-Some : goal.with_modifiers-requires-in-Some
with_modifiers-requires-in-Some c =
    let read : read_modifiers c.args.line.now.tokens ≡ (c.in_ok-modifiers.modifiers, c.in_ok-modifiers.rest.now) =
    ap read_modifiers (sym c.as_slice.ensures) ∙ sym c.in_ok-modifiers.ensures in
    within c.args.words.now c.args.line.now.tokens c.in_ok-modifiers.rest.now c.in_ok-modifiers.modifiers read c.len.result c.in-Some.before c.len.ensures
    (variables_within c.in_ok-modifiers.rest.now c.in-Some.before (sym c.variables_at.ensures ∙ c.in-Some.is))

pub returns-in_err-found-2 : goal.returns-in_err-found-2
returns-in_err-found-2 c =
    let us = c.in_ok-modifiers.rest.now in
    let ms = c.in_ok-modifiers.modifiers in
    let read : read_modifiers c.args.line.now.tokens ≡ (c.in_ok-modifiers.modifiers, c.in_ok-modifiers.rest.now) =
    ap read_modifiers (sym c.as_slice.ensures) ∙ sym c.in_ok-modifiers.ensures in
    let same : c.from_residual-in_err-found-2.result ≡ Err c.in_err-found-2.field-0.0 = search (rules, c.from_residual-in_err-found-2.ensures) in
    passed_on (IsAfterModifiers ms) (IsDeclarationLine c.args.words.now) c.args.line.now c.args.line.now.tokens (drop (c.len.result - length us + c.in-Some.before) c.args.line.now.tokens)
    c.in_err-found-2.field-0.0 c.from_residual-in_err-found-2.result same
    (λ none. no_variables c.args.words.now c.args.line.now.tokens us ms read c.len.result c.in-Some.before c.len.ensures (sym c.variables_at.ensures ∙ c.in-Some.is) none)
    c.in_err-found-2.ensures

pub returns-in-Some : goal.returns-in-Some
returns-in-Some c =
    let read : read_modifiers c.args.line.now.tokens ≡ (c.in_ok-modifiers.modifiers, c.in_ok-modifiers.rest.now) =
    ap read_modifiers (sym c.as_slice.ensures) ∙ sym c.in_ok-modifiers.ensures in
    variables_line c.args.words.now c.args.line.now.tokens c.in_ok-modifiers.rest.now c.in_ok-modifiers.modifiers read c.len.result c.in-Some.before c.in_ok-found-2.found c.len.ensures
    (sym c.variables_at.ensures ∙ c.in-Some.is) c.in_ok-found-2.ensures

pub returns-in-Ok : goal.returns-in-Ok
returns-in-Ok c =
    let read : read_modifiers c.args.line.now.tokens ≡ (c.in_ok-modifiers.modifiers, c.in_ok-modifiers.rest.now) =
    ap read_modifiers (sym c.as_slice.ensures) ∙ sym c.in_ok-modifiers.ensures in
    header_line c.args.words.now c.args.line.now.tokens c.in_ok-modifiers.rest.now c.in_ok-modifiers.modifiers read c.in-Ok.found c.in-Ok.ensures

pub returns-in-Err-Grammar : goal.returns-in-Err-Grammar
returns-in-Err-Grammar c =
    let us = c.in_ok-modifiers.rest.now in
    let ms = c.in_ok-modifiers.modifiers in
    let read : read_modifiers c.args.line.now.tokens ≡ (c.in_ok-modifiers.modifiers, c.in_ok-modifiers.rest.now) =
    ap read_modifiers (sym c.as_slice.ensures) ∙ sym c.in_ok-modifiers.ensures in
    let few : length c.args.line.now.tokens ≤ most_tokens = omega (arith, c.len.ensures, c.len.type_inv) in
    let constants : begins_constants us ≡ false = sym c.begins_constants.ensures ∙ c.if-begins_constants.false in
    let other : c.variables_at.result ≡ None = search (rules, c.in_default.is) in
    let none = rw c.in-Err-Grammar.field-0-is at c.in-Err-Grammar.ensures in
    (no_header c.args.words.now c.args.line.now.tokens us ms read few constants (sym c.variables_at.ensures ∙ other) none, c.refusal.ensures)
