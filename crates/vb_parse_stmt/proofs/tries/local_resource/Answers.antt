use Rattle.std.proofs.Common.{rules, ◌≡◌, Err}
use Rattle.vb_parse_decl.proofs.Refusals.{passed_on}
use Rattle.vb_parse_decl.specs.Declarators.{IsNew}
use Rattle.vb_parse_stmt.specs.{Statements.IsResource, BlockParts.IsTypedValue}
use Rattle.vb_parse_stmt.proofs.GuardResources.{no_new_resource, no_typed_resource, named_as}
use Rattle.vb_parse_stmt.proofs.tries.local_resource.Goals as goal

pub returns-in_err-class : goal.returns-in_err-class
returns-in_err-class c =
    let same : c.from_residual.result ≡ Err c.in_err-class.field-0.0 = search (rules, c.from_residual.ensures) in
    passed_on IsNew IsResource c.args.line.now _ _ c.in_err-class.field-0.0 c.from_residual.result same
    (no_new_resource c.one_reading.ensures.expressions c.args.line.now.tokens c.args.name c.few_tokens.ensures c.requires.named c.requires.typed
    (c.if-is_word_at.ensures.answer.0 (search rules))) c.in_err-class.ensures

pub returns-in_ok-class : goal.returns-in_ok-class
returns-in_ok-class c = named_as c.args.line.now.tokens c.args.name _ c.requires.named c.requires.typed c.in_ok-class.ensures

pub returns-in_err-declared : goal.returns-in_err-declared
returns-in_err-declared c =
    let same : c.from_residual-in_err-declared.result ≡ Err c.in_err-declared.field-0.0 = search (rules, c.from_residual-in_err-declared.ensures) in
    passed_on IsTypedValue IsResource c.args.line.now _ _ c.in_err-declared.field-0.0 c.from_residual-in_err-declared.result same
    (no_typed_resource c.one_reading.ensures.expressions c.args.line.now.tokens c.args.name c.few_tokens.ensures c.requires.named c.requires.typed
    (λ at. search (rules, c.if-is_word_at.ensures.answer, at))) c.in_err-declared.ensures

pub returns-in_ok-declared : goal.returns-in_ok-declared
returns-in_ok-declared c = named_as c.args.line.now.tokens c.args.name _ c.requires.named c.requires.typed c.in_ok-declared.ensures
