use Rattle.std.proofs.Common.{rules, ◌≡◌, ◌+◌, ◌-◌, ◌++◌, ◌∷◌, [], length, Some, None, Err, sym, ◌∙◌, ap}
use Rattle.std.specs.Option.{option_map}
use Rattle.vb_parse_expr.specs.Reading.{after_comma}
use Rattle.vb_parse_decl.specs.DeclarationReading.{listed, read_list}
use Rattle.vb_parse_decl.proofs.{ListTurns.{turn_fails, turn_ends, turn_goes, no_turn}, Givings.failed}
use Rattle.vb_parse_decl.proofs.lists.read_list.Goals as goal

pub returns-in_err-one : goal.returns-in_err-one
unfolding read_list
returns-in_err-one g c =
    let same : c.from_residual.result ≡ Err c.in_err-one.field-0.0 = search (rules, c.from_residual.ensures) in
    failed _ _ _ c.in_err-one.field-0.0 c.from_residual.result same
    (λ e. c.loop-turn.invariant ∙ turn_fails g.T.Listed.reading _ c.loop-turn._turn _ _ c.loop-turn-test.true e) c.in_err-one.ensures

pub returns-in_default : goal.returns-in_default
unfolding read_list
returns-in_default g c =
    let pushed : c.push.new.self ≡ c.loop-turn.found ++ c.in_ok-one.one ∷ [] = search (rules, c.in_ok-push.ensures.ok) in
    let nothing : c.after_comma.result ≡ None = search (rules, c.in_default.is) in
    let none : after_comma c.in_ok-one.after.now ≡ None = sym c.after_comma.ensures ∙ ap (λ o. option_map (λ ts. ts.now) o) nothing in
    c.loop-turn.invariant ∙ turn_ends g.T.Listed.reading _ c.loop-turn._turn _ _ _ _ c.loop-turn-test.true c.in_ok-one.ensures none
    ∙ ap (λ xs. Some (xs, c.in_ok-one.after.now)) (sym pushed)

pub loop-turn-preserved : goal.loop-turn-preserved
loop-turn-preserved g c =
    let pushed : c.push.new.self ≡ c.loop-turn.found ++ c.in_ok-one.one ∷ [] = search (rules, c.in_ok-push.ensures.ok) in
    let next : after_comma c.in_ok-one.after.now ≡ Some c.in-Some.next.now = sym c.after_comma.ensures ∙ ap (λ o. option_map (λ ts. ts.now) o) c.in-Some.is in
    c.loop-turn.invariant ∙ turn_goes g.T.Listed.reading _ c.loop-turn._turn _ _ _ _ _ c.loop-turn-test.true c.in_ok-one.ensures next
    ∙ ap (λ xs. listed g.T.Listed.reading (length c.args.tokens.now - (c.loop-turn._turn + 1)) xs c.in-Some.next.now) (sym pushed)

pub returns : goal.returns
unfolding read_list
returns g c = c.loop-turn.invariant ∙ no_turn g.T.Listed.reading _ c.loop-turn._turn _ _ c.loop-turn-test.false
