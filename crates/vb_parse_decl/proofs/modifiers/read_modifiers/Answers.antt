use Rattle.std.proofs.Common.{rules, ◌≡◌, ◌-◌, ◌+◌, ◌++◌, ◌∷◌, [], length, Some, sym, ◌∙◌, ap}
use Rattle.std.specs.Option.{option_map}
use Rattle.vb_parse_decl.specs.ModifierReading.{first_modifier, modifiers_from}
use Rattle.vb_parse_decl.proofs.ModifierTurns.{turn_goes}
use Rattle.vb_parse_decl.proofs.modifiers.read_modifiers.Goals as goal

pub loop-turn-preserved : goal.loop-turn-preserved
loop-turn-preserved c =
    let pushed : c.push.new.self ≡ c.loop-turn.found ++ c.in-Some.modifier ∷ [] = search (rules, c.in_ok-push.ensures.ok) in
    let next : first_modifier c.loop-turn.rest.now ≡ Some (c.in-Some.modifier, c.in-Some.after.now) =
    sym c.first_modifier.ensures ∙ ap (λ o. option_map (λ x. (x.0, x.1.now)) o) c.in-Some.is in
    c.loop-turn.invariant ∙ turn_goes (length c.args.tokens.now) c.loop-turn._turn _ _ _ _ c.loop-turn-test.true next
    ∙ ap (λ ms. modifiers_from (length c.args.tokens.now - (c.loop-turn._turn + 1)) ms c.in-Some.after.now) (sym pushed)
