use Rattle.std.proofs.Common.{◌∙◌, ap, sym, [], ◌∷◌, ◌++◌}
use Rattle.vb_lexer.specs.Tokens.{units_of}
use Rattle.vb_lexer.proofs.Quotes.{one_character, no_character, pushed, none_pushed}
use Rattle.vb_lexer.proofs.literals.push_units.Goals as goal

pub returns-in-Some : goal.returns-in-Some
returns-in-Some c =
    let units = c.encode_utf16.ensures.value ∙ sym (one_character c.in-Some.c) ∙ ap (λ d. units_of (d ∷ [])) (sym c.in-Some.is) in
    pushed c.extend_from_slice.result c.args.units.now.items c.extend_from_slice.new.self.items c.encode_utf16.result.now _ c.extend_from_slice.ensures.items units

pub returns-in-None : goal.returns-in-None
returns-in-None c = none_pushed c.args.units.now.items ∙ ap (λ l. c.args.units.now.items ++ l) (sym no_character ∙ ap (λ d. units_of (d ∷ [])) (sym c.in-None.is))
