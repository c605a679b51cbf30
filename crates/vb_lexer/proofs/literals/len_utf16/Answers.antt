use Rattle.std.proofs.Common.{◌∙◌, ap, sym, length, [], ◌∷◌}
use Rattle.vb_lexer.specs.Tokens.{units_of}
use Rattle.vb_lexer.proofs.Quotes.{len_is, no_character}
use Rattle.vb_lexer.proofs.literals.len_utf16.Goals as goal

pub returns-in-Some-clause-len : goal.returns-in-Some-clause-len
returns-in-Some-clause-len c =
    len_is c.in-Some.c c.len_utf16.result c.len_utf16.ensures.bmp c.len_utf16.ensures.surrogate_pair ∙ ap (λ d. length (units_of (d ∷ []))) (sym c.in-Some.is)

pub returns-in-None-clause-len : goal.returns-in-None-clause-len
returns-in-None-clause-len c = ap length (sym no_character) ∙ ap (λ d. length (units_of (d ∷ []))) (sym c.in-None.is)
