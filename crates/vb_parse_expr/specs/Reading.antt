-- How the machine reads: private steps on lists, which the code equals.
use Rattle.std.specs.Prelude.{◌≡◌, ℕ, zero, suc, ◌≤◌, ◌<◌, Bool, true, false, List, [], ◌∷◌, ◌++◌, length, Option, Some, None, Result, Ok, Err, if◌then◌else◌}
use Rattle.vb_syntax.specs.declared.keyword.Keyword.TheVariants as word
use Rattle.vb_syntax.specs.declared.symbol.Symbol.TheVariants as sign
use Rattle.vb_syntax.specs.declared.tokens.Token.{Token}
use Rattle.vb_syntax.specs.declared.tokens.Token.TheVariants as token

-- what stands behind a token, where it comes first
unfoldable pub after_opening : List Token → Option (List Token)
after_opening [] = None
after_opening (token.Symbol sign.OpenParenthesis ∷ ts) = Some ts
after_opening (t ∷ ts) = None

unfoldable pub after_closing : List Token → Option (List Token)
after_closing [] = None
after_closing (token.Symbol sign.CloseParenthesis ∷ ts) = Some ts
after_closing (t ∷ ts) = None

unfoldable pub after_opening_brace : List Token → Option (List Token)
after_opening_brace [] = None
after_opening_brace (token.Symbol sign.OpenBrace ∷ ts) = Some ts
after_opening_brace (t ∷ ts) = None

unfoldable pub after_closing_brace : List Token → Option (List Token)
after_closing_brace [] = None
after_closing_brace (token.Symbol sign.CloseBrace ∷ ts) = Some ts
after_closing_brace (t ∷ ts) = None

unfoldable pub after_comma : List Token → Option (List Token)
after_comma [] = None
after_comma (token.Symbol sign.Comma ∷ ts) = Some ts
after_comma (t ∷ ts) = None

unfoldable pub after_dot : List Token → Option (List Token)
after_dot [] = None
after_dot (token.Symbol sign.Dot ∷ ts) = Some ts
after_dot (t ∷ ts) = None

unfoldable pub after_is : List Token → Option (List Token)
after_is [] = None
after_is (token.Keyword word.Is ∷ ts) = Some ts
after_is (t ∷ ts) = None

unfoldable pub after_of : List Token → Option (List Token)
after_of [] = None
after_of (token.Keyword word.Of ∷ ts) = Some ts
after_of (t ∷ ts) = None
