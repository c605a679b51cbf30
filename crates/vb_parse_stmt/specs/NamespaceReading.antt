-- What stands between the names of a namespace: a private function, which the code equals.
use Rattle.std.specs.Prelude.{Bool, true, false, List, ◌∷◌}
use Rattle.vb_syntax.specs.declared.symbol.Symbol.TheVariants as sign
use Rattle.vb_syntax.specs.declared.tokens.Token.{Token}
use Rattle.vb_syntax.specs.declared.tokens.Token.TheVariants as token

abbrev pub is_dot : List Token → Bool
is_dot (token.Symbol sign.Dot ∷ ts) = true
is_dot ts = false
