-- With what a comparison of a `Case` begins: private functions, which the code equals.
use Rattle.std.specs.Prelude.{ℕ, Bool, true, false, List, ◌∷◌, Option, Some, None}
use Rattle.vb_syntax.specs.declared.keyword.Keyword.TheVariants as word
use Rattle.vb_syntax.specs.declared.{symbol.Symbol.Symbol, tokens.Token.Token, expression.RelationalOperator.RelationalOperator}
use Rattle.vb_syntax.specs.declared.symbol.Symbol.TheVariants as sign
use Rattle.vb_syntax.specs.declared.tokens.Token.TheVariants as token
use Rattle.vb_syntax.specs.declared.expression.RelationalOperator.TheVariants as relation

abbrev pub relation_of : Symbol → Option RelationalOperator
relation_of sign.Equal = Some relation.Equal
relation_of sign.NotEqual = Some relation.NotEqual
relation_of sign.Less = Some relation.Less
relation_of sign.LessOrEqual = Some relation.LessOrEqual
relation_of sign.Greater = Some relation.Greater
relation_of sign.GreaterOrEqual = Some relation.GreaterOrEqual
relation_of s = None

-- the comparison that stands first, behind `Is` or without it
abbrev pub relation_front : List Token → Option RelationalOperator
relation_front (token.Symbol s ∷ ts) = relation_of s
relation_front (token.Keyword word.Is ∷ token.Symbol s ∷ ts) = relation_of s
relation_front ts = None

-- of how many tokens it is
abbrev pub relation_size : List Token → ℕ
relation_size (token.Keyword w ∷ ts) = 2
relation_size ts = 1

abbrev pub is_to : List Token → Bool
is_to (token.Keyword word.To ∷ ts) = true
is_to ts = false
