-- What is said of the name of a type that was read: it stands at the front, and nothing goes on with it.
use Rattle.std.proofs.Common.{◌≡◌, Bool, true, false, ◌&&◌, List, ◌∷◌, ◌++◌}
use Rattle.vb_syntax.specs.declared.keyword.Keyword.TheVariants as word
use Rattle.vb_syntax.specs.declared.symbol.Symbol.TheVariants as sign
use Rattle.vb_syntax.specs.declared.{tokens.Token.Token, types.{SimpleTypeName.SimpleTypeName, TypeName.TypeName}}
use Rattle.vb_syntax.specs.declared.tokens.Token.TheVariants as token
use Rattle.vb_parse_expr.specs.Types.{SpellsType, SpellsSimpleType, SpellsTypeArguments, goes_on_type}

-- `(Of` stands first
abbrev pub begins_arguments : List Token → Bool
begins_arguments (token.Symbol sign.OpenParenthesis ∷ token.Keyword word.Of ∷ ts) = true
begins_arguments ts = false

pub record FoundType (ts : List Token) (x : TypeName) (rest : List Token) : Type 0 where
  pub front : List Token
  pub dotted : Bool
  pub opened : Bool
  pub split : ts ≡ front ++ rest
  pub spells : SpellsType dotted opened front x
  pub over : goes_on_type dotted opened rest ≡ false

pub record FoundSimpleType (ts : List Token) (x : SimpleTypeName) (rest : List Token) : Type 0 where
  pub front : List Token
  pub dotted : Bool
  pub split : ts ≡ front ++ rest
  pub spells : SpellsSimpleType dotted front x
  pub over : goes_on_type dotted false rest ≡ false

pub record FoundArguments (ts : List Token) (xs : List TypeName) (rest : List Token) : Type 0 where
  pub front : List Token
  pub bare : Bool
  pub split : ts ≡ front ++ rest
  pub spells : SpellsTypeArguments bare front xs
  pub over : (bare && begins_arguments rest) ≡ false
