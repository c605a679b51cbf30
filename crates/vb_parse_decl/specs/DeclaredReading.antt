-- The parts of declarations, each with what ends it: private definitions, which the code's functions cite.
use Rattle.std.specs.Prelude.{◌≡◌, ℕ, ◌≤◌, Bool, true, false, List, [], ◌∷◌, length, take, drop, Option, Some, None}
use Rattle.vb_text.specs.declared.names.Name.{Name}
use Rattle.vb_syntax.specs.declared.keyword.Keyword.TheVariants as word
use Rattle.vb_syntax.specs.declared.symbol.Symbol.TheVariants as sign
use Rattle.vb_syntax.specs.declared.{tokens.Token.Token, types.TypeName.TypeName, expression.VariableInitializer.VariableInitializer, declarator.VariableModifier.VariableModifier}
use Rattle.vb_syntax.specs.declared.tokens.Token.TheVariants as token
use Rattle.vb_parse_expr.specs.Words.{name_of}
use Rattle.vb_parse_decl.specs.{Parts.IsType, Declarators.{IsModified, IsInitialized}}

-- WHAT STANDS BEHIND A PART

abbrev pub anything : List Token → Bool
anything ts = true

-- nothing
abbrev pub is_end : List Token → Bool
is_end [] = true
is_end ts = false

-- a comma, or nothing
abbrev pub is_over : List Token → Bool
is_over [] = true
is_over (token.Symbol sign.Comma ∷ ts) = true
is_over ts = false

abbrev pub is_closing : List Token → Bool
is_closing (token.Symbol sign.CloseParenthesis ∷ ts) = true
is_closing ts = false

abbrev pub is_as : List Token → Bool
is_as (token.Keyword word.As ∷ ts) = true
is_as ts = false

-- a comma or `As`
abbrev pub ends_identifier : List Token → Bool
ends_identifier (token.Symbol sign.Comma ∷ ts) = true
ends_identifier (token.Keyword word.As ∷ ts) = true
ends_identifier ts = false

-- the first n tokens are such a part, and such tokens stand behind it
pub record IsPartAt {X : Type 0} (ends : List Token → Bool) (P : List Token → X → Type 0) (ts : List Token) (x : X) (n : ℕ) : Type 0 where
  pub within : n ≤ length ts
  pub part : P (take n ts) x
  pub over : ends (drop n ts) ≡ true

-- WHAT STANDS AT THE FRONT

abbrev pub first_name : List Token → Option Name
first_name (t ∷ ts) = name_of t
first_name ts = None

abbrev pub begins_opening : List Token → Bool
begins_opening (token.Symbol sign.OpenParenthesis ∷ ts) = true
begins_opening ts = false

-- parentheses with nothing between them
abbrev pub begins_array : List Token → Bool
begins_array (token.Symbol sign.OpenParenthesis ∷ token.Symbol sign.CloseParenthesis ∷ ts) = true
begins_array ts = false

abbrev pub begins_new : List Token → Bool
begins_new (token.Keyword word.New ∷ ts) = true
begins_new ts = false

abbrev pub begins_equal : List Token → Bool
begins_equal (token.Symbol sign.Equal ∷ ts) = true
begins_equal ts = false

-- the name before `=`
abbrev pub inferred_name : List Token → Option Name
inferred_name (t ∷ token.Symbol sign.Equal ∷ ts) = name_of t
inferred_name ts = None

-- what stands behind a name
abbrev pub IsModifier : List Token → VariableModifier → Type 0
IsModifier ts m = IsModified m ts

-- a type, with a first value or without
abbrev pub IsTyped : List Token → TypeName × Option VariableInitializer → Type 0
IsTyped ts (a, None) = IsType ts a
IsTyped ts (a, Some i) = IsInitialized ts (a, i)
