-- The first token of an expression is none that closes a bracket, and isn't the word Of.
use Rattle.std.proofs.Common.{◌≡◌, ℕ, ◌<◌, Bool, true, false, List, [], ◌∷◌, ◌++◌, length, Some, None, refl, ap, ◌∙◌, arith}
use Rattle.vb_text.specs.declared.names.Name.{Name}
use Rattle.vb_syntax.specs.declared.{keyword.Keyword.Keyword, symbol.Symbol.Symbol, tokens.Token.Token, types.{PrimitiveTypeName.PrimitiveTypeName, BuiltInTypeName.BuiltInTypeName}, expression.{UnaryOperator.UnaryOperator, CastOperator.CastOperator, Expr.Expr, VariableInitializer.VariableInitializer}}
use Rattle.vb_syntax.specs.declared.keyword.Keyword.TheVariants as word
use Rattle.vb_syntax.specs.declared.symbol.Symbol.TheVariants as sign
use Rattle.vb_syntax.specs.declared.tokens.Token.TheVariants as token
use Rattle.vb_parse_expr.specs.{Words.{opening, closing, opening_brace, closing_brace, comma, dot, name_of, word_type, type_of, word_alone, alone_of, word_cast, primitive_cast, word_cast_operator, cast_operator, prefix_of}, Types.{goes_on_name, goes_on_array}, Expressions.{Edge, Spells, SpellsPrimary, SpellsList, SpellsInitializer, SpellsElements, SpellsInitializers}, Reading.{after_closing, after_closing_brace}}
use Rattle.vb_parse_expr.proofs.{TypeFronts.begins_arguments, Steps.nothing_is_some}

-- never the first token of an expression
abbrev pub never_first : Token → Bool
never_first (token.Symbol sign.CloseParenthesis) = true
never_first (token.Symbol sign.CloseBrace) = true
never_first (token.Keyword word.Of) = true
never_first t = false

pub record Begins (ts : List Token) : Type 0 where
  pub first : Token
  pub others : List Token
  pub split : ts ≡ first ∷ others
  pub fits : never_first first ≡ false

begun : (t : Token) (us : List Token) → never_first t ≡ false → Begins (t ∷ us)
begun t us fits = record { first = t; others = us; split = refl; fits = fits }

pub begins_behind : {ts : List Token} (us : List Token) → Begins ts → Begins (ts ++ us)
begins_behind us b = record { first = b.first; others = b.others ++ us; split = ap (λ ts. ts ++ us) b.split; fits = b.fits }

pub some_token : {ts : List Token} → Begins ts → 0 < length ts
some_token {ts = ts} b = let longer = ap length b.split in omega (arith, longer)

-- what each kind of first token is not
word_alone_first : {x : Expr} (w : Keyword) → word_alone w ≡ Some x → never_first (token.Keyword w) ≡ false
word_alone_first word.Of e = nothing_is_some _ e
word_alone_first w e = refl

alone_first : {x : Expr} (t : Token) → alone_of t ≡ Some x → never_first t ≡ false
alone_first (token.Keyword w) e = word_alone_first w e
alone_first (token.Symbol s) e = nothing_is_some _ e
alone_first t e = refl

name_first : {n : Name} (t : Token) → name_of t ≡ Some n → never_first t ≡ false
name_first (token.Keyword w) e = nothing_is_some _ e
name_first (token.Symbol s) e = nothing_is_some _ e
name_first t e = refl

word_type_first : {b : BuiltInTypeName} (w : Keyword) → word_type w ≡ Some b → never_first (token.Keyword w) ≡ false
word_type_first word.Of e = nothing_is_some _ e
word_type_first w e = refl

type_first : {b : BuiltInTypeName} (t : Token) → type_of t ≡ Some b → never_first t ≡ false
type_first (token.Keyword w) e = word_type_first w e
type_first (token.Symbol s) e = nothing_is_some _ e
type_first t e = refl

word_cast_first : {a : PrimitiveTypeName} (w : Keyword) → word_cast w ≡ Some a → never_first (token.Keyword w) ≡ false
word_cast_first word.Of e = nothing_is_some _ e
word_cast_first w e = refl

conversion_first : {a : PrimitiveTypeName} (t : Token) → primitive_cast t ≡ Some a → never_first t ≡ false
conversion_first (token.Keyword w) e = word_cast_first w e
conversion_first (token.Symbol s) e = nothing_is_some _ e
conversion_first t e = refl

word_operator_first : {o : CastOperator} (w : Keyword) → word_cast_operator w ≡ Some o → never_first (token.Keyword w) ≡ false
word_operator_first word.Of e = nothing_is_some _ e
word_operator_first w e = refl

cast_first : {o : CastOperator} (t : Token) → cast_operator t ≡ Some o → never_first t ≡ false
cast_first (token.Keyword w) e = word_operator_first w e
cast_first (token.Symbol s) e = nothing_is_some _ e
cast_first t e = refl

prefix_first : {p : UnaryOperator × ℕ} (t : Token) → prefix_of t ≡ Some p → never_first t ≡ false
prefix_first (token.Keyword word.Of) e = nothing_is_some _ e
prefix_first (token.Keyword w) e = refl
prefix_first (token.Symbol sign.CloseParenthesis) e = nothing_is_some _ e
prefix_first (token.Symbol sign.CloseBrace) e = nothing_is_some _ e
prefix_first t e = refl

mutual
  pub expression_begins : {h w : ℕ} {ts : List Token} {x : Expr} → Spells h w ts x → Begins ts
  expression_begins (Spells.primary s) = primary_begins s
  expression_begins (Spells.prefix {ts = ts} t op s less) = begun t ts (prefix_first t op)
  expression_begins (Spells.binary {us = us} t op s less weak s' strong) = begins_behind (t ∷ us) (expression_begins s)

  pub primary_begins : {edge : Edge} {ts : List Token} {x : Expr} → SpellsPrimary edge ts x → Begins ts
  primary_begins (SpellsPrimary.alone t is) = begun t [] (alone_first t is)
  primary_begins (SpellsPrimary.parenthesized {ts = ts} s) = begun opening (ts ++ closing ∷ []) refl
  primary_begins (SpellsPrimary.name {us = us} t is s) = begun t us (name_first t is)
  primary_begins (SpellsPrimary.address {ts = ts} s) = begun (token.Keyword word.AddressOf) ts refl
  primary_begins (SpellsPrimary.type_test {ts = ts} {us = us} s a) =
      begun (token.Keyword word.TypeOf) (ts ++ token.Keyword word.Is ∷ us) refl
  primary_begins (SpellsPrimary.member {us = us} t s open_ is args) = begins_behind (dot ∷ t ∷ us) (primary_begins s)
  primary_begins (SpellsPrimary.type_member t u is named) = begun t (dot ∷ u ∷ []) (type_first t is)
  primary_begins (SpellsPrimary.with_member t is) = begun dot (t ∷ []) refl
  primary_begins (SpellsPrimary.invocation {us = us} s args open_) = begins_behind us (primary_begins s)
  primary_begins (SpellsPrimary.creation {ts = ts} a) = begun (token.Keyword word.New) ts refl
  primary_begins (SpellsPrimary.creation_with {ts = ts} {us = us} a args) = begun (token.Keyword word.New) (ts ++ us) refl
  primary_begins (SpellsPrimary.array {ts = ts} {us = us} a s) = begun (token.Keyword word.New) (ts ++ opening ∷ closing ∷ us) refl
  primary_begins (SpellsPrimary.bounded_array {ts = ts} {bs = bs} {us = us} a b s) =
      begun (token.Keyword word.New) (ts ++ opening ∷ (bs ++ closing ∷ us)) refl
  primary_begins (SpellsPrimary.conversion {ts = ts} t is s) = begun t (opening ∷ (ts ++ closing ∷ [])) (conversion_first t is)
  primary_begins (SpellsPrimary.cast {ts = ts} {us = us} t is s a) =
      begun t (opening ∷ (ts ++ comma ∷ (us ++ closing ∷ []))) (cast_first t is)
  primary_begins (SpellsPrimary.conditional {ts = ts} {us = us} {vs = vs} x y z) =
      begun (token.Keyword word.If) (opening ∷ (ts ++ comma ∷ (us ++ comma ∷ (vs ++ closing ∷ [])))) refl

pub list_begins : {ts : List Token} {xs : List Expr} → SpellsList ts xs → Begins ts
list_begins (SpellsList.one s) = expression_begins s
list_begins (SpellsList.more {us = us} s l) = begins_behind (comma ∷ us) (expression_begins s)

elements_begin : {ts : List Token} {is : List VariableInitializer} → SpellsElements ts is → Begins ts
elements_begin SpellsElements.no_elements = begun opening_brace (closing_brace ∷ []) refl
elements_begin (SpellsElements.braces {ts = ts} l) = begun opening_brace (ts ++ closing_brace ∷ []) refl

initializer_begins : {ts : List Token} {i : VariableInitializer} → SpellsInitializer ts i → Begins ts
initializer_begins (SpellsInitializer.expression s) = expression_begins s
initializer_begins (SpellsInitializer.elements l) = elements_begin l

pub initializers_begin : {ts : List Token} {is : List VariableInitializer} → SpellsInitializers ts is → Begins ts
initializers_begin (SpellsInitializers.one_initializer s) = initializer_begins s
initializers_begin (SpellsInitializers.more_initializers {us = us} s l) = begins_behind (comma ∷ us) (initializer_begins s)

-- what doesn't stand first
not_closing : (t : Token) (ts : List Token) → never_first t ≡ false → after_closing (t ∷ ts) ≡ None
unfolding after_closing
not_closing (token.Symbol sign.CloseParenthesis) ts fits = absurd cc
not_closing t ts fits = refl

pub no_closing : {ts : List Token} → Begins ts → after_closing ts ≡ None
no_closing b = ap after_closing b.split ∙ not_closing b.first b.others b.fits

not_closing_brace : (t : Token) (ts : List Token) → never_first t ≡ false → after_closing_brace (t ∷ ts) ≡ None
unfolding after_closing_brace
not_closing_brace (token.Symbol sign.CloseBrace) ts fits = absurd cc
not_closing_brace t ts fits = refl

pub no_closing_brace : {ts : List Token} → Begins ts → after_closing_brace ts ≡ None
no_closing_brace b = ap after_closing_brace b.split ∙ not_closing_brace b.first b.others b.fits

not_of : (t : Token) (ts : List Token) → never_first t ≡ false → begins_arguments (opening ∷ t ∷ ts) ≡ false
not_of (token.Keyword word.Of) ts fits = absurd cc
not_of t ts fits = refl

pub no_of : {ts : List Token} → Begins ts → begins_arguments (opening ∷ ts) ≡ false
no_of b = ap (λ ts. begins_arguments (opening ∷ ts)) b.split ∙ not_of b.first b.others b.fits

not_array : (t : Token) (ts : List Token) → never_first t ≡ false → goes_on_array (opening ∷ t ∷ ts) ≡ false
not_array (token.Symbol sign.CloseParenthesis) ts fits = absurd cc
not_array t ts fits = refl

pub no_array : {ts : List Token} → Begins ts → goes_on_array (opening ∷ ts) ≡ false
no_array b = ap (λ ts. goes_on_array (opening ∷ ts)) b.split ∙ not_array b.first b.others b.fits

not_name : (t : Token) (ts : List Token) → never_first t ≡ false → goes_on_name (opening ∷ t ∷ ts) ≡ false
not_name (token.Keyword word.Of) ts fits = absurd cc
not_name t ts fits = refl

pub no_name : {ts : List Token} → Begins ts → goes_on_name (opening ∷ ts) ≡ false
no_name b = ap (λ ts. goes_on_name (opening ∷ ts)) b.split ∙ not_name b.first b.others b.fits
