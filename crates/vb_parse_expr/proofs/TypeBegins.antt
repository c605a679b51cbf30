-- How the tokens of a type begin: with a name, or with a word that is a type. None is empty.
use Rattle.std.proofs.Common.{◌≡◌, ◌<◌, Bool, true, false, ◌||◌, List, [], ◌∷◌, ◌++◌, length, Some, None, is_some, refl, ap, ◌∙◌, length-append, arith}
use Rattle.vb_text.specs.declared.names.Name.{Name}
use Rattle.vb_syntax.specs.declared.keyword.Keyword.TheVariants as word
use Rattle.vb_syntax.specs.declared.symbol.Symbol.TheVariants as sign
use Rattle.vb_syntax.specs.declared.{tokens.Token.Token, types.{BuiltInTypeName.BuiltInTypeName, SimpleTypeName.SimpleTypeName, TypeName.TypeName}}
use Rattle.vb_syntax.specs.declared.tokens.Token.TheVariants as token
use Rattle.vb_parse_expr.specs.{Words.{opening, closing, dot, name_of, type_of}, Types.{SpellsNames, SpellsType, SpellsSimpleType, plain, array, built_in, qualified, one, more}, Reading.{after_opening, after_closing, after_opening_brace, after_comma, after_dot, after_of}}

-- NONE IS EMPTY

pub some_names : {ts : List Token} {ns : List Name} → SpellsNames ts ns → 0 < length ts
some_names (one t e) = omega arith
some_names (more t e inner) = omega arith

pub some_simple_type : {dotted : Bool} {ts : List Token} {x : SimpleTypeName} → SpellsSimpleType dotted ts x → 0 < length ts
some_simple_type (built_in t e) = omega arith
some_simple_type (qualified {ts = ts} {us = us} s a) = omega (arith, some_names s, length-append ts us)

pub some_type : {dotted opened : Bool} {ts : List Token} {x : TypeName} → SpellsType dotted opened ts x → 0 < length ts
some_type (plain s) = some_simple_type s
some_type (array {ts = ts} s) = omega (arith, some_simple_type s, length-append ts (opening ∷ closing ∷ []))

-- THE FIRST TOKEN

-- a name, or a word that is a type
abbrev pub begins_type : Token → Bool
begins_type t = is_some (name_of t) || is_some (type_of t)

pub record BeginsType (ts : List Token) : Type 0 where
  pub first : Token
  pub rest : List Token
  pub split : ts ≡ first ∷ rest
  pub begins : begins_type first ≡ true

longer : {ts : List Token} (us : List Token) → BeginsType ts → BeginsType (ts ++ us)
longer us b = record { first = b.first; rest = b.rest ++ us; split = ap (λ qs. qs ++ us) b.split; begins = b.begins }

name_begins : (t : Token) {n : Name} → name_of t ≡ Some n → begins_type t ≡ true
name_begins t e = ap (λ o. is_some o || is_some (type_of t)) e

or_true : (b : Bool) → b || true ≡ true
or_true true = refl
or_true false = refl

word_begins : (t : Token) {x : BuiltInTypeName} → type_of t ≡ Some x → begins_type t ≡ true
word_begins t e = ap (λ o. is_some (name_of t) || is_some o) e ∙ or_true (is_some (name_of t))

pub names_begin : {ts : List Token} {ns : List Name} → SpellsNames ts ns → BeginsType ts
names_begin (one t e) = record { first = t; rest = []; split = refl; begins = name_begins t e }
names_begin (more {ts = ts} t e inner) = record { first = t; rest = dot ∷ ts; split = refl; begins = name_begins t e }

pub simple_type_begins : {dotted : Bool} {ts : List Token} {x : SimpleTypeName} → SpellsSimpleType dotted ts x → BeginsType ts
simple_type_begins (built_in t e) = record { first = t; rest = []; split = refl; begins = word_begins t e }
simple_type_begins (qualified {us = us} s a) = longer us (names_begin s)

pub type_begins : {dotted opened : Bool} {ts : List Token} {x : TypeName} → SpellsType dotted opened ts x → BeginsType ts
type_begins (plain s) = simple_type_begins s
type_begins (array s) = longer (opening ∷ closing ∷ []) (simple_type_begins s)

-- WHAT DOESN'T STAND FIRST

no_opening : (t : Token) (ts : List Token) → begins_type t ≡ true → after_opening (t ∷ ts) ≡ None
unfolding after_opening
no_opening (token.Symbol sign.OpenParenthesis) ts e = cc
no_opening _ ts e = refl

no_closing : (t : Token) (ts : List Token) → begins_type t ≡ true → after_closing (t ∷ ts) ≡ None
unfolding after_closing
no_closing (token.Symbol sign.CloseParenthesis) ts e = cc
no_closing _ ts e = refl

no_comma : (t : Token) (ts : List Token) → begins_type t ≡ true → after_comma (t ∷ ts) ≡ None
unfolding after_comma
no_comma (token.Symbol sign.Comma) ts e = cc
no_comma _ ts e = refl

no_dot : (t : Token) (ts : List Token) → begins_type t ≡ true → after_dot (t ∷ ts) ≡ None
unfolding after_dot
no_dot (token.Symbol sign.Dot) ts e = cc
no_dot _ ts e = refl

no_of : (t : Token) (ts : List Token) → begins_type t ≡ true → after_of (t ∷ ts) ≡ None
unfolding after_of
no_of (token.Keyword word.Of) ts e = cc
no_of _ ts e = refl

no_opening_brace : (t : Token) (ts : List Token) → begins_type t ≡ true → after_opening_brace (t ∷ ts) ≡ None
unfolding after_opening_brace
no_opening_brace (token.Symbol sign.OpenBrace) ts e = cc
no_opening_brace _ ts e = refl

module _ {ts : List Token} (b : BeginsType ts) (behind : List Token) where
  whole : ts ++ behind ≡ b.first ∷ (b.rest ++ behind)
  whole = ap (λ qs. qs ++ behind) b.split

  pub not_opening : after_opening (ts ++ behind) ≡ None
  not_opening = ap after_opening whole ∙ no_opening b.first (b.rest ++ behind) b.begins

  pub not_closing : after_closing (ts ++ behind) ≡ None
  not_closing = ap after_closing whole ∙ no_closing b.first (b.rest ++ behind) b.begins

  pub not_comma : after_comma (ts ++ behind) ≡ None
  not_comma = ap after_comma whole ∙ no_comma b.first (b.rest ++ behind) b.begins

  pub not_dot : after_dot (ts ++ behind) ≡ None
  not_dot = ap after_dot whole ∙ no_dot b.first (b.rest ++ behind) b.begins

  pub not_of : after_of (ts ++ behind) ≡ None
  not_of = ap after_of whole ∙ no_of b.first (b.rest ++ behind) b.begins

  pub not_opening_brace : after_opening_brace (ts ++ behind) ≡ None
  not_opening_brace = ap after_opening_brace whole ∙ no_opening_brace b.first (b.rest ++ behind) b.begins
