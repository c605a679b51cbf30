-- What goes on with a type, for what stands behind a type in an expression.
use Rattle.std.proofs.Common.{◌≡◌, Bool, true, false, ◌&&◌, List, [], ◌∷◌, None, is_some, refl, ap, sym, ◌∙◌}
use Rattle.vb_syntax.specs.declared.symbol.Symbol.TheVariants as sign
use Rattle.vb_syntax.specs.declared.{tokens.Token.Token, types.TypeName.TypeName}
use Rattle.vb_syntax.specs.declared.tokens.Token.TheVariants as token
use Rattle.vb_parse_expr.specs.{Words.{opening, closing, dot}, Types.{SpellsTypeArguments, goes_on_name, goes_on_array, goes_on_type, none, some}, Fronts.goes_on_primary, Reading.{after_closing, after_of}}
use Rattle.vb_parse_expr.proofs.{FoundTypes.begins_arguments, TypeAhead.{and_false, over_type, type_over, of_tells_name, closing_tells, of_tells}}

-- WHAT GOES ON WITH NO PRIMARY GOES ON WITH NO TYPE

primary_over_name : (ts : List Token) → goes_on_primary ts ≡ false → goes_on_name ts ≡ false
primary_over_name [] e = refl
primary_over_name (token.Symbol sign.Dot ∷ ts) e = cc
primary_over_name (token.Symbol sign.OpenParenthesis ∷ ts) e = cc
primary_over_name (_ ∷ ts) e = refl

primary_over_array : (ts : List Token) → goes_on_primary ts ≡ false → goes_on_array ts ≡ false
primary_over_array [] e = refl
primary_over_array (token.Symbol sign.OpenParenthesis ∷ ts) e = cc
primary_over_array (_ ∷ ts) e = refl

pub primary_over_arguments : (ts : List Token) → goes_on_primary ts ≡ false → begins_arguments ts ≡ false
primary_over_arguments [] e = refl
primary_over_arguments (token.Symbol sign.OpenParenthesis ∷ ts) e = cc
primary_over_arguments (_ ∷ ts) e = refl

pub primary_over_type : (dotted opened : Bool) (ts : List Token) → goes_on_primary ts ≡ false → goes_on_type dotted opened ts ≡ false
primary_over_type dotted opened ts e =
    over_type dotted opened ts (ap (λ b. dotted && b) (primary_over_name ts e) ∙ and_false dotted)
    (ap (λ b. opened && b) (primary_over_array ts e) ∙ and_false opened)

-- A DOT BEHIND A TYPE

and_true : (b : Bool) → (b && true) ≡ b
and_true true = refl
and_true false = refl

pub dot_over : (dotted opened : Bool) (ts : List Token) → dotted ≡ false → goes_on_type dotted opened (dot ∷ ts) ≡ false
dot_over dotted opened ts e = over_type dotted opened (dot ∷ ts) (and_true dotted ∙ e) (and_false opened)

pub over_dot : (dotted opened : Bool) (ts : List Token) → goes_on_type dotted opened (dot ∷ ts) ≡ false → dotted ≡ false
over_dot dotted opened ts e = sym (and_true dotted) ∙ (type_over dotted opened (dot ∷ ts) e).0

-- `()` BEHIND A TYPE

pub array_behind_over : (dotted opened : Bool) (ts : List Token) → opened ≡ false → goes_on_type dotted opened (opening ∷ closing ∷ ts) ≡ false
array_behind_over dotted opened ts e = over_type dotted opened (opening ∷ closing ∷ ts) (and_false dotted) (and_true opened ∙ e)

pub over_array_behind : (dotted opened : Bool) (ts : List Token) → goes_on_type dotted opened (opening ∷ closing ∷ ts) ≡ false → opened ≡ false
over_array_behind dotted opened ts e = sym (and_true opened) ∙ (type_over dotted opened (opening ∷ closing ∷ ts) e).1

-- A PARENTHESIS BEHIND A TYPE, WITH NO `Of` AND NO `)` BEHIND IT

pub opening_over : (dotted opened : Bool) (ts : List Token) → after_of ts ≡ None → after_closing ts ≡ None
    → goes_on_type dotted opened (opening ∷ ts) ≡ false
opening_over dotted opened ts no_of no_closing =
    over_type dotted opened (opening ∷ ts) (ap (λ b. dotted && b) (of_tells_name ts ∙ ap (λ o. is_some o) no_of) ∙ and_false dotted)
    (ap (λ b. opened && b) (closing_tells ts ∙ ap (λ o. is_some o) no_closing) ∙ and_false opened)

-- a type that is no array takes no `()`
pub opening_over_simple : (dotted : Bool) (ts : List Token) → after_of ts ≡ None → goes_on_type dotted false (opening ∷ ts) ≡ false
opening_over_simple dotted ts no_of =
    over_type dotted false (opening ∷ ts) (ap (λ b. dotted && b) (of_tells_name ts ∙ ap (λ o. is_some o) no_of) ∙ and_false dotted) refl

-- a parenthesis with no `Of` behind it begins no type arguments
pub opening_over_arguments : (ts : List Token) → after_of ts ≡ None → begins_arguments (opening ∷ ts) ≡ false
opening_over_arguments ts no_of = of_tells ts ∙ ap (λ o. is_some o) no_of

-- TYPE ARGUMENTS ARE NONE, OR BEGIN WITH `(Of`

pub bare_arguments : {bare : Bool} {us : List Token} {xs : List TypeName} → SpellsTypeArguments bare us xs → bare ≡ true → (us ≡ []) × (xs ≡ [])
bare_arguments none e = (refl, refl)
bare_arguments (some inner) e = cc
