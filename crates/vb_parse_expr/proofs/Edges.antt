-- Where a primary ends: what stands behind it doesn't go on with its last part.
use Rattle.std.proofs.Common.{◌≡◌, Bool, true, false, ◌&&◌, ◌||◌, List, [], ◌∷◌, Option, Some, None, is_some, refl, ap, ◌∙◌}
use Rattle.vb_syntax.specs.declared.{symbol.Symbol.Symbol, tokens.Token.Token, expression.Expr.Expr}
use Rattle.vb_syntax.specs.declared.symbol.Symbol.TheVariants as sign
use Rattle.vb_syntax.specs.declared.tokens.Token.TheVariants as token
use Rattle.vb_parse_expr.specs.{Words.{opening, closing, dot}, Types.{goes_on_name, goes_on_array, goes_on_type}, Expressions.{Edge, closed, operand, created, tested, takes_member, takes_arguments}, Fronts.goes_on_primary, Reading.{after_opening, after_opening_brace}}
use Rattle.vb_parse_expr.proofs.{TypeFronts.begins_arguments, Firsts.{Begins, no_of, no_array, no_name}}

-- the last part of the primary takes what stands first
abbrev pub takes_first : Edge → List Token → Bool
takes_first closed rest = false
takes_first operand rest = goes_on_primary rest
takes_first (created dotted) rest = is_some (after_opening rest) || goes_on_type dotted false rest
takes_first (tested dotted opened) rest = goes_on_type dotted opened rest

pub record Over (edge : Edge) (rest : List Token) : Type 0 where
  pub no_type_arguments : begins_arguments rest ≡ false
  pub no_brace : after_opening_brace rest ≡ None
  pub fits : takes_first edge rest ≡ false

pub and_false : (a b : Bool) → b ≡ false → (a && b) ≡ false
and_false true b e = e
and_false false b e = refl

-- a dot behind a primary that takes no member
dot_fits : (edge : Edge) (ts : List Token) → takes_member edge ≡ false → takes_first edge (dot ∷ ts) ≡ false
unfolding after_opening
dot_fits closed ts e = refl
dot_fits operand ts e = absurd cc
dot_fits (created true) ts e = absurd cc
dot_fits (created false) ts e = refl
dot_fits (tested true opened) ts e = absurd cc
dot_fits (tested false opened) ts e = and_false opened false refl

pub over_dot : {edge : Edge} (ts : List Token) → takes_member edge ≡ false → Over edge (dot ∷ ts)
unfolding after_opening_brace
over_dot {edge = edge} ts e = record { no_type_arguments = refl; no_brace = refl; fits = dot_fits edge ts e }

-- arguments behind a primary that doesn't take them
empty_fits : (edge : Edge) (ts : List Token) → takes_arguments edge [] ≡ false → takes_first edge (opening ∷ closing ∷ ts) ≡ false
empty_fits closed ts e = refl
empty_fits operand ts e = absurd cc
empty_fits (created dotted) ts e = absurd cc
empty_fits (tested dotted true) ts e = absurd cc
empty_fits (tested true false) ts e = refl
empty_fits (tested false false) ts e = refl

pub either_false : (a b c d : Bool) → b ≡ false → d ≡ false → ((a && b) || (c && d)) ≡ false
either_false true b c d e f = ap (λ b. b || (c && d)) e ∙ and_false c d f
either_false false b c d e f = and_false c d f

arguments_fit : (edge : Edge) (x : Expr) (xs : List Expr) (ts : List Token) → takes_arguments edge (x ∷ xs) ≡ false → Begins ts
    → takes_first edge (opening ∷ ts) ≡ false
arguments_fit closed x xs ts e begins = refl
arguments_fit operand x xs ts e begins = absurd cc
arguments_fit (created dotted) x xs ts e begins = absurd cc
arguments_fit (tested dotted opened) x xs ts e begins =
    either_false dotted (goes_on_name (opening ∷ ts)) opened (goes_on_array (opening ∷ ts)) (no_name begins) (no_array begins)

pub over_empty : {edge : Edge} (ts : List Token) → takes_arguments edge [] ≡ false → Over edge (opening ∷ closing ∷ ts)
unfolding after_opening_brace
over_empty {edge = edge} ts e = record { no_type_arguments = refl; no_brace = refl; fits = empty_fits edge ts e }

pub over_list : {edge : Edge} (x : Expr) (xs : List Expr) (ts : List Token) → takes_arguments edge (x ∷ xs) ≡ false → Begins ts → Over edge (opening ∷ ts)
unfolding after_opening_brace
over_list {edge = edge} x xs ts e begins = record { no_type_arguments = no_of begins; no_brace = refl; fits = arguments_fit edge x xs ts e begins }

-- nothing goes on with any primary
record NoneFirst (ts : List Token) : Type 0 where
  no_type_arguments : begins_arguments ts ≡ false
  no_brace : after_opening_brace ts ≡ None
  no_opening : after_opening ts ≡ None
  no_name : goes_on_name ts ≡ false
  no_array : goes_on_array ts ≡ false

nothing_first : (t : Token) (ts : List Token) → goes_on_primary (t ∷ ts) ≡ false → NoneFirst (t ∷ ts)
unfolding after_opening after_opening_brace
nothing_first (token.Symbol sign.Dot) ts over = absurd cc
nothing_first (token.Symbol sign.OpenParenthesis) ts over = absurd cc
nothing_first (token.Symbol sign.OpenBrace) ts over = absurd cc
nothing_first t ts over = record { no_type_arguments = refl; no_brace = refl; no_opening = refl; no_name = refl; no_array = refl }

nothing_stands : (ts : List Token) → goes_on_primary ts ≡ false → NoneFirst ts
unfolding after_opening after_opening_brace
nothing_stands [] over = record { no_type_arguments = refl; no_brace = refl; no_opening = refl; no_name = refl; no_array = refl }
nothing_stands (t ∷ ts) over = nothing_first t ts over

end_fits : (edge : Edge) (ts : List Token) → goes_on_primary ts ≡ false → NoneFirst ts → takes_first edge ts ≡ false
end_fits closed ts over f = refl
end_fits operand ts over f = over
end_fits (created dotted) ts over f =
    ap (λ o. is_some o || goes_on_type dotted false ts) f.no_opening
    ∙ either_false dotted (goes_on_name ts) false (goes_on_array ts) f.no_name f.no_array
end_fits (tested dotted opened) ts over f = either_false dotted (goes_on_name ts) opened (goes_on_array ts) f.no_name f.no_array

pub over_end : {edge : Edge} (ts : List Token) → goes_on_primary ts ≡ false → Over edge ts
over_end {edge = edge} ts over =
    let f = nothing_stands ts over in
    record { no_type_arguments = f.no_type_arguments; no_brace = f.no_brace; fits = end_fits edge ts over f }

-- what is needed to read the parts
pub over_type : {dotted opened : Bool} {rest : List Token} → Over (tested dotted opened) rest → goes_on_type dotted opened rest ≡ false
over_type over = over.fits

second_false : (a b : Bool) → (a || b) ≡ false → b ≡ false
second_false true b e = absurd cc
second_false false b e = e

first_none : {A : Type 0} (o : Option A) (b : Bool) → (is_some o || b) ≡ false → o ≡ None
first_none None b e = refl
first_none (Some x) b e = absurd cc

pub over_created_type : {dotted : Bool} {rest : List Token} → Over (created dotted) rest → goes_on_type dotted false rest ≡ false
over_created_type {dotted = dotted} {rest = rest} over = second_false (is_some (after_opening rest)) (goes_on_type dotted false rest) over.fits

pub over_created : {dotted : Bool} {rest : List Token} → Over (created dotted) rest → after_opening rest ≡ None
over_created {dotted = dotted} {rest = rest} over = first_none (after_opening rest) (goes_on_type dotted false rest) over.fits

pub over_operand : {rest : List Token} → Over operand rest → goes_on_primary rest ≡ false
over_operand over = over.fits

pub over_arguments : {edge : Edge} {rest : List Token} (bare : Bool) → Over edge rest → (bare && begins_arguments rest) ≡ false
over_arguments {rest = rest} bare over = and_false bare (begins_arguments rest) over.no_type_arguments

-- behind a simple type stands an opening parenthesis and what begins an expression, or closes
pub opening_over_type : {ts : List Token} (dotted : Bool) → Begins ts → goes_on_type dotted false (opening ∷ ts) ≡ false
opening_over_type {ts = ts} dotted begins = either_false dotted (goes_on_name (opening ∷ ts)) false (goes_on_array (opening ∷ ts)) (no_name begins) (no_array begins)

pub empty_over_type : (dotted : Bool) (ts : List Token) → goes_on_type dotted false (opening ∷ closing ∷ ts) ≡ false
empty_over_type true ts = refl
empty_over_type false ts = refl
