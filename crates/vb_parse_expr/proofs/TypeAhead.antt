-- What the tokens ahead of a type tell: which of them go on with it.
use Rattle.std.proofs.Common.{◌≡◌, Bool, true, false, ◌&&◌, ◌||◌, List, [], ◌∷◌, Option, Some, None, is_some, refl, ap, sym, ◌∙◌}
use Rattle.vb_text.specs.declared.names.Name.{Name}
use Rattle.vb_syntax.specs.declared.keyword.Keyword.TheVariants as word
use Rattle.vb_syntax.specs.declared.symbol.Symbol.TheVariants as sign
use Rattle.vb_syntax.specs.declared.tokens.Token.{Token}
use Rattle.vb_syntax.specs.declared.tokens.Token.TheVariants as token
use Rattle.vb_parse_expr.specs.{Words.{opening, closing, comma, dot, name_of, type_of}, Types.{goes_on_name, goes_on_array, goes_on_type}, Reading.{after_opening, after_closing, after_comma, after_dot, after_of}, TypeReading.{behind, after_opening_of}}
use Rattle.vb_parse_expr.proofs.FoundTypes.{begins_arguments}

-- THE TOKEN THAT STANDS FIRST

pub opening_first : (ts : List Token) {rest : List Token} → after_opening ts ≡ Some rest → ts ≡ opening ∷ rest
unfolding after_opening
opening_first [] e = cc
opening_first (token.Symbol sign.OpenParenthesis ∷ ts) e = cc
opening_first (_ ∷ ts) e = cc

pub closing_first : (ts : List Token) {rest : List Token} → after_closing ts ≡ Some rest → ts ≡ closing ∷ rest
unfolding after_closing
closing_first [] e = cc
closing_first (token.Symbol sign.CloseParenthesis ∷ ts) e = cc
closing_first (_ ∷ ts) e = cc

pub comma_first : (ts : List Token) {rest : List Token} → after_comma ts ≡ Some rest → ts ≡ comma ∷ rest
unfolding after_comma
comma_first [] e = cc
comma_first (token.Symbol sign.Comma ∷ ts) e = cc
comma_first (_ ∷ ts) e = cc

pub dot_first : (ts : List Token) {rest : List Token} → after_dot ts ≡ Some rest → ts ≡ dot ∷ rest
unfolding after_dot
dot_first [] e = cc
dot_first (token.Symbol sign.Dot ∷ ts) e = cc
dot_first (_ ∷ ts) e = cc

pub of_first : (ts : List Token) {rest : List Token} → after_of ts ≡ Some rest → ts ≡ token.Keyword word.Of ∷ rest
unfolding after_of
of_first [] e = cc
of_first (token.Keyword word.Of ∷ ts) e = cc
of_first (_ ∷ ts) e = cc

-- `(Of` STANDS FIRST

opening_of_at : (ts : List Token) (inner : Option (List Token)) {rest : List Token} → after_opening ts ≡ inner
    → behind inner after_of ≡ Some rest
    → ts ≡ opening ∷ token.Keyword word.Of ∷ rest
opening_of_at ts None was e = cc
opening_of_at ts (Some us) was e = opening_first ts was ∙ ap (λ vs. opening ∷ vs) (of_first us e)

pub opening_of_first : (ts : List Token) {rest : List Token} → after_opening_of ts ≡ Some rest → ts ≡ opening ∷ token.Keyword word.Of ∷ rest
unfolding after_opening_of
opening_of_first ts e = opening_of_at ts (after_opening ts) refl e

pub opening_of_stands : (rest : List Token) → after_opening_of (opening ∷ token.Keyword word.Of ∷ rest) ≡ Some rest
unfolding after_opening_of after_opening after_of
opening_of_stands rest = refl

pub of_tells : (ts : List Token) → begins_arguments (opening ∷ ts) ≡ is_some (after_of ts)
unfolding after_of
of_tells [] = refl
of_tells (token.Keyword word.Of ∷ ts) = refl
of_tells (_ ∷ ts) = refl

pub arguments_tell : (ts : List Token) → begins_arguments ts ≡ is_some (after_opening_of ts)
unfolding after_opening_of after_opening
arguments_tell [] = refl
arguments_tell (token.Symbol sign.OpenParenthesis ∷ ts) = of_tells ts
arguments_tell (_ ∷ ts) = refl

-- `()` STANDS FIRST

array_at : (ts : List Token) (inner : Option (List Token)) {rest : List Token} → after_opening ts ≡ inner
    → behind inner after_closing ≡ Some rest
    → ts ≡ opening ∷ closing ∷ rest
array_at ts None was e = cc
array_at ts (Some us) was e = opening_first ts was ∙ ap (λ vs. opening ∷ vs) (closing_first us e)

pub array_first : (ts : List Token) {rest : List Token} → behind (after_opening ts) after_closing ≡ Some rest → ts ≡ opening ∷ closing ∷ rest
array_first ts e = array_at ts (after_opening ts) refl e

pub closing_tells : (ts : List Token) → goes_on_array (opening ∷ ts) ≡ is_some (after_closing ts)
unfolding after_closing
closing_tells [] = refl
closing_tells (token.Symbol sign.CloseParenthesis ∷ ts) = refl
closing_tells (_ ∷ ts) = refl

pub array_tells : (ts : List Token) → goes_on_array ts ≡ is_some (behind (after_opening ts) after_closing)
unfolding after_opening
array_tells [] = refl
array_tells (token.Symbol sign.OpenParenthesis ∷ ts) = closing_tells ts
array_tells (_ ∷ ts) = refl

-- a dot or `(Of` STANDS FIRST

pub of_tells_name : (ts : List Token) → goes_on_name (opening ∷ ts) ≡ is_some (after_of ts)
unfolding after_of
of_tells_name [] = refl
of_tells_name (token.Keyword word.Of ∷ ts) = refl
of_tells_name (_ ∷ ts) = refl

pub name_tells : (ts : List Token) → goes_on_name ts ≡ is_some (after_dot ts) || is_some (after_opening_of ts)
unfolding after_dot after_opening_of after_opening
name_tells [] = refl
name_tells (token.Symbol sign.Dot ∷ ts) = refl
name_tells (token.Symbol sign.OpenParenthesis ∷ ts) = of_tells_name ts
name_tells (_ ∷ ts) = refl

-- WHAT GOES ON

none_of : {X : Type 0} (o : Option X) → is_some o ≡ false → o ≡ None
none_of None e = refl
none_of (Some x) e = cc

either_none : {X Y : Type 0} (o : Option X) (q : Option Y) → is_some o || is_some q ≡ false → (o ≡ None) × (q ≡ None)
either_none None None e = (refl, refl)
either_none None (Some y) e = cc
either_none (Some x) q e = cc

-- no dot and no `(Of` stands behind a name that is over
pub name_over : (ts : List Token) → goes_on_name ts ≡ false → (after_dot ts ≡ None) × (after_opening_of ts ≡ None)
name_over ts e = either_none (after_dot ts) (after_opening_of ts) (sym (name_tells ts) ∙ e)

pub over_name : (ts : List Token) → after_dot ts ≡ None → after_opening_of ts ≡ None → goes_on_name ts ≡ false
over_name ts d o = name_tells ts ∙ ap (λ q. is_some q || is_some (after_opening_of ts)) d ∙ ap (λ q. is_some q) o

pub array_over : (ts : List Token) → goes_on_array ts ≡ false → behind (after_opening ts) after_closing ≡ None
array_over ts e = none_of (behind (after_opening ts) after_closing) (sym (array_tells ts) ∙ e)

pub over_array : (ts : List Token) → behind (after_opening ts) after_closing ≡ None → goes_on_array ts ≡ false
over_array ts e = array_tells ts ∙ ap (λ q. is_some q) e

pub arguments_over : (ts : List Token) → begins_arguments ts ≡ false → after_opening_of ts ≡ None
arguments_over ts e = none_of (after_opening_of ts) (sym (arguments_tell ts) ∙ e)

pub over_arguments : (ts : List Token) → after_opening_of ts ≡ None → begins_arguments ts ≡ false
over_arguments ts e = arguments_tell ts ∙ ap (λ q. is_some q) e

-- a type that is simple and over is one that nothing goes on with
pub over_type : (dotted opened : Bool) (ts : List Token) → (dotted && goes_on_name ts) ≡ false → (opened && goes_on_array ts) ≡ false
    → goes_on_type dotted opened ts ≡ false
over_type dotted opened ts d o = ap (λ b. b || (opened && goes_on_array ts)) d ∙ o

both_false : (b c : Bool) → b || c ≡ false → (b ≡ false) × (c ≡ false)
both_false true c e = cc
both_false false c e = (refl, e)

pub type_over : (dotted opened : Bool) (ts : List Token) → goes_on_type dotted opened ts ≡ false
    → ((dotted && goes_on_name ts) ≡ false) × ((opened && goes_on_array ts) ≡ false)
type_over dotted opened ts e = both_false (dotted && goes_on_name ts) (opened && goes_on_array ts) e

pub and_false : (b : Bool) → (b && false) ≡ false
and_false true = refl
and_false false = refl

-- a comma and a parenthesis that closes go on with no type
pub comma_over : (dotted opened : Bool) (ts : List Token) → goes_on_type dotted opened (comma ∷ ts) ≡ false
comma_over dotted opened ts = over_type dotted opened (comma ∷ ts) (and_false dotted) (and_false opened)

pub closing_over : (dotted opened : Bool) (ts : List Token) → goes_on_type dotted opened (closing ∷ ts) ≡ false
closing_over dotted opened ts = over_type dotted opened (closing ∷ ts) (and_false dotted) (and_false opened)

-- `()` goes on only with what may become an array
pub parentheses_over : (dotted : Bool) (ts : List Token) → goes_on_type dotted false (opening ∷ closing ∷ ts) ≡ false
parentheses_over dotted ts = over_type dotted false (opening ∷ closing ∷ ts) (and_false dotted) refl

-- NAMES AND WORDS

pub name_no_word : (t : Token) {n : Name} → name_of t ≡ Some n → type_of t ≡ None
name_no_word (token.Name n) e = refl
name_no_word (token.EscapedName n) e = refl
name_no_word _ e = cc
