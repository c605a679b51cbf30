-- A string literal that is a piece has no more units than a text may have.
use Rattle.std.proofs.Common.{◌≡◌, ℕ, zero, suc, ◌+◌, ◌-◌, ◌<◌, ◌≤◌, Bool, true, false, ◌&&◌, ◌==◌, not, nat_lt, slice_index, List, [], ◌∷◌, length, take, drop, Option, None, Some, refl, sym, ap, ◌∙◌, subst, arith, if◌then◌else◌, ltb-false, length-take-le, take-take}
use Rattle.std.specs.Prelude.{codes}
use Rattle.vb_text.specs.Units.{most_units}
use Rattle.vb_syntax.specs.declared.{keyword.Keyword.Keyword, symbol.Symbol.Symbol, tokens.{IntegerType.IntegerType, IntegerLiteral.IntegerLiteral}}
use Rattle.vb_lexer.specs.{declared.{piece.{Piece.Piece, Found.Found, Before.Before, Base.{Base, TheVariants.{Decimal, Hexadecimal, Octal}}}, characters.Class.Class}, Characters.{Character, is_char, class_of, is_remark, run_len, is_space, is_readable}, Tables.{keywords, symbols}, Tokens.{char_at, found, fault, longest_name, name_len, lowered, is_rem, keyword_in, keyword_or_name, word_of, connected_of, begins_name, bracketed_of, digits_len, base_number, value_from, literal_of, suffixes, suffix_in, suffix_type, suffix_len, starts, integer_or_fault, number_of, number_at, symbol_in, symbol_or_fault, symbol_at, ampersand_at, content_len, char_literal, text_literal, quoted_of, quoted_or_fault, quoted_at, units_of}, Pieces.{ends_line, is_rest, behind_space, is_word_at, space_of, region_start, region_named, region_start_of, region_end_of, region_at, piece_of, piece_at}}
use Rattle.vb_lexer.specs.declared.piece.Piece.TheVariants as piece
use Rattle.vb_lexer.specs.declared.piece.Fault.TheVariants as broken
use Rattle.vb_lexer.specs.declared.characters.Class.TheVariants as class
use Rattle.vb_lexer.proofs.Bounds.{piece_bounds}

abbrev is_text : Piece → Bool
is_text piece.Text = true
is_text _ = false

-- no string literal
abbrev Plain : Found → Type 0
Plain f = is_text f.piece ≡ false

plain_if : (b : Bool) (x y : Found) → Plain x → Plain y → Plain (if b then x else y)
plain_if true x y f g = f
plain_if false x y f g = g

-- WORDS, NUMBERS, SYMBOLS AND SPACE

word_plain : (k : Option Keyword) (n : ℕ) → Plain (found (keyword_or_name k) n)
word_plain None n = refl
word_plain (Some k) n = refl

word_of_plain : (dot : Bool) (n : ℕ) (text : List Character) → Plain (word_of dot n text)
unfolding word_of
word_of_plain dot n text =
    plain_if (nat_lt longest_name n) _ _ refl (plain_if dot _ _ refl (plain_if (is_rem (take n text)) _ _ refl (word_plain (keyword_in keywords (lowered (take n text))) n)))

connected_plain : (n : ℕ) (text : List Character) → Plain (connected_of n text)
unfolding connected_of
connected_plain n text = plain_if (nat_lt n 2) _ _ refl (plain_if (nat_lt longest_name n) _ _ refl refl)

bracketed_plain : (n : ℕ) (text : List Character) → Plain (bracketed_of n text)
unfolding bracketed_of
bracketed_plain n text =
    plain_if (not (begins_name (class_of (char_at text 1)) n && is_char (char_at text (n + 1)) 93)) _ _ refl (plain_if (nat_lt longest_name n) _ _ refl refl)

integer_plain : (l : Option IntegerLiteral) (n : ℕ) (text : List Character) → Plain (integer_or_fault l n text)
integer_plain None n text = refl
integer_plain (Some l) n text = refl

number_of_plain : (base : Base) (mark n : ℕ) (suffix : Option (List ℕ × IntegerType)) (text : List Character) → Plain (number_of base mark n suffix text)
unfolding number_of
number_of_plain base mark n suffix text =
    plain_if (n == 0) _ _ refl
    (integer_plain (literal_of base (suffix_type suffix) n (value_from (base_number base) 0 (take n (drop mark text)))) (mark + n + suffix_len suffix) text)

number_plain : (base : Base) (mark : ℕ) (text : List Character) → Plain (number_at base mark text)
number_plain base mark text = number_of_plain base mark (digits_len base mark text) (suffix_in suffixes (drop (mark + digits_len base mark text) text)) text

symbol_by : (s : Option Symbol) (text : List Character) → Plain (symbol_or_fault s text)
symbol_by None text = refl
symbol_by (Some s) text = refl

symbol_plain : (text : List Character) → Plain (symbol_at text)
symbol_plain text = symbol_by (symbol_in symbols text) text

ampersand_plain : (text : List Character) → Plain (ampersand_at text)
unfolding ampersand_at
ampersand_plain text =
    plain_if (starts (codes "&h") text) _ _ (number_plain Hexadecimal 2 text)
    (plain_if (starts (codes "&o") text) _ _ (number_plain Octal 2 text) (symbol_plain text))

space_plain : (n : ℕ) (text : List Character) → Plain (space_of n text)
unfolding space_of
space_plain n text = plain_if (is_char (char_at text 1) 95 && ends_line (drop (n + 2) text)) _ _ refl refl

-- REGION LINES

region_by : (p : Piece) (n : ℕ) (text : List Character) → Plain (region_start p n text)
region_by piece.Text n text = refl
region_by (piece.Fault broken.NotUtf8) n text = refl
region_by _ n text = refl

named_plain : (m : Option ℕ) (n : ℕ) (text : List Character) → Plain (region_named m n text)
named_plain None n text = refl
named_plain (Some m) n text =
    plain_if (is_rest (behind_space (drop (n + m + 2) text))) _ _ (region_by (quoted_at (drop n text)).piece (n + m + 2 + run_len is_remark (drop (n + m + 2) text)) text) refl

start_plain : (n : ℕ) (text : List Character) → Plain (region_start_of n text)
unfolding region_start_of
start_plain n text = plain_if (is_char (char_at text (n + 7)) 34) _ _ (named_plain (content_len (drop (n + 8) text)) (n + 7) text) refl

end_plain : (n : ℕ) (text : List Character) → Plain (region_end_of n text)
unfolding region_end_of
end_plain n text = plain_if (is_word_at (codes "region") (drop (n + 4) text) && is_rest (behind_space (drop (n + 10) text))) _ _ refl refl

region_plain : (text : List Character) → Plain (region_at text)
region_plain text =
    plain_if (is_word_at (codes "region") (drop 1 text)) _ _ (start_plain (run_len is_space (drop 7 text)) text)
    (plain_if (is_word_at (codes "end") (drop 1 text)) _ _ (end_plain (run_len is_space (drop 4 text)) text) refl)

-- STRING LITERALS

-- where it is a string literal, its units are as many as a text may have
abbrev Short : Found → List Character → Type 0
Short f text = is_text f.piece ≡ true → length (units_of (take (f.length - 2) (drop 1 text))) ≤ most_units

short_if : (b : Bool) (x y : Found) (text : List Character) → (b ≡ true → Short x text) → (b ≡ false → Short y text) → Short (if b then x else y) text
short_if true x y text f g = f refl
short_if false x y text f g = g refl

content_short : (m : ℕ) (text : List Character) → nat_lt most_units (length (units_of (take m (drop 1 text)))) ≡ false → Short (found piece.Text (m + 2)) text
content_short m text e = λ is.
    let same : m ≡ m + 2 - 2 = omega arith in
    subst (λ k. length (units_of (take k (drop 1 text))) ≤ most_units) same (ltb-false most_units (length (units_of (take m (drop 1 text)))) e)

char_short : (m : ℕ) (units : List ℕ) (text : List Character) → Plain (char_literal m units text)
unfolding char_literal
char_short m units text =
    plain_if (nat_lt 1 (length units)) _ _ refl (plain_if (not (is_readable (take m (drop 1 text)))) _ _ refl (plain_if (length units == 1) (found (piece.Char (slice_index units 0)) (m + 3)) (fault broken.TextLiteral text) refl refl))

literal_short : (m : ℕ) (text : List Character) → Short (text_literal m (units_of (take m (drop 1 text))) text) text
unfolding text_literal
literal_short m text =
    short_if (nat_lt most_units (length (units_of (take m (drop 1 text))))) (fault broken.TextLiteral text) _ text (λ u is. cc)
    (λ u. short_if (not (is_readable (take m (drop 1 text)))) (fault broken.NotUtf8 text) _ text (λ e is. cc) (λ e. content_short m text u))

quoted_short : (m : ℕ) (text : List Character) → Short (quoted_of m (units_of (take m (drop 1 text))) text) text
quoted_short m text =
    short_if (starts (codes "c") (drop (m + 2) text)) _ _ text (λ c is. cc (char_short m (units_of (take m (drop 1 text))) text)) (λ c. literal_short m text)

quoted_by : (m : Option ℕ) (text : List Character) → Short (quoted_or_fault m text) text
quoted_by None text = λ e. cc
quoted_by (Some m) text = quoted_short m text

short_of : (k : Class) (b : Before) (text : List Character) → Short (piece_of k b text) text
unfolding piece_of
short_of class.Unreadable b text = λ e. cc
short_of class.LineEnd b text = λ e. cc
short_of class.Space b text = λ e. cc (space_plain (run_len is_space (drop 2 text)) text)
short_of class.Letter b text = λ e. cc (word_of_plain b.dot (name_len text) text)
short_of class.Connector b text = λ e. cc (connected_plain (name_len text) text)
short_of class.Digit b text = λ e. cc (number_plain Decimal 0 text)
short_of class.Quote b text = quoted_by (content_len (drop 1 text)) text
short_of class.Apostrophe b text = λ e. cc
short_of class.Bracket b text = λ e. cc (bracketed_plain (name_len (drop 1 text)) text)
short_of class.NumberSign b text = short_if b.line_front (region_at text) (fault broken.NumberSign text) text (λ e is. cc (region_plain text)) (λ e is. cc)
short_of class.Ampersand b text = λ e. cc (ampersand_plain text)
short_of class.Other b text = λ e. cc (symbol_plain text)

-- PIECES

-- the content of a literal stands inside the literal
content_inside : (n : ℕ) (text : List Character) → take (n - 2) (drop 1 (take n text)) ≡ take (n - 2) (drop 1 text)
content_inside zero text = refl
content_inside (suc n) [] = refl
content_inside (suc n) (c ∷ cs) = take-take (suc n - 2) n cs (omega arith)

short_by : (b : Before) (text cs : List Character) → (piece_at b text).piece ≡ piece.Text → 0 < length text → cs ≡ take (piece_at b text).length text → length (units_of (take (length cs - 2) (drop 1 cs))) ≤ most_units
short_by b text cs is some e =
    let n = (piece_at b text).length in
    let long : length cs ≡ n = ap (λ ds. length ds) e ∙ length-take-le n text (piece_bounds b text some).1 in
    let same : take (length cs - 2) (drop 1 cs) ≡ take (n - 2) (drop 1 text) = ap (λ k. take (k - 2) (drop 1 cs)) long ∙ ap (λ ds. take (n - 2) (drop 1 ds)) e ∙ content_inside n text in
    subst (λ ds. length (units_of ds) ≤ most_units) (sym same) (short_of (class_of (char_at text 0)) b text (ap is_text is))

-- a string literal that is a piece has no more units than a text may have
pub text_short : (b : Before) (text cs : List Character) → (piece_at b text).piece ≡ piece.Text → cs ≡ take (piece_at b text).length text → length (units_of (take (length cs - 2) (drop 1 cs))) ≤ most_units
unfolding piece_of
text_short b [] cs is e = cc
text_short b (c ∷ rest) cs is e = short_by b (c ∷ rest) cs is (omega arith) e
