-- Where lines stand that begin or end a region.
use Rattle.std.proofs.Common.{◌≡◌, ℕ, ◌+◌, Bool, true, false, ◌&&◌, ◌==◌, not, nat_lt, List, length, take, drop, ◌⊎◌, Option, None, Some, refl, if◌then◌else◌, ap, ⊎_elim}
use Rattle.std.specs.Prelude.{codes}
use Rattle.vb_text.specs.Units.{most_units}
use Rattle.vb_syntax.specs.declared.{keyword.Keyword.Keyword, symbol.Symbol.Symbol, tokens.{IntegerType.IntegerType, IntegerLiteral.IntegerLiteral}}
use Rattle.vb_lexer.specs.{declared.{piece.{Piece.Piece, Found.Found, Before.Before, Base.{Base, TheVariants.{Decimal, Hexadecimal, Octal}}}, characters.Class.Class}, Characters.{Character, is_char, class_of, run_len, is_space, is_readable}, Tables.{keywords, symbols}, Tokens.{char_at, found, fault, longest_name, name_len, lowered, is_rem, keyword_in, keyword_or_name, word_of, connected_of, begins_name, bracketed_of, digits_len, base_number, value_from, literal_of, suffixes, suffix_in, suffix_type, suffix_len, starts, integer_or_fault, number_of, number_at, symbol_in, symbol_or_fault, symbol_at, ampersand_at, content_len, char_literal, text_literal, quoted_of, quoted_or_fault, units_of}, Pieces.{ends_line, space_of, region_at, piece_of, piece_at}}
use Rattle.vb_lexer.specs.declared.piece.Piece.TheVariants as piece
use Rattle.vb_lexer.specs.declared.piece.Fault.TheVariants as broken
use Rattle.vb_lexer.specs.declared.characters.Class.TheVariants as class

abbrev is_region : Piece → Bool
is_region piece.RegionStart = true
is_region piece.RegionEnd = true
is_region _ = false

-- neither the begin nor the end of a region
abbrev Plain : Found → Type 0
Plain f = is_region f.piece ≡ false

plain_if : (b : Bool) (x y : Found) → Plain x → Plain y → Plain (if b then x else y)
plain_if true x y f g = f
plain_if false x y f g = g

word_plain : (k : Option Keyword) (n : ℕ) → Plain (found (keyword_or_name k) n)
word_plain None n = refl
word_plain (Some k) n = refl

word_of_plain : (dot : Bool) (n : ℕ) (text : List Character) → Plain (word_of dot n text)
unfolding word_of
word_of_plain dot n text =
    plain_if (nat_lt longest_name n) _ _ refl (plain_if dot _ _ refl (plain_if (is_rem (take n text)) _ _ refl (word_plain (keyword_in keywords (lowered (take n text))) n)))

connected_plain : (n : ℕ) (text : List Character) → Plain (connected_of n text)
unfolding connected_of
connected_plain n text = plain_if (nat_lt n 2) _ _ refl (plain_if (nat_lt longest_name n) _ _ refl refl)

bracketed_plain : (n : ℕ) (text : List Character) → Plain (bracketed_of n text)
unfolding bracketed_of
bracketed_plain n text =
    plain_if (not (begins_name (class_of (char_at text 1)) n && is_char (char_at text (n + 1)) 93)) _ _ refl (plain_if (nat_lt longest_name n) _ _ refl refl)

integer_plain : (l : Option IntegerLiteral) (n : ℕ) (text : List Character) → Plain (integer_or_fault l n text)
integer_plain None n text = refl
integer_plain (Some l) n text = refl

number_of_plain : (base : Base) (mark n : ℕ) (suffix : Option (List ℕ × IntegerType)) (text : List Character) → Plain (number_of base mark n suffix text)
unfolding number_of
number_of_plain base mark n suffix text =
    plain_if (n == 0) _ _ refl
    (integer_plain (literal_of base (suffix_type suffix) n (value_from (base_number base) 0 (take n (drop mark text)))) (mark + n + suffix_len suffix) text)

number_plain : (base : Base) (mark : ℕ) (text : List Character) → Plain (number_at base mark text)
number_plain base mark text = number_of_plain base mark (digits_len base mark text) (suffix_in suffixes (drop (mark + digits_len base mark text) text)) text

symbol_by : (s : Option Symbol) (text : List Character) → Plain (symbol_or_fault s text)
symbol_by None text = refl
symbol_by (Some s) text = refl

symbol_plain : (text : List Character) → Plain (symbol_at text)
symbol_plain text = symbol_by (symbol_in symbols text) text

ampersand_plain : (text : List Character) → Plain (ampersand_at text)
unfolding ampersand_at
ampersand_plain text =
    plain_if (starts (codes "&h") text) _ _ (number_plain Hexadecimal 2 text)
    (plain_if (starts (codes "&o") text) _ _ (number_plain Octal 2 text) (symbol_plain text))

char_plain : (m : ℕ) (units : List ℕ) (text : List Character) → Plain (char_literal m units text)
unfolding char_literal
char_plain m units text =
    plain_if (nat_lt 1 (length units)) _ _ refl (plain_if (not (is_readable (take m (drop 1 text)))) _ _ refl (plain_if (length units == 1) _ _ refl refl))

text_plain : (m : ℕ) (units : List ℕ) (text : List Character) → Plain (text_literal m units text)
unfolding text_literal
text_plain m units text =
    plain_if (nat_lt most_units (length units)) _ _ refl (plain_if (not (is_readable (take m (drop 1 text)))) _ _ refl refl)

quoted_of_plain : (m : ℕ) (units : List ℕ) (text : List Character) → Plain (quoted_of m units text)
quoted_of_plain m units text =
    plain_if (starts (codes "c") (drop (m + 2) text)) _ _ (char_plain m units text) (text_plain m units text)

quoted_by : (m : Option ℕ) (text : List Character) → Plain (quoted_or_fault m text)
quoted_by None text = refl
quoted_by (Some m) text = quoted_of_plain m (units_of (take m (drop 1 text))) text

space_plain : (n : ℕ) (text : List Character) → Plain (space_of n text)
unfolding space_of
space_plain n text = plain_if (is_char (char_at text 1) 95 && ends_line (drop (n + 2) text)) _ _ refl refl

front_by : (b : Bool) (x y : Found) → Plain y → is_region (if b then x else y).piece ≡ true → b ≡ true
front_by true x y plain e = refl
front_by false x y plain e = cc

front_of : (k : Class) (b : Before) (text : List Character) → is_region (piece_of k b text).piece ≡ true → b.line_front ≡ true
unfolding piece_of
front_of class.Unreadable b text e = cc
front_of class.LineEnd b text e = cc
front_of class.Space b text e = cc (space_plain (run_len is_space (drop 2 text)) text)
front_of class.Letter b text e = cc (word_of_plain b.dot (name_len text) text)
front_of class.Connector b text e = cc (connected_plain (name_len text) text)
front_of class.Digit b text e = cc (number_plain Decimal 0 text)
front_of class.Quote b text e = cc (quoted_by (content_len (drop 1 text)) text)
front_of class.Apostrophe b text e = cc
front_of class.Bracket b text e = cc (bracketed_plain (name_len (drop 1 text)) text)
front_of class.NumberSign b text e = front_by b.line_front (region_at text) (fault broken.NumberSign text) refl e
front_of class.Ampersand b text e = cc (ampersand_plain text)
front_of class.Other b text e = cc (symbol_plain text)

-- only at the front of a physical line stands a line that begins or ends a region
pub region_front : (b : Before) (text : List Character) → ((piece_at b text).piece ≡ piece.RegionStart) ⊎ ((piece_at b text).piece ≡ piece.RegionEnd) → b.line_front ≡ true
region_front b text h =
    front_of (class_of (char_at text 0)) b text (⊎_elim (λ e. ap is_region e) (λ e. ap is_region e) h)
