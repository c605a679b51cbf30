-- Which characters are a token of each sort, however a text is read (Visual Basic Language Specification 11.0, 2.2 to 2.6).
use Rattle.std.specs.Prelude.{◌≡◌, ◌⊎◌, ◌↔◌, ℕ, ◌≤◌, Bool, true, false, List, [], ◌∷◌, ◌++◌, length, Option, Some, None, codes}
use Rattle.std.specs.List.{list_all}
use Rattle.vb_text.specs.Units.{most_units}
use Rattle.vb_syntax.specs.{Texts.{keyword_text, symbol_text}, declared.{keyword.Keyword.Keyword, tokens.{IntegerType.IntegerType, IntegerLiteral.IntegerLiteral}}}
use Rattle.vb_lexer.specs.{declared.piece.{Piece.Piece, Base.{Base, TheVariants.{Decimal, Hexadecimal, Octal}}}, Characters.{Character, is_char, is_line_end, is_name_part, class_of, is_readable}, Tokens.{char_at, longest_name, begins_name, lowered, is_digit, base_number, value_from, literal_of, suffixes, units_of}, Pieces.Part}
use Rattle.vb_lexer.specs.declared.piece.Piece.TheVariants as piece
use Rattle.vb_lexer.specs.declared.piece.Fault.TheVariants as broken

-- the characters are the word, in any ASCII case
abbrev pub AreWord : List ℕ → List Character → Type 0
AreWord word cs = (is_readable cs ≡ true) × (lowered cs ≡ word)

-- a letter, or a connector with more behind it, and characters of names behind; at most 1,023 (2.2)
abbrev pub IsIdentifier : List Character → Type 0
IsIdentifier cs = (begins_name (class_of (char_at cs 0)) (length cs) ≡ true) × (list_all is_name_part cs ≡ true) × (length cs ≤ longest_name)

-- a reserved word, REM among them (2.3)
abbrev pub IsReserved : List Character → Type 0
IsReserved cs = AreWord (codes "rem") cs ⊎ ((k : Keyword) × AreWord (keyword_text k) cs)

-- what stands before the digits of a base (2.4.2)
abbrev pub base_mark : Base → List ℕ
base_mark Decimal = []
base_mark Hexadecimal = codes "&h"
base_mark Octal = codes "&o"

-- one of the suffixes, and its type
abbrev pub IsAmong : List (List ℕ × IntegerType) → IntegerType → List Character → Type 0
IsAmong [] t cs = ⊥
IsAmong (s ∷ ss) t cs = (AreWord s.0 cs × (s.1 ≡ t)) ⊎ IsAmong ss t cs

-- a suffix and its type, or neither
abbrev pub IsSuffix : Option IntegerType → List Character → Type 0
IsSuffix None cs = cs ≡ []
IsSuffix (Some t) cs = IsAmong suffixes t cs

-- one decimal digit, without a suffix
abbrev pub IsOneDigit : Base → Option IntegerType → List Character → Type 0
IsOneDigit base kind digits = (base ≡ Decimal) × (kind ≡ None) × (length digits ≡ 1)

-- an integer literal: the mark of its base, digits, and perhaps a suffix, with a value of its type (2.4.2)
pub record IsInteger (l : IntegerLiteral) (cs : List Character) : Type 0 where
  pub base : Base
  pub mark : List Character
  pub digits : List Character
  pub suffix : List Character
  pub kind : Option IntegerType
  pub stands : cs ≡ mark ++ (digits ++ suffix)
  pub marked : AreWord (base_mark base) mark
  pub some : 1 ≤ length digits
  pub are_digits : list_all (is_digit base) digits ≡ true
  pub suffixed : IsSuffix kind suffix
  pub value : literal_of base kind (length digits) (value_from (base_number base) 0 digits) ≡ Some l
  pub digit : (l.is_digit ≡ true) ↔ IsOneDigit base kind digits

-- characters between the quotes of a literal: neither quotes nor line ends, but for doubled quotes (2.4.4)
abbrev pub AreBetweenQuotes : List Character → Type 0
AreBetweenQuotes [] = Unit {0}
AreBetweenQuotes (c ∷ []) = (is_char c 34 ≡ false) × (is_line_end c ≡ false)
AreBetweenQuotes (c ∷ d ∷ cs) =
    ((is_char c 34 ≡ true) × (is_char d 34 ≡ true) × AreBetweenQuotes cs) ⊎ ((is_char c 34 ≡ false) × (is_line_end c ≡ false) × AreBetweenQuotes (d ∷ cs))

-- quotes, with the content between them and the end behind (2.4.4 and 2.4.5)
pub record IsQuoted (content end cs : List Character) : Type 0 where
  pub between : AreBetweenQuotes content
  pub readable : is_readable content ≡ true
  pub stands : cs ≡ Some 34 ∷ (content ++ (Some 34 ∷ end))

-- the characters are a token of the piece's sort, perhaps behind a dot; no other piece is one
abbrev pub Spells : Bool → Piece → List Character → Type 0
Spells dot piece.Name cs = IsIdentifier cs × (dot ≡ false → IsReserved cs → ⊥)
Spells dot piece.EscapedName cs = (name : List Character) × IsIdentifier name × (cs ≡ Some 91 ∷ (name ++ (Some 93 ∷ [])))
Spells dot (piece.Keyword k) cs = IsIdentifier cs × AreWord (keyword_text k) cs × (dot ≡ false)
Spells dot (piece.Integer l) cs = IsInteger l cs
Spells dot piece.Text cs = (content : List Character) × IsQuoted content [] cs × (length (units_of content) ≤ most_units)
Spells dot (piece.Char u) cs = (content end : List Character) × IsQuoted content end cs × AreWord (codes "c") end × (units_of content ≡ u ∷ [])
Spells dot (piece.Symbol s) cs = AreWord (symbol_text s) cs
Spells dot p cs = ⊥

-- a piece that may stand where a token begins: the comment of REM, and the places of rules that are told of the whole word, number or literal
abbrev pub stands_instead : Piece → Bool
stands_instead piece.Comment = true
stands_instead (piece.Fault broken.NotUtf8) = true
stands_instead (piece.Fault broken.TextLiteral) = true
stands_instead (piece.Fault broken.NumberLiteral) = true
stands_instead (piece.Fault broken.LongName) = true
stands_instead p = false

-- the part's characters stand at the front of the text and are a token of its sort, and no longer front is a token of any sort
pub record IsLongest (dot : Bool) (text : List Character) (p : Part) : Type 0 where
  pub rest : List Character
  pub stands : text ≡ p.characters ++ rest
  pub spelled : Spells dot p.piece p.characters
  pub longest : (other : Piece) (front behind : List Character) → text ≡ front ++ behind → Spells dot other front → length front ≤ length p.characters
