-- The characters of a file, and their classes.
use Rattle.std.specs.Prelude.{◌≡◌, ℕ, suc, ◌<◌, Bool, true, false, ◌&&◌, ◌||◌, ◌==◌, nat_le, if◌then◌else◌, List, [], ◌∷◌, length, drop, Option, Some, None}
use Rattle.std.specs.Char.{is_ascii as is_ascii_code}
use Rattle.bstr.specs.Utf8.{decoded}
use Rattle.unicode.specs.GeneralCategory.{general_category}
use Rattle.ucd_category.specs.declared.GeneralCategory.{GeneralCategory}
use Rattle.ucd_category.specs.declared.GeneralCategory.TheVariants as category
use Rattle.vb_lexer.specs.declared.characters.Class.{Class}
use Rattle.vb_lexer.specs.declared.characters.Class.TheVariants as class

-- THE TEXT OF A FILE (RFC 3629, 3 and 4; Visual Basic Language Specification 11.0, 2.1)

-- a character, or none where the bytes are no UTF-8
abbrev pub Character : Type 0
Character = Option ℕ

-- the bytes are these characters, one after another
abbrev pub Decodes : List ℕ → List Character → Type 0
Decodes bytes [] = bytes ≡ []
Decodes bytes (c ∷ cs) = (0 < length bytes) × ((decoded bytes).char ≡ c) × Decodes (drop (decoded bytes).size bytes) cs

abbrev pub is_char : Character → ℕ → Bool
is_char None x = false
is_char (Some c) x = c == x

-- a byte order mark at the front is no part of the text
abbrev pub without_mark : List Character → List Character
without_mark [] = []
without_mark (c ∷ cs) = if is_char c 0xFEFF then cs else c ∷ cs

-- the bytes are a file of this text
abbrev pub IsText : List ℕ → List Character → Type 0
IsText bytes text = (all : List Character) × Decodes bytes all × (text ≡ without_mark all)

-- CLASSES OF CHARACTERS (Visual Basic Language Specification 11.0, 2.1 and 2.2)

-- LF, CR, U+2028 and U+2029
abbrev pub is_line_end_code : ℕ → Bool
is_line_end_code c = c == 10 || c == 13 || c == 0x2028 || c == 0x2029

abbrev pub is_line_end : Character → Bool
is_line_end None = false
is_line_end (Some c) = is_line_end_code c

-- categories of a name's first character
abbrev pub is_letter_category : GeneralCategory → Bool
is_letter_category category.UppercaseLetter = true
is_letter_category category.LowercaseLetter = true
is_letter_category category.TitlecaseLetter = true
is_letter_category category.ModifierLetter = true
is_letter_category category.OtherLetter = true
is_letter_category category.LetterNumber = true
is_letter_category _ = false

-- categories of a name's further characters
abbrev pub is_name_category : GeneralCategory → Bool
is_name_category category.UppercaseLetter = true
is_name_category category.LowercaseLetter = true
is_name_category category.TitlecaseLetter = true
is_name_category category.ModifierLetter = true
is_name_category category.OtherLetter = true
is_name_category category.LetterNumber = true
is_name_category category.DecimalNumber = true
is_name_category category.ConnectorPunctuation = true
is_name_category category.NonspacingMark = true
is_name_category category.SpacingMark = true
is_name_category category.Format = true
is_name_category _ = false

abbrev pub is_connector_category : GeneralCategory → Bool
is_connector_category category.ConnectorPunctuation = true
is_connector_category _ = false

abbrev pub is_space_category : GeneralCategory → Bool
is_space_category category.SpaceSeparator = true
is_space_category _ = false

-- a tab, or a character of the category Zs
abbrev pub is_space : Character → Bool
is_space None = false
is_space (Some c) = c == 9 || is_space_category (general_category c)

-- a character that may stand inside a name
abbrev pub is_name_part : Character → Bool
is_name_part None = false
is_name_part (Some c) = is_name_category (general_category c)

abbrev pub is_decimal_digit : ℕ → Bool
is_decimal_digit c = nat_le 48 c && nat_le c 57

abbrev pub class_of_category : GeneralCategory → Class
class_of_category g = if is_space_category g then class.Space else if is_letter_category g then class.Letter else if is_connector_category g then class.Connector else class.Other

-- what a character begins, by itself
abbrev pub class_of_code : ℕ → Class
class_of_code c =
    if is_line_end_code c then class.LineEnd else if c == 9 then class.Space else if is_decimal_digit c then class.Digit
    else if c == 34 then class.Quote else if c == 39 then class.Apostrophe else if c == 91 then class.Bracket
    else if c == 35 then class.NumberSign else if c == 38 then class.Ampersand
    else class_of_category (general_category c)

abbrev pub class_of : Character → Class
class_of None = class.Unreadable
class_of (Some c) = class_of_code c

-- a character that stays in its line
abbrev pub is_in_line : Character → Bool
is_in_line None = true
is_in_line (Some c) = if is_line_end_code c then false else true

-- a character that a comment goes on with
abbrev pub is_remark : Character → Bool
is_remark None = false
is_remark (Some c) = if is_line_end_code c then false else true

-- how many characters at the front pass, one after another
unfoldable pub run_len : (Character → Bool) → List Character → ℕ
run_len passes [] = 0
run_len passes (c ∷ cs) = if passes c then suc (run_len passes cs) else 0

-- the characters that are some
abbrev pub readable : List Character → List ℕ
readable [] = []
readable (None ∷ cs) = readable cs
readable (Some c ∷ cs) = c ∷ readable cs

-- none of them is bytes that are no UTF-8
abbrev pub is_readable : List Character → Bool
is_readable [] = true
is_readable (None ∷ cs) = false
is_readable (Some c ∷ cs) = is_readable cs

-- each of them is of ASCII
abbrev pub is_ascii : List Character → Bool
is_ascii [] = true
is_ascii (None ∷ cs) = false
is_ascii (Some c ∷ cs) = is_ascii_code c && is_ascii cs
