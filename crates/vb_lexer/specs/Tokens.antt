-- The tokens at a place of a text, each the longest there (Visual Basic Language Specification 11.0, 2.2 to 2.6).
use Rattle.std.specs.Prelude.{ℕ, ◌+◌, ◌-◌, ◌*◌, ◌^◌, Bool, true, false, not, ◌&&◌, ◌||◌, ◌==◌, nat_lt, nat_le, if◌then◌else◌, List, [], ◌∷◌, ◌++◌, length, take, drop, map, slice_get, slice_index, ℤ, pos, negsuc, Option, Some, None, codes, bytes_eq}
use Rattle.std.specs.Char.{to_ascii_lowercase}
use Rattle.std.specs.Char.Escape.{encode_utf16}
use Rattle.vb_text.specs.Units.{most_units}
use Rattle.vb_syntax.specs.{Texts.{keyword_text, symbol_text}, declared.{keyword.Keyword.Keyword, symbol.Symbol.Symbol, tokens.{IntegerType.{IntegerType, TheVariants.{Short, UShort, Integer, UInteger, Long, ULong}}, IntegerLiteral.IntegerLiteral}}}
use Rattle.vb_lexer.specs.{declared.{piece.{Piece.Piece, Found.Found, Fault.Fault, Base.{Base, TheVariants.{Decimal, Hexadecimal, Octal}}}, characters.{Class.Class, Run.Run}}, Characters.{Character, is_char, is_line_end, is_space, is_in_line, is_name_part, is_remark, class_of, run_len, readable, is_readable}, Tables.{keywords, symbols}}
use Rattle.vb_lexer.specs.declared.piece.Piece.TheVariants as piece
use Rattle.vb_lexer.specs.declared.piece.Fault.TheVariants as broken
use Rattle.vb_lexer.specs.declared.characters.Class.TheVariants as class
use Rattle.vb_lexer.specs.declared.characters.Run.TheVariants as run

-- the character at a place
abbrev pub char_at : List Character → ℕ → Character
char_at text i = get_some (slice_get text i)
  where
    get_some : Option Character → Character
    get_some None = None
    get_some (Some c) = c

-- so many characters are this piece
abbrev pub found : Piece → ℕ → Found
found p n = record { piece = p; length = n }

-- the text breaks the rule here; what follows in the physical line is passed over
abbrev pub fault : Fault → List Character → Found
fault f text = found (piece.Fault f) (run_len is_in_line text)

-- WORDS (2.2 and 2.3)

abbrev pub longest_name : ℕ
longest_name = 1023

abbrev pub lowered : List Character → List ℕ
lowered word = map to_ascii_lowercase (readable word)

-- the reserved word of a list that has this text
abbrev pub keyword_in : List Keyword → List ℕ → Option Keyword
keyword_in [] text = None
keyword_in (k ∷ ks) text = if bytes_eq text (keyword_text k) then Some k else keyword_in ks text

abbrev pub keyword_or_name : Option Keyword → Piece
keyword_or_name None = piece.Name
keyword_or_name (Some k) = piece.Keyword k

abbrev pub name_len : List Character → ℕ
name_len text = run_len is_name_part text

-- the word is REM
abbrev pub is_rem : List Character → Bool
is_rem word = bytes_eq (lowered word) (codes "rem")

-- behind a dot each word is a name
unfoldable pub word_of : Bool → ℕ → List Character → Found
word_of dot n text =
    if nat_lt longest_name n then fault broken.LongName text
    else if dot then found piece.Name n
    else if is_rem (take n text) then found piece.Comment (n + run_len is_remark (drop n text))
    else found (keyword_or_name (keyword_in keywords (lowered (take n text)))) n

abbrev pub word_at : Bool → List Character → Found
word_at dot text = word_of dot (name_len text) text

-- a name that begins with a connector, such as an underscore, has a second character
unfoldable pub connected_of : ℕ → List Character → Found
connected_of n text =
    if nat_lt n 2 then fault (if is_char (char_at text 0) 95 then broken.Underscore else broken.UnknownCharacter) text
    else if nat_lt longest_name n then fault broken.LongName text
    else found piece.Name n

abbrev pub connected_at : List Character → Found
connected_at text = connected_of (name_len text) text

-- a name of n characters begins here
abbrev pub begins_name : Class → ℕ → Bool
begins_name class.Letter n = true
begins_name class.Connector n = nat_le 2 n
begins_name _ n = false

-- a name between brackets; n counts its characters
unfoldable pub bracketed_of : ℕ → List Character → Found
bracketed_of n text =
    if not (begins_name (class_of (char_at text 1)) n && is_char (char_at text (n + 1)) 93) then fault broken.BracketedName text
    else if nat_lt longest_name n then fault broken.LongName text
    else found piece.EscapedName (n + 2)

abbrev pub bracketed_at : List Character → Found
bracketed_at text = bracketed_of (name_len (drop 1 text)) text

-- INTEGER LITERALS (2.4.2)

abbrev pub base_number : Base → ℕ
base_number Decimal = 10
base_number Hexadecimal = 16
base_number Octal = 8

abbrev pub is_digit_code : Base → ℕ → Bool
is_digit_code Decimal c = nat_le 48 c && nat_le c 57
is_digit_code Hexadecimal c = (nat_le 48 c && nat_le c 57) || (nat_le 65 c && nat_le c 70) || (nat_le 97 c && nat_le c 102)
is_digit_code Octal c = nat_le 48 c && nat_le c 55

abbrev pub is_digit : Base → Character → Bool
is_digit base None = false
is_digit base (Some c) = is_digit_code base c

-- the character is of the run
abbrev pub is_in_run : Run → Character → Bool
is_in_run run.Space = is_space
is_in_run run.Name = is_name_part
is_in_run run.Line = is_in_line
is_in_run run.Remark = is_remark
is_in_run (run.Digits base) = is_digit base

abbrev pub digit_code_value : ℕ → ℕ
digit_code_value c = if nat_le c 57 then c - 48 else if nat_le c 70 then c - 55 else c - 87

abbrev pub digit_value : Character → ℕ
digit_value None = 0
digit_value (Some c) = digit_code_value c

-- the number of n and the digits behind it
unfoldable pub value_from : ℕ → ℕ → List Character → ℕ
value_from base n [] = n
value_from base n (c ∷ cs) = value_from base (base * n + digit_value c) cs

-- the text stands at the front, in any ASCII case
abbrev pub starts : List ℕ → List Character → Bool
starts [] cs = true
starts (x ∷ xs) [] = false
starts (x ∷ xs) (None ∷ cs) = false
starts (x ∷ xs) (Some c ∷ cs) = to_ascii_lowercase c == x && starts xs cs

abbrev pub suffixes : List (List ℕ × IntegerType)
suffixes =
    (codes "us", UShort) ∷ (codes "ui", UInteger) ∷ (codes "ul", ULong) ∷ (codes "s", Short) ∷ (codes "i", Integer) ∷ (codes "l", Long)
    ∷ (codes "%", Integer) ∷ (codes "&", Long) ∷ []

-- the suffix that stands at the front
abbrev pub suffix_in : List (List ℕ × IntegerType) → List Character → Option (List ℕ × IntegerType)
suffix_in [] text = None
suffix_in (s ∷ ss) text = if starts s.0 text then Some s else suffix_in ss text

abbrev pub suffix_type : Option (List ℕ × IntegerType) → Option IntegerType
suffix_type None = None
suffix_type (Some s) = Some s.1

abbrev pub suffix_len : Option (List ℕ × IntegerType) → ℕ
suffix_len None = 0
suffix_len (Some s) = length s.0

-- the numbers below this one are values of the type
abbrev pub decimal_bound : IntegerType → ℕ
decimal_bound Short = 2 ^ 15
decimal_bound UShort = 2 ^ 16
decimal_bound Integer = 2 ^ 31
decimal_bound UInteger = 2 ^ 32
decimal_bound Long = 2 ^ 63
decimal_bound ULong = 2 ^ 64

-- the numbers below this one are the bits of a value of the type
abbrev pub bits_bound : IntegerType → ℕ
bits_bound Short = 2 ^ 16
bits_bound UShort = 2 ^ 16
bits_bound Integer = 2 ^ 32
bits_bound UInteger = 2 ^ 32
bits_bound Long = 2 ^ 64
bits_bound ULong = 2 ^ 64

abbrev pub literal : IntegerType → ℤ → Bool → IntegerLiteral
literal t v digit = record { kind = t; value = v; is_digit = digit }

-- the value of these bits, in two's complement
abbrev pub bits_value : IntegerType → ℕ → ℤ
bits_value t n = if nat_lt n (decimal_bound t) then pos n else negsuc (bits_bound t - 1 - n)

-- the literal of so many decimal digits, whose number is n
abbrev pub decimal_literal : Option IntegerType → ℕ → ℕ → Option IntegerLiteral
decimal_literal (Some t) digits n = if nat_lt n (decimal_bound t) then Some (literal t (pos n) false) else None
decimal_literal None digits n =
    if nat_lt n (decimal_bound Integer) then Some (literal Integer (pos n) (digits == 1))
    else if nat_lt n (decimal_bound Long) then Some (literal Long (pos n) (digits == 1)) else None

abbrev pub bits_literal : Option IntegerType → ℕ → Option IntegerLiteral
bits_literal (Some t) n = if nat_lt n (bits_bound t) then Some (literal t (bits_value t n) false) else None
bits_literal None n =
    if nat_lt n (bits_bound Integer) then Some (literal Integer (bits_value Integer n) false)
    else if nat_lt n (bits_bound Long) then Some (literal Long (bits_value Long n) false) else None

-- the literal of so many digits, whose number is n
unfoldable pub literal_of : Base → Option IntegerType → ℕ → ℕ → Option IntegerLiteral
literal_of Decimal t digits n = decimal_literal t digits n
literal_of Hexadecimal t digits n = bits_literal t n
literal_of Octal t digits n = bits_literal t n

abbrev pub integer_or_fault : Option IntegerLiteral → ℕ → List Character → Found
integer_or_fault None n text = fault broken.NumberLiteral text
integer_or_fault (Some l) n text = found (piece.Integer l) n

-- n digits of the base stand behind the mark of the base, and behind them the suffix
unfoldable pub number_of : Base → ℕ → ℕ → Option (List ℕ × IntegerType) → List Character → Found
number_of base mark n suffix text =
    if n == 0 then fault broken.NumberLiteral text
    else integer_or_fault (literal_of base (suffix_type suffix) n (value_from (base_number base) 0 (take n (drop mark text)))) (mark + n + suffix_len suffix) text

abbrev pub digits_len : Base → ℕ → List Character → ℕ
digits_len base mark text = run_len (is_digit base) (drop mark text)

abbrev pub number_at : Base → ℕ → List Character → Found
number_at base mark text =
    number_of base mark (digits_len base mark text) (suffix_in suffixes (drop (mark + digits_len base mark text) text)) text

-- SYMBOLS (2.5 and 2.6)

-- the first symbol of a list that stands at the front
abbrev pub symbol_in : List Symbol → List Character → Option Symbol
symbol_in [] text = None
symbol_in (s ∷ ss) text = if starts (symbol_text s) text then Some s else symbol_in ss text

abbrev pub symbol_or_fault : Option Symbol → List Character → Found
symbol_or_fault None text = fault broken.UnknownCharacter text
symbol_or_fault (Some s) text = found (piece.Symbol s) (length (symbol_text s))

abbrev pub symbol_at : List Character → Found
symbol_at text = symbol_or_fault (symbol_in symbols text) text

-- &H and &O begin a number, every other & an operator
unfoldable pub ampersand_at : List Character → Found
ampersand_at text =
    if starts (codes "&h") text then number_at Hexadecimal 2 text
    else if starts (codes "&o") text then number_at Octal 2 text
    else symbol_at text

-- STRING AND CHARACTER LITERALS (2.4.4 and 2.4.5)

abbrev pub plus_some : ℕ → Option ℕ → Option ℕ
plus_some n None = None
plus_some n (Some m) = Some (n + m)

-- how many characters stand before the quote that ends a literal, in which quotes are doubled; none where its line ends before
unfoldable pub content_len : List Character → Option ℕ
content_len [] = None
content_len (c ∷ []) = if is_char c 34 then Some 0 else None
content_len (c ∷ d ∷ cs) =
    if is_line_end c then None
    else if is_char c 34 then (if is_char d 34 then plus_some 2 (content_len cs) else Some 0)
    else plus_some 1 (content_len (d ∷ cs))

-- the UTF-16 units of the content, each doubled quote as one
unfoldable pub units_of : List Character → List ℕ
units_of [] = []
units_of (None ∷ cs) = units_of cs
units_of (Some c ∷ []) = encode_utf16 c
units_of (Some c ∷ d ∷ cs) = if c == 34 then 34 ∷ units_of cs else encode_utf16 c ++ units_of (d ∷ cs)

-- a character literal of m characters with these units; bytes that are no UTF-8 have none, and are told where there are no several
unfoldable pub char_literal : ℕ → List ℕ → List Character → Found
char_literal m units text =
    if nat_lt 1 (length units) then fault broken.TextLiteral text
    else if not (is_readable (take m (drop 1 text))) then fault broken.NotUtf8 text
    else if length units == 1 then found (piece.Char (slice_index units 0)) (m + 3) else fault broken.TextLiteral text

-- a string literal of m characters with these units; bytes that are no UTF-8 are told where it isn't too long
unfoldable pub text_literal : ℕ → List ℕ → List Character → Found
text_literal m units text =
    if nat_lt most_units (length units) then fault broken.TextLiteral text
    else if not (is_readable (take m (drop 1 text))) then fault broken.NotUtf8 text
    else found piece.Text (m + 2)

-- a literal whose content is m characters with these units
abbrev pub quoted_of : ℕ → List ℕ → List Character → Found
quoted_of m units text = if starts (codes "c") (drop (m + 2) text) then char_literal m units text else text_literal m units text

abbrev pub quoted_or_fault : Option ℕ → List Character → Found
quoted_or_fault None text = fault broken.TextLiteral text
quoted_or_fault (Some m) text = quoted_of m (units_of (take m (drop 1 text))) text

abbrev pub quoted_at : List Character → Found
quoted_at text = quoted_or_fault (content_len (drop 1 text)) text
