-- How a text falls into pieces, from its front to its end.
use Rattle.std.specs.Prelude.{◌≡◌, ℕ, ◌+◌, ◌<◌, Bool, true, false, ◌&&◌, ◌||◌, if◌then◌else◌, List, [], ◌∷◌, ◌++◌, length, take, drop, Option, Some, None, codes, bytes_eq}
use Rattle.vb_syntax.specs.declared.symbol.Symbol.{Symbol}
use Rattle.vb_syntax.specs.declared.symbol.Symbol.TheVariants as sign
use Rattle.vb_lexer.specs.{declared.{piece.{Piece.Piece, Found.Found, Before.Before, Base.TheVariants.Decimal}, characters.Class.Class}, Characters.{Character, is_char, is_line_end, is_space, is_remark, class_of, run_len}, Tokens.{char_at, found, fault, name_len, lowered, is_rem, word_at, connected_at, bracketed_at, number_at, symbol_at, ampersand_at, quoted_at, content_len}}
use Rattle.vb_lexer.specs.declared.piece.Piece.TheVariants as piece
use Rattle.vb_lexer.specs.declared.piece.Fault.TheVariants as broken
use Rattle.vb_lexer.specs.declared.characters.Class.TheVariants as class

-- GAPS (Visual Basic Language Specification 11.0, 2.1)

-- how many characters the line end at the front has; CR LF is one line end
abbrev pub line_end_len : List Character → ℕ
line_end_len [] = 0
line_end_len (c ∷ cs) = if is_line_end c then (if is_char c 13 && is_char (char_at cs 0) 10 then 2 else 1) else 0

-- the line ends here, or the text
abbrev pub ends_line : List Character → Bool
ends_line [] = true
ends_line (c ∷ cs) = is_line_end c

-- white space, an underscore, n characters of white space and the end of the line go on with the line
unfoldable pub space_of : ℕ → List Character → Found
space_of n text =
    if is_char (char_at text 1) 95 && ends_line (drop (n + 2) text) then found piece.Continuation (n + 2 + line_end_len (drop (n + 2) text))
    else found piece.Space 1

abbrev pub space_at : List Character → Found
space_at text = space_of (run_len is_space (drop 2 text)) text

-- REGION LINES (3.2); the piece is the whole line but its end

-- nothing but white space and a comment stands in the rest of the line
abbrev pub is_rest : List Character → Bool
is_rest text = ends_line text || is_char (char_at text 0) 39 || is_rem (take (name_len text) text)

abbrev pub behind_space : List Character → List Character
behind_space text = drop (run_len is_space text) text

-- the whole word stands at the front
abbrev pub is_word_at : List ℕ → List Character → Bool
is_word_at word text = bytes_eq (lowered (take (name_len text) text)) word

abbrev pub region_start : Piece → ℕ → List Character → Found
region_start piece.Text n text = found piece.RegionStart n
region_start (piece.Fault broken.NotUtf8) n text = fault broken.NotUtf8 text
region_start _ n text = fault broken.NumberSign text

-- a string literal whose content is m characters begins behind n characters of a region line
abbrev pub region_named : Option ℕ → ℕ → List Character → Found
region_named None n text = fault broken.NumberSign text
region_named (Some m) n text =
    if is_rest (behind_space (drop (n + m + 2) text)) then region_start (quoted_at (drop n text)).piece (n + m + 2 + run_len is_remark (drop (n + m + 2) text)) text else fault broken.NumberSign text

-- #Region and a string literal; n counts the white space between them
unfoldable pub region_start_of : ℕ → List Character → Found
region_start_of n text =
    if is_char (char_at text (n + 7)) 34 then region_named (content_len (drop (n + 8) text)) (n + 7) text else fault broken.NumberSign text

-- #End and Region; n counts the white space between them
unfoldable pub region_end_of : ℕ → List Character → Found
region_end_of n text =
    if is_word_at (codes "region") (drop (n + 4) text) && is_rest (behind_space (drop (n + 10) text)) then found piece.RegionEnd (n + 10 + run_len is_remark (drop (n + 10) text)) else fault broken.NumberSign text

abbrev pub region_at : List Character → Found
region_at text =
    if is_word_at (codes "region") (drop 1 text) then region_start_of (run_len is_space (drop 7 text)) text
    else if is_word_at (codes "end") (drop 1 text) then region_end_of (run_len is_space (drop 4 text)) text
    else fault broken.NumberSign text

-- PIECES

-- the piece that begins with a character of this class
unfoldable pub piece_of : Class → Before → List Character → Found
piece_of class.Unreadable before text = fault broken.NotUtf8 text
piece_of class.LineEnd before text = found piece.LineEnd (line_end_len text)
piece_of class.Space before text = space_at text
piece_of class.Letter before text = word_at before.dot text
piece_of class.Connector before text = connected_at text
piece_of class.Digit before text = number_at Decimal 0 text
piece_of class.Quote before text = quoted_at text
piece_of class.Apostrophe before text = found piece.Comment (run_len is_remark text)
piece_of class.Bracket before text = bracketed_at text
piece_of class.NumberSign before text = if before.line_front then region_at text else fault broken.NumberSign text
piece_of class.Ampersand before text = ampersand_at text
piece_of class.Other before text = symbol_at text

abbrev pub piece_at : Before → List Character → Found
piece_at before text = piece_of (class_of (char_at text 0)) before text

abbrev pub before : Bool → Bool → Before
before front dot = record { line_front = front; dot = dot }

abbrev pub is_dot : Symbol → Bool
is_dot sign.Dot = true
is_dot s = false

-- what stands before the place behind a piece
abbrev pub behind : Before → Piece → Before
behind b piece.Name = before false false
behind b piece.EscapedName = before false false
behind b (piece.Keyword k) = before false false
behind b (piece.Integer l) = before false false
behind b piece.Text = before false false
behind b (piece.Char u) = before false false
behind b (piece.Symbol s) = before false (is_dot s)
behind b piece.Space = b
behind b piece.Comment = before false b.dot
behind b piece.Continuation = before false b.dot
behind b piece.LineEnd = before true b.dot
behind b piece.RegionStart = before false b.dot
behind b piece.RegionEnd = before false b.dot
behind b (piece.Fault r) = before false false

-- A piece with its characters.
pub record Part : Type 0 where
  pub piece : Piece
  pub characters : List Character

-- The text is these pieces, one after another.
abbrev pub Falls : Before → List Character → List Part → Type 0
Falls b text [] = text ≡ []
Falls b text (p ∷ ps) =
    (0 < length text) × (p.piece ≡ (piece_at b text).piece) × (p.characters ≡ take (piece_at b text).length text)
    × Falls (behind b p.piece) (drop (piece_at b text).length text) ps

-- the characters of the pieces, one after another
abbrev pub spelled : List Part → List Character
spelled [] = []
spelled (p ∷ ps) = p.characters ++ spelled ps

-- the front of a file
abbrev pub file_front : Before
file_front = before true false
