-- The logical lines of the pieces of a text, and the rules that it breaks.
use Rattle.std.specs.Prelude.{◌≡◌, ◌⊎◌, ℕ, ◌+◌, ◌-◌, ◌<◌, ◌≤◌, Bool, true, false, ◌||◌, not, if◌then◌else◌, List, [], ◌∷◌, ◌++◌, length, take, drop, encode_utf8_all}
use Rattle.vb_diag.specs.Broken.{OfRule}
use Rattle.vb_text.specs.Names.{IsNameOf, with_name}
use Rattle.vb_syntax.specs.declared.keyword.Keyword.TheVariants as word
use Rattle.vb_syntax.specs.declared.symbol.Symbol.TheVariants as sign
use Rattle.vb_syntax.specs.declared.tokens.{Token.Token, Line.Line}
use Rattle.vb_syntax.specs.declared.tokens.Token.TheVariants as token
use Rattle.vb_lexer.specs.{declared.piece.{Piece.Piece, Fault.Fault}, Characters.{Character, IsText, readable, is_ascii}, Tokens.units_of, Pieces.{Part, Falls, file_front}}
use Rattle.vb_lexer.specs.declared.piece.Piece.TheVariants as piece
use Rattle.vb_lexer.specs.declared.piece.Fault.TheVariants as broken

-- PHYSICAL LINES (Visual Basic Language Specification 11.0, 2.1)

-- what stands in a logical line: a token, or the place that breaks a rule; with the number of the line that would be
-- its logical line's if that began here, and whether a line end stands between it and the item before it
pub record Item : Type 0 where
  pub part : Part
  pub line : ℕ
  pub breaks : Bool

abbrev pub item : Part → ℕ → Bool → Item
item p line breaks = record { part = p; line = line; breaks = breaks }

-- the piece is a token
abbrev pub is_token : Piece → Bool
is_token piece.Name = true
is_token piece.EscapedName = true
is_token (piece.Keyword k) = true
is_token (piece.Integer l) = true
is_token piece.Text = true
is_token (piece.Char u) = true
is_token (piece.Symbol s) = true
is_token p = false

abbrev pub is_fault : Piece → Bool
is_fault (piece.Fault r) = true
is_fault p = false

-- the piece stands in a logical line
abbrev pub is_item : Piece → Bool
is_item p = is_token p || is_fault p

abbrev pub is_line_end_piece : Piece → Bool
is_line_end_piece piece.LineEnd = true
is_line_end_piece p = false

-- how many physical lines end in a piece
abbrev pub lines_in : Piece → ℕ
lines_in piece.LineEnd = 1
lines_in piece.Continuation = 1
lines_in p = 0

-- the items behind: the physical line is the n-th, a logical line that begins here has the number line
abbrev pub items_from : ℕ → ℕ → Bool → List Part → List Item
items_from n line breaks [] = []
items_from n line breaks (p ∷ ps) =
    if is_item p.piece then item p line breaks ∷ items_from n line false ps
    else if is_line_end_piece p.piece then items_from (n + 1) (n + 1) true ps
    else items_from (n + lines_in p.piece) line breaks ps

abbrev pub items_of : List Part → List Item
items_of parts = items_from 1 1 true parts

-- LOGICAL LINES

-- a line goes on behind an operator of two operands, an assignment, a comma, a dot, an opening bracket, and Of
abbrev pub goes_on : Piece → Bool
goes_on (piece.Symbol sign.CloseParenthesis) = false
goes_on (piece.Symbol sign.CloseBrace) = false
goes_on (piece.Symbol sign.Colon) = false
goes_on (piece.Symbol s) = true
goes_on (piece.Keyword word.Of) = true
goes_on (piece.Keyword word.Mod) = true
goes_on (piece.Keyword word.Is) = true
goes_on (piece.Keyword word.IsNot) = true
goes_on (piece.Keyword word.And) = true
goes_on (piece.Keyword word.AndAlso) = true
goes_on (piece.Keyword word.Or) = true
goes_on (piece.Keyword word.OrElse) = true
goes_on (piece.Keyword word.Xor) = true
goes_on p = false

-- a line goes on before a closing bracket
abbrev pub closes : Piece → Bool
closes (piece.Symbol sign.CloseParenthesis) = true
closes (piece.Symbol sign.CloseBrace) = true
closes p = false

-- one item and the next stand in one logical line
abbrev pub joined : Item → Item → Bool
joined a b = if is_fault a.part.piece then false else not b.breaks || goes_on a.part.piece || closes b.part.piece

-- one item more at the front of the first group
abbrev pub onto_first : Item → List (List Item) → List (List Item)
onto_first a [] = (a ∷ []) ∷ []
onto_first a (g ∷ gs) = (a ∷ g) ∷ gs

-- the logical lines: the longest groups of items that are joined one to the next
abbrev pub grouped : List Item → List (List Item)
grouped [] = []
grouped (a ∷ []) = (a ∷ []) ∷ []
grouped (a ∷ b ∷ rest) = if joined a b then onto_first a (grouped (b ∷ rest)) else (a ∷ []) ∷ grouped (b ∷ rest)

abbrev pub groups_of : List Part → List (List Item)
groups_of parts = grouped (items_of parts)

-- TOKENS

-- The token of a piece in a table of names. The words of the grammar are of ASCII, so a name that has another character is never
-- read as one of them, as a name between brackets isn't.
abbrev pub IsToken : List (List ℕ) → Part → Token → Type 0
IsToken table p (token.Name n) = (p.piece ≡ piece.Name) × (is_ascii p.characters ≡ true) × IsNameOf table (encode_utf8_all (readable p.characters)) n
IsToken table p (token.EscapedName n) =
    ((p.piece ≡ piece.EscapedName) × IsNameOf table (encode_utf8_all (readable (take (length p.characters - 2) (drop 1 p.characters)))) n)
    ⊎ ((p.piece ≡ piece.Name) × (is_ascii p.characters ≡ false) × IsNameOf table (encode_utf8_all (readable p.characters)) n)
IsToken table p (token.Keyword k) = p.piece ≡ piece.Keyword k
IsToken table p (token.Integer l) = p.piece ≡ piece.Integer l
IsToken table p (token.Text units) = (p.piece ≡ piece.Text) × (units ≡ units_of (take (length p.characters - 2) (drop 1 p.characters)))
IsToken table p (token.Char u) = p.piece ≡ piece.Char u
IsToken table p (token.Symbol s) = p.piece ≡ piece.Symbol s

abbrev pub AreTokens : List (List ℕ) → List Item → List Token → Type 0
AreTokens table [] [] = Unit {0}
AreTokens table [] (t ∷ ts) = ⊥
AreTokens table (i ∷ is) [] = ⊥
AreTokens table (i ∷ is) (t ∷ ts) = IsToken table i.part t × AreTokens table is ts

abbrev pub line_number : List Item → ℕ
line_number [] = 0
line_number (i ∷ is) = i.line

abbrev pub IsLine : List (List ℕ) → ℕ → List Item → Line → Type 0
IsLine table file group line = (line.file ≡ file) × (line.number ≡ line_number group) × AreTokens table group line.tokens

abbrev pub AreLines : List (List ℕ) → ℕ → List (List Item) → List Line → Type 0
AreLines table file [] [] = Unit {0}
AreLines table file [] (l ∷ ls) = ⊥
AreLines table file (g ∷ gs) [] = ⊥
AreLines table file (g ∷ gs) (l ∷ ls) = IsLine table file g l × AreLines table file gs ls

-- BROKEN RULES

abbrev pub most_tokens : ℕ
most_tokens = 4096

-- the number of the rule
abbrev pub fault_rule : Fault → ℕ
fault_rule broken.NotUtf8 = 1
fault_rule broken.UnknownCharacter = 2
fault_rule broken.TextLiteral = 3
fault_rule broken.NumberLiteral = 4
fault_rule broken.Underscore = 5
fault_rule broken.BracketedName = 6
fault_rule broken.LongLine = 7
fault_rule broken.NumberSign = 8
fault_rule broken.Region = 9
fault_rule broken.LongName = 10

-- a place in the line breaks the rule
abbrev pub HasFault : List Item → ℕ → Type 0
HasFault [] rule = ⊥
HasFault (i ∷ is) rule = ((f : Fault) × (i.part.piece ≡ piece.Fault f) × (rule ≡ fault_rule f)) ⊎ HasFault is rule

abbrev pub token_count : List Item → ℕ
token_count [] = 0
token_count (i ∷ is) = if is_fault i.part.piece then token_count is else token_count is + 1

-- a logical line breaks the rule
abbrev pub LineBreaks : List Item → ℕ → Type 0
LineBreaks group rule = HasFault group rule ⊎ ((rule ≡ 7) × (most_tokens < token_count group))

abbrev pub SomeLineBreaks : List (List Item) → ℕ → ℕ → Type 0
SomeLineBreaks [] line rule = ⊥
SomeLineBreaks (g ∷ gs) line rule = ((line_number g ≡ line) × LineBreaks g rule) ⊎ SomeLineBreaks gs line rule

-- what a piece adds to the lines that begin and end regions: the physical line, and whether it begins one
abbrev pub mark_of : ℕ → Piece → List (ℕ × Bool)
mark_of n piece.RegionStart = (n, true) ∷ []
mark_of n piece.RegionEnd = (n, false) ∷ []
mark_of n p = []

-- the lines that begin and end regions, from the n-th physical line on
abbrev pub marks_from : ℕ → List Part → List (ℕ × Bool)
marks_from n [] = []
marks_from n (p ∷ ps) = mark_of n p.piece ++ marks_from (n + lines_in p.piece) ps

abbrev pub marks_of : List Part → List (ℕ × Bool)
marks_of parts = marks_from 1 parts

-- how many of them begin a region, and how many end one
abbrev pub begun : List (ℕ × Bool) → ℕ
begun [] = 0
begun (m ∷ ms) = if m.1 then begun ms + 1 else begun ms

abbrev pub ended : List (ℕ × Bool) → ℕ
ended [] = 0
ended (m ∷ ms) = if m.1 then ended ms else ended ms + 1

-- a region begins in the line, and in no part of the text from there on do as many end as begin
pub record IsUnclosed (marks : List (ℕ × Bool)) (line : ℕ) : Type 0 where
  pub front : List (ℕ × Bool)
  pub back : List (ℕ × Bool)
  pub stands : marks ≡ front ++ ((line, true) ∷ back)
  pub stays : (part rest : List (ℕ × Bool)) → back ≡ part ++ rest → ended part ≤ begun part

-- a region ends in the line, and in no part of the text up to there do as many begin as end
pub record IsUnopened (marks : List (ℕ × Bool)) (line : ℕ) : Type 0 where
  pub front : List (ℕ × Bool)
  pub back : List (ℕ × Bool)
  pub stands : marks ≡ front ++ ((line, false) ∷ back)
  pub alone : (rest part : List (ℕ × Bool)) → front ≡ rest ++ part → begun part ≤ ended part

-- a region is open at its end, or ended that wasn't open
abbrev pub RegionBreaks : List (ℕ × Bool) → ℕ → Type 0
RegionBreaks marks line = IsUnclosed marks line ⊎ IsUnopened marks line

-- a text of these parts breaks the rule in the line
abbrev pub IsBroken : List Part → ℕ → ℕ → Type 0
IsBroken parts line rule = SomeLineBreaks (groups_of parts) line rule ⊎ OfRule 9 (RegionBreaks (marks_of parts)) line rule

-- THE NAMES OF A FILE

-- the characters between the first and the last
abbrev pub inside : List Character → List Character
inside cs = take (length cs - 2) (drop 1 cs)

-- a table with the name that a piece is, if it is one
abbrev pub with_piece : List (List ℕ) → Piece → List Character → List (List ℕ)
with_piece table piece.Name cs = with_name table (encode_utf8_all (readable cs))
with_piece table piece.EscapedName cs = with_name table (encode_utf8_all (readable (inside cs)))
with_piece table p cs = table

-- a table with the names among pieces, in their order
abbrev pub with_parts : List (List ℕ) → List Part → List (List ℕ)
with_parts table [] = table
with_parts table (p ∷ ps) = with_parts (with_piece table p.piece p.characters) ps

-- THE LINES OF A FILE

-- The bytes are a file of these logical lines, with the names of the table, and break no lexical rule.
pub record Lexed (table : List (List ℕ)) (file : ℕ) (bytes : List ℕ) (lines : List Line) : Type 0 where
  pub text : List Character
  pub decoded : IsText bytes text
  pub parts : List Part
  pub falls : Falls file_front text parts
  pub sound : (line rule : ℕ) → IsBroken parts line rule → ⊥
  pub lines_are : AreLines table file (groups_of parts) lines

-- The same, and the table is an earlier one with the names of the text, in their order.
pub record LexedFrom (earlier table : List (List ℕ)) (file : ℕ) (bytes : List ℕ) (lines : List Line) : Type 0 where
  pub lexed : Lexed table file bytes lines
  pub names : table ≡ with_parts earlier lexed.parts

-- The bytes are a file that breaks the lexical rule in the line.
pub record Breaks (bytes : List ℕ) (line : ℕ) (rule : ℕ) : Type 0 where
  pub text : List Character
  pub decoded : IsText bytes text
  pub parts : List Part
  pub falls : Falls file_front text parts
  pub broken : IsBroken parts line rule
