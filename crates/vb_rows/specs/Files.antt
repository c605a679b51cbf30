-- The rows of a file, how deep each nests in its line, and which lines of the file aren't of the grammar (Visual Basic Language
-- Specification 11.0, 1.1 and 10.1).
use Rattle.std.specs.Prelude.{◌≡◌, ◌⊎◌, ℕ, ◌+◌, ◌-◌, max, Bool, true, false, ◌&&◌, not, List, [], ◌∷◌, ◌++◌, length, take, drop, Option, Some, None}
use Rattle.vb_diag.specs.{declared.refusal.Refusal.Refusal, Broken.{InFile, IsLeast}}
use Rattle.vb_text.specs.declared.names.Name.{Name}
use Rattle.vb_syntax.specs.declared.symbol.Symbol.TheVariants as sign
use Rattle.vb_syntax.specs.declared.{tokens.{Token.Token, Line.Line}, item.{Item.Item, Joint.Joint, Row.Row}, words.ContextualWords.ContextualWords}
use Rattle.vb_syntax.specs.declared.tokens.Token.TheVariants as token
use Rattle.vb_syntax.specs.declared.item.Joint.TheVariants as joint
use Rattle.vb_parse_expr.specs.Fronts.{line_rule}
use Rattle.vb_rows.specs.{Pieces.{Piece, is_colon, label_of, pieces_of}, Rows.{items_behind, label_rows, AreLineRows, are_in_place}}

-- ROWS

-- The rows are those of the lines, behind these items.
abbrev pub AreRowsOf : ContextualWords → List (Option Item) → List Line → List Row → Type 0
AreRowsOf words before [] rows = rows ≡ []
AreRowsOf words before (l ∷ ls) rows =
    (here later : List Row) × (rows ≡ here ++ later) × AreLineRows words before l here × AreRowsOf words (items_behind before here) ls later

-- how many rows a line has: one for each piece, and one for its label
abbrev pub row_count : Line → ℕ
row_count l = length (label_rows l.number (label_of l.tokens)) + length (pieces_of l.tokens)

-- NESTING (1.1 and 10.8.1)

-- how many brackets, round or curly, are open behind a token
abbrev pub open_behind : ℕ → Token → ℕ
open_behind open_ (token.Symbol sign.OpenParenthesis) = open_ + 1
open_behind open_ (token.Symbol sign.OpenBrace) = open_ + 1
open_behind open_ (token.Symbol sign.CloseParenthesis) = open_ - 1
open_behind open_ (token.Symbol sign.CloseBrace) = open_ - 1
open_behind open_ t = open_

-- the greatest number that is open behind one of the tokens
abbrev pub deepest : ℕ → List Token → ℕ
deepest open_ [] = 0
deepest open_ (t ∷ ts) = let now = open_behind open_ t in max now (deepest now ts)

-- how many `If`s on one line are open behind a piece: its `Then`, with a token other than a colon directly behind it, opens one
abbrev pub ifs_behind : ℕ → Joint → ℕ
ifs_behind ifs joint.Then = ifs + 1
ifs_behind ifs j = ifs

-- how deep each piece nests: so many `If`s on one line are open before it, and in it brackets
abbrev pub piece_depths : ℕ → List Piece → List ℕ
piece_depths ifs [] = []
piece_depths ifs (p ∷ ps) = (ifs + deepest 0 p.tokens) ∷ piece_depths (ifs_behind ifs p.behind) ps

-- a label doesn't nest
abbrev pub label_depths : Option Name → List ℕ
label_depths None = []
label_depths (Some n) = 0 ∷ []

-- how deep each row of a line nests
abbrev pub line_depths : Line → List ℕ
line_depths l = label_depths (label_of l.tokens) ++ piece_depths 0 (pieces_of l.tokens)

-- how deep each row of the lines nests in its line
abbrev pub depths_of : List Line → List ℕ
depths_of [] = []
depths_of (l ∷ ls) = line_depths l ++ depths_of ls

-- THE RULE (1.1)

abbrev pub begins_colon : List Token → Bool
begins_colon [] = false
begins_colon (t ∷ ts) = is_colon t

-- A line is of the grammar where its rows are in place; the first line of a file begins with no colon besides.
abbrev pub is_of_grammar : Bool → Line → List Row → Bool
is_of_grammar first l rows = are_in_place joint.End 0 rows && not (first && begins_colon l.tokens)

-- Among the lines with these rows, of which the first may be the first of the file, this one isn't of the grammar.
abbrev pub BreaksGrammar : Bool → List Line → List Row → Line → Type 0
BreaksGrammar first [] rows broken = ⊥
BreaksGrammar first (l ∷ ls) rows broken =
    ((l ≡ broken) × (is_of_grammar first l (take (row_count l) rows) ≡ false)) ⊎ BreaksGrammar false ls (drop (row_count l) rows) broken

-- a line isn't of the grammar, and these are its number and its rule
abbrev pub BreaksGrammarRule : List Line → List Row → ℕ → ℕ → Type 0
BreaksGrammarRule lines rows line rule = (l : Line) × BreaksGrammar true lines rows l × (line ≡ l.number) × (rule ≡ line_rule l.tokens)

-- the refusal of a file with these lines and rows, if it has one
abbrev pub IsLeastRefusal : ℕ → List Line → List Row → Option Refusal → Type 0
IsLeastRefusal file lines rows refusal = IsLeast (InFile file (BreaksGrammarRule lines rows)) refusal
