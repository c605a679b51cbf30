-- What a reader of pieces holds of the items that it has read.
use Rattle.std.specs.Prelude.{◌≡◌, ℕ, Bool, true, false, ◌&&◌, nat_lt, if◌then◌else◌, List, [], ◌∷◌, ◌++◌, length, Option, Some, None}
use Rattle.vb_diag.specs.{declared.refusal.Refusal.Refusal, Broken.{IsLeast, InFile, lesser, broken_at}}
use Rattle.vb_syntax.specs.declared.tokens.{Token.Token, Line.Line}
use Rattle.vb_lexer.specs.{declared.{piece.{Piece.Piece, Fault.{Fault, TheVariants.LongLine}}, reader.Reader.Reader}, Characters.Character, Pieces.Part, Lines.{Item, item, is_item, is_fault, goes_on, joined, grouped, AreTokens, AreLines, SomeLineBreaks, most_tokens, fault_rule}}

-- each item and the next are joined
abbrev pub Chain : Item → List Item → Type 0
Chain a [] = Unit {0}
Chain a (b ∷ bs) = (joined a b ≡ true) × Chain b bs

abbrev pub last_of : Item → List Item → Item
last_of a [] = a
last_of a (b ∷ bs) = last_of b bs

-- the items are the logical line at hand
abbrev pub IsHand : Reader → List Item → Type 0
IsHand r [] = Unit {0}
IsHand r (a ∷ hs) = Chain a hs × (r.start ≡ a.line) × (goes_on (last_of a hs).part.piece ≡ r.goes_on) × (is_fault (last_of a hs).part.piece ≡ false)

-- The items that were read: logical lines that are whole, and the one at hand.
pub record Reads (table : List (List ℕ)) (r : Reader) (items : List Item) : Type 0 where
  pub whole : List (List Item)
  pub hand : List Item
  pub groups : (more : List Item) → grouped (items ++ more) ≡ whole ++ grouped (hand ++ more)
  pub is_hand : IsHand r hand
  pub tokens : AreTokens table hand r.tokens
  pub lines : r.least ≡ None → AreLines table r.file whole r.lines
  pub least : IsLeast (InFile r.file (SomeLineBreaks whole)) r.least

-- the least of the broken rules, where a line breaks one more
abbrev pub with_broken : Option Refusal → ℕ → ℕ → Fault → Option Refusal
with_broken least file line fault = lesser least (broken_at file (fault_rule fault) (Some line))

-- the line of the tokens at hand, if it is one
abbrev pub closed_line : ℕ → ℕ → List Token → List Line
closed_line file start [] = []
closed_line file start (t ∷ ts) = if nat_lt most_tokens (length (t ∷ ts)) then [] else record { file = file; number = start; tokens = t ∷ ts } ∷ []

abbrev pub closed_least : Option Refusal → ℕ → ℕ → List Token → Option Refusal
closed_least least file start ts = if nat_lt most_tokens (length ts) then with_broken least file start LongLine else least

-- a line ends before an item
abbrev pub parts_lines : Reader → Bool → Bool
parts_lines r closes = r.breaks && (if r.goes_on then false else true) && (if closes then false else true)

abbrev pub part : Piece → List Character → Part
part p cs = record { piece = p; characters = cs }

-- the item of a piece, if it is one
abbrev pub items_here : ℕ → Bool → Part → List Item
items_here line breaks p = if is_item p.piece then item p line breaks ∷ [] else []
