-- Which rows stand on a logical line, and which of them are of the grammar (Visual Basic Language Specification 11.0, 1.1, 10.1 and
-- 10.8.1).
use Rattle.std.specs.Prelude.{◌≡◌, ℕ, ◌+◌, ◌-◌, nat_lt, Bool, true, false, ◌&&◌, ◌||◌, not, if◌then◌else◌, List, [], ◌∷◌, ◌++◌, reverse, slice_index_or, Option, Some, None}
use Rattle.vb_text.specs.declared.names.Name.{Name}
use Rattle.vb_syntax.specs.{declared.{tokens.{Token.Token, Line.Line}, item.{Joint.Joint, Item.Item, Row.Row}, words.{Context.Context, ContextualWords.ContextualWords}}, Items.{is_simple, is_end}}
use Rattle.vb_syntax.specs.declared.declaration.FunctionKind.TheVariants as function
use Rattle.vb_syntax.specs.declared.item.DeclarationLine.TheVariants as line
use Rattle.vb_syntax.specs.declared.item.Joint.TheVariants as joint
use Rattle.vb_syntax.specs.declared.item.Item.TheVariants as item
use Rattle.vb_ends.specs.{Enders.{Block, is_statement}, Roles.marks_of, OpenBlocks.open_blocks}
use Rattle.vb_parse_stmt.specs.Items.{IsItem}
use Rattle.vb_rows.specs.Pieces.{Piece, label_of, pieces_of}

-- THE BODY OF AN ITERATOR (10.15)

-- The row of an item that is taken to stand alone. An `If` on one line and what may stand in it are statements, which tell nothing here; with
-- the header or the end of a procedure in it the line is refused, whatever is read behind.
abbrev pub alone : Option Item → Row
alone i = record { line = 0; item = i; behind = joint.End }

abbrev pub all_alone : List (Option Item) → List Row
all_alone [] = []
all_alone (i ∷ before) = alone i ∷ all_alone before

-- the blocks that are open behind the items, the innermost first (7, 9 and 10); the items are listed from the end
abbrev pub blocks_behind : List (Option Item) → List Block
blocks_behind before = open_blocks (marks_of None (all_alone before))

-- the header of an iterator
abbrev pub is_iterator : Option Item → Bool
is_iterator (Some (item.Declares (line.Function ms function.Iterator s t is))) = true
is_iterator i = false

-- Of these blocks, which the items open, the innermost that is no statement is an iterator.
abbrev pub is_in_iterator : List (Option Item) → List Block → Bool
is_in_iterator before [] = false
is_in_iterator before (b ∷ bs) = if is_statement b.sort then is_in_iterator before bs else is_iterator (slice_index_or (reverse before) b.place None)

-- `Yield` is a word in the body of an iterator: behind these items, the innermost open block that is no statement is one.
abbrev pub in_iterator : List (Option Item) → Bool
in_iterator before = is_in_iterator before (blocks_behind before)

-- the items behind which a further one stands, from the end: these, and then those of rows
abbrev pub items_behind : List (Option Item) → List Row → List (Option Item)
items_behind before [] = before
items_behind before (r ∷ rs) = items_behind (r.item ∷ before) rs

-- ITEMS (1.1)

-- what is read behind these items
abbrev pub context_behind : ContextualWords → List (Option Item) → Context
context_behind words before = record { words = words; in_iterator = in_iterator before }

-- the tokens spell the item, or none where there is none
abbrev pub Spells : Context → List Token → Option Item → Type 0
Spells c ts (Some x) = IsItem c ts x
Spells c ts None = (x : Item) → IsItem c ts x → ⊥

-- Each piece is one row, in the line of this number and behind these items. A colon is kept as it stands.
abbrev pub ArePieceRows : ContextualWords → ℕ → List (Option Item) → List Piece → List Row → Type 0
ArePieceRows words number before [] [] = Unit {0}
ArePieceRows words number before [] (r ∷ rs) = ⊥
ArePieceRows words number before (p ∷ ps) [] = ⊥
ArePieceRows words number before (p ∷ ps) (r ∷ rs) =
    (r.line ≡ number) × (r.behind ≡ p.behind) × Spells (context_behind words before) p.tokens r.item × ArePieceRows words number (r.item ∷ before) ps rs

-- COLONS (10.1 and 10.8.1)

abbrev pub is_if : Item → Bool
is_if (item.If x) = true
is_if x = false

-- a statement of an `If` on one line may stand there: one without a block, or another `If` on one line
abbrev pub is_statement_of_if : Joint → Option Item → Bool
is_statement_of_if j None = false
is_statement_of_if joint.Then (Some x) = is_simple x || is_if x
is_statement_of_if j (Some x) = is_simple x

abbrev pub goes_on : List Row → Bool
goes_on [] = false
goes_on (r ∷ rs) = is_statement_of_if r.behind r.item

-- Inside an `If` on one line a colon parts its statements where one more stands behind it; elsewhere it ends what stands before it.
abbrev pub joint_of : Bool → Joint → List Row → Joint
joint_of inside joint.Colon behind = if inside && goes_on behind then joint.Colon else joint.End
joint_of inside j behind = j

-- the rows with what their colons are, by whether the first stands inside an `If` on one line
abbrev pub joined : Bool → List Row → List Row
joined inside [] = []
joined inside (r ∷ rs) =
    let j = joint_of inside r.behind rs in record r { behind = j } ∷ joined (not (is_end j)) rs

-- ROWS OF A LINE

abbrev pub label_rows : ℕ → Option Name → List Row
label_rows number None = []
label_rows number (Some n) = record { line = number; item = Some (item.Label n); behind = joint.End } ∷ []

-- The rows are those of the line, behind these items. A label stands before the others.
pub record AreLineRows (words : ContextualWords) (before : List (Option Item)) (line : Line) (rows : List Row) : Type 0 where
  pub parts : List Row
  pub are : ArePieceRows words line.number (items_behind before (label_rows line.number (label_of line.tokens))) (pieces_of line.tokens) parts
  pub joined_are : rows ≡ label_rows line.number (label_of line.tokens) ++ joined false parts

-- OF THE GRAMMAR (1.1 and 10.8.1)

-- An item fits what stands round it in the line: before `Then` a test; before `Else` a statement without a block, and an `If`
-- waits for that `Else`; before a colon of an `If` on one line, and behind a part of one, a statement without a block.
abbrev pub fits : Joint → ℕ → Joint → Item → Bool
fits from waiting joint.End x = is_end from || is_simple x
fits from waiting joint.Then x = is_if x
fits from waiting joint.Else x = is_simple x && nat_lt 0 waiting
fits from waiting joint.Colon x = is_simple x

-- something of the grammar stands there, which fits
abbrev pub is_in_place : Joint → ℕ → Joint → Option Item → Bool
is_in_place from waiting behind (Some x) = fits from waiting behind x
is_in_place from waiting behind None = false

-- how many `If`s on one line wait for an `Else` behind a row
abbrev pub waiting_behind : ℕ → Joint → ℕ
waiting_behind waiting joint.End = 0
waiting_behind waiting joint.Then = waiting + 1
waiting_behind waiting joint.Else = waiting - 1
waiting_behind waiting joint.Colon = waiting

abbrev pub are_in_place : Joint → ℕ → List Row → Bool
are_in_place from waiting [] = true
are_in_place from waiting (r ∷ rs) = is_in_place from waiting r.behind r.item && are_in_place r.behind (waiting_behind waiting r.behind) rs
