-- The productions of a logical line, over its items and what stands behind each (Visual Basic Language Specification 11.0, 1.1 and
-- 10.8.1). No reader is known here.
use Rattle.std.specs.Prelude.{◌≡◌, ℕ, true, List, [], ◌∷◌, ◌++◌, Option, Some}
use Rattle.vb_syntax.specs.{declared.{tokens.Line.Line, item.{Joint.Joint, Item.Item, Row.Row}, words.ContextualWords.ContextualWords}, Items.is_simple}
use Rattle.vb_syntax.specs.declared.item.Joint.TheVariants as joint
use Rattle.vb_rows.specs.Rows.{is_if, AreLineRows, are_in_place}

-- the row of an item, in this line and before this
abbrev pub row : ℕ → Item → Joint → Row
row number x j = record { line = number; item = Some x; behind = j }

-- Statements of an `If` on one line, before this joint: one without a block, such a one and further ones behind a colon, or an `If`
-- on one line, which takes all that it can: so without an `Else` it doesn't stand before one.
pub data AreStatements : Joint → List Row → Type 0 where
  last : {j : Joint} (number : ℕ) (x : Item) → is_simple x ≡ true → AreStatements j (row number x j ∷ [])
  further : {j : Joint} {rows : List Row} (number : ℕ) (x : Item) → is_simple x ≡ true → AreStatements j rows → AreStatements j (row number x joint.Colon ∷ rows)
  line_if : {rows : List Row} (number : ℕ) (x : Item) → is_if x ≡ true → AreStatements joint.End rows → AreStatements joint.End (row number x joint.Then ∷ rows)
  line_if_else : {j : Joint} {rows others : List Row} (number : ℕ) (x : Item) → is_if x ≡ true → AreStatements joint.Else rows → AreStatements j others
      → AreStatements j (row number x joint.Then ∷ (rows ++ others))

-- One part of a line: an item, or an `If` on one line with its statements, and with those behind its `Else` if it has one.
pub data IsPart : List Row → Type 0 where
  item : (number : ℕ) (x : Item) → IsPart (row number x joint.End ∷ [])
  line_if : {rows : List Row} (number : ℕ) (x : Item) → is_if x ≡ true → AreStatements joint.End rows → IsPart (row number x joint.Then ∷ rows)
  line_if_else : {rows others : List Row} (number : ℕ) (x : Item) → is_if x ≡ true → AreStatements joint.Else rows → AreStatements joint.End others
      → IsPart (row number x joint.Then ∷ (rows ++ others))

-- A line is parts, one behind the other; its label, which stands first, is one of them.
pub data IsLine : List Row → Type 0 where
  nothing : IsLine []
  part : {rows others : List Row} → IsPart rows → IsLine others → IsLine (rows ++ others)

-- The rows of a line are in place exactly where they are a line by the productions.
abbrev pub InPlaceAsProduced : ContextualWords → List (Option Item) → Line → List Row → Type 0
InPlaceAsProduced words before line rows =
    AreLineRows words before line rows → ((are_in_place joint.End 0 rows ≡ true) → IsLine rows) × (IsLine rows → (are_in_place joint.End 0 rows ≡ true))
