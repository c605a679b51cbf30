-- How far a line was read: private definitions, for the clauses of the code's own functions.
use Rattle.std.specs.Prelude.{◌≡◌, ℕ, List, [], ◌∷◌, ◌++◌, Option}
use Rattle.vb_syntax.specs.declared.{tokens.Token.Token, item.{Item.Item, Joint.Joint, Row.Row}}
use Rattle.vb_syntax.specs.declared.item.Joint.TheVariants as joint
use Rattle.vb_rows.specs.declared.pieces.Before.TheVariants as before
use Rattle.vb_rows.specs.{declared.lines.LineReader.LineReader, Pieces.{cut, kept}, Rows.{context_behind, items_behind, Spells, ArePieceRows}, Tracking.Tracks}

-- The reader has read these items.
abbrev pub HasRead : LineReader → List (Option Item) → Type 0
HasRead reader items = Tracks reader.blocks items

-- a row of the tokens was added
pub record IsRowAdded (earlier now : LineReader) (number : ℕ) (ts : List Token) (behind : Joint) (rows grown : List Row) : Type 0 where
  pub row : Row
  pub grows : grown ≡ rows ++ row ∷ []
  pub line : row.line ≡ number
  pub stands : row.behind ≡ behind
  pub words : now.words ≡ earlier.words
  pub spells : (items : List (Option Item)) → HasRead earlier items → Spells (context_behind earlier.words items) ts row.item
  pub read : (items : List (Option Item)) → HasRead earlier items → HasRead now (row.item ∷ items)

-- the rows of the pieces were added, behind these items
pub record AreAddedBehind (earlier now : LineReader) (number : ℕ) (ts : List Token) (rows grown : List Row) (items : List (Option Item)) : Type 0 where
  pub parts : List Row
  pub grows : grown ≡ rows ++ parts
  pub are : ArePieceRows earlier.words number items (kept joint.End (cut before.Front ts)) parts
  pub read : HasRead now (items_behind items parts)

-- the rows of the pieces of the tokens were added
pub record ArePiecesAdded (earlier now : LineReader) (number : ℕ) (ts : List Token) (rows grown : List Row) : Type 0 where
  pub words : now.words ≡ earlier.words
  pub added : (items : List (Option Item)) → HasRead earlier items → AreAddedBehind earlier now number ts rows grown items
