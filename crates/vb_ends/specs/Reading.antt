-- What is kept of rows that were read. The rows are listed from the last.
use Rattle.std.specs.Prelude.{◌≡◌, List, [], ◌∷◌, Option, None}
use Rattle.vb_syntax.specs.declared.item.{Item.Item, Row.Row}
use Rattle.vb_ends.specs.{declared.reading.Reader.Reader, Roles.{is_fresh, marks_of}, Stack.Tracks}

-- the item of the first of the rows that stand behind, here in their order
abbrev pub next_item : List Row → Option Item
next_item [] = None
next_item (r ∷ rs) = r.item

-- The reader has read these rows, where this item stands behind the last.
pub record HasRead (reader : Reader) (next : Option Item) (rows : List Row) : Type 0 where
  pub tracks : Tracks reader.blocks (marks_of next rows)
  pub fresh : reader.is_fresh ≡ is_fresh rows
