-- What the rows of a file can't break where they are a tree (Visual Basic Language Specification 11.0, 1.1, 6, 7, 9 and 10).
use Rattle.std.specs.Prelude.{◌≡◌, ℕ, List, [], ◌∷◌, reverse, None}
use Rattle.vb_syntax.specs.declared.item.Row.{Row}
use Rattle.vb_ends.specs.{Enders.BreaksBackwards, Roles.marks_of}
use Rattle.vb_blocks.specs.Trees.{IsMisplaced}

-- each row stands where a file of the grammar goes on with it
abbrev pub ArePlaced : List Row → Type 0
ArePlaced rows = (line : ℕ) → IsMisplaced rows line → ⊥

-- each block has an end, and each end a block
abbrev pub HaveEnds : List Row → Type 0
HaveEnds rows = (line : ℕ) → BreaksBackwards (marks_of None (reverse rows)) line → ⊥

-- each row has an item
abbrev pub HaveItems : List Row → Type 0
HaveItems [] = Unit {0}
HaveItems (r ∷ rs) = (r.item ≡ None → ⊥) × HaveItems rs
