-- Which rows stand too deep in blocks and brackets. The rows of a file are listed from its end, and each row's brackets beside it:
-- the greatest number of them that are open at one of its tokens.
use Rattle.std.specs.Prelude.{◌≡◌, ◌⊎◌, ℕ, ◌+◌, ◌<◌, List, [], ◌∷◌, length}
use Rattle.vb_syntax.specs.declared.item.Row.{Row}
use Rattle.vb_ends.specs.{declared.role.Mark.Mark, Enders.{Block, AreOpen}, Roles.marks_of}

-- So many blocks are open behind these marks.
pub record AreSoMany (marks : List Mark) (n : ℕ) : Type 0 where
  pub blocks : List Block
  pub are_open : AreOpen blocks marks
  pub counted : length blocks ≡ n

-- where these rows stand before it, the open blocks and the row's brackets are more than 100 together; a row is inside the block
-- that it ends
abbrev pub IsDeep : List Row → Row → ℕ → Type 0
IsDeep before r brackets = (n : ℕ) × AreSoMany (marks_of r.item before) n × (100 < n + brackets)

-- a row of the line is too deep
abbrev pub IsTooDeep : List Row → List ℕ → ℕ → Type 0
IsTooDeep [] bs line = ⊥
IsTooDeep (r ∷ before) [] line = ⊥
IsTooDeep (r ∷ before) (b ∷ bs) line = ((line ≡ r.line) × IsDeep before r b) ⊎ IsTooDeep before bs line
