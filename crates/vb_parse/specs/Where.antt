-- In which lines rows of a kind stand.
use Rattle.std.specs.Prelude.{◌≡◌, ◌⊎◌, ℕ, List, [], ◌∷◌}
use Rattle.vb_syntax.specs.declared.item.Row.{Row}

-- a row of this kind stands in the line
abbrev pub HasRow : (Row → Type 0) → List Row → ℕ → Type 0
HasRow Is [] line = ⊥
HasRow Is (r ∷ rs) line = ((line ≡ r.line) × Is r) ⊎ HasRow Is rs line
