-- Marks whose blocks stand one behind or inside the other, as brackets do. Here the marks are listed from the beginning of
-- a file.
use Rattle.std.specs.Prelude.{ℕ, List, [], ◌∷◌, ◌++◌}
use Rattle.vb_ends.specs.declared.role.{Sort.Sort, Mark.Mark}
use Rattle.vb_ends.specs.declared.role.Role.TheVariants as role

abbrev pub mark_opens : Sort → ℕ → Mark
mark_opens s line = record { role = role.Opens s; line = line }

abbrev pub mark_ends : Sort → ℕ → Mark
mark_ends s line = record { role = role.Ends s; line = line }

abbrev pub mark_stays : ℕ → Mark
mark_stays line = record { role = role.Stays; line = line }

pub data AreBrackets : List Mark → Type 0 where
  nothing : AreBrackets []
  simple : {marks : List Mark} (line : ℕ) → AreBrackets marks → AreBrackets (mark_stays line ∷ marks)
  block : {inside marks : List Mark} (s : Sort) (begin_ end_ : ℕ) → AreBrackets inside → AreBrackets marks → AreBrackets (mark_opens s begin_ ∷ (inside ++ mark_ends s end_ ∷ marks))
