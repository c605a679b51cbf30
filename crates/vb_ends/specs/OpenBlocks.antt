-- The blocks that are open behind the marks of a file, as a list. The marks are listed from its end.
use Rattle.std.specs.Prelude.{ℕ, Bool, true, false, if◌then◌else◌, List, [], ◌∷◌, length, Option, Some, None}
use Rattle.vb_ends.specs.{declared.role.{Sort.Sort, Role.Role, Mark.Mark}, Counts.same_sort, Enders.{Block, block, is_statement}}
use Rattle.vb_ends.specs.declared.role.Sort.TheVariants as sort
use Rattle.vb_ends.specs.declared.role.Role.TheVariants as role

-- Of these, the innermost first, the blocks round the one that an ender of the sort closes. The ender of a statement closes the
-- innermost block alone, each other ender the innermost of its sort.
abbrev pub around : Sort → List Block → Option (List Block)
around s [] = None
around s (b ∷ bs) = if same_sort b.sort s then Some bs else if is_statement s then None else around s bs

abbrev pub or_all : Option (List Block) → List Block → List Block
or_all None all = all
or_all (Some bs) all = bs

-- where these are open, those that are open behind one mark more
abbrev pub open_behind : Role → ℕ → ℕ → List Block → List Block
open_behind (role.Opens s) place line bs = block place s line ∷ bs
open_behind (role.Ends s) place line bs = or_all (around s bs) bs
open_behind role.Stays place line bs = bs

-- the blocks that are open at the end of the marks, the innermost first
abbrev pub open_blocks : List Mark → List Block
open_blocks [] = []
open_blocks (m ∷ before) = open_behind m.role (length before) m.line (open_blocks before)

abbrev pub innermost_is : Sort → List Block → Bool
innermost_is s [] = false
innermost_is s (b ∷ bs) = same_sort b.sort s

-- What stands behind these marks stands directly in an interface: that is the innermost block that is open.
abbrev pub in_interface : List Mark → Bool
in_interface marks = innermost_is sort.Interface (open_blocks marks)
