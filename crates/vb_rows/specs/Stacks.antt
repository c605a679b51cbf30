-- What the code does with the blocks that are open: private definitions, for the clauses of the code's own functions. The innermost block
-- stands first.
use Rattle.std.specs.Prelude.{Bool, false, if◌then◌else◌, List, [], ◌∷◌}
use Rattle.vb_ends.specs.{declared.{role.{Sort.Sort, Role.Role}, stack.Open.Open}, Counts.{same_sort, holds}, Enders.is_statement}
use Rattle.vb_ends.specs.declared.role.Role.TheVariants as role
use Rattle.vb_rows.specs.declared.stack.OpenBlock.{OpenBlock}

-- the blocks, to be counted by their sorts
abbrev pub sorts_of : List OpenBlock → List Open
sorts_of [] = []
sorts_of (o ∷ os) = record { sort = o.sort; line = 0 } ∷ sorts_of os

abbrev pub innermost_iterator : List OpenBlock → Bool
innermost_iterator [] = false
innermost_iterator (o ∷ os) = o.in_iterator

abbrev pub innermost_of : Sort → List OpenBlock → Bool
innermost_of s [] = false
innermost_of s (o ∷ os) = same_sort o.sort s

-- A BLOCK MORE, AND ENDERS

-- with a block of the sort more, which is an iterator or not
abbrev pub opened : Sort → Bool → List OpenBlock → List OpenBlock
opened s iterates os = record { sort = s; in_iterator = if is_statement s then innermost_iterator os else iterates } ∷ os

-- behind the ender of a statement
unfoldable pub ended_statement : Sort → List OpenBlock → List OpenBlock
ended_statement s [] = []
ended_statement s (o ∷ os) = if same_sort o.sort s then os else o ∷ os

-- without the innermost block of the sort and those inside it
unfoldable pub passed : Sort → List OpenBlock → List OpenBlock
passed s [] = []
passed s (o ∷ os) = if same_sort o.sort s then os else passed s os

-- behind another ender
unfoldable pub ended_other : Sort → List OpenBlock → List OpenBlock
ended_other s os = if holds s (sorts_of os) then passed s os else os

-- behind an item of the role, which is an iterator's header or not
unfoldable pub stepped : Role → Bool → List OpenBlock → List OpenBlock
stepped (role.Opens s) iterates os = opened s iterates os
stepped (role.Ends s) iterates os = if is_statement s then ended_statement s os else ended_other s os
stepped role.Stays iterates os = os
