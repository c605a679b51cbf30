-- The same with a stack.
use Rattle.std.specs.Prelude.{◌≡◌, ◌⊎◌, ℕ, ◌<◌, if◌then◌else◌, List, [], ◌∷◌, reverse, Option, Some}
use Rattle.vb_ends.specs.{declared.{role.{Sort.Sort, Role.Role, Mark.Mark}, stack.Open.Open, blocks.Blocks.Blocks}, Enders.{Block, Closes, IsOpen, IsStray, AreOpen, is_statement}, Counts.{same_sort, holds}}
use Rattle.vb_ends.specs.declared.role.Role.TheVariants as role
use Rattle.vb_diag.specs.Broken.{IsLeastLine, lesser_line}

-- the blocks that are open, the innermost first, and the least line so far
abbrev pub State : Type 0
State = List Open × Option ℕ

-- the code has the innermost block last
abbrev pub state_of : Blocks → State
state_of blocks = (reverse blocks.stack, blocks.first)

-- behind the ender of a statement
unfoldable pub ended_statement : Sort → ℕ → List Open → Option ℕ → State
ended_statement s line [] first = ([], lesser_line first (Some line))
ended_statement s line (o ∷ os) first = if same_sort o.sort s then (os, first) else (o ∷ os, lesser_line first (Some line))

-- without the innermost block of the sort and those inside it, which have no end
unfoldable pub passed : Sort → List Open → Option ℕ → State
passed s [] first = ([], first)
passed s (o ∷ os) first = if same_sort o.sort s then (os, first) else passed s os (lesser_line first (Some o.line))

-- behind another ender
unfoldable pub ended_other : Sort → ℕ → List Open → Option ℕ → State
ended_other s line stack first = if holds s stack then passed s stack first else (stack, lesser_line first (Some line))

-- behind a mark of the role
unfoldable pub stepped : Role → ℕ → State → State
stepped (role.Opens s) line st = (record { sort = s; line = line } ∷ st.0, st.1)
stepped (role.Ends s) line st = if is_statement s then ended_statement s line st.0 st.1 else ended_other s line st.0 st.1
stepped role.Stays line st = st

-- the least line at the end, where the blocks that are open have no end
unfoldable pub left : List Open → Option ℕ → Option ℕ
left [] first = first
left (o ∷ os) first = left os (lesser_line first (Some o.line))

-- what the code keeps of blocks
abbrev pub kept : List Block → List Open
kept [] = []
kept (b ∷ bs) = record { sort = b.sort; line = b.line } ∷ kept bs

-- where these are open, an ender of the sort has no block
abbrev pub HasNoBlock : (Block → Type 0) → Sort → Type 0
HasNoBlock Open s = IsStray Open (role.Ends s)

-- where these are open, an ender of the sort closes a block round this one, which has no end
pub record IsPassed (Open : Block → Type 0) (s : Sort) (b : Block) : Type 0 where
  pub is_open : Open b
  pub around : Block
  pub closes : Closes Open s around
  pub inside : around.place < b.place

-- where these are open, a mark of the role shows that the rule is broken in a line: at the mark itself, or at an opener before it
abbrev pub MarkBreaks : (Block → Type 0) → Role → ℕ → ℕ → Type 0
MarkBreaks Open (role.Opens s) here line = ⊥
MarkBreaks Open (role.Ends s) here line = ((line ≡ here) × HasNoBlock Open s) ⊎ ((b : Block) × IsPassed Open s b × (line ≡ b.line))
MarkBreaks Open role.Stays here line = ⊥

-- one of the marks shows it
abbrev pub SomeMarkBreaks : List Mark → ℕ → Type 0
SomeMarkBreaks [] line = ⊥
SomeMarkBreaks (r ∷ before) line = MarkBreaks (IsOpen before) r.role r.line line ⊎ SomeMarkBreaks before line

-- a block is open behind the last mark
abbrev pub IsLeftOpen : List Mark → ℕ → Type 0
IsLeftOpen marks line = (b : Block) × IsOpen marks b × (line ≡ b.line)

-- The state is that behind marks.
pub record IsState (st : State) (marks : List Mark) : Type 0 where
  pub blocks : List Block
  pub are_open : AreOpen blocks marks
  pub kept_are : kept blocks ≡ st.0
  pub least : IsLeastLine (SomeMarkBreaks marks) st.1

-- The blocks are those of marks.
abbrev pub Tracks : Blocks → List Mark → Type 0
Tracks blocks marks = IsState (state_of blocks) marks
