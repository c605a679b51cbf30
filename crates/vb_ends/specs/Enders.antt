-- Which blocks of a file are open, and where a block has no end or an end has no block. The marks of a file are listed from
-- its end: the last stands first, and behind each mark those before it.
use Rattle.std.specs.Prelude.{◌≡◌, ◌⊎◌, ℕ, ◌<◌, ◌≤◌, Bool, true, false, List, [], ◌∷◌, length, reverse}
use Rattle.vb_ends.specs.declared.role.{Sort.Sort, Role.Role, Mark.Mark}
use Rattle.vb_ends.specs.declared.role.Sort.TheVariants as sort
use Rattle.vb_ends.specs.declared.role.Role.TheVariants as role

-- BLOCKS (Visual Basic Language Specification 11.0, 7, 9 and 10)

-- a block: how many marks of its file stand before its opener, its sort, and the opener's line
pub record Block : Type 0 where
  pub place : ℕ
  pub sort : Sort
  pub line : ℕ

abbrev pub block : ℕ → Sort → ℕ → Block
block place s line = record { place = place; sort = s; line = line }

-- the blocks of this sort are statements
abbrev pub is_statement : Sort → Bool
is_statement sort.If = true
is_statement sort.While = true
is_statement sort.Do = true
is_statement sort.For = true
is_statement sort.Select = true
is_statement sort.Try = true
is_statement sort.SyncLock = true
is_statement sort.With = true
is_statement sort.Using = true
is_statement s = false

-- The ender of a statement may not pass over any open block, each other ender over none of its sort.
abbrev pub Stops : Sort → Block → Type 0
Stops s b = (is_statement s ≡ true) ⊎ (b.sort ≡ s)

-- Where these blocks are open, an ender of the sort closes this one: it is open and of the sort, and no block inside it
-- stops the ender.
pub record Closes (Open : Block → Type 0) (s : Sort) (b : Block) : Type 0 where
  pub is_open : Open b
  pub fits : b.sort ≡ s
  pub innermost : (other : Block) → Open other → Stops s other → other.place ≤ b.place

-- Where these are open, this one is open behind one mark more, of the role and in the line, with so many marks before it:
-- the mark opens it; or it was open, and if the mark closes a block, then one inside it.
abbrev pub IsOpenBehind : (Block → Type 0) → Role → ℕ → ℕ → Block → Type 0
IsOpenBehind Open (role.Opens s) place line b = (b ≡ block place s line) ⊎ Open b
IsOpenBehind Open (role.Ends s) place line b = Open b × ((closed : Block) → Closes Open s closed → b.place < closed.place)
IsOpenBehind Open role.Stays place line b = Open b

-- the block is open at the end of the marks
abbrev pub IsOpen : List Mark → Block → Type 0
IsOpen [] b = ⊥
IsOpen (r ∷ before) b = IsOpenBehind (IsOpen before) r.role (length before) r.line b

-- a block stands among these
abbrev pub IsAmong : List Block → Block → Type 0
IsAmong [] b = ⊥
IsAmong (x ∷ xs) b = (b ≡ x) ⊎ IsAmong xs b

-- the blocks stand one inside the other, the innermost first, and each before this place
abbrev pub AreNested : List Block → ℕ → Type 0
AreNested [] place = Unit {0}
AreNested (b ∷ bs) place = (b.place < place) × AreNested bs b.place

-- The blocks are those that are open behind the marks, the innermost first.
pub record AreOpen (blocks : List Block) (marks : List Mark) : Type 0 where
  pub nested : AreNested blocks (length marks)
  pub all : (b : Block) → IsOpen marks b → IsAmong blocks b
  pub none_else : (b : Block) → IsAmong blocks b → IsOpen marks b

-- OPENERS AND ENDERS

-- a mark of the role, with so many marks before it, is the block's opener
abbrev pub IsOpener : Role → ℕ → ℕ → Block → Type 0
IsOpener (role.Opens s) place line b = b ≡ block place s line
IsOpener (role.Ends s) place line b = ⊥
IsOpener role.Stays place line b = ⊥

-- where these are open, a mark of the role is the block's ender
abbrev pub IsEnder : (Block → Type 0) → Role → Block → Type 0
IsEnder Open (role.Opens s) b = ⊥
IsEnder Open (role.Ends s) b = Closes Open s b
IsEnder Open role.Stays b = ⊥

-- where these are open, a mark of the role is an ender and has no block
abbrev pub IsStray : (Block → Type 0) → Role → Type 0
IsStray Open (role.Opens s) = ⊥
IsStray Open (role.Ends s) = (b : Block) → Closes Open s b → ⊥
IsStray Open role.Stays = ⊥

-- a mark is the block's opener
abbrev pub HasOpener : List Mark → Block → Type 0
HasOpener [] b = ⊥
HasOpener (r ∷ before) b = IsOpener r.role (length before) r.line b ⊎ HasOpener before b

-- a mark is the block's ender
abbrev pub HasEnder : List Mark → Block → Type 0
HasEnder [] b = ⊥
HasEnder (r ∷ before) b = IsEnder (IsOpen before) r.role b ⊎ HasEnder before b

-- BROKEN RULES

-- an ender without a block stands in the line
abbrev pub HasStray : List Mark → ℕ → Type 0
HasStray [] line = ⊥
HasStray (r ∷ before) line = ((line ≡ r.line) × IsStray (IsOpen before) r.role) ⊎ HasStray before line

-- the opener of a block without an ender stands in the line
abbrev pub HasUnended : List Mark → ℕ → Type 0
HasUnended marks line = (b : Block) × HasOpener marks b × (HasEnder marks b → ⊥) × (line ≡ b.line)

-- the marks break the rule in the line
abbrev pub BreaksBackwards : List Mark → ℕ → Type 0
BreaksBackwards marks line = HasStray marks line ⊎ HasUnended marks line

-- a file of these marks, here from its beginning on, breaks the rule in the line
abbrev pub IsBroken : List Mark → ℕ → Type 0
IsBroken marks line = BreaksBackwards (reverse marks) line
