-- What the code keeps of the blocks that are open: private definitions, for the clauses of the code's own functions. The innermost block
-- stands first.
use Rattle.std.specs.Prelude.{◌≡◌, Bool, true, false, if◌then◌else◌, List, [], ◌∷◌, reverse, Option, Some}
use Rattle.vb_syntax.specs.declared.item.Item.{Item}
use Rattle.vb_syntax.specs.declared.item.BlockWord.TheVariants as block
use Rattle.vb_syntax.specs.declared.item.DeclarationLine.TheVariants as line
use Rattle.vb_syntax.specs.declared.item.Item.TheVariants as item
use Rattle.vb_ends.specs.{declared.role.Role.Role, Enders.Block, OpenBlocks.in_interface, Roles.{item_role, marks_of}}
use Rattle.vb_ends.specs.declared.role.Sort.TheVariants as sort
use Rattle.vb_ends.specs.declared.role.Role.TheVariants as role
use Rattle.vb_rows.specs.{declared.{stack.OpenBlock.OpenBlock, open_blocks.OpenBlocks.OpenBlocks}, Rows.{all_alone, blocks_behind, is_in_iterator}, Stacks.opened}

-- of each block its sort, and whether what stands directly in it is in the body of an iterator
abbrev pub kept_of : List (Option Item) → List Block → List OpenBlock
kept_of before [] = []
kept_of before (b ∷ bs) = record { sort = b.sort; in_iterator = is_in_iterator before (b ∷ bs) } ∷ kept_of before bs

-- A PROPERTY'S HEADER

abbrev pub is_opener : Role → Bool
is_opener (role.Opens s) = true
is_opener k = false

-- the item is the header of a property that opens a block if the next item goes on with a property
abbrev pub waits : Bool → Option Item → Bool
waits inside (Some (item.Declares (line.Property ms h))) = is_opener (item_role inside (Some (item.Declares (line.Property ms h))) (Some (item.End block.Property)))
waits inside i = false

-- the last of these items waits so
abbrev pub waits_behind : List (Option Item) → Bool
waits_behind [] = false
waits_behind (i ∷ before) = waits (in_interface (marks_of i (all_alone before))) i

-- with the block of a property, if one was waited for
abbrev pub settled : Bool → List OpenBlock → List OpenBlock
settled waited os = if waited then opened sort.Property false os else os

-- ALL OF IT

-- These are the blocks that are open behind the items.
pub record Tracks (blocks : OpenBlocks) (before : List (Option Item)) : Type 0 where
  pub stack : reverse blocks.stack ≡ kept_of before (blocks_behind before)
  pub waits : blocks.waits ≡ waits_behind before
