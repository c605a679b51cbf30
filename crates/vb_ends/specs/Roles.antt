-- Which rows of a file open a block and which end one. The rows are listed from the end of the file: the last stands first,
-- and behind each row those before it.
use Rattle.std.specs.Prelude.{ℕ, Bool, true, false, ◌&&◌, ◌||◌, if◌then◌else◌, List, [], ◌∷◌, Option, Some, None}
use Rattle.vb_syntax.specs.{declared.{declaration.{Modifier.Modifier, ImplementedMember.ImplementedMember, NameModifier.NameModifier}, expression.Expr.Expr, item.{PropertyHeader.PropertyHeader, EventAccessorKind.EventAccessorKind, DeclarationLine.DeclarationLine, BlockWord.BlockWord, Item.Item, Row.Row}}, Items.{is_end, must_override, is_property_of_interface, goes_on_property as goes_on}}
use Rattle.vb_syntax.specs.declared.declaration.FunctionKind.TheVariants as function
use Rattle.vb_syntax.specs.declared.declaration.NameModifier.TheVariants as name_modifier
use Rattle.vb_syntax.specs.declared.item.EventAccessorKind.TheVariants as accessor
use Rattle.vb_syntax.specs.declared.item.DeclarationLine.TheVariants as line
use Rattle.vb_syntax.specs.declared.item.BlockWord.TheVariants as block
use Rattle.vb_syntax.specs.declared.item.Item.TheVariants as item
use Rattle.vb_ends.specs.{declared.role.{Sort.Sort, Role.Role, Mark.Mark}, Brackets.{mark_opens, mark_ends, mark_stays}, OpenBlocks.in_interface}
use Rattle.vb_ends.specs.declared.role.Sort.TheVariants as sort
use Rattle.vb_ends.specs.declared.role.Role.TheVariants as role

-- MEMBERS WITHOUT A BLOCK (Visual Basic Language Specification 11.0, 7.8.2 and 9)

-- the header of a member as an interface has it: without modifiers, and implementing nothing
abbrev pub is_header_of_interface : DeclarationLine → Bool
is_header_of_interface (line.Sub [] s []) = true
is_header_of_interface (line.Function [] function.Regular s t []) = true
is_header_of_interface (line.Property [] h) = is_property_of_interface h
is_header_of_interface (line.Event [] n h []) = true
is_header_of_interface d = false

-- OPENERS AND ENDERS

-- the item goes on with a property
abbrev pub goes_on_property : Option Item → Bool
goes_on_property (Some i) = goes_on i
goes_on_property None = false

abbrev pub accessor_sort : EventAccessorKind → Sort
accessor_sort accessor.AddHandler = sort.AddHandler
accessor_sort accessor.RemoveHandler = sort.RemoveHandler
accessor_sort accessor.RaiseEvent = sort.RaiseEvent

-- a member has no block where it must be overridden, and directly in an interface
abbrev pub has_no_block : Bool → List Modifier → DeclarationLine → Bool
has_no_block inside ms d = must_override ms || (inside && is_header_of_interface d)

-- the sort of the block that a line of declarations opens
abbrev pub opened_by : Bool → DeclarationLine → Option Item → Option Sort
opened_by inside (line.Module a n) next = Some sort.Module
opened_by inside (line.Class a m n ps) next = Some sort.Class
opened_by inside (line.Interface a n ps) next = Some sort.Interface
opened_by inside (line.Sub ms s is) next = if has_no_block inside ms (line.Sub ms s is) then None else Some sort.Sub
opened_by inside (line.Constructor ms ps is) next = if must_override ms then None else Some sort.Sub
opened_by inside (line.Function ms k s t is) next = if has_no_block inside ms (line.Function ms k s t is) then None else Some sort.Function
opened_by inside (line.Property ms h) next = if has_no_block inside ms (line.Property ms h) then None else if goes_on_property next then Some sort.Property else None
opened_by inside (line.CustomEvent ms n t) next = Some sort.Event
opened_by inside (line.Get a) next = Some sort.Get
opened_by inside (line.Set a ps) next = Some sort.Set
opened_by inside (line.EventAccessor k ps) next = Some (accessor_sort k)
opened_by inside d next = None

-- the sort of the block that an item opens, by whether it stands directly in an interface, and the item behind it
abbrev pub opened : Bool → Item → Option Item → Option Sort
opened inside (item.If x) next = Some sort.If
opened inside (item.While x) next = Some sort.While
opened inside (item.Do t) next = Some sort.Do
opened inside (item.For v a b c) next = Some sort.For
opened inside (item.ForEach v x) next = Some sort.For
opened inside (item.Select x) next = Some sort.Select
opened inside item.Try next = Some sort.Try
opened inside (item.SyncLock x) next = Some sort.SyncLock
opened inside (item.With x) next = Some sort.With
opened inside (item.Using r) next = Some sort.Using
opened inside (item.Declares d) next = opened_by inside d next
opened inside i next = None

abbrev pub word_sort : BlockWord → Sort
word_sort block.Module = sort.Module
word_sort block.Class = sort.Class
word_sort block.Interface = sort.Interface
word_sort block.Sub = sort.Sub
word_sort block.Function = sort.Function
word_sort block.Property = sort.Property
word_sort block.Get = sort.Get
word_sort block.Set = sort.Set
word_sort block.Event = sort.Event
word_sort block.AddHandler = sort.AddHandler
word_sort block.RemoveHandler = sort.RemoveHandler
word_sort block.RaiseEvent = sort.RaiseEvent
word_sort block.If = sort.If
word_sort block.Select = sort.Select
word_sort block.SyncLock = sort.SyncLock
word_sort block.Try = sort.Try
word_sort block.Using = sort.Using
word_sort block.While = sort.While
word_sort block.With = sort.With

-- the sort of the block that an item ends
abbrev pub ended : Item → Option Sort
ended (item.End w) = Some (word_sort w)
ended (item.Loop t) = Some sort.Do
ended (item.Next n) = Some sort.For
ended i = None

-- A row stands alone where nothing of an `If` on one line stands before or behind it.
abbrev pub is_fresh : List Row → Bool
is_fresh [] = true
is_fresh (r ∷ before) = is_end r.behind

abbrev pub is_alone : List Row → Row → Bool
is_alone before r = is_fresh before && is_end r.behind

abbrev pub opens_or_ends : Option Sort → Option Sort → Role
opens_or_ends (Some s) e = role.Opens s
opens_or_ends None (Some s) = role.Ends s
opens_or_ends None None = role.Stays

abbrev pub item_role : Bool → Option Item → Option Item → Role
item_role inside (Some i) next = opens_or_ends (opened inside i next) (ended i)
item_role inside None next = role.Stays

-- what a row does to blocks, with these rows before it, whose marks are these, and this item behind it
abbrev pub role_of : List Row → List Mark → Row → Option Item → Role
role_of before marks r next = if is_alone before r then item_role (in_interface marks) r.item next else role.Stays

abbrev pub with_mark : List Row → List Mark → Row → Option Item → List Mark
with_mark before marks r next = record { role = role_of before marks r next; line = r.line } ∷ marks

-- what each row does to blocks, where this item stands behind the last
abbrev pub marks_of : Option Item → List Row → List Mark
marks_of next [] = []
marks_of next (r ∷ before) = with_mark before (marks_of r.item before) r next

-- OPEN BLOCKS WHERE EACH ENDER CLOSES THE INNERMOST ONE

-- Behind these marks, of which each ender closes the innermost open block, blocks of these sorts are open, the innermost first.
pub data AreOpenBehind : List Mark → List Sort → Type 0 where
  nothing : AreOpenBehind [] []
  opens : {marks : List Mark} {ss : List Sort} (s : Sort) (line : ℕ) → AreOpenBehind marks ss → AreOpenBehind (mark_opens s line ∷ marks) (s ∷ ss)
  ends : {marks : List Mark} {ss : List Sort} (s : Sort) (line : ℕ) → AreOpenBehind marks (s ∷ ss) → AreOpenBehind (mark_ends s line ∷ marks) ss
  stays : {marks : List Mark} {ss : List Sort} (line : ℕ) → AreOpenBehind marks ss → AreOpenBehind (mark_stays line ∷ marks) ss
