-- What is asked of items, of joints and of modifiers, wherever they stand.
use Rattle.std.specs.Prelude.{Bool, true, false, List, [], Option, Some, None}
use Rattle.std.specs.List.{list_any}
use Rattle.vb_syntax.specs.declared.{declaration.{Modifier.Modifier, ImplementedMember.ImplementedMember, NameModifier.NameModifier}, expression.Expr.Expr, item.{BlockWord.BlockWord, DeclarationLine.DeclarationLine, Item.Item, Joint.Joint, PropertyHeader.PropertyHeader}}
use Rattle.vb_syntax.specs.declared.declaration.Modifier.TheVariants as modifier
use Rattle.vb_syntax.specs.declared.declaration.NameModifier.TheVariants as name_modifier
use Rattle.vb_syntax.specs.declared.item.BlockWord.TheVariants as block
use Rattle.vb_syntax.specs.declared.item.DeclarationLine.TheVariants as line
use Rattle.vb_syntax.specs.declared.item.Item.TheVariants as item
use Rattle.vb_syntax.specs.declared.item.Joint.TheVariants as joint

-- a statement without a block; a label is none (Visual Basic Language Specification 11.0, 10.1 and 10.8.1)
abbrev pub is_simple : Item → Bool
is_simple (item.Declaration m ds) = true
is_simple (item.ReDim n x) = true
is_simple (item.Assignment x y) = true
is_simple (item.CompoundAssignment o x y) = true
is_simple (item.Invocation x) = true
is_simple (item.Throw x) = true
is_simple (item.Yield x) = true
is_simple (item.Return x) = true
is_simple (item.GoTo n) = true
is_simple (item.Exit k) = true
is_simple (item.Continue k) = true
is_simple (item.OnError a) = true
is_simple (item.Resume p) = true
is_simple (item.AddHandler x y) = true
is_simple (item.RemoveHandler x y) = true
is_simple (item.RaiseEvent n xs) = true
is_simple x = false

-- an accessor of a property, or the property's end (9.7)
abbrev pub goes_on_property : Item → Bool
goes_on_property (item.Declares (line.Get a)) = true
goes_on_property (item.Declares (line.Set a ps)) = true
goes_on_property (item.End block.Property) = true
goes_on_property i = false

-- behind the name and the type of a property nothing stands: no `()`, no value and no interface's member
abbrev pub has_no_more : NameModifier → Option Expr → List ImplementedMember → Bool
has_no_more name_modifier.Plain None [] = true
has_no_more m i is = false

-- a property as an interface has it (7.8.2)
abbrev pub is_property_of_interface : PropertyHeader → Bool
is_property_of_interface h = has_no_more h.modifier h.initializer h.implements

-- it ends the statements of a line
abbrev pub is_end : Joint → Bool
is_end joint.End = true
is_end j = false

abbrev pub is_must_override : Modifier → Bool
is_must_override modifier.MustOverride = true
is_must_override m = false

-- `MustOverride` is among the modifiers: the member has no block (9.2.1)
abbrev pub must_override : List Modifier → Bool
must_override ms = list_any is_must_override ms
