-- How what stands behind the modifiers of a line is read: private steps on lists, which the code equals.
use Rattle.std.specs.Prelude.{◌≡◌, ◌==◌, if◌then◌else◌, ℕ, Bool, true, false, List, [], ◌∷◌, Option, Some, None}
use Rattle.vb_text.specs.declared.names.Name.{Name}
use Rattle.vb_syntax.specs.declared.{keyword.Keyword.Keyword, tokens.Token.Token, types.TypeName.TypeName, expression.Expr.Expr, declarator.Declarator.Declarator, declaration.{ClassModifier.ClassModifier, DelegateKind.DelegateKind, EventHandler.EventHandler, FunctionKind.FunctionKind, ImplementedMember.ImplementedMember, Modifier.Modifier, NameModifier.NameModifier, PropertyKind.PropertyKind}, item.{DeclarationLine.DeclarationLine, EventAccessorKind.EventAccessorKind, PropertyHeader.PropertyHeader}, words.ContextualWords.ContextualWords}
use Rattle.vb_syntax.specs.declared.keyword.Keyword.TheVariants as word
use Rattle.vb_syntax.specs.declared.tokens.Token.TheVariants as token
use Rattle.vb_syntax.specs.declared.declaration.ClassModifier.TheVariants as class_modifier
use Rattle.vb_syntax.specs.declared.declaration.DelegateKind.TheVariants as delegate
use Rattle.vb_syntax.specs.declared.declaration.EventHandler.TheVariants as handler
use Rattle.vb_syntax.specs.declared.declaration.FunctionKind.TheVariants as function
use Rattle.vb_syntax.specs.declared.declaration.PropertyKind.TheVariants as property
use Rattle.vb_syntax.specs.declared.item.DeclarationLine.TheVariants as line
use Rattle.vb_syntax.specs.declared.item.EventAccessorKind.TheVariants as accessor
use Rattle.vb_parse_expr.specs.{Reading.{after_opening, after_dot}, TypeReading.{Read, and_then, read_name, read_type}, Placing.read_expression}
use Rattle.vb_parse_decl.specs.{DeclarationReading.{after_implements, after_equal, read_list, name_modifier_of, read_declared, read_written, read_parameters, read_type_parameters, read_signature, read_result}, MemberReading.member_of as member_in, ModifierReading.{only_access, property_split}, Parts.AreListed, Declarators.IsDeclarator}

-- IMPLEMENTED MEMBERS

abbrev pub implemented : TypeName → Name → ImplementedMember
implemented a n = record { interface = a; member = n }

abbrev pub member_before : List Token → Option (TypeName × Name) → Read ImplementedMember
member_before ts None = None
member_before ts (Some p) = Some (implemented p.0 p.1, ts)

-- behind the type stands a dot and the member, or the member is the last name of the type
abbrev pub member_behind : TypeName → List Token → Option (List Token) → Read ImplementedMember
member_behind a ts None = member_before ts (member_in a)
member_behind a ts (Some us) = and_then (read_name us) (λ n rest. Some (implemented a n, rest))

unfoldable pub read_implemented : List Token → Read ImplementedMember
read_implemented ts = and_then (read_type ts) (λ a us. member_behind a us (after_dot us))

abbrev pub members_behind : List Token → Option (List Token) → Read (List ImplementedMember)
members_behind ts None = Some ([], ts)
members_behind ts (Some us) = read_list read_implemented us

unfoldable pub read_implements : List Token → Read (List ImplementedMember)
read_implements ts = members_behind ts (after_implements ts)

-- THE END OF A LINE

abbrev pub ended : {X : Type 0} → List Token → X → Option X
ended [] x = Some x
ended (t ∷ ts) x = None

abbrev pub given : {A B : Type 0} → Option A → (A → Option B) → Option B
given None f = None
given (Some a) f = f a

-- implemented members up to the end
unfoldable pub last_implements : List Token → Option (List ImplementedMember)
last_implements ts = and_then (read_implements ts) (λ is rest. ended rest is)

-- TYPES

unfoldable pub read_module : List Modifier → List Token → Option DeclarationLine
read_module ms ts = given (only_access ms) (λ a. and_then (read_name ts) (λ n rest. ended rest (line.Module a n)))

unfoldable pub read_class : Option ClassModifier → List Modifier → List Token → Option DeclarationLine
read_class m ms ts = given (only_access ms) (λ a. and_then (read_name ts) (λ n us. and_then (read_type_parameters us) (λ ps rest. ended rest (line.Class a m n ps))))

unfoldable pub read_interface : List Modifier → List Token → Option DeclarationLine
read_interface ms ts = given (only_access ms) (λ a. and_then (read_name ts) (λ n us. and_then (read_type_parameters us) (λ ps rest. ended rest (line.Interface a n ps))))

unfoldable pub read_delegate : DelegateKind → List Modifier → List Token → Option DeclarationLine
read_delegate k ms ts = given (only_access ms) (λ a. and_then (read_signature ts) (λ s us. and_then (read_result us)
    (λ r rest. ended rest (line.Delegate a k s.name s.type_parameters s.parameters r))))

-- types up to the end, without modifiers before their word
unfoldable pub last_types : List Modifier → List Token → Option (List TypeName)
last_types [] ts = and_then (read_list read_type ts) (λ bases rest. ended rest bases)
last_types (m ∷ ms) ts = None

unfoldable pub read_inherits : List Modifier → List Token → Option DeclarationLine
read_inherits ms ts = given (last_types ms ts) (λ bases. Some (line.Inherits bases))

unfoldable pub read_implements_line : List Modifier → List Token → Option DeclarationLine
read_implements_line ms ts = given (last_types ms ts) (λ bases. Some (line.Implements bases))

-- MEMBERS

unfoldable pub read_sub : List Modifier → List Token → Option DeclarationLine
read_sub ms ts = and_then (read_signature ts) (λ s us. given (last_implements us) (λ is. Some (line.Sub ms s is)))

unfoldable pub read_constructor : List Modifier → List Token → Option DeclarationLine
read_constructor ms ts = and_then (read_parameters ts) (λ ps us. given (last_implements us) (λ is. Some (line.Constructor ms ps is)))

unfoldable pub read_function : FunctionKind → List Modifier → List Token → Option DeclarationLine
read_function k ms ts = and_then (read_signature ts) (λ s us. and_then (read_declared us) (λ r vs. given (last_implements vs) (λ is. Some (line.Function ms k s r is))))

abbrev pub initial_behind : List Token → Option (List Token) → Read (Option Expr)
initial_behind ts None = Some (None, ts)
initial_behind ts (Some us) = and_then (read_expression us) (λ x rest. Some (Some x, rest))

unfoldable pub read_initial : List Token → Read (Option Expr)
read_initial ts = initial_behind ts (after_equal ts)

abbrev pub property_header : PropertyKind → Name → NameModifier → TypeName → Option Expr → List ImplementedMember → PropertyHeader
property_header k n m a i is = record { kind = k; name = n; modifier = m; declared = a; initializer = i; implements = is }

abbrev pub property_named : PropertyKind → Name → NameModifier × List Token → Option PropertyHeader
property_named k n m = and_then (read_declared m.1) (λ a us. and_then (read_initial us) (λ i vs. given (last_implements vs) (λ is. Some (property_header k n m.0 a i is))))

unfoldable pub read_property : PropertyKind → List Token → Option PropertyHeader
read_property k ts = and_then (read_name ts) (λ n us. property_named k n (name_modifier_of us))

abbrev pub property_of : List Modifier × PropertyKind → List Token → Option DeclarationLine
property_of p ts = given (read_property p.1 ts) (λ h. Some (line.Property p.0 h))

abbrev pub handler_behind : List Token → Option (List Token) → Read EventHandler
handler_behind ts None = and_then (read_declared ts) (λ a rest. Some (handler.Delegate a, rest))
handler_behind ts (Some us) = and_then (read_written ts) (λ ps rest. Some (handler.Parameters ps, rest))

unfoldable pub read_handler : List Token → Read EventHandler
read_handler ts = handler_behind ts (after_opening ts)

unfoldable pub read_event : List Modifier → List Token → Option DeclarationLine
read_event ms ts = and_then (read_name ts) (λ n us. and_then (read_handler us) (λ h vs. given (last_implements vs) (λ is. Some (line.Event ms n h is))))

unfoldable pub read_custom_event : List Modifier → List Token → Option DeclarationLine
read_custom_event ms ts = and_then (read_name ts) (λ n us. and_then (read_declared us) (λ a rest. ended rest (line.CustomEvent ms n a)))

unfoldable pub read_get : List Modifier → List Token → Option DeclarationLine
read_get ms ts = given (only_access ms) (λ a. ended ts (line.Get a))

unfoldable pub read_set : List Modifier → List Token → Option DeclarationLine
read_set ms ts = given (only_access ms) (λ a. and_then (read_parameters ts) (λ ps rest. ended rest (line.Set a ps)))

unfoldable pub read_accessor : EventAccessorKind → List Modifier → List Token → Option DeclarationLine
read_accessor k [] ts = and_then (read_written ts) (λ ps rest. ended rest (line.EventAccessor k ps))
read_accessor k (m ∷ ms) ts = None

-- BY THE FIRST WORD

unfoldable pub class_behind : ClassModifier → List Modifier → List Token → Option DeclarationLine
class_behind m ms (token.Keyword word.Class ∷ ts) = read_class (Some m) ms ts
class_behind m ms ts = None

unfoldable pub delegate_behind : List Modifier → List Token → Option DeclarationLine
delegate_behind ms (token.Keyword word.Sub ∷ ts) = read_delegate delegate.Sub ms ts
delegate_behind ms (token.Keyword word.Function ∷ ts) = read_delegate delegate.Function ms ts
delegate_behind ms ts = None

unfoldable pub sub_behind : List Modifier → List Token → Option DeclarationLine
sub_behind ms (token.Keyword word.New ∷ ts) = read_constructor ms ts
sub_behind ms ts = read_sub ms ts

unfoldable pub write_only_behind : List Modifier → List Token → Option DeclarationLine
write_only_behind ms (token.Keyword word.Property ∷ ts) = property_of (ms, property.WriteOnly) ts
write_only_behind ms ts = None

unfoldable pub property_behind : List Modifier → List Token → Option DeclarationLine
property_behind ms ts = property_of (property_split ms) ts

-- lines with an access alone or without modifiers
unfoldable pub by_access : Keyword → List Modifier → List Token → Option DeclarationLine
by_access word.Module ms ts = read_module ms ts
by_access word.Class ms ts = read_class None ms ts
by_access word.MustInherit ms ts = class_behind class_modifier.MustInherit ms ts
by_access word.NotInheritable ms ts = class_behind class_modifier.NotInheritable ms ts
by_access word.Interface ms ts = read_interface ms ts
by_access word.Delegate ms ts = delegate_behind ms ts
by_access word.Inherits ms ts = read_inherits ms ts
by_access word.Implements ms ts = read_implements_line ms ts
by_access word.Get ms ts = read_get ms ts
by_access word.Set ms ts = read_set ms ts
by_access word.AddHandler ms ts = read_accessor accessor.AddHandler ms ts
by_access word.RemoveHandler ms ts = read_accessor accessor.RemoveHandler ms ts
by_access word.RaiseEvent ms ts = read_accessor accessor.RaiseEvent ms ts
by_access w ms ts = None

unfoldable pub by_word : Keyword → List Modifier → List Token → Option DeclarationLine
by_word word.Sub ms ts = sub_behind ms ts
by_word word.Function ms ts = read_function function.Regular ms ts
by_word word.Property ms ts = property_behind ms ts
by_word word.WriteOnly ms ts = write_only_behind ms ts
by_word word.Event ms ts = read_event ms ts
by_word w ms ts = by_access w ms ts

-- `Iterator` before `Function` and `Custom` before `Event`
unfoldable pub by_name : ContextualWords → Name → List Modifier → List Token → Option DeclarationLine
by_name words n ms (token.Keyword word.Function ∷ ts) = if n.index == words.iterator.index then read_function function.Iterator ms ts else None
by_name words n ms (token.Keyword word.Event ∷ ts) = if n.index == words.custom.index then read_custom_event ms ts else None
by_name words n ms ts = None

unfoldable pub read_header : ContextualWords → List Modifier → List Token → Option DeclarationLine
read_header words ms (token.Keyword w ∷ ts) = by_word w ms ts
read_header words ms (token.Name n ∷ ts) = by_name words n ms ts
read_header words ms ts = None

-- VARIABLES AND CONSTANTS

-- `Function` and `Event` stand behind no name of a variable
abbrev pub begins_member : List Token → Bool
begins_member (token.Keyword word.Function ∷ ts) = true
begins_member (token.Keyword word.Event ∷ ts) = true
begins_member ts = false

-- how many tokens stand before the declarators
abbrev pub variables_at : List Token → Option ℕ
variables_at (token.Keyword word.Dim ∷ ts) = Some 1
variables_at (token.Name n ∷ ts) = if begins_member ts then None else Some 0
variables_at (token.EscapedName n ∷ ts) = Some 0
variables_at ts = None

abbrev pub begins_constants : List Token → Bool
begins_constants (token.Keyword word.Const ∷ ts) = true
begins_constants ts = false

-- declarators, where modifiers stand before them
abbrev pub IsAfterModifiers : List Modifier → List Token → List Declarator → Type 0
IsAfterModifiers ms ts ds = (ms ≡ [] → ⊥) × AreListed IsDeclarator ts ds
