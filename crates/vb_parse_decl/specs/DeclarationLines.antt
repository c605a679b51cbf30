-- Which tokens spell which line of the declarations of types and members (Visual Basic Language Specification 11.0, 7 and 9).
use Rattle.std.specs.Prelude.{◌≡◌, ◌⊎◌, Bool, true, false, List, [], ◌∷◌, ◌++◌, Option, Some, None}
use Rattle.std.specs.List.{list_any}
use Rattle.vb_syntax.specs.declared.{keyword.Keyword.Keyword, tokens.Token.Token, declaration.{Access.Access, ClassModifier.ClassModifier, DelegateKind.DelegateKind, FunctionKind.FunctionKind, Modifier.Modifier, PropertyKind.PropertyKind}, item.{DeclarationLine.DeclarationLine, EventAccessorKind.EventAccessorKind, PropertyHeader.PropertyHeader}, words.ContextualWords.ContextualWords}
use Rattle.vb_syntax.specs.declared.keyword.Keyword.TheVariants as word
use Rattle.vb_syntax.specs.declared.tokens.Token.TheVariants as token
use Rattle.vb_syntax.specs.declared.declaration.ClassModifier.TheVariants as class_modifier
use Rattle.vb_syntax.specs.declared.declaration.DelegateKind.TheVariants as delegate
use Rattle.vb_syntax.specs.declared.declaration.FunctionKind.TheVariants as function
use Rattle.vb_syntax.specs.declared.declaration.Modifier.TheVariants as modifier
use Rattle.vb_syntax.specs.declared.declaration.PropertyKind.TheVariants as property
use Rattle.vb_syntax.specs.declared.item.DeclarationLine.TheVariants as line
use Rattle.vb_syntax.specs.declared.item.EventAccessorKind.TheVariants as accessor
use Rattle.vb_parse_decl.specs.{Parts.{reserved, IsType, IsNamed, After, Begins, Names, Words, Part, AreListed}, Declarators.IsDeclarator, Declarations.{Modified, IsDeclared, AreTypeParameters, IsNameModifier, AreWritten, AreParameters, Signed, IsResult, IsHandler, IsInitial, AreImplemented}}

-- THE MODIFIERS OF A LINE

abbrev pub access_modifiers : Option Access → List Modifier
access_modifiers None = []
access_modifiers (Some a) = modifier.Access a ∷ []

abbrev pub is_read_only : Modifier → Bool
is_read_only modifier.ReadOnly = true
is_read_only m = false

abbrev pub has_read_only : List Modifier → Bool
has_read_only ms = list_any is_read_only ms

-- the modifiers of a property, as they are written, by those that the tree keeps and its kind: the last `ReadOnly`, wherever it
-- stands, gives the kind (9.7); `WriteOnly` stands right before `Property`
abbrev pub ArePropertyModifiers : List Modifier → PropertyKind → List Modifier → Type 0
ArePropertyModifiers ms property.ReadOnly all =
    (before after : List Modifier) × (all ≡ before ++ modifier.ReadOnly ∷ after) × (ms ≡ before ++ after) × (has_read_only after ≡ false)
ArePropertyModifiers ms property.ReadWrite all = (ms ≡ all) × (has_read_only all ≡ false)
ArePropertyModifiers ms property.WriteOnly all = ms ≡ all

-- these are the modifiers of the line, as they are written: types and the accessors of properties have an access alone, and some
-- lines have none
abbrev pub AreModifiersOf : DeclarationLine → List Modifier → Type 0
AreModifiersOf (line.Module a n) all = access_modifiers a ≡ all
AreModifiersOf (line.Class a m n ps) all = access_modifiers a ≡ all
AreModifiersOf (line.Interface a n ps) all = access_modifiers a ≡ all
AreModifiersOf (line.Delegate a k n ts ps r) all = access_modifiers a ≡ all
AreModifiersOf (line.Inherits bases) all = [] ≡ all
AreModifiersOf (line.Implements bases) all = [] ≡ all
AreModifiersOf (line.Variables ms ds) all = ms ≡ all
AreModifiersOf (line.Constants ms ds) all = ms ≡ all
AreModifiersOf (line.Sub ms s is) all = ms ≡ all
AreModifiersOf (line.Constructor ms ps is) all = ms ≡ all
AreModifiersOf (line.Function ms k s r is) all = ms ≡ all
AreModifiersOf (line.Property ms h) all = ArePropertyModifiers ms h.kind all
AreModifiersOf (line.Event ms n h is) all = ms ≡ all
AreModifiersOf (line.CustomEvent ms n a) all = ms ≡ all
AreModifiersOf (line.Get a) all = access_modifiers a ≡ all
AreModifiersOf (line.Set a ps) all = access_modifiers a ≡ all
AreModifiersOf (line.EventAccessor k ps) all = [] ≡ all

-- WHAT STANDS BEHIND THEM

abbrev pub class_words : Option ClassModifier → List Keyword
class_words None = word.Class ∷ []
class_words (Some class_modifier.MustInherit) = word.MustInherit ∷ word.Class ∷ []
class_words (Some class_modifier.NotInheritable) = word.NotInheritable ∷ word.Class ∷ []

abbrev pub delegate_word : DelegateKind → Keyword
delegate_word delegate.Sub = word.Sub
delegate_word delegate.Function = word.Function

abbrev pub property_words : PropertyKind → List Keyword
property_words property.WriteOnly = word.WriteOnly ∷ word.Property ∷ []
property_words k = word.Property ∷ []

abbrev pub accessor_word : EventAccessorKind → Keyword
accessor_word accessor.AddHandler = word.AddHandler
accessor_word accessor.RemoveHandler = word.RemoveHandler
accessor_word accessor.RaiseEvent = word.RaiseEvent

-- `Iterator` is a word only here
abbrev pub IsFunction : ContextualWords → FunctionKind → (List Token → Type 0) → List Token → Type 0
IsFunction words function.Regular Behind ts = Begins word.Function Behind ts
IsFunction words function.Iterator Behind ts = After (token.Name words.iterator) (Begins word.Function Behind) ts

-- a name, `()` or nothing, a type, a first value if one is written, and implemented members
abbrev pub IsProperty : PropertyHeader → List Token → Type 0
IsProperty h ts = Names h.name (Part IsNameModifier h.modifier (Part IsDeclared h.declared (Part IsInitial h.initializer (λ us. AreImplemented us h.implements)))) ts

abbrev pub Behind : ContextualWords → DeclarationLine → List Token → Type 0
-- 7.7, 7.5, 7.8 and 7.10
Behind words (line.Module a n) ts = Begins word.Module (IsNamed n) ts
Behind words (line.Class a m n ps) ts = Words (class_words m) (Names n (λ us. AreTypeParameters us ps)) ts
Behind words (line.Interface a n ps) ts = Begins word.Interface (Names n (λ us. AreTypeParameters us ps)) ts
Behind words (line.Delegate a k n qs ps r) ts = Begins word.Delegate (Begins (delegate_word k) (Signed n qs ps (λ us. IsResult us r))) ts
-- 7.5.1, 7.8.1 and 7.2
Behind words (line.Inherits bases) ts = Begins word.Inherits (λ us. AreListed IsType us bases) ts
Behind words (line.Implements bases) ts = Begins word.Implements (λ us. AreListed IsType us bases) ts
-- 9.6 and 9.5
Behind words (line.Variables ms ds) ts = (ms ≡ [] → ⊥) × (AreListed IsDeclarator ts ds ⊎ Begins word.Dim (λ us. AreListed IsDeclarator us ds) ts)
Behind words (line.Constants ms ds) ts = (ms ≡ [] → ⊥) × Begins word.Const (λ us. AreListed IsDeclarator us ds) ts
-- 9.2.1 and 9.3
Behind words (line.Sub ms s is) ts = Begins word.Sub (Signed s.name s.type_parameters s.parameters (λ us. AreImplemented us is)) ts
Behind words (line.Constructor ms ps is) ts = Begins word.Sub (Begins word.New (Part AreParameters ps (λ us. AreImplemented us is))) ts
Behind words (line.Function ms k s r is) ts =
    IsFunction words k (Signed s.name s.type_parameters s.parameters (Part IsDeclared r (λ us. AreImplemented us is))) ts
-- 9.7
Behind words (line.Property ms h) ts = Words (property_words h.kind) (IsProperty h) ts
-- 9.4 and 9.4.1
Behind words (line.Event ms n h is) ts = Begins word.Event (Names n (Part IsHandler h (λ us. AreImplemented us is))) ts
Behind words (line.CustomEvent ms n a) ts = After (token.Name words.custom) (Begins word.Event (Names n (λ us. IsDeclared us a))) ts
-- 9.7.1, 9.7.2 and 9.4.1
Behind words (line.Get a) ts = ts ≡ reserved word.Get ∷ []
Behind words (line.Set a ps) ts = Begins word.Set (λ us. AreParameters us ps) ts
Behind words (line.EventAccessor k ps) ts = Begins (accessor_word k) (λ us. AreWritten us ps) ts

-- The tokens spell the line.
abbrev pub IsDeclarationLine : ContextualWords → List Token → DeclarationLine → Type 0
IsDeclarationLine words ts d = (all : List Modifier) × AreModifiersOf d all × Modified all (Behind words d) ts
