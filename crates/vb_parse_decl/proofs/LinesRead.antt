-- What stands behind the modifiers of a line is read.
use Rattle.std.proofs.Common.{◌≡◌, ◌≤◌, List, [], ◌∷◌, ◌++◌, length, Option, Some, None, refl, sym, ap, ◌∙◌, arith, length-append}
use Rattle.std.specs.Prelude.{if◌then◌else◌}
use Rattle.std.proofs.Common.{eq-eqb}
use Rattle.vb_text.specs.declared.names.Name.{Name}
use Rattle.vb_syntax.specs.declared.keyword.Keyword.TheVariants as word
use Rattle.vb_syntax.specs.declared.{tokens.Token.Token, types.{TypeName.TypeName, TypeParameter.TypeParameter}, declaration.{Access.Access, ClassModifier.ClassModifier, DelegateKind.DelegateKind, EventHandler.EventHandler, FunctionKind.FunctionKind, ImplementedMember.ImplementedMember, MethodSignature.MethodSignature, Modifier.Modifier, Parameter.Parameter, PropertyKind.PropertyKind}, item.{DeclarationLine.DeclarationLine, EventAccessorKind.EventAccessorKind, PropertyHeader.PropertyHeader}, words.ContextualWords.ContextualWords}
use Rattle.vb_syntax.specs.declared.tokens.Token.TheVariants as token
use Rattle.vb_syntax.specs.declared.declaration.ClassModifier.TheVariants as class_modifier
use Rattle.vb_syntax.specs.declared.declaration.DelegateKind.TheVariants as delegate
use Rattle.vb_syntax.specs.declared.declaration.FunctionKind.TheVariants as function
use Rattle.vb_syntax.specs.declared.declaration.Modifier.TheVariants as modifier
use Rattle.vb_syntax.specs.declared.declaration.PropertyKind.TheVariants as property
use Rattle.vb_syntax.specs.declared.item.DeclarationLine.TheVariants as line
use Rattle.vb_syntax.specs.declared.item.EventAccessorKind.TheVariants as accessor
use Rattle.vb_parse_expr.specs.{Words.name_of, TypeReading.{and_then, read_name, read_type, after_opening_of, most_tokens}, Reading.after_opening}
use Rattle.vb_parse_decl.specs.{Parts.{reserved, IsType, IsNamed, Names, Words, Part, AreListed}, Declarations.{AreTypeParameters, IsNameModifier, IsDeclared, AreWritten, AreParameters, Signed, IsResult, IsHandler, IsInitial, AreImplemented}, DeclarationLines.{access_modifiers, ArePropertyModifiers, AreModifiersOf, delegate_word, property_words, accessor_word, IsProperty, Behind}, DeclarationReading.{read_list, name_modifier_of, read_declared, read_written, read_parameters, read_type_parameters, read_signature, read_result}, ModifierReading.{only_access, property_split}, LineReading.{ended, given, last_implements, read_module, read_class, read_interface, read_delegate, last_types, read_inherits, read_implements_line, read_sub, read_constructor, read_function, read_initial, property_header, property_named, read_property, property_of, read_handler, read_event, read_custom_event, read_get, read_set, read_accessor, class_behind, delegate_behind, sub_behind, write_only_behind, property_behind, by_access, by_word, by_name, read_header}}
use Rattle.vb_parse_decl.proofs.{Readers.{part_read, name_read, then_is}, ReadersLists.EndsList, ReadersTypes.{Stops, types_reads}, ReadersParameters.{NoTypeParameters, NoParameters, Anything, type_parameters_reads, declared_reads, written_reads, parameters_reads, modifier_finds}, ReadersMembers.{whole_reads, last_finds_members, ends_nothing}, ReadersSignatures.{EndsInitial, signed_read, result_read, result_no_parameters, handler_reads, initial_reads, implements_no_parameters, implements_stops, implements_ends, declared_no_parameters, initial_stops, nothing_no_opening, nothing_stops}, PropertyModifiers.{read_only_split, read_write_split}}

given_is : {A B : Type 0} (o : Option A) (f : A → Option B) (x : A) → o ≡ Some x → given o f ≡ f x
given_is o f x e = ap (λ q. given q f) e

access_is : (a : Option Access) → only_access (access_modifiers a) ≡ Some a
access_is None = refl
access_is (Some a) = refl

nothing_no_of : after_opening_of [] ≡ None
unfolding after_opening_of after_opening
nothing_no_of = refl

fewer : (ts us : List Token) (t : Token) → ts ≡ t ∷ us → length ts ≤ most_tokens → length us ≤ most_tokens
fewer ts us t e few = omega (arith, few, ap length e)

-- TYPES

module_reads : (a : Option Access) (n : Name) (us : List Token) → length us ≤ most_tokens → IsNamed n us → read_module (access_modifiers a) us ≡ Some (line.Module a n)
unfolding read_module
module_reads a n us few (t, only, named) =
    let f = name_read (λ vs. vs ≡ []) us n few (t, [], only, named, refl) in
    given_is (only_access (access_modifiers a)) (λ x. and_then (read_name us) (λ m rest. ended rest (line.Module x m))) a (access_is a)
    ∙ then_is (read_name us) (λ m rest. ended rest (line.Module a m)) n f.rest f.reads ∙ ap (λ rest. ended rest (line.Module a n)) f.behind

class_reads : (a : Option Access) (m : Option ClassModifier) (n : Name) (ps : List TypeParameter) (us : List Token) → length us ≤ most_tokens → Names n (λ vs. AreTypeParameters vs ps) us
    → read_class m (access_modifiers a) us ≡ Some (line.Class a m n ps)
unfolding read_class
class_reads a m n ps us few p =
    let f = name_read (λ vs. AreTypeParameters vs ps) us n few p in
    given_is (only_access (access_modifiers a)) (λ x. and_then (read_name us) (λ k vs. and_then (read_type_parameters vs) (λ qs rest. ended rest (line.Class x m k qs)))) a (access_is a)
    ∙ then_is (read_name us) (λ k vs. and_then (read_type_parameters vs) (λ qs rest. ended rest (line.Class a m k qs))) n f.rest f.reads
    ∙ then_is (read_type_parameters f.rest) (λ qs rest. ended rest (line.Class a m n qs)) ps []
    (whole_reads AreTypeParameters NoTypeParameters read_type_parameters type_parameters_reads nothing_no_of f.rest ps f.few f.behind)

interface_reads : (a : Option Access) (n : Name) (ps : List TypeParameter) (us : List Token) → length us ≤ most_tokens → Names n (λ vs. AreTypeParameters vs ps) us
    → read_interface (access_modifiers a) us ≡ Some (line.Interface a n ps)
unfolding read_interface
interface_reads a n ps us few p =
    let f = name_read (λ vs. AreTypeParameters vs ps) us n few p in
    given_is (only_access (access_modifiers a)) (λ x. and_then (read_name us) (λ k vs. and_then (read_type_parameters vs) (λ qs rest. ended rest (line.Interface x k qs)))) a (access_is a)
    ∙ then_is (read_name us) (λ k vs. and_then (read_type_parameters vs) (λ qs rest. ended rest (line.Interface a k qs))) n f.rest f.reads
    ∙ then_is (read_type_parameters f.rest) (λ qs rest. ended rest (line.Interface a n qs)) ps []
    (whole_reads AreTypeParameters NoTypeParameters read_type_parameters type_parameters_reads nothing_no_of f.rest ps f.few f.behind)

delegate_reads : (a : Option Access) (k : DelegateKind) (s : MethodSignature) (r : Option TypeName) (us : List Token) → length us ≤ most_tokens
    → Signed s.name s.type_parameters s.parameters (λ vs. IsResult vs r) us
    → read_delegate k (access_modifiers a) us ≡ Some (line.Delegate a k s.name s.type_parameters s.parameters r)
unfolding read_delegate
delegate_reads a k s r us few p =
    let f = signed_read (λ vs. IsResult vs r) us s (result_no_parameters r) few p in
    given_is (only_access (access_modifiers a))
    (λ x. and_then (read_signature us) (λ q vs. and_then (read_result vs) (λ t rest. ended rest (line.Delegate x k q.name q.type_parameters q.parameters t)))) a (access_is a)
    ∙ then_is (read_signature us) (λ q vs. and_then (read_result vs) (λ t rest. ended rest (line.Delegate a k q.name q.type_parameters q.parameters t))) s f.rest f.reads
    ∙ then_is (read_result f.rest) (λ t rest. ended rest (line.Delegate a k s.name s.type_parameters s.parameters t)) r [] (result_read f.rest r f.few f.behind)

types_read : (bases : List TypeName) (us : List Token) → length us ≤ most_tokens → AreListed IsType us bases → last_types [] us ≡ Some bases
unfolding last_types
types_read bases us few p =
    then_is (read_list read_type us) (λ xs rest. ended rest xs) bases [] (whole_reads (AreListed IsType) EndsList (read_list read_type) types_reads ends_nothing us bases few p)

inherits_reads : (bases : List TypeName) (us : List Token) → length us ≤ most_tokens → AreListed IsType us bases → read_inherits [] us ≡ Some (line.Inherits bases)
unfolding read_inherits
inherits_reads bases us few p = given_is (last_types [] us) (λ xs. Some (line.Inherits xs)) bases (types_read bases us few p)

implements_reads : (bases : List TypeName) (us : List Token) → length us ≤ most_tokens → AreListed IsType us bases → read_implements_line [] us ≡ Some (line.Implements bases)
unfolding read_implements_line
implements_reads bases us few p = given_is (last_types [] us) (λ xs. Some (line.Implements xs)) bases (types_read bases us few p)

-- MEMBERS

sub_reads : (ms : List Modifier) (s : MethodSignature) (is : List ImplementedMember) (us : List Token) → length us ≤ most_tokens
    → Signed s.name s.type_parameters s.parameters (λ vs. AreImplemented vs is) us → read_sub ms us ≡ Some (line.Sub ms s is)
unfolding read_sub
sub_reads ms s is us few p =
    let f = signed_read (λ vs. AreImplemented vs is) us s (implements_no_parameters is) few p in
    then_is (read_signature us) (λ q vs. given (last_implements vs) (λ js. Some (line.Sub ms q js))) s f.rest f.reads
    ∙ given_is (last_implements f.rest) (λ js. Some (line.Sub ms s js)) is (last_finds_members f.rest is f.few f.behind)

constructor_reads : (ms : List Modifier) (ps : List Parameter) (is : List ImplementedMember) (us : List Token) → length us ≤ most_tokens
    → Part AreParameters ps (λ vs. AreImplemented vs is) us → read_constructor ms us ≡ Some (line.Constructor ms ps is)
unfolding read_constructor
constructor_reads ms ps is us few p =
    let f = part_read AreParameters NoParameters read_parameters parameters_reads (λ vs. AreImplemented vs is) us ps (implements_no_parameters is) few p in
    then_is (read_parameters us) (λ q vs. given (last_implements vs) (λ js. Some (line.Constructor ms q js))) ps f.rest f.reads
    ∙ given_is (last_implements f.rest) (λ js. Some (line.Constructor ms ps js)) is (last_finds_members f.rest is f.few f.behind)

function_reads : (k : FunctionKind) (ms : List Modifier) (s : MethodSignature) (r : TypeName) (is : List ImplementedMember) (us : List Token) → length us ≤ most_tokens
    → Signed s.name s.type_parameters s.parameters (Part IsDeclared r (λ vs. AreImplemented vs is)) us → read_function k ms us ≡ Some (line.Function ms k s r is)
unfolding read_function
function_reads k ms s r is us few p =
    let Behinds : List Token → Type 0 = Part IsDeclared r (λ vs. AreImplemented vs is) in
    let f = signed_read Behinds us s (declared_no_parameters (λ vs. AreImplemented vs is) r) few p in
    let g = part_read IsDeclared Stops read_declared declared_reads (λ vs. AreImplemented vs is) f.rest r (implements_stops is) f.few f.behind in
    then_is (read_signature us) (λ q vs. and_then (read_declared vs) (λ t ws. given (last_implements ws) (λ js. Some (line.Function ms k q t js)))) s f.rest f.reads
    ∙ then_is (read_declared f.rest) (λ t ws. given (last_implements ws) (λ js. Some (line.Function ms k s t js))) r g.rest g.reads
    ∙ given_is (last_implements g.rest) (λ js. Some (line.Function ms k s r js)) is (last_finds_members g.rest is g.few g.behind)

header_reads : (h : PropertyHeader) (us : List Token) → length us ≤ most_tokens → IsProperty h us → read_property h.kind us ≡ Some h
unfolding read_property
header_reads h us few p =
    let Last : List Token → Type 0 = λ vs. AreImplemented vs h.implements in
    let Initial : List Token → Type 0 = Part IsInitial h.initializer Last in
    let Declared : List Token → Type 0 = Part IsDeclared h.declared Initial in
    let a = name_read (Part IsNameModifier h.modifier Declared) us h.name few p in
    let ws : List Token = a.behind.0 in
    let vs : List Token = a.behind.1 in
    let as_is : vs ≡ reserved word.As ∷ (a.behind.4.3.0 ++ a.behind.4.1) = a.behind.4.2 ∙ ap (λ xs. xs ++ a.behind.4.1) a.behind.4.3.1 in
    let modified : name_modifier_of a.rest ≡ (h.modifier, vs) =
    ap name_modifier_of (a.behind.2 ∙ ap (λ xs. ws ++ xs) as_is) ∙ modifier_finds ws (a.behind.4.3.0 ++ a.behind.4.1) h.modifier a.behind.3
    ∙ ap (λ xs. (h.modifier, xs)) (sym as_is) in
    let small : length vs ≤ most_tokens = omega (arith, a.few, ap length a.behind.2, length-append ws vs) in
    let b = part_read IsDeclared Stops read_declared declared_reads Initial vs h.declared (initial_stops h.implements h.initializer) small a.behind.4 in
    let c = part_read IsInitial EndsInitial read_initial initial_reads Last b.rest h.initializer (implements_ends h.implements) b.few b.behind in
    then_is (read_name us) (λ n xs. property_named h.kind n (name_modifier_of xs)) h.name a.rest a.reads
    ∙ ap (property_named h.kind h.name) modified
    ∙ then_is (read_declared vs) (λ x xs. and_then (read_initial xs) (λ i ys. given (last_implements ys) (λ js. Some (property_header h.kind h.name h.modifier x i js)))) h.declared b.rest b.reads
    ∙ then_is (read_initial b.rest) (λ i ys. given (last_implements ys) (λ js. Some (property_header h.kind h.name h.modifier h.declared i js))) h.initializer c.rest c.reads
    ∙ given_is (last_implements c.rest) (λ js. Some (property_header h.kind h.name h.modifier h.declared h.initializer js)) h.implements
    (last_finds_members c.rest h.implements c.few c.behind)

event_reads : (ms : List Modifier) (n : Name) (h : EventHandler) (is : List ImplementedMember) (us : List Token) → length us ≤ most_tokens
    → Names n (Part IsHandler h (λ vs. AreImplemented vs is)) us → read_event ms us ≡ Some (line.Event ms n h is)
unfolding read_event
event_reads ms n h is us few p =
    let a = name_read (Part IsHandler h (λ vs. AreImplemented vs is)) us n few p in
    let b = part_read IsHandler Stops read_handler handler_reads (λ vs. AreImplemented vs is) a.rest h (implements_stops is) a.few a.behind in
    then_is (read_name us) (λ m vs. and_then (read_handler vs) (λ g ws. given (last_implements ws) (λ js. Some (line.Event ms m g js)))) n a.rest a.reads
    ∙ then_is (read_handler a.rest) (λ g ws. given (last_implements ws) (λ js. Some (line.Event ms n g js))) h b.rest b.reads
    ∙ given_is (last_implements b.rest) (λ js. Some (line.Event ms n h js)) is (last_finds_members b.rest is b.few b.behind)

custom_event_reads : (ms : List Modifier) (n : Name) (a : TypeName) (us : List Token) → length us ≤ most_tokens → Names n (λ vs. IsDeclared vs a) us
    → read_custom_event ms us ≡ Some (line.CustomEvent ms n a)
unfolding read_custom_event
custom_event_reads ms n a us few p =
    let f = name_read (λ vs. IsDeclared vs a) us n few p in
    then_is (read_name us) (λ m vs. and_then (read_declared vs) (λ x rest. ended rest (line.CustomEvent ms m x))) n f.rest f.reads
    ∙ then_is (read_declared f.rest) (λ x rest. ended rest (line.CustomEvent ms n x)) a []
    (whole_reads IsDeclared Stops read_declared declared_reads nothing_stops f.rest a f.few f.behind)

get_reads : (a : Option Access) → read_get (access_modifiers a) [] ≡ Some (line.Get a)
unfolding read_get
get_reads a = given_is (only_access (access_modifiers a)) (λ x. ended [] (line.Get x)) a (access_is a)

set_reads : (a : Option Access) (ps : List Parameter) (us : List Token) → length us ≤ most_tokens → AreParameters us ps → read_set (access_modifiers a) us ≡ Some (line.Set a ps)
unfolding read_set
set_reads a ps us few p =
    given_is (only_access (access_modifiers a)) (λ x. and_then (read_parameters us) (λ qs rest. ended rest (line.Set x qs))) a (access_is a)
    ∙ then_is (read_parameters us) (λ qs rest. ended rest (line.Set a qs)) ps []
    (whole_reads AreParameters NoParameters read_parameters parameters_reads nothing_no_opening us ps few p)

accessor_reads : (k : EventAccessorKind) (ps : List Parameter) (us : List Token) → length us ≤ most_tokens → AreWritten us ps → read_accessor k [] us ≡ Some (line.EventAccessor k ps)
unfolding read_accessor
accessor_reads k ps us few p =
    then_is (read_written us) (λ qs rest. ended rest (line.EventAccessor k qs)) ps [] (whole_reads AreWritten Anything read_written written_reads tt us ps few p)

-- BY THE FIRST WORD

module _ (words : ContextualWords) where
  is_module : (ms : List Modifier) (us : List Token) → read_header words ms (reserved word.Module ∷ us) ≡ read_module ms us
  unfolding read_header by_word by_access
  is_module ms us = refl

  is_class : (ms : List Modifier) (us : List Token) → read_header words ms (reserved word.Class ∷ us) ≡ read_class None ms us
  unfolding read_header by_word by_access
  is_class ms us = refl

  is_interface : (ms : List Modifier) (us : List Token) → read_header words ms (reserved word.Interface ∷ us) ≡ read_interface ms us
  unfolding read_header by_word by_access
  is_interface ms us = refl

  is_inherits : (ms : List Modifier) (us : List Token) → read_header words ms (reserved word.Inherits ∷ us) ≡ read_inherits ms us
  unfolding read_header by_word by_access
  is_inherits ms us = refl

  is_implements : (ms : List Modifier) (us : List Token) → read_header words ms (reserved word.Implements ∷ us) ≡ read_implements_line ms us
  unfolding read_header by_word by_access
  is_implements ms us = refl

  is_get : (ms : List Modifier) (us : List Token) → read_header words ms (reserved word.Get ∷ us) ≡ read_get ms us
  unfolding read_header by_word by_access
  is_get ms us = refl

  is_set : (ms : List Modifier) (us : List Token) → read_header words ms (reserved word.Set ∷ us) ≡ read_set ms us
  unfolding read_header by_word by_access
  is_set ms us = refl

  is_add_handler : (ms : List Modifier) (us : List Token) → read_header words ms (reserved word.AddHandler ∷ us) ≡ read_accessor accessor.AddHandler ms us
  unfolding read_header by_word by_access
  is_add_handler ms us = refl

  is_remove_handler : (ms : List Modifier) (us : List Token) → read_header words ms (reserved word.RemoveHandler ∷ us) ≡ read_accessor accessor.RemoveHandler ms us
  unfolding read_header by_word by_access
  is_remove_handler ms us = refl

  is_raise_event : (ms : List Modifier) (us : List Token) → read_header words ms (reserved word.RaiseEvent ∷ us) ≡ read_accessor accessor.RaiseEvent ms us
  unfolding read_header by_word by_access
  is_raise_event ms us = refl

  is_must_inherit : (ms : List Modifier) (us : List Token) → read_header words ms (reserved word.MustInherit ∷ reserved word.Class ∷ us) ≡ read_class (Some class_modifier.MustInherit) ms us
  unfolding read_header by_word by_access class_behind
  is_must_inherit ms us = refl

  is_not_inheritable : (ms : List Modifier) (us : List Token) → read_header words ms (reserved word.NotInheritable ∷ reserved word.Class ∷ us) ≡ read_class (Some class_modifier.NotInheritable) ms us
  unfolding read_header by_word by_access class_behind
  is_not_inheritable ms us = refl

  is_delegate_sub : (ms : List Modifier) (us : List Token) → read_header words ms (reserved word.Delegate ∷ reserved word.Sub ∷ us) ≡ read_delegate delegate.Sub ms us
  unfolding read_header by_word by_access delegate_behind
  is_delegate_sub ms us = refl

  is_delegate_function : (ms : List Modifier) (us : List Token) → read_header words ms (reserved word.Delegate ∷ reserved word.Function ∷ us) ≡ read_delegate delegate.Function ms us
  unfolding read_header by_word by_access delegate_behind
  is_delegate_function ms us = refl

  is_new : (ms : List Modifier) (us : List Token) → read_header words ms (reserved word.Sub ∷ reserved word.New ∷ us) ≡ read_constructor ms us
  unfolding read_header by_word sub_behind
  is_new ms us = refl

  is_function : (ms : List Modifier) (us : List Token) → read_header words ms (reserved word.Function ∷ us) ≡ read_function function.Regular ms us
  unfolding read_header by_word
  is_function ms us = refl

  is_event : (ms : List Modifier) (us : List Token) → read_header words ms (reserved word.Event ∷ us) ≡ read_event ms us
  unfolding read_header by_word
  is_event ms us = refl

  is_write_only : (ms : List Modifier) (us : List Token) → read_header words ms (reserved word.WriteOnly ∷ reserved word.Property ∷ us) ≡ property_of (ms, property.WriteOnly) us
  unfolding read_header by_word write_only_behind
  is_write_only ms us = refl

  is_property : (ms : List Modifier) (us : List Token) → read_header words ms (reserved word.Property ∷ us) ≡ property_of (property_split ms) us
  unfolding read_header by_word property_behind
  is_property ms us = refl

  name_no_new : (ms : List Modifier) (t : Token) (n : Name) (us : List Token) → name_of t ≡ Some n → sub_behind ms (t ∷ us) ≡ read_sub ms (t ∷ us)
  unfolding sub_behind
  name_no_new ms (token.Name m) n us e = refl
  name_no_new ms (token.EscapedName m) n us e = refl
  name_no_new ms t n us e = absurd cc

  is_sub : (ms : List Modifier) (t : Token) (n : Name) (us : List Token) → name_of t ≡ Some n → read_header words ms (reserved word.Sub ∷ t ∷ us) ≡ read_sub ms (t ∷ us)
  unfolding read_header by_word
  is_sub ms t n us e = name_no_new ms t n us e

  is_iterator : (ms : List Modifier) (us : List Token) → read_header words ms (token.Name words.iterator ∷ reserved word.Function ∷ us) ≡ read_function function.Iterator ms us
  unfolding read_header by_name
  is_iterator ms us = ap (λ b. if b then read_function function.Iterator ms us else None) (eq-eqb words.iterator.index words.iterator.index refl)

  is_custom : (ms : List Modifier) (us : List Token) → read_header words ms (token.Name words.custom ∷ reserved word.Event ∷ us) ≡ read_custom_event ms us
  unfolding read_header by_name
  is_custom ms us = ap (λ b. if b then read_custom_event ms us else None) (eq-eqb words.custom.index words.custom.index refl)

  accessor_line : (k : EventAccessorKind) (us : List Token) → read_header words [] (reserved (accessor_word k) ∷ us) ≡ read_accessor k [] us
  accessor_line accessor.AddHandler us = is_add_handler [] us
  accessor_line accessor.RemoveHandler us = is_remove_handler [] us
  accessor_line accessor.RaiseEvent us = is_raise_event [] us

  delegate_line : (k : DelegateKind) (ms : List Modifier) (us : List Token) → read_header words ms (reserved word.Delegate ∷ reserved (delegate_word k) ∷ us) ≡ read_delegate k ms us
  delegate_line delegate.Sub ms us = is_delegate_sub ms us
  delegate_line delegate.Function ms us = is_delegate_function ms us

  class_line : (a : Option Access) (m : Option ClassModifier) (n : Name) (ps : List TypeParameter) (ts : List Token) → length ts ≤ most_tokens → Behind words (line.Class a m n ps) ts
      → read_header words (access_modifiers a) ts ≡ Some (line.Class a m n ps)
  class_line a None n ps ts few (us, is, p) =
      ap (read_header words (access_modifiers a)) is ∙ is_class (access_modifiers a) us ∙ class_reads a None n ps us (fewer ts us (reserved word.Class) is few) p
  class_line a (Some class_modifier.MustInherit) n ps ts few (us, is, (vs, is2, p)) =
      ap (read_header words (access_modifiers a)) (is ∙ ap (λ ws. reserved word.MustInherit ∷ ws) is2) ∙ is_must_inherit (access_modifiers a) vs
      ∙ class_reads a (Some class_modifier.MustInherit) n ps vs (fewer us vs (reserved word.Class) is2 (fewer ts us (reserved word.MustInherit) is few)) p
  class_line a (Some class_modifier.NotInheritable) n ps ts few (us, is, (vs, is2, p)) =
      ap (read_header words (access_modifiers a)) (is ∙ ap (λ ws. reserved word.NotInheritable ∷ ws) is2) ∙ is_not_inheritable (access_modifiers a) vs
      ∙ class_reads a (Some class_modifier.NotInheritable) n ps vs (fewer us vs (reserved word.Class) is2 (fewer ts us (reserved word.NotInheritable) is few)) p

  function_line : (k : FunctionKind) (ms : List Modifier) (s : MethodSignature) (r : TypeName) (is : List ImplementedMember) (ts : List Token) → length ts ≤ most_tokens
      → Behind words (line.Function ms k s r is) ts → read_header words ms ts ≡ Some (line.Function ms k s r is)
  function_line function.Regular ms s r js ts few (us, is, p) =
      ap (read_header words ms) is ∙ is_function ms us ∙ function_reads function.Regular ms s r js us (fewer ts us (reserved word.Function) is few) p
  function_line function.Iterator ms s r js ts few (us, is, (vs, is2, p)) =
      ap (read_header words ms) (is ∙ ap (λ ws. token.Name words.iterator ∷ ws) is2) ∙ is_iterator ms vs
      ∙ function_reads function.Iterator ms s r js vs (fewer us vs (reserved word.Function) is2 (fewer ts us (token.Name words.iterator) is few)) p

  property_is : (ms : List Modifier) (h : PropertyHeader) (k : PropertyKind) (us : List Token) → h.kind ≡ k → length us ≤ most_tokens → IsProperty h us
      → property_of (ms, k) us ≡ Some (line.Property ms h)
  property_is ms h k us same few p =
      given_is (read_property k us) (λ x. Some (line.Property ms x)) h (ap (λ j. read_property j us) (sym same) ∙ header_reads h us few p)

  property_line : (ms all : List Modifier) (h : PropertyHeader) (k : PropertyKind) (ts : List Token) → h.kind ≡ k → length ts ≤ most_tokens
      → ArePropertyModifiers ms k all → Words (property_words k) (IsProperty h) ts → read_header words all ts ≡ Some (line.Property ms h)
  property_line ms all h property.WriteOnly ts same few are (us, is, (vs, is2, p)) =
      ap (read_header words all) (is ∙ ap (λ ws. reserved word.WriteOnly ∷ ws) is2) ∙ is_write_only all vs
      ∙ ap (λ (xs : List Modifier). property_of (xs, property.WriteOnly) vs) (sym are)
      ∙ property_is ms h property.WriteOnly vs same (fewer us vs (reserved word.Property) is2 (fewer ts us (reserved word.WriteOnly) is few)) p
  property_line ms all h property.ReadOnly ts same few are (us, is, p) =
      ap (read_header words all) is ∙ is_property all us ∙ ap (λ q. property_of q us) (read_only_split ms all are)
      ∙ property_is ms h property.ReadOnly us same (fewer ts us (reserved word.Property) is few) p
  property_line ms all h property.ReadWrite ts same few are (us, is, p) =
      ap (read_header words all) is ∙ is_property all us ∙ ap (λ q. property_of q us) (read_write_split ms all are)
      ∙ property_is ms h property.ReadWrite us same (fewer ts us (reserved word.Property) is few) p

  sub_line : (ms : List Modifier) (s : MethodSignature) (is : List ImplementedMember) (ts : List Token) → length ts ≤ most_tokens
      → Behind words (line.Sub ms s is) ts → read_header words ms ts ≡ Some (line.Sub ms s is)
  sub_line ms s js ts few (us, is, (t, vs, is2, named, p)) =
      ap (read_header words ms) (is ∙ ap (λ ws. reserved word.Sub ∷ ws) is2) ∙ is_sub ms t s.name vs named ∙ ap (read_sub ms) (sym is2)
      ∙ sub_reads ms s js us (fewer ts us (reserved word.Sub) is few) (t, vs, is2, named, p)

  -- lines of variables and of constants are read in another way
  abbrev pub IsHeaderLine : DeclarationLine → Type 0
  IsHeaderLine (line.Variables ms ds) = ⊥
  IsHeaderLine (line.Constants ms ds) = ⊥
  IsHeaderLine d = Unit {0}

  as_written : (ms all : List Modifier) (ts : List Token) (d : DeclarationLine) → ms ≡ all → read_header words ms ts ≡ Some d → read_header words all ts ≡ Some d
  as_written ms all ts d are e = ap (λ (xs : List Modifier). read_header words xs ts) (sym are) ∙ e

  pub header_read : (d : DeclarationLine) (all : List Modifier) (ts : List Token) → IsHeaderLine d → length ts ≤ most_tokens → AreModifiersOf d all → Behind words d ts
      → read_header words all ts ≡ Some d
  header_read (line.Module a n) all ts header few are (us, is, p) =
      as_written (access_modifiers a) all ts (line.Module a n) are
      (ap (read_header words (access_modifiers a)) is ∙ is_module (access_modifiers a) us ∙ module_reads a n us (fewer ts us (reserved word.Module) is few) p)
  header_read (line.Class a m n ps) all ts header few are p =
      as_written (access_modifiers a) all ts (line.Class a m n ps) are
      (class_line a m n ps ts few p)
  header_read (line.Interface a n ps) all ts header few are (us, is, p) =
      as_written (access_modifiers a) all ts (line.Interface a n ps) are
      (ap (read_header words (access_modifiers a)) is ∙ is_interface (access_modifiers a) us ∙ interface_reads a n ps us (fewer ts us (reserved word.Interface) is few) p)
  header_read (line.Delegate a k n qs ps r) all ts header few are (us, is, (vs, is2, p)) =
      as_written (access_modifiers a) all ts (line.Delegate a k n qs ps r) are
      (ap (read_header words (access_modifiers a)) (is ∙ ap (λ ws. reserved word.Delegate ∷ ws) is2) ∙ delegate_line k (access_modifiers a) vs
      ∙ delegate_reads a k (record { name = n; type_parameters = qs; parameters = ps }) r vs
      (fewer us vs (reserved (delegate_word k)) is2 (fewer ts us (reserved word.Delegate) is few)) p)
  header_read (line.Inherits bases) all ts header few are (us, is, p) =
      as_written [] all ts (line.Inherits bases) are
      (ap (read_header words []) is ∙ is_inherits [] us ∙ inherits_reads bases us (fewer ts us (reserved word.Inherits) is few) p)
  header_read (line.Implements bases) all ts header few are (us, is, p) =
      as_written [] all ts (line.Implements bases) are
      (ap (read_header words []) is ∙ is_implements [] us ∙ implements_reads bases us (fewer ts us (reserved word.Implements) is few) p)
  header_read (line.Variables ms ds) all ts header few are p = absurd header
  header_read (line.Constants ms ds) all ts header few are p = absurd header
  header_read (line.Sub ms s is) all ts header few are p =
      as_written ms all ts (line.Sub ms s is) are
      (sub_line ms s is ts few p)
  header_read (line.Constructor ms ps js) all ts header few are (us, is, (vs, is2, p)) =
      as_written ms all ts (line.Constructor ms ps js) are
      (ap (read_header words ms) (is ∙ ap (λ ws. reserved word.Sub ∷ ws) is2) ∙ is_new ms vs
      ∙ constructor_reads ms ps js vs (fewer us vs (reserved word.New) is2 (fewer ts us (reserved word.Sub) is few)) p)
  header_read (line.Function ms k s r is) all ts header few are p =
      as_written ms all ts (line.Function ms k s r is) are
      (function_line k ms s r is ts few p)
  header_read (line.Property ms h) all ts header few are p = property_line ms all h h.kind ts refl few are p
  header_read (line.Event ms n h js) all ts header few are (us, is, p) =
      as_written ms all ts (line.Event ms n h js) are
      (ap (read_header words ms) is ∙ is_event ms us ∙ event_reads ms n h js us (fewer ts us (reserved word.Event) is few) p)
  header_read (line.CustomEvent ms n a) all ts header few are (us, is, (vs, is2, p)) =
      as_written ms all ts (line.CustomEvent ms n a) are
      (ap (read_header words ms) (is ∙ ap (λ ws. token.Name words.custom ∷ ws) is2) ∙ is_custom ms vs
      ∙ custom_event_reads ms n a vs (fewer us vs (reserved word.Event) is2 (fewer ts us (token.Name words.custom) is few)) p)
  header_read (line.Get a) all ts header few are is =
      as_written (access_modifiers a) all ts (line.Get a) are
      (ap (read_header words (access_modifiers a)) is ∙ is_get (access_modifiers a) [] ∙ get_reads a)
  header_read (line.Set a ps) all ts header few are (us, is, p) =
      as_written (access_modifiers a) all ts (line.Set a ps) are
      (ap (read_header words (access_modifiers a)) is ∙ is_set (access_modifiers a) us ∙ set_reads a ps us (fewer ts us (reserved word.Set) is few) p)
  header_read (line.EventAccessor k ps) all ts header few are (us, is, p) =
      as_written [] all ts (line.EventAccessor k ps) are
      (ap (read_header words []) is ∙ accessor_line k us ∙ accessor_reads k ps us (fewer ts us (reserved (accessor_word k)) is few) p)
