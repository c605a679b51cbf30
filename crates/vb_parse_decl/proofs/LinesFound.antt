-- What is read behind the modifiers of a line stands there.
use Rattle.std.proofs.Common.{◌≡◌, ℕ, Bool, true, false, List, [], ◌∷◌, ◌++◌, Option, Some, None, refl, sym, ap, subst, ◌∙◌}
use Rattle.std.specs.Prelude.{◌==◌, if◌then◌else◌}
use Rattle.std.proofs.lemmas.Bool.{eqb-true}
use Rattle.vb_text.specs.declared.names.Name.{Name}
use Rattle.vb_syntax.specs.declared.{keyword.Keyword.Keyword, tokens.Token.Token, types.{TypeName.TypeName, TypeParameter.TypeParameter}, declaration.{Access.Access, ClassModifier.ClassModifier, DelegateKind.DelegateKind, FunctionKind.FunctionKind, ImplementedMember.ImplementedMember, MethodSignature.MethodSignature, Modifier.Modifier, PropertyKind.PropertyKind}, item.{DeclarationLine.DeclarationLine, EventAccessorKind.EventAccessorKind, PropertyHeader.PropertyHeader}, words.ContextualWords.ContextualWords}
use Rattle.vb_syntax.specs.declared.keyword.Keyword.TheVariants as word
use Rattle.vb_syntax.specs.declared.tokens.Token.TheVariants as token
use Rattle.vb_syntax.specs.declared.declaration.ClassModifier.TheVariants as class_modifier
use Rattle.vb_syntax.specs.declared.declaration.DelegateKind.TheVariants as delegate
use Rattle.vb_syntax.specs.declared.declaration.FunctionKind.TheVariants as function
use Rattle.vb_syntax.specs.declared.declaration.Modifier.TheVariants as modifier
use Rattle.vb_syntax.specs.declared.declaration.PropertyKind.TheVariants as property
use Rattle.vb_syntax.specs.declared.item.DeclarationLine.TheVariants as line
use Rattle.vb_syntax.specs.declared.item.EventAccessorKind.TheVariants as accessor
use Rattle.vb_parse_expr.specs.TypeReading.{and_then, read_name, read_type}
use Rattle.vb_parse_expr.proofs.TypeNames.{then_some, name_first}
use Rattle.vb_parse_decl.specs.{Parts.{reserved, IsType, Names, Words, Part, AreListed}, Declarations.{AreTypeParameters, IsNameModifier, IsDeclared, AreWritten, AreParameters, Signed, IsResult, IsHandler, IsInitial, AreImplemented}, DeclarationLines.{access_modifiers, ArePropertyModifiers, AreModifiersOf, delegate_word, property_words, accessor_word, IsProperty, Behind}, DeclarationReading.{read_list, name_modifier_of, read_declared, read_written, read_parameters, read_type_parameters, read_signature, read_result}, ModifierReading.{only_access, property_split}, LineReading.{ended, given, last_implements, read_module, read_class, read_interface, read_delegate, last_types, read_inherits, read_implements_line, read_sub, read_constructor, read_function, read_initial, property_header, property_named, read_property, property_of, read_handler, read_event, read_custom_event, read_get, read_set, read_accessor, class_behind, delegate_behind, sub_behind, write_only_behind, property_behind, by_access, by_word, by_name, read_header}}
use Rattle.vb_parse_decl.proofs.{Readers.{read_part, read_names, some_same}, ReadersLists.EndsList, ReadersTypes.{Stops, types_reads}, ReadersParameters.{NoTypeParameters, NoParameters, Anything, type_parameters_reads, declared_reads, written_reads, parameters_reads, modifier_found}, ReadersMembers.{ended_found, whole_found, last_found_members}, ReadersSignatures.{EndsInitial, signed_found, result_found, handler_reads, initial_reads}, PropertyModifiers.{SplitModifiers, split_found}}

-- the line has these modifiers, and is spelled behind them
pub record Stands (words : ContextualWords) (ms : List Modifier) (ts : List Token) (d : DeclarationLine) : Type 0 where
  pub modifiers : AreModifiersOf d ms
  pub behind : Behind words d ts

stands_as : (words : ContextualWords) (ms : List Modifier) (ts : List Token) (d b : DeclarationLine) → b ≡ d → Stands words ms ts b → Stands words ms ts d
stands_as words ms ts d b same s = subst (λ (x : DeclarationLine). Stands words ms ts x) same s

given_some : {A B : Type 0} (o : Option A) (f : A → Option B) (y : B) → given o f ≡ Some y → (x : A) × (o ≡ Some x) × (f x ≡ Some y)
given_some None f y e = absurd cc
given_some (Some x) f y e = (x, refl, e)

access_of : (ms : List Modifier) (a : Option Access) → only_access ms ≡ Some a → access_modifiers a ≡ ms
access_of [] a e = let same : None ≡ a = some_same None a e in ap access_modifiers (sym same)
access_of (modifier.Access x ∷ []) a e = let same : Some x ≡ a = some_same (Some x) a e in ap access_modifiers (sym same)
access_of ms a e = absurd cc

-- NAMES THAT ARE WORDS

chosen : {B : Type 0} (b : Bool) (x : Option B) (y : B) → (if b then x else None) ≡ Some y → (b ≡ true) × (x ≡ Some y)
chosen true x y e = (refl, e)
chosen false x y e = absurd cc

pub name_is : (n m : Name) → (n.index == m.index) ≡ true → n ≡ m
name_is n m e = ap (λ (i : ℕ). record { index = i }) (eqb-true n.index m.index e)

-- TYPES

module _ (words : ContextualWords) where
  module_found : (ms : List Modifier) (ts : List Token) (d : DeclarationLine) → read_module ms ts ≡ Some d → Stands words ms (reserved word.Module ∷ ts) d
  unfolding read_module
  module_found ms ts d e =
      let a = given_some (only_access ms) (λ x. and_then (read_name ts) (λ n rest. ended rest (line.Module x n))) d e in
      let b = then_some (read_name ts) (λ n rest. ended rest (line.Module a.0 n)) a.2 in
      let f = ended_found b.0.1 (line.Module a.0 b.0.0) d b.2 in
      let n = name_first ts b.0.0 b.0.1 b.1 in
      stands_as words ms (reserved word.Module ∷ ts) d (line.Module a.0 b.0.0) f.1
      (record { modifiers = access_of ms a.0 a.1; behind = (ts, refl, (n.0, n.1 ∙ ap (λ us. n.0 ∷ us) f.0, n.2)) })

  record FoundClass (m : Option ClassModifier) (ms : List Modifier) (ts : List Token) (d : DeclarationLine) : Type 0 where
    a : Option Access
    n : Name
    ps : List TypeParameter
    made : line.Class a m n ps ≡ d
    access : access_modifiers a ≡ ms
    names : Names n (λ us. AreTypeParameters us ps) ts

  class_found : (m : Option ClassModifier) (ms : List Modifier) (ts : List Token) (d : DeclarationLine) → read_class m ms ts ≡ Some d → FoundClass m ms ts d
  unfolding read_class
  class_found m ms ts d e =
      let a = given_some (only_access ms) (λ x. and_then (read_name ts) (λ n us. and_then (read_type_parameters us) (λ ps rest. ended rest (line.Class x m n ps)))) d e in
      let b = then_some (read_name ts) (λ n us. and_then (read_type_parameters us) (λ ps rest. ended rest (line.Class a.0 m n ps))) a.2 in
      let c = then_some (read_type_parameters b.0.1) (λ ps rest. ended rest (line.Class a.0 m b.0.0 ps)) b.2 in
      let f = ended_found c.0.1 (line.Class a.0 m b.0.0 c.0.0) d c.2 in
      record {
        a = a.0;
        n = b.0.0;
        ps = c.0.0;
        made = f.1;
        access = access_of ms a.0 a.1;
        names = read_names (λ us. AreTypeParameters us c.0.0) ts b.0.1 b.0.0 b.1
            (whole_found AreTypeParameters NoTypeParameters read_type_parameters type_parameters_reads b.0.1 c.0.1 c.0.0 c.1 f.0);
      }

  plain_class_found : (ms : List Modifier) (ts : List Token) (d : DeclarationLine) → read_class None ms ts ≡ Some d → Stands words ms (reserved word.Class ∷ ts) d
  plain_class_found ms ts d e =
      let f = class_found None ms ts d e in
      stands_as words ms (reserved word.Class ∷ ts) d (line.Class f.a None f.n f.ps) f.made (record { modifiers = f.access; behind = (ts, refl, f.names) })

  must_inherit_found : (ms : List Modifier) (ts : List Token) (d : DeclarationLine) → class_behind class_modifier.MustInherit ms ts ≡ Some d
      → Stands words ms (reserved word.MustInherit ∷ ts) d
  unfolding class_behind
  must_inherit_found ms (token.Keyword word.Class ∷ ts) d e =
      let f = class_found (Some class_modifier.MustInherit) ms ts d e in
      stands_as words ms (reserved word.MustInherit ∷ reserved word.Class ∷ ts) d (line.Class f.a (Some class_modifier.MustInherit) f.n f.ps) f.made
      (record { modifiers = f.access; behind = (reserved word.Class ∷ ts, refl, (ts, refl, f.names)) })
  must_inherit_found ms ts d e = absurd cc

  not_inheritable_found : (ms : List Modifier) (ts : List Token) (d : DeclarationLine) → class_behind class_modifier.NotInheritable ms ts ≡ Some d
      → Stands words ms (reserved word.NotInheritable ∷ ts) d
  unfolding class_behind
  not_inheritable_found ms (token.Keyword word.Class ∷ ts) d e =
      let f = class_found (Some class_modifier.NotInheritable) ms ts d e in
      stands_as words ms (reserved word.NotInheritable ∷ reserved word.Class ∷ ts) d (line.Class f.a (Some class_modifier.NotInheritable) f.n f.ps) f.made
      (record { modifiers = f.access; behind = (reserved word.Class ∷ ts, refl, (ts, refl, f.names)) })
  not_inheritable_found ms ts d e = absurd cc

  interface_found : (ms : List Modifier) (ts : List Token) (d : DeclarationLine) → read_interface ms ts ≡ Some d → Stands words ms (reserved word.Interface ∷ ts) d
  unfolding read_interface
  interface_found ms ts d e =
      let a = given_some (only_access ms) (λ x. and_then (read_name ts) (λ n us. and_then (read_type_parameters us) (λ ps rest. ended rest (line.Interface x n ps)))) d e in
      let b = then_some (read_name ts) (λ n us. and_then (read_type_parameters us) (λ ps rest. ended rest (line.Interface a.0 n ps))) a.2 in
      let c = then_some (read_type_parameters b.0.1) (λ ps rest. ended rest (line.Interface a.0 b.0.0 ps)) b.2 in
      let f = ended_found c.0.1 (line.Interface a.0 b.0.0 c.0.0) d c.2 in
      stands_as words ms (reserved word.Interface ∷ ts) d (line.Interface a.0 b.0.0 c.0.0) f.1
      (record {
        modifiers = access_of ms a.0 a.1;
        behind = (
          ts,
          refl,
          read_names (λ us. AreTypeParameters us c.0.0) ts b.0.1 b.0.0 b.1
              (whole_found AreTypeParameters NoTypeParameters read_type_parameters type_parameters_reads b.0.1 c.0.1 c.0.0 c.1 f.0),
        );
      })

  kind_found : (k : DelegateKind) (ms : List Modifier) (ts : List Token) (d : DeclarationLine) → read_delegate k ms ts ≡ Some d
      → Stands words ms (reserved word.Delegate ∷ reserved (delegate_word k) ∷ ts) d
  unfolding read_delegate
  kind_found k ms ts d e =
      let a = given_some (only_access ms) (λ x. and_then (read_signature ts) (λ s us. and_then (read_result us) (λ r rest. ended rest (line.Delegate x k s.name s.type_parameters s.parameters r)))) d e in
      let b = then_some (read_signature ts) (λ s us. and_then (read_result us) (λ r rest. ended rest (line.Delegate a.0 k s.name s.type_parameters s.parameters r))) a.2 in
      let s = b.0.0 in
      let c = then_some (read_result b.0.1) (λ r rest. ended rest (line.Delegate a.0 k s.name s.type_parameters s.parameters r)) b.2 in
      let f = ended_found c.0.1 (line.Delegate a.0 k s.name s.type_parameters s.parameters c.0.0) d c.2 in
      stands_as words ms (reserved word.Delegate ∷ reserved (delegate_word k) ∷ ts) d (line.Delegate a.0 k s.name s.type_parameters s.parameters c.0.0) f.1
      (record {
        modifiers = access_of ms a.0 a.1;
        behind = (reserved (delegate_word k) ∷ ts, refl, (ts, refl, signed_found (λ us. IsResult us c.0.0) ts b.0.1 s b.1 (result_found b.0.1 c.0.1 c.0.0 c.1 f.0)));
      })

  delegate_found : (ms : List Modifier) (ts : List Token) (d : DeclarationLine) → delegate_behind ms ts ≡ Some d → Stands words ms (reserved word.Delegate ∷ ts) d
  unfolding delegate_behind
  delegate_found ms (token.Keyword word.Sub ∷ ts) d e = kind_found delegate.Sub ms ts d e
  delegate_found ms (token.Keyword word.Function ∷ ts) d e = kind_found delegate.Function ms ts d e
  delegate_found ms ts d e = absurd cc

  types_found : (ms : List Modifier) (ts : List Token) (bases : List TypeName) → last_types ms ts ≡ Some bases → ([] ≡ ms) × AreListed IsType ts bases
  unfolding last_types
  types_found [] ts bases e =
      let b = then_some (read_list read_type ts) (λ xs rest. ended rest xs) e in
      let f = ended_found b.0.1 b.0.0 bases b.2 in
      (refl, whole_found (AreListed IsType) EndsList (read_list read_type) types_reads ts b.0.1 bases (b.1 ∙ ap (λ xs. Some (xs, b.0.1)) f.1) f.0)
  types_found (m ∷ ms) ts bases e = absurd cc

  inherits_found : (ms : List Modifier) (ts : List Token) (d : DeclarationLine) → read_inherits ms ts ≡ Some d → Stands words ms (reserved word.Inherits ∷ ts) d
  unfolding read_inherits
  inherits_found ms ts d e =
      let a = given_some (last_types ms ts) (λ bases. Some (line.Inherits bases)) d e in
      let f = types_found ms ts a.0 a.1 in
      stands_as words ms (reserved word.Inherits ∷ ts) d (line.Inherits a.0) (some_same (line.Inherits a.0) d a.2) (record { modifiers = f.0; behind = (ts, refl, f.1) })

  implements_found : (ms : List Modifier) (ts : List Token) (d : DeclarationLine) → read_implements_line ms ts ≡ Some d → Stands words ms (reserved word.Implements ∷ ts) d
  unfolding read_implements_line
  implements_found ms ts d e =
      let a = given_some (last_types ms ts) (λ bases. Some (line.Implements bases)) d e in
      let f = types_found ms ts a.0 a.1 in
      stands_as words ms (reserved word.Implements ∷ ts) d (line.Implements a.0) (some_same (line.Implements a.0) d a.2) (record { modifiers = f.0; behind = (ts, refl, f.1) })

  -- MEMBERS

  plain_sub_found : (ms : List Modifier) (ts : List Token) (d : DeclarationLine) → read_sub ms ts ≡ Some d → Stands words ms (reserved word.Sub ∷ ts) d
  unfolding read_sub
  plain_sub_found ms ts d e =
      let a = then_some (read_signature ts) (λ s us. given (last_implements us) (λ is. Some (line.Sub ms s is))) e in
      let b = given_some (last_implements a.0.1) (λ is. Some (line.Sub ms a.0.0 is)) d a.2 in
      stands_as words ms (reserved word.Sub ∷ ts) d (line.Sub ms a.0.0 b.0) (some_same (line.Sub ms a.0.0 b.0) d b.2)
      (record {
        modifiers = refl;
        behind = (ts, refl, signed_found (λ us. AreImplemented us b.0) ts a.0.1 a.0.0 a.1 (last_found_members a.0.1 b.0 b.1));
      })

  constructor_found : (ms : List Modifier) (ts : List Token) (d : DeclarationLine) → read_constructor ms ts ≡ Some d
      → Stands words ms (reserved word.Sub ∷ reserved word.New ∷ ts) d
  unfolding read_constructor
  constructor_found ms ts d e =
      let a = then_some (read_parameters ts) (λ ps us. given (last_implements us) (λ is. Some (line.Constructor ms ps is))) e in
      let b = given_some (last_implements a.0.1) (λ is. Some (line.Constructor ms a.0.0 is)) d a.2 in
      stands_as words ms (reserved word.Sub ∷ reserved word.New ∷ ts) d (line.Constructor ms a.0.0 b.0) (some_same (line.Constructor ms a.0.0 b.0) d b.2)
      (record {
        modifiers = refl;
        behind = (
          reserved word.New ∷ ts,
          refl,
          (
            ts,
            refl,
            read_part AreParameters NoParameters read_parameters parameters_reads (λ us. AreImplemented us b.0) ts a.0.1 a.0.0 a.1
                (last_found_members a.0.1 b.0 b.1),
          ),
        );
      })

  sub_found : (ms : List Modifier) (ts : List Token) (d : DeclarationLine) → sub_behind ms ts ≡ Some d → Stands words ms (reserved word.Sub ∷ ts) d
  unfolding sub_behind
  sub_found ms (token.Keyword word.New ∷ ts) d e = constructor_found ms ts d e
  sub_found ms ts d e = plain_sub_found ms ts d e

  record FoundFunction (k : FunctionKind) (ms : List Modifier) (ts : List Token) (d : DeclarationLine) : Type 0 where
    s : MethodSignature
    r : TypeName
    is : List ImplementedMember
    made : line.Function ms k s r is ≡ d
    signed : Signed s.name s.type_parameters s.parameters (Part IsDeclared r (λ us. AreImplemented us is)) ts

  function_found : (k : FunctionKind) (ms : List Modifier) (ts : List Token) (d : DeclarationLine) → read_function k ms ts ≡ Some d → FoundFunction k ms ts d
  unfolding read_function
  function_found k ms ts d e =
      let a = then_some (read_signature ts) (λ s us. and_then (read_declared us) (λ r vs. given (last_implements vs) (λ is. Some (line.Function ms k s r is)))) e in
      let b = then_some (read_declared a.0.1) (λ r vs. given (last_implements vs) (λ is. Some (line.Function ms k a.0.0 r is))) a.2 in
      let c = given_some (last_implements b.0.1) (λ is. Some (line.Function ms k a.0.0 b.0.0 is)) d b.2 in
      record {
        s = a.0.0;
        r = b.0.0;
        is = c.0;
        made = some_same (line.Function ms k a.0.0 b.0.0 c.0) d c.2;
        signed = signed_found (Part IsDeclared b.0.0 (λ us. AreImplemented us c.0)) ts a.0.1 a.0.0 a.1
            (read_part IsDeclared Stops read_declared declared_reads (λ us. AreImplemented us c.0) a.0.1 b.0.1 b.0.0 b.1 (last_found_members b.0.1 c.0 c.1));
      }

  regular_found : (ms : List Modifier) (ts : List Token) (d : DeclarationLine) → read_function function.Regular ms ts ≡ Some d → Stands words ms (reserved word.Function ∷ ts) d
  regular_found ms ts d e =
      let f = function_found function.Regular ms ts d e in
      stands_as words ms (reserved word.Function ∷ ts) d (line.Function ms function.Regular f.s f.r f.is) f.made (record { modifiers = refl; behind = (ts, refl, f.signed) })

  iterator_found : (ms : List Modifier) (ts : List Token) (d : DeclarationLine) → read_function function.Iterator ms ts ≡ Some d
      → Stands words ms (token.Name words.iterator ∷ reserved word.Function ∷ ts) d
  iterator_found ms ts d e =
      let f = function_found function.Iterator ms ts d e in
      stands_as words ms (token.Name words.iterator ∷ reserved word.Function ∷ ts) d (line.Function ms function.Iterator f.s f.r f.is) f.made
      (record { modifiers = refl; behind = (reserved word.Function ∷ ts, refl, (ts, refl, f.signed)) })

  -- PROPERTIES

  record FoundHeader (k : PropertyKind) (ts : List Token) (h : PropertyHeader) : Type 0 where
    kind : h.kind ≡ k
    header : IsProperty h ts

  header_as : (k : PropertyKind) (ts : List Token) (g h : PropertyHeader) → g ≡ h → FoundHeader k ts g → FoundHeader k ts h
  header_as k ts g h same f = subst (λ (x : PropertyHeader). FoundHeader k ts x) same f

  header_found : (k : PropertyKind) (ts : List Token) (h : PropertyHeader) → read_property k ts ≡ Some h → FoundHeader k ts h
  unfolding read_property
  header_found k ts h e =
      let a = then_some (read_name ts) (λ n us. property_named k n (name_modifier_of us)) e in
      let n = a.0.0 in
      let m = modifier_found a.0.1 in
      let b = then_some (read_declared (name_modifier_of a.0.1).1)
      (λ x us. and_then (read_initial us) (λ i vs. given (last_implements vs) (λ is. Some (property_header k n (name_modifier_of a.0.1).0 x i is)))) a.2 in
      let c = then_some (read_initial b.0.1) (λ i vs. given (last_implements vs) (λ is. Some (property_header k n (name_modifier_of a.0.1).0 b.0.0 i is))) b.2 in
      let d = given_some (last_implements c.0.1) (λ is. Some (property_header k n (name_modifier_of a.0.1).0 b.0.0 c.0.0 is)) h c.2 in
      let g : PropertyHeader = property_header k n (name_modifier_of a.0.1).0 b.0.0 c.0.0 d.0 in
      header_as k ts g h (some_same g h d.2)
      (record {
        kind = refl;
        header = read_names (Part IsNameModifier g.modifier (Part IsDeclared g.declared (Part IsInitial g.initializer (λ us. AreImplemented us g.implements)))) ts a.0.1 n a.1 (
          m.us,
          (name_modifier_of a.0.1).1,
          m.split,
          m.part,
          read_part IsDeclared Stops read_declared declared_reads (Part IsInitial g.initializer (λ us. AreImplemented us g.implements)) (name_modifier_of a.0.1).1 b.0.1 b.0.0 b.1
              (read_part IsInitial EndsInitial read_initial initial_reads (λ us. AreImplemented us g.implements) b.0.1 c.0.1 c.0.0 c.1 (last_found_members c.0.1 d.0 d.1)),
        );
      })

  write_only_found : (ms : List Modifier) (ts : List Token) (d : DeclarationLine) → write_only_behind ms ts ≡ Some d → Stands words ms (reserved word.WriteOnly ∷ ts) d
  unfolding write_only_behind
  write_only_found ms (token.Keyword word.Property ∷ ts) d e =
      let a = given_some (read_property property.WriteOnly ts) (λ h. Some (line.Property ms h)) d e in
      let f = header_found property.WriteOnly ts a.0 a.1 in
      stands_as words ms (reserved word.WriteOnly ∷ reserved word.Property ∷ ts) d (line.Property ms a.0) (some_same (line.Property ms a.0) d a.2)
      (record {
        modifiers = subst (λ (k : PropertyKind). ArePropertyModifiers ms k ms) (sym f.kind) refl;
        behind = subst (λ (k : PropertyKind). Words (property_words k) (IsProperty a.0) (reserved word.WriteOnly ∷ reserved word.Property ∷ ts)) (sym f.kind)
            (reserved word.Property ∷ ts, refl, (ts, refl, f.header));
      })
  write_only_found ms ts d e = absurd cc

  property_as : (ms : List Modifier) (ts : List Token) (d : DeclarationLine) (p : List Modifier × PropertyKind) → SplitModifiers ms p → property_of p ts ≡ Some d
      → Stands words ms (reserved word.Property ∷ ts) d
  property_as ms ts d p split e =
      let a = given_some (read_property p.1 ts) (λ h. Some (line.Property p.0 h)) d e in
      let f = header_found p.1 ts a.0 a.1 in
      stands_as words ms (reserved word.Property ∷ ts) d (line.Property p.0 a.0) (some_same (line.Property p.0 a.0) d a.2)
      (record {
        modifiers = subst (λ (k : PropertyKind). ArePropertyModifiers p.0 k ms) (sym f.kind) split.are;
        behind = subst (λ (ws : List Keyword). Words ws (IsProperty a.0) (reserved word.Property ∷ ts)) (sym (ap property_words f.kind ∙ split.plain)) (ts, refl, f.header);
      })

  property_found : (ms : List Modifier) (ts : List Token) (d : DeclarationLine) → property_behind ms ts ≡ Some d → Stands words ms (reserved word.Property ∷ ts) d
  unfolding property_behind
  property_found ms ts d e = property_as ms ts d (property_split ms) (split_found ms) e

  -- EVENTS AND ACCESSORS

  event_found : (ms : List Modifier) (ts : List Token) (d : DeclarationLine) → read_event ms ts ≡ Some d → Stands words ms (reserved word.Event ∷ ts) d
  unfolding read_event
  event_found ms ts d e =
      let a = then_some (read_name ts) (λ n us. and_then (read_handler us) (λ h vs. given (last_implements vs) (λ is. Some (line.Event ms n h is)))) e in
      let b = then_some (read_handler a.0.1) (λ h vs. given (last_implements vs) (λ is. Some (line.Event ms a.0.0 h is))) a.2 in
      let c = given_some (last_implements b.0.1) (λ is. Some (line.Event ms a.0.0 b.0.0 is)) d b.2 in
      stands_as words ms (reserved word.Event ∷ ts) d (line.Event ms a.0.0 b.0.0 c.0) (some_same (line.Event ms a.0.0 b.0.0 c.0) d c.2)
      (record {
        modifiers = refl;
        behind = (
          ts,
          refl,
          read_names (Part IsHandler b.0.0 (λ us. AreImplemented us c.0)) ts a.0.1 a.0.0 a.1
              (read_part IsHandler Stops read_handler handler_reads (λ us. AreImplemented us c.0) a.0.1 b.0.1 b.0.0 b.1 (last_found_members b.0.1 c.0 c.1)),
        );
      })

  custom_event_found : (ms : List Modifier) (ts : List Token) (d : DeclarationLine) → read_custom_event ms ts ≡ Some d
      → Stands words ms (token.Name words.custom ∷ reserved word.Event ∷ ts) d
  unfolding read_custom_event
  custom_event_found ms ts d e =
      let a = then_some (read_name ts) (λ n us. and_then (read_declared us) (λ x rest. ended rest (line.CustomEvent ms n x))) e in
      let b = then_some (read_declared a.0.1) (λ x rest. ended rest (line.CustomEvent ms a.0.0 x)) a.2 in
      let f = ended_found b.0.1 (line.CustomEvent ms a.0.0 b.0.0) d b.2 in
      stands_as words ms (token.Name words.custom ∷ reserved word.Event ∷ ts) d (line.CustomEvent ms a.0.0 b.0.0) f.1
      (record {
        modifiers = refl;
        behind = (
          reserved word.Event ∷ ts,
          refl,
          (
            ts,
            refl,
            read_names (λ us. IsDeclared us b.0.0) ts a.0.1 a.0.0 a.1
                (whole_found IsDeclared Stops read_declared declared_reads a.0.1 b.0.1 b.0.0 b.1 f.0),
          ),
        );
      })

  get_found : (ms : List Modifier) (ts : List Token) (d : DeclarationLine) → read_get ms ts ≡ Some d → Stands words ms (reserved word.Get ∷ ts) d
  unfolding read_get
  get_found ms ts d e =
      let a = given_some (only_access ms) (λ x. ended ts (line.Get x)) d e in
      let f = ended_found ts (line.Get a.0) d a.2 in
      stands_as words ms (reserved word.Get ∷ ts) d (line.Get a.0) f.1 (record { modifiers = access_of ms a.0 a.1; behind = ap (λ us. reserved word.Get ∷ us) f.0 })

  set_found : (ms : List Modifier) (ts : List Token) (d : DeclarationLine) → read_set ms ts ≡ Some d → Stands words ms (reserved word.Set ∷ ts) d
  unfolding read_set
  set_found ms ts d e =
      let a = given_some (only_access ms) (λ x. and_then (read_parameters ts) (λ ps rest. ended rest (line.Set x ps))) d e in
      let b = then_some (read_parameters ts) (λ ps rest. ended rest (line.Set a.0 ps)) a.2 in
      let f = ended_found b.0.1 (line.Set a.0 b.0.0) d b.2 in
      stands_as words ms (reserved word.Set ∷ ts) d (line.Set a.0 b.0.0) f.1
      (record {
        modifiers = access_of ms a.0 a.1;
        behind = (ts, refl, whole_found AreParameters NoParameters read_parameters parameters_reads ts b.0.1 b.0.0 b.1 f.0);
      })

  accessor_found : (k : EventAccessorKind) (ms : List Modifier) (ts : List Token) (d : DeclarationLine) → read_accessor k ms ts ≡ Some d
      → Stands words ms (reserved (accessor_word k) ∷ ts) d
  unfolding read_accessor
  accessor_found k [] ts d e =
      let b = then_some (read_written ts) (λ ps rest. ended rest (line.EventAccessor k ps)) e in
      let f = ended_found b.0.1 (line.EventAccessor k b.0.0) d b.2 in
      stands_as words [] (reserved (accessor_word k) ∷ ts) d (line.EventAccessor k b.0.0) f.1
      (record { modifiers = refl; behind = (ts, refl, whole_found AreWritten Anything read_written written_reads ts b.0.1 b.0.0 b.1 f.0) })
  accessor_found k (m ∷ ms) ts d e = absurd cc

  -- BY THE FIRST WORD

  by_access_found : (w : Keyword) (ms : List Modifier) (ts : List Token) (d : DeclarationLine) → by_access w ms ts ≡ Some d → Stands words ms (reserved w ∷ ts) d
  unfolding by_access
  by_access_found word.Module ms ts d e = module_found ms ts d e
  by_access_found word.Class ms ts d e = plain_class_found ms ts d e
  by_access_found word.MustInherit ms ts d e = must_inherit_found ms ts d e
  by_access_found word.NotInheritable ms ts d e = not_inheritable_found ms ts d e
  by_access_found word.Interface ms ts d e = interface_found ms ts d e
  by_access_found word.Delegate ms ts d e = delegate_found ms ts d e
  by_access_found word.Inherits ms ts d e = inherits_found ms ts d e
  by_access_found word.Implements ms ts d e = implements_found ms ts d e
  by_access_found word.Get ms ts d e = get_found ms ts d e
  by_access_found word.Set ms ts d e = set_found ms ts d e
  by_access_found word.AddHandler ms ts d e = accessor_found accessor.AddHandler ms ts d e
  by_access_found word.RemoveHandler ms ts d e = accessor_found accessor.RemoveHandler ms ts d e
  by_access_found word.RaiseEvent ms ts d e = accessor_found accessor.RaiseEvent ms ts d e
  by_access_found w ms ts d e = absurd cc

  by_word_found : (w : Keyword) (ms : List Modifier) (ts : List Token) (d : DeclarationLine) → by_word w ms ts ≡ Some d → Stands words ms (reserved w ∷ ts) d
  unfolding by_word
  by_word_found word.Sub ms ts d e = sub_found ms ts d e
  by_word_found word.Function ms ts d e = regular_found ms ts d e
  by_word_found word.Property ms ts d e = property_found ms ts d e
  by_word_found word.WriteOnly ms ts d e = write_only_found ms ts d e
  by_word_found word.Event ms ts d e = event_found ms ts d e
  by_word_found w ms ts d e = by_access_found w ms ts d e

  named_as : (n m : Name) (ms : List Modifier) (ts : List Token) (d : DeclarationLine) → n ≡ m → Stands words ms (token.Name m ∷ ts) d → Stands words ms (token.Name n ∷ ts) d
  named_as n m ms ts d same s = subst (λ (k : Name). Stands words ms (token.Name k ∷ ts) d) (sym same) s

  by_name_found : (n : Name) (ms : List Modifier) (ts : List Token) (d : DeclarationLine) → by_name words n ms ts ≡ Some d → Stands words ms (token.Name n ∷ ts) d
  unfolding by_name
  by_name_found n ms (token.Keyword word.Function ∷ ts) d e =
      let c = chosen (n.index == words.iterator.index) (read_function function.Iterator ms ts) d e in
      named_as n words.iterator ms (reserved word.Function ∷ ts) d (name_is n words.iterator c.0) (iterator_found ms ts d c.1)
  by_name_found n ms (token.Keyword word.Event ∷ ts) d e =
      let c = chosen (n.index == words.custom.index) (read_custom_event ms ts) d e in
      named_as n words.custom ms (reserved word.Event ∷ ts) d (name_is n words.custom c.0) (custom_event_found ms ts d c.1)
  by_name_found n ms ts d e = absurd cc

  pub header_stands : (ms : List Modifier) (ts : List Token) (d : DeclarationLine) → read_header words ms ts ≡ Some d → Stands words ms ts d
  unfolding read_header
  header_stands ms (token.Keyword w ∷ ts) d e = by_word_found w ms ts d e
  header_stands ms (token.Name n ∷ ts) d e = by_name_found n ms ts d e
  header_stands ms ts d e = absurd cc
