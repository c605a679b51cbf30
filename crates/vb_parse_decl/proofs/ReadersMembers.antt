-- Implemented members are read as they are spelled.
use Rattle.std.proofs.Common.{◌≡◌, inl, inr, ◌≤◌, ◌<◌, Bool, true, List, [], ◌∷◌, ◌++◌, length, Option, Some, None, refl, sym, ap, subst, ◌∙◌, arith, append_assoc, append-nil, length-append}
use Rattle.vb_text.specs.declared.names.Name.{Name}
use Rattle.vb_syntax.specs.declared.keyword.Keyword.TheVariants as word
use Rattle.vb_syntax.specs.declared.symbol.Symbol.TheVariants as sign
use Rattle.vb_syntax.specs.declared.{tokens.Token.Token, types.{SimpleTypeName.SimpleTypeName, TypeName.TypeName}, declaration.ImplementedMember.ImplementedMember}
use Rattle.vb_syntax.specs.declared.tokens.Token.TheVariants as token
use Rattle.vb_syntax.specs.declared.types.TypeName.TheVariants as type_name
use Rattle.vb_parse_expr.specs.{Reading.{after_dot, after_comma}, TypeReading.{Read, read_name, read_type, popped, popped_behind, most_tokens}, Types.{SpellsNames, SpellsType, SpellsSimpleType, SpellsTypeArguments, SpellsTypes, qualified_by}, Words.{dot, name_of}}
use Rattle.vb_parse_expr.proofs.{Lists.popped_append, TypeAhead.dot_first, TypeFronts.type_read, TypeNames.{then_some, parts_of, name_first, read_named}}
use Rattle.vb_parse_decl.specs.{Parts.{reserved, IsType, AreListed}, Declarations.{IsImplemented, AreImplemented}, DeclarationReading.{after_implements, read_list}, LineReading.{implemented, member_before, member_behind, read_implemented, members_behind, read_implements, ended, last_implements}, MemberReading.{named_before, last_name, member_of_simple, member_of}}
use Rattle.vb_parse_decl.proofs.{LastNames.{qualified_member, built_in_member, array_member, simple_member}, Readers.{Reads, then_is, some_same}, ReadersLists.{ends_part, EndsPart, EndsList, list_reads}, ReadersTypes.{ends_stops, type_reads}}

-- THE LAST OF SOME NAMES

popped_on : {A : Type 0} (w : A) (ws vs : List A) (x : A) (o : Option (List A × A)) → popped ws ≡ o → popped_behind w o ≡ Some (vs, x)
    → ((us : List A) (y : A) → popped ws ≡ Some (us, y) → ws ≡ us ++ y ∷ []) → (popped ws ≡ None → ws ≡ []) → w ∷ ws ≡ vs ++ x ∷ []
popped_on {A} w ws vs x None was e some none =
    let same : ◌≡◌ {A = List A × A} ([], w) (vs, x) = some_same ([], w) (vs, x) e in
    ap (λ us. w ∷ us) (none was) ∙ ap (λ (p : List A × A). p.0 ++ p.1 ∷ []) same
popped_on {A} w ws vs x (Some p) was e some none =
    let same : ◌≡◌ {A = List A × A} (w ∷ p.0, p.1) (vs, x) = some_same (w ∷ p.0, p.1) (vs, x) e in
    ap (λ us. w ∷ us) (some p.0 p.1 was) ∙ ap (λ (q : List A × A). q.0 ++ q.1 ∷ []) same

popped_some : {A : Type 0} (w : A) (o : Option (List A × A)) → popped_behind w o ≡ None → ⊥
popped_some w None e = absurd cc
popped_some w (Some p) e = absurd cc

pub popped_none : {A : Type 0} (ws : List A) → popped ws ≡ None → ws ≡ []
unfolding popped
popped_none [] e = refl
popped_none (w ∷ ws) e = absurd (popped_some w (popped ws) e)

pub popped_whole : {A : Type 0} (ws vs : List A) (x : A) → popped ws ≡ Some (vs, x) → ws ≡ vs ++ x ∷ []
unfolding popped
popped_whole [] vs x e = absurd cc
popped_whole (w ∷ ws) vs x e = popped_on w ws vs x (popped ws) refl e (λ us y f. popped_whole ws us y f) (popped_none ws)

record LastName (ts : List Token) (ns : List Name) (n : Name) : Type 0 where
  us : List Token
  t : Token
  split : ts ≡ us ++ dot ∷ t ∷ []
  spells : SpellsNames us ns
  named : name_of t ≡ Some n

some_names : {ts : List Token} {ns : List Name} → SpellsNames ts ns → 0 < length ns
some_names (SpellsNames.one t is) = omega arith
some_names (SpellsNames.more t is p) = omega arith

only_name : {ts : List Token} {ns : List Name} (n : Name) → SpellsNames ts ns → ns ≡ n ∷ [] → (t : Token) × (ts ≡ t ∷ []) × (name_of t ≡ Some n)
only_name n (SpellsNames.one {n = k} t is) e = let same : k ≡ n = cc in (t, refl, is ∙ ap (λ m. Some m) same)
only_name n (SpellsNames.more t is p) e = absurd (omega (arith, some_names p, ap length e))

names_last : {ts : List Token} {ns : List Name} → SpellsNames ts ns → (m : Name) (ms : List Name) (n : Name) → ns ≡ m ∷ (ms ++ n ∷ []) → LastName ts (m ∷ ms) n
names_last (SpellsNames.one t is) m ms n e = absurd (omega (arith, ap length e, length-append ms (n ∷ [])))
names_last (SpellsNames.more {n = k} {ns = ns} t is p) m [] n e =
    let first : k ≡ m = cc in
    let rest : ns ≡ n ∷ [] = cc in
    let last = only_name n p rest in
    record {
      us = t ∷ [];
      t = last.0;
      split = ap (λ us. t ∷ dot ∷ us) last.1;
      spells = SpellsNames.one t (is ∙ ap (λ x. Some x) first);
      named = last.2;
    }
names_last (SpellsNames.more {n = k} {ns = ns} t is p) m (j ∷ js) n e =
    let first : k ≡ m = cc in
    let rest : ns ≡ j ∷ (js ++ n ∷ []) = cc in
    let last = names_last p j js n rest in
    record {
      us = t ∷ dot ∷ last.us;
      t = last.t;
      split = ap (λ us. t ∷ dot ∷ us) last.split;
      spells = SpellsNames.more t (is ∙ ap (λ x. Some x) first) last.spells;
      named = last.named;
    }

-- WHAT IS FOUND

record FoundMember (front : List Token) (p : TypeName × Name) : Type 0 where
  us : List Token
  t : Token
  split : front ≡ us ++ dot ∷ t ∷ []
  is_type : IsType us p.0
  named : name_of t ≡ Some p.1

no_arguments : {dotted : Bool} {us : List Token} {xs : List TypeName} → SpellsTypeArguments dotted us xs → xs ≡ [] → us ≡ []
no_arguments SpellsTypeArguments.none e = refl
no_arguments (SpellsTypeArguments.some (SpellsTypes.one p)) e = absurd cc
no_arguments (SpellsTypeArguments.some (SpellsTypes.more p ps)) e = absurd cc

names_type : (us : List Token) (ns : List Name) → SpellsNames us ns → IsType us (type_name.Simple (qualified_by ns []))
names_type us ns p = record {
  dotted = true;
  opened = true;
  spells = subst (λ (vs : List Token). SpellsType true true vs (type_name.Simple (qualified_by ns []))) (append-nil us)
      (SpellsType.plain (SpellsSimpleType.qualified p SpellsTypeArguments.none));
}

before_found : {ts : List Token} {ns : List Name} → SpellsNames ts ns → (ms : List Name) (n : Name) (p : TypeName × Name) → ns ≡ ms ++ n ∷ [] → named_before ms n ≡ Some p
    → FoundMember ts p
before_found names [] n p whole e = absurd cc
before_found {ts = ts} names (m ∷ ms) n p whole e =
    let last = names_last names m ms n whole in
    let made : TypeName × Name = (type_name.Simple (qualified_by (m ∷ ms) []), n) in
    let same : made ≡ p = some_same made p e in
    subst (λ (q : TypeName × Name). FoundMember ts q) same (record {
      us = last.us;
      t = last.t;
      split = last.split;
      is_type = names_type last.us (m ∷ ms) last.spells;
      named = last.named;
    })

last_found : {dotted : Bool} {ts us : List Token} {ns : List Name} {xs : List TypeName} → SpellsNames ts ns → SpellsTypeArguments dotted us xs
    → (o : Option (List Name × Name)) → popped ns ≡ o → (p : TypeName × Name) → (ys : List TypeName) → xs ≡ ys → last_name ys o ≡ Some p → FoundMember (ts ++ us) p
last_found names arguments None was p [] empty e = absurd cc
last_found names arguments None was p (y ∷ ys) empty e = absurd cc
last_found names arguments (Some q) was p (y ∷ ys) empty e = absurd cc
last_found {ts = ts} {us = us} {ns = ns} names arguments (Some q) was p [] empty e =
    let nothing = no_arguments arguments empty in
    subst (λ (vs : List Token). FoundMember vs p) (sym (ap (λ vs. ts ++ vs) nothing ∙ append-nil ts)) (before_found names q.0 q.1 p (popped_whole ns q.0 q.1 was) e)

simple_found : {dotted : Bool} {ts : List Token} {x : SimpleTypeName} → SpellsSimpleType dotted ts x → (p : TypeName × Name) → member_of_simple x ≡ Some p → FoundMember ts p
simple_found (SpellsSimpleType.built_in {b = b} t is) p e = let none = built_in_member b in absurd cc
simple_found (SpellsSimpleType.qualified {ns = ns} {xs = xs} names arguments) p e =
    last_found names arguments (popped ns) refl p xs refl (sym (qualified_member (record { parts = ns; arguments = xs })) ∙ e)

member_found : {dotted opened : Bool} {ts : List Token} {a : TypeName} → SpellsType dotted opened ts a → (p : TypeName × Name) → member_of a ≡ Some p → FoundMember ts p
member_found (SpellsType.plain {x = x} q) p e = simple_found q p (sym (simple_member x) ∙ e)
member_found (SpellsType.array {x = x} q) p e = let none = array_member x in absurd cc

record FoundImplemented (ts : List Token) (m : ImplementedMember) (rest : List Token) : Type 0 where
  us : List Token
  split : ts ≡ us ++ rest
  part : IsImplemented us m

implemented_as : (us ts rest more : List Token) (k m : ImplementedMember) → ts ≡ us ++ more → IsImplemented us k
    → ◌≡◌ {A = Read ImplementedMember} (Some (k, more)) (Some (m, rest)) → FoundImplemented ts m rest
implemented_as us ts rest more k m split p e =
    let same = parts_of k m more rest e in
    record { us = us; split = split ∙ ap (λ vs. us ++ vs) same.1; part = subst (λ (x : ImplementedMember). IsImplemented us x) same.0 p }

before_as : (front ts rest more : List Token) (a : TypeName) (m : ImplementedMember) (o : Option (TypeName × Name)) → member_of a ≡ o → ts ≡ front ++ more → IsType front a
    → member_before more o ≡ Some (m, rest) → FoundImplemented ts m rest
before_as front ts rest more a m None was split p e = absurd cc
before_as front ts rest more a m (Some q) was split p e =
    let f = member_found p.spells q was in
    implemented_as front ts rest more (implemented q.0 q.1) m split (f.us, f.t, f.split, f.is_type, f.named) e

behind_as : (front ts rest more : List Token) (a : TypeName) (m : ImplementedMember) (o : Option (List Token)) → after_dot more ≡ o → ts ≡ front ++ more → IsType front a
    → member_behind a more o ≡ Some (m, rest) → FoundImplemented ts m rest
behind_as front ts rest more a m None was split p e = before_as front ts rest more a m (member_of a) refl split p e
behind_as front ts rest more a m (Some us) was split p e =
    let b = then_some (read_name us) (λ n vs. Some (implemented a n, vs)) e in
    let n = name_first us b.0.0 b.0.1 b.1 in
    let whole : ts ≡ (front ++ dot ∷ n.0 ∷ []) ++ b.0.1 =
    split ∙ ap (λ vs. front ++ vs) (dot_first more was ∙ ap (λ vs. dot ∷ vs) n.1) ∙ sym (append_assoc front (dot ∷ n.0 ∷ []) b.0.1) in
    implemented_as (front ++ dot ∷ n.0 ∷ []) ts rest b.0.1 (implemented a b.0.0) m whole (front, n.0, refl, p, n.2) b.2

implemented_found : (ts rest : List Token) (m : ImplementedMember) → read_implemented ts ≡ Some (m, rest) → FoundImplemented ts m rest
unfolding read_implemented
implemented_found ts rest m e =
    let b = then_some (read_type ts) (λ a us. member_behind a us (after_dot us)) e in
    let f = type_reads.found ts b.0.1 b.0.0 b.1 in
    behind_as f.0 ts rest b.0.1 b.0.0 m (after_dot b.0.1) refl f.1 f.2 b.2

-- WHAT STANDS THERE IS FOUND

dot_stands : (ts : List Token) → after_dot (dot ∷ ts) ≡ Some ts
unfolding after_dot
dot_stands ts = refl

ends_no_dot : (ts : List Token) → ends_part ts ≡ true → after_dot ts ≡ None
unfolding ends_part after_dot
ends_no_dot [] e = refl
ends_no_dot (token.Symbol sign.Dot ∷ ts) e = absurd cc
ends_no_dot (t ∷ ts) e = refl

-- a type that a dot doesn't go on with
apart : (vs rest : List Token) (t : Token) (a : TypeName) (n : Name) → read_type (vs ++ dot ∷ t ∷ rest) ≡ Some (a, dot ∷ t ∷ rest) → name_of t ≡ Some n
    → read_implemented (vs ++ dot ∷ t ∷ rest) ≡ Some (implemented a n, rest)
unfolding read_implemented
apart vs rest t a n e named =
    then_is (read_type (vs ++ dot ∷ t ∷ rest)) (λ b us. member_behind b us (after_dot us)) a (dot ∷ t ∷ rest) e
    ∙ ap (member_behind a (dot ∷ t ∷ rest)) (dot_stands (t ∷ rest))
    ∙ then_is (read_name (t ∷ rest)) (λ k us. Some (implemented a k, us)) n rest (read_named t n rest named)

names_more : {ts : List Token} {ns : List Name} (t : Token) (n : Name) → name_of t ≡ Some n → SpellsNames ts ns → SpellsNames (ts ++ dot ∷ t ∷ []) (ns ++ n ∷ [])
names_more t n named (SpellsNames.one u is) = SpellsNames.more u is (SpellsNames.one t named)
names_more t n named (SpellsNames.more u is p) = SpellsNames.more u is (names_more t n named p)

before_names : {ts : List Token} {ns : List Name} (n : Name) → SpellsNames ts ns → named_before ns n ≡ Some (type_name.Simple (qualified_by ns []), n)
before_names n (SpellsNames.one t is) = refl
before_names n (SpellsNames.more t is p) = refl

joined_member : {ts : List Token} {ns : List Name} (n : Name) → SpellsNames ts ns
    → member_of (type_name.Simple (qualified_by (ns ++ n ∷ []) [])) ≡ Some (type_name.Simple (qualified_by ns []), n)
joined_member {ns = ns} n p =
    simple_member (qualified_by (ns ++ n ∷ []) []) ∙ qualified_member (record { parts = ns ++ n ∷ []; arguments = [] })
    ∙ ap (last_name []) (popped_append ns n) ∙ before_names n p

-- names: the dot is read as one of the type's
joined : {ts : List Token} {ns : List Name} (rest : List Token) (t : Token) (n : Name) → SpellsNames ts ns → name_of t ≡ Some n → ends_part rest ≡ true
    → length (ts ++ dot ∷ t ∷ rest) ≤ most_tokens → read_implemented (ts ++ dot ∷ t ∷ rest) ≡ Some (implemented (type_name.Simple (qualified_by ns [])) n, rest)
unfolding read_implemented
joined {ts = ts} {ns = ns} rest t n p named ends few =
    let a : TypeName = type_name.Simple (qualified_by (ns ++ n ∷ []) []) in
    let us : List Token = ts ++ dot ∷ t ∷ [] in
    let whole : us ++ rest ≡ ts ++ dot ∷ t ∷ rest = append_assoc ts (dot ∷ t ∷ []) rest in
    let q = names_type us (ns ++ n ∷ []) (names_more t n named p) in
    let reads : read_type (us ++ rest) ≡ Some (a, rest) = type_reads.finds us rest a (omega (arith, few, ap length whole)) (ends_stops rest ends) q in
    then_is (read_type (ts ++ dot ∷ t ∷ rest)) (λ b vs. member_behind b vs (after_dot vs)) a rest (ap read_type (sym whole) ∙ reads)
    ∙ ap (member_behind a rest) (ends_no_dot rest ends) ∙ ap (member_before rest) (joined_member n p)

simple_finds : {dotted : Bool} {vs : List Token} {x : SimpleTypeName} (rest : List Token) (t : Token) (n : Name) → SpellsSimpleType dotted vs x → name_of t ≡ Some n
    → ends_part rest ≡ true → length (vs ++ dot ∷ t ∷ rest) ≤ most_tokens → read_implemented (vs ++ dot ∷ t ∷ rest) ≡ Some (implemented (type_name.Simple x) n, rest)
simple_finds {vs = vs} {x = x} rest t n (SpellsSimpleType.built_in u is) named ends few =
    apart vs rest t (type_name.Simple x) n (type_read (dot ∷ t ∷ rest) (SpellsType.plain (SpellsSimpleType.built_in u is)) refl few) named
simple_finds {vs = vs} {x = x} rest t n (SpellsSimpleType.qualified {ts = ts} p SpellsTypeArguments.none) named ends few =
    let same : ts ++ [] ≡ ts = append-nil ts in
    let small : length (ts ++ dot ∷ t ∷ rest) ≤ most_tokens = subst (λ (us : List Token). length (us ++ dot ∷ t ∷ rest) ≤ most_tokens) same few in
    ap (λ us. read_implemented (us ++ dot ∷ t ∷ rest)) same ∙ joined rest t n p named ends small
simple_finds {vs = vs} {x = x} rest t n (SpellsSimpleType.qualified p (SpellsTypeArguments.some q)) named ends few =
    apart vs rest t (type_name.Simple x) n (type_read (dot ∷ t ∷ rest) (SpellsType.plain (SpellsSimpleType.qualified p (SpellsTypeArguments.some q))) refl few) named

spelled_finds : {dotted opened : Bool} {vs : List Token} {a : TypeName} (rest : List Token) (t : Token) (n : Name) → SpellsType dotted opened vs a → name_of t ≡ Some n
    → ends_part rest ≡ true → length (vs ++ dot ∷ t ∷ rest) ≤ most_tokens → read_implemented (vs ++ dot ∷ t ∷ rest) ≡ Some (implemented a n, rest)
spelled_finds rest t n (SpellsType.plain p) named ends few = simple_finds rest t n p named ends few
spelled_finds {vs = vs} {a = a} rest t n (SpellsType.array p) named ends few =
    apart vs rest t a n (type_read (dot ∷ t ∷ rest) (SpellsType.array p) refl few) named

implemented_finds : (us rest : List Token) (m : ImplementedMember) → length (us ++ rest) ≤ most_tokens → ends_part rest ≡ true → IsImplemented us m
    → read_implemented (us ++ rest) ≡ Some (m, rest)
implemented_finds us rest m few ends (vs, t, is, p, named) =
    let whole : us ++ rest ≡ vs ++ dot ∷ t ∷ rest = ap (λ ws. ws ++ rest) is ∙ append_assoc vs (dot ∷ t ∷ []) rest in
    ap read_implemented whole ∙ spelled_finds rest t m.member p.spells named ends (omega (arith, few, ap length whole))

implemented_reads : Reads IsImplemented EndsPart read_implemented
implemented_reads = record {
  found = λ ts rest m e. let f = implemented_found ts rest m e in (f.us, f.split, f.part);
  finds = implemented_finds;
}

some_implemented : (us : List Token) (m : ImplementedMember) → IsImplemented us m → 0 < length us
some_implemented us m (vs, t, is, p, named) = omega (arith, ap length is, length-append vs (dot ∷ t ∷ []))

listed_members : Reads (AreListed IsImplemented) EndsList (read_list read_implemented)
listed_members = list_reads IsImplemented read_implemented implemented_reads some_implemented

-- UP TO THE END OF THE LINE

pub implements_first : (ts rest : List Token) → after_implements ts ≡ Some rest → ts ≡ reserved word.Implements ∷ rest
unfolding after_implements
implements_first [] rest e = absurd cc
implements_first (token.Keyword word.Implements ∷ ts) rest e = cc
implements_first (t ∷ ts) rest e = absurd cc

implements_stand : (ts : List Token) → after_implements (reserved word.Implements ∷ ts) ≡ Some ts
unfolding after_implements
implements_stand ts = refl

no_implements : after_implements [] ≡ None
unfolding after_implements
no_implements = refl

pub ends_nothing : EndsList []
unfolding ends_part after_comma
ends_nothing = record { ends = refl; none = refl }

pub ended_found : {X : Type 0} (ts : List Token) (x y : X) → ended ts x ≡ Some y → (ts ≡ []) × (x ≡ y)
ended_found [] x y e = (refl, some_same x y e)
ended_found (t ∷ ts) x y e = absurd cc

pub whole_reads : {X : Type 0} (P : List Token → X → Type 0) (Ends : List Token → Type 0) (read : List Token → Read X) → Reads P Ends read → Ends []
    → (ts : List Token) (x : X) → length ts ≤ most_tokens → P ts x → read ts ≡ Some (x, [])
whole_reads P Ends read r ends ts x few p =
    let same : ts ++ [] ≡ ts = append-nil ts in
    ap read (sym same) ∙ r.finds ts [] x (omega (arith, few, ap length same)) ends p

pub whole_found : {X : Type 0} (P : List Token → X → Type 0) (Ends : List Token → Type 0) (read : List Token → Read X) → Reads P Ends read
    → (ts rest : List Token) (x : X) → read ts ≡ Some (x, rest) → rest ≡ [] → P ts x
whole_found {X} P Ends read r ts rest x e empty =
    let f = r.found ts rest x e in
    subst (λ (us : List Token). P us x) (sym (f.1 ∙ ap (λ us. f.0 ++ us) empty ∙ append-nil f.0)) f.2

members_found : (ts rest : List Token) (ms : List ImplementedMember) (o : Option (List Token)) → after_implements ts ≡ o → members_behind ts o ≡ Some (ms, rest) → rest ≡ []
    → AreImplemented ts ms
members_found ts rest ms None was e empty =
    let same = parts_of [] ms ts rest e in inl (same.1 ∙ empty, sym same.0)
members_found ts rest ms (Some us) was e empty =
    inr (us, implements_first ts us was, whole_found (AreListed IsImplemented) EndsList (read_list read_implemented) listed_members us rest ms e empty)

implements_found : (ts rest : List Token) (ms : List ImplementedMember) → read_implements ts ≡ Some (ms, rest) → rest ≡ [] → AreImplemented ts ms
unfolding read_implements
implements_found ts rest ms e empty = members_found ts rest ms (after_implements ts) refl e empty

implements_finds : (ts : List Token) (ms : List ImplementedMember) → length ts ≤ most_tokens → AreImplemented ts ms → read_implements ts ≡ Some (ms, [])
unfolding read_implements
implements_finds ts ms few (inl (none, empty)) =
    ap (λ us. members_behind us (after_implements us)) none ∙ ap (members_behind []) no_implements ∙ ap (λ ks. Some (ks, [])) (sym empty)
implements_finds ts ms few (inr (us, is, p)) =
    ap (λ vs. members_behind vs (after_implements vs)) is ∙ ap (members_behind (reserved word.Implements ∷ us)) (implements_stand us)
    ∙ whole_reads (AreListed IsImplemented) EndsList (read_list read_implemented) listed_members ends_nothing us ms (omega (arith, few, ap length is)) p

pub last_found_members : (ts : List Token) (ms : List ImplementedMember) → last_implements ts ≡ Some ms → AreImplemented ts ms
unfolding last_implements
last_found_members ts ms e =
    let b = then_some (read_implements ts) (λ is rest. ended rest is) e in
    let f = ended_found b.0.1 b.0.0 ms b.2 in
    implements_found ts b.0.1 ms (b.1 ∙ ap (λ ks. Some (ks, b.0.1)) f.1) f.0

pub last_finds_members : (ts : List Token) (ms : List ImplementedMember) → length ts ≤ most_tokens → AreImplemented ts ms → last_implements ts ≡ Some ms
unfolding last_implements
last_finds_members ts ms few p = then_is (read_implements ts) (λ is rest. ended rest is) ms [] (implements_finds ts ms few p)
