-- Type parameters, parameters and signatures are read as they are spelled.
use Rattle.std.proofs.Common.{◌≡◌, ◌⊎◌, inl, inr, ◌≤◌, ◌<◌, true, List, [], ◌∷◌, ◌++◌, length, Option, Some, None, refl, sym, ap, subst, ◌∙◌, arith, append_assoc, length-append}
use Rattle.vb_text.specs.declared.names.Name.{Name}
use Rattle.vb_syntax.specs.declared.{keyword.Keyword.Keyword, tokens.Token.Token, types.{TypeName.TypeName, TypeParameter.TypeParameter, TypeConstraint.TypeConstraint}, declaration.{NameModifier.NameModifier, PassedBy.PassedBy, Parameter.Parameter}}
use Rattle.vb_syntax.specs.declared.keyword.Keyword.TheVariants as word
use Rattle.vb_syntax.specs.declared.tokens.Token.TheVariants as token
use Rattle.vb_syntax.specs.declared.declaration.NameModifier.TheVariants as name_modifier
use Rattle.vb_syntax.specs.declared.declaration.PassedBy.TheVariants as passed
use Rattle.vb_parse_expr.specs.{Reading.{after_opening, after_closing, after_comma, after_of}, TypeReading.{Read, and_then, behind, read_name, read_type, after_opening_of, most_tokens}, Words.{opening, closing, comma, name_of}}
use Rattle.vb_parse_expr.proofs.{TypeAhead.{opening_first, closing_first, array_first, opening_of_first, opening_of_stands}, TypeNames.{then_some, parts_of, name_first, read_named}}
use Rattle.vb_parse_decl.specs.{Parts.{reserved, Names, Begins, Part, AreListed}, Declarations.{AreConstraints, IsTypeParameter, AreTypeParameters, IsNameModifier, IsDeclared, IsParameter, AreWritten, AreParameters}, DeclarationReading.{after_as, constraints_behind, type_parameter, read_type_parameter, type_parameters_behind, read_type_parameters, passed_by, array_or_plain, name_modifier_of, read_declared, parameter, parameter_named, parameter_passed, read_parameter, none_or_listed, read_opened, read_written, parameters_behind, read_parameters, read_list}}
use Rattle.vb_parse_decl.proofs.{Readers.{Reads, then_is, behind_some}, ReadersLists.{ends_part, EndsPart, EndsList, list_reads, closed_found, closed_finds}, ReadersTypes.{stops, Stops, ends_stops, type_reads, constraints_reads}}

-- AS

pub as_first : (ts rest : List Token) → after_as ts ≡ Some rest → ts ≡ reserved word.As ∷ rest
unfolding after_as
as_first [] rest e = absurd cc
as_first (token.Keyword word.As ∷ ts) rest e = cc
as_first (t ∷ ts) rest e = absurd cc

pub as_stands : (ts : List Token) → after_as (reserved word.As ∷ ts) ≡ Some ts
unfolding after_as
as_stands ts = refl

pub ends_no_as : (ts : List Token) → ends_part ts ≡ true → after_as ts ≡ None
unfolding ends_part after_as
ends_no_as [] e = refl
ends_no_as (token.Keyword word.As ∷ ts) e = absurd cc
ends_no_as (t ∷ ts) e = refl

-- TYPE PARAMETERS

record Spelled {X : Type 0} (P : List Token → X → Type 0) (ts : List Token) (x : X) (rest : List Token) : Type 0 where
  us : List Token
  split : ts ≡ us ++ rest
  part : P us x

moved : {X : Type 0} (P : List Token → X → Type 0) (us ts rest more : List Token) (x y : X) → ts ≡ us ++ more → P us x
    → ◌≡◌ {A = Read X} (Some (x, more)) (Some (y, rest)) → Spelled P ts y rest
moved {X} P us ts rest more x y split p e =
    let same = parts_of x y more rest e in
    record { us = us; split = split ∙ ap (λ vs. us ++ vs) same.1; part = subst (λ (z : X). P us z) same.0 p }

abbrev ConstraintsAfter : List Token → List TypeConstraint → Type 0
ConstraintsAfter us cs = ((us ≡ []) × (cs ≡ [])) ⊎ Begins word.As (λ vs. AreConstraints vs cs) us

constraints_after : (ts rest : List Token) (cs : List TypeConstraint) (o : Option (List Token)) → after_as ts ≡ o → constraints_behind ts o ≡ Some (cs, rest)
    → Spelled ConstraintsAfter ts cs rest
constraints_after ts rest cs None was e = moved ConstraintsAfter [] ts rest ts [] cs refl (inl (refl, refl)) e
constraints_after ts rest cs (Some vs) was e =
    let f = constraints_reads.found vs rest cs e in
    record {
      us = reserved word.As ∷ f.0;
      split = as_first ts vs was ∙ ap (λ us. reserved word.As ∷ us) f.1;
      part = inr (f.0, refl, f.2);
    }

constraints_stand : (us rest : List Token) (cs : List TypeConstraint) → length (us ++ rest) ≤ most_tokens → ends_part rest ≡ true → ConstraintsAfter us cs
    → constraints_behind (us ++ rest) (after_as (us ++ rest)) ≡ Some (cs, rest)
constraints_stand us rest cs few ends (inl (none, empty)) =
    ap (λ vs. constraints_behind (vs ++ rest) (after_as (vs ++ rest))) none ∙ ap (constraints_behind rest) (ends_no_as rest ends)
    ∙ ap (λ ks. Some (ks, rest)) (sym empty)
constraints_stand us rest cs few ends (inr (vs, is, p)) =
    let whole : us ++ rest ≡ reserved word.As ∷ (vs ++ rest) = ap (λ ws. ws ++ rest) is in
    ap (λ ws. constraints_behind ws (after_as ws)) whole
    ∙ ap (constraints_behind (reserved word.As ∷ (vs ++ rest))) (as_stands (vs ++ rest))
    ∙ constraints_reads.finds vs rest cs (omega (arith, few, ap length whole)) ends p

type_parameter_found : (ts rest : List Token) (p : TypeParameter) → read_type_parameter ts ≡ Some (p, rest) → Spelled IsTypeParameter ts p rest
unfolding read_type_parameter
type_parameter_found ts rest p e =
    let a = then_some (read_name ts) (λ n us. and_then (constraints_behind us (after_as us)) (λ cs vs. Some (type_parameter n cs, vs))) e in
    let b = then_some (constraints_behind a.0.1 (after_as a.0.1)) (λ cs vs. Some (type_parameter a.0.0 cs, vs)) a.2 in
    let n = name_first ts a.0.0 a.0.1 a.1 in
    let f = constraints_after a.0.1 b.0.1 b.0.0 (after_as a.0.1) refl b.1 in
    moved IsTypeParameter (n.0 ∷ f.us) ts rest b.0.1 (type_parameter a.0.0 b.0.0) p (n.1 ∙ ap (λ us. n.0 ∷ us) f.split) (n.0, f.us, refl, n.2, f.part) b.2

type_parameter_finds : (us rest : List Token) (p : TypeParameter) → length (us ++ rest) ≤ most_tokens → ends_part rest ≡ true → IsTypeParameter us p
    → read_type_parameter (us ++ rest) ≡ Some (p, rest)
unfolding read_type_parameter
type_parameter_finds us rest p few ends (t, vs, is, named, q) =
    let whole : us ++ rest ≡ t ∷ (vs ++ rest) = ap (λ ws. ws ++ rest) is in
    then_is (read_name (us ++ rest)) (λ n ws. and_then (constraints_behind ws (after_as ws)) (λ cs xs. Some (type_parameter n cs, xs))) p.name (vs ++ rest)
    (ap read_name whole ∙ read_named t p.name (vs ++ rest) named)
    ∙ then_is (constraints_behind (vs ++ rest) (after_as (vs ++ rest))) (λ cs xs. Some (type_parameter p.name cs, xs)) p.constraints rest
    (constraints_stand vs rest p.constraints (omega (arith, few, ap length whole)) ends q)

type_parameter_reads : Reads IsTypeParameter EndsPart read_type_parameter
type_parameter_reads = record {
  found = λ ts rest p e. let f = type_parameter_found ts rest p e in (f.us, f.split, f.part);
  finds = type_parameter_finds;
}

some_type_parameter : (us : List Token) (p : TypeParameter) → IsTypeParameter us p → 0 < length us
some_type_parameter us p (t, vs, is, named, q) = omega (arith, ap length is)

listed_type_parameters : Reads (AreListed IsTypeParameter) EndsList (read_list read_type_parameter)
listed_type_parameters = list_reads IsTypeParameter read_type_parameter type_parameter_reads some_type_parameter

pub closing_stands : (us : List Token) → after_closing (closing ∷ us) ≡ Some us
unfolding after_closing
closing_stands us = refl

ends_closing : (us : List Token) → EndsList (closing ∷ us)
unfolding ends_part after_comma
ends_closing us = record { ends = refl; none = refl }

closing_at : (ts rest : List Token) → after_closing ts ≡ Some rest → ts ≡ closing ∷ rest
closing_at ts rest e = closing_first ts e

type_parameters_after : (ts rest : List Token) (ps : List TypeParameter) (o : Option (List Token)) → after_opening_of ts ≡ o
    → type_parameters_behind ts o ≡ Some (ps, rest) → Spelled AreTypeParameters ts ps rest
type_parameters_after ts rest ps None was e = moved AreTypeParameters [] ts rest ts [] ps refl (inl (refl, refl)) e
type_parameters_after ts rest ps (Some vs) was e =
    let f = closed_found (AreListed IsTypeParameter) EndsList (read_list read_type_parameter) listed_type_parameters after_closing closing closing_at vs rest ps e in
    record {
      us = opening ∷ reserved word.Of ∷ (f.0 ++ closing ∷ []);
      split = opening_of_first ts was ∙ ap (λ us. opening ∷ reserved word.Of ∷ us) (f.1 ∙ sym (append_assoc f.0 (closing ∷ []) rest));
      part = inr (f.0, refl, f.2);
    }

type_parameters_found : (ts rest : List Token) (ps : List TypeParameter) → read_type_parameters ts ≡ Some (ps, rest) → Spelled AreTypeParameters ts ps rest
unfolding read_type_parameters
type_parameters_found ts rest ps e = type_parameters_after ts rest ps (after_opening_of ts) refl e

abbrev pub NoTypeParameters : List Token → Type 0
NoTypeParameters ts = after_opening_of ts ≡ None

type_parameters_finds : (us rest : List Token) (ps : List TypeParameter) → length (us ++ rest) ≤ most_tokens → NoTypeParameters rest → AreTypeParameters us ps
    → read_type_parameters (us ++ rest) ≡ Some (ps, rest)
unfolding read_type_parameters
type_parameters_finds us rest ps few ends (inl (none, empty)) =
    ap (λ vs. type_parameters_behind (vs ++ rest) (after_opening_of (vs ++ rest))) none ∙ ap (type_parameters_behind rest) ends
    ∙ ap (λ ks. Some (ks, rest)) (sym empty)
type_parameters_finds us rest ps few ends (inr (vs, is, p)) =
    let whole : us ++ rest ≡ opening ∷ reserved word.Of ∷ (vs ++ closing ∷ rest) =
    ap (λ ws. ws ++ rest) is ∙ ap (λ ws. opening ∷ reserved word.Of ∷ ws) (append_assoc vs (closing ∷ []) rest) in
    ap (λ ws. type_parameters_behind ws (after_opening_of ws)) whole
    ∙ ap (type_parameters_behind (opening ∷ reserved word.Of ∷ (vs ++ closing ∷ rest))) (opening_of_stands (vs ++ closing ∷ rest))
    ∙ closed_finds (AreListed IsTypeParameter) EndsList (read_list read_type_parameter) listed_type_parameters after_closing closing closing_stands ends_closing vs rest ps
    (omega (arith, few, ap length whole)) p

pub type_parameters_reads : Reads AreTypeParameters NoTypeParameters read_type_parameters
type_parameters_reads = record {
  found = λ ts rest ps e. let f = type_parameters_found ts rest ps e in (f.us, f.split, f.part);
  finds = type_parameters_finds;
}

-- `As` AND A TYPE

pub declared_reads : Reads IsDeclared Stops read_declared
unfolding read_declared
declared_reads = record {
  found = λ ts rest a e.
      let b = behind_some (after_as ts) read_type (a, rest) e in
      let f = type_reads.found b.0 rest a b.2 in
      (reserved word.As ∷ f.0, as_first ts b.0 b.1 ∙ ap (λ us. reserved word.As ∷ us) f.1, (f.0, refl, f.2));
  finds = λ us rest a few ends p.
      let whole : us ++ rest ≡ reserved word.As ∷ (p.0 ++ rest) = ap (λ ws. ws ++ rest) p.1 in
      ap (λ ws. behind (after_as ws) read_type) whole ∙ ap (λ o. behind o read_type) (as_stands (p.0 ++ rest))
      ∙ type_reads.finds p.0 rest a (omega (arith, few, ap length whole)) ends p.2;
}

-- NAMES' MODIFIERS

pub record FoundModifier (ts : List Token) (m : NameModifier) (rest : List Token) : Type 0 where
  pub us : List Token
  pub split : ts ≡ us ++ rest
  pub part : IsNameModifier us m

modifier_at : (ts : List Token) (o : Option (List Token)) → behind (after_opening ts) after_closing ≡ o
    → FoundModifier ts (array_or_plain ts o).0 (array_or_plain ts o).1
modifier_at ts None was = record { us = []; split = refl; part = refl }
modifier_at ts (Some rest) was = record { us = opening ∷ closing ∷ []; split = array_first ts was; part = refl }

pub modifier_found : (ts : List Token) → FoundModifier ts (name_modifier_of ts).0 (name_modifier_of ts).1
unfolding name_modifier_of
modifier_found ts = modifier_at ts (behind (after_opening ts) after_closing) refl

as_plain : (rest : List Token) → name_modifier_of (reserved word.As ∷ rest) ≡ (name_modifier.Plain, reserved word.As ∷ rest)
unfolding name_modifier_of after_opening
as_plain rest = refl

array_stands : (rest : List Token) → name_modifier_of (opening ∷ closing ∷ rest) ≡ (name_modifier.Array, rest)
unfolding name_modifier_of after_opening after_closing
array_stands rest = refl

pub modifier_finds : (us rest : List Token) (m : NameModifier) → IsNameModifier us m → name_modifier_of (us ++ reserved word.As ∷ rest) ≡ (m, reserved word.As ∷ rest)
modifier_finds us rest name_modifier.Plain p = ap (λ ws. name_modifier_of (ws ++ reserved word.As ∷ rest)) p ∙ as_plain rest
modifier_finds us rest name_modifier.Array p = ap (λ ws. name_modifier_of (ws ++ reserved word.As ∷ rest)) p ∙ array_stands (reserved word.As ∷ rest)

-- PARAMETERS

abbrev Named : Name → NameModifier → TypeName → List Token → Type 0
Named n m a ts = Names n (Part IsNameModifier m (λ us. IsDeclared us a)) ts

record PassedAt (ts : List Token) (by : PassedBy) (us : List Token) : Type 0 where
  front : List Token
  split : ts ≡ front ++ us
  back : (n : Name) (m : NameModifier) (a : TypeName) (vs : List Token) → Named n m a vs → IsParameter (front ++ vs) (parameter by n m a)

passed_at : (ts : List Token) → PassedAt ts (passed_by ts).0 (passed_by ts).1
unfolding passed_by
passed_at [] = record { front = []; split = refl; back = λ n m a vs p. inl p }
passed_at (token.Keyword word.ByVal ∷ ts) = record { front = reserved word.ByVal ∷ []; split = refl; back = λ n m a vs p. inr (vs, refl, p) }
passed_at (token.Keyword word.ByRef ∷ ts) = record { front = reserved word.ByRef ∷ []; split = refl; back = λ n m a vs p. (vs, refl, p) }
passed_at (t ∷ ts) = record { front = []; split = refl; back = λ n m a vs p. inl p }

parameter_found : (ts rest : List Token) (p : Parameter) → read_parameter ts ≡ Some (p, rest) → Spelled IsParameter ts p rest
unfolding read_parameter
parameter_found ts rest p e =
    let by : PassedBy = (passed_by ts).0 in
    let us : List Token = (passed_by ts).1 in
    let a = then_some (read_name us) (λ n vs. parameter_named by n (name_modifier_of vs)) e in
    let m : NameModifier = (name_modifier_of a.0.1).0 in
    let b = then_some (read_declared (name_modifier_of a.0.1).1) (λ x vs. Some (parameter by a.0.0 m x, vs)) a.2 in
    let w = passed_at ts in
    let n = name_first us a.0.0 a.0.1 a.1 in
    let f = modifier_found a.0.1 in
    let g = declared_reads.found (name_modifier_of a.0.1).1 b.0.1 b.0.0 b.1 in
    let inner : us ≡ n.0 ∷ (f.us ++ g.0) ++ b.0.1 =
    n.1 ∙ ap (λ vs. n.0 ∷ vs) (f.split ∙ ap (λ vs. f.us ++ vs) g.1 ∙ sym (append_assoc f.us g.0 b.0.1)) in
    moved IsParameter (w.front ++ n.0 ∷ (f.us ++ g.0)) ts rest b.0.1 (parameter by a.0.0 m b.0.0) p
    (w.split ∙ ap (λ vs. w.front ++ vs) inner ∙ sym (append_assoc w.front (n.0 ∷ (f.us ++ g.0)) b.0.1))
    (w.back a.0.0 m b.0.0 (n.0 ∷ (f.us ++ g.0)) (n.0, f.us ++ g.0, refl, n.2, (f.us, g.0, refl, f.part, g.2))) b.2

named_finds : (by : PassedBy) (n : Name) (m : NameModifier) (a : TypeName) (us rest : List Token) → length (us ++ rest) ≤ most_tokens → ends_part rest ≡ true → Named n m a us
    → parameter_passed (by, us ++ rest) ≡ Some (parameter by n m a, rest)
named_finds by n m a us rest few ends (t, vs, is, named, (w, x, split, q, (y, as_is, p))) =
    let whole : us ++ rest ≡ t ∷ (w ++ reserved word.As ∷ (y ++ rest)) =
    ap (λ ws. ws ++ rest) (is ∙ ap (λ ws. t ∷ ws) (split ∙ ap (λ ws. w ++ ws) as_is)) ∙ ap (λ ws. t ∷ ws) (append_assoc w (reserved word.As ∷ y) rest) in
    let small : length ((reserved word.As ∷ y) ++ rest) ≤ most_tokens =
    omega (arith, few, ap length whole, length-append w (reserved word.As ∷ (y ++ rest))) in
    then_is (read_name (us ++ rest)) (λ k ws. parameter_named by k (name_modifier_of ws)) n (w ++ reserved word.As ∷ (y ++ rest))
    (ap read_name whole ∙ read_named t n (w ++ reserved word.As ∷ (y ++ rest)) named)
    ∙ ap (parameter_named by n) (modifier_finds w (y ++ rest) m q)
    ∙ then_is (read_declared (reserved word.As ∷ (y ++ rest))) (λ b ws. Some (parameter by n m b, ws)) a rest
    (declared_reads.finds (reserved word.As ∷ y) rest a small (ends_stops rest ends) (y, refl, p))

name_passed : (t : Token) (n : Name) (ts : List Token) → name_of t ≡ Some n → passed_by (t ∷ ts) ≡ (passed.Value, t ∷ ts)
unfolding passed_by
name_passed (token.Name m) n ts e = refl
name_passed (token.EscapedName m) n ts e = refl
name_passed t n ts e = absurd cc

value_stands : (ts : List Token) → passed_by (reserved word.ByVal ∷ ts) ≡ (passed.Value, ts)
unfolding passed_by
value_stands ts = refl

reference_stands : (ts : List Token) → passed_by (reserved word.ByRef ∷ ts) ≡ (passed.Reference, ts)
unfolding passed_by
reference_stands ts = refl

plain_passed : (n : Name) (m : NameModifier) (a : TypeName) (us rest : List Token) → Named n m a us → passed_by (us ++ rest) ≡ (passed.Value, us ++ rest)
plain_passed n m a us rest (t, vs, is, named, p) =
    let whole : us ++ rest ≡ t ∷ (vs ++ rest) = ap (λ ws. ws ++ rest) is in
    ap passed_by whole ∙ name_passed t n (vs ++ rest) named ∙ ap (λ ws. (passed.Value, ws)) (sym whole)

passed_finds : (by : PassedBy) (n : Name) (m : NameModifier) (a : TypeName) (us rest : List Token) → length (us ++ rest) ≤ most_tokens → ends_part rest ≡ true
    → IsParameter us (parameter by n m a) → parameter_passed (passed_by (us ++ rest)) ≡ Some (parameter by n m a, rest)
passed_finds passed.Value n m a us rest few ends (inl p) =
    ap parameter_passed (plain_passed n m a us rest p) ∙ named_finds passed.Value n m a us rest few ends p
passed_finds passed.Value n m a us rest few ends (inr (vs, is, p)) =
    let whole : us ++ rest ≡ reserved word.ByVal ∷ (vs ++ rest) = ap (λ ws. ws ++ rest) is in
    ap (λ ws. parameter_passed (passed_by ws)) whole ∙ ap parameter_passed (value_stands (vs ++ rest))
    ∙ named_finds passed.Value n m a vs rest (omega (arith, few, ap length whole)) ends p
passed_finds passed.Reference n m a us rest few ends (vs, is, p) =
    let whole : us ++ rest ≡ reserved word.ByRef ∷ (vs ++ rest) = ap (λ ws. ws ++ rest) is in
    ap (λ ws. parameter_passed (passed_by ws)) whole ∙ ap parameter_passed (reference_stands (vs ++ rest))
    ∙ named_finds passed.Reference n m a vs rest (omega (arith, few, ap length whole)) ends p

parameter_finds : (us rest : List Token) (p : Parameter) → length (us ++ rest) ≤ most_tokens → ends_part rest ≡ true → IsParameter us p
    → read_parameter (us ++ rest) ≡ Some (p, rest)
unfolding read_parameter
parameter_finds us rest p few ends q = passed_finds p.passed p.name p.modifier p.declared us rest few ends q

parameter_reads : Reads IsParameter EndsPart read_parameter
parameter_reads = record {
  found = λ ts rest p e. let f = parameter_found ts rest p e in (f.us, f.split, f.part);
  finds = parameter_finds;
}

some_named : (n : Name) (m : NameModifier) (a : TypeName) (us : List Token) → Named n m a us → 0 < length us
some_named n m a us (t, vs, is, named, q) = omega (arith, ap length is)

some_passed : (by : PassedBy) (n : Name) (m : NameModifier) (a : TypeName) (us : List Token) → IsParameter us (parameter by n m a) → 0 < length us
some_passed passed.Value n m a us (inl p) = some_named n m a us p
some_passed passed.Value n m a us (inr (vs, is, p)) = omega (arith, ap length is)
some_passed passed.Reference n m a us (vs, is, p) = omega (arith, ap length is)

some_parameter : (us : List Token) (p : Parameter) → IsParameter us p → 0 < length us
some_parameter us p q = some_passed p.passed p.name p.modifier p.declared us q

listed_parameters : Reads (AreListed IsParameter) EndsList (read_list read_parameter)
listed_parameters = list_reads IsParameter read_parameter parameter_reads some_parameter

-- PARAMETERS IN PARENTHESES

-- what stands behind the parenthesis that opens, up to the one that closes
abbrev Inner : List Token → List Parameter → Type 0
Inner us ps = ((us ≡ []) × (ps ≡ [])) ⊎ AreListed IsParameter us ps

record FoundInner (ts : List Token) (ps : List Parameter) (rest : List Token) : Type 0 where
  us : List Token
  split : ts ≡ us ++ closing ∷ rest
  part : Inner us ps

inner_as : (ts rest more : List Token) (ps : List Parameter) → ts ≡ closing ∷ more → ◌≡◌ {A = Read (List Parameter)} (Some ([], more)) (Some (ps, rest)) → FoundInner ts ps rest
inner_as ts rest more ps at e =
    let same = parts_of [] ps more rest e in
    record { us = []; split = at ∙ ap (λ us. closing ∷ us) same.1; part = inl (refl, sym same.0) }

inner_found : (ts rest : List Token) (ps : List Parameter) (o : Option (List Token)) → after_closing ts ≡ o → none_or_listed ts o ≡ Some (ps, rest) → FoundInner ts ps rest
inner_found ts rest ps (Some more) was e = inner_as ts rest more ps (closing_first ts was) e
inner_found ts rest ps None was e =
    let f = closed_found (AreListed IsParameter) EndsList (read_list read_parameter) listed_parameters after_closing closing closing_at ts rest ps e in
    record { us = f.0; split = f.1; part = inr f.2 }

opened_found : (ts rest : List Token) (ps : List Parameter) → read_opened ts ≡ Some (ps, rest) → FoundInner ts ps rest
unfolding read_opened
opened_found ts rest ps e = inner_found ts rest ps (after_closing ts) refl e

-- a token that isn't the first of a parameter
module _ (after : List Token → Option (List Token)) (by_name : (t : Token) (n : Name) (ts : List Token) → name_of t ≡ Some n → after (t ∷ ts) ≡ None)
    (by_value : (ts : List Token) → after (reserved word.ByVal ∷ ts) ≡ None) (by_reference : (ts : List Token) → after (reserved word.ByRef ∷ ts) ≡ None) where
  named_first : (n : Name) (m : NameModifier) (a : TypeName) (us rest : List Token) → Named n m a us → after (us ++ rest) ≡ None
  named_first n m a us rest (t, vs, is, named, q) = ap (λ ws. after (ws ++ rest)) is ∙ by_name t n (vs ++ rest) named

  passed_first : (by : PassedBy) (n : Name) (m : NameModifier) (a : TypeName) (us rest : List Token) → IsParameter us (parameter by n m a) → after (us ++ rest) ≡ None
  passed_first passed.Value n m a us rest (inl p) = named_first n m a us rest p
  passed_first passed.Value n m a us rest (inr (vs, is, p)) = ap (λ ws. after (ws ++ rest)) is ∙ by_value (vs ++ rest)
  passed_first passed.Reference n m a us rest (vs, is, p) = ap (λ ws. after (ws ++ rest)) is ∙ by_reference (vs ++ rest)

  parameters_first : (us rest : List Token) (ps : List Parameter) → AreListed IsParameter us ps → after (us ++ rest) ≡ None
  parameters_first us rest ps (AreListed.one {x = p} q) = passed_first p.passed p.name p.modifier p.declared us rest q
  parameters_first us rest ps (AreListed.more {ts = ts} {us = vs} {x = p} q qs) =
      ap after (append_assoc ts (comma ∷ vs) rest) ∙ passed_first p.passed p.name p.modifier p.declared ts (comma ∷ (vs ++ rest)) q

name_no_closing : (t : Token) (n : Name) (ts : List Token) → name_of t ≡ Some n → after_closing (t ∷ ts) ≡ None
unfolding after_closing
name_no_closing (token.Name m) n ts e = refl
name_no_closing (token.EscapedName m) n ts e = refl
name_no_closing t n ts e = absurd cc

word_no_closing : (w : Keyword) (ts : List Token) → after_closing (reserved w ∷ ts) ≡ None
unfolding after_closing
word_no_closing w ts = refl

parameters_no_closing : (us rest : List Token) (ps : List Parameter) → AreListed IsParameter us ps → after_closing (us ++ rest) ≡ None
parameters_no_closing us rest ps p = parameters_first after_closing name_no_closing (word_no_closing word.ByVal) (word_no_closing word.ByRef) us rest ps p

inner_finds : (us rest : List Token) (ps : List Parameter) → length (us ++ closing ∷ rest) ≤ most_tokens → Inner us ps → read_opened (us ++ closing ∷ rest) ≡ Some (ps, rest)
unfolding read_opened
inner_finds us rest ps few (inl (none, empty)) =
    ap (λ ws. none_or_listed (ws ++ closing ∷ rest) (after_closing (ws ++ closing ∷ rest))) none
    ∙ ap (none_or_listed (closing ∷ rest)) (closing_stands rest) ∙ ap (λ ks. Some (ks, rest)) (sym empty)
inner_finds us rest ps few (inr p) =
    ap (none_or_listed (us ++ closing ∷ rest)) (parameters_no_closing us (closing ∷ rest) ps p)
    ∙ closed_finds (AreListed IsParameter) EndsList (read_list read_parameter) listed_parameters after_closing closing closing_stands ends_closing us rest ps few p

pub opening_stands : (us : List Token) → after_opening (opening ∷ us) ≡ Some us
unfolding after_opening
opening_stands us = refl

abbrev pub Anything : List Token → Type 0
Anything ts = Unit {0}

opened_split : (ts vs us rest : List Token) → ts ≡ opening ∷ vs → vs ≡ us ++ closing ∷ rest → ts ≡ (opening ∷ (us ++ closing ∷ [])) ++ rest
opened_split ts vs us rest e f = e ∙ ap (λ ws. opening ∷ ws) (f ∙ sym (append_assoc us (closing ∷ []) rest))

written_whole : (us vs rest : List Token) → us ≡ opening ∷ (vs ++ closing ∷ []) → us ++ rest ≡ opening ∷ (vs ++ closing ∷ rest)
written_whole us vs rest is = ap (λ ws. ws ++ rest) is ∙ ap (λ ws. opening ∷ ws) (append_assoc vs (closing ∷ []) rest)

pub written_reads : Reads AreWritten Anything read_written
unfolding read_written
written_reads = record {
  found = λ ts rest ps e.
      let b = behind_some (after_opening ts) read_opened (ps, rest) e in
      let f = opened_found b.0 rest ps b.2 in
      (opening ∷ (f.us ++ closing ∷ []), opened_split ts b.0 f.us rest (opening_first ts b.1) f.split, (f.us, refl, f.part));
  finds = λ us rest ps few ends p.
      let whole = written_whole us p.0 rest p.1 in
      ap (λ ws. behind (after_opening ws) read_opened) whole ∙ ap (λ o. behind o read_opened) (opening_stands (p.0 ++ closing ∷ rest))
      ∙ inner_finds p.0 rest ps (omega (arith, few, ap length whole)) p.2;
}

abbrev pub NoParameters : List Token → Type 0
NoParameters ts = after_opening ts ≡ None

parameters_after : (ts rest : List Token) (ps : List Parameter) (o : Option (List Token)) → after_opening ts ≡ o → parameters_behind ts o ≡ Some (ps, rest)
    → Spelled AreParameters ts ps rest
parameters_after ts rest ps None was e = moved AreParameters [] ts rest ts [] ps refl (inl (refl, refl)) e
parameters_after ts rest ps (Some vs) was e =
    let f = opened_found vs rest ps e in
    record {
      us = opening ∷ (f.us ++ closing ∷ []);
      split = opened_split ts vs f.us rest (opening_first ts was) f.split;
      part = inr (f.us, refl, f.part);
    }

parameters_found : (ts rest : List Token) (ps : List Parameter) → read_parameters ts ≡ Some (ps, rest) → Spelled AreParameters ts ps rest
unfolding read_parameters
parameters_found ts rest ps e = parameters_after ts rest ps (after_opening ts) refl e

parameters_finds : (us rest : List Token) (ps : List Parameter) → length (us ++ rest) ≤ most_tokens → NoParameters rest → AreParameters us ps
    → read_parameters (us ++ rest) ≡ Some (ps, rest)
unfolding read_parameters
parameters_finds us rest ps few ends (inl (none, empty)) =
    ap (λ ws. parameters_behind (ws ++ rest) (after_opening (ws ++ rest))) none ∙ ap (parameters_behind rest) ends ∙ ap (λ ks. Some (ks, rest)) (sym empty)
parameters_finds us rest ps few ends (inr (vs, is, p)) =
    let whole = written_whole us vs rest is in
    ap (λ ws. parameters_behind ws (after_opening ws)) whole ∙ ap (parameters_behind (opening ∷ (vs ++ closing ∷ rest))) (opening_stands (vs ++ closing ∷ rest))
    ∙ inner_finds vs rest ps (omega (arith, few, ap length whole)) p

pub parameters_reads : Reads AreParameters NoParameters read_parameters
parameters_reads = record {
  found = λ ts rest ps e. let f = parameters_found ts rest ps e in (f.us, f.split, f.part);
  finds = parameters_finds;
}

-- NO TYPE PARAMETERS STAND BEHIND TYPE PARAMETERS

name_no_of : (t : Token) (n : Name) (ts : List Token) → name_of t ≡ Some n → after_of (t ∷ ts) ≡ None
unfolding after_of
name_no_of (token.Name m) n ts e = refl
name_no_of (token.EscapedName m) n ts e = refl
name_no_of t n ts e = absurd cc

value_no_of : (ts : List Token) → after_of (reserved word.ByVal ∷ ts) ≡ None
unfolding after_of
value_no_of ts = refl

reference_no_of : (ts : List Token) → after_of (reserved word.ByRef ∷ ts) ≡ None
unfolding after_of
reference_no_of ts = refl

closing_no_of : (ts : List Token) → after_of (closing ∷ ts) ≡ None
unfolding after_of
closing_no_of ts = refl

inner_no_of : (us rest : List Token) (ps : List Parameter) → Inner us ps → after_of (us ++ closing ∷ rest) ≡ None
inner_no_of us rest ps (inl (none, empty)) = ap (λ ws. after_of (ws ++ closing ∷ rest)) none ∙ closing_no_of rest
inner_no_of us rest ps (inr p) = parameters_first after_of name_no_of value_no_of reference_no_of us (closing ∷ rest) ps p

opening_of : (ts : List Token) (o : Option (List Token)) → after_opening ts ≡ o → after_opening_of ts ≡ behind o after_of
unfolding after_opening_of
opening_of ts o e = ap (λ q. behind q after_of) e

none_of_plain : (ts : List Token) → after_opening ts ≡ None → after_opening_of ts ≡ None
none_of_plain ts e = opening_of ts None e

pub parameters_no_of : (Behind : List Token → Type 0) (ts : List Token) (ps : List Parameter) → ((us : List Token) → Behind us → NoParameters us)
    → Part AreParameters ps Behind ts → NoTypeParameters ts
parameters_no_of Behind ts ps stops (us, rest, split, inl (none, empty), q) =
    ap after_opening_of (split ∙ ap (λ ws. ws ++ rest) none) ∙ none_of_plain rest (stops rest q)
parameters_no_of Behind ts ps stops (us, rest, split, inr (vs, is, p), q) =
    let whole : ts ≡ opening ∷ (vs ++ closing ∷ rest) = split ∙ written_whole us vs rest is in
    ap after_opening_of whole ∙ opening_of (opening ∷ (vs ++ closing ∷ rest)) (Some (vs ++ closing ∷ rest)) (opening_stands (vs ++ closing ∷ rest)) ∙ inner_no_of vs rest ps p
