-- Types, expressions and type parameters are read as they are spelled.
use Rattle.std.proofs.Common.{◌≡◌, inl, inr, ◌≤◌, ◌<◌, Bool, true, false, ◌&&◌, List, [], ◌∷◌, ◌++◌, length, Option, Some, None, refl, sym, ap, subst, ◌∙◌, arith, append_assoc}
use Rattle.vb_syntax.specs.declared.keyword.Keyword.TheVariants as word
use Rattle.vb_syntax.specs.declared.symbol.Symbol.TheVariants as sign
use Rattle.vb_syntax.specs.declared.{tokens.Token.Token, types.{TypeName.TypeName, TypeConstraint.TypeConstraint}}
use Rattle.vb_syntax.specs.declared.tokens.Token.TheVariants as token
use Rattle.vb_syntax.specs.declared.types.TypeConstraint.TheVariants as constraint
use Rattle.vb_parse_expr.specs.{Reading.{after_opening_brace, after_closing_brace, after_comma}, TypeReading.{Read, read_type, most_tokens}, Placing.read_expression, Words.{opening_brace, closing_brace}, Types.{goes_on_name, goes_on_array, goes_on_type}, Fronts.goes_on}
use Rattle.vb_parse_expr.proofs.{FirstTokens.{opening_brace_first, closing_brace_first}, TypeAhead.{over_type, and_false}, TypeBegins.{begins_type, some_type, type_begins}, TypeFronts.{type_found, type_read}, TypeNames.{then_some, parts_of}, Wiring.{expression_reads, reads_front}}
use Rattle.vb_parse_decl.specs.{Parts.{reserved, IsExpression, IsType, AreListed}, Declarations.{IsConstraint, AreConstraints}, DeclarationReading.{constraint_word, word_or_type, read_constraint, one_or_braced, read_constraints, read_list}}
use Rattle.vb_parse_decl.proofs.{Readers.{Reads, weaker, then_is}, ReadersLists.{ends_part, EndsPart, EndsList, list_reads, closed_found, closed_finds}}

-- TYPES

-- neither a dot nor a parenthesis that opens
unfoldable pub stops : List Token → Bool
stops (token.Symbol sign.Dot ∷ ts) = false
stops (token.Symbol sign.OpenParenthesis ∷ ts) = false
stops ts = true

abbrev pub Stops : List Token → Type 0
Stops ts = stops ts ≡ true

stops_name : (ts : List Token) → stops ts ≡ true → goes_on_name ts ≡ false
unfolding stops
stops_name (token.Symbol sign.Dot ∷ ts) e = absurd cc
stops_name (token.Symbol sign.OpenParenthesis ∷ ts) e = absurd cc
stops_name ts e = refl

stops_array : (ts : List Token) → stops ts ≡ true → goes_on_array ts ≡ false
unfolding stops
stops_array (token.Symbol sign.OpenParenthesis ∷ ts) e = absurd cc
stops_array ts e = refl

pub type_over : (dotted opened : Bool) (ts : List Token) → stops ts ≡ true → goes_on_type dotted opened ts ≡ false
type_over dotted opened ts e =
    over_type dotted opened ts (ap (λ b. dotted && b) (stops_name ts e) ∙ and_false dotted) (ap (λ b. opened && b) (stops_array ts e) ∙ and_false opened)

pub type_reads : Reads IsType Stops read_type
type_reads = record {
  found = λ ts rest x e. let f = type_found e in (f.front, f.split, record { dotted = f.dotted; opened = f.opened; spells = f.spells });
  finds = λ us rest x few ends p. type_read rest p.spells (type_over p.dotted p.opened rest ends) few;
}

pub ends_stops : (ts : List Token) → ends_part ts ≡ true → stops ts ≡ true
unfolding stops ends_part
ends_stops (token.Symbol sign.Dot ∷ ts) e = absurd cc
ends_stops (token.Symbol sign.OpenParenthesis ∷ ts) e = absurd cc
ends_stops ts e = refl

pub some_type_tokens : (us : List Token) (x : TypeName) → IsType us x → 0 < length us
some_type_tokens us x p = some_type p.spells

pub types_reads : Reads (AreListed IsType) EndsList (read_list read_type)
types_reads = list_reads IsType read_type (weaker IsType Stops EndsPart read_type ends_stops type_reads) some_type_tokens

-- EXPRESSIONS

abbrev pub EndsExpression : List Token → Type 0
EndsExpression ts = goes_on ts ≡ false

pub expression_read : Reads IsExpression EndsExpression read_expression
expression_read = record {
  found = λ ts rest x e. let f = expression_reads ts rest x e in (f.front, f.split, record { strength = f.strength; weakest = f.weakest; spells = f.spells });
  finds = λ us rest x few ends p. reads_front rest p.spells ends few;
}

-- CONSTRAINTS

record FoundWord (ts : List Token) (c : TypeConstraint) (rest : List Token) : Type 0 where
  us : List Token
  split : ts ≡ us ++ rest
  part : IsConstraint us c

word_as : (us ts rest : List Token) (k c : TypeConstraint) → IsConstraint us k → ◌≡◌ {A = Read TypeConstraint} (Some (k, ts)) (Some (c, rest)) → FoundWord (us ++ ts) c rest
word_as us ts rest k c p e =
    let same = parts_of k c ts rest e in
    record { us = us; split = ap (λ vs. us ++ vs) same.1; part = subst (λ x. IsConstraint us x) same.0 p }

word_found : (ts rest : List Token) (c : TypeConstraint) → constraint_word ts ≡ Some (c, rest) → FoundWord ts c rest
unfolding constraint_word
word_found [] rest c e = absurd cc
word_found (token.Keyword word.Class ∷ ts) rest c e = word_as (reserved word.Class ∷ []) ts rest constraint.Class c refl e
word_found (token.Keyword word.New ∷ ts) rest c e = word_as (reserved word.New ∷ []) ts rest constraint.New c refl e
word_found (t ∷ ts) rest c e = absurd cc

word_or_found : (ts rest : List Token) (c : TypeConstraint) (o : Read TypeConstraint) → constraint_word ts ≡ o → word_or_type ts o ≡ Some (c, rest) → FoundWord ts c rest
word_or_found ts rest c (Some p) was e = word_found ts rest c (was ∙ e)
word_or_found ts rest c None was e =
    let b = then_some (read_type ts) (λ a us. Some (constraint.Type a, us)) e in
    let same = parts_of (constraint.Type b.0.0) c b.0.1 rest b.2 in
    let f = type_reads.found ts b.0.1 b.0.0 b.1 in
    record { us = f.0; split = f.1 ∙ ap (λ us. f.0 ++ us) same.1; part = subst (λ x. IsConstraint f.0 x) same.0 f.2 }

no_word : (t : Token) (us : List Token) → begins_type t ≡ true → constraint_word (t ∷ us) ≡ None
unfolding constraint_word
no_word (token.Keyword word.Class) us e = absurd cc
no_word (token.Keyword word.New) us e = absurd cc
no_word t us e = refl

no_type_word : (us rest : List Token) (a : TypeName) → IsType us a → constraint_word (us ++ rest) ≡ None
no_type_word us rest a p =
    let b = type_begins p.spells in
    ap (λ vs. constraint_word (vs ++ rest)) b.split ∙ no_word b.first (b.rest ++ rest) b.begins

class_finds : (rest : List Token) → read_constraint (reserved word.Class ∷ rest) ≡ Some (constraint.Class, rest)
unfolding read_constraint constraint_word
class_finds rest = refl

new_finds : (rest : List Token) → read_constraint (reserved word.New ∷ rest) ≡ Some (constraint.New, rest)
unfolding read_constraint constraint_word
new_finds rest = refl

type_finds : (us rest : List Token) (a : TypeName) → length (us ++ rest) ≤ most_tokens → ends_part rest ≡ true → IsType us a
    → read_constraint (us ++ rest) ≡ Some (constraint.Type a, rest)
unfolding read_constraint
type_finds us rest a few ends p =
    ap (word_or_type (us ++ rest)) (no_type_word us rest a p)
    ∙ then_is (read_type (us ++ rest)) (λ b vs. Some (constraint.Type b, vs)) a rest (type_reads.finds us rest a few (ends_stops rest ends) p)

constraint_finds : (us rest : List Token) (c : TypeConstraint) → length (us ++ rest) ≤ most_tokens → ends_part rest ≡ true → IsConstraint us c
    → read_constraint (us ++ rest) ≡ Some (c, rest)
constraint_finds us rest constraint.Class few ends p = ap (λ vs. read_constraint (vs ++ rest)) p ∙ class_finds rest
constraint_finds us rest constraint.New few ends p = ap (λ vs. read_constraint (vs ++ rest)) p ∙ new_finds rest
constraint_finds us rest (constraint.Type a) few ends p = type_finds us rest a few ends p

constraint_found : (ts rest : List Token) (c : TypeConstraint) → read_constraint ts ≡ Some (c, rest) → FoundWord ts c rest
unfolding read_constraint
constraint_found ts rest c e = word_or_found ts rest c (constraint_word ts) refl e

constraint_reads : Reads IsConstraint EndsPart read_constraint
constraint_reads = record {
  found = λ ts rest c e. let f = constraint_found ts rest c e in (f.us, f.split, f.part);
  finds = constraint_finds;
}

some_constraint : (us : List Token) (c : TypeConstraint) → IsConstraint us c → 0 < length us
some_constraint us constraint.Class p = omega (arith, ap length p)
some_constraint us constraint.New p = omega (arith, ap length p)
some_constraint us (constraint.Type a) p = some_type p.spells

listed_constraints : Reads (AreListed IsConstraint) EndsList (read_list read_constraint)
listed_constraints = list_reads IsConstraint read_constraint constraint_reads some_constraint

-- a constraint begins with no brace
no_type_brace : (t : Token) (us : List Token) → begins_type t ≡ true → after_opening_brace (t ∷ us) ≡ None
unfolding after_opening_brace
no_type_brace (token.Symbol sign.OpenBrace) us e = absurd cc
no_type_brace t us e = refl

class_no_brace : (rest : List Token) → after_opening_brace (reserved word.Class ∷ rest) ≡ None
unfolding after_opening_brace
class_no_brace rest = refl

new_no_brace : (rest : List Token) → after_opening_brace (reserved word.New ∷ rest) ≡ None
unfolding after_opening_brace
new_no_brace rest = refl

no_brace : (us rest : List Token) (c : TypeConstraint) → IsConstraint us c → after_opening_brace (us ++ rest) ≡ None
no_brace us rest constraint.Class p = ap (λ vs. after_opening_brace (vs ++ rest)) p ∙ class_no_brace rest
no_brace us rest constraint.New p = ap (λ vs. after_opening_brace (vs ++ rest)) p ∙ new_no_brace rest
no_brace us rest (constraint.Type a) p =
    let b = type_begins p.spells in
    ap (λ vs. after_opening_brace (vs ++ rest)) b.split ∙ no_type_brace b.first (b.rest ++ rest) b.begins

brace_stands : (us : List Token) → after_opening_brace (opening_brace ∷ us) ≡ Some us
unfolding after_opening_brace
brace_stands us = refl

closing_brace_stands : (us : List Token) → after_closing_brace (closing_brace ∷ us) ≡ Some us
unfolding after_closing_brace
closing_brace_stands us = refl

ends_brace : (us : List Token) → EndsList (closing_brace ∷ us)
unfolding ends_part after_comma
ends_brace us = record { ends = refl; none = refl }

record FoundConstraints (ts : List Token) (cs : List TypeConstraint) (rest : List Token) : Type 0 where
  us : List Token
  split : ts ≡ us ++ rest
  part : AreConstraints us cs

braced_split : (ts vs us rest : List Token) → ts ≡ opening_brace ∷ vs → vs ≡ us ++ closing_brace ∷ rest → ts ≡ (opening_brace ∷ (us ++ closing_brace ∷ [])) ++ rest
braced_split ts vs us rest e f = e ∙ ap (λ ws. opening_brace ∷ ws) (f ∙ sym (append_assoc us (closing_brace ∷ []) rest))

one_or_found : (ts rest : List Token) (cs : List TypeConstraint) (o : Option (List Token)) → after_opening_brace ts ≡ o → one_or_braced ts o ≡ Some (cs, rest)
    → FoundConstraints ts cs rest
one_or_found ts rest cs None was e =
    let b = then_some (read_constraint ts) (λ c us. Some (c ∷ [], us)) e in
    let same = parts_of (b.0.0 ∷ []) cs b.0.1 rest b.2 in
    let f = constraint_found ts b.0.1 b.0.0 b.1 in
    record { us = f.us; split = f.split ∙ ap (λ us. f.us ++ us) same.1; part = inl (b.0.0, sym same.0, f.part) }
one_or_found ts rest cs (Some vs) was e =
    let f = closed_found (AreListed IsConstraint) EndsList (read_list read_constraint) listed_constraints after_closing_brace closing_brace closing_brace_first vs rest cs e in
    record {
      us = opening_brace ∷ (f.0 ++ closing_brace ∷ []);
      split = braced_split ts vs f.0 rest (opening_brace_first ts vs was) f.1;
      part = inr (f.0, refl, f.2);
    }

constraints_found : (ts rest : List Token) (cs : List TypeConstraint) → read_constraints ts ≡ Some (cs, rest) → FoundConstraints ts cs rest
unfolding read_constraints
constraints_found ts rest cs e = one_or_found ts rest cs (after_opening_brace ts) refl e

braced_few : (us rest : List Token) → length ((opening_brace ∷ (us ++ closing_brace ∷ [])) ++ rest) ≤ most_tokens → length (us ++ closing_brace ∷ rest) ≤ most_tokens
braced_few us rest few = omega (arith, few, ap length (append_assoc us (closing_brace ∷ []) rest))

constraints_finds : (us rest : List Token) (cs : List TypeConstraint) → length (us ++ rest) ≤ most_tokens → ends_part rest ≡ true → AreConstraints us cs
    → read_constraints (us ++ rest) ≡ Some (cs, rest)
unfolding read_constraints
constraints_finds us rest cs few ends (inl (c, is, p)) =
    ap (one_or_braced (us ++ rest)) (no_brace us rest c p)
    ∙ then_is (read_constraint (us ++ rest)) (λ k vs. Some (k ∷ [], vs)) c rest (constraint_finds us rest c few ends p)
    ∙ ap (λ ks. Some (ks, rest)) (sym is)
constraints_finds us rest cs few ends (inr (vs, is, p)) =
    let whole : us ++ rest ≡ opening_brace ∷ (vs ++ closing_brace ∷ rest) =
    ap (λ ws. ws ++ rest) is ∙ ap (λ ws. opening_brace ∷ ws) (append_assoc vs (closing_brace ∷ []) rest) in
    let small : length (vs ++ closing_brace ∷ rest) ≤ most_tokens = omega (arith, few, ap length whole) in
    ap (λ ws. one_or_braced ws (after_opening_brace ws)) whole
    ∙ ap (one_or_braced (opening_brace ∷ (vs ++ closing_brace ∷ rest))) (brace_stands (vs ++ closing_brace ∷ rest))
    ∙ closed_finds (AreListed IsConstraint) EndsList (read_list read_constraint) listed_constraints after_closing_brace closing_brace closing_brace_stands ends_brace vs rest cs small p

pub constraints_reads : Reads AreConstraints EndsPart read_constraints
constraints_reads = record {
  found = λ ts rest cs e. let f = constraints_found ts rest cs e in (f.us, f.split, f.part);
  finds = constraints_finds;
}
