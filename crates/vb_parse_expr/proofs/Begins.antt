-- With which tokens a primary begins.
use Rattle.std.proofs.Common.{◌≡◌, ℕ, Bool, true, false, ◌||◌, List, ◌∷◌, ◌++◌, take, drop, Option, Some, is_some, refl, ap, sym, ◌∙◌}
use Rattle.std.proofs.lemmas.List.{take-append-drop}
use Rattle.vb_syntax.specs.declared.{tokens.Token.Token, expression.Expr.Expr}
use Rattle.vb_parse_expr.specs.{Words.{name_of, type_of, alone_of, primitive_cast, cast_operator}, Expressions.{Edge, SpellsPrimary, alone, parenthesized, name, address, type_test, member, type_member, with_member, invocation, creation, creation_with, array, bounded_array, conversion, cast, conditional}, Fronts.{IsPrimaryFront, begins_primary}}

-- the first token begins a primary
pub record Begins (ts : List Token) : Type 0 where
  pub first : Token
  pub behind : List Token
  pub split : ts ≡ first ∷ behind
  pub begins : begins_primary first ≡ true

begun : (t : Token) (ts : List Token) → begins_primary t ≡ true → Begins (t ∷ ts)
begun t ts e = record { first = t; behind = ts; split = refl; begins = e }

longer : (ts us : List Token) → Begins ts → Begins (ts ++ us)
longer ts us b = record { first = b.first; behind = b.behind ++ us; split = ap (λ vs. vs ++ us) b.split; begins = b.begins }

-- one of the tests holds
is_there : {A : Type 0} {x : A} (o : Option A) → o ≡ Some x → is_some o ≡ true
is_there o e = ap is_some e

either_true : (a b : Bool) → b ≡ true → (a || b) ≡ true
either_true true b e = refl
either_true false b e = e

first_true : (a b : Bool) → a ≡ true → (a || b) ≡ true
first_true a b e = ap (λ c. c || b) e

by_name : (t : Token) → is_some (name_of t) ≡ true → begins_primary t ≡ true
by_name t e = first_true (is_some (name_of t)) _ e

by_alone : (t : Token) → is_some (alone_of t) ≡ true → begins_primary t ≡ true
by_alone t e = either_true (is_some (name_of t)) _ (first_true (is_some (alone_of t)) _ e)

by_type : (t : Token) → is_some (type_of t) ≡ true → begins_primary t ≡ true
by_type t e = either_true (is_some (name_of t)) _ (either_true (is_some (alone_of t)) _ (first_true (is_some (type_of t)) _ e))

by_conversion : (t : Token) → is_some (primitive_cast t) ≡ true → begins_primary t ≡ true
by_conversion t e =
    either_true (is_some (name_of t)) _ (either_true (is_some (alone_of t)) _ (either_true (is_some (type_of t)) _
    (first_true (is_some (primitive_cast t)) _ e)))

by_cast : (t : Token) → is_some (cast_operator t) ≡ true → begins_primary t ≡ true
by_cast t e =
    either_true (is_some (name_of t)) _ (either_true (is_some (alone_of t)) _ (either_true (is_some (type_of t)) _
    (either_true (is_some (primitive_cast t)) _ (first_true (is_some (cast_operator t)) _ e))))

pub spelled_begins : {edge : Edge} {ts : List Token} {x : Expr} → SpellsPrimary edge ts x → Begins ts
spelled_begins (alone t e) = begun t _ (by_alone t (is_there _ e))
spelled_begins (parenthesized s) = begun _ _ refl
spelled_begins (name t e args) = begun t _ (by_name t (is_there _ e))
spelled_begins (address s) = begun _ _ refl
spelled_begins (type_test s a) = begun _ _ refl
spelled_begins (member t s takes e args) = longer _ _ (spelled_begins s)
spelled_begins (type_member t u e f) = begun t _ (by_type t (is_there _ e))
spelled_begins (with_member t e) = begun _ _ refl
spelled_begins (invocation s args takes) = longer _ _ (spelled_begins s)
spelled_begins (creation a) = begun _ _ refl
spelled_begins (creation_with a args) = begun _ _ refl
spelled_begins (array a is) = begun _ _ refl
spelled_begins (bounded_array a b is) = begun _ _ refl
spelled_begins (conversion t e s) = begun t _ (by_conversion t (is_there _ e))
spelled_begins (cast t e s a) = begun t _ (by_cast t (is_there _ e))
spelled_begins (conditional a b c) = begun _ _ refl

pub front_begins : (ts : List Token) (x : Expr) (n : ℕ) → IsPrimaryFront ts x n
    → (t : Token) × (us : List Token) × (ts ≡ t ∷ us) × (begins_primary t ≡ true)
front_begins ts x n f =
    let b = longer (take n ts) (drop n ts) (spelled_begins f.spells) in
    (b.first, b.behind, sym (take-append-drop n ts) ∙ b.split, b.begins)
