-- Names with dots between them are read as they are spelled.
use Rattle.std.proofs.Common.{◌≡◌, ℕ, zero, suc, ◌≤◌, List, [], ◌∷◌, ◌++◌, length, Option, Some, None, refl, ap, sym, ◌∙◌, append_assoc, arith}
use Rattle.vb_text.specs.declared.names.Name.{Name}
use Rattle.vb_syntax.specs.declared.tokens.Token.{Token}
use Rattle.vb_parse_expr.specs.{Words.{dot, name_of}, Types.{SpellsNames, one, more}, Reading.after_dot, TypeReading.{Read, and_then, name_at, read_name, names, names_at}}
use Rattle.vb_parse_expr.proofs.TypeAhead.{dot_first}

-- A READING AFTER ANOTHER

pub then_some : {A B : Type 0} (r : Read A) (f : A → List Token → Option B) {y : B} → and_then r f ≡ Some y
    → (p : A × List Token) × (r ≡ Some p) × (f p.0 p.1 ≡ Some y)
then_some None f e = cc
then_some (Some p) f e = (p, refl, e)

some_of : {X : Type 0} (p q : X) → Some p ≡ Some q → p ≡ q
some_of p q e = cc

pub parts_of : {A : Type 0} (y z : A) (us vs : List Token) → ◌≡◌ {A = Read A} (Some (y, us)) (Some (z, vs)) → (y ≡ z) × (us ≡ vs)
parts_of {A} y z us vs e =
    let same : ◌≡◌ {A = A × List Token} (y, us) (z, vs) = some_of (y, us) (z, vs) e in
    (ap (λ (p : A × List Token). p.0) same, ap (λ (p : A × List Token). p.1) same)

-- FOUND

-- what a reading found behind the names it had
pub record FoundNames (before : List Name) (ts : List Token) (ns : List Name) (rest : List Token) : Type 0 where
  pub front : List Token
  pub later : List Name
  pub whole : ns ≡ before ++ later
  pub split : ts ≡ front ++ rest
  pub spells : SpellsNames front later
  pub over : after_dot rest ≡ None

-- the token that is a name, and what stands behind it
token_at : (t : Token) (ts : List Token) (o : Option Name) (n : Name) (rest : List Token) → name_of t ≡ o → name_at ts o ≡ Some (n, rest)
    → (name_of t ≡ Some n) × (ts ≡ rest)
token_at t ts None n rest was e = cc
token_at t ts (Some m) n rest was e = let p = parts_of m n ts rest e in (was ∙ ap (λ x. Some x) p.0, p.1)

pub name_first : (ts : List Token) (n : Name) (rest : List Token) → read_name ts ≡ Some (n, rest)
    → (t : Token) × (ts ≡ t ∷ rest) × (name_of t ≡ Some n)
unfolding read_name
name_first [] n rest e = cc
name_first (t ∷ ts) n rest e = let p = token_at t ts (name_of t) n rest refl e in (t, ap (λ us. t ∷ us) p.1, p.0)

names_more : (k : ℕ) (before : List Name) (ts : List Token) (t : Token) (n : Name) (us : List Token) (next : Option (List Token))
    (ns : List Name) (rest : List Token)
    → ts ≡ t ∷ us → name_of t ≡ Some n → after_dot us ≡ next → names_at (names k) (before ++ n ∷ []) us next ≡ Some (ns, rest)
    → ((vs : List Token) → names k (before ++ n ∷ []) vs ≡ Some (ns, rest) → FoundNames (before ++ n ∷ []) vs ns rest)
    → FoundNames before ts ns rest
names_more k before ts t n us None ns rest split named was e again =
    let p = parts_of (before ++ n ∷ []) ns us rest e in
    record {
      front = t ∷ [];
      later = n ∷ [];
      whole = sym p.0;
      split = split ∙ ap (λ vs. t ∷ vs) p.1;
      spells = one t named;
      over = ap after_dot (sym p.1) ∙ was;
    }
names_more k before ts t n us (Some vs) ns rest split named was e again =
    let f = again vs e in
    record {
      front = t ∷ dot ∷ f.front;
      later = n ∷ f.later;
      whole = f.whole ∙ append_assoc before (n ∷ []) f.later;
      split = split ∙ ap (λ ws. t ∷ ws) (dot_first us was ∙ ap (λ ws. dot ∷ ws) f.split);
      spells = more t named f.spells;
      over = f.over;
    }

pub names_found : (k : ℕ) (before : List Name) (ts : List Token) (ns : List Name) (rest : List Token) → names k before ts ≡ Some (ns, rest)
    → FoundNames before ts ns rest
unfolding names
names_found zero before ts ns rest e = cc
names_found (suc k) before ts ns rest e =
    let b = then_some (read_name ts) (λ n us. names_at (names k) (before ++ n ∷ []) us (after_dot us)) e in
    let f = name_first ts b.0.0 b.0.1 b.1 in
    names_more k before ts f.0 b.0.0 b.0.1 (after_dot b.0.1) ns rest f.1 f.2 refl b.2
    (λ vs e'. names_found k (before ++ b.0.0 ∷ []) vs ns rest e')

-- READ

pub read_named : (t : Token) (n : Name) (us : List Token) → name_of t ≡ Some n → read_name (t ∷ us) ≡ Some (n, us)
unfolding read_name
read_named t n us e = ap (λ o. name_at us o) e

names_turn : (k : ℕ) (before : List Name) (t : Token) (n : Name) (us : List Token) (next : Option (List Token)) → name_of t ≡ Some n
    → after_dot us ≡ next
    → names (suc k) before (t ∷ us) ≡ names_at (names k) (before ++ n ∷ []) us next
unfolding names
names_turn k before t n us next e was =
    ap (λ r. and_then r (λ m vs. names_at (names k) (before ++ m ∷ []) vs (after_dot vs))) (read_named t n us e)
    ∙ ap (λ o. names_at (names k) (before ++ n ∷ []) us o) was

dot_stands : (us : List Token) → after_dot (dot ∷ us) ≡ Some us
unfolding after_dot
dot_stands us = refl

pub names_read : {front : List Token} {ns : List Name} → SpellsNames front ns → (k : ℕ) (before : List Name) (rest : List Token)
    → after_dot rest ≡ None
    → length front ≤ k → names k before (front ++ rest) ≡ Some (before ++ ns, rest)
names_read (one t e) zero before rest over enough = absurd (omega (arith, enough))
names_read (more t e inner) zero before rest over enough = absurd (omega (arith, enough))
names_read (one {n = n} t e) (suc k) before rest over enough = names_turn k before t n rest None e over
names_read (more {n = n} {ns = ns} {ts = ts} t e inner) (suc k) before rest over enough =
    names_turn k before t n (dot ∷ (ts ++ rest)) (Some (ts ++ rest)) e (dot_stands (ts ++ rest))
    ∙ names_read inner k (before ++ n ∷ []) rest over (omega (arith, enough))
    ∙ ap (λ ms. Some (ms, rest)) (append_assoc before (n ∷ []) ns)
