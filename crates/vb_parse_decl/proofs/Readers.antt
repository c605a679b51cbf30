-- Readers of parts: what they find is spelled before the rest, and they find what is spelled there.
use Rattle.std.proofs.Common.{◌≡◌, ◌≤◌, List, ◌++◌, length, Option, Some, None, refl, ap, ◌∙◌, arith, length-append}
use Rattle.vb_text.specs.declared.names.Name.{Name}
use Rattle.vb_syntax.specs.declared.tokens.Token.{Token}
use Rattle.vb_parse_expr.specs.TypeReading.{Read, and_then, behind, read_name, most_tokens}
use Rattle.vb_parse_expr.proofs.TypeNames.{name_first, read_named}
use Rattle.vb_parse_decl.specs.Parts.{Names, Part}

-- ONE READING AFTER ANOTHER

pub then_is : {A B : Type 0} (r : Read A) (f : A → List Token → Option B) (x : A) (rest : List Token) → r ≡ Some (x, rest) → and_then r f ≡ f x rest
then_is r f x rest e = ap (λ q. and_then q f) e

pub behind_some : {B : Type 0} (o : Option (List Token)) (f : List Token → Option B) (y : B) → behind o f ≡ Some y
    → (us : List Token) × (o ≡ Some us) × (f us ≡ Some y)
behind_some None f y e = absurd cc
behind_some (Some us) f y e = (us, refl, e)

pub some_same : {X : Type 0} (x y : X) → Some x ≡ Some y → x ≡ y
some_same x y e = cc

-- READERS

pub record Reads {X : Type 0} (P : List Token → X → Type 0) (Ends : List Token → Type 0) (read : List Token → Read X) : Type 0 where
  pub found : (ts rest : List Token) (x : X) → read ts ≡ Some (x, rest) → (us : List Token) × (ts ≡ us ++ rest) × P us x
  pub finds : (us rest : List Token) (x : X) → length (us ++ rest) ≤ most_tokens → Ends rest → P us x → read (us ++ rest) ≡ Some (x, rest)

pub weaker : {X : Type 0} (P : List Token → X → Type 0) (Ends More : List Token → Type 0) (read : List Token → Read X)
    → ((ts : List Token) → More ts → Ends ts) → Reads P Ends read → Reads P More read
weaker P Ends More read less r = record {
  found = r.found;
  finds = λ us rest x few ends p. r.finds us rest x few (less rest ends) p;
}

-- a part that is read, and what stands behind it
pub record Found {X : Type 0} (read : List Token → Read X) (Behind : List Token → Type 0) (ts : List Token) (x : X) : Type 0 where
  pub rest : List Token
  pub reads : read ts ≡ Some (x, rest)
  pub behind : Behind rest
  pub few : length rest ≤ most_tokens

pub part_read : {X : Type 0} (P : List Token → X → Type 0) (Ends : List Token → Type 0) (read : List Token → Read X) → Reads P Ends read
    → (Behind : List Token → Type 0) (ts : List Token) (x : X) → ((us : List Token) → Behind us → Ends us) → length ts ≤ most_tokens → Part P x Behind ts
    → Found read Behind ts x
part_read P Ends read r Behind ts x stops few (us, rest, split, p, q) =
    let small : length (us ++ rest) ≤ most_tokens = omega (arith, ap length split) in
    record {
      rest = rest;
      reads = ap read split ∙ r.finds us rest x small (stops rest q) p;
      behind = q;
      few = omega (arith, small, length-append us rest);
    }

pub read_part : {X : Type 0} (P : List Token → X → Type 0) (Ends : List Token → Type 0) (read : List Token → Read X) → Reads P Ends read
    → (Behind : List Token → Type 0) (ts rest : List Token) (x : X) → read ts ≡ Some (x, rest) → Behind rest → Part P x Behind ts
read_part P Ends read r Behind ts rest x e q = let f = r.found ts rest x e in (f.0, rest, f.1, f.2, q)

-- NAMES

pub name_read : (Behind : List Token → Type 0) (ts : List Token) (n : Name) → length ts ≤ most_tokens → Names n Behind ts → Found read_name Behind ts n
name_read Behind ts n few (t, us, split, named, p) = record {
  rest = us;
  reads = ap read_name split ∙ read_named t n us named;
  behind = p;
  few = omega (arith, few, ap length split);
}

pub read_names : (Behind : List Token → Type 0) (ts rest : List Token) (n : Name) → read_name ts ≡ Some (n, rest) → Behind rest → Names n Behind ts
read_names Behind ts rest n e p = let f = name_first ts n rest e in (f.0, rest, f.1, f.2, p)
