-- Lists of parts are read as they are spelled.
use Rattle.std.proofs.Common.{◌≡◌, ℕ, zero, suc, ◌≤◌, ◌<◌, Bool, true, false, List, [], ◌∷◌, ◌++◌, length, Option, Some, None, refl, sym, ap, subst, ◌∙◌, arith, append_assoc, length-append}
use Rattle.vb_syntax.specs.declared.symbol.Symbol.TheVariants as sign
use Rattle.vb_syntax.specs.declared.tokens.Token.{Token}
use Rattle.vb_syntax.specs.declared.tokens.Token.TheVariants as token
use Rattle.vb_parse_expr.specs.{Reading.after_comma, TypeReading.{Read, and_then, behind, most_tokens}, Words.comma}
use Rattle.vb_parse_expr.proofs.{TypeAhead.comma_first, TypeNames.{then_some, parts_of}}
use Rattle.vb_parse_decl.specs.{Parts.{AreListed, AreListed.{one, more}}, DeclarationReading.{listed_on, listed, read_list, closed}}
use Rattle.vb_parse_decl.proofs.Readers.{Reads, then_is, behind_some}

-- what may stand behind a part of a list: a comma, a bracket that closes, or nothing
unfoldable pub ends_part : List Token → Bool
ends_part [] = true
ends_part (token.Symbol sign.Comma ∷ ts) = true
ends_part (token.Symbol sign.CloseParenthesis ∷ ts) = true
ends_part (token.Symbol sign.CloseBrace ∷ ts) = true
ends_part ts = false

pub comma_ends : (ts : List Token) → ends_part (comma ∷ ts) ≡ true
unfolding ends_part
comma_ends ts = refl

abbrev pub EndsPart : List Token → Type 0
EndsPart ts = ends_part ts ≡ true

pub record EndsList (ts : List Token) : Type 0 where
  pub ends : ends_part ts ≡ true
  pub none : after_comma ts ≡ None

comma_stands : (ts : List Token) → after_comma (comma ∷ ts) ≡ Some ts
unfolding after_comma
comma_stands ts = refl

seam : (us vs rest : List Token) → (us ++ comma ∷ vs) ++ rest ≡ us ++ comma ∷ (vs ++ rest)
seam us vs rest = append_assoc us (comma ∷ vs) rest

module _ {X : Type 0} (P : List Token → X → Type 0) (read : List Token → Read X) (r : Reads P EndsPart read)
    (some : (us : List Token) (x : X) → P us x → 0 < length us) where
  record FoundList (before : List X) (ts : List Token) (xs : List X) (rest : List Token) : Type 0 where
    front : List Token
    later : List X
    split : ts ≡ front ++ rest
    whole : xs ≡ before ++ later
    parts : AreListed P front later

  go : ℕ → List X → X → List Token → Read (List X)
  go n before x us = listed_on (listed read n) (before ++ x ∷ []) us (after_comma us)

  turn : (n : ℕ) (before : List X) (ts : List Token) → listed read (suc n) before ts ≡ and_then (read ts) (go n before)
  unfolding listed go
  turn n before ts = refl

  found_on : (n : ℕ) (before : List X) (ts u us : List Token) (x : X) (next : Option (List Token)) (xs : List X) (rest : List Token)
      → ts ≡ u ++ us → P u x → after_comma us ≡ next → listed_on (listed read n) (before ++ x ∷ []) us next ≡ Some (xs, rest)
      → ((vs : List Token) → listed read n (before ++ x ∷ []) vs ≡ Some (xs, rest) → FoundList (before ++ x ∷ []) vs xs rest)
      → FoundList before ts xs rest
  found_on n before ts u us x None xs rest split p was e again =
      let same = parts_of (before ++ x ∷ []) xs us rest e in
      record {
        front = u;
        later = x ∷ [];
        split = split ∙ ap (λ vs. u ++ vs) same.1;
        whole = sym same.0;
        parts = one p;
      }
  found_on n before ts u us x (Some vs) xs rest split p was e again =
      let g = again vs e in
      record {
        front = u ++ comma ∷ g.front;
        later = x ∷ g.later;
        split = split ∙ ap (λ ws. u ++ ws) (comma_first us was ∙ ap (λ ws. comma ∷ ws) g.split) ∙ sym (seam u g.front rest);
        whole = g.whole ∙ append_assoc before (x ∷ []) g.later;
        parts = more p g.parts;
      }

  listed_found : (n : ℕ) (before : List X) (ts : List Token) (xs : List X) (rest : List Token) → listed read n before ts ≡ Some (xs, rest)
      → FoundList before ts xs rest
  unfolding listed go
  listed_found zero before ts xs rest e = absurd cc
  listed_found (suc n) before ts xs rest e =
      let b = then_some (read ts) (go n before) (sym (turn n before ts) ∙ e) in
      let f = r.found ts b.0.1 b.0.0 b.1 in
      found_on n before ts f.0 b.0.1 b.0.0 (after_comma b.0.1) xs rest f.1 f.2 refl b.2
      (λ vs e'. listed_found n (before ++ b.0.0 ∷ []) vs xs rest e')

  turn_finds : (n : ℕ) (before : List X) (ts us : List Token) (x : X) → read ts ≡ Some (x, us)
      → listed read (suc n) before ts ≡ listed_on (listed read n) (before ++ x ∷ []) us (after_comma us)
  unfolding go
  turn_finds n before ts us x e = turn n before ts ∙ then_is (read ts) (go n before) x us e

  listed_finds : {us : List Token} {xs : List X} → AreListed P us xs → (n : ℕ) (before : List X) (rest : List Token) → length us ≤ n
      → length (us ++ rest) ≤ most_tokens → EndsList rest → listed read n before (us ++ rest) ≡ Some (before ++ xs, rest)
  listed_finds (one {ts = us} {x = x} p) zero before rest long few ends = absurd (omega (arith, some us x p))
  listed_finds (one {ts = us} {x = x} p) (suc n) before rest long few ends =
      turn_finds n before (us ++ rest) rest x (r.finds us rest x few ends.ends p) ∙ ap (listed_on (listed read n) (before ++ x ∷ []) rest) ends.none
  listed_finds (more {ts = ts} {us = us} {x = x} {xs = xs} p ps) zero before rest long few ends =
      absurd (omega (arith, some ts x p, length-append ts (comma ∷ us)))
  listed_finds (more {ts = ts} {us = us} {x = x} {xs = xs} p ps) (suc n) before rest long few ends =
      let small : length (ts ++ comma ∷ (us ++ rest)) ≤ most_tokens = omega (arith, few, ap length (seam ts us rest)) in
      let fewer : length (us ++ rest) ≤ most_tokens = omega (arith, small, length-append ts (comma ∷ (us ++ rest))) in
      let short : length us ≤ n = omega (arith, long, some ts x p, length-append ts (comma ∷ us)) in
      ap (listed read (suc n) before) (seam ts us rest)
      ∙ turn_finds n before (ts ++ comma ∷ (us ++ rest)) (comma ∷ (us ++ rest)) x (r.finds ts (comma ∷ (us ++ rest)) x small (comma_ends (us ++ rest)) p)
      ∙ ap (listed_on (listed read n) (before ++ x ∷ []) (comma ∷ (us ++ rest))) (comma_stands (us ++ rest))
      ∙ listed_finds ps n (before ++ x ∷ []) rest short fewer ends
      ∙ ap (λ (zs : List X). Some (zs, rest)) (append_assoc before (x ∷ []) xs)

  pub list_reads : Reads (AreListed P) EndsList (read_list read)
  unfolding read_list
  list_reads = record {
    found = λ ts rest xs e.
        let f = listed_found (length ts) [] ts xs rest e in
        (f.front, f.split, subst (λ (ys : List X). AreListed P f.front ys) (sym f.whole) f.parts);
    finds = λ us rest xs few ends p. listed_finds p (length (us ++ rest)) [] rest (omega (arith, length-append us rest)) few ends;
  }

  pub some_listed : (us : List Token) (xs : List X) → AreListed P us xs → 0 < length us
  some_listed us xs (one {x = x} p) = some us x p
  some_listed us xs (more {ts = ts} {us = vs} {x = x} p ps) = omega (arith, length-append ts (comma ∷ vs))

-- A PART AND A TOKEN BEHIND IT

pub closed_found : {X : Type 0} (P : List Token → X → Type 0) (Ends : List Token → Type 0) (read : List Token → Read X) → Reads P Ends read
    → (after : List Token → Option (List Token)) (t : Token) → ((us vs : List Token) → after us ≡ Some vs → us ≡ t ∷ vs)
    → (ts rest : List Token) (x : X) → closed after (read ts) ≡ Some (x, rest) → (us : List Token) × (ts ≡ us ++ t ∷ rest) × P us x
closed_found {X} P Ends read r after t first ts rest x e =
    let b = then_some (read ts) (λ y us. behind (after us) (λ vs. Some (y, vs))) e in
    let c = behind_some (after b.0.1) (λ vs. Some (b.0.0, vs)) (x, rest) b.2 in
    let same = parts_of b.0.0 x c.0 rest c.2 in
    let f = r.found ts b.0.1 b.0.0 b.1 in
    (f.0, f.1 ∙ ap (λ us. f.0 ++ us) (first b.0.1 c.0 c.1 ∙ ap (λ us. t ∷ us) same.1), subst (λ (y : X). P f.0 y) same.0 f.2)

pub closed_finds : {X : Type 0} (P : List Token → X → Type 0) (Ends : List Token → Type 0) (read : List Token → Read X) → Reads P Ends read
    → (after : List Token → Option (List Token)) (t : Token) → ((us : List Token) → after (t ∷ us) ≡ Some us) → ((us : List Token) → Ends (t ∷ us))
    → (us rest : List Token) (x : X) → length (us ++ t ∷ rest) ≤ most_tokens → P us x → closed after (read (us ++ t ∷ rest)) ≡ Some (x, rest)
closed_finds {X} P Ends read r after t stands ends us rest x few p =
    then_is (read (us ++ t ∷ rest)) (λ y vs. behind (after vs) (λ ws. Some (y, ws))) x (t ∷ rest) (r.finds us (t ∷ rest) x few (ends rest) p)
    ∙ ap (λ o. behind o (λ ws. Some (x, ws))) (stands rest)
