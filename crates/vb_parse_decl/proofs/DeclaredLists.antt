-- Parts with commas between them: how the list of them is read from left to right.
use Rattle.std.proofs.Common.{◌≡◌, ◌⊎◌, inl, inr, ℕ, ◌+◌, ◌-◌, ◌≤◌, Bool, true, false, List, [], ◌∷◌, ◌++◌, length, take, drop, refl, sym, ap, subst, ◌∙◌, arith, append_assoc, length-append, length-drop}
use Rattle.std.proofs.Math.Seq.{drop-append_seam}
use Rattle.std.proofs.lemmas.List.{take-append-drop, drop-drop, length-take-le}
use Rattle.vb_syntax.specs.declared.tokens.Token.{Token}
use Rattle.vb_parse_expr.specs.{TypeReading.most_tokens, Words.comma}
use Rattle.vb_parse_decl.specs.{Parts.{AreListed, AreListed.{one, more}}, DeclaredReading.IsPartAt}
use Rattle.vb_parse_decl.proofs.DeclaredParts.{OnePart, part_before, one_front, inside}

-- a comma ends a part, and not the list; what ends the list ends a part
pub record ListEnds (ends closes : List Token → Bool) : Type 0 where
  pub comma_ends : (ts : List Token) → ends (comma ∷ ts) ≡ true
  pub comma_goes : (ts : List Token) → closes (comma ∷ ts) ≡ false
  pub weaker : (ts : List Token) → closes ts ≡ true → ends ts ≡ true

-- ONE LIST AT MOST

more_split : (left us rest : List Token) → (left ++ comma ∷ us) ++ rest ≡ left ++ comma ∷ (us ++ rest)
more_split left us rest = append_assoc left (comma ∷ us) rest

no_more : {X : Type 0} (ends closes : List Token → Bool) (P : List Token → X → Type 0) → ListEnds ends closes → OnePart ends P
    → (left ts us rest rest' : List Token) (x y : X) → length (left ++ rest) ≤ most_tokens → left ++ rest ≡ (ts ++ comma ∷ us) ++ rest'
    → closes rest ≡ true → P left x → P ts y → ⊥
no_more {X} ends closes P law unique left ts us rest rest' x y few split over p q =
    let same = unique left ts rest (comma ∷ (us ++ rest')) x y few (split ∙ more_split ts us rest') (law.weaker rest over) (law.comma_ends (us ++ rest')) p q in
    let here : closes (comma ∷ (us ++ rest')) ≡ true = ap closes (sym same.2) ∙ over in
    let there = law.comma_goes (us ++ rest') in
    cc

pub one_list : {X : Type 0} (ends closes : List Token → Bool) (P : List Token → X → Type 0) → ListEnds ends closes → OnePart ends P → OnePart closes (AreListed P)
one_list {X} ends closes P law unique left left' rest rest' xs ys few split over over' (one {x = x} p) (one {x = y} q) =
    let same = unique left left' rest rest' x y few split (law.weaker rest over) (law.weaker rest' over') p q in
    (ap (λ (z : X). z ∷ []) same.0, same.1, same.2)
one_list {X} ends closes P law unique left left' rest rest' xs ys few split over over' (one {x = x} p) (more {ts = ts} {us = us} {x = y} q qs) =
    absurd (no_more ends closes P law unique left ts us rest rest' x y few split over p q)
one_list {X} ends closes P law unique left left' rest rest' xs ys few split over over' (more {ts = ts} {us = us} {x = x} p ps) (one {x = y} q) =
    let small : length (left' ++ rest') ≤ most_tokens = omega (arith, few, ap length split) in
    absurd (no_more ends closes P law unique left' ts us rest' rest y x small (sym split) over' q p)
one_list {X} ends closes P law unique left left' rest rest' xs ys few split over over'
    (more {ts = ts} {us = us} {x = x} {xs = zs} p ps) (more {ts = ts'} {us = us'} {x = y} {xs = zs'} q qs) =
    let whole = more_split ts us rest in
    let whole' = more_split ts' us' rest' in
    let small : length (ts ++ comma ∷ (us ++ rest)) ≤ most_tokens = omega (arith, few, ap length whole) in
    let same = unique ts ts' (comma ∷ (us ++ rest)) (comma ∷ (us' ++ rest')) x y small (sym whole ∙ split ∙ whole')
    (law.comma_ends (us ++ rest)) (law.comma_ends (us' ++ rest')) p q in
    let behind : us ++ rest ≡ us' ++ rest' = cc (same.2) in
    let fewer : length (us ++ rest) ≤ most_tokens = omega (arith, small, length-append ts (comma ∷ (us ++ rest))) in
    let later = one_list ends closes P law unique us us' rest rest' zs zs' fewer behind over over' ps qs in
    (cc (same.0, later.0), cc (same.1, later.1), later.2)

-- THE FIRST PART OF A LIST

pub record First {X : Type 0} (ends closes : List Token → Bool) (P : List Token → X → Type 0) (ts : List Token) (zs : List X) : Type 0 where
  pub x : X
  pub size : ℕ
  pub first : IsPartAt ends P ts x size
  pub later : ((zs ≡ x ∷ []) × (closes (drop size ts) ≡ true))
      ⊎ ((us : List Token) × (ys : List X) × (n : ℕ) × (drop size ts ≡ comma ∷ us) × IsPartAt closes (AreListed P) us ys n × (zs ≡ x ∷ ys))

first_in : {X : Type 0} (ends closes : List Token → Bool) (P : List Token → X → Type 0) → ListEnds ends closes → (left rest : List Token) (zs : List X)
    → closes rest ≡ true → AreListed P left zs → First ends closes P (left ++ rest) zs
first_in {X} ends closes P law left rest zs over (one {x = x} p) = record {
  x = x;
  size = length left;
  first = part_before ends P left rest x (law.weaker rest over) p;
  later = inl (refl, ap closes (drop-append_seam left rest) ∙ over);
}
first_in {X} ends closes P law left rest zs over (more {ts = ts} {us = us} {x = x} {xs = xs} p ps) =
    subst (λ (vs : List Token). First ends closes P vs (x ∷ xs)) (sym (more_split ts us rest))
    (record {
      x = x;
      size = length ts;
      first = part_before ends P ts (comma ∷ (us ++ rest)) x (law.comma_ends (us ++ rest)) p;
      later = inr (us ++ rest, xs, length us, drop-append_seam ts (comma ∷ (us ++ rest)), part_before closes (AreListed P) us rest xs over ps, refl);
    })

pub first_of_list : {X : Type 0} (ends closes : List Token → Bool) (P : List Token → X → Type 0) → ListEnds ends closes → (ts : List Token) (zs : List X) (n : ℕ)
    → IsPartAt closes (AreListed P) ts zs n → First ends closes P ts zs
first_of_list {X} ends closes P law ts zs n p =
    subst (λ (vs : List Token). First ends closes P vs zs) (take-append-drop n ts) (first_in ends closes P law (take n ts) (drop n ts) zs p.over p.part)

-- HOW FAR A LIST IS READ

-- A list at `at` goes on with the parts xs, which are read from `from` on; and where there is none, there is none from `from` on.
pub record Leads {X : Type 0} (closes : List Token → Bool) (P : List Token → X → Type 0) (tokens : List Token) (from at : ℕ) (xs : List X) : Type 0 where
  pub within : at ≤ length tokens
  pub under : from ≤ at
  pub found : (ys : List X) (n : ℕ) → IsPartAt closes (AreListed P) (drop at tokens) ys n
      → IsPartAt closes (AreListed P) (drop from tokens) (xs ++ ys) (at - from + n)
  pub none : ((ys : List X) (n : ℕ) → IsPartAt closes (AreListed P) (drop at tokens) ys n → ⊥)
      → (zs : List X) (m : ℕ) → IsPartAt closes (AreListed P) (drop from tokens) zs m → ⊥

pub leads_nowhere : {X : Type 0} (closes : List Token → Bool) (P : List Token → X → Type 0) (tokens : List Token) (from : ℕ)
    → from ≤ length tokens → Leads closes P tokens from from []
leads_nowhere {X} closes P tokens from inside = record {
  within = inside;
  under = omega arith;
  found = λ ys n p. subst (λ (k : ℕ). IsPartAt closes (AreListed P) (drop from tokens) ys k) (omega arith) p;
  none = λ none. none;
}

-- a part that the list's end stands behind
one_more : {X : Type 0} (closes : List Token → Bool) (P : List Token → X → Type 0) (ts : List Token) (x : X) (n : ℕ)
    → IsPartAt closes P ts x n → IsPartAt closes (AreListed P) ts (x ∷ []) n
one_more {X} closes P ts x n p = record { within = p.within; part = one p.part; over = p.over }

-- a part, a comma and a list
part_more : {X : Type 0} (ends closes : List Token → Bool) (P : List Token → X → Type 0) (ts us : List Token) (x : X) (ys : List X) (k n : ℕ)
    → IsPartAt ends P ts x k → drop k ts ≡ comma ∷ us → IsPartAt closes (AreListed P) us ys n
    → IsPartAt closes (AreListed P) ts (x ∷ ys) (k + 1 + n)
part_more {X} ends closes P ts us x ys k n p at q =
    let left : List Token = take k ts ++ comma ∷ take n us in
    let whole : left ++ drop n us ≡ ts =
    more_split (take k ts) (take n us) (drop n us) ∙ ap (λ (vs : List Token). take k ts ++ comma ∷ vs) (take-append-drop n us)
    ∙ ap (λ (vs : List Token). take k ts ++ vs) (sym at) ∙ take-append-drop k ts in
    let there = part_before closes (AreListed P) left (drop n us) (x ∷ ys) q.over (more p.part q.part) in
    let size : length left ≡ k + 1 + n =
    omega (arith, length-append (take k ts) (comma ∷ take n us), length-take-le k ts p.within, length-take-le n us q.within) in
    subst (λ (vs : List Token). IsPartAt closes (AreListed P) vs (x ∷ ys) (k + 1 + n)) whole
    (subst (λ (m : ℕ). IsPartAt closes (AreListed P) (left ++ drop n us) (x ∷ ys) m) size there)

-- no list without its first part
pub no_first : {X : Type 0} (ends closes : List Token → Bool) (P : List Token → X → Type 0) → ListEnds ends closes → (tokens : List Token) (from at : ℕ) (xs : List X)
    → Leads closes P tokens from at xs → ((x : X) (n : ℕ) → IsPartAt ends P (drop at tokens) x n → ⊥)
    → (zs : List X) (m : ℕ) → IsPartAt closes (AreListed P) (drop from tokens) zs m → ⊥
no_first {X} ends closes P law tokens from at xs leads none =
    leads.none (λ ys n p. let split = first_of_list ends closes P law (drop at tokens) ys n p in none split.x split.size split.first)

-- the list ends behind the part
pub leads_to : {X : Type 0} (ends closes : List Token → Bool) (P : List Token → X → Type 0) (tokens : List Token) (from at behind : ℕ) (xs : List X) (x : X)
    → Leads closes P tokens from at xs → at ≤ behind → IsPartAt ends P (drop at tokens) x (behind - at) → closes (drop behind tokens) ≡ true
    → IsPartAt closes (AreListed P) (drop from tokens) (xs ++ x ∷ []) (behind - from)
leads_to {X} ends closes P tokens from at behind xs x leads under p over =
    let place : at + (behind - at) ≡ behind = omega arith in
    let rest : drop (behind - at) (drop at tokens) ≡ drop behind tokens = drop-drop (behind - at) at tokens ∙ ap (λ (k : ℕ). drop k tokens) place in
    let there : IsPartAt closes P (drop at tokens) x (behind - at) = record { within = p.within; part = p.part; over = ap closes rest ∙ over } in
    let far : at - from + (behind - at) ≡ behind - from = omega (arith, leads.under) in
    subst (λ (k : ℕ). IsPartAt closes (AreListed P) (drop from tokens) (xs ++ x ∷ []) k) far
    (leads.found (x ∷ []) (behind - at) (one_more closes P (drop at tokens) x (behind - at) there))

no_later : {X : Type 0} (ends closes : List Token → Bool) (P : List Token → X → Type 0) → ListEnds ends closes → (ts us : List Token) (ys : List X)
    → (split : First ends closes P ts ys) (k : ℕ) → split.size ≡ k → drop k ts ≡ comma ∷ us
    → ((zs : List X) (n : ℕ) → IsPartAt closes (AreListed P) us zs n → ⊥) → ⊥
no_later {X} ends closes P law ts us ys split k same next none = by_rest split.later
  where
    here : drop split.size ts ≡ comma ∷ us
    here = ap (λ (j : ℕ). drop j ts) same ∙ next

    by_rest : ((ys ≡ split.x ∷ []) × (closes (drop split.size ts) ≡ true))
        ⊎ ((vs : List Token) × (zs : List X) × (n : ℕ) × (drop split.size ts ≡ comma ∷ vs) × IsPartAt closes (AreListed P) vs zs n × (ys ≡ split.x ∷ zs)) → ⊥
    by_rest (inl (e, over)) =
        let here' : closes (comma ∷ us) ≡ true = ap closes (sym here) ∙ over in
        let there = law.comma_goes us in cc
    by_rest (inr (vs, zs, n, at, q, e)) =
        let rest : vs ≡ us = cc (sym at ∙ here) in
        none zs n (subst (λ (ws : List Token). IsPartAt closes (AreListed P) ws zs n) rest q)

-- a comma stands behind the part
pub leads_on : {X : Type 0} (ends closes : List Token → Bool) (P : List Token → X → Type 0) → ListEnds ends closes → OnePart ends P
    → (tokens : List Token) (from at behind : ℕ) (xs : List X) (x : X) → length tokens ≤ most_tokens
    → Leads closes P tokens from at xs → at ≤ behind → IsPartAt ends P (drop at tokens) x (behind - at) → drop behind tokens ≡ comma ∷ drop (behind + 1) tokens
    → Leads closes P tokens from (behind + 1) (xs ++ x ∷ [])
leads_on {X} ends closes P law unique tokens from at behind xs x few leads under p next =
    let k : ℕ = behind - at in
    let ts : List Token = drop at tokens in
    let us : List Token = drop (behind + 1) tokens in
    let place : at + k ≡ behind = omega arith in
    let behind_first : drop k ts ≡ comma ∷ us = drop-drop k at tokens ∙ ap (λ (j : ℕ). drop j tokens) place ∙ next in
    let small : length ts ≤ most_tokens = omega (arith, few, length-drop at tokens) in
    record {
      within = omega (arith, inside tokens behind comma us next);
      under = omega (arith, leads.under);
      found = λ ys n q.
          let there = leads.found (x ∷ ys) (k + 1 + n) (part_more ends closes P ts us x ys k n p behind_first q) in
          let far : at - from + (k + 1 + n) ≡ behind + 1 - from + n = omega (arith, leads.under) in
          subst (λ (m : ℕ). IsPartAt closes (AreListed P) (drop from tokens) ((xs ++ x ∷ []) ++ ys) m) far
          (subst (λ (zs : List X). IsPartAt closes (AreListed P) (drop from tokens) zs (at - from + (k + 1 + n))) (sym (append_assoc xs (x ∷ []) ys)) there);
      none = λ none. leads.none (λ ys n q.
          let split = first_of_list ends closes P law ts ys n q in
          let same = one_front ends P unique ts x split.x k split.size small p split.first in
          no_later ends closes P law ts us ys split k (sym same.1) behind_first none);
    }
