-- Names with dots between them: how they are read from left to right.
use Rattle.std.proofs.Common.{◌≡◌, ◌⊎◌, inl, inr, ℕ, ◌+◌, ◌-◌, ◌≤◌, ◌<◌, true, false, List, [], ◌∷◌, ◌++◌, length, take, drop, Some, None, refl, sym, ap, subst, ◌∙◌, arith, append_assoc, length-drop}
use Rattle.std.proofs.lemmas.Bool.{both_ways}
use Rattle.std.proofs.lemmas.List.{take-append-drop, drop-drop, length-take-le}
use Rattle.vb_text.specs.declared.names.Name.{Name}
use Rattle.vb_syntax.specs.declared.symbol.Symbol.TheVariants as sign
use Rattle.vb_syntax.specs.declared.tokens.Token.{Token}
use Rattle.vb_syntax.specs.declared.tokens.Token.TheVariants as token
use Rattle.vb_parse_expr.specs.{TypeReading.most_tokens, Words.{dot, name_of}, Types.{SpellsNames, SpellsNames.{one, more}}}
use Rattle.vb_parse_decl.specs.DeclaredReading.{IsPartAt, is_over, first_name}
use Rattle.vb_parse_stmt.specs.NamespaceReading.{is_dot}
use Rattle.vb_parse_decl.proofs.{DeclaredParts.{OnePart, part_before, inside, next_dropped}, DeclaredNames.name_first}

-- ONE NAMESPACE AT MOST

name_same : (t u : Token) (n m : Name) → t ≡ u → name_of t ≡ Some n → name_of u ≡ Some m → n ≡ m
name_same t u n m e p q = let same : Some n ≡ Some m = sym p ∙ ap name_of e ∙ q in cc

not_dotted : (ts us : List Token) → is_over ts ≡ true → ts ≡ dot ∷ us → ⊥
not_dotted ts us over e = let there : is_over (dot ∷ us) ≡ true = ap is_over (sym e) ∙ over in absurd cc

pub one_namespace : OnePart is_over SpellsNames
one_namespace left left' rest rest' xs ys few split over over' (one {n = n} t is) (one {n = m} u is') =
    let whole : t ∷ rest ≡ u ∷ rest' = split in
    let first : t ≡ u = cc (whole) in
    let rests : rest ≡ rest' = cc (whole) in
    (ap (λ (k : Name). k ∷ []) (name_same t u n m first is is'), ap (λ (v : Token). v ∷ []) first, rests)
one_namespace left left' rest rest' xs ys few split over over' (one t is) (more {ts = us} u is' q) =
    let whole : t ∷ rest ≡ u ∷ dot ∷ (us ++ rest') = split in
    let rests : rest ≡ dot ∷ (us ++ rest') = cc (whole) in
    absurd (not_dotted rest (us ++ rest') over rests)
one_namespace left left' rest rest' xs ys few split over over' (more {ts = ts} t is p) (one u is') =
    let whole : t ∷ dot ∷ (ts ++ rest) ≡ u ∷ rest' = split in
    let rests : rest' ≡ dot ∷ (ts ++ rest) = cc (whole) in
    absurd (not_dotted rest' (ts ++ rest) over' rests)
one_namespace left left' rest rest' xs ys few split over over' (more {n = n} {ns = ns} {ts = ts} t is p) (more {n = m} {ns = ms} {ts = us} u is' q) =
    let whole : t ∷ dot ∷ (ts ++ rest) ≡ u ∷ dot ∷ (us ++ rest') = split in
    let first : t ≡ u = cc (whole) in
    let later : ts ++ rest ≡ us ++ rest' = cc (whole) in
    let size : length (t ∷ dot ∷ (ts ++ rest)) ≤ most_tokens = few in
    let small : length (ts ++ rest) ≤ most_tokens = omega (arith, size) in
    let same = one_namespace ts us rest rest' ns ms small later over over' p q in
    let name : n ≡ m = name_same t u n m first is is' in
    (cc (name, same.0), cc (first, same.1), same.2)

-- THE FIRST NAME

-- a name alone, or a name, a dot and names
abbrev pub NamesAt : List Token → List Name → ℕ → Type 0
NamesAt ts ns n = (t : Token) × (us : List Token) × (k : Name) × (ts ≡ t ∷ us) × (name_of t ≡ Some k)
    × (((ns ≡ k ∷ []) × (n ≡ 1) × (is_over us ≡ true))
    ⊎ ((vs : List Token) × (ms : List Name) × (m : ℕ) × (us ≡ dot ∷ vs) × IsPartAt is_over SpellsNames vs ms m))

names_in : (left rest : List Token) (ns : List Name) → is_over rest ≡ true → SpellsNames left ns → NamesAt (left ++ rest) ns (length left)
names_in left rest ns over (one {n = k} t is) = (t, rest, k, refl, is, inl (refl, refl, over))
names_in left rest ns over (more {n = k} {ns = ms} {ts = us} t is p) =
    (t, dot ∷ (us ++ rest), k, refl, is, inr (us ++ rest, ms, length us, refl, part_before is_over SpellsNames us rest ms over p))

pub names_at : (ts : List Token) (ns : List Name) (n : ℕ) → IsPartAt is_over SpellsNames ts ns n → NamesAt ts ns (length (take n ts))
names_at ts ns n p =
    subst (λ (us : List Token). NamesAt us ns (length (take n ts))) (take-append-drop n ts) (names_in (take n ts) (drop n ts) ns p.over p.part)

-- one name that is over behind it
pub name_alone : (ts us : List Token) (t : Token) (k : Name) → ts ≡ t ∷ us → name_of t ≡ Some k → is_over us ≡ true → IsPartAt is_over SpellsNames ts (k ∷ []) 1
name_alone ts us t k split is over =
    subst (λ (vs : List Token). IsPartAt is_over SpellsNames vs (k ∷ []) 1) (sym split) (part_before is_over SpellsNames (t ∷ []) us (k ∷ []) over (one t is))

-- a name, a dot and names
pub name_dotted : (ts us : List Token) (t : Token) (k : Name) (ns : List Name) (n : ℕ) → ts ≡ t ∷ dot ∷ us → name_of t ≡ Some k → IsPartAt is_over SpellsNames us ns n
    → IsPartAt is_over SpellsNames ts (k ∷ ns) (n + 2)
name_dotted ts us t k ns n split is p =
    let left : List Token = t ∷ dot ∷ take n us in
    let whole : left ++ drop n us ≡ ts = ap (λ (vs : List Token). t ∷ dot ∷ vs) (take-append-drop n us) ∙ sym split in
    let there = part_before is_over SpellsNames left (drop n us) (k ∷ ns) p.over (more t is p.part) in
    let far : length left ≡ n + 2 = omega (arith, length-take-le n us p.within) in
    subst (λ (vs : List Token). IsPartAt is_over SpellsNames vs (k ∷ ns) (n + 2)) whole
    (subst (λ (m : ℕ). IsPartAt is_over SpellsNames (left ++ drop n us) (k ∷ ns) m) far there)

-- HOW FAR NAMES ARE READ

-- Names at `at` go on with the names xs, which are read from `from` on; and where there are none, there are none from `from` on.
pub record NamesLead (tokens : List Token) (from at : ℕ) (xs : List Name) : Type 0 where
  pub within : at ≤ length tokens
  pub under : from ≤ at
  pub found : (ns : List Name) (n : ℕ) → IsPartAt is_over SpellsNames (drop at tokens) ns n → IsPartAt is_over SpellsNames (drop from tokens) (xs ++ ns) (at - from + n)
  pub none : ((ns : List Name) (n : ℕ) → IsPartAt is_over SpellsNames (drop at tokens) ns n → ⊥)
      → (ms : List Name) (m : ℕ) → IsPartAt is_over SpellsNames (drop from tokens) ms m → ⊥

pub names_lead_nowhere : (tokens : List Token) (from : ℕ) → from ≤ length tokens → NamesLead tokens from from []
names_lead_nowhere tokens from inside = record {
  within = inside;
  under = omega arith;
  found = λ ns n p. subst (λ (k : ℕ). IsPartAt is_over SpellsNames (drop from tokens) ns k) (omega arith) p;
  none = λ none. none;
}

dot_first : (ts : List Token) → is_dot ts ≡ true → ts ≡ dot ∷ drop 1 ts
dot_first (token.Symbol sign.Dot ∷ ts) e = refl
dot_first ts e = absurd cc

-- the tokens at a name
at_name : (tokens us : List Token) (at : ℕ) (t : Token) → drop at tokens ≡ t ∷ us → drop at tokens ≡ t ∷ drop (at + 1) tokens
at_name tokens us at t e = e ∙ ap (λ (vs : List Token). t ∷ vs) (sym (next_dropped tokens at t us e))

dot_next : (tokens : List Token) (at : ℕ) → is_dot (drop (at + 1) tokens) ≡ true → drop (at + 1) tokens ≡ dot ∷ drop (at + 2) tokens
dot_next tokens at e =
    let first = dot_first (drop (at + 1) tokens) e in
    let next : drop (at + 1 + 1) tokens ≡ drop 1 (drop (at + 1) tokens) = next_dropped tokens (at + 1) dot (drop 1 (drop (at + 1) tokens)) first in
    let place : at + 1 + 1 ≡ at + 2 = omega arith in
    first ∙ ap (λ (vs : List Token). dot ∷ vs) (sym next ∙ ap (λ (k : ℕ). drop k tokens) place)

-- no names without the first
no_other_name : (ts : List Token) (ns : List Name) (n : ℕ) → NamesAt ts ns n → first_name ts ≡ None → ⊥
no_other_name ts ns n (t, us, k, split, is, later) e =
    let told : None ≡ Some k = sym e ∙ ap first_name split ∙ is in cc

pub no_first_name : (tokens : List Token) (from at : ℕ) (xs : List Name) → NamesLead tokens from at xs → first_name (drop at tokens) ≡ None
    → (ms : List Name) (m : ℕ) → IsPartAt is_over SpellsNames (drop from tokens) ms m → ⊥
no_first_name tokens from at xs leads e =
    leads.none (λ ns n p. no_other_name (drop at tokens) ns (length (take n (drop at tokens))) (names_at (drop at tokens) ns n p) e)

-- nothing, a comma or a dot stands behind a name
behind_name : (ts rest : List Token) (ns : List Name) (n : ℕ) → drop 1 ts ≡ rest → is_over rest ≡ false
    → ((vs : List Token) (ms : List Name) (m : ℕ) → rest ≡ dot ∷ vs → IsPartAt is_over SpellsNames vs ms m → ⊥) → NamesAt ts ns n → ⊥
behind_name ts rest ns n same over none (t, us, k, split, is, inl (e, size, there)) =
    let here : us ≡ rest = sym (ap (λ (vs : List Token). drop 1 vs) split) ∙ same in
    both_ways (is_over rest) over (ap is_over (sym here) ∙ there)
behind_name ts rest ns n same over none (t, us, k, split, is, inr (vs, ms, m, dotted, p)) =
    let here : us ≡ rest = sym (ap (λ (ws : List Token). drop 1 ws) split) ∙ same in
    none vs ms m (sym here ∙ dotted) p

pub no_name_behind : (tokens : List Token) (from at : ℕ) (xs : List Name) → NamesLead tokens from at xs → is_over (drop (at + 1) tokens) ≡ false
    → is_dot (drop (at + 1) tokens) ≡ false → (ms : List Name) (m : ℕ) → IsPartAt is_over SpellsNames (drop from tokens) ms m → ⊥
no_name_behind tokens from at xs leads over other =
    leads.none (λ ns n p. behind_name (drop at tokens) (drop (at + 1) tokens) ns (length (take n (drop at tokens))) (drop-drop 1 at tokens) over
    (λ vs ms m e q. both_ways (is_dot (drop (at + 1) tokens)) other (ap is_dot e)) (names_at (drop at tokens) ns n p))

names_long : (ts : List Token) (ns : List Name) (n : ℕ) → NamesAt ts ns n → 0 < length ts
names_long ts ns n (t, us, k, split, is, later) = omega (arith, ap length split)

pub namespace_long : (ts : List Token) (ns : List Name) (n : ℕ) → IsPartAt is_over SpellsNames ts ns n → 0 < length ts
namespace_long ts ns n p = names_long ts ns (length (take n ts)) (names_at ts ns n p)

pub no_names_at_end : (tokens : List Token) (from at : ℕ) (xs : List Name) → NamesLead tokens from at xs → (at < length tokens → ⊥)
    → (ms : List Name) (m : ℕ) → IsPartAt is_over SpellsNames (drop from tokens) ms m → ⊥
no_names_at_end tokens from at xs leads ends =
    leads.none (λ ns n p. let long = namespace_long (drop at tokens) ns n p in ends (omega (arith, long, length-drop at tokens)))

-- the last name
pub names_lead_to : (tokens : List Token) (from at : ℕ) (xs : List Name) (k : Name) → NamesLead tokens from at xs → first_name (drop at tokens) ≡ Some k
    → is_over (drop (at + 1) tokens) ≡ true → IsPartAt is_over SpellsNames (drop from tokens) (xs ++ k ∷ []) (at + 1 - from)
names_lead_to tokens from at xs k leads e over =
    let first = name_first (drop at tokens) k e in
    let there = leads.found (k ∷ []) 1
    (name_alone (drop at tokens) (drop (at + 1) tokens) first.0 k (at_name tokens first.1 at first.0 first.2) first.3 over) in
    let far : at - from + 1 ≡ at + 1 - from = omega (arith, leads.under) in
    subst (λ (n : ℕ). IsPartAt is_over SpellsNames (drop from tokens) (xs ++ k ∷ []) n) far there

-- a dot stands behind the name
pub names_lead_on : (tokens : List Token) (from at : ℕ) (xs : List Name) (k : Name) → NamesLead tokens from at xs → first_name (drop at tokens) ≡ Some k
    → is_over (drop (at + 1) tokens) ≡ false → is_dot (drop (at + 1) tokens) ≡ true → NamesLead tokens from (at + 2) (xs ++ k ∷ [])
names_lead_on tokens from at xs k leads e over dotted =
    let first = name_first (drop at tokens) k e in
    let next = dot_next tokens at dotted in
    let whole : drop at tokens ≡ first.0 ∷ dot ∷ drop (at + 2) tokens =
    at_name tokens first.1 at first.0 first.2 ∙ ap (λ (vs : List Token). first.0 ∷ vs) next in
    record {
      within = omega (arith, inside tokens (at + 1) dot (drop (at + 2) tokens) next);
      under = omega (arith, leads.under);
      found = λ ns n q.
          let there = leads.found (k ∷ ns) (n + 2) (name_dotted (drop at tokens) (drop (at + 2) tokens) first.0 k ns n whole first.3 q) in
          let far : at - from + (n + 2) ≡ at + 2 - from + n = omega (arith, leads.under) in
          subst (λ (m : ℕ). IsPartAt is_over SpellsNames (drop from tokens) ((xs ++ k ∷ []) ++ ns) m) far
          (subst (λ (zs : List Name). IsPartAt is_over SpellsNames (drop from tokens) zs (at - from + (n + 2))) (sym (append_assoc xs (k ∷ []) ns)) there);
      none = λ none. leads.none (λ ns n q.
          behind_name (drop at tokens) (drop (at + 1) tokens) ns (length (take n (drop at tokens))) (drop-drop 1 at tokens) over
          (λ vs ms m here p.
          let rest : vs ≡ drop (at + 2) tokens = cc (here, next) in
          none ms m (subst (λ (ws : List Token). IsPartAt is_over SpellsNames ws ms m) rest p))
          (names_at (drop at tokens) ns n q));
    }
