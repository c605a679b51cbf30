-- The names that a declarator declares, with what may stand behind each.
use Rattle.std.proofs.Common.{◌≡◌, ℕ, ◌+◌, ◌-◌, ◌≤◌, ◌<◌, Bool, true, false, List, [], ◌∷◌, ◌++◌, length, take, drop, Some, None, refl, sym, ap, subst, ◌∙◌, arith, length-drop}
use Rattle.std.proofs.lemmas.List.{take-append-drop, drop-drop, length-take-le}
use Rattle.vb_text.specs.declared.names.Name.{Name}
use Rattle.vb_syntax.specs.declared.keyword.Keyword.TheVariants as word
use Rattle.vb_syntax.specs.declared.symbol.Symbol.TheVariants as sign
use Rattle.vb_syntax.specs.declared.{tokens.Token.Token, expression.Expr.Expr, declarator.{VariableIdentifier.VariableIdentifier, VariableModifier.VariableModifier}}
use Rattle.vb_syntax.specs.declared.tokens.Token.TheVariants as token
use Rattle.vb_syntax.specs.declared.declarator.VariableModifier.TheVariants as modifier
use Rattle.vb_parse_expr.specs.{TypeReading.most_tokens, Words.{opening, closing, comma, name_of}, Fronts.IsFront}
use Rattle.vb_parse_decl.specs.{Parts.equal, Declarators.{IsBound, IsModified, IsIdentifier}, DeclaredReading.{IsPartAt, IsModifier, anything, is_as, is_end, is_over, ends_identifier, begins_array, first_name, inferred_name}}
use Rattle.vb_parse_decl.proofs.{Refusals.OneFront, DeclaredParts.{OnePart, part_before, one_bound, no_other, bound_split, next_dropped, inside, dropped_to}, DeclaredLists.ListEnds, DeclaredBegins.{PrimaryBegins, no_array_bound}}

-- A PART BEHIND A TOKEN

pub cons_part : {X Y : Type 0} (ends : List Token → Bool) (P : List Token → X → Type 0) (Q : List Token → Y → Type 0) (ts us : List Token) (t : Token) (x : X) (y : Y) (k n : ℕ)
    → ts ≡ t ∷ us → n ≡ k + 1 → ((vs : List Token) → P vs x → Q (t ∷ vs) y) → IsPartAt ends P us x k → IsPartAt ends Q ts y n
cons_part {X} {Y} ends P Q ts us t x y k n split size longer p =
    let left : List Token = t ∷ take k us in
    let whole : left ++ drop k us ≡ ts = ap (λ (vs : List Token). t ∷ vs) (take-append-drop k us) ∙ sym split in
    let there = part_before ends Q left (drop k us) y p.over (longer (take k us) p.part) in
    let far : length left ≡ n = omega (arith, length-take-le k us p.within) in
    subst (λ (vs : List Token). IsPartAt ends Q vs y n) whole (subst (λ (m : ℕ). IsPartAt ends Q (left ++ drop k us) y m) far there)

pub uncons_part : {X : Type 0} (ends : List Token → Bool) (P : List Token → X → Type 0) (ts vs : List Token) (t : Token) (x : X) (n : ℕ)
    → take n ts ≡ t ∷ vs → ends (drop n ts) ≡ true → P vs x → IsPartAt ends P (drop 1 ts) x (length vs)
uncons_part {X} ends P ts vs t x n split over p =
    let whole : ts ≡ t ∷ (vs ++ drop n ts) = sym (take-append-drop n ts) ∙ ap (λ (us : List Token). us ++ drop n ts) split in
    let rest : vs ++ drop n ts ≡ drop 1 ts = sym (ap (λ (us : List Token). drop 1 us) whole) in
    subst (λ (us : List Token). IsPartAt ends P us x (length vs)) rest (part_before ends P vs (drop n ts) x over p)

-- WHAT STANDS BEHIND A NAME

nothing_taken : (ts : List Token) (n : ℕ) → take n ts ≡ [] → drop n ts ≡ ts
nothing_taken ts n e = ap (λ (us : List Token). us ++ drop n ts) (sym e) ∙ take-append-drop n ts

array_taken : (ts : List Token) (n : ℕ) → take n ts ≡ opening ∷ closing ∷ [] → ts ≡ opening ∷ closing ∷ drop n ts
array_taken ts n e = sym (take-append-drop n ts) ∙ ap (λ (us : List Token). us ++ drop n ts) e

ends_no_array : (ts : List Token) → ends_identifier ts ≡ true → begins_array ts ≡ true → ⊥
ends_no_array (token.Symbol sign.OpenParenthesis ∷ ts) e a = absurd cc
ends_no_array ts e a = absurd cc

as_bound : (ends : List Token → Bool) (ts : List Token) (x : Expr) (n : ℕ) → IsPartAt ends IsModifier ts (modifier.Bound x) n → IsPartAt anything IsBound ts x n
as_bound ends ts x n p = record { within = p.within; part = p.part; over = refl }

pub plain_at : (ts : List Token) (n : ℕ) → n ≡ 0 → ends_identifier ts ≡ true → IsPartAt ends_identifier IsModifier ts modifier.Plain n
plain_at ts n none e =
    subst (λ (m : ℕ). IsPartAt ends_identifier IsModifier ts modifier.Plain m) (sym none) (part_before ends_identifier IsModifier [] ts modifier.Plain e refl)

array_split : (ts : List Token) → begins_array ts ≡ true → ts ≡ opening ∷ closing ∷ drop 2 ts
array_split (token.Symbol sign.OpenParenthesis ∷ token.Symbol sign.CloseParenthesis ∷ ts) e = refl
array_split ts e = absurd cc

pub array_at : (ts : List Token) (n : ℕ) → n ≡ 2 → begins_array ts ≡ true → ends_identifier (drop 2 ts) ≡ true → IsPartAt ends_identifier IsModifier ts modifier.Array n
array_at ts n two a e =
    let there = part_before ends_identifier IsModifier (opening ∷ closing ∷ []) (drop 2 ts) modifier.Array e refl in
    subst (λ (m : ℕ). IsPartAt ends_identifier IsModifier ts modifier.Array m) (sym two)
    (subst (λ (us : List Token). IsPartAt ends_identifier IsModifier us modifier.Array 2) (sym (array_split ts a)) there)

pub array_inside : (tokens : List Token) (from : ℕ) → begins_array (drop from tokens) ≡ true → from + 2 ≤ length tokens
array_inside tokens from a = omega (arith, length-drop from tokens, ap length (array_split (drop from tokens) a))

pub no_array_end : PrimaryBegins → (ts : List Token) → begins_array ts ≡ true → ends_identifier (drop 2 ts) ≡ false
    → (m : VariableModifier) (n : ℕ) → IsPartAt ends_identifier IsModifier ts m n → ⊥
no_array_end begins ts a e modifier.Plain n p =
    ends_no_array ts (ap ends_identifier (sym (nothing_taken ts n p.part)) ∙ p.over) a
no_array_end begins ts a e modifier.Array n p =
    let rest : drop 2 ts ≡ drop n ts = ap (λ (us : List Token). drop 2 us) (array_taken ts n p.part) in
    let there : ends_identifier (drop 2 ts) ≡ true = ap ends_identifier rest ∙ p.over in absurd cc
no_array_end begins ts a e (modifier.Bound x) n p = no_array_bound begins ts x n a (as_bound ends_identifier ts x n p)

no_plain : (ts : List Token) (n : ℕ) → ends_identifier ts ≡ false → IsPartAt ends_identifier IsModifier ts modifier.Plain n → ⊥
no_plain ts n e p = let there : ends_identifier ts ≡ true = ap ends_identifier (sym (nothing_taken ts n p.part)) ∙ p.over in absurd cc

no_array : (ts : List Token) (n : ℕ) → begins_array ts ≡ false → IsPartAt ends_identifier IsModifier ts modifier.Array n → ⊥
no_array ts n a p = let there : begins_array ts ≡ true = ap begins_array (array_taken ts n p.part) in absurd cc

pub no_modifier : (ts : List Token) → ends_identifier ts ≡ false → begins_array ts ≡ false
    → ((x : Expr) (n : ℕ) → IsPartAt anything IsBound ts x n → ⊥) → (m : VariableModifier) (n : ℕ) → IsPartAt ends_identifier IsModifier ts m n → ⊥
no_modifier ts e a none modifier.Plain n p = no_plain ts n e p
no_modifier ts e a none modifier.Array n p = no_array ts n a p
no_modifier ts e a none (modifier.Bound x) n p = none x n (as_bound ends_identifier ts x n p)

pub other_modifier : OneFront IsFront → (tokens : List Token) (from behind : ℕ) (x : Expr) → length tokens ≤ most_tokens → from ≤ behind
    → ends_identifier (drop from tokens) ≡ false → begins_array (drop from tokens) ≡ false
    → IsPartAt anything IsBound (drop from tokens) x (behind - from) → ends_identifier (drop behind tokens) ≡ false
    → (m : VariableModifier) (n : ℕ) → IsPartAt ends_identifier IsModifier (drop from tokens) m n → ⊥
other_modifier one tokens from behind x few under e a found over modifier.Plain n p = no_plain (drop from tokens) n e p
other_modifier one tokens from behind x few under e a found over modifier.Array n p = no_array (drop from tokens) n a p
other_modifier one tokens from behind x few under e a found over (modifier.Bound y) n p =
    no_other anything ends_identifier IsBound (one_bound one) tokens from behind x few under found (λ q. absurd cc) (λ ts q. refl) y n
    (record { within = p.within; part = p.part; over = p.over })

pub bound_modifier : (tokens : List Token) (from behind : ℕ) (x : Expr) → from ≤ behind → IsPartAt anything IsBound (drop from tokens) x (behind - from)
    → ends_identifier (drop behind tokens) ≡ true → IsPartAt ends_identifier IsModifier (drop from tokens) (modifier.Bound x) (behind - from)
bound_modifier tokens from behind x under p over = record {
  within = p.within;
  part = p.part;
  over = ap ends_identifier (dropped_to tokens from behind (behind - from) under refl) ∙ over;
}

-- ONE NAME

pub name_first : (ts : List Token) (n : Name) → first_name ts ≡ Some n → (t : Token) × (us : List Token) × (ts ≡ t ∷ us) × (name_of t ≡ Some n)
name_first (t ∷ ts) n e = (t, ts, refl, e)
name_first [] n e = absurd cc

pub name_inside : (tokens : List Token) (from : ℕ) (n : Name) → first_name (drop from tokens) ≡ Some n → from < length tokens
name_inside tokens from n e = let first = name_first (drop from tokens) n e in inside tokens from first.0 first.1 first.2

pub identifier_at : (tokens : List Token) (from behind : ℕ) (n : Name) (m : VariableModifier) → first_name (drop from tokens) ≡ Some n → from + 1 ≤ behind
    → IsPartAt ends_identifier IsModifier (drop (from + 1) tokens) m (behind - (from + 1))
    → IsPartAt ends_identifier IsIdentifier (drop from tokens) (record { name = n; modifier = m }) (behind - from)
identifier_at tokens from behind n m e under p =
    let first = name_first (drop from tokens) n e in
    let rest : first.1 ≡ drop (from + 1) tokens = sym (next_dropped tokens from first.0 first.1 first.2) in
    let v : VariableIdentifier = record { name = n; modifier = m } in
    cons_part ends_identifier IsModifier IsIdentifier (drop from tokens) (drop (from + 1) tokens) first.0 m v (behind - (from + 1)) (behind - from)
    (first.2 ∙ ap (λ (us : List Token). first.0 ∷ us) rest) (omega arith) (λ vs q. (first.0, vs, refl, first.3, q)) p

pub no_identifier : (tokens : List Token) (from : ℕ) → ((m : VariableModifier) (n : ℕ) → IsPartAt ends_identifier IsModifier (drop (from + 1) tokens) m n → ⊥)
    → (v : VariableIdentifier) (n : ℕ) → IsPartAt ends_identifier IsIdentifier (drop from tokens) v n → ⊥
no_identifier tokens from none v n p =
    let there = uncons_part ends_identifier IsModifier (drop from tokens) p.part.1 p.part.0 v.modifier n p.part.2 p.over p.part.4 in
    none v.modifier (length p.part.1) (subst (λ (us : List Token). IsPartAt ends_identifier IsModifier us v.modifier (length p.part.1)) (drop-drop 1 from tokens) there)

-- ONE READING AT MOST

plain_array : (rest rest' : List Token) → ends_identifier rest ≡ true → rest ≡ opening ∷ rest' → ⊥
plain_array rest rest' e same = let there : ends_identifier (opening ∷ rest') ≡ true = ap ends_identifier (sym same) ∙ e in absurd cc

plain_rest : (left rest : List Token) → left ≡ [] → left ++ rest ≡ rest
plain_rest left rest e = ap (λ (us : List Token). us ++ rest) e

array_rest : (left rest : List Token) → left ≡ opening ∷ closing ∷ [] → left ++ rest ≡ opening ∷ closing ∷ rest
array_rest left rest e = ap (λ (us : List Token). us ++ rest) e

array_bound : PrimaryBegins → (left left' rest rest' : List Token) (x : Expr) → left ++ rest ≡ left' ++ rest' → left ≡ opening ∷ closing ∷ [] → IsBound left' x → ⊥
array_bound begins left left' rest rest' x split p q =
    no_array_bound begins (left' ++ rest') x (length left') (ap begins_array (sym split ∙ array_rest left rest p)) (part_before anything IsBound left' rest' x refl q)

pub one_modifier : PrimaryBegins → OneFront IsFront → OnePart ends_identifier IsModifier
one_modifier begins one left left' rest rest' modifier.Plain modifier.Plain few split e e' p q =
    (refl, p ∙ sym q, sym (plain_rest left rest p) ∙ split ∙ plain_rest left' rest' q)
one_modifier begins one left left' rest rest' modifier.Plain modifier.Array few split e e' p q =
    absurd (plain_array rest (closing ∷ rest') e (sym (plain_rest left rest p) ∙ split ∙ array_rest left' rest' q))
one_modifier begins one left left' rest rest' modifier.Plain (modifier.Bound y) few split e e' p (us, is, q) =
    absurd (plain_array rest (us ++ closing ∷ rest') e (sym (plain_rest left rest p) ∙ split ∙ bound_split left' rest' us is))
one_modifier begins one left left' rest rest' modifier.Array modifier.Plain few split e e' p q =
    absurd (plain_array rest' (closing ∷ rest) e' (sym (plain_rest left' rest' q) ∙ sym split ∙ array_rest left rest p))
one_modifier begins one left left' rest rest' modifier.Array modifier.Array few split e e' p q =
    let whole : opening ∷ closing ∷ rest ≡ opening ∷ closing ∷ rest' = sym (array_rest left rest p) ∙ split ∙ array_rest left' rest' q in
    (refl, p ∙ sym q, cc)
one_modifier begins one left left' rest rest' modifier.Array (modifier.Bound y) few split e e' p q =
    absurd (array_bound begins left left' rest rest' y split p q)
one_modifier begins one left left' rest rest' (modifier.Bound x) modifier.Plain few split e e' (us, is, p) q =
    absurd (plain_array rest' (us ++ closing ∷ rest) e' (sym (plain_rest left' rest' q) ∙ sym split ∙ bound_split left rest us is))
one_modifier begins one left left' rest rest' (modifier.Bound x) modifier.Array few split e e' p q =
    absurd (array_bound begins left' left rest' rest x (sym split) q p)
one_modifier begins one left left' rest rest' (modifier.Bound x) (modifier.Bound y) few split e e' p q =
    let same = one_bound one left left' rest rest' x y few split refl refl p q in
    (ap modifier.Bound same.0, same.1, same.2)

pub one_identifier : PrimaryBegins → OneFront IsFront → OnePart ends_identifier IsIdentifier
one_identifier begins one left left' rest rest' v w few split e e' (t, us, is, named, p) (t', us', is', named', q) =
    let here : left ++ rest ≡ t ∷ (us ++ rest) = ap (λ (vs : List Token). vs ++ rest) is in
    let there : left' ++ rest' ≡ t' ∷ (us' ++ rest') = ap (λ (vs : List Token). vs ++ rest') is' in
    let whole : t ∷ (us ++ rest) ≡ t' ∷ (us' ++ rest') = sym here ∙ split ∙ there in
    let first : t ≡ t' = cc (whole) in
    let behind : us ++ rest ≡ us' ++ rest' = cc (whole) in
    let small : length (us ++ rest) ≤ most_tokens = omega (arith, few, ap length here) in
    let same = one_modifier begins one us us' rest rest' v.modifier w.modifier small behind e e' p q in
    let name : Some v.name ≡ Some w.name = sym named ∙ ap name_of first ∙ named' in
    let names : v.name ≡ w.name = cc (name) in
    let modified : VariableIdentifier → VariableModifier → VariableIdentifier = λ u m. record { name = u.name; modifier = m } in
    let whole_same : v ≡ w =
    ap (λ (m : VariableModifier). modified v m) same.0 ∙ ap (λ (n : Name). modified (record { name = n; modifier = w.modifier }) w.modifier) names in
    let lefts : left ≡ left' = is ∙ cc (first, same.1) ∙ sym is' in
    (whole_same, lefts, same.2)

as_ends : (ts : List Token) → is_as ts ≡ true → ends_identifier ts ≡ true
as_ends (token.Keyword word.As ∷ ts) e = refl
as_ends ts e = absurd cc

pub identifier_ends : ListEnds ends_identifier is_as
identifier_ends = record { comma_ends = λ ts. refl; comma_goes = λ ts. refl; weaker = as_ends }

end_over : (ts : List Token) → is_end ts ≡ true → is_over ts ≡ true
end_over [] e = refl
end_over ts e = absurd cc

pub declarator_ends : ListEnds is_over is_end
declarator_ends = record { comma_ends = λ ts. refl; comma_goes = λ ts. refl; weaker = end_over }

-- a name before `=` isn't one of those before `As`
pub inferred_no_identifier : (ts : List Token) (n : Name) (v : VariableIdentifier) (k : ℕ) → inferred_name ts ≡ Some n → IsPartAt ends_identifier IsIdentifier ts v k → ⊥
inferred_no_identifier ts n v k e p =
    by_modifier v.modifier p.part.4
  where
    us : List Token
    us = p.part.1

    whole : ts ≡ p.part.0 ∷ (us ++ drop k ts)
    whole = sym (take-append-drop k ts) ∙ ap (λ (vs : List Token). vs ++ drop k ts) p.part.2

    second : (t u : Token) (vs : List Token) → inferred_name (t ∷ u ∷ vs) ≡ Some n → u ≡ equal
    second t (token.Symbol sign.Equal) vs e = refl
    second t u vs e = absurd cc

    no_second : (t : Token) (vs : List Token) → inferred_name (t ∷ vs) ≡ Some n → ends_identifier vs ≡ true → ⊥
    no_second t (token.Symbol sign.Equal ∷ vs) e f = absurd cc
    no_second t vs e f = absurd cc

    by_modifier : (m : VariableModifier) → IsModified m us → ⊥
    by_modifier modifier.Plain q =
        no_second p.part.0 (drop k ts) (ap inferred_name (sym (whole ∙ ap (λ (vs : List Token). p.part.0 ∷ (vs ++ drop k ts)) q)) ∙ e) p.over
    by_modifier modifier.Array q =
        let there = second p.part.0 opening (closing ∷ drop k ts)
        (ap inferred_name (sym (whole ∙ ap (λ (vs : List Token). p.part.0 ∷ (vs ++ drop k ts)) q)) ∙ e) in absurd cc
    by_modifier (modifier.Bound x) q =
        let there = second p.part.0 opening (q.0 ++ closing ∷ drop k ts)
        (ap inferred_name (sym (whole ∙ ap (λ (vs : List Token). p.part.0 ∷ vs) (bound_split us (drop k ts) q.0 q.1))) ∙ e) in absurd cc

pub no_name : (ts : List Token) → first_name ts ≡ None → (v : VariableIdentifier) (n : ℕ) → IsPartAt ends_identifier IsIdentifier ts v n → ⊥
no_name ts e v n p =
    let whole : ts ≡ p.part.0 ∷ (p.part.1 ++ drop n ts) = sym (take-append-drop n ts) ∙ ap (λ (us : List Token). us ++ drop n ts) p.part.2 in
    let there : Some v.name ≡ None = sym p.part.3 ∙ ap first_name (sym whole) ∙ e in
    absurd cc

comma_first : (ts : List Token) → ends_identifier ts ≡ true → is_as ts ≡ false → ts ≡ comma ∷ drop 1 ts
comma_first (token.Symbol sign.Comma ∷ ts) e a = refl
comma_first (token.Keyword word.As ∷ ts) e a = absurd cc
comma_first ts e a = absurd cc

-- a comma stands behind a name that isn't the last one
pub comma_behind : (tokens : List Token) (from behind : ℕ) → from ≤ behind → ends_identifier (drop (behind - from) (drop from tokens)) ≡ true
    → is_as (drop behind tokens) ≡ false → drop behind tokens ≡ comma ∷ drop (behind + 1) tokens
comma_behind tokens from behind under over goes =
    let here : ends_identifier (drop behind tokens) ≡ true = ap ends_identifier (sym (dropped_to tokens from behind (behind - from) under refl)) ∙ over in
    comma_first (drop behind tokens) here goes ∙ ap (λ (us : List Token). comma ∷ us) (drop-drop 1 behind tokens)

over_first : (ts : List Token) → is_over ts ≡ true → (length ts ≡ 0 → ⊥) → ts ≡ comma ∷ drop 1 ts
over_first (token.Symbol sign.Comma ∷ ts) e a = refl
over_first [] e a = absurd (a refl)
over_first ts e a = absurd cc

-- a comma stands behind a declarator that isn't the last one
pub comma_over : (tokens : List Token) (from behind : ℕ) → from ≤ behind → behind ≤ length tokens → is_over (drop (behind - from) (drop from tokens)) ≡ true
    → (behind ≡ length tokens → ⊥) → drop behind tokens ≡ comma ∷ drop (behind + 1) tokens
comma_over tokens from behind under within over short =
    let here : is_over (drop behind tokens) ≡ true = ap is_over (sym (dropped_to tokens from behind (behind - from) under refl)) ∙ over in
    over_first (drop behind tokens) here (λ e. short (omega (arith, e, length-drop behind tokens)))
    ∙ ap (λ (us : List Token). comma ∷ us) (drop-drop 1 behind tokens)
