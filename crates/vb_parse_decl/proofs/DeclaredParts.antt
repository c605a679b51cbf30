-- There is one part at most at the front of tokens, where it is known what stands behind it.
use Rattle.std.proofs.Common.{◌≡◌, ℕ, ◌+◌, ◌-◌, ◌≤◌, ◌<◌, Bool, true, false, List, [], ◌∷◌, ◌++◌, length, take, drop, refl, sym, ap, subst, ◌∙◌, arith, append_assoc, length-append, length-drop}
use Rattle.std.proofs.Math.Seq.{take-append_seam, drop-append_seam, take-length, drop-length}
use Rattle.std.proofs.lemmas.List.{take-append-drop, drop-drop, length-take-le}
use Rattle.vb_syntax.specs.declared.{tokens.Token.Token, expression.Expr.Expr}
use Rattle.vb_syntax.specs.declared.tokens.Token.TheVariants as token
use Rattle.vb_syntax.specs.declared.symbol.Symbol.TheVariants as sign
use Rattle.vb_parse_expr.specs.{TypeReading.most_tokens, Words.{opening, closing}, Fronts.{goes_on, IsFront}}
use Rattle.vb_parse_decl.specs.{Parts.IsExpression, Declarators.IsBound, DeclaredReading.{IsPartAt, anything, is_closing, begins_opening}}
use Rattle.vb_parse_decl.proofs.Refusals.{OneFront}

-- WHERE A PART ENDS

-- one part at most, in tokens that are split behind it
abbrev pub OnePart : {X : Type 0} → (List Token → Bool) → (List Token → X → Type 0) → Type 0
OnePart {X} ends P = (left left' rest rest' : List Token) (x y : X) → length (left ++ rest) ≤ most_tokens → left ++ rest ≡ left' ++ rest'
    → ends rest ≡ true → ends rest' ≡ true → P left x → P left' y → (x ≡ y) × (left ≡ left') × (rest ≡ rest')

pub part_before : {X : Type 0} (ends : List Token → Bool) (P : List Token → X → Type 0) (left rest : List Token) (x : X)
    → ends rest ≡ true → P left x → IsPartAt ends P (left ++ rest) x (length left)
part_before {X} ends P left rest x e p = record {
  within = omega (arith, length-append left rest);
  part = subst (λ (us : List Token). P us x) (sym (take-append_seam left rest)) p;
  over = ap ends (drop-append_seam left rest) ∙ e;
}

pub one_front : {X : Type 0} (ends : List Token → Bool) (P : List Token → X → Type 0) → OnePart ends P → OneFront (IsPartAt ends P)
one_front {X} ends P one ts x y n m few p q =
    let splits : take n ts ++ drop n ts ≡ take m ts ++ drop m ts = take-append-drop n ts ∙ sym (take-append-drop m ts) in
    let small : length (take n ts ++ drop n ts) ≤ most_tokens = omega (arith, few, ap length (take-append-drop n ts)) in
    let same = one (take n ts) (take m ts) (drop n ts) (drop m ts) x y small splits p.over q.over p.part q.part in
    let size : length (drop n ts) ≡ length (drop m ts) = ap length same.2 in
    (same.0, omega (arith, size, length-drop n ts, length-drop m ts, p.within, q.within))

pub one_part : {X : Type 0} (ends : List Token → Bool) (P : List Token → X → Type 0) → OneFront (IsPartAt ends P) → OnePart ends P
one_part {X} ends P one left left' rest rest' x y few split e e' p q =
    let there = part_before ends P left rest x e p in
    let other = subst (λ (us : List Token). IsPartAt ends P us y (length left')) (sym split) (part_before ends P left' rest' y e' q) in
    let same = one (left ++ rest) x y (length left) (length left') few there other in
    let lefts : left ≡ left' =
    sym (take-append_seam left rest) ∙ ap (λ (n : ℕ). take n (left ++ rest)) same.1 ∙ ap (λ (us : List Token). take (length left') us) split
    ∙ take-append_seam left' rest' in
    let rests : rest ≡ rest' =
    sym (drop-append_seam left rest) ∙ ap (λ (n : ℕ). drop n (left ++ rest)) same.1 ∙ ap (λ (us : List Token). drop (length left') us) split
    ∙ drop-append_seam left' rest' in
    (same.0, lefts, rests)

-- all the tokens are one
pub whole_part : {X : Type 0} (ends : List Token → Bool) (P : List Token → X → Type 0) (ts : List Token) (x : X) (n : ℕ)
    → IsPartAt ends P ts x n → n ≡ length ts → P ts x
whole_part {X} ends P ts x n p e =
    let all : take n ts ≡ ts = ap (λ (k : ℕ). take k ts) e ∙ take-length ts in
    subst (λ (us : List Token). P us x) all p.part

pub part_whole : {X : Type 0} (ends : List Token → Bool) (P : List Token → X → Type 0) (ts : List Token) (x : X)
    → ends [] ≡ true → P ts x → IsPartAt ends P ts x (length ts)
part_whole {X} ends P ts x e p = record {
  within = omega arith;
  part = subst (λ (us : List Token). P us x) (sym (take-length ts)) p;
  over = ap ends (drop-length ts) ∙ e;
}

-- EXPRESSIONS

abbrev pub EndsExpressions : (List Token → Bool) → Type 0
EndsExpressions ends = (ts : List Token) → ends ts ≡ true → goes_on ts ≡ false

pub expression_at : (ends : List Token → Bool) → EndsExpressions ends → (ts : List Token) (x : Expr) (n : ℕ)
    → IsPartAt ends IsExpression ts x n → IsFront ts x n
expression_at ends over ts x n p = record {
  within = p.within;
  strength = p.part.strength;
  weakest = p.part.weakest;
  spells = p.part.spells;
  over = over (drop n ts) p.over;
}

pub one_expression : OneFront IsFront → (ends : List Token → Bool) → EndsExpressions ends → OneFront (IsPartAt ends IsExpression)
one_expression one ends over ts x y n m few p q = one ts x y n m few (expression_at ends over ts x n p) (expression_at ends over ts y m q)

pub closing_over : EndsExpressions is_closing
closing_over (token.Symbol sign.CloseParenthesis ∷ ts) e = refl
closing_over ts e = absurd cc

-- BOUNDS

pub bound_split : (left rest us : List Token) → left ≡ opening ∷ (us ++ closing ∷ []) → left ++ rest ≡ opening ∷ (us ++ closing ∷ rest)
bound_split left rest us e = ap (λ (vs : List Token). vs ++ rest) e ∙ ap (λ (vs : List Token). opening ∷ vs) (append_assoc us (closing ∷ []) rest)

pub one_bound : OneFront IsFront → OnePart anything IsBound
one_bound one left left' rest rest' x y few split e e' (us, is, p) (us', is', p') =
    let whole = bound_split left rest us is in
    let inner : us ++ closing ∷ rest ≡ us' ++ closing ∷ rest' = cc (whole, split, bound_split left' rest' us' is') in
    let small : length (us ++ closing ∷ rest) ≤ most_tokens = omega (arith, few, ap length whole) in
    let same = one_part is_closing IsExpression (one_expression one is_closing closing_over) us us' (closing ∷ rest) (closing ∷ rest') x y small inner refl refl p p' in
    let rests : rest ≡ rest' = cc (same.2) in
    let lefts : left ≡ left' = is ∙ ap (λ (vs : List Token). opening ∷ (vs ++ closing ∷ [])) same.1 ∙ sym is' in
    (same.0, lefts, rests)

-- PLACES IN A LINE

pub dropped_small : (tokens : List Token) (from : ℕ) → length tokens ≤ most_tokens → length (drop from tokens) ≤ most_tokens
dropped_small tokens from few = omega (arith, length-drop from tokens)

pub dropped_to : (tokens : List Token) (from behind n : ℕ) → from ≤ behind → n ≡ behind - from → drop n (drop from tokens) ≡ drop behind tokens
dropped_to tokens from behind n under e =
    let place : from + n ≡ behind = omega arith in
    drop-drop n from tokens ∙ ap (λ (k : ℕ). drop k tokens) place

pub not_over : (ends : List Token → Bool) (tokens : List Token) (from behind n : ℕ) → from ≤ behind → n ≡ behind - from
    → ends (drop n (drop from tokens)) ≡ true → ends (drop behind tokens) ≡ false → ⊥
not_over ends tokens from behind n under e over other =
    let same : ends (drop n (drop from tokens)) ≡ ends (drop behind tokens) = ap ends (dropped_to tokens from behind n under e) in cc

-- the expression found ends elsewhere
pub no_expression_at : OneFront IsFront → (ends : List Token → Bool) → EndsExpressions ends → (tokens : List Token) (from behind : ℕ) (x : Expr)
    → length tokens ≤ most_tokens → from ≤ behind → IsFront (drop from tokens) x (behind - from) → ends (drop behind tokens) ≡ false
    → (y : Expr) (n : ℕ) → IsPartAt ends IsExpression (drop from tokens) y n → ⊥
no_expression_at one ends over tokens from behind x few under found other y n p =
    let same = one (drop from tokens) x y (behind - from) n (dropped_small tokens from few) found (expression_at ends over (drop from tokens) y n p) in
    not_over ends tokens from behind n under (sym same.1) p.over other

-- another part than the one found isn't there
pub no_other : {X : Type 0} (ends other : List Token → Bool) (P : List Token → X → Type 0) → OnePart ends P → (tokens : List Token) (from behind : ℕ) (x : X)
    → length tokens ≤ most_tokens → from ≤ behind → IsPartAt ends P (drop from tokens) x (behind - from) → (other (drop behind tokens) ≡ true → ⊥)
    → ((ts : List Token) → other ts ≡ true → ends ts ≡ true) → (y : X) (n : ℕ) → IsPartAt other P (drop from tokens) y n → ⊥
no_other {X} ends other P one tokens from behind x few under found none weaker y n p =
    let there : IsPartAt ends P (drop from tokens) y n = record {
      within = p.within;
      part = p.part;
      over = weaker (drop n (drop from tokens)) p.over;
    } in
    let same = one_front ends P one (drop from tokens) x y (behind - from) n (dropped_small tokens from few) found there in
    none (sym (ap other (dropped_to tokens from behind n under (sym same.1))) ∙ p.over)

-- BOUNDS

pub opening_first : (ts : List Token) → begins_opening ts ≡ true → ts ≡ opening ∷ drop 1 ts
opening_first (token.Symbol sign.OpenParenthesis ∷ ts) e = refl
opening_first ts e = absurd cc

pub closing_first : (ts : List Token) → is_closing ts ≡ true → ts ≡ closing ∷ drop 1 ts
closing_first (token.Symbol sign.CloseParenthesis ∷ ts) e = refl
closing_first ts e = absurd cc

pub inside : (tokens : List Token) (from : ℕ) (t : Token) (us : List Token) → drop from tokens ≡ t ∷ us → from < length tokens
inside tokens from t us e = omega (arith, length-drop from tokens, ap length e)

pub next_dropped : (tokens : List Token) (from : ℕ) (t : Token) (us : List Token) → drop from tokens ≡ t ∷ us → drop (from + 1) tokens ≡ us
next_dropped tokens from t us e = sym (drop-drop 1 from tokens) ∙ ap (λ (vs : List Token). drop 1 vs) e

pub bound_at : (tokens : List Token) (from behind : ℕ) (x : Expr) → begins_opening (drop from tokens) ≡ true → from + 1 ≤ behind
    → IsPartAt is_closing IsExpression (drop (from + 1) tokens) x (behind - (from + 1)) → IsPartAt anything IsBound (drop from tokens) x (behind + 1 - from)
bound_at tokens from behind x e under p =
    let k : ℕ = behind - (from + 1) in
    let us : List Token = take k (drop (from + 1) tokens) in
    let rest : List Token = drop 1 (drop k (drop (from + 1) tokens)) in
    let first : drop from tokens ≡ opening ∷ drop 1 (drop from tokens) = opening_first (drop from tokens) e in
    let next : drop (from + 1) tokens ≡ drop 1 (drop from tokens) = next_dropped tokens from opening (drop 1 (drop from tokens)) first in
    let cut : us ++ closing ∷ rest ≡ drop (from + 1) tokens =
    ap (λ (vs : List Token). us ++ vs) (sym (closing_first (drop k (drop (from + 1) tokens)) p.over)) ∙ take-append-drop k (drop (from + 1) tokens) in
    let whole : (opening ∷ (us ++ closing ∷ [])) ++ rest ≡ drop from tokens =
    bound_split (opening ∷ (us ++ closing ∷ [])) rest us refl ∙ ap (λ (vs : List Token). opening ∷ vs) (cut ∙ next) ∙ sym first in
    let there = part_before anything IsBound (opening ∷ (us ++ closing ∷ [])) rest x refl (us, refl, p.part) in
    let size : length (opening ∷ (us ++ closing ∷ [])) ≡ behind + 1 - from =
    omega (arith, length-append us (closing ∷ []), length-take-le k (drop (from + 1) tokens) p.within) in
    subst (λ (vs : List Token). IsPartAt anything IsBound vs x (behind + 1 - from)) whole
    (subst (λ (n : ℕ). IsPartAt anything IsBound ((opening ∷ (us ++ closing ∷ [])) ++ rest) x n) size there)

pub no_bound : (tokens : List Token) (from : ℕ) → ((x : Expr) (n : ℕ) → IsPartAt is_closing IsExpression (drop (from + 1) tokens) x n → ⊥)
    → (x : Expr) (n : ℕ) → IsPartAt anything IsBound (drop from tokens) x n → ⊥
no_bound tokens from none x n p =
    let ts : List Token = drop from tokens in
    let us : List Token = p.part.0 in
    let whole : ts ≡ opening ∷ (us ++ closing ∷ drop n ts) = sym (take-append-drop n ts) ∙ bound_split (take n ts) (drop n ts) us p.part.1 in
    let next : drop (from + 1) tokens ≡ us ++ closing ∷ drop n ts = next_dropped tokens from opening (us ++ closing ∷ drop n ts) whole in
    none x (length us)
    (subst (λ (vs : List Token). IsPartAt is_closing IsExpression vs x (length us)) (sym next)
    (part_before is_closing IsExpression us (closing ∷ drop n ts) x refl p.part.2))

-- no bound where no parenthesis opens
pub no_opening : (ts : List Token) (x : Expr) (n : ℕ) → begins_opening ts ≡ false → IsPartAt anything IsBound ts x n → ⊥
no_opening ts x n e p =
    let us : List Token = p.part.0 in
    let whole : ts ≡ opening ∷ (us ++ closing ∷ drop n ts) = sym (take-append-drop n ts) ∙ bound_split (take n ts) (drop n ts) us p.part.1 in
    let there : begins_opening ts ≡ true = ap begins_opening whole in
    absurd cc

pub closed_inside : (tokens : List Token) (from behind : ℕ) (x : Expr) → from ≤ behind
    → IsPartAt is_closing IsExpression (drop from tokens) x (behind - from) → behind < length tokens
closed_inside tokens from behind x under p =
    inside tokens behind closing (drop 1 (drop (behind - from) (drop from tokens)))
    (sym (dropped_to tokens from behind (behind - from) under refl) ∙ closing_first (drop (behind - from) (drop from tokens)) p.over)
