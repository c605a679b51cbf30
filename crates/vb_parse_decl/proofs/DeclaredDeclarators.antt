-- Declarators: names and what stands behind `As`, or a name and its value.
use Rattle.std.proofs.Common.{◌≡◌, ℕ, ◌+◌, ◌-◌, ◌≤◌, ◌<◌, Bool, true, false, List, ◌∷◌, ◌++◌, length, take, drop, Option, Some, None, refl, sym, ap, subst, ◌∙◌, arith, append_assoc, length-append, length-drop}
use Rattle.std.proofs.Math.Seq.{drop-append_seam, drop-length}
use Rattle.std.proofs.lemmas.Bool.{both_ways}
use Rattle.std.proofs.lemmas.List.{take-append-drop, drop-drop, length-take-le}
use Rattle.vb_text.specs.declared.names.Name.{Name}
use Rattle.vb_syntax.specs.declared.keyword.Keyword.TheVariants as word
use Rattle.vb_syntax.specs.declared.symbol.Symbol.TheVariants as sign
use Rattle.vb_syntax.specs.declared.{tokens.Token.Token, types.{SimpleTypeName.SimpleTypeName, TypeName.TypeName}, expression.{Expr.Expr, VariableInitializer.VariableInitializer}, declarator.{Declarator.Declarator, VariableIdentifier.VariableIdentifier}}
use Rattle.vb_syntax.specs.declared.tokens.Token.TheVariants as token
use Rattle.vb_syntax.specs.declared.declarator.Declarator.TheVariants as declarator
use Rattle.vb_parse_expr.specs.{TypeReading.most_tokens, Words.name_of, Types.IsTypeFront, Fronts.{IsFront, IsPrimaryFront, IsInitializerFront}}
use Rattle.vb_parse_decl.specs.{Parts.{reserved, equal, IsExpression, IsType, IsParted, AreListed}, Declarators.{IsIdentifier, IsInitialized, IsNew, IsDeclarator}, DeclaredReading.{IsPartAt, IsTyped, is_as, is_over, is_end, ends_identifier, begins_new, inferred_name}}
use Rattle.vb_parse_decl.proofs.{Refusals.OneFront, DeclaredParts.{OnePart, part_before, part_whole, one_front, one_part, one_expression, dropped_small, dropped_to, next_dropped, inside}, DeclaredLists.{one_list, first_of_list}, DeclaredBegins.{PrimaryBegins, no_new_type, new_begins}, DeclaredNames.{one_identifier, identifier_ends, declarator_ends, inferred_no_identifier}, DeclaredValues.{over_ends, one_new, one_typed}}

-- the laws of callees
pub record Readings : Type 0 where
  pub begins : PrimaryBegins
  pub expressions : OneFront IsFront
  pub primaries : OneFront IsPrimaryFront
  pub initializers : OneFront IsInitializerFront
  pub types : OneFront IsTypeFront

-- TWO PARTS AND A TOKEN BETWEEN THEM

pub record Parting {X Y : Type 0} (between : Token) (seam ends : List Token → Bool) (L : List Token → X → Type 0) (R : List Token → Y → Type 0)
    (ts : List Token) (x : X) (y : Y) (n : ℕ) : Type 0 where
  pub size : ℕ
  pub left : IsPartAt seam L ts x size
  pub rest : List Token
  pub split : drop size ts ≡ between ∷ rest
  pub far : ℕ
  pub right : IsPartAt ends R rest y far
  pub whole : n ≡ size + 1 + far

pub parting : {X Y : Type 0} (t : Token) (seam ends : List Token → Bool) (L : List Token → X → Type 0) (R : List Token → Y → Type 0) (ts : List Token) (x : X) (y : Y) (n : ℕ)
    → ((us : List Token) → seam (t ∷ us) ≡ true) → n ≤ length ts → ends (drop n ts) ≡ true → IsParted t L R (take n ts) x y → Parting t seam ends L R ts x y n
parting {X} {Y} t seam ends L R ts x y n seams within over p =
    let rest : List Token = p.right ++ drop n ts in
    let whole : p.left ++ t ∷ rest ≡ ts =
    sym (append_assoc p.left (t ∷ p.right) (drop n ts)) ∙ ap (λ (us : List Token). us ++ drop n ts) (sym p.split) ∙ take-append-drop n ts in
    record {
      size = length p.left;
      left = subst (λ (us : List Token). IsPartAt seam L us x (length p.left)) whole (part_before seam L p.left (t ∷ rest) x (seams rest) p.is_left);
      rest = rest;
      split = ap (λ (us : List Token). drop (length p.left) us) (sym whole) ∙ drop-append_seam p.left (t ∷ rest);
      far = length p.right;
      right = part_before ends R p.right (drop n ts) y over p.is_right;
      whole = omega (arith, ap length p.split, length-take-le n ts within, length-append p.left (t ∷ p.right));
    }

-- two parts that are found are parted
pub parted_found : {X Y : Type 0} (t : Token) (seam ends : List Token → Bool) (L : List Token → X → Type 0) (R : List Token → Y → Type 0) (tokens : List Token) (from behind end : ℕ) (x : X) (y : Y)
    → from ≤ behind → behind + 1 ≤ end → IsPartAt seam L (drop from tokens) x (behind - from) → drop behind tokens ≡ t ∷ drop (behind + 1) tokens
    → IsPartAt ends R (drop (behind + 1) tokens) y (end - (behind + 1))
    → IsPartAt ends (λ us (q : X × Y). IsParted t L R us q.0 q.1) (drop from tokens) (x, y) (end - from)
parted_found {X} {Y} t seam ends L R tokens from behind end x y under further p next q =
    let k : ℕ = behind - from in
    let m : ℕ = end - (behind + 1) in
    let ts : List Token = drop from tokens in
    let us : List Token = drop (behind + 1) tokens in
    let left : List Token = take k ts ++ t ∷ take m us in
    let here : drop k ts ≡ t ∷ us = dropped_to tokens from behind k under refl ∙ next in
    let whole : left ++ drop m us ≡ ts =
    append_assoc (take k ts) (t ∷ take m us) (drop m us) ∙ ap (λ (vs : List Token). take k ts ++ t ∷ vs) (take-append-drop m us)
    ∙ ap (λ (vs : List Token). take k ts ++ vs) (sym here) ∙ take-append-drop k ts in
    let parts : IsParted t L R left x y = record { left = take k ts; right = take m us; split = refl; is_left = p.part; is_right = q.part } in
    let Both : List Token → X × Y → Type 0 = λ vs w. IsParted t L R vs w.0 w.1 in
    let there = part_before ends Both left (drop m us) (x, y) q.over parts in
    let far : length left ≡ end - from =
    omega (arith, length-append (take k ts) (t ∷ take m us), length-take-le k ts p.within, length-take-le m us q.within) in
    subst (λ (vs : List Token). IsPartAt ends Both vs (x, y) (end - from)) whole
    (subst (λ (n : ℕ). IsPartAt ends Both (left ++ drop m us) (x, y) n) far there)

-- WHAT A DECLARATOR IS MADE OF

abbrev pub InferredAt : List Token → Name → Expr → ℕ → Type 0
InferredAt ts n x size = (t : Token) × (us : List Token) × (ts ≡ t ∷ equal ∷ us) × (name_of t ≡ Some n) × (m : ℕ) × IsPartAt is_over IsExpression us x m × (size ≡ m + 2)

abbrev pub DeclaratorAt : List Token → Declarator → ℕ → Type 0
DeclaratorAt ts (declarator.As vs a i) n = Parting (reserved word.As) is_as is_over (AreListed IsIdentifier) IsTyped ts vs (a, i) n
DeclaratorAt ts (declarator.AsNew vs a xs) n = Parting (reserved word.As) is_as is_over (AreListed IsIdentifier) IsNew ts vs (a, xs) n
DeclaratorAt ts (declarator.Inferred m x) n = InferredAt ts m x n

as_typed : (ts : List Token) (vs : List VariableIdentifier) (a : TypeName) (n : ℕ)
    → Parting (reserved word.As) is_as is_over (AreListed IsIdentifier) IsType ts vs a n → Parting (reserved word.As) is_as is_over (AreListed IsIdentifier) IsTyped ts vs (a, None) n
as_typed ts vs a n p = record {
  size = p.size;
  left = p.left;
  rest = p.rest;
  split = p.split;
  far = p.far;
  right = record { within = p.right.within; part = p.right.part; over = p.right.over };
  whole = p.whole;
}

as_initialized : (ts : List Token) (vs : List VariableIdentifier) (a : TypeName) (i : VariableInitializer) (n : ℕ)
    → Parting (reserved word.As) is_as is_over (AreListed IsIdentifier) IsInitialized ts vs (a, i) n → Parting (reserved word.As) is_as is_over (AreListed IsIdentifier) IsTyped ts vs (a, Some i) n
as_initialized ts vs a i n p = record {
  size = p.size;
  left = p.left;
  rest = p.rest;
  split = p.split;
  far = p.far;
  right = record { within = p.right.within; part = p.right.part; over = p.right.over };
  whole = p.whole;
}

inferred_at : (ts : List Token) (n : Name) (x : Expr) (size : ℕ) → IsPartAt is_over IsDeclarator ts (declarator.Inferred n x) size → InferredAt ts n x size
inferred_at ts n x size p =
    let t : Token = p.part.0 in
    let us : List Token = p.part.4.0 in
    let taken : take size ts ≡ t ∷ equal ∷ us = p.part.2 ∙ ap (λ (vs : List Token). t ∷ vs) p.part.4.1 in
    let whole : ts ≡ t ∷ equal ∷ (us ++ drop size ts) = sym (take-append-drop size ts) ∙ ap (λ (vs : List Token). vs ++ drop size ts) taken in
    let far : size ≡ length us + 2 = omega (arith, ap length taken, length-take-le size ts p.within) in
    (t, us ++ drop size ts, whole, p.part.3, length us, part_before is_over IsExpression us (drop size ts) x p.over p.part.4.2, far)

pub declarator_at : (ts : List Token) (d : Declarator) (n : ℕ) → IsPartAt is_over IsDeclarator ts d n → DeclaratorAt ts d n
declarator_at ts (declarator.As vs a None) n p =
    as_typed ts vs a n (parting (reserved word.As) is_as is_over (AreListed IsIdentifier) IsType ts vs a n (λ us. refl) p.within p.over p.part)
declarator_at ts (declarator.As vs a (Some i)) n p =
    as_initialized ts vs a i n
    (parting (reserved word.As) is_as is_over (AreListed IsIdentifier) IsInitialized ts vs (a, i) n (λ us. refl) p.within p.over p.part)
declarator_at ts (declarator.AsNew vs a xs) n p =
    parting (reserved word.As) is_as is_over (AreListed IsIdentifier) IsNew ts vs (a, xs) n (λ us. refl) p.within p.over p.part
declarator_at ts (declarator.Inferred m x) n p = inferred_at ts m x n p

-- ONE DECLARATOR AT MOST

one_names : Readings → OneFront (IsPartAt is_as (AreListed IsIdentifier))
one_names laws =
    one_front is_as (AreListed IsIdentifier)
    (one_list ends_identifier is_as IsIdentifier identifier_ends (one_identifier laws.begins laws.expressions))

same_seam : {Y Z : Type 0} (R : List Token → Y → Type 0) (S : List Token → Z → Type 0) → Readings → (ts : List Token) (vs ws : List VariableIdentifier) (y : Y) (z : Z) (n m : ℕ)
    → length ts ≤ most_tokens
    → (p : Parting (reserved word.As) is_as is_over (AreListed IsIdentifier) R ts vs y n) (q : Parting (reserved word.As) is_as is_over (AreListed IsIdentifier) S ts ws z m)
    → (vs ≡ ws) × (p.size ≡ q.size) × (q.rest ≡ p.rest) × (length p.rest ≤ most_tokens)
same_seam {Y} {Z} R S laws ts vs ws y z n m few p q =
    let same = one_names laws ts vs ws p.size q.size few p.left q.left in
    let rests : reserved word.As ∷ q.rest ≡ reserved word.As ∷ p.rest = sym q.split ∙ ap (λ (k : ℕ). drop k ts) (sym same.1) ∙ p.split in
    (same.0, same.1, cc (rests), omega (arith, few, ap length p.split, length-drop p.size ts))

no_typed_new : (ts : List Token) (p : TypeName × Option VariableInitializer) (n : ℕ) → IsPartAt is_over IsTyped ts p n → begins_new ts ≡ true → ⊥
no_typed_new ts (a, None) n p e = no_new_type (take n ts) (drop n ts) a p.part (ap begins_new (take-append-drop n ts) ∙ e)
no_typed_new ts (a, Some i) n p e =
    let left : List Token = p.part.left in
    let whole : left ++ equal ∷ (p.part.right ++ drop n ts) ≡ ts =
    sym (append_assoc left (equal ∷ p.part.right) (drop n ts)) ∙ ap (λ (us : List Token). us ++ drop n ts) (sym p.part.split) ∙ take-append-drop n ts in
    no_new_type left (equal ∷ (p.part.right ++ drop n ts)) a p.part.is_left (ap begins_new whole ∙ e)

new_first : (ts : List Token) (p : SimpleTypeName × List Expr) (n : ℕ) → IsPartAt is_over IsNew ts p n → begins_new ts ≡ true
new_first ts p n q = sym (ap begins_new (take-append-drop n ts)) ∙ new_begins (take n ts) (drop n ts) p.0 p.1 q.part

named_inferred : (ts us : List Token) (t : Token) (n : Name) → ts ≡ t ∷ equal ∷ us → name_of t ≡ Some n → inferred_name ts ≡ Some n
named_inferred ts us t n split named = ap inferred_name split ∙ named

inferred_no_names : (ts : List Token) (n : Name) (vs : List VariableIdentifier) (k : ℕ) → inferred_name ts ≡ Some n → IsPartAt is_as (AreListed IsIdentifier) ts vs k → ⊥
inferred_no_names ts n vs k e p =
    let first = first_of_list ends_identifier is_as IsIdentifier identifier_ends ts vs k p in
    inferred_no_identifier ts n first.x first.size e first.first

not_both : (ts : List Token) (n : Name) (x : Expr) (size k : ℕ) (vs : List VariableIdentifier) → InferredAt ts n x size → IsPartAt is_as (AreListed IsIdentifier) ts vs k → ⊥
not_both ts n x size k vs p q = inferred_no_names ts n vs k (named_inferred ts p.1 p.0 n p.2 p.3) q

one_declarator_view : Readings → (ts : List Token) (d b : Declarator) (n m : ℕ) → length ts ≤ most_tokens → DeclaratorAt ts d n → DeclaratorAt ts b m → (d ≡ b) × (n ≡ m)
one_declarator_view laws ts (declarator.As vs a i) (declarator.As ws b j) n m few p q =
    let same = same_seam IsTyped IsTyped laws ts vs ws (a, i) (b, j) n m few p q in
    let there = subst (λ (us : List Token). IsPartAt is_over IsTyped us (b, j) q.far) same.2 q.right in
    let parts = one_typed laws.types laws.initializers p.rest (a, i) (b, j) p.far q.far same.3 p.right there in
    let types : a ≡ b = ap (λ (w : TypeName × Option VariableInitializer). w.0) parts.0 in
    let values : i ≡ j = ap (λ (w : TypeName × Option VariableInitializer). w.1) parts.0 in
    (cc (same.0, types, values), omega (arith, p.whole, q.whole, same.1, parts.1))
one_declarator_view laws ts (declarator.AsNew vs a xs) (declarator.AsNew ws b ys) n m few p q =
    let same = same_seam IsNew IsNew laws ts vs ws (a, xs) (b, ys) n m few p q in
    let there = subst (λ (us : List Token). IsPartAt is_over IsNew us (b, ys) q.far) same.2 q.right in
    let parts = one_new laws.primaries p.rest (a, xs) (b, ys) p.far q.far same.3 p.right there in
    let classes : a ≡ b = ap (λ (w : SimpleTypeName × List Expr). w.0) parts.0 in
    let values : xs ≡ ys = ap (λ (w : SimpleTypeName × List Expr). w.1) parts.0 in
    (cc (same.0, classes, values), omega (arith, p.whole, q.whole, same.1, parts.1))
one_declarator_view laws ts (declarator.As vs a i) (declarator.AsNew ws b ys) n m few p q =
    let same = same_seam IsTyped IsNew laws ts vs ws (a, i) (b, ys) n m few p q in
    absurd (no_typed_new p.rest (a, i) p.far p.right (sym (ap begins_new same.2) ∙ new_first q.rest (b, ys) q.far q.right))
one_declarator_view laws ts (declarator.AsNew vs a xs) (declarator.As ws b j) n m few p q =
    let same = same_seam IsNew IsTyped laws ts vs ws (a, xs) (b, j) n m few p q in
    absurd (no_typed_new q.rest (b, j) q.far q.right (ap begins_new same.2 ∙ new_first p.rest (a, xs) p.far p.right))
one_declarator_view laws ts (declarator.Inferred k x) (declarator.As ws b j) n m few p q = absurd (not_both ts k x n q.size ws p q.left)
one_declarator_view laws ts (declarator.Inferred k x) (declarator.AsNew ws b ys) n m few p q = absurd (not_both ts k x n q.size ws p q.left)
one_declarator_view laws ts (declarator.As vs a i) (declarator.Inferred l y) n m few p q = absurd (not_both ts l y m p.size vs q p.left)
one_declarator_view laws ts (declarator.AsNew vs a xs) (declarator.Inferred l y) n m few p q = absurd (not_both ts l y m p.size vs q p.left)
one_declarator_view laws ts (declarator.Inferred k x) (declarator.Inferred l y) n m few p q =
    let whole : p.0 ∷ equal ∷ p.1 ≡ q.0 ∷ equal ∷ q.1 = sym p.2 ∙ q.2 in
    let first : p.0 ≡ q.0 = cc (whole) in
    let rest : q.1 ≡ p.1 = cc (whole) in
    let named : Some k ≡ Some l = sym p.3 ∙ ap name_of first ∙ q.3 in
    let name : k ≡ l = cc (named) in
    let small : length p.1 ≤ most_tokens = omega (arith, few, ap length p.2) in
    let there = subst (λ (us : List Token). IsPartAt is_over IsExpression us y q.4) rest q.5 in
    let same = one_expression laws.expressions is_over over_ends p.1 x y p.4 q.4 small p.5 there in
    (cc (name, same.0), omega (arith, p.6, q.6, same.1))

pub one_declarator : Readings → OnePart is_over IsDeclarator
one_declarator laws =
    one_part is_over IsDeclarator
    (λ ts d b n m few p q. one_declarator_view laws ts d b n m few (declarator_at ts d n p) (declarator_at ts b m q))

-- WHAT IS FOUND

-- a name, `=` and a value
inferred_first : (ts : List Token) (n : Name) → inferred_name ts ≡ Some n → (t : Token) × (us : List Token) × (ts ≡ t ∷ equal ∷ us) × (name_of t ≡ Some n)
inferred_first (t ∷ token.Symbol sign.Equal ∷ us) n e = (t, us, refl, e)
inferred_first ts n e = absurd cc

pub inferred_inside : (tokens : List Token) (from : ℕ) (n : Name) → inferred_name (drop from tokens) ≡ Some n → from + 2 ≤ length tokens
inferred_inside tokens from n e = let first = inferred_first (drop from tokens) n e in omega (arith, length-drop from tokens, ap length first.2)

behind_equal : (tokens us : List Token) (from : ℕ) (t : Token) → drop from tokens ≡ t ∷ equal ∷ us → us ≡ drop (from + 2) tokens
behind_equal tokens us from t e = sym (ap (λ (vs : List Token). drop 2 vs) e) ∙ drop-drop 2 from tokens

pub inferred_found : (tokens : List Token) (from behind : ℕ) (n : Name) (x : Expr) → inferred_name (drop from tokens) ≡ Some n → from + 2 ≤ behind
    → IsPartAt is_over IsExpression (drop (from + 2) tokens) x (behind - (from + 2)) → IsPartAt is_over IsDeclarator (drop from tokens) (declarator.Inferred n x) (behind - from)
inferred_found tokens from behind n x e under p =
    let first = inferred_first (drop from tokens) n e in
    let us : List Token = first.1 in
    let rest = behind_equal tokens us from first.0 first.2 in
    let k : ℕ = behind - (from + 2) in
    let left : List Token = first.0 ∷ equal ∷ take k us in
    let there : IsPartAt is_over IsExpression us x k = subst (λ (vs : List Token). IsPartAt is_over IsExpression vs x k) (sym rest) p in
    let whole : left ++ drop k us ≡ drop from tokens =
    ap (λ (vs : List Token). first.0 ∷ equal ∷ vs) (take-append-drop k us) ∙ sym first.2 in
    let made : IsDeclarator left (declarator.Inferred n x) = (first.0, equal ∷ take k us, refl, first.3, (take k us, refl, there.part)) in
    let found = part_before is_over IsDeclarator left (drop k us) (declarator.Inferred n x) there.over made in
    let far : length left ≡ behind - from = omega (arith, length-take-le k us there.within) in
    subst (λ (vs : List Token). IsPartAt is_over IsDeclarator vs (declarator.Inferred n x) (behind - from)) whole
    (subst (λ (m : ℕ). IsPartAt is_over IsDeclarator (left ++ drop k us) (declarator.Inferred n x) m) far found)

as_first : (ts : List Token) → is_as ts ≡ true → ts ≡ reserved word.As ∷ drop 1 ts
as_first (token.Keyword word.As ∷ ts) e = refl
as_first ts e = absurd cc

pub as_behind : (tokens : List Token) (from at : ℕ) (vs : List VariableIdentifier) → from ≤ at → IsPartAt is_as (AreListed IsIdentifier) (drop from tokens) vs (at - from)
    → drop at tokens ≡ reserved word.As ∷ drop (at + 1) tokens
as_behind tokens from at vs under p =
    let here : is_as (drop at tokens) ≡ true = ap is_as (sym (dropped_to tokens from at (at - from) under refl)) ∙ p.over in
    as_first (drop at tokens) here ∙ ap (λ (us : List Token). reserved word.As ∷ us) (drop-drop 1 at tokens)

pub as_inside : (tokens : List Token) (from at : ℕ) (vs : List VariableIdentifier) → from ≤ at → IsPartAt is_as (AreListed IsIdentifier) (drop from tokens) vs (at - from)
    → at < length tokens
as_inside tokens from at vs under p = inside tokens at (reserved word.As) (drop (at + 1) tokens) (as_behind tokens from at vs under p)

pub typed_found : (tokens : List Token) (from at behind : ℕ) (vs : List VariableIdentifier) (a : TypeName) (i : Option VariableInitializer) → from ≤ at → at + 1 ≤ behind
    → IsPartAt is_as (AreListed IsIdentifier) (drop from tokens) vs (at - from) → IsPartAt is_over IsTyped (drop (at + 1) tokens) (a, i) (behind - (at + 1))
    → IsPartAt is_over IsDeclarator (drop from tokens) (declarator.As vs a i) (behind - from)
typed_found tokens from at behind vs a None under further p q =
    let there : IsPartAt is_over IsType (drop (at + 1) tokens) a (behind - (at + 1)) = record { within = q.within; part = q.part; over = q.over } in
    let found = parted_found (reserved word.As) is_as is_over (AreListed IsIdentifier) IsType tokens from at behind vs a under further p
    (as_behind tokens from at vs under p) there in
    record { within = found.within; part = found.part; over = found.over }
typed_found tokens from at behind vs a (Some i) under further p q =
    let there : IsPartAt is_over IsInitialized (drop (at + 1) tokens) (a, i) (behind - (at + 1)) = record { within = q.within; part = q.part; over = q.over } in
    let found = parted_found (reserved word.As) is_as is_over (AreListed IsIdentifier) IsInitialized tokens from at behind vs (a, i) under further p
    (as_behind tokens from at vs under p) there in
    record { within = found.within; part = found.part; over = found.over }

pub new_found : (tokens : List Token) (from at behind : ℕ) (vs : List VariableIdentifier) (a : SimpleTypeName) (xs : List Expr) → from ≤ at → at + 1 ≤ behind
    → IsPartAt is_as (AreListed IsIdentifier) (drop from tokens) vs (at - from) → IsPartAt is_over IsNew (drop (at + 1) tokens) (a, xs) (behind - (at + 1))
    → IsPartAt is_over IsDeclarator (drop from tokens) (declarator.AsNew vs a xs) (behind - from)
new_found tokens from at behind vs a xs under further p q =
    let found = parted_found (reserved word.As) is_as is_over (AreListed IsIdentifier) IsNew tokens from at behind vs (a, xs) under further p
    (as_behind tokens from at vs under p) q in
    record { within = found.within; part = found.part; over = found.over }

-- WHERE THERE IS NONE

pub no_inferred_value : (tokens : List Token) (from : ℕ) (n : Name) → inferred_name (drop from tokens) ≡ Some n
    → ((x : Expr) (m : ℕ) → IsPartAt is_over IsExpression (drop (from + 2) tokens) x m → ⊥)
    → (d : Declarator) (m : ℕ) → IsPartAt is_over IsDeclarator (drop from tokens) d m → ⊥
no_inferred_value tokens from n e none d m p = by_form d (declarator_at (drop from tokens) d m p)
  where
    by_form : (b : Declarator) → DeclaratorAt (drop from tokens) b m → ⊥
    by_form (declarator.As vs a i) q = inferred_no_names (drop from tokens) n vs q.size e q.left
    by_form (declarator.AsNew vs a xs) q = inferred_no_names (drop from tokens) n vs q.size e q.left
    by_form (declarator.Inferred k x) q =
        none x q.4 (subst (λ (us : List Token). IsPartAt is_over IsExpression us x q.4) (behind_equal tokens q.1 from q.0 q.2) q.5)

no_inferred : (ts : List Token) (n : Name) (x : Expr) (m : ℕ) → inferred_name ts ≡ None → InferredAt ts n x m → ⊥
no_inferred ts n x m e q = let there : Some n ≡ None = sym (named_inferred ts q.1 q.0 n q.2 q.3) ∙ e in absurd cc

pub no_names : (tokens : List Token) (from : ℕ) → inferred_name (drop from tokens) ≡ None
    → ((vs : List VariableIdentifier) (m : ℕ) → IsPartAt is_as (AreListed IsIdentifier) (drop from tokens) vs m → ⊥)
    → (d : Declarator) (m : ℕ) → IsPartAt is_over IsDeclarator (drop from tokens) d m → ⊥
no_names tokens from e none d m p = by_form d (declarator_at (drop from tokens) d m p)
  where
    by_form : (b : Declarator) → DeclaratorAt (drop from tokens) b m → ⊥
    by_form (declarator.As vs a i) q = none vs q.size q.left
    by_form (declarator.AsNew vs a xs) q = none vs q.size q.left
    by_form (declarator.Inferred k x) q = no_inferred (drop from tokens) k x m e q

-- the names end at `at`, and neither a type nor a new object stands behind `As`
no_rest : Readings → (tokens : List Token) (from at : ℕ) (vs : List VariableIdentifier) → length tokens ≤ most_tokens → from ≤ at
    → inferred_name (drop from tokens) ≡ None → IsPartAt is_as (AreListed IsIdentifier) (drop from tokens) vs (at - from)
    → ((w : TypeName × Option VariableInitializer) (m : ℕ) → IsPartAt is_over IsTyped (drop (at + 1) tokens) w m → ⊥)
    → ((w : SimpleTypeName × List Expr) (m : ℕ) → IsPartAt is_over IsNew (drop (at + 1) tokens) w m → ⊥)
    → (d : Declarator) (m : ℕ) → IsPartAt is_over IsDeclarator (drop from tokens) d m → ⊥
no_rest laws tokens from at vs few under e found no_typed no_made d m p = by_form d (declarator_at (drop from tokens) d m p)
  where
    rest_at : (ws : List VariableIdentifier) (k : ℕ) (us : List Token) → IsPartAt is_as (AreListed IsIdentifier) (drop from tokens) ws k
        → drop k (drop from tokens) ≡ reserved word.As ∷ us → us ≡ drop (at + 1) tokens
    rest_at ws k us q split =
        let same = one_names laws (drop from tokens) vs ws (at - from) k (dropped_small tokens from few) found q in
        let here : drop at tokens ≡ reserved word.As ∷ us = sym (dropped_to tokens from at k under (sym same.1)) ∙ split in
        sym (next_dropped tokens at (reserved word.As) us here)

    by_form : (b : Declarator) → DeclaratorAt (drop from tokens) b m → ⊥
    by_form (declarator.As ws a i) q =
        no_typed (a, i) q.far (subst (λ (us : List Token). IsPartAt is_over IsTyped us (a, i) q.far) (rest_at ws q.size q.rest q.left q.split) q.right)
    by_form (declarator.AsNew ws a xs) q =
        no_made (a, xs) q.far (subst (λ (us : List Token). IsPartAt is_over IsNew us (a, xs) q.far) (rest_at ws q.size q.rest q.left q.split) q.right)
    by_form (declarator.Inferred k x) q = no_inferred (drop from tokens) k x m e q

pub no_made_new : Readings → (tokens : List Token) (from at : ℕ) (vs : List VariableIdentifier) → length tokens ≤ most_tokens → from ≤ at
    → inferred_name (drop from tokens) ≡ None → IsPartAt is_as (AreListed IsIdentifier) (drop from tokens) vs (at - from)
    → begins_new (drop (at + 1) tokens) ≡ true → ((w : SimpleTypeName × List Expr) (m : ℕ) → IsPartAt is_over IsNew (drop (at + 1) tokens) w m → ⊥)
    → (d : Declarator) (m : ℕ) → IsPartAt is_over IsDeclarator (drop from tokens) d m → ⊥
no_made_new laws tokens from at vs few under e found new none =
    no_rest laws tokens from at vs few under e found (λ w m p. no_typed_new (drop (at + 1) tokens) w m p new) none

pub no_type_behind : Readings → (tokens : List Token) (from at : ℕ) (vs : List VariableIdentifier) → length tokens ≤ most_tokens → from ≤ at
    → inferred_name (drop from tokens) ≡ None → IsPartAt is_as (AreListed IsIdentifier) (drop from tokens) vs (at - from)
    → begins_new (drop (at + 1) tokens) ≡ false → ((w : TypeName × Option VariableInitializer) (m : ℕ) → IsPartAt is_over IsTyped (drop (at + 1) tokens) w m → ⊥)
    → (d : Declarator) (m : ℕ) → IsPartAt is_over IsDeclarator (drop from tokens) d m → ⊥
no_type_behind laws tokens from at vs few under e found new none =
    no_rest laws tokens from at vs few under e found none (λ w m p. both_ways (begins_new (drop (at + 1) tokens)) new (new_first (drop (at + 1) tokens) w m p))

-- ALL DECLARATORS OF A LINE

pub end_at : (tokens : List Token) (behind : ℕ) → behind ≡ length tokens → is_end (drop behind tokens) ≡ true
end_at tokens behind e = ap (λ (k : ℕ). is_end (drop k tokens)) e ∙ ap is_end (drop-length tokens)

declarator_long : (ts : List Token) (d : Declarator) (n : ℕ) → DeclaratorAt ts d n → 0 < length ts
declarator_long ts (declarator.As vs a i) n p = omega (arith, ap length p.split, length-drop p.size ts)
declarator_long ts (declarator.AsNew vs a xs) n p = omega (arith, ap length p.split, length-drop p.size ts)
declarator_long ts (declarator.Inferred m x) n p = omega (arith, ap length p.2)

pub declarators_long : (ts : List Token) (ds : List Declarator) (n : ℕ) → IsPartAt is_end (AreListed IsDeclarator) ts ds n → 0 < length ts
declarators_long ts ds n p =
    let first = first_of_list is_over is_end IsDeclarator declarator_ends ts ds n p in
    declarator_long ts first.x first.size (declarator_at ts first.x first.size first.first)

pub declarators_same : Readings → (ts : List Token) (ds es : List Declarator) → length ts ≤ most_tokens → AreListed IsDeclarator ts ds → AreListed IsDeclarator ts es → ds ≡ es
declarators_same laws ts ds es few p q =
    let one = one_front is_end (AreListed IsDeclarator) (one_list is_over is_end IsDeclarator declarator_ends (one_declarator laws)) in
    let here = part_whole is_end (AreListed IsDeclarator) ts ds refl p in
    let there = part_whole is_end (AreListed IsDeclarator) ts es refl q in
    (one ts ds es (length ts) (length ts) few here there).0
