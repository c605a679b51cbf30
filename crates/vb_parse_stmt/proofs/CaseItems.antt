-- What a `Case` lists: how each part of it is read.
use Rattle.std.proofs.Common.{◌≡◌, ◌⊎◌, inl, inr, ℕ, ◌+◌, ◌-◌, ◌≤◌, ◌<◌, Bool, true, false, List, [], ◌∷◌, ◌++◌, length, take, drop, Option, Some, None, refl, sym, ap, subst, ◌∙◌, arith, length-drop}
use Rattle.std.proofs.lemmas.List.{take-append-drop, drop-drop, length-take-le}
use Rattle.vb_syntax.specs.declared.keyword.Keyword.TheVariants as word
use Rattle.vb_syntax.specs.declared.{symbol.Symbol.Symbol, tokens.Token.Token, expression.{RelationalOperator.RelationalOperator, Expr.Expr}, statement.CaseItem.CaseItem}
use Rattle.vb_syntax.specs.declared.symbol.Symbol.TheVariants as sign
use Rattle.vb_syntax.specs.declared.tokens.Token.TheVariants as token
use Rattle.vb_syntax.specs.declared.expression.RelationalOperator.TheVariants as relation
use Rattle.vb_syntax.specs.declared.statement.CaseItem.TheVariants as case_item
use Rattle.vb_parse_expr.specs.{TypeReading.most_tokens, Fronts.IsFront}
use Rattle.vb_parse_decl.specs.{Parts.{reserved, IsExpression}, DeclaredReading.{IsPartAt, is_over}}
use Rattle.vb_parse_stmt.specs.{Statements.{relation_sign, IsRelation, IsCaseItem}, CaseReading.{relation_of, relation_front, relation_size, is_to}}
use Rattle.vb_parse_decl.proofs.{Refusals.OneFront, DeclaredParts.{OnePart, EndsExpressions, part_before, one_part, one_expression, expression_at, no_expression_at, dropped_small, dropped_to, next_dropped}, DeclaredNames.cons_part, DeclaredValues.over_ends, DeclaredDeclarators.{Parting, parting, parted_found}}
use Rattle.vb_parse_stmt.proofs.BlockBegins.{PrimaryBegins, begins_expression, BeginsExpression, expression_begins}

-- WITH WHAT AN ITEM BEGINS

pub front_begins : PrimaryBegins → (ts : List Token) (x : Expr) (n : ℕ) → IsFront ts x n → BeginsExpression ts
front_begins begins ts x n p =
    let first = expression_begins begins (take n ts) x (record { strength = p.strength; weakest = p.weakest; spells = p.spells }) in
    (first.0, first.1 ++ drop n ts, sym (take-append-drop n ts) ∙ ap (λ (us : List Token). us ++ drop n ts) first.2, first.3)

no_relation_sign : (s : Symbol) → begins_expression (token.Symbol s) ≡ true → relation_of s ≡ None
no_relation_sign sign.Equal e = absurd cc
no_relation_sign sign.NotEqual e = absurd cc
no_relation_sign sign.Less e = absurd cc
no_relation_sign sign.LessOrEqual e = absurd cc
no_relation_sign sign.Greater e = absurd cc
no_relation_sign sign.GreaterOrEqual e = absurd cc
no_relation_sign s e = refl

no_relation_token : (t : Token) (us : List Token) → begins_expression t ≡ true → relation_front (t ∷ us) ≡ None
no_relation_token (token.Symbol s) us e = no_relation_sign s e
no_relation_token (token.Keyword word.Is) us e = absurd cc
no_relation_token t us e = refl

-- no expression begins as a comparison does
pub no_relation : PrimaryBegins → (ts : List Token) (x : Expr) (n : ℕ) → IsFront ts x n → relation_front ts ≡ None
no_relation begins ts x n p =
    let first = front_begins begins ts x n p in
    ap relation_front first.2 ∙ no_relation_token first.0 first.1 first.3

none_is_none : (o : Option RelationalOperator) (r : RelationalOperator) → o ≡ None → o ≡ Some r → ⊥
none_is_none o r e f = let same : None ≡ Some r = sym e ∙ f in cc

relation_read : (r : RelationalOperator) → relation_of (relation_sign r) ≡ Some r
relation_read relation.Equal = refl
relation_read relation.NotEqual = refl
relation_read relation.Less = refl
relation_read relation.LessOrEqual = refl
relation_read relation.Greater = refl
relation_read relation.GreaterOrEqual = refl

sign_back : (s : Symbol) (r : RelationalOperator) → relation_of s ≡ Some r → s ≡ relation_sign r
sign_back sign.Equal r e = let same : relation.Equal ≡ r = cc in ap relation_sign same
sign_back sign.NotEqual r e = let same : relation.NotEqual ≡ r = cc in ap relation_sign same
sign_back sign.Less r e = let same : relation.Less ≡ r = cc in ap relation_sign same
sign_back sign.LessOrEqual r e = let same : relation.LessOrEqual ≡ r = cc in ap relation_sign same
sign_back sign.Greater r e = let same : relation.Greater ≡ r = cc in ap relation_sign same
sign_back sign.GreaterOrEqual r e = let same : relation.GreaterOrEqual ≡ r = cc in ap relation_sign same
sign_back s r e = absurd cc

abbrev sign_token : RelationalOperator → Token
sign_token r = token.Symbol (relation_sign r)

-- the tokens of a comparison at the front
abbrev Compares : RelationalOperator → List Token → Type 0
Compares r ts = ((ts ≡ sign_token r ∷ drop 1 ts) × (relation_size ts ≡ 1)) ⊎ ((ts ≡ reserved word.Is ∷ sign_token r ∷ drop 2 ts) × (relation_size ts ≡ 2))

relation_split : (ts : List Token) (r : RelationalOperator) → relation_front ts ≡ Some r → Compares r ts
relation_split (token.Symbol s ∷ ts) r e = inl (ap (λ (u : Symbol). token.Symbol u ∷ ts) (sign_back s r e), refl)
relation_split (token.Keyword word.Is ∷ token.Symbol s ∷ ts) r e = inr (ap (λ (u : Symbol). reserved word.Is ∷ token.Symbol u ∷ ts) (sign_back s r e), refl)
relation_split ts r e = absurd cc

compares_within : (ts : List Token) (r : RelationalOperator) → Compares r ts → (relation_size ts ≤ length ts) × (0 < length ts)
compares_within ts r (inl p) = (omega (arith, ap length p.0, p.1), omega (arith, ap length p.0))
compares_within ts r (inr p) = (omega (arith, ap length p.0, p.1), omega (arith, ap length p.0))

pub relation_within : (ts : List Token) (r : RelationalOperator) → relation_front ts ≡ Some r → (relation_size ts ≤ length ts) × (0 < length ts)
relation_within ts r e = compares_within ts r (relation_split ts r e)

pub relation_inside : (tokens : List Token) (from : ℕ) (r : RelationalOperator) → relation_front (drop from tokens) ≡ Some r
    → from + relation_size (drop from tokens) ≤ length tokens
relation_inside tokens from r e = let within = relation_within (drop from tokens) r e in omega (arith, within.0, within.1, length-drop from tokens)

-- WHAT AN ITEM IS MADE OF

pub to_ends : EndsExpressions is_to
to_ends (token.Keyword word.To ∷ ts) e = refl
to_ends ts e = absurd cc

abbrev pub CaseItemAt : List Token → CaseItem → ℕ → Type 0
CaseItemAt ts (case_item.Value x) n = IsPartAt is_over IsExpression ts x n
CaseItemAt ts (case_item.Range x y) n = Parting (reserved word.To) is_to is_over IsExpression IsExpression ts x y n
CaseItemAt ts (case_item.Relation r x) n = (m : ℕ) × (relation_front ts ≡ Some r) × IsPartAt is_over IsExpression (drop (relation_size ts) ts) x m × (n ≡ m + relation_size ts)

-- a sign, or `Is` and a sign, and an expression behind it
related : (ts us vs : List Token) (r : RelationalOperator) (x : Expr) (n k : ℕ) → ts ≡ us ++ (vs ++ drop n ts) → length us ≡ k → relation_size ts ≡ k → n ≡ length vs + k
    → relation_front ts ≡ Some r → drop k ts ≡ vs ++ drop n ts → is_over (drop n ts) ≡ true → IsExpression vs x → CaseItemAt ts (case_item.Relation r x) n
related ts us vs r x n k whole size far all front rest over p =
    let there : drop (relation_size ts) ts ≡ vs ++ drop n ts = ap (λ (j : ℕ). drop j ts) far ∙ rest in
    let part : IsPartAt is_over IsExpression (drop (relation_size ts) ts) x (length vs) =
    subst (λ (ws : List Token). IsPartAt is_over IsExpression ws x (length vs)) (sym there) (part_before is_over IsExpression vs (drop n ts) x over p) in
    (length vs, front, part, omega (arith, all, far))

by_relation : (ts : List Token) (r : RelationalOperator) (x : Expr) (n : ℕ) → n ≤ length ts → is_over (drop n ts) ≡ true → IsCaseItem (take n ts) (case_item.Relation r x)
    → CaseItemAt ts (case_item.Relation r x) n
by_relation ts r x n within over (inl (us, split, p)) =
    let whole : ts ≡ sign_token r ∷ (us ++ drop n ts) = sym (take-append-drop n ts) ∙ ap (λ (ws : List Token). ws ++ drop n ts) split in
    related ts (sign_token r ∷ []) us r x n 1 whole refl (ap relation_size whole) (omega (arith, ap length split, length-take-le n ts within))
    (ap relation_front whole ∙ relation_read r) (ap (λ (ws : List Token). drop 1 ws) whole) over p
by_relation ts r x n within over (inr (us, split, (vs, split', p))) =
    let taken : take n ts ≡ reserved word.Is ∷ sign_token r ∷ vs = split ∙ ap (λ (ws : List Token). reserved word.Is ∷ ws) split' in
    let whole : ts ≡ reserved word.Is ∷ sign_token r ∷ (vs ++ drop n ts) = sym (take-append-drop n ts) ∙ ap (λ (ws : List Token). ws ++ drop n ts) taken in
    related ts (reserved word.Is ∷ sign_token r ∷ []) vs r x n 2 whole refl (ap relation_size whole) (omega (arith, ap length taken, length-take-le n ts within))
    (ap relation_front whole ∙ relation_read r) (ap (λ (ws : List Token). drop 2 ws) whole) over p

pub case_item_at : (ts : List Token) (d : CaseItem) (n : ℕ) → IsPartAt is_over IsCaseItem ts d n → CaseItemAt ts d n
case_item_at ts (case_item.Value x) n p = record { within = p.within; part = p.part; over = p.over }
case_item_at ts (case_item.Range x y) n p = parting (reserved word.To) is_to is_over IsExpression IsExpression ts x y n (λ us. refl) p.within p.over p.part
case_item_at ts (case_item.Relation r x) n p = by_relation ts r x n p.within p.over p.part

-- ONE ITEM AT MOST

value_no_range : OneFront IsFront → (ts : List Token) (x y z : Expr) (n m : ℕ) → length ts ≤ most_tokens → IsPartAt is_over IsExpression ts x n
    → Parting (reserved word.To) is_to is_over IsExpression IsExpression ts y z m → ⊥
value_no_range one ts x y z n m few p q =
    let same = one ts x y n q.size few (expression_at is_over over_ends ts x n p) (expression_at is_to to_ends ts y q.size q.left) in
    let here : drop n ts ≡ reserved word.To ∷ q.rest = ap (λ (k : ℕ). drop k ts) same.1 ∙ q.split in
    let there : is_over (reserved word.To ∷ q.rest) ≡ true = ap is_over (sym here) ∙ p.over in
    cc

range_same : OneFront IsFront → (ts : List Token) (x y x' y' : Expr) (n m : ℕ) → length ts ≤ most_tokens
    → Parting (reserved word.To) is_to is_over IsExpression IsExpression ts x y n → Parting (reserved word.To) is_to is_over IsExpression IsExpression ts x' y' m
    → (x ≡ x') × (y ≡ y') × (n ≡ m)
range_same one ts x y x' y' n m few p q =
    let left = one_expression one is_to to_ends ts x x' p.size q.size few p.left q.left in
    let whole : reserved word.To ∷ q.rest ≡ reserved word.To ∷ p.rest = sym q.split ∙ ap (λ (k : ℕ). drop k ts) (sym left.1) ∙ p.split in
    let rest : q.rest ≡ p.rest = cc (whole) in
    let small : length p.rest ≤ most_tokens = omega (arith, few, ap length p.split, length-drop p.size ts) in
    let there = subst (λ (us : List Token). IsPartAt is_over IsExpression us y' q.far) rest q.right in
    let right = one_expression one is_over over_ends p.rest y y' p.far q.far small p.right there in
    (left.0, right.0, omega (arith, p.whole, q.whole, left.1, right.1))

some_same : (r s : RelationalOperator) (o : Option RelationalOperator) → o ≡ Some r → o ≡ Some s → r ≡ s
some_same r s o e f = let same : Some r ≡ Some s = sym e ∙ f in cc

one_view : PrimaryBegins → OneFront IsFront → (ts : List Token) (d b : CaseItem) (n m : ℕ) → length ts ≤ most_tokens → CaseItemAt ts d n → CaseItemAt ts b m → (d ≡ b) × (n ≡ m)
one_view begins one ts (case_item.Value x) (case_item.Value y) n m few p q =
    let same = one_expression one is_over over_ends ts x y n m few p q in (ap case_item.Value same.0, same.1)
one_view begins one ts (case_item.Value x) (case_item.Range y z) n m few p q = absurd (value_no_range one ts x y z n m few p q)
one_view begins one ts (case_item.Range y z) (case_item.Value x) n m few p q = absurd (value_no_range one ts x y z m n few q p)
one_view begins one ts (case_item.Range x y) (case_item.Range x' y') n m few p q =
    let same = range_same one ts x y x' y' n m few p q in
    (ap (λ (z : Expr). case_item.Range z y) same.0 ∙ ap (λ (z : Expr). case_item.Range x' z) same.1, same.2)
one_view begins one ts (case_item.Relation r x) (case_item.Relation s y) n m few p q =
    let relations = some_same r s (relation_front ts) p.1 q.1 in
    let small : length (drop (relation_size ts) ts) ≤ most_tokens = dropped_small ts (relation_size ts) few in
    let same = one_expression one is_over over_ends (drop (relation_size ts) ts) x y p.0 q.0 small p.2 q.2 in
    (ap (λ (o : RelationalOperator). case_item.Relation o x) relations ∙ ap (λ (z : Expr). case_item.Relation s z) same.0, omega (arith, p.3, q.3, same.1))
one_view begins one ts (case_item.Relation r x) (case_item.Value y) n m few p q =
    absurd (none_is_none (relation_front ts) r (no_relation begins ts y m (expression_at is_over over_ends ts y m q)) p.1)
one_view begins one ts (case_item.Value y) (case_item.Relation r x) n m few p q =
    absurd (none_is_none (relation_front ts) r (no_relation begins ts y n (expression_at is_over over_ends ts y n p)) q.1)
one_view begins one ts (case_item.Relation r x) (case_item.Range y z) n m few p q =
    absurd (none_is_none (relation_front ts) r (no_relation begins ts y q.size (expression_at is_to to_ends ts y q.size q.left)) p.1)
one_view begins one ts (case_item.Range y z) (case_item.Relation r x) n m few p q =
    absurd (none_is_none (relation_front ts) r (no_relation begins ts y p.size (expression_at is_to to_ends ts y p.size p.left)) q.1)

pub one_case_item : PrimaryBegins → OneFront IsFront → OnePart is_over IsCaseItem
one_case_item begins one =
    one_part is_over IsCaseItem
    (λ ts d b n m few p q. one_view begins one ts d b n m few (case_item_at ts d n p) (case_item_at ts b m q))

-- WHAT IS FOUND

to_first : (ts : List Token) → is_to ts ≡ true → ts ≡ reserved word.To ∷ drop 1 ts
to_first (token.Keyword word.To ∷ ts) e = refl
to_first ts e = absurd cc

to_next : (tokens : List Token) (behind : ℕ) → is_to (drop behind tokens) ≡ true → drop behind tokens ≡ reserved word.To ∷ drop (behind + 1) tokens
to_next tokens behind e =
    let first = to_first (drop behind tokens) e in
    first ∙ ap (λ (us : List Token). reserved word.To ∷ us) (sym (next_dropped tokens behind (reserved word.To) (drop 1 (drop behind tokens)) first))

pub to_inside : (tokens : List Token) (behind : ℕ) → is_to (drop behind tokens) ≡ true → behind < length tokens
to_inside tokens behind e = omega (arith, length-drop behind tokens, ap length (to_next tokens behind e))

part_of_front : (ends : List Token → Bool) (tokens : List Token) (from behind : ℕ) (x : Expr) → from ≤ behind → IsFront (drop from tokens) x (behind - from)
    → ends (drop behind tokens) ≡ true → IsPartAt ends IsExpression (drop from tokens) x (behind - from)
part_of_front ends tokens from behind x under p e = record {
  within = p.within;
  part = record { strength = p.strength; weakest = p.weakest; spells = p.spells };
  over = ap ends (dropped_to tokens from behind (behind - from) under refl) ∙ e;
}

pub value_found : (tokens : List Token) (from behind : ℕ) (x : Expr) → from ≤ behind → IsFront (drop from tokens) x (behind - from)
    → is_over (drop behind tokens) ≡ true → IsPartAt is_over IsCaseItem (drop from tokens) (case_item.Value x) (behind - from)
value_found tokens from behind x under p e =
    let there = part_of_front is_over tokens from behind x under p e in record { within = there.within; part = there.part; over = there.over }

pub range_found : (tokens : List Token) (from behind end : ℕ) (x y : Expr) → from ≤ behind → behind + 1 ≤ end → IsFront (drop from tokens) x (behind - from)
    → is_to (drop behind tokens) ≡ true → IsPartAt is_over IsExpression (drop (behind + 1) tokens) y (end - (behind + 1))
    → IsPartAt is_over IsCaseItem (drop from tokens) (case_item.Range x y) (end - from)
range_found tokens from behind end x y under further p e q =
    let there = parted_found (reserved word.To) is_to is_over IsExpression IsExpression tokens from behind end x y under further
    (part_of_front is_to tokens from behind x under p e) (to_next tokens behind e) q in
    record { within = there.within; part = there.part; over = there.over }

by_compares : (ts : List Token) (r : RelationalOperator) (x : Expr) (m n : ℕ) → n ≡ m + relation_size ts → Compares r ts
    → IsPartAt is_over IsExpression (drop (relation_size ts) ts) x m → IsPartAt is_over IsCaseItem ts (case_item.Relation r x) n
by_compares ts r x m n all (inl (split, size)) p =
    cons_part is_over IsExpression IsCaseItem ts (drop 1 ts) (sign_token r) x (case_item.Relation r x) m n split (omega (arith, all, size)) (λ vs q. inl (vs, refl, q))
    (subst (λ (k : ℕ). IsPartAt is_over IsExpression (drop k ts) x m) size p)
by_compares ts r x m n all (inr (split, size)) p =
    let rest : drop 1 ts ≡ sign_token r ∷ drop 2 ts = ap (λ (us : List Token). drop 1 us) split in
    let whole : ts ≡ reserved word.Is ∷ drop 1 ts = split ∙ ap (λ (us : List Token). reserved word.Is ∷ us) (sym rest) in
    let Related : List Token → Expr → Type 0 = λ us y. IsRelation r y us in
    let inner = cons_part is_over IsExpression Related (drop 1 ts) (drop 2 ts) (sign_token r) x x m (m + 1) rest refl (λ vs q. (vs, refl, q))
    (subst (λ (k : ℕ). IsPartAt is_over IsExpression (drop k ts) x m) size p) in
    cons_part is_over Related IsCaseItem ts (drop 1 ts) (reserved word.Is) x (case_item.Relation r x) (m + 1) n whole (omega (arith, all, size))
    (λ vs q. inr (vs, refl, q)) inner

pub relation_found : (tokens : List Token) (from behind : ℕ) (r : RelationalOperator) (x : Expr) → relation_front (drop from tokens) ≡ Some r
    → from + relation_size (drop from tokens) ≤ behind
    → IsPartAt is_over IsExpression (drop (from + relation_size (drop from tokens)) tokens) x (behind - (from + relation_size (drop from tokens)))
    → IsPartAt is_over IsCaseItem (drop from tokens) (case_item.Relation r x) (behind - from)
relation_found tokens from behind r x e under p =
    let k : ℕ = relation_size (drop from tokens) in
    let m : ℕ = behind - (from + k) in
    by_compares (drop from tokens) r x m (behind - from) (omega (arith, under)) (relation_split (drop from tokens) r e)
    (subst (λ (us : List Token). IsPartAt is_over IsExpression us x m) (sym (drop-drop k from tokens)) p)

-- WHERE NOTHING IS FOUND

no_compared_view : PrimaryBegins → (tokens : List Token) (from : ℕ) (r : RelationalOperator) → relation_front (drop from tokens) ≡ Some r
    → ((x : Expr) (n : ℕ) → IsPartAt is_over IsExpression (drop (from + relation_size (drop from tokens)) tokens) x n → ⊥)
    → (d : CaseItem) (m : ℕ) → CaseItemAt (drop from tokens) d m → ⊥
no_compared_view begins tokens from r e none (case_item.Value x) m p =
    none_is_none (relation_front (drop from tokens)) r (no_relation begins (drop from tokens) x m (expression_at is_over over_ends (drop from tokens) x m p)) e
no_compared_view begins tokens from r e none (case_item.Range x y) m p =
    none_is_none (relation_front (drop from tokens)) r (no_relation begins (drop from tokens) x p.size (expression_at is_to to_ends (drop from tokens) x p.size p.left)) e
no_compared_view begins tokens from r e none (case_item.Relation s x) m p =
    none x p.0 (subst (λ (us : List Token). IsPartAt is_over IsExpression us x p.0) (drop-drop (relation_size (drop from tokens)) from tokens) p.2)

pub no_compared : PrimaryBegins → (tokens : List Token) (from : ℕ) (r : RelationalOperator) → relation_front (drop from tokens) ≡ Some r
    → ((x : Expr) (n : ℕ) → IsPartAt is_over IsExpression (drop (from + relation_size (drop from tokens)) tokens) x n → ⊥)
    → (d : CaseItem) (m : ℕ) → IsPartAt is_over IsCaseItem (drop from tokens) d m → ⊥
no_compared begins tokens from r e none d m p = no_compared_view begins tokens from r e none d m (case_item_at (drop from tokens) d m p)

no_value_view : (ts : List Token) → relation_front ts ≡ None → ((x : Expr) (n : ℕ) → IsFront ts x n → ⊥) → (d : CaseItem) (m : ℕ) → CaseItemAt ts d m → ⊥
no_value_view ts e none (case_item.Value x) m p = none x m (expression_at is_over over_ends ts x m p)
no_value_view ts e none (case_item.Range x y) m p = none x p.size (expression_at is_to to_ends ts x p.size p.left)
no_value_view ts e none (case_item.Relation r x) m p = none_is_none (relation_front ts) r e p.1

pub no_value : (ts : List Token) → relation_front ts ≡ None → ((x : Expr) (n : ℕ) → IsFront ts x n → ⊥)
    → (d : CaseItem) (m : ℕ) → IsPartAt is_over IsCaseItem ts d m → ⊥
no_value ts e none d m p = no_value_view ts e none d m (case_item_at ts d m p)

other_value_view : OneFront IsFront → (tokens : List Token) (from behind : ℕ) (x : Expr) → length tokens ≤ most_tokens → from ≤ behind
    → IsFront (drop from tokens) x (behind - from) → relation_front (drop from tokens) ≡ None → is_over (drop behind tokens) ≡ false
    → ((y : Expr) (m : ℕ) → is_to (drop behind tokens) ≡ true → IsPartAt is_over IsExpression (drop (behind + 1) tokens) y m → ⊥)
    → (d : CaseItem) (n : ℕ) → CaseItemAt (drop from tokens) d n → ⊥
other_value_view one tokens from behind x few under found e over none (case_item.Value y) n p =
    no_expression_at one is_over over_ends tokens from behind x few under found over y n p
other_value_view one tokens from behind x few under found e over none (case_item.Range y z) n p =
    let same = one (drop from tokens) x y (behind - from) p.size (dropped_small tokens from few) found (expression_at is_to to_ends (drop from tokens) y p.size p.left) in
    let here : drop behind tokens ≡ reserved word.To ∷ p.rest = sym (dropped_to tokens from behind p.size under (sym same.1)) ∙ p.split in
    none z p.far (ap is_to here)
    (subst (λ (us : List Token). IsPartAt is_over IsExpression us z p.far) (sym (next_dropped tokens behind (reserved word.To) p.rest here)) p.right)
other_value_view one tokens from behind x few under found e over none (case_item.Relation r y) n p = none_is_none (relation_front (drop from tokens)) r e p.1

pub other_value : OneFront IsFront → (tokens : List Token) (from behind : ℕ) (x : Expr) → length tokens ≤ most_tokens → from ≤ behind
    → IsFront (drop from tokens) x (behind - from) → relation_front (drop from tokens) ≡ None → is_over (drop behind tokens) ≡ false
    → ((y : Expr) (m : ℕ) → is_to (drop behind tokens) ≡ true → IsPartAt is_over IsExpression (drop (behind + 1) tokens) y m → ⊥)
    → (d : CaseItem) (n : ℕ) → IsPartAt is_over IsCaseItem (drop from tokens) d n → ⊥
other_value one tokens from behind x few under found e over none d n p =
    other_value_view one tokens from behind x few under found e over none d n (case_item_at (drop from tokens) d n p)
