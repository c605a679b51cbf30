-- The tokens of a line are those of one statement without a block at most.
use Rattle.std.proofs.Common.{◌≡◌, inl, inr, ℕ, ◌+◌, ◌≤◌, ◌<◌, true, List, [], ◌∷◌, ◌++◌, length, drop, Option, Some, None, refl, sym, ap, subst, ◌∙◌, arith, length-append}
use Rattle.std.proofs.Math.Seq.{drop-append_seam}
use Rattle.vb_text.specs.declared.names.Name.{Name}
use Rattle.vb_syntax.specs.declared.keyword.Keyword.TheVariants as word
use Rattle.vb_syntax.specs.declared.{tokens.Token.Token, words.Context.Context, expression.Expr.{Expr, out-Expr, out-roll-Expr, TheOpen.Expr-F, TheVariants.rolls-Invocation}, statement.CompoundOperator.CompoundOperator}
use Rattle.vb_syntax.specs.declared.tokens.Token.TheVariants as token
use Rattle.vb_syntax.specs.declared.expression.Expr.TheVariants as e
use Rattle.vb_syntax.specs.declared.item.Item.TheVariants as item
use Rattle.vb_parse_expr.specs.{Words.comma, Expressions.{Spells, primary, prefix, binary}, Fronts.{IsFront, IsPrimaryFront, begins_primary}, TypeReading.most_tokens}
use Rattle.vb_parse_decl.specs.Parts.{reserved, equal, IsExpression, IsPrimary, IsParted, IsOptional, Begins}
use Rattle.vb_parse_stmt.specs.{Statements.{compound_sign, IsRaised}, SimpleLines.compound_there, Items.IsOtherItem}
use Rattle.vb_parse_decl.proofs.{Wholes.{expression_front, primary_front}, Parted.{EndsExpression, EndsPrimary, expression_of_parted, primary_of_parted}, Refusals.OneFront}
use Rattle.vb_parse_stmt.proofs.{SimpleFirsts.PrimaryBegins, SimpleRefusals.{compound_ends, compound_read, not_both}}

-- TWO PARTS

-- the tokens between are the same, and so is what stands behind them
tokens_same : (t u : Token) (left right left' right' : List Token) → left ++ t ∷ right ≡ left' ++ u ∷ right' → length left ≡ length left' → (t ≡ u) × (right ≡ right')
tokens_same t u left right left' right' e size =
    let cut : t ∷ right ≡ u ∷ right' =
    sym (drop-append_seam left (t ∷ right)) ∙ ap (λ (us : List Token). drop (length left) us) e
    ∙ ap (λ (n : ℕ). drop n (left' ++ u ∷ right')) size ∙ drop-append_seam left' (u ∷ right') in
    (cc, cc)

-- each part is shorter than the whole
parted_longer : {X Y : Type 0} (t : Token) (L : List Token → X → Type 0) (R : List Token → Y → Type 0) (ts : List Token) (x : X) (y : Y) (p : IsParted t L R ts x y)
    → length p.left + length p.right < length ts
parted_longer t L R ts x y p = omega (arith, ap length p.split, length-append p.left (t ∷ p.right))

-- what stands behind a first token has fewer tokens
pub fewer : (t : Token) (ts us : List Token) → ts ≡ t ∷ us → length ts ≤ most_tokens → length us ≤ most_tokens
fewer t ts us e few = omega (arith, few, ap length e)

pub expression_same : OneFront IsFront → (ts : List Token) (x y : Expr) → length ts ≤ most_tokens → IsExpression ts x → IsExpression ts y → x ≡ y
expression_same one ts x y few p q = (one ts x y (length ts) (length ts) few (expression_front ts x p) (expression_front ts y q)).0

pub primary_same : OneFront IsPrimaryFront → (ts : List Token) (x y : Expr) → length ts ≤ most_tokens → IsPrimary ts x → IsPrimary ts y → x ≡ y
primary_same one ts x y few p q = (one ts x y (length ts) (length ts) few (primary_front ts x p) (primary_front ts y q)).0

-- a primary and an expression behind a token
pub primary_parts_same : OneFront IsPrimaryFront → OneFront IsFront → (t u : Token) → EndsPrimary t → EndsPrimary u → (ts : List Token) (x x' y y' : Expr) → length ts ≤ most_tokens
    → IsParted t IsPrimary IsExpression ts x y → IsParted u IsPrimary IsExpression ts x' y' → (t ≡ u) × (x ≡ x') × (y ≡ y')
primary_parts_same one_primary one t u ends ends' ts x x' y y' few p q =
    let left =
    one_primary ts x x' (length p.left) (length q.left) few (primary_of_parted t ends IsExpression ts x y p) (primary_of_parted u ends' IsExpression ts x' y' q) in
    let right = tokens_same t u p.left p.right q.left q.right (sym p.split ∙ q.split) left.1 in
    let value = subst (λ (us : List Token). IsExpression us y) right.1 p.is_right in
    (right.0, left.0, expression_same one q.right y y' (omega (arith, few, parted_longer u IsPrimary IsExpression ts x' y' q)) value q.is_right)

-- two expressions with a token between
pub expression_parts_same : OneFront IsFront → (t : Token) → EndsExpression t → (ts : List Token) (x x' y y' : Expr) → length ts ≤ most_tokens
    → IsParted t IsExpression IsExpression ts x y → IsParted t IsExpression IsExpression ts x' y' → (x ≡ x') × (y ≡ y')
expression_parts_same one t ends ts x x' y y' few p q =
    let left =
    one ts x x' (length p.left) (length q.left) few (expression_of_parted t ends IsExpression ts x y p) (expression_of_parted t ends IsExpression ts x' y' q) in
    let right = tokens_same t t p.left p.right q.left q.right (sym p.split ∙ q.split) left.1 in
    let value = subst (λ (us : List Token). IsExpression us y) right.1 p.is_right in
    (left.0, expression_same one q.right y y' (omega (arith, few, parted_longer t IsExpression IsExpression ts x' y' q)) value q.is_right)

-- a primary isn't one with more behind it
no_longer : OneFront IsPrimaryFront → (t : Token) → EndsPrimary t → (ts : List Token) (x x' y' : Expr) → length ts ≤ most_tokens → IsPrimary ts x → IsParted t IsPrimary IsExpression ts x' y' → ⊥
no_longer one t ends ts x x' y' few p q =
    let same = one ts x x' (length ts) (length q.left) few (primary_front ts x p) (primary_of_parted t ends IsExpression ts x' y' q) in
    omega (arith, same.1, parted_longer t IsPrimary IsExpression ts x' y' q)

-- ASSIGNMENTS AND CALLS

pub assignment_same : OneFront IsPrimaryFront → OneFront IsFront → (c : Context) (ts : List Token) (x y x' y' : Expr) → length ts ≤ most_tokens
    → IsOtherItem c ts (item.Assignment x y) → IsOtherItem c ts (item.Assignment x' y') → item.Assignment x y ≡ item.Assignment x' y'
assignment_same one_primary one c ts x y x' y' few (none, p) (none', q) =
    let parts = primary_parts_same one_primary one equal equal (λ us. refl) (λ us. refl) ts x x' y y' few p q in
    ap (λ (z : Expr). item.Assignment z y) parts.1 ∙ ap (λ (z : Expr). item.Assignment x' z) parts.2

operator_same : (o o' : CompoundOperator) → token.Symbol (compound_sign o) ≡ token.Symbol (compound_sign o') → o ≡ o'
operator_same o o' e =
    let read : Some o ≡ Some o' = sym (compound_read o) ∙ ap (λ (t : Token). compound_there (Some t)) e ∙ compound_read o' in cc

pub compound_same : OneFront IsPrimaryFront → OneFront IsFront → (c : Context) (ts : List Token) (o o' : CompoundOperator) (x y x' y' : Expr) → length ts ≤ most_tokens
    → IsOtherItem c ts (item.CompoundAssignment o x y) → IsOtherItem c ts (item.CompoundAssignment o' x' y') → item.CompoundAssignment o x y ≡ item.CompoundAssignment o' x' y'
compound_same one_primary one c ts o o' x y x' y' few (none, p) (none', q) =
    let parts =
    primary_parts_same one_primary one (token.Symbol (compound_sign o)) (token.Symbol (compound_sign o')) (compound_ends o) (compound_ends o') ts x x' y y' few p q in
    ap (λ (r : CompoundOperator). item.CompoundAssignment r x y) (operator_same o o' parts.0)
    ∙ ap (λ (z : Expr). item.CompoundAssignment o' z y) parts.1 ∙ ap (λ (z : Expr). item.CompoundAssignment o' x' z) parts.2

pub assignment_no_compound : OneFront IsPrimaryFront → OneFront IsFront → (c : Context) (ts : List Token) (o : CompoundOperator) (x y x' y' : Expr) → length ts ≤ most_tokens
    → IsOtherItem c ts (item.Assignment x y) → IsOtherItem c ts (item.CompoundAssignment o x' y') → ⊥
assignment_no_compound one_primary one c ts o x y x' y' few (none, p) (none', q) =
    let parts = primary_parts_same one_primary one equal (token.Symbol (compound_sign o)) (λ us. refl) (compound_ends o) ts x x' y y' few p q in
    not_both (Some equal) o refl (ap (λ (t : Token). Some t) parts.0)

-- no primary begins with `Call`
no_call_token : (ts us : List Token) → ts ≡ reserved word.Call ∷ us → (t : Token) × (vs : List Token) × (ts ≡ t ∷ vs) × (begins_primary t ≡ true) → ⊥
no_call_token ts us e (t, vs, split, found) =
    let same : reserved word.Call ≡ t = cc in
    let none : begins_primary (reserved word.Call) ≡ true = ap begins_primary same ∙ found in cc

no_called : PrimaryBegins → (ts : List Token) (x : Expr) (n : ℕ) (P : List Token → Type 0) → IsPrimaryFront ts x n → Begins word.Call P ts → ⊥
no_called begins ts x n P p (us, split, q) = no_call_token ts us split (begins ts x n p)

pub invocation_same : PrimaryBegins → OneFront IsPrimaryFront → (c : Context) (ts : List Token) (x y : Expr) → length ts ≤ most_tokens
    → IsOtherItem c ts (item.Invocation x) → IsOtherItem c ts (item.Invocation y) → item.Invocation x ≡ item.Invocation y
invocation_same begins one c ts x y few (inl p) (inl q) = ap item.Invocation (primary_same one ts x y few p.1 q.1)
invocation_same begins one c ts x y few (inl p) (inr q) = absurd (no_called begins ts x (length ts) (λ us. IsPrimary us y) (primary_front ts x p.1) q)
invocation_same begins one c ts x y few (inr p) (inl q) = absurd (no_called begins ts y (length ts) (λ us. IsPrimary us x) (primary_front ts y q.1) p)
invocation_same begins one c ts x y few (inr (us, split, p)) (inr (vs, split', q)) =
    let rest : us ≡ vs = cc in
    let there = subst (λ (ws : List Token). IsPrimary ws x) rest p in
    ap item.Invocation (primary_same one vs x y (fewer (reserved word.Call) ts vs split' few) there q)

pub invocation_no_assignment : PrimaryBegins → OneFront IsPrimaryFront → (c : Context) (ts : List Token) (x x' y' : Expr) → length ts ≤ most_tokens
    → IsOtherItem c ts (item.Invocation x) → IsOtherItem c ts (item.Assignment x' y') → ⊥
invocation_no_assignment begins one c ts x x' y' few (inl p) (none, q) = no_longer one equal (λ us. refl) ts x x' y' few p.1 q
invocation_no_assignment begins one c ts x x' y' few (inr p) (none, q) =
    no_called begins ts x' (length q.left) (λ us. IsPrimary us x) (primary_of_parted equal (λ us. refl) IsExpression ts x' y' q) p

pub invocation_no_compound : PrimaryBegins → OneFront IsPrimaryFront → (c : Context) (ts : List Token) (o : CompoundOperator) (x x' y' : Expr) → length ts ≤ most_tokens
    → IsOtherItem c ts (item.Invocation x) → IsOtherItem c ts (item.CompoundAssignment o x' y') → ⊥
invocation_no_compound begins one c ts o x x' y' few (inl p) (none, q) = no_longer one (token.Symbol (compound_sign o)) (compound_ends o) ts x x' y' few p.1 q
invocation_no_compound begins one c ts o x x' y' few (inr p) (none, q) =
    no_called begins ts x' (length q.left) (λ us. IsPrimary us x)
    (primary_of_parted (token.Symbol (compound_sign o)) (compound_ends o) IsExpression ts x' y' q) p

-- AN EXPRESSION OR NONE

no_first : (ts : List Token) → ts ≡ [] → (t : Token) × (us : List Token) × (ts ≡ t ∷ us) × (begins_primary t ≡ true) → ⊥
no_first ts e (t, us, split, found) = cc

-- no expression is without tokens
spells_some : PrimaryBegins → {h w : ℕ} {ts : List Token} {x : Expr} → Spells h w ts x → ts ≡ [] → ⊥
spells_some begins {ts = ts} {x = x} (primary {edge = edge} p) e =
    no_first ts e (begins ts x (length ts) (primary_front ts x (record { edge = edge; spells = p })))
spells_some begins (prefix t o p s) e = cc
spells_some begins (binary {ts = ts} {us = us} t o p s s' q s″) e = omega (arith, ap length e, length-append ts (t ∷ us))

pub no_empty : PrimaryBegins → (x : Expr) → IsExpression [] x → ⊥
no_empty begins x p = spells_some begins p.spells refl

pub optional_same : PrimaryBegins → OneFront IsFront → (ts : List Token) (x y : Option Expr) → length ts ≤ most_tokens → IsOptional IsExpression ts x → IsOptional IsExpression ts y → x ≡ y
optional_same begins one ts None None few p q = refl
optional_same begins one ts None (Some y) few p q = absurd (no_empty begins y (subst (λ (us : List Token). IsExpression us y) p q))
optional_same begins one ts (Some x) None few p q = absurd (no_empty begins x (subst (λ (us : List Token). IsExpression us x) q p))
optional_same begins one ts (Some x) (Some y) few p q = ap (λ (z : Expr). Some z) (expression_same one ts x y few p q)

pub throw_same : PrimaryBegins → OneFront IsFront → (c : Context) (ts : List Token) (x y : Option Expr) → length ts ≤ most_tokens
    → IsOtherItem c ts (item.Throw x) → IsOtherItem c ts (item.Throw y) → item.Throw x ≡ item.Throw y
throw_same begins one c ts x y few (us, split, p) (vs, split', q) =
    let rest : us ≡ vs = cc in
    let there = subst (λ (ws : List Token). IsOptional IsExpression ws x) rest p in
    ap item.Throw (optional_same begins one vs x y (fewer (reserved word.Throw) ts vs split' few) there q)

pub return_same : PrimaryBegins → OneFront IsFront → (c : Context) (ts : List Token) (x y : Option Expr) → length ts ≤ most_tokens
    → IsOtherItem c ts (item.Return x) → IsOtherItem c ts (item.Return y) → item.Return x ≡ item.Return y
return_same begins one c ts x y few (us, split, p) (vs, split', q) =
    let rest : us ≡ vs = cc in
    let there = subst (λ (ws : List Token). IsOptional IsExpression ws x) rest p in
    ap item.Return (optional_same begins one vs x y (fewer (reserved word.Return) ts vs split' few) there q)

pub yield_same : OneFront IsFront → (c : Context) (ts : List Token) (x y : Expr) → length ts ≤ most_tokens
    → IsOtherItem c ts (item.Yield x) → IsOtherItem c ts (item.Yield y) → item.Yield x ≡ item.Yield y
yield_same one c ts x y few (inside, (us, split, p)) (inside', (vs, split', q)) =
    let rest : us ≡ vs = cc in
    let there = subst (λ (ws : List Token). IsExpression ws x) rest p in
    ap item.Yield (expression_same one vs x y (fewer (token.Name c.words.yields) ts vs split' few) there q)

-- TWO EXPRESSIONS

pub add_handler_same : OneFront IsFront → (c : Context) (ts : List Token) (x y x' y' : Expr) → length ts ≤ most_tokens
    → IsOtherItem c ts (item.AddHandler x y) → IsOtherItem c ts (item.AddHandler x' y') → item.AddHandler x y ≡ item.AddHandler x' y'
add_handler_same one c ts x y x' y' few (us, split, p) (vs, split', q) =
    let rest : us ≡ vs = cc in
    let there = subst (λ (ws : List Token). IsParted comma IsExpression IsExpression ws x y) rest p in
    let parts = expression_parts_same one comma (λ ws. refl) vs x x' y y' (fewer (reserved word.AddHandler) ts vs split' few) there q in
    ap (λ (z : Expr). item.AddHandler z y) parts.0 ∙ ap (λ (z : Expr). item.AddHandler x' z) parts.1

pub remove_handler_same : OneFront IsFront → (c : Context) (ts : List Token) (x y x' y' : Expr) → length ts ≤ most_tokens
    → IsOtherItem c ts (item.RemoveHandler x y) → IsOtherItem c ts (item.RemoveHandler x' y') → item.RemoveHandler x y ≡ item.RemoveHandler x' y'
remove_handler_same one c ts x y x' y' few (us, split, p) (vs, split', q) =
    let rest : us ≡ vs = cc in
    let there = subst (λ (ws : List Token). IsParted comma IsExpression IsExpression ws x y) rest p in
    let parts = expression_parts_same one comma (λ ws. refl) vs x x' y y' (fewer (reserved word.RemoveHandler) ts vs split' few) there q in
    ap (λ (z : Expr). item.RemoveHandler z y) parts.0 ∙ ap (λ (z : Expr). item.RemoveHandler x' z) parts.1

-- EVENTS

call_opened : (f : Expr) (xs : List Expr) → out-Expr (e.Invocation f xs) ≡ Expr-F.Invocation f xs
call_opened f xs = ap out-Expr (sym (rolls-Invocation f xs)) ∙ out-roll-Expr (Expr-F.Invocation f xs)

call_parts : (f g : Expr) (xs ys : List Expr) → e.Invocation f xs ≡ e.Invocation g ys → (f ≡ g) × (xs ≡ ys)
call_parts f g xs ys same =
    let layer : Expr-F.Invocation f xs ≡ Expr-F.Invocation g ys = sym (call_opened f xs) ∙ ap out-Expr same ∙ call_opened g ys in (cc, cc)

raised_same : OneFront IsPrimaryFront → (ts : List Token) (n m : Name) (xs ys : List Expr) → length ts ≤ most_tokens → IsRaised ts n xs → IsRaised ts m ys → (n ≡ m) × (xs ≡ ys)
raised_same one ts n m xs ys few (inl p) (inl q) =
    let same = primary_same one ts (e.Invocation (e.SimpleName n []) xs) (e.Invocation (e.SimpleName m []) ys) few p q in
    let parts = call_parts (e.SimpleName n []) (e.SimpleName m []) xs ys same in
    let name : e.SimpleName n [] ≡ e.SimpleName m [] = parts.0 in
    (cc, parts.1)
raised_same one ts n m xs ys few (inl p) (inr q) =
    let same = primary_same one ts (e.Invocation (e.SimpleName n []) xs) (e.SimpleName m []) few p q.0 in
    absurd cc
raised_same one ts n m xs ys few (inr p) (inl q) =
    let same = primary_same one ts (e.SimpleName n []) (e.Invocation (e.SimpleName m []) ys) few p.0 q in
    absurd cc
raised_same one ts n m xs ys few (inr p) (inr q) =
    let same = primary_same one ts (e.SimpleName n []) (e.SimpleName m []) few p.0 q.0 in
    (cc, p.1 ∙ sym q.1)

pub raise_event_same : OneFront IsPrimaryFront → (c : Context) (ts : List Token) (n m : Name) (xs ys : List Expr) → length ts ≤ most_tokens
    → IsOtherItem c ts (item.RaiseEvent n xs) → IsOtherItem c ts (item.RaiseEvent m ys) → item.RaiseEvent n xs ≡ item.RaiseEvent m ys
raise_event_same one c ts n m xs ys few (us, split, p) (vs, split', q) =
    let rest : us ≡ vs = cc in
    let there = subst (λ (ws : List Token). IsRaised ws n xs) rest p in
    let parts = raised_same one vs n m xs ys (fewer (reserved word.RaiseEvent) ts vs split' few) there q in
    ap (λ (k : Name). item.RaiseEvent k xs) parts.0 ∙ ap (λ (zs : List Expr). item.RaiseEvent m zs) parts.1
