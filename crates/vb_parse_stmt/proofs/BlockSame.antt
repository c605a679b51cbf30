-- Two readings of a block's line as an item of one form are the same.
use Rattle.std.proofs.Common.{◌≡◌, inl, inr, ◌≤◌, List, [], ◌∷◌, ◌++◌, length, Option, Some, None, refl, ap, subst, ◌∙◌, arith, length-append}
use Rattle.vb_text.specs.declared.names.Name.{Name}
use Rattle.vb_syntax.specs.declared.{keyword.Keyword.Keyword, tokens.Token.Token, expression.Expr.Expr, statement.{LoopCondition.LoopCondition, LoopControlVariable.LoopControlVariable, CatchVariable.CatchVariable}, words.{ContextualWords.ContextualWords, Context.Context}}
use Rattle.vb_syntax.specs.declared.keyword.Keyword.TheVariants as word
use Rattle.vb_syntax.specs.declared.statement.LoopCondition.TheVariants as condition
use Rattle.vb_syntax.specs.declared.item.Item.TheVariants as item
use Rattle.vb_parse_expr.specs.{Words.name_of, Types.IsTypeFront, Fronts.IsFront, TypeReading.most_tokens}
use Rattle.vb_parse_decl.specs.Parts.{reserved, equal, IsExpression, IsOptional, Begins}
use Rattle.vb_parse_stmt.specs.{Statements.{IsTest, IsCondition, IsVariable, IsLimit, IsRange, IsCatchVariable}, Items.IsOtherItem, BlockParts.{IsVariableFront, IsCatchVariableFront, IsCounted, IsEach, IsCaughtPair}}
use Rattle.vb_parse_decl.proofs.{Wholes.expression_front, Refusals.OneFront}
use Rattle.vb_parse_stmt.proofs.{BlockBegins.{PrimaryBegins, begins_not}, BlockParted.{OneWhole, parted_same, no_whole_parted}, BranchRefusals.test_before, LoopVariables.{variable_one, catch_variable_one, name_same}, LoopRefusals.{expression_ended, variable_in, variable_equal}, GuardRefusals.{variable_when, catch_variable_front}}

-- PARTS

pub behind_same : {X : Type 0} (w : Keyword) (P : List Token → X → Type 0) → OneWhole P → (ts : List Token) (x y : X) → length ts ≤ most_tokens
    → Begins w (λ us. P us x) ts → Begins w (λ us. P us y) ts → x ≡ y
behind_same {X} w P one ts x y few (us, split, p) (vs, split', q) =
    let rest : us ≡ vs = cc in one vs x y (omega (arith, few, ap length split')) (subst (λ (ws : List Token). P ws x) rest p) q

pub expression_same : OneFront IsFront → OneWhole IsExpression
expression_same one ts x y few p q = (one ts x y (length ts) (length ts) few (expression_front ts x p) (expression_front ts y q)).0

pub test_same : OneFront IsFront → OneWhole IsTest
test_same one ts x y few (inl p) (inl q) = expression_same one ts x y few p q
test_same one ts x y few (inl p) (inr (vs, split, q)) = (one ts x y (length ts) (length vs) few (expression_front ts x p) (test_before ts vs y split q)).0
test_same one ts x y few (inr (us, split, p)) (inl q) = (one ts x y (length us) (length ts) few (test_before ts us x split p) (expression_front ts y q)).0
test_same one ts x y few (inr (us, split, p)) (inr (vs, split', q)) =
    (one ts x y (length us) (length vs) few (test_before ts us x split p) (test_before ts vs y split' q)).0

condition_same : OneFront IsFront → (words : ContextualWords) → OneWhole (IsCondition words)
condition_same one words ts (condition.While x) (condition.While y) few p q =
    ap (λ (z : Expr). condition.While z) (behind_same word.While IsExpression (expression_same one) ts x y few p q)
condition_same one words ts (condition.Until x) (condition.Until y) few (us, split, p) (vs, split', q) =
    let rest : us ≡ vs = cc in
    ap (λ (z : Expr). condition.Until z)
    (expression_same one vs x y (omega (arith, few, ap length split')) (subst (λ (ws : List Token). IsExpression ws x) rest p) q)
condition_same one words ts (condition.While x) (condition.Until y) few (us, split, p) (vs, split', q) = absurd cc
condition_same one words ts (condition.Until x) (condition.While y) few (us, split, p) (vs, split', q) = absurd cc

condition_some : (words : ContextualWords) (ts : List Token) (t : LoopCondition) → ts ≡ [] → IsCondition words ts t → ⊥
condition_some words ts (condition.While x) e (us, split, p) = cc
condition_some words ts (condition.Until x) e (us, split, p) = cc

pub optional_condition_same : OneFront IsFront → (words : ContextualWords) → OneWhole (IsOptional (IsCondition words))
optional_condition_same one words ts None None few p q = refl
optional_condition_same one words ts (Some t) (Some u) few p q = ap (λ (v : LoopCondition). Some v) (condition_same one words ts t u few p q)
optional_condition_same one words ts None (Some u) few p q = absurd (condition_some words ts u p q)
optional_condition_same one words ts (Some t) None few p q = absurd (condition_some words ts t q p)

limit_same : OneFront IsFront → OneWhole IsLimit
limit_same one ts (x, None) (y, None) few p q = ap (λ (z : Expr). (z, None)) (expression_same one ts x y few p q)
limit_same one ts (x, Some s) (y, Some r) few p q =
    let both = parted_same (reserved word.Step) IsExpression IsExpression IsFront (expression_ended (reserved word.Step) (λ us. refl)) one (expression_same one) ts x y s r few p q in
    cc (both.0, both.1)
limit_same one ts (x, None) (y, Some r) few p q =
    absurd (no_whole_parted (reserved word.Step) IsExpression IsExpression IsFront (expression_ended (reserved word.Step) (λ us. refl)) one ts x y r few
    (expression_front ts x p) q)
limit_same one ts (x, Some s) (y, None) few p q =
    absurd (no_whole_parted (reserved word.Step) IsExpression IsExpression IsFront (expression_ended (reserved word.Step) (λ us. refl)) one ts y x s few
    (expression_front ts y q) p)

range_same : OneFront IsFront → (ts : List Token) (a a' : Expr) (l l' : Expr × Option Expr) → length ts ≤ most_tokens → IsRange ts (a, l) → IsRange ts (a', l')
    → (a ≡ a') × (l ≡ l')
range_same one ts a a' l l' few p q =
    parted_same (reserved word.To) IsExpression IsLimit IsFront (expression_ended (reserved word.To) (λ us. refl)) one (limit_same one) ts a a' l l' few p q

pub pair_same : {X Y : Type 0} (p q : X × Y) → (p.0 ≡ q.0) × (p.1 ≡ q.1) → p ≡ q
pair_same {X} {Y} p q (e, f) = λ i. (e i, f i)

pub range_whole : OneFront IsFront → OneWhole IsRange
range_whole one ts r r' few p q = pair_same r r' (range_same one ts r.0 r'.0 r.1 r'.1 few p q)

pub counted_same : OneFront IsFront → OneFront IsTypeFront → OneWhole IsCounted
counted_same one types ts r r' few p q =
    pair_same r r' (parted_same equal IsVariable IsRange IsVariableFront variable_equal (variable_one types) (range_whole one) ts r.0 r'.0 r.1 r'.1 few p q)

pub each_same : OneFront IsFront → OneFront IsTypeFront → OneWhole IsEach
each_same one types ts r r' few p q =
    pair_same r r' (parted_same (reserved word.In) IsVariable IsExpression IsVariableFront variable_in (variable_one types) (expression_same one) ts r.0 r'.0 r.1 r'.1 few p q)

-- CATCH

variable_not : (t : Token) → name_of t ≡ None → (us : List Token) (v : CatchVariable) → IsCatchVariable (t ∷ us) v → ⊥
variable_not t other us v (u, vs, split, named, p) =
    let first : u ≡ t = cc in let told : name_of u ≡ None = ap name_of first ∙ other in cc

variable_some : (ts : List Token) (v : CatchVariable) → ts ≡ [] → IsCatchVariable ts v → ⊥
variable_some ts v e (u, vs, split, named, p) = cc

parted_some : (ts : List Token) (v : CatchVariable) (x : Expr) → ts ≡ [] → IsCaughtPair ts (Some v, Some x) → ⊥
parted_some ts v x e p = omega (arith, ap length e, ap length p.split, length-append p.left (reserved word.When ∷ p.right))

when_parted : (ts us : List Token) (v : CatchVariable) (x : Expr) → ts ≡ reserved word.When ∷ us → IsCaughtPair ts (Some v, Some x) → ⊥
when_parted ts us v x here p =
    let name = p.is_left in
    let whole : ts ≡ name.0 ∷ (name.1 ++ reserved word.When ∷ p.right) = p.split ∙ ap (λ (vs : List Token). vs ++ reserved word.When ∷ p.right) name.2 in
    let first : name.0 ≡ reserved word.When = cc (whole, here) in
    let told : name_of name.0 ≡ None = ap name_of first in cc (told, name.3)

pub caught_same : OneFront IsFront → OneFront IsTypeFront → OneWhole IsCaughtPair
caught_same one types ts (None, None) (None, None) few p q = refl
caught_same one types ts (None, None) (None, Some y) few p (us, split, q) = absurd cc
caught_same one types ts (None, None) (Some w, None) few p q = absurd (variable_some ts w p q)
caught_same one types ts (None, None) (Some w, Some y) few p q = absurd (parted_some ts w y p q)
caught_same one types ts (None, Some x) (None, None) few (us, split, p) q = absurd cc
caught_same one types ts (None, Some x) (None, Some y) few p q =
    ap (λ (z : Expr). (None, Some z)) (behind_same word.When IsExpression (expression_same one) ts x y few p q)
caught_same one types ts (None, Some x) (Some w, None) few (us, split, p) q =
    absurd (variable_not (reserved word.When) refl us w (subst (λ (vs : List Token). IsCatchVariable vs w) split q))
caught_same one types ts (None, Some x) (Some w, Some y) few (us, split, p) q = absurd (when_parted ts us w y split q)
caught_same one types ts (Some v, None) (None, None) few p q = absurd (variable_some ts v q p)
caught_same one types ts (Some v, None) (None, Some y) few p (us, split, q) =
    absurd (variable_not (reserved word.When) refl us v (subst (λ (vs : List Token). IsCatchVariable vs v) split p))
caught_same one types ts (Some v, None) (Some w, None) few p q =
    ap (λ (z : CatchVariable). (Some z, None))
    (catch_variable_one types ts v w (length ts) (length ts) few (catch_variable_front ts v p) (catch_variable_front ts w q)).0
caught_same one types ts (Some v, None) (Some w, Some y) few p q =
    absurd (no_whole_parted (reserved word.When) IsCatchVariable IsExpression IsCatchVariableFront variable_when (catch_variable_one types) ts v w y few
    (catch_variable_front ts v p) q)
caught_same one types ts (Some v, Some x) (None, None) few p q = absurd (parted_some ts v x q p)
caught_same one types ts (Some v, Some x) (None, Some y) few p (us, split, q) = absurd (when_parted ts us v x split p)
caught_same one types ts (Some v, Some x) (Some w, None) few p q =
    absurd (no_whole_parted (reserved word.When) IsCatchVariable IsExpression IsCatchVariableFront variable_when (catch_variable_one types) ts w v x few
    (catch_variable_front ts w q) p)
caught_same one types ts (Some v, Some x) (Some w, Some y) few p q =
    let both = parted_same (reserved word.When) IsCatchVariable IsExpression IsCatchVariableFront variable_when (catch_variable_one types) (expression_same one)
    ts v w x y few p q in
    cc (both.0, both.1)

-- ITEMS

pub if_same : OneFront IsFront → (c : Context) (ts : List Token) (x y : Expr) → length ts ≤ most_tokens → IsOtherItem c ts (item.If x) → IsOtherItem c ts (item.If y) → x ≡ y
if_same one c ts x y few p q = behind_same word.If IsTest (test_same one) ts x y few p q

pub else_if_same : OneFront IsFront → (c : Context) (ts : List Token) (x y : Expr) → length ts ≤ most_tokens → IsOtherItem c ts (item.ElseIf x) → IsOtherItem c ts (item.ElseIf y) → x ≡ y
else_if_same one c ts x y few p q = behind_same word.ElseIf IsTest (test_same one) ts x y few p q

pub while_same : OneFront IsFront → (c : Context) (ts : List Token) (x y : Expr) → length ts ≤ most_tokens → IsOtherItem c ts (item.While x) → IsOtherItem c ts (item.While y) → x ≡ y
while_same one c ts x y few p q = behind_same word.While IsExpression (expression_same one) ts x y few p q

pub sync_lock_same : OneFront IsFront → (c : Context) (ts : List Token) (x y : Expr) → length ts ≤ most_tokens → IsOtherItem c ts (item.SyncLock x) → IsOtherItem c ts (item.SyncLock y)
    → x ≡ y
sync_lock_same one c ts x y few p q = behind_same word.SyncLock IsExpression (expression_same one) ts x y few p q

pub with_same : OneFront IsFront → (c : Context) (ts : List Token) (x y : Expr) → length ts ≤ most_tokens → IsOtherItem c ts (item.With x) → IsOtherItem c ts (item.With y) → x ≡ y
with_same one c ts x y few p q = behind_same word.With IsExpression (expression_same one) ts x y few p q

pub do_same : OneFront IsFront → (c : Context) (ts : List Token) (x y : Option LoopCondition) → length ts ≤ most_tokens → IsOtherItem c ts (item.Do x) → IsOtherItem c ts (item.Do y)
    → x ≡ y
do_same one c ts x y few p q = behind_same word.Do (IsOptional (IsCondition c.words)) (optional_condition_same one c.words) ts x y few p q

pub loop_same : OneFront IsFront → (c : Context) (ts : List Token) (x y : Option LoopCondition) → length ts ≤ most_tokens → IsOtherItem c ts (item.Loop x) → IsOtherItem c ts (item.Loop y)
    → x ≡ y
loop_same one c ts x y few p q = behind_same word.Loop (IsOptional (IsCondition c.words)) (optional_condition_same one c.words) ts x y few p q

pub for_same : OneFront IsFront → OneFront IsTypeFront → (c : Context) (ts : List Token) (v w : LoopControlVariable) (a a' b b' : Expr) (s s' : Option Expr)
    → length ts ≤ most_tokens → IsOtherItem c ts (item.For v a b s) → IsOtherItem c ts (item.For w a' b' s') → item.For v a b s ≡ item.For w a' b' s'
for_same one types c ts v w a a' b b' s s' few p q =
    let both = behind_same word.For IsCounted (counted_same one types) ts (v, (a, (b, s))) (w, (a', (b', s'))) few p q in
    ap (λ (r : LoopControlVariable × (Expr × (Expr × Option Expr))). item.For r.0 r.1.0 r.1.1.0 r.1.1.1) both

pub for_each_same : OneFront IsFront → OneFront IsTypeFront → (c : Context) (ts : List Token) (v w : LoopControlVariable) (x y : Expr)
    → length ts ≤ most_tokens → IsOtherItem c ts (item.ForEach v x) → IsOtherItem c ts (item.ForEach w y) → item.ForEach v x ≡ item.ForEach w y
for_each_same one types c ts v w x y few (us, split, p) (vs, split', q) =
    let rest : us ≡ vs = cc in
    let there = subst (λ (ws : List Token). Begins word.Each (λ xs. IsEach xs (v, x)) ws) rest p in
    ap (λ (r : LoopControlVariable × Expr). item.ForEach r.0 r.1)
    (behind_same word.Each IsEach (each_same one types) vs (v, x) (w, y) (omega (arith, few, ap length split')) there q)

-- a `For` is no `For Each`
pub for_not_each : (c : Context) (ts : List Token) (v w : LoopControlVariable) (a b y : Expr) (s : Option Expr) → IsOtherItem c ts (item.For v a b s) → IsOtherItem c ts (item.ForEach w y) → ⊥
for_not_each c ts v w a b y s (us, split, p) (vs, split', (ws, split″, q)) =
    let name = p.is_left in
    let whole : us ≡ name.0 ∷ (name.1 ++ equal ∷ p.right) = p.split ∙ ap (λ (xs : List Token). xs ++ equal ∷ p.right) name.2 in
    let there : us ≡ reserved word.Each ∷ ws = cc in
    let first : name.0 ≡ reserved word.Each = cc (whole, there) in
    let told : name_of name.0 ≡ None = ap name_of first in cc (told, name.3)

pub next_same : (c : Context) (ts : List Token) (n m : Option Name) → IsOtherItem c ts (item.Next n) → IsOtherItem c ts (item.Next m) → n ≡ m
next_same c ts None None p q = refl
next_same c ts None (Some m) p (us, split, (t, split', named)) = absurd cc
next_same c ts (Some n) None (us, split, (t, split', named)) q = absurd cc
next_same c ts (Some n) (Some m) (us, split, (t, split', named)) (vs, split″, (u, split‴, named')) =
    let first : t ≡ u = cc in ap (λ (k : Name). Some k) (name_same t u n m first named named')

pub select_same : OneFront IsFront → PrimaryBegins → (c : Context) (ts : List Token) (x y : Expr) → length ts ≤ most_tokens → IsOtherItem c ts (item.Select x)
    → IsOtherItem c ts (item.Select y) → x ≡ y
select_same one begins c ts x y few (us, split, inl p) (vs, split', inl q) =
    behind_same word.Select IsExpression (expression_same one) ts x y few (us, split, p) (vs, split', q)
select_same one begins c ts x y few (us, split, inr (us', split″, p)) (vs, split', inr (vs', split‴, q)) =
    let rest : us' ≡ vs' = cc in
    expression_same one vs' x y (omega (arith, few, ap length split', ap length split‴)) (subst (λ (ws : List Token). IsExpression ws x) rest p) q
select_same one begins c ts x y few (us, split, inl p) (vs, split', inr (vs', split‴, q)) =
    let there : us ≡ reserved word.Case ∷ vs' = cc in
    absurd (begins_not begins (reserved word.Case) refl vs' x (subst (λ (ws : List Token). IsExpression ws x) there p))
select_same one begins c ts x y few (us, split, inr (us', split″, p)) (vs, split', inl q) =
    let there : vs ≡ reserved word.Case ∷ us' = cc in
    absurd (begins_not begins (reserved word.Case) refl us' y (subst (λ (ws : List Token). IsExpression ws y) there q))

pub catch_same : OneFront IsFront → OneFront IsTypeFront → (c : Context) (ts : List Token) (v w : Option CatchVariable) (x y : Option Expr) → length ts ≤ most_tokens
    → IsOtherItem c ts (item.Catch v x) → IsOtherItem c ts (item.Catch w y) → item.Catch v x ≡ item.Catch w y
catch_same one types c ts v w x y few p q =
    ap (λ (r : Option CatchVariable × Option Expr). item.Catch r.0 r.1) (behind_same word.Catch IsCaughtPair (caught_same one types) ts (v, x) (w, y) few p q)
