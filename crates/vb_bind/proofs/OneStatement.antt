-- A statement that is read is one of the grammar, and a statement of the grammar is read.
use Rattle.std.proofs.Common.{◌≡◌, inl, inr, ℕ, zero, suc, ◌+◌, ◌<◌, Bool, true, List, [], ◌∷◌, length, Option, Some, None, refl, sym, ap, subst, ◌∙◌, arith}
use Rattle.std.specs.Prelude.{if◌then◌else◌, ◌&&◌, slice_get, unwrap_or}
use Rattle.vb_text.specs.declared.names.Name.{Name}
use Rattle.vb_syntax.specs.declared.tokens.IntegerType.TheVariants as kind
use Rattle.vb_syntax.specs.declared.{expression.{RelationalOperator.RelationalOperator, BinaryOperator.BinaryOperator, Expr.{Expr as SyntaxExpr, out-Expr, TheOpen.Expr-F, TheVariants.{outs-SimpleName, outs-Integer, outs-Binary, outs-Invocation, outs-MemberAccess}}}, statement.StatementForm.StatementForm}
use Rattle.vb_syntax.specs.declared.expression.RelationalOperator.TheVariants as relational
use Rattle.vb_syntax.specs.declared.expression.BinaryOperator.TheVariants as binary
use Rattle.vb_syntax.specs.declared.expression.Expr.TheVariants as tree
use Rattle.vb_syntax.specs.declared.statement.StatementForm.TheVariants as form
use Rattle.vb_bound.specs.{declared.tree.{LocalId.LocalId, Operand.{Operand, TheVariants.{Local, Number}}, Operator.{Operator, TheVariants.{Add, Sub, Mul}}, Relation.{Relation, TheVariants.{Equal, NotEqual, Less, LessOrEqual, Greater, GreaterOrEqual}}, Expr.{Expr, TheVariants.{One, Two}}, Condition.Condition, Statement.{Statement, TheVariants.{Assign, WriteLine}}, Line.TheVariants.Does}, Tree.{IsOperandOf, IsExprOf, IsStatementOf}}
use Rattle.vb_bind.specs.{declared.names.KnownNames.KnownNames, Grammar.{name_at, operand_tree, binary_of, relation_of, expr_tree, statement_form, test_tree, IsIn, AreDistinctNames, AreMixed, IsMixedExpr, IsMixedLine, IsFit, IsFitExpr, IsFitLine}, Parsing.{and_then, Layer, named, is_name_tree, same_name, number_read, local_from, local_read, operand_read, operator_read, relation_from, relation_read, are_mixed, two_operands, condition_operands, two_read, condition_read, expr_at, expr_read, assign_read, is_write_line_at, is_write_line, argument_read, write_at, write_read, statement_read, test_at, test_read}}
use Rattle.vb_bind.proofs.Trees.{by_test, then_is, if_is, and_is, same_is, same_self, is_same, others, named_is, name_is, binary_is, call_is, member_is, number_is, integer_made}

-- no operator has two numbers, and each number is an Integer
abbrev pub IsGoodExpr : Expr → Type 0
IsGoodExpr e = IsMixedExpr e × IsFitExpr e

abbrev pub IsGoodStatement : Statement → Type 0
IsGoodStatement s = IsMixedLine (Does s) × IsFitLine (Does s)

-- READ AND SO OF THE GRAMMAR

pub local_sound : (i : ℕ) (ns : List Name) (s : Name) (x : LocalId) → local_from i ns s ≡ Some x → (k : ℕ) × (x.0 ≡ i + k) × (slice_get ns k ≡ Some s)
local_sound i [] s x e = absurd cc
local_sound i (n ∷ ns) s x e =
    by_test (same_name n s) _
    (λ h. let here : ◌≡◌ {A = Option LocalId} (Some (record { 0 = i })) (Some x) = rw h at e in let same : ◌≡◌ {A = LocalId} (record { 0 = i }) x = cc in let is : i ≡ x.0 = ap (λ (y : LocalId). y.0) same in (0, omega (arith, is), ap (λ y. Some y) (same_is n s h)))
    (λ h. let more = local_sound (i + 1) ns s x (rw h at e) in (suc more.0, omega (arith, more.1), more.2))

pub named_sound : (names : List Name) (t : SyntaxExpr) (x : LocalId) → local_read names t ≡ Some x → t ≡ operand_tree names (Local x)
named_sound names t x e =
    let n = then_is (named t) (λ n. local_from 0 names n) x e in
    let found = local_sound 0 names n.0 x n.2 in
    let is : x.0 ≡ found.0 = omega (arith, found.1) in
    let got : slice_get names x.0 ≡ Some n.0 = ap (λ k. slice_get names k) is ∙ found.2 in
    named_is t n.0 n.1 ∙ ap (λ o. tree.SimpleName (unwrap_or o (record { index = 0 })) []) (sym got)

number_sound : (names : List Name) (t : SyntaxExpr) (p : Operand) → and_then (number_read t) (λ v. Some (Number v)) ≡ Some p → (t ≡ operand_tree names p) × IsFit p
number_sound names t p e =
    let v = then_is (number_read t) (λ v. Some (Number v)) p e in
    let is : Number v.0 ≡ p = let m = v.2 in cc in
    let n = number_is t v.0 v.1 in
    (n.0 ∙ ap (λ q. operand_tree names q) is, subst (λ q. IsFit q) is n.1)

pub operand_sound : (names : List Name) (t : SyntaxExpr) (p : Operand) → operand_read names t ≡ Some p → (t ≡ operand_tree names p) × IsFit p
operand_sound names (tree.SimpleName s []) p e =
    let x = then_is (local_from 0 names s) (λ x. Some (Local x)) p e in
    let is : Local x.0 ≡ p = let m = x.2 in cc in
    (named_sound names (tree.SimpleName s []) x.0 x.1 ∙ ap (λ q. operand_tree names q) is, subst (λ q. IsFit q) is tt)
operand_sound names t p e = number_sound names t p e

pub operator_sound : (t : BinaryOperator) (o : Operator) → operator_read t ≡ Some o → t ≡ binary_of o
operator_sound binary.Add o e = let is : Add ≡ o = cc in ap binary_of is
operator_sound binary.Subtract o e = let is : Sub ≡ o = cc in ap binary_of is
operator_sound binary.Multiply o e = let is : Mul ≡ o = cc in ap binary_of is
operator_sound t o e = absurd cc

relation_back : (k : RelationalOperator) → k ≡ relation_of (relation_from k)
relation_back relational.Equal = refl
relation_back relational.NotEqual = refl
relation_back relational.Less = refl
relation_back relational.LessOrEqual = refl
relation_back relational.Greater = refl
relation_back relational.GreaterOrEqual = refl

pub relation_sound : (t : BinaryOperator) (r : Relation) → relation_read t ≡ Some r → t ≡ binary.Relational (relation_of r)
relation_sound (binary.Relational k) r e = let is : relation_from k ≡ r = cc in ap (λ x. binary.Relational x) (relation_back k ∙ ap relation_of is)
relation_sound t r e = absurd cc

pub mixed_is : (a b : Operand) → are_mixed a b ≡ true → AreMixed a b
mixed_is (Number v) (Number w) e = absurd cc
mixed_is (Number v) (Local x) e = tt
mixed_is (Local x) q e = tt

pub two_is : (a : Operand) (o : Operator) (b : Operand) (e : Expr) → IsFit a → IsFit b → two_operands a o b ≡ Some e → (Two a o b ≡ e) × IsGoodExpr e
two_is a o b e f g h =
    let k = if_is (are_mixed a b) (Some (Two a o b)) e h in
    let is : Two a o b ≡ e = let m = k.1 in cc in
    (is, subst (λ y. IsGoodExpr y) is (mixed_is a b k.0, (f, g)))

pub two_sound : (names : List Name) (p : SyntaxExpr) (o : BinaryOperator) (q : SyntaxExpr) (e : Expr) → two_read names p o q ≡ Some e → (tree.Binary o p q ≡ expr_tree names e) × IsGoodExpr e
two_sound names p o q e h =
    let a = then_is (operand_read names p) _ e h in
    let f = then_is (operator_read o) _ e a.2 in
    let b = then_is (operand_read names q) _ e f.2 in
    let one = operand_sound names p a.0 a.1 in
    let mid = operator_sound o f.0 f.1 in
    let two = operand_sound names q b.0 b.1 in
    let is = two_is a.0 f.0 b.0 e one.1 two.1 b.2 in
    (ap (λ x. tree.Binary o x q) one.0 ∙ ap (λ x. tree.Binary x (operand_tree names a.0) q) mid ∙ ap (λ x. tree.Binary (binary_of f.0) (operand_tree names a.0) x) two.0 ∙ ap (λ x. expr_tree names x) is.0, is.1)

abbrev pub IsGoodTest : Condition → Type 0
IsGoodTest c = AreMixed c.left c.right × (IsFit c.left × IsFit c.right)

pub condition_is : (a : Operand) (r : Relation) (b : Operand) (c : Condition) → IsFit a → IsFit b → condition_operands a r b ≡ Some c → (◌≡◌ {A = Condition} (record { left = a; relation = r; right = b }) c) × IsGoodTest c
condition_is a r b c f g h =
    let k = if_is (are_mixed a b) (Some (record { left = a; relation = r; right = b })) c h in
    let is : ◌≡◌ {A = Condition} (record { left = a; relation = r; right = b }) c = let m = k.1 in cc in
    (is, subst (λ (y : Condition). IsGoodTest y) is (mixed_is a b k.0, (f, g)))

pub condition_sound : (names : List Name) (p : SyntaxExpr) (o : BinaryOperator) (q : SyntaxExpr) (c : Condition) → condition_read names p o q ≡ Some c → (tree.Binary o p q ≡ test_tree names c) × IsGoodTest c
condition_sound names p o q c h =
    let a = then_is (operand_read names p) _ c h in
    let f = then_is (relation_read o) _ c a.2 in
    let b = then_is (operand_read names q) _ c f.2 in
    let one = operand_sound names p a.0 a.1 in
    let mid = relation_sound o f.0 f.1 in
    let two = operand_sound names q b.0 b.1 in
    let is = condition_is a.0 f.0 b.0 c one.1 two.1 b.2 in
    (ap (λ x. tree.Binary o x q) one.0 ∙ ap (λ x. tree.Binary x (operand_tree names a.0) q) mid ∙ ap (λ x. tree.Binary (binary.Relational (relation_of f.0)) (operand_tree names a.0) x) two.0 ∙ ap (λ (x : Condition). test_tree names x) is.0, is.1)

pub one_sound : (names : List Name) (p : SyntaxExpr) (e : Expr) → and_then (operand_read names p) (λ a. Some (One a)) ≡ Some e → (p ≡ expr_tree names e) × IsGoodExpr e
one_sound names p e h =
    let a = then_is (operand_read names p) (λ a. Some (One a)) e h in
    let is : One a.0 ≡ e = let k = a.2 in cc in
    let one = operand_sound names p a.0 a.1 in
    (one.0 ∙ ap (λ x. expr_tree names x) is, subst (λ y. IsGoodExpr y) is (tt, one.1))

pub expr_sound : (names : List Name) (x : SyntaxExpr) (e : Expr) → expr_read names x ≡ Some e → (x ≡ expr_tree names e) × IsGoodExpr e
expr_sound names x e h = by_layer (out-Expr x) refl h
  where
    by_layer : (l : Layer) → out-Expr x ≡ l → expr_at names x l ≡ Some e → (x ≡ expr_tree names e) × IsGoodExpr e
    by_layer (Expr-F.Binary o p q) is k = let two = two_sound names p o q e k in (binary_is x o p q is ∙ two.0, two.1)
    by_layer l is k = one_sound names x e k

assign_sound : (known : KnownNames) (names : List Name) (a x : SyntaxExpr) (s : Statement) → assign_read names a x ≡ Some s → (form.Assignment a x ≡ statement_form known names s) × IsGoodStatement s
assign_sound known names a x s h =
    let y = then_is (local_read names a) (λ y. and_then (expr_read names x) (λ e. Some (Assign y e))) s h in
    let e = then_is (expr_read names x) (λ e. Some (Assign y.0 e)) s y.2 in
    let is : Assign y.0 e.0 ≡ s = let k = e.2 in cc in
    let value = expr_sound names x e.0 e.1 in
    (ap (λ t. form.Assignment t x) (named_sound names a y.0 y.1) ∙ ap (λ t. form.Assignment (operand_tree names (Local y.0)) t) value.0 ∙ ap (λ m. statement_form known names m) is, subst (λ m. IsGoodStatement m) is value.1)

abbrev pub write_line_tree : KnownNames → SyntaxExpr
write_line_tree known = tree.MemberAccess (tree.SimpleName known.console []) known.write_line []

pub write_line_is : (known : KnownNames) (x : SyntaxExpr) → is_write_line known x ≡ true → x ≡ write_line_tree known
write_line_is known x h = by_layer (out-Expr x) refl h
  where
    by_layer : (l : Layer) → out-Expr x ≡ l → is_write_line_at known l ≡ true → x ≡ write_line_tree known
    by_layer (Expr-F.MemberAccess y n []) is k =
        let both = and_is (is_name_tree y known.console) (same_name n known.write_line) k in
        member_is x y n [] is ∙ ap (λ z. tree.MemberAccess z n []) (name_is y known.console both.0) ∙ ap (λ m. tree.MemberAccess (tree.SimpleName known.console []) m []) (same_is n known.write_line both.1)
    by_layer l is k = absurd cc

pub argument_sound : (names : List Name) (xs : List SyntaxExpr) (e : Expr) → argument_read names xs ≡ Some e → (xs ≡ expr_tree names e ∷ []) × IsGoodExpr e
argument_sound names [] e h = absurd cc
argument_sound names (x ∷ []) e h = let one = expr_sound names x e h in (ap (λ y. y ∷ []) one.0, one.1)
argument_sound names (x ∷ y ∷ xs) e h = absurd cc

write_sound : (known : KnownNames) (names : List Name) (x : SyntaxExpr) (s : Statement) → write_read known names x ≡ Some s → (form.Invocation x ≡ statement_form known names s) × IsGoodStatement s
write_sound known names x s h = by_layer (out-Expr x) refl h
  where
    by_layer : (y : Layer) → out-Expr x ≡ y → write_at known names y ≡ Some s → (form.Invocation x ≡ statement_form known names s) × IsGoodStatement s
    by_layer (Expr-F.Invocation f xs) is h =
        let k = if_is (is_write_line known f) (and_then (argument_read names xs) (λ e. Some (WriteLine e))) s h in
        let e = then_is (argument_read names xs) (λ e. Some (WriteLine e)) s k.1 in
        let same : WriteLine e.0 ≡ s = let m = e.2 in cc in
        let argument = argument_sound names xs e.0 e.1 in
        (ap (λ t. form.Invocation t) (call_is x f xs is ∙ ap (λ g. tree.Invocation g xs) (write_line_is known f k.0) ∙ ap (λ ys. tree.Invocation (write_line_tree known) ys) argument.0) ∙ ap (λ m. statement_form known names m) same, subst (λ m. IsGoodStatement m) same argument.1)
    by_layer y is h = absurd cc

pub statement_sound : (known : KnownNames) (names : List Name) (f : StatementForm) (s : Statement) → statement_read known names f ≡ Some s → (f ≡ statement_form known names s) × IsGoodStatement s
statement_sound known names (form.Assignment a x) s h = assign_sound known names a x s h
statement_sound known names (form.Invocation x) s h = write_sound known names x s h
statement_sound known names f s h = absurd cc

pub test_sound : (names : List Name) (x : SyntaxExpr) (c : Condition) → test_read names x ≡ Some c → (x ≡ test_tree names c) × IsGoodTest c
test_sound names x c h = by_layer (out-Expr x) refl h
  where
    by_layer : (y : Layer) → out-Expr x ≡ y → test_at names y ≡ Some c → (x ≡ test_tree names c) × IsGoodTest c
    by_layer (Expr-F.Binary o p q) is h = let test = condition_sound names p o q c h in (binary_is x o p q is ∙ test.0, test.1)
    by_layer y is h = absurd cc

-- OF THE GRAMMAR AND SO READ

pub get_some : (ns : List Name) (x : ℕ) → x < length ns → (s : Name) × (slice_get ns x ≡ Some s)
get_some [] x lt = absurd (omega arith)
get_some (n ∷ ns) zero lt = (n, refl)
get_some (n ∷ ns) (suc x) lt = get_some ns x (omega arith)

pub get_in : (ns : List Name) (k : ℕ) (s : Name) → slice_get ns k ≡ Some s → IsIn s ns
get_in [] k s e = absurd cc
get_in (n ∷ ns) zero s e = let is : s ≡ n = cc in inl is
get_in (n ∷ ns) (suc k) s e = inr (get_in ns k s e)

pub local_made : (known : KnownNames) (i : ℕ) (ns : List Name) (s : Name) (k : ℕ) → AreDistinctNames known ns → slice_get ns k ≡ Some s → local_from i ns s ≡ Some (record { 0 = i + k })
local_made known i [] s k d e = absurd cc
local_made known i (n ∷ ns) s zero d e =
    let is : n ≡ s = cc in
    let at : i ≡ i + 0 = omega arith in
    rw (is_same n s is) (ap (λ (x : ℕ). Some (record { 0 = x })) at)
local_made known i (n ∷ ns) s (suc k) d e =
    let other : n ≡ s → ⊥ = λ is. d.1 (subst (λ x. IsIn x ns) (sym is) (get_in ns k s e)) in
    let at : i + 1 + k ≡ i + suc k = omega arith in
    rw (others n s other) (local_made known (i + 1) ns s k d.2 e ∙ ap (λ (x : ℕ). Some (record { 0 = x })) at)

pub target_made : (known : KnownNames) (names : List Name) (x : LocalId) → AreDistinctNames known names → x.0 < length names → local_from 0 names (name_at names x) ≡ Some x
target_made known names x d lt =
    let got = get_some names x.0 lt in
    let at : 0 + x.0 ≡ x.0 = omega arith in
    ap (λ o. local_from 0 names (unwrap_or o (record { index = 0 }))) got.1 ∙ local_made known 0 names got.0 x.0 d got.1 ∙ ap (λ (k : ℕ). Some (record { 0 = k })) at

pub operand_made : (known : KnownNames) (names : List Name) (p : Operand) → AreDistinctNames known names → IsOperandOf (length names) p → IsFit p → operand_read names (operand_tree names p) ≡ Some p
operand_made known names (Local x) d lt fit = ap (λ o. and_then o (λ y. Some (Local y))) (target_made known names x d lt)
operand_made known names (Number v) d lt fit = ap (λ o. and_then o (λ w. Some (Number w))) (integer_made v fit)

pub operator_made : (o : Operator) → operator_read (binary_of o) ≡ Some o
operator_made Add = refl
operator_made Sub = refl
operator_made Mul = refl

pub relation_made : (r : Relation) → relation_read (binary.Relational (relation_of r)) ≡ Some r
relation_made Equal = refl
relation_made NotEqual = refl
relation_made Less = refl
relation_made LessOrEqual = refl
relation_made Greater = refl
relation_made GreaterOrEqual = refl

pub mixed_test : (a b : Operand) → AreMixed a b → are_mixed a b ≡ true
mixed_test (Number v) (Number w) m = absurd m
mixed_test (Number v) (Local x) m = refl
mixed_test (Local x) q m = refl

pub two_kept : (a : Operand) (o : Operator) (b : Operand) → AreMixed a b → two_operands a o b ≡ Some (Two a o b)
two_kept a o b m = ap (λ (p : Bool). if p then Some (Two a o b) else None) (mixed_test a b m)

pub condition_made : (known : KnownNames) (names : List Name) (c : Condition) → AreDistinctNames known names → IsOperandOf (length names) c.left → IsOperandOf (length names) c.right → IsGoodTest c → condition_read names (operand_tree names c.left) (binary.Relational (relation_of c.relation)) (operand_tree names c.right) ≡ Some c
condition_made known names c d a b m =
    ap (λ o. and_then o (λ x. and_then (relation_read (binary.Relational (relation_of c.relation))) (λ f. and_then (operand_read names (operand_tree names c.right)) (λ y. condition_operands x f y)))) (operand_made known names c.left d a m.1.0)
    ∙ ap (λ o. and_then o (λ f. and_then (operand_read names (operand_tree names c.right)) (λ y. condition_operands c.left f y))) (relation_made c.relation)
    ∙ ap (λ o. and_then o (λ y. condition_operands c.left c.relation y)) (operand_made known names c.right d b m.1.1)
    ∙ ap (λ (p : Bool). if p then Some c else None) (mixed_test c.left c.right m.0)

pub two_made : (known : KnownNames) (names : List Name) (p : Operand) (o : Operator) (q : Operand) → AreDistinctNames known names → IsOperandOf (length names) p → IsOperandOf (length names) q → IsGoodExpr (Two p o q) → two_read names (operand_tree names p) (binary_of o) (operand_tree names q) ≡ Some (Two p o q)
two_made known names p o q d a b m = rw (operand_made known names p d a m.1.0, operator_made o, operand_made known names q d b m.1.1) (two_kept p o q m.0)

-- the tree of an operand is read as an operand
pub one_read : (names : List Name) (p : Operand) → expr_read names (operand_tree names p) ≡ and_then (operand_read names (operand_tree names p)) (λ a. Some (One a))
one_read names (Local x) = ap (λ l. expr_at names (operand_tree names (Local x)) l) (outs-SimpleName (name_at names x) [])
one_read names (Number v) = ap (λ l. expr_at names (operand_tree names (Number v)) l) (outs-Integer (record { kind = kind.Integer; value = v }))

pub expr_made : (known : KnownNames) (names : List Name) (e : Expr) → AreDistinctNames known names → IsExprOf (length names) e → IsGoodExpr e → expr_read names (expr_tree names e) ≡ Some e
expr_made known names (One p) d a m = one_read names p ∙ ap (λ o. and_then o (λ x. Some (One x))) (operand_made known names p d a m.1)
expr_made known names (Two p o q) d a m =
    ap (λ l. expr_at names (expr_tree names (Two p o q)) l) (outs-Binary (binary_of o) (operand_tree names p) (operand_tree names q)) ∙ two_made known names p o q d a.0 a.1 m

pub write_line_made : (known : KnownNames) → is_write_line known (write_line_tree known) ≡ true
write_line_made known =
    ap (λ l. is_write_line_at known l) (outs-MemberAccess (tree.SimpleName known.console []) known.write_line [])
    ∙ ap (λ (p : Bool). p && same_name known.write_line known.write_line) (same_self known.console)
    ∙ same_self known.write_line

pub statement_made : (known : KnownNames) (names : List Name) (s : Statement) → AreDistinctNames known names → IsStatementOf (length names) s → IsGoodStatement s → statement_read known names (statement_form known names s) ≡ Some s
statement_made known names (Assign x e) d a m =
    ap (λ o. and_then o (λ y. and_then (expr_read names (expr_tree names e)) (λ z. Some (Assign y z)))) (target_made known names x d a.0)
    ∙ ap (λ o. and_then o (λ z. Some (Assign x z))) (expr_made known names e d a.1 m)
statement_made known names (WriteLine e) d a m =
    ap (λ l. write_at known names l) (outs-Invocation (write_line_tree known) (expr_tree names e ∷ []))
    ∙ ap (λ (p : Bool). if p then and_then (expr_read names (expr_tree names e)) (λ z. Some (WriteLine z)) else None) (write_line_made known)
    ∙ ap (λ o. and_then o (λ z. Some (WriteLine z))) (expr_made known names e d a m)

pub test_made : (known : KnownNames) (names : List Name) (c : Condition) → AreDistinctNames known names → IsOperandOf (length names) c.left → IsOperandOf (length names) c.right → IsGoodTest c → test_read names (test_tree names c) ≡ Some c
test_made known names c d a b m =
    ap (λ l. test_at names l) (outs-Binary (binary.Relational (relation_of c.relation)) (operand_tree names c.left) (operand_tree names c.right)) ∙ condition_made known names c d a b m
