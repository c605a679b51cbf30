-- What the tests of names, numbers and trees say.
use Rattle.std.proofs.Common.{◌≡◌, inl, inr, ℕ, ◌<◌, ℤ, pos, negsuc, Bool, true, false, List, [], ◌∷◌, Option, Some, None, refl, sym, ap, subst, ◌∙◌, arith}
use Rattle.std.specs.Prelude.{if◌then◌else◌, not, ◌||◌, ◌&&◌, ◌^◌, nat_lt, FitsSigned}
use Rattle.std.specs.Int.{w32}
use Rattle.std.proofs.lemmas.Bool.Decides.{nat_tests}
use denote.Enum.Bare.{same_true}
use Rattle.vb_text.specs.declared.names.Name.{Name}
use Rattle.vb_syntax.specs.{contracts.types.PrimitiveTypeName.the_type as primitives, declared.{tokens.IntegerType.IntegerType, types.TypeName.TypeName, expression.{BinaryOperator.BinaryOperator, Expr.{Expr as SyntaxExpr, out-Expr, roll-Expr, roll-out-Expr, TheOpen.Expr-F, TheVariants.{rolls-Binary, rolls-Invocation, rolls-MemberAccess}}}, declarator.VariableModifier.VariableModifier}}
use Rattle.vb_syntax.specs.declared.tokens.IntegerType.TheVariants as kind
use Rattle.vb_syntax.specs.declared.types.PrimitiveTypeName.TheVariants as primitive
use Rattle.vb_syntax.specs.declared.types.BuiltInTypeName.TheVariants as built_in
use Rattle.vb_syntax.specs.declared.types.SimpleTypeName.TheVariants as simple
use Rattle.vb_syntax.specs.declared.types.TypeName.TheVariants as type_name
use Rattle.vb_syntax.specs.declared.expression.Expr.TheVariants as tree
use Rattle.vb_syntax.specs.declared.declarator.VariableModifier.TheVariants as modifier
use Rattle.vb_bind.specs.{Grammar.IsIn, Parsing.{and_then, same_name, named, is_one_of, is_name_tree, as_integer, integer_of, number_read, is_integer_type, is_plain}}

pub by_test : (b : Bool) (P : Type 0) → (b ≡ true → P) → (b ≡ false → P) → P
by_test true P f g = f refl
by_test false P f g = g refl

pub then_is : {A B : Type 0} (o : Option A) (go : A → Option B) (y : B) → and_then o go ≡ Some y → (x : A) × (o ≡ Some x) × (go x ≡ Some y)
then_is None go y e = absurd cc
then_is (Some x) go y e = (x, refl, e)

pub if_is : {B : Type 0} (b : Bool) (o : Option B) (y : B) → (if b then o else None) ≡ Some y → (b ≡ true) × (o ≡ Some y)
if_is true o y e = (refl, e)
if_is false o y e = absurd cc

pub and_is : (a b : Bool) → (a && b) ≡ true → (a ≡ true) × (b ≡ true)
and_is true b e = (refl, e)
and_is false b e = absurd cc

pub not_is : (b : Bool) → not b ≡ true → b ≡ false
not_is true e = absurd cc
not_is false e = refl

-- NAMES

abbrev the_name : ℕ → Name
the_name i = record { index = i }

pub same_is : (n m : Name) → same_name n m ≡ true → n ≡ m
same_is n m e = let is : n.index ≡ m.index = grind (arith, nat_tests, e) in ap (λ (i : ℕ). the_name i) is

pub same_self : (n : Name) → same_name n n ≡ true
same_self n = grind (arith, nat_tests)

pub is_same : (n m : Name) → n ≡ m → same_name n m ≡ true
is_same n m e = ap (λ x. same_name x m) e ∙ same_self m

pub others : (n m : Name) → (n ≡ m → ⊥) → same_name n m ≡ false
others n m h = by_test (same_name n m) _ (λ k. absurd (h (same_is n m k))) (λ k. k)

pub any_none : (n : Name) (xs : List Name) → is_one_of n xs ≡ false → IsIn n xs → ⊥
any_none n [] e h = h
any_none n (x ∷ xs) e (inl is) = let k = is_same x n (sym is) in let any : is_one_of n (x ∷ xs) ≡ true = rw k refl in cc
any_none n (x ∷ xs) e (inr h) = any_none n xs (or_false (same_name x n) (is_one_of n xs) e).1 h
  where
    or_false : (a b : Bool) → (a || b) ≡ false → (a ≡ false) × (b ≡ false)
    or_false true b e = absurd cc
    or_false false b e = (refl, e)

pub any_made : (n : Name) (xs : List Name) → (IsIn n xs → ⊥) → is_one_of n xs ≡ false
any_made n [] h = refl
any_made n (x ∷ xs) h = rw (others x n (λ e. h (inl (sym e)))) (any_made n xs (λ i. h (inr i)))

pub named_is : (x : SyntaxExpr) (n : Name) → named x ≡ Some n → x ≡ tree.SimpleName n []
named_is (tree.SimpleName m []) n e = let is : m ≡ n = cc in ap (λ y. tree.SimpleName y []) is
named_is x n e = absurd cc

pub name_is : (x : SyntaxExpr) (n : Name) → is_name_tree x n ≡ true → x ≡ tree.SimpleName n []
name_is (tree.SimpleName m []) n e = ap (λ y. tree.SimpleName y []) (same_is m n e)
name_is x n e = absurd cc

-- TREES: of which form one is, by its first level

pub binary_is : (x : SyntaxExpr) (o : BinaryOperator) (p q : SyntaxExpr) → out-Expr x ≡ Expr-F.Binary o p q → x ≡ tree.Binary o p q
binary_is x o p q e = sym (roll-out-Expr x) ∙ ap roll-Expr e ∙ rolls-Binary o p q

pub call_is : (x f : SyntaxExpr) (ys : List SyntaxExpr) → out-Expr x ≡ Expr-F.Invocation f ys → x ≡ tree.Invocation f ys
call_is x f ys e = sym (roll-out-Expr x) ∙ ap roll-Expr e ∙ rolls-Invocation f ys

pub member_is : (x y : SyntaxExpr) (n : Name) (ts : List TypeName) → out-Expr x ≡ Expr-F.MemberAccess y n ts → x ≡ tree.MemberAccess y n ts
member_is x y n ts e = sym (roll-out-Expr x) ∙ ap roll-Expr e ∙ rolls-MemberAccess y n ts

pub integer_type_is : (t : TypeName) → is_integer_type t ≡ true → t ≡ type_name.Simple (simple.BuiltIn (built_in.Primitive primitive.Integer))
integer_type_is (type_name.Simple (simple.BuiltIn (built_in.Primitive p))) e = ap (λ q. type_name.Simple (simple.BuiltIn (built_in.Primitive q))) (same_true primitives tt p primitive.Integer e)
integer_type_is t e = absurd cc

pub plain_is : (m : VariableModifier) → is_plain m ≡ true → m ≡ modifier.Plain
plain_is modifier.Plain e = refl
plain_is m e = absurd cc

-- NUMBERS

pub integer_is : (v w : ℤ) → as_integer v ≡ Some w → (v ≡ w) × FitsSigned w32 w
integer_is (pos n) w e =
    let k = if_is (nat_lt n (2 ^ 31)) (Some (pos n)) w e in
    let is : pos n ≡ w = let m = k.1 in cc in
    let lt : n < 2 ^ 31 = grind (arith, nat_tests, k.0) in
    (is, subst (λ x. FitsSigned w32 x) is (record { sfits = lt }))
integer_is (negsuc n) w e =
    let k = if_is (nat_lt n (2 ^ 31)) (Some (negsuc n)) w e in
    let is : negsuc n ≡ w = let m = k.1 in cc in
    let lt : n < 2 ^ 31 = grind (arith, nat_tests, k.0) in
    (is, subst (λ x. FitsSigned w32 x) is (record { sfits = lt }))

pub integer_made : (v : ℤ) → FitsSigned w32 v → as_integer v ≡ Some v
integer_made (pos n) fit = let lt : n < 2 ^ 31 = fit.sfits in let k : nat_lt n (2 ^ 31) ≡ true = grind (arith, nat_tests, lt) in rw k refl
integer_made (negsuc n) fit = let lt : n < 2 ^ 31 = fit.sfits in let k : nat_lt n (2 ^ 31) ≡ true = grind (arith, nat_tests, lt) in rw k refl

pub number_is : (x : SyntaxExpr) (v : ℤ) → number_read x ≡ Some v → (x ≡ tree.Integer (record { kind = kind.Integer; value = v })) × FitsSigned w32 v
number_is (tree.Integer n) v e = by_kind n.kind refl e
  where
    by_kind : (k : IntegerType) → n.kind ≡ k → integer_of k n.value ≡ Some v → (tree.Integer n ≡ tree.Integer (record { kind = kind.Integer; value = v })) × FitsSigned w32 v
    by_kind kind.Integer h e =
        let is = integer_is n.value v e in
        (ap (λ (k : IntegerType). tree.Integer (record { kind = k; value = n.value })) h ∙ ap (λ (x : ℤ). tree.Integer (record { kind = kind.Integer; value = x })) is.0, is.1)
    by_kind k h e = absurd cc
number_is x v e = absurd cc
