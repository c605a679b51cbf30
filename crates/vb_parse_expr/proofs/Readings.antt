-- What stands at the front of tokens is read, and so there is one reading at most.
use Rattle.std.proofs.Common.{◌≡◌, ℕ, ◌≤◌, List, [], ◌++◌, length, take, drop, Some, ap, sym, subst, ◌∙◌, arith}
use Rattle.std.proofs.lemmas.List.{take-append-drop, length-drop}
use Rattle.vb_syntax.specs.declared.{tokens.Token.Token, types.{SimpleTypeName.SimpleTypeName, TypeName.TypeName}, expression.{Expr.Expr, VariableInitializer.VariableInitializer}}
use Rattle.vb_syntax.specs.declared.expression.VariableInitializer.TheVariants as init
use Rattle.vb_parse_expr.specs.declared.pending.Goal.TheVariants as for
use Rattle.vb_parse_expr.specs.declared.machine.State.TheVariants as at
use Rattle.vb_parse_expr.specs.{Types.{IsTypeFront, IsSimpleTypeFront}, Fronts.{IsFront, IsPrimaryFront, IsInitializerFront}, TypeReading.{Read, read_type, read_simple_type, most_turns, most_tokens}, MachineReading.run}
use Rattle.vb_parse_expr.proofs.{TypeFronts.{type_read, simple_type_read}, Complete.{primary_read, expression_read, initializer_read}}

-- what is read of the first n tokens and the rest is read of the whole
whole : {A : Type 0} (read : List Token → Read A) (x : A) (n : ℕ) (ts : List Token)
    → (length (take n ts ++ drop n ts) ≤ most_tokens → read (take n ts ++ drop n ts) ≡ Some (x, drop n ts))
    → length ts ≤ most_tokens → read ts ≡ Some (x, drop n ts)
whole read x n ts reads within =
    let e = take-append-drop n ts in
    let below : length (take n ts ++ drop n ts) ≤ most_tokens = subst (λ us. length us ≤ most_tokens) (sym e) within in
    ap read (sym e) ∙ reads below

pub expression_at : (ts : List Token) (x : Expr) (n : ℕ) → length ts ≤ most_tokens → IsFront ts x n
    → run for.Expression most_turns [] at.Want ts ≡ Some (init.Expression x, drop n ts)
expression_at ts x n within f =
    whole (run for.Expression most_turns [] at.Want) (init.Expression x) n ts (expression_read (drop n ts) f.spells f.over) within

pub primary_at : (ts : List Token) (x : Expr) (n : ℕ) → length ts ≤ most_tokens → IsPrimaryFront ts x n
    → run for.Primary most_turns [] at.Want ts ≡ Some (init.Expression x, drop n ts)
primary_at ts x n within f =
    whole (run for.Primary most_turns [] at.Want) (init.Expression x) n ts (primary_read (drop n ts) f.spells f.over) within

pub initializer_at : (ts : List Token) (i : VariableInitializer) (n : ℕ) → length ts ≤ most_tokens → IsInitializerFront ts i n
    → run for.Initializer most_turns [] at.Want ts ≡ Some (i, drop n ts)
initializer_at ts i n within f =
    whole (run for.Initializer most_turns [] at.Want) i n ts (initializer_read (drop n ts) f.spells f.over) within

pub type_at : (ts : List Token) (x : TypeName) (n : ℕ) → length ts ≤ most_tokens → IsTypeFront ts x n → read_type ts ≡ Some (x, drop n ts)
type_at ts x n within f = whole read_type x n ts (type_read (drop n ts) f.spells f.over) within

pub simple_type_at : (ts : List Token) (x : SimpleTypeName) (n : ℕ) → length ts ≤ most_tokens → IsSimpleTypeFront ts x n
    → read_simple_type ts ≡ Some (x, drop n ts)
simple_type_at ts x n within f = whole read_simple_type x n ts (simple_type_read (drop n ts) f.spells f.over) within

-- THERE IS ONE READING

-- the rest tells how many tokens come before it
same_count : (ts : List Token) (n m : ℕ) → n ≤ length ts → m ≤ length ts → drop n ts ≡ drop m ts → n ≡ m
same_count ts n m a b e =
    let l : length (drop n ts) ≡ length (drop m ts) = ap length e in
    omega (arith, length-drop n ts, length-drop m ts)

same_reading : {A : Type 0} (read : Read A) (x y : A) (ts : List Token) (n m : ℕ) → n ≤ length ts → m ≤ length ts
    → read ≡ Some (x, drop n ts) → read ≡ Some (y, drop m ts) → (x ≡ y) × (n ≡ m)
same_reading {A = A} read x y ts n m a b e f =
    let h : ◌≡◌ {A = A × List Token} (x, drop n ts) (y, drop m ts) = cc in
    (ap (λ p. p.0) h, same_count ts n m a b (ap (λ p. p.1) h))

expression_of : VariableInitializer → Expr → Expr
expression_of (init.Expression x) y = x
expression_of i y = y

pub one_expression : (ts : List Token) (x y : Expr) (n m : ℕ) → length ts ≤ most_tokens → IsFront ts x n → IsFront ts y m → (x ≡ y) × (n ≡ m)
unfolding expression_of
one_expression ts x y n m within f g =
    let same = same_reading (run for.Expression most_turns [] at.Want ts) (init.Expression x) (init.Expression y) ts n m f.within g.within
    (expression_at ts x n within f) (expression_at ts y m within g) in
    (ap (λ i. expression_of i x) same.0, same.1)

pub one_primary : (ts : List Token) (x y : Expr) (n m : ℕ) → length ts ≤ most_tokens → IsPrimaryFront ts x n → IsPrimaryFront ts y m → (x ≡ y) × (n ≡ m)
unfolding expression_of
one_primary ts x y n m within f g =
    let same = same_reading (run for.Primary most_turns [] at.Want ts) (init.Expression x) (init.Expression y) ts n m f.within g.within
    (primary_at ts x n within f) (primary_at ts y m within g) in
    (ap (λ i. expression_of i x) same.0, same.1)

pub one_initializer : (ts : List Token) (x y : VariableInitializer) (n m : ℕ) → length ts ≤ most_tokens → IsInitializerFront ts x n → IsInitializerFront ts y m
    → (x ≡ y) × (n ≡ m)
one_initializer ts x y n m within f g =
    same_reading (run for.Initializer most_turns [] at.Want ts) x y ts n m f.within g.within
    (initializer_at ts x n within f) (initializer_at ts y m within g)

pub one_type : (ts : List Token) (x y : TypeName) (n m : ℕ) → length ts ≤ most_tokens → IsTypeFront ts x n → IsTypeFront ts y m → (x ≡ y) × (n ≡ m)
one_type ts x y n m within f g =
    same_reading (read_type ts) x y ts n m f.within g.within (type_at ts x n within f) (type_at ts y m within g)

pub one_simple_type : (ts : List Token) (x y : SimpleTypeName) (n m : ℕ) → length ts ≤ most_tokens → IsSimpleTypeFront ts x n → IsSimpleTypeFront ts y m
    → (x ≡ y) × (n ≡ m)
one_simple_type ts x y n m within f g =
    same_reading (read_simple_type ts) x y ts n m f.within g.within (simple_type_at ts x n within f) (simple_type_at ts y m within g)
