-- Where no statement without a block is spelled.
use Rattle.std.proofs.Common.{◌≡◌, ℕ, ◌+◌, ◌-◌, ◌≤◌, List, length, drop, Option, Some, None, Result, Ok, Err, refl, sym, ap, subst, ◌∙◌, arith, length-drop}
use Rattle.std.specs.List.{slice_get}
use Rattle.vb_syntax.specs.declared.symbol.Symbol.TheVariants as sign
use Rattle.vb_syntax.specs.declared.{tokens.{Token.Token, Line.Line}, expression.Expr.Expr, statement.CompoundOperator.CompoundOperator, item.Item.Item}
use Rattle.vb_syntax.specs.declared.tokens.Token.TheVariants as token
use Rattle.vb_syntax.specs.declared.statement.CompoundOperator.TheVariants as compound
use Rattle.vb_syntax.specs.declared.item.Item.TheVariants as item
use Rattle.vb_parse_expr.specs.{declared.error.ParseErr.{ParseErr, TheVariants.{Refused, Memory}}, Words.comma, Fronts.{IsFront, IsPrimaryFront}, TypeReading.most_tokens}
use Rattle.vb_parse_decl.specs.{Parts.{IsExpression, IsPrimary, IsParted, IsOptional, equal}, Answers.Tells}
use Rattle.vb_parse_stmt.specs.{Statements.compound_sign, SimpleLines.{IsPrimaryLine, IsTwo, compound_of, compound_there}}
use Rattle.vb_parse_decl.proofs.{Wholes.primary_front, Parted.{EndsExpression, EndsPrimary, expression_of_parted, primary_of_parted, cut_place, first_dropped, rest_dropped}, Refusals.OneFront}

few_dropped : (tokens : List Token) (from : ℕ) → length tokens ≤ most_tokens → length (drop from tokens) ≤ most_tokens
few_dropped tokens from few = omega (arith, length-drop from tokens)

-- what is told of one kind is told of another that spells the same
pub told_so : {X : Type 0} (A B : List Token → X → Type 0) (line : Line) (ts : List Token) → ((x : X) → A ts x → B ts x) → ((x : X) → B ts x → A ts x)
    → (r : Result X ParseErr) → Tells A line ts r → Tells B line ts r
told_so A B line ts to back (Ok x) p = to x p
told_so A B line ts to back (Err (Refused e)) p = (λ x q. p.0 x (back x q), p.1)
told_so A B line ts to back (Err Memory) p = tt

-- WHOLES

pub no_primary : OneFront IsPrimaryFront → (tokens : List Token) (from behind : ℕ) (x : Expr) → length tokens ≤ most_tokens → from ≤ length tokens
    → from ≤ behind → IsPrimaryFront (drop from tokens) x (behind - from) → (behind ≡ length tokens → ⊥) → (y : Expr) → IsPrimary (drop from tokens) y → ⊥
no_primary one tokens from behind x few inside under found short y p =
    let same = one (drop from tokens) x y (behind - from) (length (drop from tokens)) (few_dropped tokens from few) found (primary_front (drop from tokens) y p) in
    short (omega (arith, same.1, length-drop from tokens))

-- TWO PARTS

-- behind the left part that is found the token doesn't stand, or no right part stands behind that
pub no_parted_primary : {Y : Type 0} → OneFront IsPrimaryFront → (t : Token) → EndsPrimary t → (R : List Token → Y → Type 0) (tokens : List Token) (from behind : ℕ) (x : Expr)
    → length tokens ≤ most_tokens → from ≤ behind → IsPrimaryFront (drop from tokens) x (behind - from)
    → ((y : Y) → slice_get tokens behind ≡ Some t → R (drop (behind + 1) tokens) y → ⊥)
    → (z : Expr) (y : Y) → IsParted t IsPrimary R (drop from tokens) z y → ⊥
no_parted_primary {Y} one t ends R tokens from behind x few under found none z y p =
    let same = one (drop from tokens) x z (behind - from) (length p.left) (few_dropped tokens from few) found (primary_of_parted t ends R (drop from tokens) z y p) in
    let rest = cut_place tokens p.left p.right from behind t under same.1 p.split in
    none y (first_dropped tokens p.right behind t rest) (subst (λ (us : List Token). R us y) (sym (rest_dropped tokens p.right behind t rest)) p.is_right)

pub no_parted_expression : {Y : Type 0} → OneFront IsFront → (t : Token) → EndsExpression t → (R : List Token → Y → Type 0) (tokens : List Token) (from behind : ℕ) (x : Expr)
    → length tokens ≤ most_tokens → from ≤ behind → IsFront (drop from tokens) x (behind - from)
    → ((y : Y) → slice_get tokens behind ≡ Some t → R (drop (behind + 1) tokens) y → ⊥)
    → (z : Expr) (y : Y) → IsParted t IsExpression R (drop from tokens) z y → ⊥
no_parted_expression {Y} one t ends R tokens from behind x few under found none z y p =
    let same = one (drop from tokens) x z (behind - from) (length p.left) (few_dropped tokens from few) found (expression_of_parted t ends R (drop from tokens) z y p) in
    let rest = cut_place tokens p.left p.right from behind t under same.1 p.split in
    none y (first_dropped tokens p.right behind t rest) (subst (λ (us : List Token). R us y) (sym (rest_dropped tokens p.right behind t rest)) p.is_right)

-- COMPOUND OPERATORS

pub compound_ends : (o : CompoundOperator) → EndsPrimary (token.Symbol (compound_sign o))
compound_ends compound.Add = λ ts. refl
compound_ends compound.Subtract = λ ts. refl
compound_ends compound.Multiply = λ ts. refl
compound_ends compound.IntegerDivide = λ ts. refl
compound_ends compound.Concatenate = λ ts. refl
compound_ends compound.ShiftLeft = λ ts. refl
compound_ends compound.ShiftRight = λ ts. refl

pub compound_read : (o : CompoundOperator) → compound_there (Some (token.Symbol (compound_sign o))) ≡ Some o
compound_read compound.Add = refl
compound_read compound.Subtract = refl
compound_read compound.Multiply = refl
compound_read compound.IntegerDivide = refl
compound_read compound.Concatenate = refl
compound_read compound.ShiftLeft = refl
compound_read compound.ShiftRight = refl

sign_of_operator : (t : Token) (o : CompoundOperator) → compound_of t ≡ Some o → Some t ≡ Some (token.Symbol (compound_sign o))
sign_of_operator (token.Symbol sign.PlusEqual) o e = let same : compound.Add ≡ o = cc in ap (λ (p : CompoundOperator). Some (token.Symbol (compound_sign p))) same
sign_of_operator (token.Symbol sign.MinusEqual) o e = let same : compound.Subtract ≡ o = cc in ap (λ (p : CompoundOperator). Some (token.Symbol (compound_sign p))) same
sign_of_operator (token.Symbol sign.TimesEqual) o e = let same : compound.Multiply ≡ o = cc in ap (λ (p : CompoundOperator). Some (token.Symbol (compound_sign p))) same
sign_of_operator (token.Symbol sign.BackslashEqual) o e = let same : compound.IntegerDivide ≡ o = cc in ap (λ (p : CompoundOperator). Some (token.Symbol (compound_sign p))) same
sign_of_operator (token.Symbol sign.AmpersandEqual) o e = let same : compound.Concatenate ≡ o = cc in ap (λ (p : CompoundOperator). Some (token.Symbol (compound_sign p))) same
sign_of_operator (token.Symbol sign.ShiftLeftEqual) o e = let same : compound.ShiftLeft ≡ o = cc in ap (λ (p : CompoundOperator). Some (token.Symbol (compound_sign p))) same
sign_of_operator (token.Symbol sign.ShiftRightEqual) o e = let same : compound.ShiftRight ≡ o = cc in ap (λ (p : CompoundOperator). Some (token.Symbol (compound_sign p))) same
sign_of_operator t o e = absurd cc

pub operator_sign : (t : Option Token) (o : CompoundOperator) → compound_there t ≡ Some o → t ≡ Some (token.Symbol (compound_sign o))
operator_sign (Some t) o e = sign_of_operator t o e
operator_sign None o e = absurd cc

-- `=` is none of them
pub not_both : (t : Option Token) (o : CompoundOperator) → t ≡ Some equal → t ≡ Some (token.Symbol (compound_sign o)) → ⊥
not_both t o e f =
    let read : compound_there (Some equal) ≡ Some o = ap compound_there (sym e ∙ f) ∙ compound_read o in cc

-- A PRIMARY WITH A VALUE OR WITHOUT

pub no_line : (ts : List Token) → ((x : Expr) (n : ℕ) → IsPrimaryFront ts x n → ⊥) → (z : Item) → IsPrimaryLine ts z → ⊥
no_line ts none (item.Invocation x) p = none x (length ts) (primary_front ts x p)
no_line ts none (item.Assignment x y) p = none x (length p.left) (primary_of_parted equal (λ us. refl) IsExpression ts x y p)
no_line ts none (item.CompoundAssignment o x y) p =
    none x (length p.left) (primary_of_parted (token.Symbol (compound_sign o)) (compound_ends o) IsExpression ts x y p)
no_line ts none z p = absurd p

pub other_line : OneFront IsPrimaryFront → (tokens : List Token) (behind : ℕ) (x : Expr) → length tokens ≤ most_tokens
    → IsPrimaryFront (drop 0 tokens) x (behind - 0) → (behind ≡ length tokens → ⊥)
    → ((y : Expr) → slice_get tokens behind ≡ Some equal → IsExpression (drop (behind + 1) tokens) y → ⊥)
    → ((o : CompoundOperator) (y : Expr) → slice_get tokens behind ≡ Some (token.Symbol (compound_sign o)) → IsExpression (drop (behind + 1) tokens) y → ⊥)
    → (z : Item) → IsPrimaryLine tokens z → ⊥
other_line one tokens behind x few found short no_value no_operand (item.Invocation y) p =
    no_primary one tokens 0 behind x few (omega arith) (omega arith) found short y p
other_line one tokens behind x few found short no_value no_operand (item.Assignment y z) p =
    no_parted_primary one equal (λ us. refl) IsExpression tokens 0 behind x few (omega arith) found no_value y z p
other_line one tokens behind x few found short no_value no_operand (item.CompoundAssignment o y z) p =
    no_parted_primary one (token.Symbol (compound_sign o)) (compound_ends o) IsExpression tokens 0 behind x few (omega arith) found (no_operand o) y z p
other_line one tokens behind x few found short no_value no_operand z p = absurd p

-- TWO EXPRESSIONS, OR ONE OR NONE

pub no_front_two : (ts : List Token) → ((x : Expr) (n : ℕ) → IsFront ts x n → ⊥) → (p : Expr × Expr) → IsTwo ts p → ⊥
no_front_two ts none p q = none p.0 (length q.left) (expression_of_parted comma (λ us. refl) IsExpression ts p.0 p.1 q)

pub no_two : OneFront IsFront → (tokens : List Token) (from behind : ℕ) (x : Expr) → length tokens ≤ most_tokens → from ≤ behind
    → IsFront (drop from tokens) x (behind - from) → ((y : Expr) → slice_get tokens behind ≡ Some comma → IsExpression (drop (behind + 1) tokens) y → ⊥)
    → (p : Expr × Expr) → IsTwo (drop from tokens) p → ⊥
no_two one tokens from behind x few under found none p q =
    no_parted_expression one comma (λ us. refl) IsExpression tokens from behind x few under found none p.0 p.1 q

pub no_optional : (tokens : List Token) (from : ℕ) → from ≤ length tokens → (from ≡ length tokens → ⊥) → ((x : Expr) → IsExpression (drop from tokens) x → ⊥)
    → (x : Option Expr) → IsOptional IsExpression (drop from tokens) x → ⊥
no_optional tokens from inside short none None p =
    let size : length (drop from tokens) ≡ 0 = ap length p in short (omega (arith, size, length-drop from tokens))
no_optional tokens from inside short none (Some x) p = none x p
