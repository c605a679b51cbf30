-- Where a part isn't found, or ends elsewhere, nothing is spelled.
use Rattle.std.proofs.Common.{◌≡◌, ℕ, ◌-◌, ◌≤◌, List, length, drop, Result, Err, sym, subst, arith, length-drop}
use Rattle.vb_syntax.specs.declared.{tokens.{Token.Token, Line.Line}, expression.{Expr.Expr, VariableInitializer.VariableInitializer}}
use Rattle.vb_parse_expr.specs.{declared.error.ParseErr.{ParseErr, TheVariants.{Refused, Memory}}, Expressions.SpellsInitializer, Fronts.{IsFront, IsInitializerFront}, TypeReading.most_tokens}
use Rattle.vb_parse_decl.proofs.Wholes.{expression_front, initializer_front}
use Rattle.vb_parse_decl.specs.{Parts.IsExpression, Answers.Tells}

-- there is one of a kind at most at the front of a line's tokens
abbrev pub OneFront : {X : Type 0} → (List Token → X → ℕ → Type 0) → Type 0
OneFront {X} F = (ts : List Token) (x y : X) (n m : ℕ) → length ts ≤ most_tokens → F ts x n → F ts y m → (x ≡ y) × (n ≡ m)

dropped_few : (tokens : List Token) (from : ℕ) → length tokens ≤ most_tokens → length (drop from tokens) ≤ most_tokens
dropped_few tokens from few = omega (arith, length-drop from tokens)

-- what a part's reader tells where it finds none is told again, as nothing is spelled without the part
pub passed_on : {X Y : Type 0} (A : List Token → X → Type 0) (B : List Token → Y → Type 0) (line : Line) (ts us : List Token) (e : ParseErr) (r : Result Y ParseErr)
    → r ≡ Err e → (((x : X) → A us x → ⊥) → (y : Y) → B ts y → ⊥) → Tells A line us (Err e) → Tells B line ts r
passed_on {X} {Y} A B line ts us (Refused f) r same none told =
    subst (λ (q : Result Y ParseErr). Tells B line ts q) (sym same) (none told.0, told.1)
passed_on {X} {Y} A B line ts us Memory r same none told = subst (λ (q : Result Y ParseErr). Tells B line ts q) (sym same) tt

-- WHOLES

pub no_expression : OneFront IsFront → (tokens : List Token) (from behind : ℕ) (x : Expr) → length tokens ≤ most_tokens → from ≤ length tokens
    → from ≤ behind → IsFront (drop from tokens) x (behind - from) → (behind ≡ length tokens → ⊥) → (y : Expr) → IsExpression (drop from tokens) y → ⊥
no_expression one tokens from behind x few inside under found short y p =
    let same = one (drop from tokens) x y (behind - from) (length (drop from tokens)) (dropped_few tokens from few) found (expression_front (drop from tokens) y p) in
    short (omega (arith, same.1, length-drop from tokens))

pub no_initializer : OneFront IsInitializerFront → (tokens : List Token) (from behind : ℕ) (i : VariableInitializer) → length tokens ≤ most_tokens
    → from ≤ length tokens → from ≤ behind → IsInitializerFront (drop from tokens) i (behind - from) → (behind ≡ length tokens → ⊥)
    → (j : VariableInitializer) → SpellsInitializer (drop from tokens) j → ⊥
no_initializer one tokens from behind i few inside under found short j p =
    let same = one (drop from tokens) i j (behind - from) (length (drop from tokens)) (dropped_few tokens from few) found (initializer_front (drop from tokens) j p) in
    short (omega (arith, same.1, length-drop from tokens))
