-- With what an expression begins.
use Rattle.std.proofs.Common.{◌≡◌, ◌||◌, ℕ, Bool, true, false, List, ◌∷◌, ◌++◌, length, Some, is_some, refl, sym, ap, ◌∙◌}
use Rattle.vb_syntax.specs.declared.{tokens.Token.Token, expression.{UnaryOperator.UnaryOperator, Expr.Expr}}
use Rattle.vb_parse_expr.specs.{Words.prefix_of, Expressions.{Spells, Spells.{primary, prefix, binary}}, Fronts.{IsPrimaryFront, begins_primary}}
use Rattle.vb_parse_decl.specs.Parts.{IsExpression}
use Rattle.vb_parse_decl.proofs.Wholes.{primary_front}

-- each primary begins with a token of those
abbrev pub PrimaryBegins : Type 0
PrimaryBegins = (ts : List Token) (x : Expr) (n : ℕ) → IsPrimaryFront ts x n
    → (t : Token) × (us : List Token) × (ts ≡ t ∷ us) × (begins_primary t ≡ true)

abbrev pub begins_expression : Token → Bool
begins_expression t = is_some (prefix_of t) || begins_primary t

abbrev pub BeginsExpression : List Token → Type 0
BeginsExpression ts = (t : Token) × (us : List Token) × (ts ≡ t ∷ us) × (begins_expression t ≡ true)

either : (a b : Bool) → b ≡ true → (a || b) ≡ true
either true b e = refl
either false b e = e

of_primary : (ts : List Token) → (t : Token) × (us : List Token) × (ts ≡ t ∷ us) × (begins_primary t ≡ true) → BeginsExpression ts
of_primary ts (t, us, split, e) = (t, us, split, either (is_some (prefix_of t)) (begins_primary t) e)

of_prefix : (t : Token) (us : List Token) (o : UnaryOperator) (s : ℕ) → prefix_of t ≡ Some (o, s) → BeginsExpression (t ∷ us)
of_prefix t us o s e = (t, us, refl, ap (λ m. is_some m || begins_primary t) e)

of_left : (ts vs : List Token) → BeginsExpression ts → BeginsExpression (ts ++ vs)
of_left ts vs (t, us, split, e) = (t, us ++ vs, ap (λ (ws : List Token). ws ++ vs) split, e)

spells_begins : PrimaryBegins → (h w : ℕ) (ts : List Token) (x : Expr) → Spells h w ts x → BeginsExpression ts
spells_begins begins h w ts x (primary {edge} p) = of_primary ts (begins ts x (length ts) (primary_front ts x (record { edge = edge; spells = p })))
spells_begins begins h w ts x (prefix {s} {o} {ts = us} t e p under) = of_prefix t us o s e
spells_begins begins h w ts x (binary {h = h'} {w = w'} {ts = left} {us} {x = y} t e p under least q weaker) =
    of_left left (t ∷ us) (spells_begins begins h' w' left y p)

pub expression_begins : PrimaryBegins → (ts : List Token) (x : Expr) → IsExpression ts x → BeginsExpression ts
expression_begins begins ts x p = spells_begins begins p.strength p.weakest ts x p.spells

-- an expression begins with no such token
pub begins_not : PrimaryBegins → (t : Token) → begins_expression t ≡ false → (us : List Token) (x : Expr) → IsExpression (t ∷ us) x → ⊥
begins_not begins t other us x p = let first = expression_begins begins (t ∷ us) x p in
    let same : first.0 ≡ t = cc (first.2) in
    let told : begins_expression t ≡ true = ap begins_expression (sym same) ∙ first.3 in cc
