-- A line is no `If` statement and at once one that begins with a conditional expression.
use Rattle.std.proofs.Common.{◌≡◌, inl, inr, ℕ, ◌≤◌, List, [], ◌∷◌, ◌++◌, length, drop, None, refl, sym, ap, subst, ◌∙◌, arith}
use Rattle.std.proofs.Math.Seq.{drop-append_seam}
use Rattle.std.proofs.lemmas.List.{append_assoc, append-nil, take-append-drop}
use Rattle.vb_syntax.specs.declared.keyword.Keyword.TheVariants as word
use Rattle.vb_syntax.specs.declared.{tokens.Token.Token, expression.Expr.Expr}
use Rattle.vb_parse_expr.specs.{Words.{opening, closing, comma, dot, name_of, type_of, alone_of, primitive_cast, cast_operator, prefix_of}, Expressions.{Edge, Spells, SpellsPrimary}, Fronts.{IsFront, IsPrimaryFront}, TypeReading.most_tokens}
use Rattle.vb_parse_decl.specs.Parts.{reserved, IsExpression, Begins}
use Rattle.vb_parse_stmt.specs.Statements.{IsTest}
use Rattle.vb_parse_decl.proofs.{Parted.expression_before, Refusals.OneFront}

-- an expression, and this token behind it
abbrev HasExpression : Token → List Token → Type 0
HasExpression t us = (vs : List Token) × (ws : List Token) × (z : Expr) × (us ≡ vs ++ t ∷ ws) × IsExpression vs z

-- what stands behind `If` where it begins a primary
conditional_begins : {edge : Edge} {ts : List Token} {y : Expr} → SpellsPrimary edge ts y → (rest us : List Token) → ts ++ rest ≡ reserved word.If ∷ us
    → (vs : List Token) × (us ≡ opening ∷ vs) × HasExpression comma vs
conditional_begins (SpellsPrimary.alone t is) rest us e = let first : t ≡ reserved word.If = cc in let told : alone_of t ≡ None = ap alone_of first in absurd cc
conditional_begins (SpellsPrimary.parenthesized p) rest us e = absurd cc
conditional_begins (SpellsPrimary.name t is p) rest us e = let first : t ≡ reserved word.If = cc in let told : name_of t ≡ None = ap name_of first in absurd cc
conditional_begins (SpellsPrimary.address p) rest us e = absurd cc
conditional_begins (SpellsPrimary.type_test p q) rest us e = absurd cc
conditional_begins (SpellsPrimary.member {ts = ts} {us = vs} t p closed is q) rest us e =
    conditional_begins p ((dot ∷ t ∷ vs) ++ rest) us (sym (append_assoc ts (dot ∷ t ∷ vs) rest) ∙ e)
conditional_begins (SpellsPrimary.type_member t u is named) rest us e = let first : t ≡ reserved word.If = cc in let told : type_of t ≡ None = ap type_of first in absurd cc
conditional_begins (SpellsPrimary.with_member t is) rest us e = absurd cc
conditional_begins (SpellsPrimary.invocation {ts = ts} {us = vs} p q closed) rest us e = conditional_begins p (vs ++ rest) us (sym (append_assoc ts vs rest) ∙ e)
conditional_begins (SpellsPrimary.creation p) rest us e = absurd cc
conditional_begins (SpellsPrimary.creation_with p q) rest us e = absurd cc
conditional_begins (SpellsPrimary.array p q) rest us e = absurd cc
conditional_begins (SpellsPrimary.bounded_array p q r) rest us e = absurd cc
conditional_begins (SpellsPrimary.conversion t is p) rest us e =
    let first : t ≡ reserved word.If = cc in let told : primitive_cast t ≡ None = ap primitive_cast first in absurd cc
conditional_begins (SpellsPrimary.cast t is p q) rest us e =
    let first : t ≡ reserved word.If = cc in let told : cast_operator t ≡ None = ap cast_operator first in absurd cc
conditional_begins (SpellsPrimary.conditional {h} {w} {ts = ts} {us = vs} {vs = ws} {x = x} p q r) rest us e =
    let behind : List Token = vs ++ comma ∷ (ws ++ closing ∷ []) in
    let all : us ≡ opening ∷ ((ts ++ comma ∷ behind) ++ rest) = cc in (
      (ts ++ comma ∷ behind) ++ rest,
      all,
      (ts, behind ++ rest, x, append_assoc ts (comma ∷ behind) rest, record { strength = h; weakest = w; spells = p }),
    )

-- what stands behind `(` where it begins an expression
primary_opens : {edge : Edge} {ts : List Token} {y : Expr} → SpellsPrimary edge ts y → (rest us : List Token) → ts ++ rest ≡ opening ∷ us → HasExpression closing us
primary_opens (SpellsPrimary.alone t is) rest us e = let first : t ≡ opening = cc in let told : alone_of t ≡ None = ap alone_of first in absurd cc
primary_opens (SpellsPrimary.parenthesized {h} {w} {ts = ts} {x = x} p) rest us e =
    let all : us ≡ (ts ++ closing ∷ []) ++ rest = cc in
    (ts, rest, x, all ∙ append_assoc ts (closing ∷ []) rest, record { strength = h; weakest = w; spells = p })
primary_opens (SpellsPrimary.name t is p) rest us e = let first : t ≡ opening = cc in let told : name_of t ≡ None = ap name_of first in absurd cc
primary_opens (SpellsPrimary.address p) rest us e = absurd cc
primary_opens (SpellsPrimary.type_test p q) rest us e = absurd cc
primary_opens (SpellsPrimary.member {ts = ts} {us = vs} t p closed is q) rest us e =
    primary_opens p ((dot ∷ t ∷ vs) ++ rest) us (sym (append_assoc ts (dot ∷ t ∷ vs) rest) ∙ e)
primary_opens (SpellsPrimary.type_member t u is named) rest us e = let first : t ≡ opening = cc in let told : type_of t ≡ None = ap type_of first in absurd cc
primary_opens (SpellsPrimary.with_member t is) rest us e = absurd cc
primary_opens (SpellsPrimary.invocation {ts = ts} {us = vs} p q closed) rest us e = primary_opens p (vs ++ rest) us (sym (append_assoc ts vs rest) ∙ e)
primary_opens (SpellsPrimary.creation p) rest us e = absurd cc
primary_opens (SpellsPrimary.creation_with p q) rest us e = absurd cc
primary_opens (SpellsPrimary.array p q) rest us e = absurd cc
primary_opens (SpellsPrimary.bounded_array p q r) rest us e = absurd cc
primary_opens (SpellsPrimary.conversion t is p) rest us e = let first : t ≡ opening = cc in let told : primitive_cast t ≡ None = ap primitive_cast first in absurd cc
primary_opens (SpellsPrimary.cast t is p q) rest us e = let first : t ≡ opening = cc in let told : cast_operator t ≡ None = ap cast_operator first in absurd cc
primary_opens (SpellsPrimary.conditional p q r) rest us e = absurd cc

expression_opens : {h w : ℕ} {ts : List Token} {x : Expr} → Spells h w ts x → (rest us : List Token) → ts ++ rest ≡ opening ∷ us → HasExpression closing us
expression_opens (Spells.primary p) rest us e = primary_opens p rest us e
expression_opens (Spells.prefix t is p under) rest us e = let first : t ≡ opening = cc in let told : prefix_of t ≡ None = ap prefix_of first in absurd cc
expression_opens (Spells.binary {ts = ts} {us = vs} t is p under least q weaker) rest us e =
    expression_opens p ((t ∷ vs) ++ rest) us (sym (append_assoc ts (t ∷ vs) rest) ∙ e)

test_opens : (ts us : List Token) (x : Expr) → ts ≡ opening ∷ us → IsTest ts x → HasExpression closing us
test_opens ts us x e (inl p) = expression_opens p.spells [] us (append-nil ts ∙ e)
test_opens ts us x e (inr (vs, split, p)) = expression_opens p.spells (reserved word.Then ∷ []) us (sym split ∙ e)

-- an expression doesn't end both before a comma and before `)`
two_ends : OneFront IsFront → (us : List Token) → length us ≤ most_tokens → HasExpression comma us → HasExpression closing us → ⊥
two_ends one us few (vs, ws, z, split, p) (vs', ws', z', split', q) =
    let left = subst (λ (xs : List Token). IsFront xs z (length vs)) (sym split) (expression_before comma (λ xs. refl) vs ws z p) in
    let right = subst (λ (xs : List Token). IsFront xs z' (length vs')) (sym split') (expression_before closing (λ xs. refl) vs' ws' z' q) in
    let same = one us z z' (length vs) (length vs') few left right in
    let cut : comma ∷ ws ≡ closing ∷ ws' =
    sym (drop-append_seam vs (comma ∷ ws)) ∙ ap (λ (xs : List Token). drop (length vs) xs) (sym split ∙ split')
    ∙ ap (λ (n : ℕ). drop n (vs' ++ closing ∷ ws')) same.1 ∙ drop-append_seam vs' (closing ∷ ws') in
    cc

pub if_not_primary : OneFront IsFront → (ts : List Token) (x y : Expr) (n : ℕ) → length ts ≤ most_tokens → Begins word.If (λ us. IsTest us x) ts
    → IsPrimaryFront ts y n → ⊥
if_not_primary one ts x y n few (us, split, test) p =
    let found = conditional_begins p.spells (drop n ts) us (take-append-drop n ts ∙ split) in
    two_ends one found.0 (omega (arith, few, ap length split, ap length found.1)) found.2 (test_opens us found.0 x found.1 test)
