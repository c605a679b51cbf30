-- Where a part of a branch's line isn't found, or ends elsewhere, the line is no such item.
use Rattle.std.proofs.Common.{◌≡◌, ◌&&◌, ◌==◌, Bool, true, false, if◌then◌else◌, Result, Ok, Err, inl, inr, ℕ, ◌+◌, ◌-◌, ◌≤◌, List, [], ◌∷◌, ◌++◌, length, take, drop, Some, refl, sym, ap, subst, ◌∙◌, arith, length-drop}
use Rattle.std.specs.List.{slice_get}
use Rattle.std.proofs.Math.Seq.{take-length}
use Rattle.vb_syntax.specs.declared.keyword.Keyword.TheVariants as word
use Rattle.vb_syntax.specs.declared.{keyword.Keyword.Keyword, tokens.{Token.Token, Line.Line}, expression.Expr.Expr, item.Item.Item, words.Context.Context}
use Rattle.vb_syntax.specs.declared.tokens.Token.TheVariants as token
use Rattle.vb_parse_expr.specs.{declared.error.ParseErr.{ParseErr, TheVariants.{Refused, Memory}}, Expressions.Spells, Fronts.IsFront, TypeReading.most_tokens}
use Rattle.vb_parse_stmt.specs.{Items.BeginsYield, SimpleLines.IsPrimaryLine, Statements.IsTest, BlockParts.EndsTest, Reading.{IsItemFrom, front_of, word_front}}
use Rattle.vb_parse_decl.specs.{Answers.Tells, Parts.{reserved, IsExpression}}
use Rattle.vb_syntax.specs.declared.item.Item.TheVariants as item
use Rattle.vb_parse_stmt.specs.declared.front.Front.TheVariants as front
use Rattle.vb_parse_stmt.proofs.{BlockBegins.{PrimaryBegins, begins_not}, BlockParted.{none_left, dropped_at}}
use Rattle.vb_parse_decl.proofs.{Wholes.expression_front, Parted.{expression_before, cut, cut_place, first_dropped}, Refusals.{OneFront, no_expression}}

-- TESTS

test_at_then : (tokens : List Token) (from behind : ℕ) (x : Expr) → from ≤ behind → slice_get tokens behind ≡ Some (reserved word.Then)
    → length tokens ≡ behind + 1 → IsExpression (take (behind - from) (drop from tokens)) x → IsTest (drop from tokens) x
test_at_then tokens from behind x under at size p =
    let rest : drop (behind + 1) tokens ≡ [] = none_left (drop (behind + 1) tokens) (omega (arith, length-drop (behind + 1) tokens)) in
    inr (
      take (behind - from) (drop from tokens),
      cut tokens from behind (reserved word.Then) under at ∙ ap (λ (us : List Token). take (behind - from) (drop from tokens) ++ reserved word.Then ∷ us) rest,
      p,
    )

pub test_at : (tokens : List Token) (from behind : ℕ) (x : Expr) → from ≤ behind → EndsTest tokens behind → IsFront (drop from tokens) x (behind - from)
    → IsTest (drop from tokens) x
test_at tokens from behind x under (inl ends) p =
    let all : take (behind - from) (drop from tokens) ≡ drop from tokens =
    ap (λ (n : ℕ). take n (drop from tokens)) (omega (arith, ends, length-drop from tokens)) ∙ take-length (drop from tokens) in
    inl (record { strength = p.strength; weakest = p.weakest; spells = subst (λ (us : List Token). Spells p.strength p.weakest us x) all p.spells })
test_at tokens from behind x under (inr (at, size)) p =
    test_at_then tokens from behind x under at size (record { strength = p.strength; weakest = p.weakest; spells = p.spells })

pub test_before : (ts us : List Token) (x : Expr) → ts ≡ us ++ reserved word.Then ∷ [] → IsExpression us x → IsFront ts x (length us)
test_before ts us x split p =
    subst (λ (vs : List Token). IsFront vs x (length us)) (sym split) (expression_before (reserved word.Then) (λ vs. refl) us [] x p)

pub no_test_front : (ts : List Token) → ((x : Expr) (n : ℕ) → IsFront ts x n → ⊥) → (x : Expr) → IsTest ts x → ⊥
no_test_front ts none x (inl p) = none x (length ts) (expression_front ts x p)
no_test_front ts none x (inr (us, split, p)) = none x (length us) (test_before ts us x split p)

pub no_test : OneFront IsFront → (tokens : List Token) (from behind : ℕ) (x : Expr) → length tokens ≤ most_tokens → from ≤ length tokens
    → from ≤ behind → IsFront (drop from tokens) x (behind - from) → (EndsTest tokens behind → ⊥) → (y : Expr) → IsTest (drop from tokens) y → ⊥
no_test one tokens from behind x few inside under found other y (inl p) =
    no_expression one tokens from behind x few inside under found (λ e. other (inl e)) y p
no_test one tokens from behind x few inside under found other y (inr (us, split, p)) =
    let same = one (drop from tokens) x y (behind - from) (length us) (omega (arith, few, length-drop from tokens)) found (test_before (drop from tokens) us y split p) in
    let rest = cut_place tokens us [] from behind (reserved word.Then) under same.1 split in
    other (inr (first_dropped tokens [] behind (reserved word.Then) rest, omega (arith, ap length rest, length-drop behind tokens)))

-- SELECT

pub no_select_case : PrimaryBegins → (c : Context) (ts : List Token) → slice_get ts 1 ≡ Some (reserved word.Case) → ((x : Expr) → IsExpression (drop 2 ts) x → ⊥)
    → (x : Item) → IsItemFrom c front.Select ts x → ⊥
no_select_case begins c ts at none (item.Select x) (e, (us, split, inl p)) =
    let rest : drop 1 ts ≡ us = ap (λ (vs : List Token). drop 1 vs) split in
    let there : us ≡ reserved word.Case ∷ drop 2 ts =
    sym rest ∙ dropped_at ts 1 (reserved word.Case) at in
    begins_not begins (reserved word.Case) refl (drop 2 ts) x (subst (λ (vs : List Token). IsExpression vs x) there p)
no_select_case begins c ts at none (item.Select x) (e, (us, split, inr (vs, split', p))) =
    let rest : drop 2 ts ≡ vs = ap (λ (ws : List Token). drop 2 ws) split ∙ ap (λ (ws : List Token). drop 1 ws) split' in
    none x (subst (λ (ws : List Token). IsExpression ws x) (sym rest) p)
no_select_case begins c ts at none x (e, p) = absurd cc

pub no_select : (c : Context) (ts : List Token) → (slice_get ts 1 ≡ Some (reserved word.Case) → ⊥) → ((x : Expr) → IsExpression (drop 1 ts) x → ⊥)
    → (x : Item) → IsItemFrom c front.Select ts x → ⊥
no_select c ts other none (item.Select x) (e, (us, split, inl p)) =
    let rest : drop 1 ts ≡ us = ap (λ (vs : List Token). drop 1 vs) split in
    none x (subst (λ (ws : List Token). IsExpression ws x) (sym rest) p)
no_select c ts other none (item.Select x) (e, (us, split, inr (vs, split', p))) =
    other (first_dropped ts vs 1 (reserved word.Case) (ap (λ (ws : List Token). drop 1 ws) split ∙ split'))
no_select c ts other none x (e, p) = absurd cc

-- IF, OR A LINE THAT BEGINS WITH A CONDITIONAL EXPRESSION

if_word : (w : Keyword) → word_front w ≡ front.If → w ≡ word.If
if_word word.If e = refl
if_word w e = absurd cc

not_yield : (a : Bool) → (if a then front.Yield else front.Other) ≡ front.If → ⊥
not_yield true e = cc
not_yield false e = cc

if_first : (c : Context) (ts : List Token) → front_of c ts ≡ front.If → ts ≡ reserved word.If ∷ drop 1 ts
if_first c (token.Keyword w ∷ ts) e = ap (λ (v : Keyword). reserved v ∷ ts) (if_word w e)
if_first c (token.Name n ∷ ts) e = absurd (not_yield (c.in_iterator && (n.index == c.words.yields.index)) e)
if_first c ts e = absurd cc

if_no_yield : (c : Context) (ts : List Token) → ts ≡ reserved word.If ∷ drop 1 ts → BeginsYield c ts → ⊥
if_no_yield c ts here (on, (us, split)) = absurd cc

of_line : (c : Context) (ts : List Token) → (BeginsYield c ts → ⊥) → (x : Item) → IsPrimaryLine ts x → IsItemFrom c front.If ts x
of_line c ts free (item.Assignment x y) p = (refl, (free, p))
of_line c ts free (item.CompoundAssignment o x y) p = (refl, (free, p))
of_line c ts free (item.Invocation x) p = (refl, inl (free, p))
of_line c ts free x p = absurd p

no_if_or_call : (c : Context) (ts : List Token) → ts ≡ reserved word.If ∷ drop 1 ts → ((x : Expr) → IsTest (drop 1 ts) x → ⊥) → ((x : Item) → IsPrimaryLine ts x → ⊥)
    → (x : Item) → IsItemFrom c front.If ts x → ⊥
no_if_or_call c ts here none nothing (item.If x) (e, (us, split, p)) =
    let rest : us ≡ drop 1 ts = sym (ap (λ (vs : List Token). drop 1 vs) split) in none x (subst (λ (vs : List Token). IsTest vs x) rest p)
no_if_or_call c ts here none nothing (item.Assignment x y) (e, (free, p)) = nothing (item.Assignment x y) p
no_if_or_call c ts here none nothing (item.CompoundAssignment o x y) (e, (free, p)) = nothing (item.CompoundAssignment o x y) p
no_if_or_call c ts here none nothing (item.Invocation x) (e, inl (free, p)) = nothing (item.Invocation x) p
no_if_or_call c ts here none nothing (item.Invocation x) (e, inr (us, split, p)) = absurd cc
no_if_or_call c ts here none nothing x (e, p) = absurd cc

pub line_told : (c : Context) (line : Line) → front_of c line.tokens ≡ front.If → ((x : Expr) → IsTest (drop 1 line.tokens) x → ⊥) → (r : Result Item ParseErr)
    → Tells IsPrimaryLine line line.tokens r → Tells (IsItemFrom c front.If) line line.tokens r
line_told c line e none (Ok x) p = of_line c line.tokens (if_no_yield c line.tokens (if_first c line.tokens e)) x p
line_told c line e none (Err (Refused f)) told = (no_if_or_call c line.tokens (if_first c line.tokens e) none told.0, told.1)
line_told c line e none (Err Memory) told = tt
