-- Where a part of a loop's line isn't found, the line is no such item.
use Rattle.std.proofs.Common.{◌≡◌, ℕ, ◌+◌, ◌-◌, ◌≤◌, true, false, List, ◌∷◌, ◌++◌, length, take, drop, Option, Some, None, refl, sym, ap, subst, ◌∙◌, arith, length-drop}
use Rattle.std.specs.List.{slice_get}
use Rattle.std.proofs.Math.Seq.{take-length}
use Rattle.vb_syntax.specs.declared.keyword.Keyword.TheVariants as word
use Rattle.vb_syntax.specs.declared.{tokens.Token.Token, expression.Expr.Expr, statement.{LoopCondition.LoopCondition, LoopControlVariable.LoopControlVariable}, words.{ContextualWords.ContextualWords, Context.Context}, item.Item.Item}
use Rattle.vb_syntax.specs.declared.tokens.Token.TheVariants as token
use Rattle.vb_syntax.specs.declared.statement.LoopCondition.TheVariants as condition
use Rattle.vb_syntax.specs.declared.item.Item.TheVariants as item
use Rattle.vb_parse_stmt.specs.declared.front.Front.TheVariants as front
use Rattle.vb_parse_expr.specs.{Words.name_of, Types.IsTypeFront, Expressions.Spells, Fronts.IsFront, TypeReading.most_tokens}
use Rattle.vb_parse_decl.specs.Parts.{reserved, equal, IsExpression, IsOptional}
use Rattle.vb_parse_stmt.specs.{Statements.{IsCondition, IsVariable, IsLimit, IsRange}, Reading.IsItemFrom, BlockParts.{StandsFrom, IsVariableFront, IsCounted, IsEach}}
use Rattle.vb_parse_decl.proofs.{Wholes.expression_front, Parted.{EndsExpression, EndsType, expression_before, parted_at, first_dropped}, Refusals.{OneFront, no_expression}}
use Rattle.vb_parse_stmt.proofs.{BlockParted.{EndedBy, no_left, no_parted, dropped_at}, LoopVariables.{variable_ended, variable_taken, variable_one}}

pub no_while_condition : (words : ContextualWords) (ts us : List Token) → ts ≡ reserved word.While ∷ us → ((x : Expr) → IsExpression us x → ⊥)
    → (o : Option LoopCondition) → IsOptional (IsCondition words) ts o → ⊥
no_while_condition words ts us here none None p = absurd cc
no_while_condition words ts us here none (Some (condition.While x)) (vs, split, p) =
    let same : vs ≡ us = cc in none x (subst (λ (ws : List Token). IsExpression ws x) same p)
no_while_condition words ts us here none (Some (condition.Until x)) (vs, split, p) = absurd cc

pub no_until_condition : (words : ContextualWords) (ts us : List Token) → ts ≡ token.Name words.until ∷ us → ((x : Expr) → IsExpression us x → ⊥)
    → (o : Option LoopCondition) → IsOptional (IsCondition words) ts o → ⊥
no_until_condition words ts us here none None p = absurd cc
no_until_condition words ts us here none (Some (condition.While x)) (vs, split, p) = absurd cc
no_until_condition words ts us here none (Some (condition.Until x)) (vs, split, p) =
    let same : vs ≡ us = cc in none x (subst (λ (ws : List Token). IsExpression ws x) same p)

-- LIMITS AND RANGES

pub expression_ended : (t : Token) → EndsExpression t → EndedBy t IsExpression IsFront
expression_ended t ends left right x p = expression_before t ends left right x p

pub expression_taken : (ts : List Token) (x : Expr) (n : ℕ) → IsFront ts x n → IsExpression (take n ts) x
expression_taken ts x n p = record { strength = p.strength; weakest = p.weakest; spells = p.spells }

pub expression_all : (tokens : List Token) (from behind : ℕ) (x : Expr) → StandsFrom IsFront from (drop from tokens) (x, behind) → behind ≡ length tokens
    → IsExpression (drop from tokens) x
expression_all tokens from behind x (under, p) ends =
    let all : take (behind - from) (drop from tokens) ≡ drop from tokens =
    ap (λ (n : ℕ). take n (drop from tokens)) (omega (arith, ends, length-drop from tokens)) ∙ take-length (drop from tokens) in
    record { strength = p.strength; weakest = p.weakest; spells = subst (λ (us : List Token). Spells p.strength p.weakest us x) all p.spells }

-- where no expression stands from the place on, all the tokens from there are none
pub no_whole : (from : ℕ) (ts : List Token) → ((p : Expr × ℕ) → StandsFrom IsFront from ts p → ⊥) → (x : Expr) → IsExpression ts x → ⊥
no_whole from ts none x p =
    let size : (from + length ts) - from ≡ length ts = omega arith in
    none (x, from + length ts) (omega arith, subst (λ (n : ℕ). IsFront ts x n) (sym size) (expression_front ts x p))

pub no_limit : (from : ℕ) (ts : List Token) → ((p : Expr × ℕ) → StandsFrom IsFront from ts p → ⊥) → (q : Expr × Option Expr) → IsLimit ts q → ⊥
no_limit from ts none (x, None) p = no_whole from ts none x p
no_limit from ts none (x, Some s) p =
    no_left (reserved word.Step) IsExpression IsExpression IsFront (expression_ended (reserved word.Step) (λ us. refl)) from ts none x s p

pub other_limit : OneFront IsFront → (tokens : List Token) (from behind : ℕ) (x : Expr) → length tokens ≤ most_tokens → from ≤ length tokens
    → StandsFrom IsFront from (drop from tokens) (x, behind) → (behind ≡ length tokens → ⊥)
    → ((s : Expr) → slice_get tokens behind ≡ Some (reserved word.Step) → IsExpression (drop (behind + 1) tokens) s → ⊥)
    → (q : Expr × Option Expr) → IsLimit (drop from tokens) q → ⊥
other_limit one tokens from behind x few inside (under, found) short none (y, None) p = no_expression one tokens from behind x few inside under found short y p
other_limit one tokens from behind x few inside (under, found) short none (y, Some s) p =
    no_parted (reserved word.Step) IsExpression IsExpression IsFront (expression_ended (reserved word.Step) (λ us. refl)) one tokens from behind x few under found none y s p

pub no_range : (from : ℕ) (ts : List Token) → ((p : Expr × ℕ) → StandsFrom IsFront from ts p → ⊥) → (q : Expr × (Expr × Option Expr)) → IsRange ts q → ⊥
no_range from ts none q p = no_left (reserved word.To) IsExpression IsLimit IsFront (expression_ended (reserved word.To) (λ us. refl)) from ts none q.0 q.1 p

pub other_range : OneFront IsFront → (tokens : List Token) (from behind : ℕ) (x : Expr) → length tokens ≤ most_tokens
    → StandsFrom IsFront from (drop from tokens) (x, behind)
    → ((l : Expr × Option Expr) → slice_get tokens behind ≡ Some (reserved word.To) → IsLimit (drop (behind + 1) tokens) l → ⊥)
    → (q : Expr × (Expr × Option Expr)) → IsRange (drop from tokens) q → ⊥
other_range one tokens from behind x few (under, found) none q p =
    no_parted (reserved word.To) IsExpression IsLimit IsFront (expression_ended (reserved word.To) (λ us. refl)) one tokens from behind x few under found none q.0 q.1 p

-- VARIABLES AND WHAT THEY GO THROUGH

type_over_in : EndsType (reserved word.In)
type_over_in true true ts = refl
type_over_in true false ts = refl
type_over_in false true ts = refl
type_over_in false false ts = refl

pub type_over_equal : EndsType equal
type_over_equal true true ts = refl
type_over_equal true false ts = refl
type_over_equal false true ts = refl
type_over_equal false false ts = refl

pub variable_in : EndedBy (reserved word.In) IsVariable IsVariableFront
variable_in = variable_ended (reserved word.In) type_over_in (λ us. refl)

pub variable_equal : EndedBy equal IsVariable IsVariableFront
variable_equal = variable_ended equal type_over_equal (λ us. refl)

pub no_each : (from : ℕ) (ts : List Token) → ((p : LoopControlVariable × ℕ) → StandsFrom IsVariableFront from ts p → ⊥)
    → (q : LoopControlVariable × Expr) → IsEach ts q → ⊥
no_each from ts none q p = no_left (reserved word.In) IsVariable IsExpression IsVariableFront variable_in from ts none q.0 q.1 p

pub other_each : OneFront IsTypeFront → (tokens : List Token) (from behind : ℕ) (v : LoopControlVariable) → length tokens ≤ most_tokens
    → StandsFrom IsVariableFront from (drop from tokens) (v, behind)
    → ((x : Expr) → slice_get tokens behind ≡ Some (reserved word.In) → IsExpression (drop (behind + 1) tokens) x → ⊥)
    → (q : LoopControlVariable × Expr) → IsEach (drop from tokens) q → ⊥
other_each one tokens from behind v few (under, found) none q p =
    no_parted (reserved word.In) IsVariable IsExpression IsVariableFront variable_in (variable_one one) tokens from behind v few under found none q.0 q.1 p

pub each_found : (tokens : List Token) (from behind : ℕ) (v : LoopControlVariable) (x : Expr) → StandsFrom IsVariableFront from (drop from tokens) (v, behind)
    → slice_get tokens behind ≡ Some (reserved word.In) → IsExpression (drop (behind + 1) tokens) x → IsEach (drop from tokens) (v, x)
each_found tokens from behind v x (under, found) at p =
    parted_at (reserved word.In) IsVariable IsExpression tokens from behind v x under at (variable_taken (drop from tokens) v (behind - from) found) p

pub no_counted : (from : ℕ) (ts : List Token) → ((p : LoopControlVariable × ℕ) → StandsFrom IsVariableFront from ts p → ⊥)
    → (q : LoopControlVariable × (Expr × (Expr × Option Expr))) → IsCounted ts q → ⊥
no_counted from ts none q p = no_left equal IsVariable IsRange IsVariableFront variable_equal from ts none q.0 q.1 p

pub other_counted : OneFront IsTypeFront → (tokens : List Token) (from behind : ℕ) (v : LoopControlVariable) → length tokens ≤ most_tokens
    → StandsFrom IsVariableFront from (drop from tokens) (v, behind)
    → ((r : Expr × (Expr × Option Expr)) → slice_get tokens behind ≡ Some equal → IsRange (drop (behind + 1) tokens) r → ⊥)
    → (q : LoopControlVariable × (Expr × (Expr × Option Expr))) → IsCounted (drop from tokens) q → ⊥
other_counted one tokens from behind v few (under, found) none q p =
    no_parted equal IsVariable IsRange IsVariableFront variable_equal (variable_one one) tokens from behind v few under found none q.0 q.1 p

pub counted_found : (tokens : List Token) (from behind : ℕ) (v : LoopControlVariable) (r : Expr × (Expr × Option Expr))
    → StandsFrom IsVariableFront from (drop from tokens) (v, behind)
    → slice_get tokens behind ≡ Some equal → IsRange (drop (behind + 1) tokens) r → IsCounted (drop from tokens) (v, r)
counted_found tokens from behind v r (under, found) at p =
    parted_at equal IsVariable IsRange tokens from behind v r under at (variable_taken (drop from tokens) v (behind - from) found) p

pub range_found : (tokens : List Token) (from behind : ℕ) (x : Expr) (l : Expr × Option Expr) → StandsFrom IsFront from (drop from tokens) (x, behind)
    → slice_get tokens behind ≡ Some (reserved word.To) → IsLimit (drop (behind + 1) tokens) l → IsRange (drop from tokens) (x, l)
range_found tokens from behind x l (under, found) at p =
    parted_at (reserved word.To) IsExpression IsLimit tokens from behind x l under at (expression_taken (drop from tokens) x (behind - from) found) p

pub limit_found : (tokens : List Token) (from behind : ℕ) (x s : Expr) → StandsFrom IsFront from (drop from tokens) (x, behind)
    → slice_get tokens behind ≡ Some (reserved word.Step) → IsExpression (drop (behind + 1) tokens) s → IsLimit (drop from tokens) (x, Some s)
limit_found tokens from behind x s (under, found) at p =
    parted_at (reserved word.Step) IsExpression IsExpression tokens from behind x s under at (expression_taken (drop from tokens) x (behind - from) found) p

-- FOR AND FOR EACH

pub no_for_each : (c : Context) (ts : List Token) → slice_get ts 1 ≡ Some (reserved word.Each) → ((q : LoopControlVariable × Expr) → IsEach (drop 2 ts) q → ⊥)
    → (x : Item) → IsItemFrom c front.For ts x → ⊥
no_for_each c ts at none (item.For v a b s) (e, (us, split, p)) =
    let name = p.is_left in
    let whole : drop 1 ts ≡ name.0 ∷ (name.1 ++ equal ∷ p.right) =
    ap (λ (vs : List Token). drop 1 vs) split ∙ p.split ∙ ap (λ (vs : List Token). vs ++ equal ∷ p.right) name.2 in
    let first : name.0 ≡ reserved word.Each = cc (whole, dropped_at ts 1 (reserved word.Each) at) in
    let told : name_of name.0 ≡ None = ap name_of first in absurd (cc (told, name.3))
no_for_each c ts at none (item.ForEach v x) (e, (us, split, (vs, split', p))) =
    let rest : vs ≡ drop 2 ts = sym (ap (λ (ws : List Token). drop 2 ws) split ∙ ap (λ (ws : List Token). drop 1 ws) split') in
    none (v, x) (subst (λ (ws : List Token). IsEach ws (v, x)) rest p)
no_for_each c ts at none x (e, p) = absurd cc

pub no_for : (c : Context) (ts : List Token) → (slice_get ts 1 ≡ Some (reserved word.Each) → ⊥)
    → ((q : LoopControlVariable × (Expr × (Expr × Option Expr))) → IsCounted (drop 1 ts) q → ⊥) → (x : Item) → IsItemFrom c front.For ts x → ⊥
no_for c ts other none (item.For v a b s) (e, (us, split, p)) =
    let rest : us ≡ drop 1 ts = sym (ap (λ (ws : List Token). drop 1 ws) split) in
    none (v, (a, (b, s))) (subst (λ (ws : List Token). IsCounted ws (v, (a, (b, s)))) rest p)
no_for c ts other none (item.ForEach v x) (e, (us, split, (vs, split', p))) =
    other (first_dropped ts vs 1 (reserved word.Each) (ap (λ (ws : List Token). drop 1 ws) split ∙ split'))
no_for c ts other none x (e, p) = absurd cc
