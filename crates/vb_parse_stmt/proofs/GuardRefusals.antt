-- Where a part of a line that guards a block isn't found, the line is no such item.
use Rattle.std.proofs.Common.{◌≡◌, ℕ, ◌+◌, ◌-◌, ◌≤◌, ◌<◌, true, false, List, [], ◌∷◌, ◌++◌, length, take, drop, Option, Some, None, refl, sym, ap, subst, ◌∙◌, arith, length-drop}
use Rattle.std.specs.List.{slice_get}
use Rattle.std.proofs.Math.Seq.{take-length}
use Rattle.vb_syntax.specs.declared.keyword.Keyword.TheVariants as word
use Rattle.vb_syntax.specs.declared.{tokens.Token.Token, expression.Expr.Expr, statement.CatchVariable.CatchVariable, item.Item.Item, words.Context.Context}
use Rattle.vb_syntax.specs.declared.item.Item.TheVariants as item
use Rattle.vb_parse_stmt.specs.declared.front.Front.TheVariants as front
use Rattle.vb_parse_expr.specs.{Words.name_of, Types.IsTypeFront, TypeReading.most_tokens}
use Rattle.vb_parse_decl.specs.Parts.{reserved, IsExpression}
use Rattle.vb_parse_stmt.specs.{Statements.IsCatchVariable, Reading.IsItemFrom, BlockParts.{StandsFrom, IsCatchVariableFront, IsCaughtPair}}
use Rattle.vb_parse_decl.proofs.{Wholes.type_front, Parted.{EndsType, parted_at, first_dropped}, Refusals.OneFront}
use Rattle.vb_parse_stmt.proofs.{BlockParted.{EndedBy, no_left, no_parted, not_whole}, LoopVariables.{catch_variable_ended, catch_variable_taken, catch_variable_one}}

-- CATCH

type_over_when : EndsType (reserved word.When)
type_over_when true true ts = refl
type_over_when true false ts = refl
type_over_when false true ts = refl
type_over_when false false ts = refl

pub variable_when : EndedBy (reserved word.When) IsCatchVariable IsCatchVariableFront
variable_when = catch_variable_ended (reserved word.When) type_over_when (λ us. refl)

-- a variable that all the tokens are stands at their front
pub catch_variable_front : (ts : List Token) (v : CatchVariable) → IsCatchVariable ts v → IsCatchVariableFront ts v (length ts)
catch_variable_front ts v (t, us, split, named, (ws, split', p)) =
    let long : length ts ≡ length ws + 2 = omega (arith, ap length split, ap length split') in
    let size : length ws ≡ length ts - 2 = omega (arith, long) in
    (t, us, split, named, (ws, split', (omega (arith, long), subst (λ (k : ℕ). IsTypeFront ws v.declared k) size (type_front ws v.declared p))))

no_whole_variable : (from : ℕ) (ts : List Token) → ((p : CatchVariable × ℕ) → StandsFrom IsCatchVariableFront from ts p → ⊥) → (v : CatchVariable) → IsCatchVariable ts v → ⊥
no_whole_variable from ts none v p =
    let size : (from + length ts) - from ≡ length ts = omega arith in
    none (v, from + length ts) (omega arith, subst (λ (n : ℕ). IsCatchVariableFront ts v n) (sym size) (catch_variable_front ts v p))

pub variable_all : (tokens : List Token) (from behind : ℕ) (v : CatchVariable) → StandsFrom IsCatchVariableFront from (drop from tokens) (v, behind)
    → behind ≡ length tokens → IsCatchVariable (drop from tokens) v
variable_all tokens from behind v (under, p) ends =
    let all : take (behind - from) (drop from tokens) ≡ drop from tokens =
    ap (λ (n : ℕ). take n (drop from tokens)) (omega (arith, ends, length-drop from tokens)) ∙ take-length (drop from tokens) in
    subst (λ (us : List Token). IsCatchVariable us v) all (catch_variable_taken (drop from tokens) v (behind - from) p)

pub no_caught_when : (ts us : List Token) → ts ≡ reserved word.When ∷ us → ((x : Expr) → IsExpression us x → ⊥)
    → (q : Option CatchVariable × Option Expr) → IsCaughtPair ts q → ⊥
no_caught_when ts us here none (None, None) p = absurd cc
no_caught_when ts us here none (None, Some x) (vs, split, p) =
    let same : vs ≡ us = cc in none x (subst (λ (ws : List Token). IsExpression ws x) same p)
no_caught_when ts us here none (Some v, None) (t, vs, split, named, p) =
    let first : t ≡ reserved word.When = cc in let told : name_of t ≡ None = ap name_of first in absurd (cc (told, named))
no_caught_when ts us here none (Some v, Some x) p =
    let name = p.is_left in
    let whole : ts ≡ name.0 ∷ (name.1 ++ reserved word.When ∷ p.right) = p.split ∙ ap (λ (vs : List Token). vs ++ reserved word.When ∷ p.right) name.2 in
    let first : name.0 ≡ reserved word.When = cc (whole, here) in
    let told : name_of name.0 ≡ None = ap name_of first in absurd (cc (told, name.3))

longer_not_empty : (tokens : List Token) → 1 < length tokens → drop 1 tokens ≡ [] → ⊥
longer_not_empty tokens longer e = omega (arith, longer, ap length e, length-drop 1 tokens)

pub no_caught : (tokens : List Token) → 1 < length tokens → (slice_get tokens 1 ≡ Some (reserved word.When) → ⊥)
    → ((p : CatchVariable × ℕ) → StandsFrom IsCatchVariableFront 1 (drop 1 tokens) p → ⊥) → (q : Option CatchVariable × Option Expr) → IsCaughtPair (drop 1 tokens) q → ⊥
no_caught tokens longer other none (None, None) p = longer_not_empty tokens longer p
no_caught tokens longer other none (None, Some x) (vs, split, p) = other (first_dropped tokens vs 1 (reserved word.When) split)
no_caught tokens longer other none (Some v, None) p = no_whole_variable 1 (drop 1 tokens) none v p
no_caught tokens longer other none (Some v, Some x) p =
    no_left (reserved word.When) IsCatchVariable IsExpression IsCatchVariableFront variable_when 1 (drop 1 tokens) none v x p

pub other_caught : OneFront IsTypeFront → (tokens : List Token) (behind : ℕ) (v : CatchVariable) → 1 < length tokens → (slice_get tokens 1 ≡ Some (reserved word.When) → ⊥)
    → length tokens ≤ most_tokens → StandsFrom IsCatchVariableFront 1 (drop 1 tokens) (v, behind) → (behind ≡ length tokens → ⊥)
    → ((x : Expr) → slice_get tokens behind ≡ Some (reserved word.When) → IsExpression (drop (behind + 1) tokens) x → ⊥)
    → (q : Option CatchVariable × Option Expr) → IsCaughtPair (drop 1 tokens) q → ⊥
other_caught one tokens behind v longer other few (under, found) short none (None, None) p = longer_not_empty tokens longer p
other_caught one tokens behind v longer other few (under, found) short none (None, Some x) (vs, split, p) = other (first_dropped tokens vs 1 (reserved word.When) split)
other_caught one tokens behind v longer other few (under, found) short none (Some w, None) p =
    not_whole IsCatchVariableFront (catch_variable_one one) tokens 1 behind v few (omega (arith, longer)) under found short w (catch_variable_front (drop 1 tokens) w p)
other_caught one tokens behind v longer other few (under, found) short none (Some w, Some x) p =
    no_parted (reserved word.When) IsCatchVariable IsExpression IsCatchVariableFront variable_when (catch_variable_one one) tokens 1 behind v few under found none w x p

pub caught_found : (tokens : List Token) (behind : ℕ) (v : CatchVariable) (x : Expr) → StandsFrom IsCatchVariableFront 1 (drop 1 tokens) (v, behind)
    → slice_get tokens behind ≡ Some (reserved word.When) → IsExpression (drop (behind + 1) tokens) x → IsCaughtPair (drop 1 tokens) (Some v, Some x)
caught_found tokens behind v x (under, found) at p =
    parted_at (reserved word.When) IsCatchVariable IsExpression tokens 1 behind v x under at (catch_variable_taken (drop 1 tokens) v (behind - 1) found) p

pub no_catch : (c : Context) (ts : List Token) → ((q : Option CatchVariable × Option Expr) → IsCaughtPair (drop 1 ts) q → ⊥) → (x : Item) → IsItemFrom c front.Catch ts x → ⊥
no_catch c ts none (item.Catch v x) (e, (us, split, p)) =
    let rest : us ≡ drop 1 ts = sym (ap (λ (ws : List Token). drop 1 ws) split) in
    none (v, x) (subst (λ (ws : List Token). IsCaughtPair ws (v, x)) rest p)
no_catch c ts none x (e, p) = absurd cc
