-- A new array in a variable.
use Rattle.std.proofs.Common.{◌≡◌, ℕ, ◌-◌, ◌≤◌, List, drop, length, refl, sym, ap, ◌∙◌, subst, arith, length-drop}
use Rattle.vb_syntax.specs.declared.{tokens.Token.Token, expression.Expr.Expr, item.Item.Item, words.Context.Context}
use Rattle.vb_syntax.specs.declared.item.Item.TheVariants as item
use Rattle.vb_parse_expr.specs.{TypeReading.most_tokens, Fronts.IsFront}
use Rattle.vb_parse_decl.specs.{Declarators.IsBound, DeclaredReading.{IsPartAt, anything}}
use Rattle.vb_parse_decl.proofs.{Refusals.OneFront, DeclaredParts.{one_front, one_bound, part_whole}}
use Rattle.vb_parse_stmt.specs.declared.front.Front.TheVariants as front
use Rattle.vb_parse_stmt.specs.Reading.{IsItemFrom}

pub redim_bound : (c : Context) (ts : List Token) (y : Item) → IsItemFrom c front.ReDim ts y → (x : Expr) × IsPartAt anything IsBound (drop 2 ts) x (length (drop 2 ts))
redim_bound c ts (item.ReDim n x) (e, (us, split, (t, vs, split', named, p))) =
    let rest : drop 2 ts ≡ vs = ap (λ (ws : List Token). drop 2 ws) split ∙ ap (λ (ws : List Token). drop 1 ws) split' in
    (x, subst (λ (ws : List Token). IsPartAt anything IsBound ws x (length ws)) (sym rest) (part_whole anything IsBound vs x refl p))
redim_bound c ts y (e, p) = absurd cc

pub no_redim : (c : Context) (ts : List Token) → ((x : Expr) (n : ℕ) → IsPartAt anything IsBound (drop 2 ts) x n → ⊥)
    → (y : Item) → IsItemFrom c front.ReDim ts y → ⊥
no_redim c ts none y p = let there = redim_bound c ts y p in none there.0 (length (drop 2 ts)) there.1

pub other_redim : OneFront IsFront → (c : Context) (tokens : List Token) (behind : ℕ) (x : Expr) → length tokens ≤ most_tokens → 2 ≤ length tokens → 2 ≤ behind
    → IsPartAt anything IsBound (drop 2 tokens) x (behind - 2) → (behind ≡ length tokens → ⊥) → (y : Item) → IsItemFrom c front.ReDim tokens y → ⊥
other_redim one c tokens behind x few long under found short y p =
    let there = redim_bound c tokens y p in
    let same = one_front anything IsBound (one_bound one) (drop 2 tokens) x there.0 (behind - 2) (length (drop 2 tokens))
    (omega (arith, few, length-drop 2 tokens)) found there.1 in
    short (omega (arith, same.1, found.within, length-drop 2 tokens, under))
