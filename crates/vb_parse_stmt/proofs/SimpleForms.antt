-- Where nothing is spelled behind a word, no statement is that begins with it.
use Rattle.std.proofs.Common.{◌≡◌, inl, inr, true, List, [], ◌∷◌, length, drop, Option, refl, sym, ap, subst, ◌∙◌, ◌≤◌, arith, length-drop}
use Rattle.vb_text.specs.declared.names.Name.{Name}
use Rattle.vb_syntax.specs.declared.keyword.Keyword.TheVariants as word
use Rattle.vb_syntax.specs.declared.{tokens.Token.Token, words.Context.Context, expression.Expr.Expr, item.Item.Item}
use Rattle.vb_syntax.specs.declared.expression.Expr.TheVariants as e
use Rattle.vb_syntax.specs.declared.item.Item.TheVariants as item
use Rattle.vb_parse_stmt.specs.declared.front.Front.TheVariants as front
use Rattle.vb_parse_expr.specs.{Fronts.{IsPrimaryFront, begins_primary}, TypeReading.most_tokens}
use Rattle.vb_parse_decl.specs.Parts.{reserved, IsExpression, IsPrimary, IsOptional}
use Rattle.vb_parse_stmt.specs.{Statements.IsRaised, SimpleLines.{IsTwo, NamesEvent}, Reading.{front_of, IsItemFrom}}
use Rattle.vb_parse_decl.proofs.{Wholes.primary_front, Refusals.OneFront}
use Rattle.vb_parse_stmt.proofs.SimpleFirsts.{PrimaryBegins, starts, behind}

pub no_throw : (c : Context) (ts : List Token) → ((x : Option Expr) → IsOptional IsExpression (drop 1 ts) x → ⊥) → (z : Item) → IsItemFrom c front.Throw ts z → ⊥
no_throw c ts none (item.Throw x) (f, p) = none x (behind word.Throw (λ us. IsOptional IsExpression us x) ts p)
no_throw c ts none z (f, p) = absurd cc

pub no_return : (c : Context) (ts : List Token) → ((x : Option Expr) → IsOptional IsExpression (drop 1 ts) x → ⊥) → (z : Item) → IsItemFrom c front.Return ts z → ⊥
no_return c ts none (item.Return x) (f, p) = none x (behind word.Return (λ us. IsOptional IsExpression us x) ts p)
no_return c ts none z (f, p) = absurd cc

pub no_yield_item : (c : Context) (ts : List Token) → ((x : Expr) → IsExpression (drop 1 ts) x → ⊥) → (z : Item) → IsItemFrom c front.Yield ts z → ⊥
no_yield_item c ts none (item.Yield x) (f, (inside, (us, split, p))) =
    none x (subst (λ (vs : List Token). IsExpression vs x) (sym (ap (λ (vs : List Token). drop 1 vs) split)) p)
no_yield_item c ts none z (f, p) = absurd cc

pub no_add : (c : Context) (ts : List Token) → ((p : Expr × Expr) → IsTwo (drop 1 ts) p → ⊥) → (z : Item) → IsItemFrom c front.AddHandler ts z → ⊥
no_add c ts none (item.AddHandler x y) (f, p) = none (x, y) (behind word.AddHandler (λ us. IsTwo us (x, y)) ts p)
no_add c ts none z (f, p) = absurd cc

pub no_remove : (c : Context) (ts : List Token) → ((p : Expr × Expr) → IsTwo (drop 1 ts) p → ⊥) → (z : Item) → IsItemFrom c front.RemoveHandler ts z → ⊥
no_remove c ts none (item.RemoveHandler x y) (f, p) = none (x, y) (behind word.RemoveHandler (λ us. IsTwo us (x, y)) ts p)
no_remove c ts none z (f, p) = absurd cc

-- CALLS

no_call_first : (us : List Token) → (t : Token) × (vs : List Token) × (reserved word.Call ∷ us ≡ t ∷ vs) × (begins_primary t ≡ true) → ⊥
no_call_first us (t, vs, split, found) =
    let same : reserved word.Call ≡ t = cc in
    let none : begins_primary (reserved word.Call) ≡ true = ap begins_primary same ∙ found in cc

pub no_call : PrimaryBegins → (c : Context) (ts : List Token) → front_of c ts ≡ front.Call → ((x : Expr) → IsPrimary (drop 1 ts) x → ⊥)
    → (z : Item) → IsItemFrom c front.Call ts z → ⊥
no_call begins c ts here none (item.Invocation x) (f, inl p) =
    let first = starts c front.Call word.Call refl ts here in
    no_call_first (drop 1 ts) (subst (λ (us : List Token). (t : Token) × (vs : List Token) × (us ≡ t ∷ vs) × (begins_primary t ≡ true)) first
    (begins ts x (length ts) (primary_front ts x p.1)))
no_call begins c ts here none (item.Invocation x) (f, inr p) = none x (behind word.Call (λ us. IsPrimary us x) ts p)
no_call begins c ts here none z (f, p) = absurd cc

-- EVENTS

raised_part : (us : List Token) (n : Name) (xs : List Expr) → IsRaised us n xs → (x : Expr) × (IsPrimary us x) × NamesEvent x n xs
raised_part us n xs (inl p) = (e.Invocation (e.SimpleName n []) xs, p, inl refl)
raised_part us n xs (inr p) = (e.SimpleName n [], p.0, inr (refl, p.1))

pub raised_so : (us : List Token) (x : Expr) (n : Name) (xs : List Expr) → IsPrimary us x → NamesEvent x n xs → IsRaised us n xs
raised_so us x n xs p (inl same) = inl (subst (λ (y : Expr). IsPrimary us y) same p)
raised_so us x n xs p (inr same) = inr (subst (λ (y : Expr). IsPrimary us y) same.0 p, same.1)

no_raised_part : (us : List Token) (n : Name) (xs : List Expr) → ((x : Expr) → IsPrimary us x → NamesEvent x n xs → ⊥)
    → (x : Expr) × (IsPrimary us x) × NamesEvent x n xs → ⊥
no_raised_part us n xs none (x, p, names) = none x p names

pub no_raise : (c : Context) (ts : List Token) → ((x : Expr) → IsPrimary (drop 1 ts) x → (n : Name) (xs : List Expr) → NamesEvent x n xs → ⊥)
    → (z : Item) → IsItemFrom c front.RaiseEvent ts z → ⊥
no_raise c ts none (item.RaiseEvent n xs) (f, p) =
    no_raised_part (drop 1 ts) n xs (λ x q names. none x q n xs names)
    (raised_part (drop 1 ts) n xs (behind word.RaiseEvent (λ us. IsRaised us n xs) ts p))
no_raise c ts none z (f, p) = absurd cc

-- the primary that is found names no event
pub other_raised : OneFront IsPrimaryFront → (ts : List Token) (x : Expr) → length ts ≤ most_tokens → IsPrimary (drop 1 ts) x
    → ((n : Name) (xs : List Expr) → NamesEvent x n xs → ⊥) → (y : Expr) → IsPrimary (drop 1 ts) y → (n : Name) (xs : List Expr) → NamesEvent y n xs → ⊥
other_raised one ts x few found none y p n xs names =
    let short : length (drop 1 ts) ≤ most_tokens = omega (arith, length-drop 1 ts) in
    let same = one (drop 1 ts) y x (length (drop 1 ts)) (length (drop 1 ts)) short (primary_front (drop 1 ts) y p) (primary_front (drop 1 ts) x found) in
    none n xs (subst (λ (z : Expr). NamesEvent z n xs) same.0 names)
