-- A line is one `Case` at most.
use Rattle.std.proofs.Common.{◌≡◌, ℕ, ◌≤◌, ◌<◌, true, List, [], ◌∷◌, length, drop, Some, None, refl, sym, ap, subst, ◌∙◌, arith, length-drop}
use Rattle.std.specs.List.{slice_get}
use Rattle.vb_syntax.specs.declared.keyword.Keyword.TheVariants as word
use Rattle.vb_syntax.specs.declared.{tokens.Token.Token, expression.Expr.Expr, statement.CaseItem.CaseItem, item.Item.Item, words.Context.Context}
use Rattle.vb_syntax.specs.declared.statement.CaseItem.TheVariants as case_item
use Rattle.vb_syntax.specs.declared.item.Item.TheVariants as item
use Rattle.vb_parse_stmt.specs.declared.front.Front.TheVariants as front
use Rattle.vb_parse_expr.specs.{TypeReading.most_tokens, Fronts.IsFront}
use Rattle.vb_parse_decl.specs.{Parts.{reserved, AreListed}, DeclaredReading.{IsPartAt, is_over, is_end}}
use Rattle.vb_parse_stmt.specs.{Statements.IsCaseItem, Items.IsOtherItem, Reading.IsItemFrom, CaseReading.{relation_front, is_to}}
use Rattle.vb_parse_decl.proofs.{Refusals.OneFront, DeclaredParts.{one_front, part_whole, expression_at}, DeclaredLists.{one_list, first_of_list}, DeclaredNames.declarator_ends, DeclaredValues.over_ends, DeclaredDeclarators.Readings}
use Rattle.vb_parse_stmt.proofs.{BlockBegins.{PrimaryBegins, begins_expression}, BlockParted.{dropped_at, none_left}, CaseItems.{CaseItemAt, case_item_at, one_case_item, front_begins, relation_within, to_ends}}

-- an expression has a token
front_long : PrimaryBegins → (ts : List Token) (x : Expr) (n : ℕ) → IsFront ts x n → 0 < length ts
front_long begins ts x n p = let first = front_begins begins ts x n p in omega (arith, ap length first.2)

item_long : PrimaryBegins → (ts : List Token) (d : CaseItem) (n : ℕ) → CaseItemAt ts d n → 0 < length ts
item_long begins ts (case_item.Value x) n p = front_long begins ts x n (expression_at is_over over_ends ts x n p)
item_long begins ts (case_item.Range x y) n p = front_long begins ts x p.size (expression_at is_to to_ends ts x p.size p.left)
item_long begins ts (case_item.Relation r x) n p = let within = relation_within ts r p.1 in omega (arith, within.1)

pub case_items_long : PrimaryBegins → (ts : List Token) (cs : List CaseItem) (n : ℕ) → IsPartAt is_end (AreListed IsCaseItem) ts cs n → 0 < length ts
case_items_long begins ts cs n p =
    let first = first_of_list is_over is_end IsCaseItem declarator_ends ts cs n p in
    item_long begins ts first.x first.size (case_item_at ts first.x first.size first.first)

case_items_same : PrimaryBegins → OneFront IsFront → (ts : List Token) (cs ds : List CaseItem) → length ts ≤ most_tokens
    → AreListed IsCaseItem ts cs → AreListed IsCaseItem ts ds → cs ≡ ds
case_items_same begins expressions ts cs ds few p q =
    let single = one_front is_end (AreListed IsCaseItem) (one_list is_over is_end IsCaseItem declarator_ends (one_case_item begins expressions)) in
    let here = part_whole is_end (AreListed IsCaseItem) ts cs refl p in
    let there = part_whole is_end (AreListed IsCaseItem) ts ds refl q in
    (single ts cs ds (length ts) (length ts) few here there).0

pub case_same : Readings → (c : Context) (ts : List Token) (cs cs' : List CaseItem) → length ts ≤ most_tokens → IsOtherItem c ts (item.Case cs) → IsOtherItem c ts (item.Case cs') → cs ≡ cs'
case_same laws c ts cs cs' few (us, split, p) (vs, split', q) =
    let rest : us ≡ vs = cc in
    case_items_same laws.begins laws.expressions vs cs cs' (omega (arith, few, ap length split')) (subst (λ (ws : List Token). AreListed IsCaseItem ws cs) rest p) q

-- CASE ELSE

-- no expression begins with `Else`
front_no_else : PrimaryBegins → (ts us : List Token) (x : Expr) (n : ℕ) → ts ≡ reserved word.Else ∷ us → IsFront ts x n → ⊥
front_no_else begins ts us x n here p =
    let first = front_begins begins ts x n p in
    let same : first.0 ≡ reserved word.Else = cc (first.2, here) in
    let told : begins_expression (reserved word.Else) ≡ true = ap begins_expression (sym same) ∙ first.3 in
    cc

item_no_else : PrimaryBegins → (ts : List Token) (d : CaseItem) (n : ℕ) → ts ≡ reserved word.Else ∷ [] → CaseItemAt ts d n → ⊥
item_no_else begins ts (case_item.Value x) n here p = front_no_else begins ts [] x n here (expression_at is_over over_ends ts x n p)
item_no_else begins ts (case_item.Range x y) n here p = front_no_else begins ts [] x p.size here (expression_at is_to to_ends ts x p.size p.left)
item_no_else begins ts (case_item.Relation r x) n here p = let told : None ≡ Some r = sym (ap relation_front here) ∙ p.1 in cc

pub case_not_else : PrimaryBegins → (c : Context) (ts : List Token) (cs : List CaseItem) → IsOtherItem c ts (item.Case cs) → IsOtherItem c ts item.CaseElse → ⊥
case_not_else begins c ts cs (us, split, p) q =
    let here : us ≡ reserved word.Else ∷ [] = cc in
    let first = first_of_list is_over is_end IsCaseItem declarator_ends us cs (length us) (part_whole is_end (AreListed IsCaseItem) us cs refl p) in
    item_no_else begins us first.x first.size here (case_item_at us first.x first.size first.first)

-- the line without what a `Case` lists
pub no_case : (c : Context) (ts : List Token) → (ts ≡ reserved word.Case ∷ reserved word.Else ∷ [] → ⊥) → ((cs : List CaseItem) → AreListed IsCaseItem (drop 1 ts) cs → ⊥)
    → (x : Item) → IsItemFrom c front.Case ts x → ⊥
no_case c ts other none (item.Case cs) (e, (us, split, p)) =
    none cs (subst (λ (vs : List Token). AreListed IsCaseItem vs cs) (sym (ap (λ (vs : List Token). drop 1 vs) split)) p)
no_case c ts other none item.CaseElse (e, p) = other p
no_case c ts other none x (e, p) = absurd cc

-- `Else` is all behind the first token
pub case_else_here : (ts : List Token) → ts ≡ reserved word.Case ∷ drop 1 ts → slice_get ts 1 ≡ Some (reserved word.Else) → length ts ≡ 2
    → ts ≡ reserved word.Case ∷ reserved word.Else ∷ []
case_else_here ts first at two =
    let next : drop 1 ts ≡ reserved word.Else ∷ drop 2 ts = dropped_at ts 1 (reserved word.Else) at in
    let last : drop 2 ts ≡ [] = none_left (drop 2 ts) (omega (arith, length-drop 2 ts, two)) in
    first ∙ ap (λ (us : List Token). reserved word.Case ∷ us) (next ∙ ap (λ (us : List Token). reserved word.Else ∷ us) last)

pub case_else_last : (ts : List Token) → ts ≡ reserved word.Case ∷ reserved word.Else ∷ [] → (slice_get ts 1 ≡ Some (reserved word.Else)) × (length ts ≡ 2)
case_else_last ts here = (ap (λ (us : List Token). slice_get us 1) here, ap length here)
