-- A line imports one list of namespaces at most.
use Rattle.std.proofs.Common.{◌≡◌, ℕ, ◌≤◌, ◌<◌, List, length, drop, refl, sym, ap, subst, arith}
use Rattle.vb_text.specs.declared.names.Name.{Name}
use Rattle.vb_syntax.specs.declared.{tokens.Token.Token, item.Item.Item, words.Context.Context}
use Rattle.vb_syntax.specs.declared.item.Item.TheVariants as item
use Rattle.vb_parse_stmt.specs.declared.front.Front.TheVariants as front
use Rattle.vb_parse_expr.specs.{TypeReading.most_tokens, Types.SpellsNames}
use Rattle.vb_parse_decl.specs.{Parts.AreListed, DeclaredReading.{IsPartAt, is_over, is_end}}
use Rattle.vb_parse_stmt.specs.{Items.IsOtherItem, Reading.IsItemFrom}
use Rattle.vb_parse_decl.proofs.{DeclaredParts.{one_front, part_whole}, DeclaredLists.{one_list, first_of_list}, DeclaredNames.declarator_ends}
use Rattle.vb_parse_stmt.proofs.ImportsNames.{one_namespace, namespace_long}

pub namespaces_long : (ts : List Token) (s : List (List Name)) (n : ℕ) → IsPartAt is_end (AreListed SpellsNames) ts s n → 0 < length ts
namespaces_long ts s n p =
    let first = first_of_list is_over is_end SpellsNames declarator_ends ts s n p in
    namespace_long ts first.x first.size first.first

namespaces_same : (ts : List Token) (s s' : List (List Name)) → length ts ≤ most_tokens → AreListed SpellsNames ts s → AreListed SpellsNames ts s' → s ≡ s'
namespaces_same ts s s' few p q =
    let single = one_front is_end (AreListed SpellsNames) (one_list is_over is_end SpellsNames declarator_ends one_namespace) in
    let here = part_whole is_end (AreListed SpellsNames) ts s refl p in
    let there = part_whole is_end (AreListed SpellsNames) ts s' refl q in
    (single ts s s' (length ts) (length ts) few here there).0

pub imports_same : (c : Context) (ts : List Token) (s s' : List (List Name)) → length ts ≤ most_tokens → IsOtherItem c ts (item.Imports s) → IsOtherItem c ts (item.Imports s') → s ≡ s'
imports_same c ts s s' few (us, split, p) (vs, split', q) =
    let rest : us ≡ vs = cc in
    namespaces_same vs s s' (omega (arith, few, ap length split')) (subst (λ (ws : List Token). AreListed SpellsNames ws s) rest p) q

-- the line without namespaces
pub no_imports : (c : Context) (ts : List Token) → ((s : List (List Name)) → AreListed SpellsNames (drop 1 ts) s → ⊥) → (x : Item) → IsItemFrom c front.Imports ts x → ⊥
no_imports c ts none (item.Imports s) (e, (us, split, p)) =
    none s (subst (λ (vs : List Token). AreListed SpellsNames vs s) (sym (ap (λ (vs : List Token). drop 1 vs) split)) p)
no_imports c ts none x (e, p) = absurd cc
