-- A line is one declaration at most, and begins as a declaration does.
use Rattle.std.proofs.Common.{◌≡◌, ◌≤◌, true, List, ◌∷◌, length, Some, refl, sym, ap, subst, ◌∙◌, arith}
use Rattle.vb_text.specs.declared.names.Name.{Name}
use Rattle.vb_syntax.specs.declared.{tokens.Token.Token, expression.Expr.Expr, declarator.Declarator.Declarator, statement.LocalModifier.LocalModifier, words.Context.Context}
use Rattle.vb_syntax.specs.declared.statement.LocalModifier.TheVariants as local
use Rattle.vb_syntax.specs.declared.item.Item.TheVariants as item
use Rattle.vb_parse_expr.specs.{TypeReading.most_tokens, Words.name_of, Fronts.IsFront}
use Rattle.vb_parse_decl.specs.{Parts.{AreListed, reserved}, Declarators.{IsBound, IsDeclarator}, DeclaredReading.anything}
use Rattle.vb_parse_stmt.specs.{Statements.local_word, Items.IsOtherItem, Reading.{front_of, may_begin}}
use Rattle.vb_parse_decl.proofs.{Refusals.OneFront, DeclaredParts.{one_front, one_bound, part_whole}, DeclaredDeclarators.{Readings, declarators_same}}

pub declaration_first : (c : Context) (ts : List Token) (m : LocalModifier) (ds : List Declarator) → IsOtherItem c ts (item.Declaration m ds)
    → may_begin (front_of c ts) (item.Declaration m ds) ≡ true
declaration_first c ts local.Dim ds (us, split, p) = ap (λ (vs : List Token). may_begin (front_of c vs) (item.Declaration local.Dim ds)) split
declaration_first c ts local.Const ds (us, split, p) = ap (λ (vs : List Token). may_begin (front_of c vs) (item.Declaration local.Const ds)) split
declaration_first c ts local.Static ds (us, split, p) = ap (λ (vs : List Token). may_begin (front_of c vs) (item.Declaration local.Static ds)) split

pub redim_first : (c : Context) (ts : List Token) (n : Name) (x : Expr) → IsOtherItem c ts (item.ReDim n x) → may_begin (front_of c ts) (item.ReDim n x) ≡ true
redim_first c ts n x (us, split, p) = ap (λ (vs : List Token). may_begin (front_of c vs) (item.ReDim n x)) split

word_same : (m m' : LocalModifier) → local_word m ≡ local_word m' → m ≡ m'
word_same local.Dim local.Dim e = refl
word_same local.Const local.Const e = refl
word_same local.Static local.Static e = refl
word_same m m' e = absurd cc

pub declaration_same : Readings → (c : Context) (ts : List Token) (m m' : LocalModifier) (ds ds' : List Declarator) → length ts ≤ most_tokens
    → IsOtherItem c ts (item.Declaration m ds) → IsOtherItem c ts (item.Declaration m' ds') → item.Declaration m ds ≡ item.Declaration m' ds'
declaration_same laws c ts m m' ds ds' few (us, split, p) (vs, split', q) =
    let whole : reserved (local_word m) ∷ us ≡ reserved (local_word m') ∷ vs = sym split ∙ split' in
    let words : local_word m ≡ local_word m' = cc (whole) in
    let rest : us ≡ vs = cc (whole) in
    let there = subst (λ (ws : List Token). AreListed IsDeclarator ws ds) rest p in
    let same = declarators_same laws vs ds ds' (omega (arith, few, ap length split')) there q in
    let modifier = word_same m m' words in
    cc (same, modifier)

pub redim_same : OneFront IsFront → (c : Context) (ts : List Token) (n n' : Name) (x x' : Expr) → length ts ≤ most_tokens
    → IsOtherItem c ts (item.ReDim n x) → IsOtherItem c ts (item.ReDim n' x') → item.ReDim n x ≡ item.ReDim n' x'
redim_same one c ts n n' x x' few (us, split, (t, vs, split2, named, p)) (us', split', (t', vs', split2', named', p')) =
    let rest : us ≡ us' = cc (sym split ∙ split') in
    let whole : t ∷ vs ≡ t' ∷ vs' = sym split2 ∙ rest ∙ split2' in
    let first : t ≡ t' = cc (whole) in
    let behind : vs ≡ vs' = cc (whole) in
    let name : Some n ≡ Some n' = sym named ∙ ap name_of first ∙ named' in
    let names : n ≡ n' = cc (name) in
    let here = part_whole anything IsBound vs' x refl (subst (λ (ws : List Token). IsBound ws x) behind p) in
    let there = part_whole anything IsBound vs' x' refl p' in
    let same = one_front anything IsBound (one_bound one) vs' x x' (length vs') (length vs') (omega (arith, few, ap length split', ap length split2')) here there in
    cc (names, same.0)
