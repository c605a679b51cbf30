-- Lines of declarations.
use Rattle.std.proofs.Common.{List, drop, sym, ap, subst}
use Rattle.vb_syntax.specs.declared.{tokens.Token.Token, declarator.Declarator.Declarator, item.Item.Item, words.Context.Context}
use Rattle.vb_syntax.specs.declared.statement.LocalModifier.TheVariants as local
use Rattle.vb_syntax.specs.declared.item.Item.TheVariants as item
use Rattle.vb_parse_stmt.specs.declared.front.Front.TheVariants as front
use Rattle.vb_parse_decl.specs.{Parts.AreListed, Declarators.IsDeclarator}
use Rattle.vb_parse_stmt.specs.Reading.{IsItemFrom}

pub no_dim : (c : Context) (tokens : List Token) → ((ds : List Declarator) → AreListed IsDeclarator (drop 1 tokens) ds → ⊥) → (x : Item) → IsItemFrom c front.Dim tokens x → ⊥
no_dim c tokens none (item.Declaration local.Dim ds) (e, (us, split, p)) =
    none ds (subst (λ (vs : List Token). AreListed IsDeclarator vs ds) (sym (ap (λ (vs : List Token). drop 1 vs) split)) p)
no_dim c tokens none x (e, p) = absurd cc

pub no_constant : (c : Context) (tokens : List Token) → ((ds : List Declarator) → AreListed IsDeclarator (drop 1 tokens) ds → ⊥) → (x : Item) → IsItemFrom c front.Const tokens x → ⊥
no_constant c tokens none (item.Declaration local.Const ds) (e, (us, split, p)) =
    none ds (subst (λ (vs : List Token). AreListed IsDeclarator vs ds) (sym (ap (λ (vs : List Token). drop 1 vs) split)) p)
no_constant c tokens none x (e, p) = absurd cc

pub no_static_local : (c : Context) (tokens : List Token) → ((ds : List Declarator) → AreListed IsDeclarator (drop 1 tokens) ds → ⊥) → (x : Item) → IsItemFrom c front.Static tokens x → ⊥
no_static_local c tokens none (item.Declaration local.Static ds) (e, (us, split, p)) =
    none ds (subst (λ (vs : List Token). AreListed IsDeclarator vs ds) (sym (ap (λ (vs : List Token). drop 1 vs) split)) p)
no_static_local c tokens none x (e, p) = absurd cc
