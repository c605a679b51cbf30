-- Each row of a tree has an item.
use Rattle.std.proofs.Common.{◌≡◌, ℕ, List, Option, Some, None, ap}
use Rattle.vb_syntax.specs.declared.{declaration.SourceFile.SourceFile, item.{Item.Item, Row.Row}}
use Rattle.vb_blocks.specs.{declared.frame.Frame.Frame, Trees.IsTree, Steps.{State, item_step, step}}
use Rattle.vb_tree.specs.Excluded.{HaveItems}
use Rattle.vb_tree.proofs.{Leads.{Leads, here, on}, FileRows.tree_leads}

has_item : (f : Frame) (fs : List Frame) (r : Row) (st : State) → step f fs r ≡ Some st → r.item ≡ None → ⊥
has_item f fs r st e none =
    let stops : step f fs r ≡ None = ap (λ (o : Option Item). item_step f fs r.line r.behind o) none in
    absurd cc

have_items : {f g : Frame} {fs gs : List Frame} {rows : List Row} → Leads f fs rows g gs → HaveItems rows
have_items here = tt
have_items (on {f = f} {fs = fs} {r = r} e d) = (has_item f fs r _ e, have_items d)

pub items : (n : ℕ) (rows : List Row) (t : SourceFile) → IsTree n rows t → HaveItems rows
items n rows t is = let l = tree_leads is in have_items l.leads
