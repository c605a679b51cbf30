use Rattle.vb_tree.proofs.TreeItems.{items}
use Rattle.vb_tree.proofs.excluded.tree_has_items.Goals as goal

pub returns : goal.returns
returns c = items
