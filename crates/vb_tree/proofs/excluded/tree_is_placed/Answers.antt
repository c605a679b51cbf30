use Rattle.vb_tree.proofs.TreePlaces.{placed}
use Rattle.vb_tree.proofs.excluded.tree_is_placed.Goals as goal

pub returns : goal.returns
returns c = placed
