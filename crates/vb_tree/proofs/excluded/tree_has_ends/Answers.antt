use Rattle.vb_tree.proofs.TreeEnds.{ended}
use Rattle.vb_tree.proofs.excluded.tree_has_ends.Goals as goal

pub returns : goal.returns
returns c = ended c.brackets_end.ensures
