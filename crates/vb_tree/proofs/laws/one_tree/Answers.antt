use Rattle.vb_tree.proofs.FileRows.{same_tree}
use Rattle.vb_tree.proofs.laws.one_tree.Goals as goal

pub returns : goal.returns
returns c = λ file rows t u a b. same_tree file rows t u a b
