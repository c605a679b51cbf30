use Rattle.vb_ends.proofs.Open.{open_break}
use Rattle.vb_ends.proofs.laws.open_blocks_break.Goals as goal

pub returns : goal.returns
returns c = open_break
