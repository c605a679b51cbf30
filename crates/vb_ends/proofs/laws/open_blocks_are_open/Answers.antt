use Rattle.vb_ends.proofs.OpenBlocks.{are_open}
use Rattle.vb_ends.proofs.laws.open_blocks_are_open.Goals as goal

pub returns : goal.returns
returns c = are_open
