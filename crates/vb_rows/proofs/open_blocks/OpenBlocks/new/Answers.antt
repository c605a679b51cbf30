use Rattle.std.proofs.Common.{refl}
use Rattle.vb_rows.proofs.Tracked.{nothing_read}
use Rattle.vb_rows.proofs.open_blocks.OpenBlocks.new.Goals as goal

pub returns : goal.returns
returns c = nothing_read _ c.new.ensures refl
