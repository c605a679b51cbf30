use Rattle.vb_rows.proofs.Tracked.{iterator_told}
use Rattle.vb_rows.proofs.open_blocks.OpenBlocks.in_iterator.Goals as goal

pub returns : goal.returns
returns c = λ before t. iterator_told c.args.self.now before c.in_iterator.result c.in_iterator.ensures t
