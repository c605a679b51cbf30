use Rattle.vb_ends.proofs.Depths.{so_many}
use Rattle.vb_ends.proofs.blocks.Blocks.depth.Goals as goal

pub returns : goal.returns
returns c = λ marks t. so_many c.args.self.now c.len.result marks c.len.ensures t
