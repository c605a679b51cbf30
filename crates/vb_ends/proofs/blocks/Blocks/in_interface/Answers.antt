use Rattle.std.proofs.Common.{◌∙◌}
use Rattle.vb_ends.proofs.OpenBlocks.{none_inside, last_inside}
use Rattle.vb_ends.proofs.blocks.Blocks.in_interface.Goals as goal

pub returns-in-Some : goal.returns-in-Some
returns-in-Some c = λ marks t. c.is_same.ensures ∙ last_inside c.args.self.now marks c.in-Some.block c.in-Some.ensures.0 t c.in-Some.ensures.1

pub returns-in-None : goal.returns-in-None
returns-in-None c = λ marks t. none_inside c.args.self.now marks t c.in-None.ensures
