use Rattle.vb_ends.proofs.Nests.{sound_brackets}
use Rattle.vb_ends.proofs.laws.blocks_nest.Goals as goal

pub returns : goal.returns
returns c = sound_brackets
