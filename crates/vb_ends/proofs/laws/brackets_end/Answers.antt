use Rattle.vb_ends.proofs.Nests.{brackets_sound}
use Rattle.vb_ends.proofs.laws.brackets_end.Goals as goal

pub returns : goal.returns
returns c = brackets_sound
