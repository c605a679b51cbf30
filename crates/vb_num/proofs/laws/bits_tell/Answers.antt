use Rattle.vb_num.proofs.Patterns.{told}
use Rattle.vb_num.proofs.laws.bits_tell.Goals as goal

pub returns : goal.returns
returns c = told
