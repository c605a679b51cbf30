use Rattle.vb_bind.proofs.Files.{same_program}
use Rattle.vb_bind.proofs.program.one_program.Goals as goal

pub returns : goal.returns
returns c = same_program
