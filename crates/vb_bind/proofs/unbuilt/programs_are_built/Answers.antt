use Rattle.vb_bind.proofs.Built.{program_built}
use Rattle.vb_bind.proofs.unbuilt.programs_are_built.Goals as goal

pub returns : goal.returns
returns c = λ known file t line. program_built known line file t
