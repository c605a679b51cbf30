use Rattle.vb_rows.proofs.Produced.{line_produced}
use Rattle.vb_rows.proofs.laws.in_place_as_produced.Goals as goal

pub returns : goal.returns
returns start = λ words before line rows are. line_produced words before line rows are
