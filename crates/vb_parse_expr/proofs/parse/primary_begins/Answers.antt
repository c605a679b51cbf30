use Rattle.vb_parse_expr.proofs.Begins.{front_begins}
use Rattle.vb_parse_expr.proofs.parse.primary_begins.Goals as goal

pub returns : goal.returns
returns c = front_begins
