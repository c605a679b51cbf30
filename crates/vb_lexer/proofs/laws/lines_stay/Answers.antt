use Rattle.vb_lexer.proofs.Unique.{reading_stays}
use Rattle.vb_lexer.proofs.laws.lines_stay.Goals as goal

pub returns : goal.returns
returns c = reading_stays
