use Rattle.vb_lexer.proofs.Unique.{reading_unique}
use Rattle.vb_lexer.proofs.laws.one_reading.Goals as goal

pub returns : goal.returns
returns c = reading_unique
