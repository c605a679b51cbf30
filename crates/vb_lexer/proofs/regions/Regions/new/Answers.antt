use Rattle.vb_lexer.proofs.Marks.{tracks_new}
use Rattle.vb_lexer.proofs.regions.Regions.new.Goals as goal

pub returns : goal.returns
returns c = tracks_new
