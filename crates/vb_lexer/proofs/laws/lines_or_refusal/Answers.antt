use Rattle.vb_lexer.proofs.Unique.{never_both}
use Rattle.vb_lexer.proofs.laws.lines_or_refusal.Goals as goal

pub returns : goal.returns
returns c = never_both
