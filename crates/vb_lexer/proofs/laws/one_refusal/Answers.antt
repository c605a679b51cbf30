use Rattle.vb_lexer.proofs.Unique.{refusal_unique}
use Rattle.vb_lexer.proofs.laws.one_refusal.Goals as goal

pub returns : goal.returns
returns c = refusal_unique
