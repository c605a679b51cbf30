use Rattle.vb_lexer.proofs.Taken.{token_is_taken}
use Rattle.vb_lexer.proofs.laws.token_taken.Goals as goal

pub returns : goal.returns
returns c = token_is_taken
