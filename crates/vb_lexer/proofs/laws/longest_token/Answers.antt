use Rattle.vb_lexer.proofs.Longest.{first_longest}
use Rattle.vb_lexer.proofs.laws.longest_token.Goals as goal

pub returns : goal.returns
returns c = first_longest
