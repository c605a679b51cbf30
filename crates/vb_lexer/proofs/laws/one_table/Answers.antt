use Rattle.vb_lexer.proofs.Unique.{table_unique}
use Rattle.vb_lexer.proofs.laws.one_table.Goals as goal

pub returns : goal.returns
returns c = table_unique
