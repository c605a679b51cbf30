use Rattle.std.proofs.Common.{sym}
use Rattle.vb_lexer.proofs.keywords.is_word.Goals as goal
use Rattle.vb_lexer.proofs.WordTables.{other_length}

pub returns-then-word-text : goal.returns-then-word-text
returns-then-word-text c = sym (other_length c.args.word.now c.args.text.now c.requires c.if-word-text.true)
