use Rattle.vb_lexer.proofs.keywords.is_word.Given as goal
use Rattle.vb_lexer.proofs.WordTables.{SameFrom}

abbrev pub invariant-loop-i : goal.invariant-loop-i
invariant-loop-i l = SameFrom l.word l.text l.i
