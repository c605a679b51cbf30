use Rattle.std.proofs.Common.{◌≡◌, drop}
use Rattle.vb_lexer.specs.Tokens.{keyword_in, lowered}
use Rattle.vb_lexer.proofs.keywords.word_among.Given as goal

abbrev pub invariant-loop-keyword : goal.invariant-loop-keyword
invariant-loop-keyword l = keyword_in (drop l.keyword-index l.among) (lowered l.word) ≡ keyword_in l.among (lowered l.word)
