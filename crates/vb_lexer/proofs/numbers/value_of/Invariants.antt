use Rattle.std.proofs.Common.{◌≡◌, drop}
use Rattle.vb_lexer.specs.Tokens.{value_from, base_number}
use Rattle.vb_lexer.proofs.numbers.value_of.Given as goal

abbrev pub invariant-loop-character : goal.invariant-loop-character
invariant-loop-character l = value_from (base_number l.fn.base) 0 l.digits ≡ value_from (base_number l.fn.base) l.total (drop l.character-index l.digits)
