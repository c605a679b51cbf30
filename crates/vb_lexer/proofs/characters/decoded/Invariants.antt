use Rattle.std.proofs.Common.{List, ◌++◌, length}
use Rattle.vb_lexer.specs.Characters.{Character, Decodes}
use Rattle.vb_lexer.proofs.characters.decoded.Given as goal

abbrev pub invariant-loop-rest : goal.invariant-loop-rest
invariant-loop-rest l = (cs : List Character) → Decodes l.rest cs → Decodes l.bytes (l.text.items ++ cs)

abbrev pub decreases-loop-rest : goal.decreases-loop-rest
decreases-loop-rest l = length l.rest
