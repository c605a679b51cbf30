use Rattle.std.proofs.Common.{◌≡◌, drop}
use Rattle.vb_lexer.specs.Tokens.{units_of}
use Rattle.vb_lexer.proofs.literals.first_unit.Given as goal

abbrev pub invariant-loop-character : goal.invariant-loop-character
invariant-loop-character l = units_of l.content ≡ units_of (drop l.character-index l.content)
