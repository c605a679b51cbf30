use Rattle.std.proofs.Common.{◌≡◌, drop}
use Rattle.vb_lexer.specs.Characters.{is_ascii}
use Rattle.vb_lexer.proofs.characters.is_ascii.Given as goal

abbrev pub invariant-loop-character : goal.invariant-loop-character
invariant-loop-character l = is_ascii l.text ≡ is_ascii (drop l.character-index l.text)
