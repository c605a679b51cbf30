use Rattle.std.proofs.Common.{◌≡◌, drop}
use Rattle.vb_lexer.specs.Characters.{is_readable}
use Rattle.vb_lexer.proofs.characters.is_readable.Given as goal

abbrev pub invariant-loop-character : goal.invariant-loop-character
invariant-loop-character l = is_readable l.text ≡ is_readable (drop l.character-index l.text)
