use Rattle.std.proofs.Common.{◌≡◌, ◌++◌, drop}
use Rattle.std.specs.Prelude.{encode_utf8_all}
use Rattle.std.specs.String.{string_bytes}
use Rattle.vb_lexer.specs.Characters.{readable}
use Rattle.vb_lexer.proofs.token.spell.Given as goal

abbrev pub invariant-loop-character : goal.invariant-loop-character
invariant-loop-character l = string_bytes l.word ++ encode_utf8_all (readable (drop l.character-index l.characters)) ≡ string_bytes l.initial.word ++ encode_utf8_all (readable l.characters)
