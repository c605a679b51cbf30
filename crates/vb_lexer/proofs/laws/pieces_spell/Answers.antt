use Rattle.vb_lexer.proofs.Unique.{spells_text}
use Rattle.vb_lexer.proofs.laws.pieces_spell.Goals as goal

pub returns : goal.returns
returns c = spells_text
