use Rattle.std.proofs.Common.{refl}
use Rattle.vb_lexer.proofs.Reading.{reads_nothing}
use Rattle.vb_lexer.proofs.reader.Reader.new.Goals as goal

pub returns-clause-reads : goal.returns-clause-reads
returns-clause-reads c = λ table. reads_nothing table _ c.new-2.ensures c.new.ensures refl
