use Rattle.std.proofs.Common.{◌≡◌, length}
use Rattle.vb_text.specs.Names.{Extends}
use Rattle.vb_lexer.specs.Progress.{ReadTo}
use Rattle.vb_lexer.proofs.lines.lex.Given as goal

abbrev pub invariant-loop-rest : goal.invariant-loop-rest
invariant-loop-rest l = record {
  read : ReadTo l.initial.names l.names l.initial.rest l.rest l.before l.progress;
  names : Extends l.names l.initial.names;
  file : l.progress.reader.file ≡ l.file;
}

abbrev pub decreases-loop-rest : goal.decreases-loop-rest
decreases-loop-rest l = length l.rest
