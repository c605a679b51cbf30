use Rattle.std.proofs.Common.{take}
use Rattle.vb_rows.proofs.FilesRead.{AreLinesRead}
use Rattle.vb_rows.proofs.files.read_rows.Given as goal

abbrev pub invariant-loop-line : goal.invariant-loop-line
invariant-loop-line l = AreLinesRead l.file l.words (take l.line-index l.lines) l.reader l.first l.read
