use Rattle.std.proofs.Common.{length}
use Rattle.vb_rows.proofs.Cuts.{IsCutTo}
use Rattle.vb_rows.proofs.pieces.first_piece.Given as goal

abbrev pub invariant-loop-rest : goal.invariant-loop-rest
invariant-loop-rest l = IsCutTo l.fn.before l.tokens l.before l.rest

abbrev pub decreases-loop-rest : goal.decreases-loop-rest
decreases-loop-rest l = length l.rest
