use Rattle.std.proofs.Common.{◌≡◌, ◌+◌, ◌≤◌, ◌++◌, length}
use Rattle.vb_syntax.specs.declared.item.Joint.TheVariants as joint
use Rattle.vb_rows.specs.Files.{piece_depths}
use Rattle.vb_rows.proofs.PieceRows.{pieces_from}
use Rattle.vb_rows.proofs.depths.add_pieces.Given as goal

abbrev pub invariant-loop-rest : goal.invariant-loop-rest
invariant-loop-rest l = record {
  all : l.initial.depths ++ piece_depths 0 (pieces_from joint.End l.tokens) ≡ l.depths ++ piece_depths l.ifs (pieces_from l.joint l.rest);
  few : l.ifs + length l.rest ≤ length l.tokens;
}

abbrev pub decreases-loop-rest : goal.decreases-loop-rest
decreases-loop-rest l = length l.rest
