use Rattle.std.proofs.Common.{◌≡◌, ◌≤◌, ◌-◌, List, Option, length, drop}
use Rattle.vb_syntax.specs.declared.item.Item.{Item}
use Rattle.vb_syntax.specs.declared.item.Joint.TheVariants as joint
use Rattle.vb_rows.specs.Reading.{HasRead}
use Rattle.vb_rows.proofs.PieceRows.{IsReadTo, pieces_from}
use Rattle.vb_rows.proofs.lines.add_pieces.Given as goal

abbrev pub invariant-loop-reader : goal.invariant-loop-reader
invariant-loop-reader l = record {
  within : l.place ≤ length l.line.tokens;
  words : l.reader.words ≡ l.initial.reader.words;
  read : (items : List (Option Item)) → HasRead l.initial.reader items
      → IsReadTo (pieces_from joint.End (drop l.from l.line.tokens)) (pieces_from l.joint (drop l.place l.line.tokens)) l.initial.reader l.reader l.line.number l.initial.rows.items l.rows.items items;
}

abbrev pub decreases-loop-reader : goal.decreases-loop-reader
decreases-loop-reader l = length l.line.tokens - l.place
