use Rattle.std.proofs.Common.{drop, take, reverse}
use Rattle.vb_diag.specs.Broken.{IsLeastLine}
use Rattle.vb_ends.specs.{Depth.IsTooDeep, Reading.{HasRead, next_item}}
use Rattle.vb_ends.proofs.depth.first_too_deep.Given as goal

abbrev pub invariant-loop-at : goal.invariant-loop-at
invariant-loop-at l = record {
  read : HasRead l.reader (next_item (drop l.at l.rows)) (reverse (take l.at l.rows));
  least : IsLeastLine (IsTooDeep (reverse (take l.at l.rows)) (reverse (take l.at l.brackets))) l.first;
}
