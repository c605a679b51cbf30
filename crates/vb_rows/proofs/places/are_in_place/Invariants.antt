use Rattle.std.proofs.Common.{◌≡◌, ◌≤◌, drop}
use Rattle.vb_syntax.specs.declared.item.Joint.TheVariants as joint
use Rattle.vb_rows.specs.Rows as spec
use Rattle.vb_rows.proofs.places.are_in_place.Given as goal

abbrev pub invariant-loop-row : goal.invariant-loop-row
invariant-loop-row l = record {
  few : l.waiting ≤ l.row-index;
  same : spec.are_in_place joint.End 0 l.rows ≡ spec.are_in_place l.from l.waiting (drop l.row-index l.rows);
}
