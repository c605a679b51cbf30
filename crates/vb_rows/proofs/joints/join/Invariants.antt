use Rattle.std.proofs.Common.{◌≡◌, ◌++◌, false, take, drop}
use Rattle.vb_rows.specs.Rows.{joined}
use Rattle.vb_rows.proofs.joints.join.Given as goal

abbrev pub invariant-loop-place : goal.invariant-loop-place
invariant-loop-place l = take l.place l.rows ++ joined l.inside (drop l.place l.rows) ≡ joined false l.initial.rows
