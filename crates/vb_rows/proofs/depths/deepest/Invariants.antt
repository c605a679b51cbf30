use Rattle.std.proofs.Common.{◌≡◌, ◌≤◌, drop, max}
use Rattle.vb_rows.specs.Files as spec
use Rattle.vb_rows.proofs.depths.deepest.Given as goal

abbrev pub invariant-loop-token : goal.invariant-loop-token
invariant-loop-token l = record {
  few : l.depth ≤ l.token-index;
  most_few : l.most ≤ l.token-index;
  most : spec.deepest 0 l.tokens ≡ max l.most (spec.deepest l.depth (drop l.token-index l.tokens));
}
