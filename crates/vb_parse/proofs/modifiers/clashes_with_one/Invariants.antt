use Rattle.std.proofs.Common.{◌≡◌, drop}
use Rattle.vb_parse.specs.Modifiers.{clashes_with_one}
use Rattle.vb_parse.proofs.modifiers.clashes_with_one.Given as goal

abbrev pub invariant-loop-other : goal.invariant-loop-other
invariant-loop-other l = clashes_with_one l.first (drop l.other-index l.others) ≡ clashes_with_one l.first l.others
