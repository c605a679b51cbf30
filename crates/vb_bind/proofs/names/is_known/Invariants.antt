use Rattle.std.proofs.Common.{◌≡◌, drop}
use Rattle.vb_bind.specs.Parsing.{is_one_of}
use Rattle.vb_bind.proofs.names.is_known.Given as goal

abbrev pub invariant-loop-known : goal.invariant-loop-known
invariant-loop-known l = is_one_of l.name (drop l.known-index l.names) ≡ is_one_of l.name l.names
