use Rattle.std.proofs.Common.{◌≡◌, drop}
use Rattle.vb_bind.specs.Parsing.{local_from}
use Rattle.vb_bind.proofs.names.local_of.Given as goal

abbrev pub invariant-loop-known : goal.invariant-loop-known
invariant-loop-known l = record {
  here : l.number ≡ l.known-index;
  left : local_from l.number (drop l.known-index l.names) l.name ≡ local_from 0 l.names l.name;
}
