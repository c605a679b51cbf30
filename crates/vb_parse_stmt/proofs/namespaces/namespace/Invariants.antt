use Rattle.vb_parse_stmt.proofs.ImportsNames.{NamesLead}
use Rattle.std.proofs.Common.{length, ◌-◌}
use Rattle.vb_parse_stmt.proofs.namespaces.namespace.Given as goal

abbrev pub invariant-loop-at : goal.invariant-loop-at
invariant-loop-at l = NamesLead l.line.tokens l.from l.at l.found

abbrev pub decreases-loop-at : goal.decreases-loop-at
decreases-loop-at l = length l.line.tokens - l.at
