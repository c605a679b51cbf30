use Rattle.vb_parse_decl.specs.{Declarators.IsDeclarator, DeclaredReading.is_end}
use Rattle.vb_parse_decl.proofs.DeclaredLists.{Leads}
use Rattle.std.proofs.Common.{length, ◌-◌}
use Rattle.vb_parse_decl.proofs.declarator.declarators.Given as goal

abbrev pub invariant-loop-at : goal.invariant-loop-at
invariant-loop-at l = Leads is_end IsDeclarator l.line.tokens l.from l.at l.found

abbrev pub decreases-loop-at : goal.decreases-loop-at
decreases-loop-at l = length l.line.tokens - l.at
