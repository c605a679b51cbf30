use Rattle.std.proofs.Common.{take}
use Rattle.vb_diag.specs.Broken.{IsLeastLine}
use Rattle.vb_bind.specs.Grammar.{HasUnbuiltStatement}
use Rattle.vb_bind.proofs.unbuilt.+unbuilt.Given as goal

abbrev pub invariant-first_in_block-loop-statement : goal.invariant-first_in_block-loop-statement
invariant-first_in_block-loop-statement l = IsLeastLine (λ n. HasUnbuiltStatement l.known n (take l.statement-index l.block)) l.first
