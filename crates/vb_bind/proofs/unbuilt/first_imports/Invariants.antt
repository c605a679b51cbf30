use Rattle.std.proofs.Common.{take}
use Rattle.vb_diag.specs.Broken.{IsLeastLine}
use Rattle.vb_bind.specs.Grammar.{IsUnbuiltImports, HasOne}
use Rattle.vb_bind.proofs.unbuilt.first_imports.Given as goal

abbrev pub invariant-loop-statement : goal.invariant-loop-statement
invariant-loop-statement l = IsLeastLine (λ n. HasOne (IsUnbuiltImports l.known n) (take l.statement-index l.imports)) l.first
