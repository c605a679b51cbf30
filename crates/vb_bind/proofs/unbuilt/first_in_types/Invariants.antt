use Rattle.std.proofs.Common.{take}
use Rattle.vb_diag.specs.Broken.{IsLeastLine}
use Rattle.vb_bind.specs.Grammar.{HasUnbuiltType, HasOne}
use Rattle.vb_bind.proofs.unbuilt.first_in_types.Given as goal

abbrev pub invariant-loop-declared : goal.invariant-loop-declared
invariant-loop-declared l = IsLeastLine (λ n. HasOne (HasUnbuiltType l.known n) (take l.declared-index l.types)) l.first
