use Rattle.std.proofs.Common.{take}
use Rattle.vb_diag.specs.Broken.{IsLeastLine}
use Rattle.vb_bind.specs.Grammar.{HasUnbuiltMember, HasOne}
use Rattle.vb_bind.proofs.unbuilt.first_in_members.Given as goal

abbrev pub invariant-loop-member : goal.invariant-loop-member
invariant-loop-member l = IsLeastLine (λ n. HasOne (HasUnbuiltMember l.known n) (take l.member-index l.members)) l.first
