use Rattle.vb_bind.specs.Grammar.{HasUnbuiltMember}
use Rattle.vb_bind.proofs.Least.{least_more, least_all}
use Rattle.vb_bind.proofs.unbuilt.first_in_members.Goals as goal

pub loop-member-preserved : goal.loop-member-preserved
loop-member-preserved c =
    least_more (HasUnbuiltMember c.args.known.now) c.args.members.now c.loop-member.member-index c.member-item.result c.loop-member.first c.first_in_member.result c.lesser-first.result c.loop-member-test.true c.member-item.is c.lesser-first.ensures c.loop-member.invariant c.first_in_member.ensures

pub returns : goal.returns
returns c = least_all (HasUnbuiltMember c.args.known.now) c.args.members.now c.loop-member.member-index c.loop-member.first c.loop-member-test.false c.loop-member.invariant
