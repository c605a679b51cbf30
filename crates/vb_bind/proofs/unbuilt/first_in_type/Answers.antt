use Rattle.std.proofs.Common.{◌≡◌, Some, rules}
use Rattle.vb_bind.specs.Parsing.{members_read}
use Rattle.vb_bind.proofs.Least.{least_in_module}
use Rattle.vb_bind.proofs.unbuilt.first_in_type.Goals as goal

pub returns-in-Some : goal.returns-in-Some
returns-in-Some c =
    let read : members_read c.args.declared.now ≡ Some c.in-Some.members.now = search rules in
    least_in_module c.args.known.now c.args.declared.now c.in-Some.members.now c.first_in_members.result read c.first_in_members.ensures
