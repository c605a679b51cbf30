use Rattle.std.proofs.Common.{◌≡◌, Some, rules}
use Rattle.vb_bind.specs.Parsing.{main_read}
use Rattle.vb_bind.proofs.Least.{least_in_main}
use Rattle.vb_bind.proofs.unbuilt.first_in_member.Goals as goal

pub returns-in-Some : goal.returns-in-Some
returns-in-Some c =
    let read : main_read c.args.known.now c.args.member.now ≡ Some c.in-Some.body.now = search rules in
    least_in_main c.args.known.now c.args.member.now c.in-Some.body.now c.first_in_block.result read c.first_in_block.ensures
