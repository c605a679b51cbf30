use Rattle.std.proofs.Common.{ap, sym, ◌∙◌, rules}
use Rattle.vb_parse_expr.specs.MachineReading.{wants_primary, last_wants_primary}
use Rattle.vb_parse_expr.proofs.Lists.{popped_some, popped_none}
use Rattle.vb_parse_expr.proofs.beginnings.wants_primary.Goals as goal

pub returns-in-Primary : goal.returns-in-Primary
unfolding wants_primary
returns-in-Primary c =
    let p = popped_none c.args.waiting.now c.in-None.ensures.value in
    rw p (search rules)

pub returns-in_default : goal.returns-in_default
unfolding wants_primary
returns-in_default c =
    let p = popped_none c.args.waiting.now c.in-None.ensures.value in
    rw p (search rules)

pub returns-in-Some : goal.returns-in-Some
unfolding wants_primary
returns-in-Some c =
    let p = popped_some c.args.waiting.now c.in-Some.last.now c.in-Some.ensures.value in
    c.takes_primary.ensures c.args.goal p.0 ∙ sym (ap (last_wants_primary c.args.goal) p.1)
