use Rattle.std.proofs.Common.{rules, arith}
use Rattle.std.proofs.lemmas.Grind.{common_steps}
use Rattle.vb_parse_expr.specs.TypeReading.{type_list}
use Rattle.vb_parse_expr.proofs.Turns.{one_more}
use Rattle.vb_parse_expr.proofs.types.read_type_list.Goals as goal

pub loop-turn-preserved : goal.loop-turn-preserved
unfolding type_list
loop-turn-preserved c =
    let e = one_more (λ n. type_list n c.loop-turn.found c.loop-turn.rest.now) _ c.loop-turn._turn c.loop-turn-test.true c.loop-turn.invariant in
    first_of (search rules, grind (arith, common_steps))
