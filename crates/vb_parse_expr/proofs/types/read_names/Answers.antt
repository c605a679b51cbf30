use Rattle.std.proofs.Common.{rules, arith}
use Rattle.std.proofs.lemmas.Grind.{common_steps}
use Rattle.vb_parse_expr.specs.TypeReading.{names}
use Rattle.vb_parse_expr.proofs.Turns.{one_more}
use Rattle.vb_parse_expr.proofs.types.read_names.Goals as goal

pub loop-turn-preserved : goal.loop-turn-preserved
unfolding names
loop-turn-preserved c =
    let e = one_more (λ n. names n c.loop-turn.names c.loop-turn.rest.now) _ c.loop-turn._turn c.loop-turn-test.true c.loop-turn.invariant in
    first_of (search rules, grind (arith, common_steps))
