use Rattle.std.proofs.Common.{rules, arith, ◌-◌, ◌+◌, ◌≤◌, ◌∙◌, ap}
use Rattle.std.proofs.lemmas.Grind.{common_steps}
use Rattle.vb_parse_expr.specs.TypeReading.{run_types, type_step, most_turns, finished}
use Rattle.vb_parse_expr.specs.declared.types.TypeState.TheVariants as at
use Rattle.vb_parse_expr.proofs.{Turns.{one_more, no_more}, TypeRuns.{unfinished, turn_on, turn_done, turn_fails, fails_on}}
use Rattle.vb_parse_expr.proofs.types.run_types.Goals as goal

pub returns-in_err-next : goal.returns-in_err-next
returns-in_err-next c =
    let e = one_more (λ n. run_types n c.loop-turn.waiting c.loop-turn.state c.loop-turn.rest.now) most_turns c.loop-turn._turn c.loop-turn-test.true c.loop-turn.invariant in
    let f = turn_fails (most_turns - (c.loop-turn._turn + 1)) c.loop-turn.waiting c.loop-turn.state c.loop-turn.rest.now in
    let g = fails_on c.in_err-next.field-0.0 (type_step c.loop-turn.waiting c.loop-turn.state c.loop-turn.rest.now) (run_types most_turns c.args.waiting at.Want c.args.tokens.now) (λ n. e ∙ f n) in
    first_of (search (rules, g), grind (arith, common_steps))

pub returns-in-Done : goal.returns-in-Done
returns-in-Done c =
    let e = one_more (λ n. run_types n c.loop-turn.waiting c.loop-turn.state c.loop-turn.rest.now) most_turns c.loop-turn._turn c.loop-turn-test.true c.loop-turn.invariant in
    e ∙ turn_done _ _ _ _ _ _ c.in_ok-next.ensures (ap finished c.in-Done.is)

pub loop-turn-preserved : goal.loop-turn-preserved
loop-turn-preserved c =
    let e = one_more (λ n. run_types n c.loop-turn.waiting c.loop-turn.state c.loop-turn.rest.now) most_turns c.loop-turn._turn c.loop-turn-test.true c.loop-turn.invariant in
    e ∙ turn_on _ _ _ _ _ _ c.in_ok-next.ensures (unfinished _ c.in_default.not-Done)

pub returns : goal.returns
unfolding run_types
returns c =
    let most : most_turns ≤ c.loop-turn._turn = omega arith in
    no_more (λ n. run_types n c.loop-turn.waiting c.loop-turn.state c.loop-turn.rest.now) most_turns c.loop-turn._turn most c.loop-turn.invariant
