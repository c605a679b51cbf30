use Rattle.std.proofs.Common.{ℕ, rules, arith, [], ◌-◌, ◌+◌, ◌≤◌, ◌∙◌, ap, sym}
use Rattle.std.proofs.lemmas.Grind.{common_steps}
use Rattle.vb_parse_expr.specs.{TypeReading.most_turns, MachineReading.{run, step, finished}}
use Rattle.vb_parse_expr.specs.declared.machine.State.TheVariants as at
use Rattle.vb_parse_expr.proofs.{Turns.{one_more, no_more}, TypeRuns.fails_on, Runs.{unfinished, turn_on, turn_done, turn_fails}}
use Rattle.vb_parse_expr.proofs.machine.run.Goals as goal

pub returns-in_err-next : goal.returns-in_err-next
returns-in_err-next c =
    let at_most = λ (n : ℕ). run c.args.goal n c.loop-turn.waiting c.loop-turn.state c.loop-turn.rest.now in
    let e = one_more at_most most_turns c.loop-turn._turn c.loop-turn-test.true c.loop-turn.invariant in
    let f = turn_fails c.args.goal (most_turns - (c.loop-turn._turn + 1)) c.loop-turn.waiting c.loop-turn.state c.loop-turn.rest.now in
    let before = step c.args.goal c.loop-turn.waiting c.loop-turn.state c.loop-turn.rest.now in
    let g = fails_on c.in_err-next.field-0.0 before (run c.args.goal most_turns [] at.Want c.args.tokens.now) (λ n. e ∙ f n) in
    first_of (search (rules, g), grind (arith, common_steps))

pub returns-in-Done : goal.returns-in-Done
returns-in-Done c =
    let at_most = λ (n : ℕ). run c.args.goal n c.loop-turn.waiting c.loop-turn.state c.loop-turn.rest.now in
    let e = one_more at_most most_turns c.loop-turn._turn c.loop-turn-test.true c.loop-turn.invariant in
    e ∙ turn_done _ _ _ _ _ _ _ c.in_ok-next.ensures (ap finished c.in-Done.is)

pub loop-turn-preserved : goal.loop-turn-preserved
loop-turn-preserved c =
    let at_most = λ (n : ℕ). run c.args.goal n c.loop-turn.waiting c.loop-turn.state c.loop-turn.rest.now in
    let e = one_more at_most most_turns c.loop-turn._turn c.loop-turn-test.true c.loop-turn.invariant in
    e ∙ turn_on _ _ _ _ _ _ _ c.in_ok-next.ensures (unfinished _ c.in_default.not-Done)

pub returns : goal.returns
unfolding run
returns c =
    let most : most_turns ≤ c.loop-turn._turn = omega arith in
    let at_most = λ (n : ℕ). run c.args.goal n c.loop-turn.waiting c.loop-turn.state c.loop-turn.rest.now in
    no_more at_most most_turns c.loop-turn._turn most c.loop-turn.invariant

pub loop-turn-init : goal.loop-turn-init
loop-turn-init c = ap (λ ws. run c.args.goal most_turns ws at.Want c.args.tokens.now) (sym c.new-waiting.ensures)
