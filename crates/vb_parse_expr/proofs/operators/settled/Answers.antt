use Rattle.std.proofs.Common.{ℕ, ◌≡◌, ◌-◌, ◌+◌, ◌∙◌, ap, subst, Ok, Some}
use Rattle.vb_parse_expr.specs.{TypeReading.popped, MachineReading.{settled, settled_at, Settles}}
use Rattle.vb_parse_expr.proofs.{Lists.popped_last, Turns.one_more}
use Rattle.vb_parse_expr.proofs.operators.settled.Goals as goal

pub loop-turn-preserved : goal.loop-turn-preserved
unfolding settled
loop-turn-preserved c =
    let s = c.args.strength in
    let n = c.len-turn-end.result - (c.loop-turn._turn + 1) in
    let at_most = λ (n : ℕ). settled s n c.loop-turn.waiting c.loop-turn.operand in
    let e = one_more at_most c.len-turn-end.result c.loop-turn._turn c.loop-turn-test.true c.loop-turn.invariant in
    let p : popped c.loop-turn.waiting ≡ Some (c.pop.new.self, c.in-Some.pending) = popped_last _ _ _ c.in-Some.ensures in
    let t = ap (settled_at s (settled s n) c.loop-turn.waiting c.loop-turn.operand) p in
    let took = subst (λ r. Settles s c.in-Some.pending c.loop-turn.operand (Ok r)) c.in-Whole.is c.in_ok-whole.ensures in
    e ∙ (t ∙ took (settled s n) c.loop-turn.waiting c.pop.new.self)
