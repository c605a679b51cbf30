use Rattle.std.proofs.Common.{◌≤◌, ◌+◌, ◌*◌, arith}
use Rattle.vb_turns.proofs.Stages.{advanced}
use Rattle.vb_turns.proofs.alone.advance.Goals as goal

pub returns-clause-fine : goal.returns-clause-fine
returns-clause-fine c =
    let old = c.args.running.now in
    let done = c.run_local-paused in
    let begun : old.settled + done.new.local.begun ≤ 4294967296 * (old.turns + done.result.spent) = omega (arith, c.requires.fine.small.begun, done.ensures.few) in
    let turns : old.turns + done.result.spent ≤ c.args.limits.turns = omega (arith, c.requires.fine.small.turns, done.ensures.within) in
    record { state = done.ensures.state; small = record { begun = begun; turns = turns; units = c.requires.fine.small.units }; mains = c.requires.fine.mains }

pub returns-clause-leads : goal.returns-clause-leads
returns-clause-leads c = advanced c.args.code.now c.args.limits c.args.running.now c.run_local-paused.new.local c.run_local-paused.result.spent c.run_local-paused.ensures.runs
