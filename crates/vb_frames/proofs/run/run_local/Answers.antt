use Rattle.std.proofs.Common.{◌≤◌, ◌+◌, ◌*◌, arith, subst}
use Rattle.vb_frames.specs.{Frames.PausesAt, Turn.TurnsTo}
use Rattle.vb_frames.proofs.Turning.{runs_more, kept_going}
use Rattle.vb_frames.proofs.run.run_local.Goals as goal

pub loop-spent-preserved : goal.loop-spent-preserved
loop-spent-preserved c =
    let code = c.args.code.now in
    let mid = c.loop-spent.local in
    let new = c.turn.new.local in
    let known = c.loop-spent.invariant in
    let went = subst (λ did. TurnsTo code mid new did) c.in-Went.is (subst (λ k. TurnsTo k mid new c.turn.result) c.code-program.ensures.code c.turn.ensures) in
    let going = kept_going code mid new known.state went in
    let room : new.begun ≤ c.args.local.now.begun + 4294967296 * (c.loop-spent.spent + 1) = omega (arith, known.room, went.2, went.3) in
    record { state = going.0; going = going.1; runs = runs_more code c.args.local.now mid new c.loop-spent.spent known.runs went; room = room }

pub returns-clause-pauses : goal.returns-clause-pauses
returns-clause-pauses c = subst (λ k. PausesAt k c.last_pause.new.local c.args.budget c.args.budget c.last_pause.result) c.code-program.ensures.code (c.last_pause.ensures.pauses c.args.budget)
