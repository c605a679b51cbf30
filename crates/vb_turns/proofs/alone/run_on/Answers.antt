use Rattle.std.proofs.Common.{◌≤◌, arith}
use Rattle.vb_turns.proofs.Stages.{goes_none, goes_twice, goes_ends}
use Rattle.vb_turns.proofs.alone.run_on.Goals as goal

pub loop-stop-init : goal.loop-stop-init
loop-stop-init g c =
    let faults = g.O.Sink.faults c.args.out.now in
    let later : faults ≤ faults = omega arith in
    record { goes = goes_none c.args.code.now c.args.limits c.args.running.now (g.O.Sink.written c.args.out.now) c.requires.fine c.requires.going; later = later }

pub loop-stop-preserved : goal.loop-stop-preserved
loop-stop-preserved g c =
    let known = c.loop-stop.invariant in
    let later : g.O.Sink.faults c.args.out.now ≤ g.O.Sink.faults c.round.new.out = omega (arith, known.later, c.round.ensures.later) in
    record {
      goes = goes_twice c.args.code.now c.args.limits c.args.running.now c.loop-stop.running c.round.new.running (g.O.Sink.written c.args.out.now) (g.O.Sink.written c.loop-stop.out) (g.O.Sink.written c.round.new.out) known.goes c.in_default.ensures.rounds.0;
      later = later;
    }

pub returns-in-Some-clause-ends : goal.returns-in-Some-clause-ends
returns-in-Some-clause-ends g c =
    goes_ends c.args.code.now c.args.limits c.args.running.now c.loop-stop.running c.round.new.running c.in-Some.stop (g.O.Sink.written c.args.out.now) (g.O.Sink.written c.loop-stop.out) (g.O.Sink.written c.round.new.out) (g.O.Sink.faults c.args.out.now) (g.O.Sink.faults c.loop-stop.out) (g.O.Sink.faults c.round.new.out) c.loop-stop.invariant.later c.loop-stop.invariant.goes c.in-Some.ensures.rounds
