use Rattle.std.proofs.Common.{◌<◌, inl, refl, arith}
use Rattle.std.proofs.KnownBytes.{Appends-nil}
use Rattle.vb_value.specs.declared.stop.Stop.TheVariants.{Uncaught, TurnLimit, Memory}
use Rattle.vb_turns.proofs.Stages.{stands_at, stopped_at, ended_at, goes_at}
use Rattle.vb_turns.proofs.alone.round.Goals as goal

pub returns-in-Some-clause-rounds : goal.returns-in-Some-clause-rounds
returns-in-Some-clause-rounds g c =
    stopped_at c.args.code.now c.args.limits c.args.running.now c.advance.new.running c.in-Ask.ensures.leads c.in-Ask.ensures.fine c.perform.new.running c.in-Ask.committed c.in-Some.stop _ _ _ _ c.in-Ask.ensures.pauses.1 c.in-Some.ensures.performs

pub returns-in-None-clause-rounds : goal.returns-in-None-clause-rounds
returns-in-None-clause-rounds g c =
    ended_at c.args.code.now c.args.limits c.args.running.now c.advance.new.running c.in-Ask.ensures.leads c.in-Ask.ensures.fine c.perform.new.running c.in-Ask.action c.is_end-last.result _ _ (g.O.Sink.faults c.args.out.now) (g.O.Sink.faults c.perform.new.out) c.in-None.ensures.performs c.in-Ask.ensures.pauses.0 (c.is_end-last.ensures c.args.code.now) c.if-last.true

pub returns-in-None-2-clause-rounds : goal.returns-in-None-2-clause-rounds
returns-in-None-2-clause-rounds g c =
    let adds = c.in-None.ensures.performs in
    let further : c.args.running.now.turns < c.perform.new.running.turns = omega (arith, c.in-Ask.ensures.further, adds.turns) in
    (goes_at c.args.code.now c.args.limits c.args.running.now c.advance.new.running c.in-Ask.ensures.leads c.in-Ask.ensures.fine c.perform.new.running c.in-Ask.action c.is_end-last.result _ _ (g.O.Sink.faults c.args.out.now) (g.O.Sink.faults c.perform.new.out) adds c.in-Ask.ensures.pauses.0 (c.is_end-last.ensures c.args.code.now) c.if-last.false, further)

pub returns-in-Spent-clause-rounds : goal.returns-in-Spent-clause-rounds
returns-in-Spent-clause-rounds g c =
    let out = g.O.Sink.written c.args.out.now in
    let faults = g.O.Sink.faults c.args.out.now in
    let spent = c.in-Spent.ensures.pauses in
    stands_at c.args.code.now c.args.limits c.args.running.now c.advance.new.running c.in-Spent.ensures.leads c.in-Spent.ensures.fine TurnLimit out out faults faults (spent.0, refl, inl spent.1, Appends-nil out)

pub returns-in-Uncaught-clause-rounds : goal.returns-in-Uncaught-clause-rounds
returns-in-Uncaught-clause-rounds g c =
    let out = g.O.Sink.written c.args.out.now in
    let faults = g.O.Sink.faults c.args.out.now in
    stands_at c.args.code.now c.args.limits c.args.running.now c.advance.new.running c.in-Uncaught.ensures.leads c.in-Uncaught.ensures.fine (Uncaught 0 c.in-Uncaught.class) out out faults faults (refl, c.in-Uncaught.ensures.pauses, Appends-nil out)

pub returns-in-Memory-clause-rounds : goal.returns-in-Memory-clause-rounds
returns-in-Memory-clause-rounds g c =
    let out = g.O.Sink.written c.args.out.now in
    let faults = g.O.Sink.faults c.args.out.now in
    stands_at c.args.code.now c.args.limits c.args.running.now c.advance.new.running c.in-Memory.ensures.leads c.in-Memory.ensures.fine Memory out out faults faults (Appends-nil out)
