use Rattle.std.proofs.Common.{◌<◌, refl, ap, ◌∙◌, arith}
use Rattle.vb_turns.specs.Stage.{units_asked}
use Rattle.vb_turns.proofs.Stages.{added, puts_none}
use Rattle.vb_turns.proofs.entries.perform.Goals as goal

pub returns-clause-performs : goal.returns-clause-performs
returns-clause-performs g c =
    let code = c.args.code.now in
    let h = c.settle.ensures code in
    let is = c.units_of-units.ensures.asked ∙ ap units_asked c.requires.action in
    let left : c.args.running.now.turns < c.args.limits.turns = omega arith in
    added code c.args.limits c.args.running.now c.settle.new.running c.args.committed c.units_of-units.result (record { thread = 0; worker = 0; committed = c.args.committed })
    c.requires.asks c.requires.fine is c.if-running-units.false left refl (h.journal ∙ c.in-Ok.ensures.ok) h.thread h.turns h.units h.settled h.begun
    (g.O.Sink.written c.args.out.now) (g.O.Sink.written c.put.new.out)
    (puts_none code c.args.action _ (g.O.Sink.written c.args.out.now) (g.O.Sink.written c.put.new.out) (g.O.Sink.faults c.args.out.now) (g.O.Sink.faults c.put.new.out) c.requires.action c.in-None.ensures.puts)
