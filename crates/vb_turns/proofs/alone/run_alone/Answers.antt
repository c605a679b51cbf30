use Rattle.std.proofs.Common.{refl}
use Rattle.vb_turns.specs.declared.alone.Running.{Running}
use Rattle.vb_turns.proofs.Finishes.{ran, first_stage}
use Rattle.vb_turns.proofs.alone.run_alone.Goals as goal

pub returns-clause-ran : goal.returns-clause-ran
returns-clause-ran g c =
    let code = c.args.code.now in
    let first : Running = record { local = c.in-Ok.local; journal = c.new.result; turns = 0; settled = 0; units = 0 } in
    let kept = c.run_of.ensures in
    ran code c.args.limits first c.run_on-stop.new.running c.run_on-stop.result (g.O.Sink.written c.args.out.now) (g.O.Sink.written c.run_on-stop.new.out) (g.O.Sink.faults c.args.out.now) (g.O.Sink.faults c.run_on-stop.new.out)
    (first_stage code c.args.limits first c.in-Ok.ensures.first c.in-Ok.ensures.begun c.new.ensures refl refl refl)
    c.run_on-stop.ensures.ends c.run_of.result kept.0 kept.1 kept.2 kept.3 kept.4 kept.5
