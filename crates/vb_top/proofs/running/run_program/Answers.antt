use Rattle.std.proofs.Common.{List, ℕ, Option, sym, subst}
use Rattle.std.specs.Prelude.{IfSome}
use Rattle.vb_turns.specs.{declared.alone.Run.Run, Ran.Ran}
use Rattle.vb_top.specs.Reports.{RanProgram, limits}
use Rattle.vb_top.proofs.Kept.{ran_program}
use Rattle.vb_top.proofs.running.run_program.Goals as goal

pub returns-in-Some-clause-kept : goal.returns-in-Some-clause-kept
returns-in-Some-clause-kept g c = λ t outlines input.
    let code = c.in-Ok.code in
    let run = c.in-Some.run' in
    let stop = c.run_alone-run.result.stop in
    let old = g.O.Sink.written c.args.out.now in
    let new = g.O.Sink.written c.run_alone-run.new.out in
    let before = g.O.Sink.faults c.args.out.now in
    let now = g.O.Sink.faults c.run_alone-run.new.out in
    let all = subst (λ (o : Option Run). IfSome o (λ r. (input : List ℕ) → Ran code limits r stop input old new before now)) c.in-Some.is c.run_alone-run.ensures.ran in
    subst (λ r. RanProgram t r input old new before now) (sym c.report_of.ensures) (ran_program t code run input old new before now (c.in-Ok.ensures.stands t outlines) stop c.in-Ok.ensures.checked c.in-Ok.ensures.paced (all input))
