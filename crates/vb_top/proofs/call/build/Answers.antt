use Rattle.std.proofs.Common.{ap}
use Rattle.std.specs.Prelude.{string_bytes, Err}
use Rattle.vb_top.specs.declared.compiling.CompileErr.{CompileErr}
use Rattle.vb_top.proofs.Calls.{built_by, refused_built}
use Rattle.vb_top.proofs.call.build.Goals as goal

pub returns-in-Some-clause-built : goal.returns-in-Some-clause-built
returns-in-Some-clause-built g c = λ input.
    let r = c.in-Ok.ensures.read in
    built_by c.args.bytes.now r.0 c.in-Some.report c.named.result.said c.named.result.report (string_bytes c.named.result.name) r.1 c.named.ensures input (g.O.Sink.written c.args.out.now) (g.O.Sink.written c.run_program.new.out) (g.O.Sink.faults c.args.out.now) (g.O.Sink.faults c.run_program.new.out) (c.in-Some.ensures.kept r.0 r.2 input)

pub returns-in-Err-Refused-clause-built : goal.returns-in-Err-Refused-clause-built
returns-in-Err-Refused-clause-built g c = λ input.
    refused_built c.args.bytes.now input (g.O.Sink.written c.args.out.now) (g.O.Sink.faults c.args.out.now) c.refused.result.said c.in-Err-Refused.refusal.line c.in-Err-Refused.refusal.rule c.refused.result.report (string_bytes c.refused.result.name)
    (c.in-Err-Refused.ensures.refused c.in-Err-Refused.refusal (ap (λ (e : CompileErr). Err e) c.in-Err-Refused.field-0-is)) c.refused.ensures.said c.refused.ensures.report
