use Rattle.std.proofs.Common.{ap, ◌∙◌}
use Rattle.std.specs.Prelude.{string_bytes}
use Rattle.vb_text.specs.Units.{utf8_of}
use Rattle.vb_code.specs.Code.{class_name}
use Rattle.vb_top.proofs.Named.{tells_as_stopped, tells_as_memory, no_name, its_name}
use Rattle.vb_top.proofs.running.named.Goals as goal

pub returns-in-Ok : goal.returns-in-Ok
returns-in-Ok c = tells_as_stopped c.args.report c.stopped.result.said c.stopped.result.report (string_bytes c.stopped.result.name) c.stopped.ensures.said c.stopped.ensures.report (its_name c.args.report c.in-Uncaught.thread c.in-Uncaught.class (string_bytes c.stopped.result.name) c.in-Uncaught.is (ap (λ s. string_bytes s) c.stopped.ensures.name ∙ c.in-Ok.ensures ∙ ap (λ code. utf8_of (class_name code c.in-Uncaught.class)) c.code.ensures.code))

pub returns-in-Err : goal.returns-in-Err
returns-in-Err c = tells_as_memory c.args.report c.out_of_memory.result.said c.out_of_memory.result.report (string_bytes c.out_of_memory.result.name) c.in-Uncaught.thread c.in-Uncaught.class c.in-Uncaught.is c.out_of_memory.ensures.said c.out_of_memory.ensures.report

pub returns-in_default : goal.returns-in_default
returns-in_default c = tells_as_stopped c.args.report c.stopped-in_default.result.said c.stopped-in_default.result.report (string_bytes c.stopped-in_default.result.name) c.stopped-in_default.ensures.said c.stopped-in_default.ensures.report (no_name c.args.report c.args.report.stop (string_bytes c.stopped-in_default.result.name) (λ thread class e. c.in_default.not-Uncaught thread class e))
