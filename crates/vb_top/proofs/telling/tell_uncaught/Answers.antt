use Rattle.std.proofs.Common.{◌++◌, ◌∙◌}
use Rattle.std.specs.Prelude.{codes}
use Rattle.std.specs.Fmt.{decimal}
use Rattle.vb_top.proofs.Uncaught.{whole_line, part_of_line}
use Rattle.vb_top.proofs.telling.tell_uncaught.Goals as goal

pub returns-in-Ok : goal.returns-in-Ok
returns-in-Ok g c = whole_line (g.E.Sink.written c.args.err.now) (g.E.Sink.written c.write_three.new.sink) _ _ _ _ (codes "uncaught on thread ") c.as_bytes.result.now (decimal c.args.thread) (codes ": ") c.as_bytes-in-Ok.result.now c.args.name.now (codes "\n") c.write_both.result (c.as_bytes.ensures.value ∙ c.format-number.ensures.text) c.as_bytes-in-Ok.ensures.value c.in-Ok.ensures.ok c.write_three.ensures.later c.write_both.ensures

pub returns-in-Err : goal.returns-in-Err
returns-in-Err g c = record {
  ok = tt;
  failed = (part_of_line (g.E.Sink.written c.args.err.now) (g.E.Sink.written c.write_three.new.sink) (codes "uncaught on thread ") c.as_bytes.result.now (decimal c.args.thread) (codes ": ") (c.args.name.now ++ codes "\n") (c.as_bytes.ensures.value ∙ c.format-number.ensures.text) c.in-Err.ensures.failed.0, c.in-Err.ensures.failed.1);
  later = c.write_three.ensures.later;
}
