use Rattle.std.specs.Prelude.{◌++◌}
use Rattle.vb_io.proofs.Written.{part_of_both, both_written}
use Rattle.vb_top.proofs.telling.write_three.Goals as goal

pub returns-in-Ok : goal.returns-in-Ok
returns-in-Ok g c = both_written (g.K.Sink.written c.args.sink.now) (g.K.Sink.written c.write_both.new.sink) _ _ _ _ (c.args.front.now ++ c.args.middle.now) c.args.back.now c.write_all.result c.in-Ok.ensures.ok c.write_both.ensures.later c.write_all.ensures

pub returns-in-Err : goal.returns-in-Err
returns-in-Err g c = record {
  ok = tt;
  failed = (part_of_both _ _ (c.args.front.now ++ c.args.middle.now) c.args.back.now c.in-Err.ensures.failed.0, c.in-Err.ensures.failed.1);
  later = c.write_both.ensures.later;
}
