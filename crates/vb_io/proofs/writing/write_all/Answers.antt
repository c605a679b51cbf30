use Rattle.std.proofs.Common.{◌≤◌, ◌++◌, sym, ap, ◌∙◌, arith}
use Rattle.vb_io.proofs.Written.{put_more}
use Rattle.vb_io.proofs.writing.write_all.Goals as goal

pub loop-rest-preserved : goal.loop-rest-preserved
loop-rest-preserved g c =
    let put = c.loop-rest.invariant.put in
    let more = put_more (g.K.Sink.written c.args.sink.now) (g.K.Sink.written c.loop-rest.sink) (g.K.Sink.written c.put.new.self) c.args.text.now put.0 c.loop-rest.rest.now c.in_ok-count.count put.1 put.2 c.in_ok-count.ensures.bytes in
    let le : g.K.Sink.faults c.args.sink.now ≤ g.K.Sink.faults c.put.new.self = omega (arith, c.loop-rest.invariant.later, c.put.ensures.cause.later) in
    record {
      put = (more.0, more.1 ∙ ap (λ r. more.0 ++ r) (sym c.split_at.ensures.back), more.2);
      later = le;
    }
