use Rattle.std.proofs.Common.{◌≡◌, subst}
use Rattle.vb_diag.specs.Rules.{refusal_text}
use Rattle.vb_io.specs.Outside.{Writes}
use Rattle.vb_top.specs.Answers.{IsRefusalLine}
use Rattle.vb_top.proofs.telling.tell.Goals as goal

pub returns-in-Missing : goal.returns-in-Missing
returns-in-Missing g c = rw (c.in-Missing.is, ← c.as_bytes.ensures.value) c.write_both.ensures

pub returns-in-TooLong : goal.returns-in-TooLong
returns-in-TooLong g c = rw (c.in-TooLong.is, ← c.as_bytes-in-TooLong.ensures.value) c.write_both-in-TooLong.ensures

pub returns-in-LoadFault : goal.returns-in-LoadFault
returns-in-LoadFault g c = rw c.in-LoadFault.is c.write_all-in-LoadFault.ensures

pub returns-in-Refused : goal.returns-in-Refused
returns-in-Refused g c =
    let line : c.args.refusal.now ≡ refusal_text c.args.file.now c.in-Refused.line c.in-Refused.rule = subst (λ a. IsRefusalLine a c.args.file.now c.args.refusal.now) c.in-Refused.is c.requires in
    rw c.in-Refused.is (subst (λ l. Writes (g.E.Sink.written c.args.err.now) (g.E.Sink.written c.write_all-in-Refused.new.sink) (g.E.Sink.faults c.args.err.now) (g.E.Sink.faults c.write_all-in-Refused.new.sink) l c.write_all-in-Refused.result) line c.write_all-in-Refused.ensures)
