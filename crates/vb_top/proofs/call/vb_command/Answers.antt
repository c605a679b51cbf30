use Rattle.std.proofs.Common.{[], map, None, refl}
use Rattle.std.specs.Prelude.{string_bytes}
use Rattle.vb_top.specs.declared.outcome.Answer.TheVariants.{Usage}
use Rattle.vb_top.proofs.Calls.{usage_works, finished, same_count}
use Rattle.vb_top.proofs.call.vb_command.Goals as goal

pub returns-in-None-clause-headline : goal.returns-in-None-clause-headline
returns-in-None-clause-headline g c = λ bytes may.
    let words = map (λ w. string_bytes w) c.args.words.now in
    let files = g.F.Folder.holds c.args.folder.now in
    let count = g.F.Folder.faults c.args.folder.now in
    let name = string_bytes c.new.result in
    finished g.I.Source.left g.O.Sink.written g.O.Sink.faults words files files [] count count bytes c.args.input c.finish.result.input c.args.out c.args.out c.finish.result.out (g.E.Sink.written c.args.err) (g.E.Sink.written c.finish.result.err) (g.E.Sink.faults c.args.err) (g.E.Sink.faults c.finish.result.err) c.finish.result.status Usage None c.finish.result.report name (usage_works words files count bytes (g.O.Sink.written c.args.out) (g.O.Sink.faults c.args.out) name c.in-None.ensures) refl may c.finish.ensures.input c.finish.ensures.out c.finish.ensures.report (same_count count) (same_count (g.O.Sink.faults c.args.out)) c.finish.ensures.later c.finish.ensures.tells

pub returns-in-Some-clause-headline : goal.returns-in-Some-clause-headline
returns-in-Some-clause-headline g c = λ bytes may.
    let words = map (λ w. string_bytes w) c.args.words.now in
    let files = g.F.Folder.holds c.args.folder.now in
    let done = c.work-outcome in
    finished g.I.Source.left g.O.Sink.written g.O.Sink.faults words files (g.F.Folder.holds done.new.folder) c.in-Some.file.now (g.F.Folder.faults c.args.folder.now) (g.F.Folder.faults done.new.folder) bytes c.args.input c.finish-in-Some.result.input c.args.out done.new.out c.finish-in-Some.result.out (g.E.Sink.written c.args.err) (g.E.Sink.written c.finish-in-Some.result.err) (g.E.Sink.faults c.args.err) (g.E.Sink.faults c.finish-in-Some.result.err) c.finish-in-Some.result.status done.result.said done.result.report c.finish-in-Some.result.report (string_bytes done.result.name) (done.ensures.works words c.in-Some.ensures bytes) done.ensures.kept may c.finish-in-Some.ensures.input c.finish-in-Some.ensures.out c.finish-in-Some.ensures.report done.ensures.folder_later done.ensures.out_later c.finish-in-Some.ensures.later c.finish-in-Some.ensures.tells
