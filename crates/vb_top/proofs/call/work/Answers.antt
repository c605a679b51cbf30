use Rattle.std.proofs.Common.{List, ℕ, ◌++◌, ap, ◌∙◌}
use Rattle.std.specs.Prelude.{string_bytes, Err}
use Rattle.vb_io.specs.declared.LoadErr.{LoadErr}
use Rattle.vb_top.proofs.Calls.{loaded, works_of, could_be_had, failed_works}
use Rattle.vb_top.proofs.call.work.Goals as goal

pub returns-in-Ok-clause-works : goal.returns-in-Ok-clause-works
returns-in-Ok-clause-works g c = λ words w input.
    let l = c.in-Ok.ensures.loads.loaded in
    works_of words (g.F.Folder.holds c.args.folder.now) c.args.file.now c.deref.result.now (g.F.Folder.faults c.args.folder.now) (g.F.Folder.faults c.load.new.self) input (g.O.Sink.written c.args.out.now) (g.O.Sink.written c.build.new.out) (g.O.Sink.faults c.args.out.now) (g.O.Sink.faults c.build.new.out) c.build.result.said c.build.result.report (string_bytes c.build.result.name) (loaded words (g.F.Folder.holds c.args.folder.now) c.args.file.now c.load.new.into.items c.deref.result.now l.0 w (l.1 ∙ ap (λ (x : List ℕ). x ++ l.0) c.new-bytes.ensures.items) c.deref.ensures.value l.2 l.3) (c.build.ensures.built input)

pub returns-in-Err-Failed-clause-works : goal.returns-in-Err-Failed-clause-works
returns-in-Err-Failed-clause-works g c = λ words w input.
    let loads = c.in-Err-Failed.ensures.loads in
    let said = c.unbuilt-in-Err-Failed in
    failed_works words (g.F.Folder.holds c.args.folder.now) c.args.file.now (g.F.Folder.faults c.args.folder.now) (g.F.Folder.faults c.load.new.self) input (g.O.Sink.written c.args.out.now) (g.O.Sink.faults c.args.out.now) said.result.said said.result.report (string_bytes said.result.name) w (loads.failed (ap (λ (e : LoadErr). Err e) c.in-Err-Failed.field-0-is)) (could_be_had (g.F.Folder.holds c.args.folder.now) c.args.file.now (g.F.Folder.faults c.args.folder.now) (g.F.Folder.faults c.load.new.self) c.in-Err-Failed.field-0 c.new-bytes.result.items c.load.new.into.items c.in-Err-Failed.field-0-is loads) said.ensures.said said.ensures.report
