use Rattle.std.proofs.Common.{◌∙◌}
use Rattle.vb_codegen.proofs.Emission.{assembled}
use Rattle.vb_codegen.proofs.program.code_of.Goals as goal

pub returns-clause-each : goal.returns-clause-each
returns-clause-each c = λ t o.
    c.new-2.ensures
    ∙ assembled t c.args.program.now o c.locals-locals.result.now c.emit_front.new.steps.items c.emit_lines.new.steps.items c.put.new.steps.items _ _ c.in_ok-integers.field-0.items _ _ _ c.locals-locals.ensures.value c.in_ok-emit_front.ensures
    (c.in_ok-emit_lines.ensures t.body (c.lines.ensures ∙ o.lines)) c.in_ok-put.ensures c.in_ok-texts.ensures c.in_ok-classes.ensures c.in_ok-integers.ensures c.new.ensures c.new-procs.ensures.items c.in_ok-push.ensures.items
