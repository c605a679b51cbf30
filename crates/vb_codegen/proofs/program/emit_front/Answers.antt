use Rattle.vb_codegen.proofs.Emission.{locals_done}
use Rattle.vb_codegen.proofs.program.emit_front.Goals as goal

pub returns : goal.returns
returns c = locals_done c.args.locals.now c.loop-local.local c.loop-local.steps.items _ c.loop-local-test.false c.loop-local.invariant
