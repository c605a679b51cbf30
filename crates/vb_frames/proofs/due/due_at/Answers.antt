use Rattle.std.proofs.Common.{refl, sym, subst, get_or}
use Rattle.vb_code.specs.Code.{begins_at, begins_of}
use Rattle.vb_frames.specs.Frames.{HasStep}
use Rattle.vb_frames.proofs.Turning.{step_needs, instr_there, turn_asked, steps_next, no_step}
use Rattle.vb_frames.proofs.due.due_at.Goals as goal

pub stand-requires-clause-needs : goal.stand-requires-clause-needs
stand-requires-clause-needs c = step_needs c.args.code.now c.args.steps.now c.args.local.now c.args.place c.requires.body c.requires.state c.requires.here no_step

pub returns-in-Some : goal.returns-in-Some
returns-in-Some c =
    let code = c.args.code.now in
    let steps = c.args.steps.now in
    let old = c.args.local.now in
    let place = c.args.place in
    let at = instr_there code steps old place c.requires.body c.requires.state c.requires.here no_step in
    turn_asked code old c.stand.new.local place (get_or steps place no_step).instr (begins_at (begins_of code) place) c.requires.here at refl c.in-Some.committed c.requires.state c.in-Some.ensures

pub returns-in-None : goal.returns-in-None
returns-in-None c =
    let code = c.args.code.now in
    let steps = c.args.steps.now in
    let old = c.args.local.now in
    let place = c.args.place in
    let at = instr_there code steps old place c.requires.body c.requires.state c.requires.here no_step in
    let h = c.in-None.ensures in
    (h.0, subst (λ l. HasStep code l) (sym h.0) (steps_next code old c.stand.new.local place (get_or steps place no_step).instr (begins_at (begins_of code) place) c.requires.here at refl h.1))
