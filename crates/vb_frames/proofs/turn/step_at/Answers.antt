use Rattle.std.proofs.Common.{◌<◌, ◌^◌, ◌∙◌, ap, arith, get_or}
use Rattle.vb_code.specs.Code.{begins_at}
use Rattle.vb_frames.proofs.Turning.{step_needs, step_there, instr_there, turn_went, turn_asked, no_step}
use Rattle.vb_frames.proofs.turn.step_at.Goals as goal

pub obey-requires-clause-needs : goal.obey-requires-clause-needs
obey-requires-clause-needs c = step_needs c.args.code.now c.args.steps.now c.args.local.now c.args.place c.requires.body c.requires.state c.requires.here no_step

pub returns-in-Went : goal.returns-in-Went
returns-in-Went c =
    let code = c.args.code.now in
    let steps = c.args.steps.now in
    let old = c.args.local.now in
    let place = c.args.place in
    let step = get_or steps place no_step in
    let at = instr_there code steps old place c.requires.body c.requires.state c.requires.here no_step in
    let there = step_there code steps old place c.requires.body c.requires.state c.requires.here no_step in
    let begins = ap (λ bs. begins_at bs place) c.requires.begins ∙ c.steps_stand.ensures steps place step there in
    let few : step.begins < 2 ^ 32 = omega (arith, c.wide.ensures.same, c.wide.ensures.few) in
    turn_went code old c.obey.new.local place step.instr step.begins c.requires.here at begins c.wide.result c.wide.ensures.same few c.in-Went.ensures

pub returns-in-Asked : goal.returns-in-Asked
returns-in-Asked c =
    let code = c.args.code.now in
    let steps = c.args.steps.now in
    let old = c.args.local.now in
    let place = c.args.place in
    let step = get_or steps place no_step in
    let at = instr_there code steps old place c.requires.body c.requires.state c.requires.here no_step in
    let there = step_there code steps old place c.requires.body c.requires.state c.requires.here no_step in
    let begins = ap (λ bs. begins_at bs place) c.requires.begins ∙ c.steps_stand.ensures steps place step there in
    turn_asked code old c.obey.new.local place step.instr step.begins c.requires.here at begins c.in-Asked.committed c.requires.state c.in-Asked.ensures
