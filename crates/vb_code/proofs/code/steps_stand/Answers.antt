use Rattle.vb_code.proofs.Steps.{begins_of_step}
use Rattle.vb_code.proofs.code.steps_stand.Goals as goal

pub returns : goal.returns
returns c = begins_of_step
