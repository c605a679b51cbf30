use Rattle.std.proofs.Common.{refl}
use Rattle.vb_frames.proofs.Turning.{returned_asks}
use Rattle.vb_frames.proofs.due.due_of.Goals as goal

pub returns-in-Returned : goal.returns-in-Returned
returns-in-Returned c = (refl, refl, returned_asks c.args.code.now c.args.local.now c.in-Returned.is)
