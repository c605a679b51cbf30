use Rattle.vb_frames.proofs.Dues.{joins_to}
use Rattle.vb_frames.proofs.instructions.join.Goals as goal

pub returns : goal.returns
returns c = joins_to c.args.front.now c.args.back.now c.concat.result c.concat.ensures.text
