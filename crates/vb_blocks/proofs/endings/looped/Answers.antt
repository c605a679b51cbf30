use Rattle.vb_blocks.proofs.Parts.{not_loop}
use Rattle.vb_blocks.proofs.endings.looped.Goals as goal

pub returns-in_default : goal.returns-in_default
returns-in_default c = not_loop c.args.start c.args.top c.args.body c.args.line c.args.item c.in_default.not-Loop
