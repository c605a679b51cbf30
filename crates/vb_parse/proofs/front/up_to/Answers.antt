use Rattle.vb_parse.proofs.UpTo.{all_rows}
use Rattle.vb_parse.proofs.front.up_to.Goals as goal

pub loop-row-init : goal.loop-row-init
loop-row-init c = all_rows c.args.line c.args.rows
