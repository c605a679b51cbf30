use Rattle.vb_ends.specs.Reading.{next_item}
use Rattle.vb_ends.proofs.reading.first_unended.Goals as goal

pub loop-at-init : goal.loop-at-init
loop-at-init c = c.new-reader.ensures (next_item c.args.rows.now)
