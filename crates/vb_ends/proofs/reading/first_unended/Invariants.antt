use Rattle.std.proofs.Common.{drop, take, reverse}
use Rattle.vb_ends.specs.Reading.{HasRead, next_item}
use Rattle.vb_ends.proofs.reading.first_unended.Given as goal

abbrev pub invariant-loop-at : goal.invariant-loop-at
invariant-loop-at l = HasRead l.reader (next_item (drop l.at l.rows)) (reverse (take l.at l.rows))
