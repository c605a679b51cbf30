use Rattle.std.proofs.lemmas.Int.{quot-rem, rem_below}
use Rattle.vb_num.proofs.laws.division_fits.Goals as goal

pub returns-clause-whole : goal.returns-clause-whole
returns-clause-whole c = quot-rem

pub returns-clause-near : goal.returns-clause-near
returns-clause-near c = rem_below
