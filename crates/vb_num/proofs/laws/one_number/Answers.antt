use Rattle.std.proofs.Common.{sym, ◌∙◌}
use Rattle.vb_num.proofs.Wholes.{value_is}
use Rattle.vb_num.proofs.laws.one_number.Goals as goal

pub returns : goal.returns
returns c units value other w v = value_is units value w ∙ sym (value_is units other v)
