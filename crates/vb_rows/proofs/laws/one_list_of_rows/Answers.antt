use Rattle.std.proofs.Common.{[]}
use Rattle.vb_rows.proofs.OneList.{one_file}
use Rattle.vb_rows.proofs.laws.one_list_of_rows.Goals as goal

pub returns : goal.returns
returns c = λ words lines rows other apart short are too. one_file c.one_item.ensures words [] lines rows other apart short are too
