use Rattle.vb_top.proofs.Refusals.{one}
use Rattle.vb_top.proofs.laws.one_refusal.Goals as goal

pub returns : goal.returns
returns c = λ bytes line rule other_line other_rule h k. one c.words_apart.ensures c.one_list_of_rows.ensures c.one_tree.ensures bytes line rule other_line other_rule h k
