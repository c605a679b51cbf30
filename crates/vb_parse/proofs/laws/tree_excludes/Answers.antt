use Rattle.vb_parse.proofs.TreeExcludes.{excluded}
use Rattle.vb_parse.proofs.laws.tree_excludes.Goals as goal

pub returns : goal.returns
returns c = λ words file lines tree apart short is.
    excluded words file lines tree is (λ others are. c.one_list_of_rows.ensures words lines is.rows others apart short is.are_rows are)
    (c.tree_is_placed.ensures file is.rows tree is.is_tree) (c.tree_has_ends.ensures file is.rows tree is.is_tree)
