use Rattle.std.proofs.Common.{refl}
use Rattle.vb_diag.proofs.Least.{rules_ordered, lesser_least, lesser_commutes, lesser_associates}
use Rattle.vb_diag.proofs.broken.lesser_joins.Goals as goal

pub returns-clause-least : goal.returns-clause-least
returns-clause-least c = lesser_least rules_ordered

pub returns-clause-commutes : goal.returns-clause-commutes
returns-clause-commutes c = lesser_commutes rules_ordered

pub returns-clause-associates : goal.returns-clause-associates
returns-clause-associates c = lesser_associates rules_ordered

pub returns-clause-order : goal.returns-clause-order
returns-clause-order c = λ a b. refl
