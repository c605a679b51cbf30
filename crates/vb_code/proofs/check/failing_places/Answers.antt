use Rattle.vb_code.proofs.Failing.{checked_never_fails, fine_is_checked}
use Rattle.vb_code.proofs.check.failing_places.Goals as goal

pub returns-clause-never : goal.returns-clause-never
returns-clause-never call = checked_never_fails

pub returns-clause-fine : goal.returns-clause-fine
returns-clause-fine call = fine_is_checked
