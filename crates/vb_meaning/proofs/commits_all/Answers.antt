use Rattle.vb_meaning.proofs.Commits.{each_commits}
use Rattle.vb_meaning.proofs.commits_all.Goals as goal

pub returns : goal.returns
returns c = each_commits
