use Rattle.vb_threads.proofs.Steps.{stands_by_steps, within_by_steps}
use Rattle.vb_threads.proofs.lifting_steps.Goals as goal

pub returns : goal.returns
returns g c = record {
  stands = λ q p most by. stands_by_steps most g.X.Correspondence.asks g.X.Correspondence.answers g.X.Correspondence.stores g.Y.RelatedStates.related q p by;
  within = λ q p most by alone input heap journal v run. within_by_steps most g.X.Correspondence.asks g.X.Correspondence.answers g.X.Correspondence.stores g.Y.RelatedStates.related q p by alone input heap journal v run;
}
