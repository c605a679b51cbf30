use Rattle.std.proofs.Common.{arith}
use Rattle.vb_num.specs.WholeReading.{is_in_run}
use Rattle.vb_num.proofs.Runs.{run_is}
use Rattle.vb_num.proofs.whole.run_len.Goals as goal

pub returns-then-not-is_in_run-clause-count : goal.returns-then-not-is_in_run-clause-count
returns-then-not-is_in_run-clause-count c = run_is (is_in_run c.args.run) _ _ (omega arith) c.loop-i.invariant (λ below. cc)

pub returns-clause-count : goal.returns-clause-count
returns-clause-count c = run_is (is_in_run c.args.run) _ _ (omega arith) (λ k below. c.loop-i.invariant k (omega (arith, below))) (λ below. absurd (omega (arith, below)))
