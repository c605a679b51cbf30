use Rattle.std.proofs.Common.{arith}
use Rattle.vb_lexer.specs.Tokens.{is_in_run}
use Rattle.vb_lexer.proofs.Runs.{run_is}
use Rattle.vb_lexer.proofs.characters.run_len.Goals as goal

pub returns-then-not-is_in_run-clause-count : goal.returns-then-not-is_in_run-clause-count
returns-then-not-is_in_run-clause-count c = run_is (is_in_run c.args.run) _ _ (omega arith) c.loop-i.invariant (λ below. cc)

pub returns-clause-count : goal.returns-clause-count
returns-clause-count c = run_is (is_in_run c.args.run) _ _ (omega arith) (λ k below. c.loop-i.invariant k (omega (arith, below))) (λ below. absurd (omega (arith, below)))
