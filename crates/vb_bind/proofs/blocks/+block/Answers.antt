use Rattle.std.proofs.Common.{◌≡◌, Some, None, subst, rules}
use Rattle.vb_syntax.specs.declared.statement.StatementForm.TheVariants as form
use Rattle.vb_bound.specs.Tree.{Done, Then, Loop}
use Rattle.vb_bind.specs.Parsing.{statement_read, test_read, IsGoodBlock, IsNoBlock}
use Rattle.vb_bind.proofs.{Nested.{joined, joined_pushed}, Steps.{ok_so, none_at, more_good, loop_good, then_good, test_none, inner_none, statement_none}}
use Rattle.vb_bind.proofs.blocks.+block.Goals as goal

pub push_block-returns-in_err-push_statement-clause-refused :
    goal.push_block-returns-in_err-push_statement-clause-refused
push_block-returns-in_err-push_statement-clause-refused t c =
    λ e. none_at c.args.known.now c.args.names.now c.args.block.now c.loop-statement.statement-index c.statement-item.result c.loop-statement-test.true c.statement-item.is (search rules)

pub push_block-loop-statement-preserved : goal.push_block-loop-statement-preserved
push_block-loop-statement-preserved t c =
    let before = c.loop-statement.invariant in
    let one = c.in_ok-push_statement.ensures.read in (
      joined before.0 one.0,
      more_good c.args.known.now c.args.names.now c.args.block.now c.loop-statement.statement-index c.statement-item.result before.0 one.0 c.loop-statement-test.true c.statement-item.is before.1 one.1,
      joined_pushed c.args.lines.now.items c.loop-statement.lines.items c.push_statement.new.lines.items before.0 one.0 before.2 one.2,
    )

pub push_statement-returns-in-Some-clause-read : goal.push_statement-returns-in-Some-clause-read
push_statement-returns-in-Some-clause-read t c =
    let known = c.args.known.now in
    let names = c.args.names.now in
    let s = c.args.statement.now in
    let is : s.form ≡ form.While c.in-While.test c.in-While.body = search rules in
    let test : test_read names c.in-While.test ≡ Some c.in-Some.test = search rules in
    ok_so c.push_loop.result _ _ c.push_loop.ensures.read
    (λ x k. (Loop c.in-Some.test k.0 Done, loop_good known names s c.in-While.test c.in-While.body c.in-Some.test k.0 is test c.in-Some.ensures.bound (subst (λ ss. IsGoodBlock known names ss k.0) c.as_slice.ensures k.1), k.2))

pub push_statement-returns-in-Some-clause-refused :
    goal.push_statement-returns-in-Some-clause-refused
push_statement-returns-in-Some-clause-refused t c =
    let known = c.args.known.now in
    let names = c.args.names.now in
    let s = c.args.statement.now in
    let is : s.form ≡ form.While c.in-While.test c.in-While.body = search rules in
    λ e. inner_none known names s c.in-While.test c.in-While.body is (subst (λ ss. IsNoBlock known names ss) c.as_slice.ensures (c.push_loop.ensures.refused e))

pub push_statement-returns-in-None-clause-refused :
    goal.push_statement-returns-in-None-clause-refused
push_statement-returns-in-None-clause-refused t c =
    let names = c.args.names.now in
    let s = c.args.statement.now in
    let is : s.form ≡ form.While c.in-While.test c.in-While.body = search rules in
    let test : test_read names c.in-While.test ≡ None = search rules in
    λ e. test_none c.args.known.now names s c.in-While.test c.in-While.body is test

pub push_statement-returns-in-Some-statement_of : goal.push_statement-returns-in-Some-statement_of
push_statement-returns-in-Some-statement_of t c =
    let known = c.args.known.now in
    let names = c.args.names.now in
    let s = c.args.statement.now in
    let read : statement_read known names s.form ≡ Some c.in-Some-statement_of.does = search rules in
    record {
      read = ok_so c.push_line.result _ _ c.push_line.ensures.pushed (λ x pushed. (Then c.in-Some-statement_of.does Done, then_good known names s c.in-Some-statement_of.does read c.in-Some-statement_of.ensures.bound, pushed));
      refused = λ e. absurd (c.push_line.ensures.refused e);
    }

pub push_statement-returns-in-None-statement_of : goal.push_statement-returns-in-None-statement_of
push_statement-returns-in-None-statement_of t c =
    let known = c.args.known.now in
    let names = c.args.names.now in
    let s = c.args.statement.now in
    let read : statement_read known names s.form ≡ None = search rules in
    record {
      read = tt;
      refused = λ e. statement_none known names s c.in_default.not-While read;
    }
