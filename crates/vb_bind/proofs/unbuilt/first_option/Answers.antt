use Rattle.std.proofs.Common.{◌≡◌}
use Rattle.vb_syntax.specs.declared.declaration.OptionStatement.{OptionStatement}
use Rattle.vb_bind.proofs.Least.{least_option, least_all}
use Rattle.vb_bind.proofs.unbuilt.first_option.Goals as goal

pub loop-option-preserved : goal.loop-option-preserved
loop-option-preserved c = least_option c.args.options.now c.loop-option.option-index _ c.loop-option.first c.lesser-first.result c.loop-option-test.true c.lesser-first.ensures c.loop-option.invariant

pub returns : goal.returns
returns c = least_all (λ n (o : OptionStatement). o.line ≡ n) c.args.options.now c.loop-option.option-index c.loop-option.first c.loop-option-test.false c.loop-option.invariant
