use Rattle.vb_bind.specs.Grammar.{IsUnbuiltImports}
use Rattle.vb_bind.proofs.Least.{least_more, least_all}
use Rattle.vb_bind.proofs.unbuilt.first_imports.Goals as goal

pub loop-statement-preserved : goal.loop-statement-preserved
loop-statement-preserved c =
    least_more (IsUnbuiltImports c.args.known.now) c.args.imports.now c.loop-statement.statement-index c.statement-item.result c.loop-statement.first c.first_in_imports.result c.lesser-first.result c.loop-statement-test.true c.statement-item.is c.lesser-first.ensures c.loop-statement.invariant c.first_in_imports.ensures

pub returns : goal.returns
returns c = least_all (IsUnbuiltImports c.args.known.now) c.args.imports.now c.loop-statement.statement-index c.loop-statement.first c.loop-statement-test.false c.loop-statement.invariant
