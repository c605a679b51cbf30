use Rattle.vb_bind.specs.Grammar.{HasUnbuiltType}
use Rattle.vb_bind.proofs.Least.{least_more, least_all}
use Rattle.vb_bind.proofs.unbuilt.first_in_types.Goals as goal

pub loop-declared-preserved : goal.loop-declared-preserved
loop-declared-preserved c =
    least_more (HasUnbuiltType c.args.known.now) c.args.types.now c.loop-declared.declared-index c.declared-item.result c.loop-declared.first c.first_in_type.result c.lesser-first.result c.loop-declared-test.true c.declared-item.is c.lesser-first.ensures c.loop-declared.invariant c.first_in_type.ensures

pub returns : goal.returns
returns c = least_all (HasUnbuiltType c.args.known.now) c.args.types.now c.loop-declared.declared-index c.loop-declared.first c.loop-declared-test.false c.loop-declared.invariant
