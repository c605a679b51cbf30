use Rattle.std.proofs.Common.{ap, ◌∙◌}
use Rattle.std.specs.Int.{w32}
use Rattle.std.proofs.lemmas.Int.{to_z-of_z}
use Rattle.vb_num.specs.Operators.{places}
use Rattle.vb_num.proofs.Shifts.{shifted}
use Rattle.vb_num.proofs.bits.shl.Goals as goal

pub returns-clause-value : goal.returns-clause-value
returns-clause-value c =
    let moved = c.places.ensures ∙ ap (places c.args.a.kind) (to_z-of_z w32 c.args.count c.ranges.count) in
    c.of_bits.ensures.value ∙ shifted c.args.a.kind c.args.a.value c.args.count c.bits.result c.places.result c.last_bits.result c.bits.ensures.bits moved c.last_bits.ensures
