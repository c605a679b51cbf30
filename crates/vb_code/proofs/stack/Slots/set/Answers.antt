use Rattle.std.proofs.Common.{set, ap, ◌∙◌}
use Rattle.std.proofs.lemmas.List.{map-set}
use Rattle.vb_value.specs.Datum.{datum_of}
use Rattle.vb_code.proofs.stack.Slots.set.Goals as goal

pub returns : goal.returns
returns c = map-set datum_of c.self.inside.values.items c.args.slot c.args.value ∙ ap (λ s. set s c.args.slot (datum_of c.args.value)) c.self.view_is
