use Rattle.std.proofs.Common.{map, ap, ◌∙◌}
use Rattle.vb_value.specs.Datum.{default_of}
use Rattle.vb_code.specs.Code.{locals_of}
use Rattle.vb_code.proofs.First.{first_state}
use Rattle.vb_code.proofs.local.Local.first.Goals as goal

pub returns-clause-state : goal.returns-clause-state
returns-clause-state c = first_state c.args.code.now c.new.result c.in_ok-new.field-0 c.code.ensures.checked c.new.ensures (c.in_ok-new.ensures ∙ ap (λ ks. map default_of ks) (c.locals.ensures ∙ ap locals_of c.code.ensures.code))
