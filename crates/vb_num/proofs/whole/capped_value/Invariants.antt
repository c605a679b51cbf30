use Rattle.std.proofs.Common.{◌≡◌, ◌≤◌, min, drop}
use Rattle.std.specs.Str.Parse.{digits_value_after}
use Rattle.vb_num.specs.WholeReading as spec
use Rattle.vb_num.proofs.whole.capped_value.Given as goal

abbrev pub invariant-loop-digit : goal.invariant-loop-digit
invariant-loop-digit l =
    (l.value ≤ spec.too_large) × (spec.capped_value l.digits ≡ min (digits_value_after 10 l.value (drop l.digit-index l.digits)) spec.too_large)
