use Rattle.std.proofs.Common.{◌+◌, sym, ◌∙◌, min, ap, drop, arith}
use Rattle.std.specs.Str.Parse.{digits_value_after}
use Rattle.vb_num.specs.WholeReading.{too_large}
use Rattle.vb_num.proofs.Digits.{next_digit}
use Rattle.vb_num.proofs.whole.capped_value.Goals as goal

pub loop-digit-preserved : goal.loop-digit-preserved
loop-digit-preserved c =
    let next = next_digit c.args.digits.now c.loop-digit.digit-index c.loop-digit.value too_large c.loop-digit-test.true c.requires in
    let same = ap (λ v. min (digits_value_after 10 v (drop (c.loop-digit.digit-index + 1) c.args.digits.now)) too_large) c.with_digit-value.ensures in
    (grind (arith, c.with_digit-value.ensures), c.loop-digit.invariant.1 ∙ next ∙ sym same)
