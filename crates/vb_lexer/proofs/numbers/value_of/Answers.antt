use Rattle.std.proofs.Common.{◌≡◌, ◌+◌, ◌*◌, ◌∙◌, ap, arith, drop, get_or, None}
use Rattle.vb_lexer.specs.Tokens.{value_from, digit_value, base_number}
use Rattle.vb_lexer.proofs.Values.{value_step, value_end, value_over, none_above, some_below}
use Rattle.vb_lexer.proofs.numbers.value_of.Goals as goal

pub returns-then-total-digit : goal.returns-then-total-digit
returns-then-total-digit c =
    let over = rw c.base_number-number.ensures at c.if-total-digit.true in
    let large = value_over c.args.base c.loop-character.total c.digit_value-digit.result c.args.digits.now c.loop-character.character-index c.loop-character-test.true c.digit_value-digit.ensures.value c.digit_value-digit.ensures.small over in
    none_above _ (omega (arith, large, c.loop-character.invariant))

pub loop-character-preserved : goal.loop-character-preserved
loop-character-preserved c =
    let step = value_step (base_number c.args.base) c.loop-character.total c.args.digits.now c.loop-character.character-index c.loop-character-test.true in
    let same : c.loop-character.total * base_number c.args.base + digit_value (get_or c.args.digits.now c.loop-character.character-index None) ≡ c.loop-character.total * c.base_number-number.result + c.digit_value-digit.result = cc in
    c.loop-character.invariant ∙ step ∙ ap (λ k. value_from (base_number c.args.base) k (drop (c.loop-character.character-index + 1) c.args.digits.now)) same

pub returns : goal.returns
returns c =
    let e = c.loop-character.invariant ∙ value_end (base_number c.args.base) c.loop-character.total c.args.digits.now c.loop-character.character-index c.loop-character-test.false in
    rw e (some_below c.loop-character.total (omega arith))
