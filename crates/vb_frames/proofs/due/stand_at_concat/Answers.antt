use Rattle.std.proofs.Common.{◌≤◌, ◌<◌, ◌+◌, ◌++◌, length, refl, arith}
use Rattle.vb_text.specs.Units.{most_units}
use Rattle.vb_value.specs.Datum.{units_of}
use Rattle.vb_frames.proofs.{Moves.{concat_went, concat_thrown}, Dues.{joined_some, joined_none}}
use Rattle.vb_frames.proofs.due.stand_at_concat.Goals as goal

pub returns-then-front-back-le-MOST_UNITS : goal.returns-then-front-back-le-MOST_UNITS
returns-then-front-back-le-MOST_UNITS c =
    let back = c.text_at.result.now in
    let front = c.text_at-2.result.now in
    let few : length (units_of front) + length (units_of back) ≤ most_units = omega (arith, c.if-front-back-le-MOST_UNITS.true, c.count_of-front.ensures.count, c.count_of-back.ensures.count) in
    (refl, concat_went c.args.code.now c.args.place c.args.local.now c.args.local.now c.requires.texts front back c.text_at.ensures c.text_at-2.ensures (units_of front ++ units_of back) (joined_some (units_of front) (units_of back) few))

pub returns : goal.returns
returns c =
    let back = c.text_at.result.now in
    let front = c.text_at-2.result.now in
    let many : most_units < length (units_of front) + length (units_of back) = omega (arith, c.if-front-back-le-MOST_UNITS.false, c.count_of-front.ensures.count, c.count_of-back.ensures.count) in
    concat_thrown c.args.code.now c.args.place c.args.local.now c.throw.new.local c.requires.texts front back c.text_at.ensures c.text_at-2.ensures (joined_none (units_of front) (units_of back) many) c.throw.ensures.throws
