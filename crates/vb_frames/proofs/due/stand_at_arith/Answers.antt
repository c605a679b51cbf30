use Rattle.std.proofs.Common.{refl}
use Rattle.vb_frames.proofs.Moves.{arith_went, arith_thrown, none_of}
use Rattle.vb_frames.proofs.due.stand_at_arith.Goals as goal

pub returns-in-Ok : goal.returns-in-Ok
returns-in-Ok c =
    let left = c.number_at-left.result in
    let right = c.number_at-right.result in
    λ k needs. (refl, arith_went c.args.code.now c.args.operation k c.args.place c.args.local.now c.args.local.now needs left.kind right.kind left.value right.value c.number_at-right.ensures c.number_at-left.ensures c.in-Ok.field-0.value c.in-Ok.ensures.0)

pub returns-in-Err : goal.returns-in-Err
returns-in-Err c =
    let left = c.number_at-left.result in
    let right = c.number_at-right.result in
    λ k needs. arith_thrown c.args.code.now c.args.operation k c.args.place c.args.local.now c.throw.new.local needs left.kind right.kind left.value right.value c.number_at-right.ensures c.number_at-left.ensures (none_of left.kind _ c.in-Err.field-0 c.in-Err.ensures) c.throw.ensures.throws
