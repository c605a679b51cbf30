use Rattle.std.proofs.Common.{sym, subst}
use Rattle.vb_code.specs.declared.instr.Instr.TheVariants.{Arith}
use Rattle.vb_frames.specs.Turn.{Obeys}
use Rattle.vb_frames.proofs.Moves.{arith_thrown, none_of}
use Rattle.vb_frames.proofs.instructions.arith.Goals as goal

pub returns-in-Err : goal.returns-in-Err
returns-in-Err c =
    let code = c.args.code.now in
    let old = c.args.local.now in
    let left = c.number_at-left.result in
    let right = c.number_at-right.result in
    λ k needs. subst (λ did. Obeys code (Arith c.args.operation k) c.args.place old c.throw.new.local did) (sym c.throw.ensures.asked)
    (arith_thrown code c.args.operation k c.args.place old c.throw.new.local needs left.kind right.kind left.value right.value c.number_at-right.ensures c.number_at-left.ensures (none_of left.kind _ c.in-Err.field-0 c.in-Err.ensures) c.throw.ensures.throws)
