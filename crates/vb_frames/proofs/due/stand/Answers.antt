use Rattle.std.proofs.Common.{Some, refl}
use Rattle.vb_code.specs.declared.instr.Instr.TheVariants.{Arith, Concat, Write}
use Rattle.vb_frames.proofs.{Moves.{writes, needs_as}, Dues.{silent_act, stands_as}}
use Rattle.vb_frames.proofs.due.stand.Goals as goal

pub returns-in-Write : goal.returns-in-Write
returns-in-Write c =
    let old = c.args.local.now in
    let i = Write c.in-Write.mark in
    stands_as c.args.code.now c.args.instr i c.args.place old _ (Some c.is_always.result) c.in-Write.is
    (writes c.args.code.now c.in-Write.mark c.args.place old _ c.is_always.result (needs_as c.args.code.now c.args.instr i old.operands old.slots c.in-Write.is c.requires.needs) c.requires.next c.is_always.ensures refl (record { operands = refl; slots = refl; begun = refl }))

pub returns-in-Arith : goal.returns-in-Arith
returns-in-Arith c =
    let old = c.args.local.now in
    let k = c.in-Arith.field-1 in
    let i = Arith c.in-Arith.operation k in
    stands_as c.args.code.now c.args.instr i c.args.place old c.stand_at_arith.new.local c.stand_at_arith.result c.in-Arith.is (c.stand_at_arith.ensures k (needs_as c.args.code.now c.args.instr i old.operands old.slots c.in-Arith.is c.requires.needs))

pub returns-in-Concat : goal.returns-in-Concat
returns-in-Concat c = stands_as c.args.code.now c.args.instr Concat c.args.place c.args.local.now c.stand_at_concat.new.local c.stand_at_concat.result c.in-Concat.is c.stand_at_concat.ensures

pub returns-in_default : goal.returns-in_default
returns-in_default c = (refl, silent_act c.args.code.now c.args.instr c.args.place c.args.local.now.operands c.args.local.now.slots c.requires.needs c.in_default.not-Write c.in_default.not-Arith c.in_default.not-Concat)
