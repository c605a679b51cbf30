use Rattle.std.proofs.Common.{refl, ap, ◌∙◌}
use Rattle.vb_code.specs.declared.instr.{Instr.TheVariants.{PushText, LoadLocal, StoreLocal, Arith, Compare, Intrinsic, JumpIf, Write}, Silent.TheVariants.TextOf}
use Rattle.vb_frames.specs.declared.turn.Did.TheVariants.{Asked}
use Rattle.vb_frames.proofs.Moves.{writes, only_text_of, obeys_as, needs_as}
use Rattle.vb_frames.proofs.turn.obey.Goals as goal

pub returns-in-PushText : goal.returns-in-PushText
returns-in-PushText c = obeys_as c.args.code.now c.args.instr (PushText c.in-PushText.number) c.args.place c.args.local.now c.push_text.new.local c.push_text.result c.in-PushText.is c.push_text.ensures

pub returns-in-LoadLocal : goal.returns-in-LoadLocal
returns-in-LoadLocal c = obeys_as c.args.code.now c.args.instr (LoadLocal c.in-LoadLocal.slot) c.args.place c.args.local.now c.load.new.local c.load.result c.in-LoadLocal.is (c.load.ensures c.args.code.now)

pub returns-in-StoreLocal : goal.returns-in-StoreLocal
returns-in-StoreLocal c = obeys_as c.args.code.now c.args.instr (StoreLocal c.in-StoreLocal.slot) c.args.place c.args.local.now c.store.new.local c.store.result c.in-StoreLocal.is (c.store.ensures c.args.code.now)

pub returns-in-Arith : goal.returns-in-Arith
returns-in-Arith c =
    let old = c.args.local.now in
    let k = c.in-Arith.field-1 in
    let i = Arith c.in-Arith.operation k in
    obeys_as c.args.code.now c.args.instr i c.args.place old c.arith.new.local c.arith.result c.in-Arith.is (c.arith.ensures k (needs_as c.args.code.now c.args.instr i old.operands old.slots c.in-Arith.is c.requires.needs))

pub returns-in-Compare : goal.returns-in-Compare
returns-in-Compare c = obeys_as c.args.code.now c.args.instr (Compare c.in-Compare.comparison) c.args.place c.args.local.now c.compare.new.local c.compare.result c.in-Compare.is (c.compare.ensures c.args.code.now)

pub returns-in-Intrinsic-TextOf : goal.returns-in-Intrinsic-TextOf
returns-in-Intrinsic-TextOf c = obeys_as c.args.code.now c.args.instr (Intrinsic TextOf) c.args.place c.args.local.now c.text_of_top.new.local c.text_of_top.result (c.in-Intrinsic-TextOf.is ∙ ap (λ s. Intrinsic s) (only_text_of c.in-Intrinsic-TextOf.field-0)) (c.text_of_top.ensures c.args.code.now)

pub returns-in-JumpIf : goal.returns-in-JumpIf
returns-in-JumpIf c = obeys_as c.args.code.now c.args.instr (JumpIf c.in-JumpIf.to) c.args.place c.args.local.now c.jump_if.new.local c.jump_if.result c.in-JumpIf.is (c.jump_if.ensures c.args.code.now)

pub returns-in-Write : goal.returns-in-Write
returns-in-Write c =
    let old = c.args.local.now in
    let i = Write c.in-Write.mark in
    obeys_as c.args.code.now c.args.instr i c.args.place old _ (Asked c.is_always.result) c.in-Write.is
    (writes c.args.code.now c.in-Write.mark c.args.place old _ c.is_always.result (needs_as c.args.code.now c.args.instr i old.operands old.slots c.in-Write.is c.requires.needs) c.requires.next c.is_always.ensures refl (record { operands = refl; slots = refl; begun = refl }))
