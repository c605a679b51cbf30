use Rattle.std.proofs.Common.{◌≡◌, sym, subst, ap₂, ◌∙◌, None}
use Rattle.std.specs.Prelude.{Err}
use Rattle.vb_value.specs.Datum.{units_of}
use Rattle.vb_code.specs.{declared.instr.Instr.TheVariants.Concat, Machine.joined}
use Rattle.vb_frames.specs.Turn.{Obeys, JoinsTo}
use Rattle.vb_frames.proofs.Moves.{concat_thrown}
use Rattle.vb_frames.proofs.instructions.concat.Goals as goal

pub returns-in-Err-TooLong : goal.returns-in-Err-TooLong
returns-in-Err-TooLong c =
    let code = c.args.code.now in
    let old = c.args.local.now in
    let back = c.text_at.result.now in
    let front = c.text_at-2.result.now in
    let long : joined c.or_empty-front.result.now c.or_empty-back.result.now ≡ None = subst (λ e. JoinsTo c.or_empty-front.result.now c.or_empty-back.result.now (Err e)) c.in-Err-TooLong.field-0-is c.in-Err-TooLong.ensures in
    let none : joined (units_of front) (units_of back) ≡ None = ap₂ (λ s t. joined s t) (sym c.or_empty-front.ensures) (sym c.or_empty-back.ensures) ∙ long in
    subst (λ did. Obeys code Concat c.args.place old c.throw.new.local did) (sym c.throw.ensures.asked)
    (concat_thrown code c.args.place old c.throw.new.local c.requires.texts front back c.text_at.ensures c.text_at-2.ensures none c.throw.ensures.throws)
