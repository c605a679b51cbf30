use Rattle.std.proofs.Common.{◌≡◌, IfOk, take, drop, sym, ap, ◌∙◌, subst, ◌-◌, arith}
use Rattle.std.specs.List.{slice_range}
use Rattle.std.proofs.lemmas.List.{take_all}
use Rattle.vb_rows.specs.Rows.{Spells}
use Rattle.vb_rows.proofs.items.item_at.Goals as goal

pub returns-then-to-len : goal.returns-then-to-len
returns-then-to-len c =
    let tokens = c.args.line.now.tokens in
    let all : slice_range tokens c.args.from c.args.to ≡ tokens =
    ap (λ n. take (c.args.to - n) (drop n tokens)) c.if-from-eq0.true ∙ take_all (c.args.to - 0) tokens (omega (arith, c.if-to-len.true, c.len.ensures)) in
    subst (λ ts. IfOk c.item_of.result (λ i. Spells c.args.context.now ts i)) (sym all) c.item_of.ensures
