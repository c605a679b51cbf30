use Rattle.std.proofs.Common.{◌≡◌, false, sym, ◌∙◌, subst}
use Rattle.vb_rows.specs.Pieces.{is_colon, parts_at_else, parts_at_then}
use Rattle.vb_rows.proofs.{Fronts.{behind_first, first_is}, Cuts.{IsCutTo, begin_cut, next_cut}}
use Rattle.vb_rows.proofs.pieces.first_piece.Goals as goal

pub loop-rest-init : goal.loop-rest-init
loop-rest-init c = begin_cut c.args.before c.args.tokens.now

pub loop-rest-preserved : goal.loop-rest-preserved
loop-rest-preserved c =
    let split = first_is c.loop-rest.rest.now c.token-item.result c.in-len1-up.len_at_least c.token-item.is in
    let none : is_colon c.token-item.result ≡ false = sym c.is_colon.ensures ∙ c.if-is_colon.false in
    let goes : parts_at_else c.loop-rest.before c.token-item.result ≡ false = sym c.parts_at_else.ensures ∙ c.if-parts_at_else.false in
    let on : parts_at_then c.token-item.result (behind_first c.loop-rest.rest.now) ≡ false = sym c.parts_at_then.ensures ∙ c.if-parts_at_then.false in
    subst (λ b. IsCutTo c.args.before c.args.tokens.now b (behind_first c.loop-rest.rest.now)) (sym c.before_next-before.ensures)
    (next_cut c.args.before c.loop-rest.before c.args.tokens.now c.loop-rest.rest.now (behind_first c.loop-rest.rest.now) c.token-item.result split none goes on c.loop-rest.invariant)
