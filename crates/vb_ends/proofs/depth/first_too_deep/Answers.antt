use Rattle.std.proofs.Common.{◌∷◌, ◌+◌, inl, inr, reverse, take, drop, get_or, sym, ◌∙◌, subst, arith, rules}
use Rattle.std.proofs.lemmas.Grind.{common_steps}
use Rattle.vb_ends.specs.{Reading.{HasRead, next_item}, Roles.marks_of}
use Rattle.vb_ends.proofs.{Depths.{IsNext, turned_more, item_here, least_next}, depth.first_too_deep.Goals.{then-is_too_deep, else-is_too_deep}}
use Rattle.vb_ends.proofs.depth.first_too_deep.Goals as goal

pub loop-at-init : goal.loop-at-init
loop-at-init c = record { read = c.new-reader.ensures (next_item c.args.rows.now); least = λ l h. h }

pub loop-at-preserved : goal.loop-at-preserved
loop-at-preserved c =
    let rows = c.args.rows.now in
    let at = c.loop-at.at in
    let row = c.index-rows-at.result in
    let before = reverse (take at rows) in
    let read_ : HasRead c.loop-at.reader row.item before =
    subst (λ i. HasRead c.loop-at.reader i before) (item_here rows at row c.loop-at-test.true c.index-rows-at.is) c.loop-at.invariant.read in
    let next : IsNext c.loop-at.first row.line (c.depth.result + get_or c.args.brackets.now at 0) c.if-is_too_deep.first =
    elim c.if-is_too_deep.branch [
      | then-is_too_deep w ↦ inl (c.is_too_deep.ensures.0 (search rules), w.first-is ∙ w.lesser-first.ensures)
      | else-is_too_deep w ↦ inr (grind (arith, common_steps), w.first-is)
    ] in
    record {
      read =
          subst (λ rs. HasRead c.take.new.self (next_item (drop (at + 1) rows)) rs) (sym (turned_more rows at row c.loop-at-test.true c.index-rows-at.is))
          (subst (λ i. HasRead c.take.new.self i (row ∷ before)) c.item_at.ensures (c.in_ok-take.ensures before read_));
      least = least_next rows c.args.brackets.now at row c.depth.result c.loop-at.first c.if-is_too_deep.first c.loop-at-test.true (omega (arith, c.requires)) c.index-rows-at.is
          (c.depth.ensures (marks_of row.item before) read_.tracks) next c.loop-at.invariant.least;
    }
