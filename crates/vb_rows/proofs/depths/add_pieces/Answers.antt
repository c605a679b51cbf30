use Rattle.std.proofs.Common.{◌≡◌, ◌+◌, ◌-◌, ◌≤◌, ◌++◌, false, length, take, drop, sym, ap, ◌∙◌, subst}
use Rattle.vb_syntax.specs.declared.item.Joint.TheVariants as joint
use Rattle.vb_syntax.specs.Items.{is_end}
use Rattle.vb_rows.specs.{Cutting.{FirstPiece, before_behind, is_left_out}, Files.{ifs_behind, piece_depths}}
use Rattle.vb_rows.proofs.{PieceRows.pieces_from, PieceDepths.{added, piece_counted, few_ifs, left_length, left_from}}
use Rattle.vb_rows.proofs.depths.add_pieces.Goals as goal

pub loop-rest-preserved : goal.loop-rest-preserved
loop-rest-preserved c =
    let from = c.loop-rest.joint in
    let us = c.loop-rest.rest.now in
    let found = c.first_piece-found.result in
    let ifs = c.loop-rest.ifs in
    let known = c.loop-rest.depths in
    let grown = c.add_piece.new.depths in
    let behind = c.split_at.result.1.now in
    let skip = c.skipped.result in
    let all = length c.args.tokens.now in
    let first : FirstPiece (before_behind from) us found = subst (λ b. FirstPiece b us found) c.before_of.ensures c.first_piece-found.ensures in
    let on : is_end found.behind ≡ false = sym c.is_end.ensures ∙ c.if-is_end.false in
    let grows : grown ≡ known ++ added (is_left_out from found) ifs (take found.length us) = c.in_ok-add_piece.ensures ∙ ap (λ ts. known ++ added (is_left_out from found) ifs ts) c.split_at.ensures.front in
    record {
      all = piece_counted from us found ifs known grown (c.args.depths.now ++ piece_depths 0 (pieces_from joint.End c.args.tokens.now)) first grows c.loop-rest.invariant.all
          ∙ ap (λ ps. grown ++ piece_depths (ifs_behind ifs found.behind) ps) (left_from found.behind us behind found.length skip on c.split_at.ensures.back c.skipped.ensures)
          ∙ ap (λ n. grown ++ piece_depths n (pieces_from found.behind (take (length behind - skip) (drop skip behind)))) (sym c.ifs_behind-ifs.ensures);
      few = subst (λ i. i + length (take (length behind - skip) (drop skip behind)) ≤ all) (sym c.ifs_behind-ifs.ensures)
          (subst (λ n. ifs_behind ifs found.behind + n ≤ all) (sym (left_length us behind found.length skip c.split_at.ensures.back))
          (subst (λ k. ifs_behind ifs found.behind + (length us - found.length - k) ≤ all) (sym c.skipped.ensures) (few_ifs ifs from us found all first c.loop-rest.invariant.few)));
    }
