use Rattle.std.proofs.Common.{◌≡◌, ◌+◌, length, drop, true, false, sym, ap, ◌∙◌, subst, length-drop, arith}
use Rattle.std.specs.List.{slice_range}
use Rattle.vb_syntax.specs.declared.item.Joint.TheVariants as joint
use Rattle.vb_syntax.specs.Items.{is_end}
use Rattle.vb_rows.specs.{Cutting.is_left_out, Reading.IsRowAdded}
use Rattle.vb_rows.proofs.{PieceRows.{IsReadTo, AreReadTo, pieces_from, left_behind, first_here, range_of_piece, read_left_out, read_kept, next_place, next_within, all_added}, lines.add_pieces.Goals.{then-not-is_left_out+in_ok-add_row, else-not-is_left_out}}
use Rattle.vb_rows.proofs.lines.add_pieces.Goals as goal

pub returns-then-is_end : goal.returns-then-is_end
returns-then-is_end c =
    let tokens = c.args.line.now.tokens in
    let all = pieces_from joint.End (drop c.args.from tokens) in
    let first = first_here c.loop-reader.joint c.before_of.result c.as_slice-tokens.result.now tokens c.loop-reader.place c.first_piece-found.result c.before_of.ensures c.as_slice-tokens.ensures c.first_piece-found.ensures in
    let read : AreReadTo (pieces_from joint.End (drop c.args.from tokens)) (left_behind c.first_piece-found.result (drop c.loop-reader.place tokens)) c.args.reader.now c.if-not-is_left_out.reader c.args.line.now.number c.args.rows.now.items c.if-not-is_left_out.rows.items =
    elim c.if-not-is_left_out.branch [
      | then-not-is_left_out+in_ok-add_row w ↦
          let in_it : is_left_out c.loop-reader.joint c.first_piece-found.result ≡ false = sym c.is_left_out.ensures ∙ w.if-not-is_left_out.true in
          read_kept all c.loop-reader.joint (drop c.loop-reader.place tokens) (slice_range tokens c.loop-reader.place (c.loop-reader.place + c.first_piece-found.result.length)) c.first_piece-found.result
          c.args.reader.now c.loop-reader.reader w.add_row.new.reader c.if-not-is_left_out.reader c.args.line.now.number
          c.args.rows.now.items c.loop-reader.rows.items w.add_row.new.rows.items c.if-not-is_left_out.rows.items
          first in_it (range_of_piece tokens c.loop-reader.place c.first_piece-found.result.length) c.loop-reader.invariant.words w.in_ok-add_row.ensures w.reader-is (ap (λ v. v.items) w.rows-is) c.loop-reader.invariant.read
      | else-not-is_left_out w ↦
          let out : is_left_out c.loop-reader.joint c.first_piece-found.result ≡ true = sym c.is_left_out.ensures ∙ w.if-not-is_left_out.false in
          read_left_out all c.loop-reader.joint (drop c.loop-reader.place tokens) c.first_piece-found.result c.args.reader.now c.loop-reader.reader c.if-not-is_left_out.reader c.args.line.now.number
          c.args.rows.now.items c.loop-reader.rows.items c.if-not-is_left_out.rows.items first out w.reader-is (ap (λ v. v.items) w.rows-is) c.loop-reader.invariant.read
    ] in
    let words : c.if-not-is_left_out.reader.words ≡ c.args.reader.now.words =
    elim c.if-not-is_left_out.branch [
      | then-not-is_left_out+in_ok-add_row w ↦
          let added : IsRowAdded c.loop-reader.reader w.add_row.new.reader c.args.line.now.number (slice_range tokens c.loop-reader.place (c.loop-reader.place + c.first_piece-found.result.length)) c.first_piece-found.result.behind c.loop-reader.rows.items w.add_row.new.rows.items = w.in_ok-add_row.ensures in
          ap (λ d. d.words) w.reader-is ∙ added.words ∙ c.loop-reader.invariant.words
      | else-not-is_left_out w ↦ ap (λ d. d.words) w.reader-is ∙ c.loop-reader.invariant.words
    ] in
    all_added (drop c.args.from tokens) c.first_piece-found.result (drop c.loop-reader.place tokens) c.args.reader.now c.if-not-is_left_out.reader c.args.line.now.number c.args.rows.now.items c.if-not-is_left_out.rows.items
    (sym c.is_end.ensures ∙ c.if-is_end.true) words read

pub loop-reader-preserved : goal.loop-reader-preserved
loop-reader-preserved c =
    let tokens = c.args.line.now.tokens in
    let all = pieces_from joint.End (drop c.args.from tokens) in
    let first = first_here c.loop-reader.joint c.before_of.result c.as_slice-tokens.result.now tokens c.loop-reader.place c.first_piece-found.result c.before_of.ensures c.as_slice-tokens.ensures c.first_piece-found.ensures in
    let read : AreReadTo (pieces_from joint.End (drop c.args.from tokens)) (left_behind c.first_piece-found.result (drop c.loop-reader.place tokens)) c.args.reader.now c.if-not-is_left_out.reader c.args.line.now.number c.args.rows.now.items c.if-not-is_left_out.rows.items =
    elim c.if-not-is_left_out.branch [
      | then-not-is_left_out+in_ok-add_row w ↦
          let in_it : is_left_out c.loop-reader.joint c.first_piece-found.result ≡ false = sym c.is_left_out.ensures ∙ w.if-not-is_left_out.true in
          read_kept all c.loop-reader.joint (drop c.loop-reader.place tokens) (slice_range tokens c.loop-reader.place (c.loop-reader.place + c.first_piece-found.result.length)) c.first_piece-found.result
          c.args.reader.now c.loop-reader.reader w.add_row.new.reader c.if-not-is_left_out.reader c.args.line.now.number
          c.args.rows.now.items c.loop-reader.rows.items w.add_row.new.rows.items c.if-not-is_left_out.rows.items
          first in_it (range_of_piece tokens c.loop-reader.place c.first_piece-found.result.length) c.loop-reader.invariant.words w.in_ok-add_row.ensures w.reader-is (ap (λ v. v.items) w.rows-is) c.loop-reader.invariant.read
      | else-not-is_left_out w ↦
          let out : is_left_out c.loop-reader.joint c.first_piece-found.result ≡ true = sym c.is_left_out.ensures ∙ w.if-not-is_left_out.false in
          read_left_out all c.loop-reader.joint (drop c.loop-reader.place tokens) c.first_piece-found.result c.args.reader.now c.loop-reader.reader c.if-not-is_left_out.reader c.args.line.now.number
          c.args.rows.now.items c.loop-reader.rows.items c.if-not-is_left_out.rows.items first out w.reader-is (ap (λ v. v.items) w.rows-is) c.loop-reader.invariant.read
    ] in
    let words : c.if-not-is_left_out.reader.words ≡ c.args.reader.now.words =
    elim c.if-not-is_left_out.branch [
      | then-not-is_left_out+in_ok-add_row w ↦
          let added : IsRowAdded c.loop-reader.reader w.add_row.new.reader c.args.line.now.number (slice_range tokens c.loop-reader.place (c.loop-reader.place + c.first_piece-found.result.length)) c.first_piece-found.result.behind c.loop-reader.rows.items w.add_row.new.rows.items = w.in_ok-add_row.ensures in
          ap (λ d. d.words) w.reader-is ∙ added.words ∙ c.loop-reader.invariant.words
      | else-not-is_left_out w ↦ ap (λ d. d.words) w.reader-is ∙ c.loop-reader.invariant.words
    ] in
    let on : is_end c.first_piece-found.result.behind ≡ false = sym c.is_end.ensures ∙ c.if-is_end.false in
    let within = next_within c.first_piece-found.result.behind c.first_piece-found.result.length (length (drop c.loop-reader.place tokens)) on first.within first.shrinks in
    record {
      within = omega (arith, within.0, c.skipped.ensures, c.loop-reader.invariant.within, length-drop c.loop-reader.place tokens);
      words = words;
      read = λ items known.
          subst (λ ps. IsReadTo (pieces_from joint.End (drop c.args.from tokens)) ps c.args.reader.now c.if-not-is_left_out.reader c.args.line.now.number c.args.rows.now.items c.if-not-is_left_out.rows.items items)
          (next_place c.first_piece-found.result.behind c.first_piece-found.result.length tokens c.loop-reader.place on
          ∙ ap (λ m. pieces_from c.first_piece-found.result.behind (drop (c.loop-reader.place + c.first_piece-found.result.length + m) tokens)) (sym c.skipped.ensures))
          (read items known);
    }
