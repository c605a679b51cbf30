use Rattle.std.proofs.Common.{◌≡◌, List, ◌++◌, length, take, drop, subst, arith}
use Rattle.std.proofs.lemmas.Grind.{common_steps}
use Rattle.vb_syntax.specs.declared.tokens.Token.{Token}
use Rattle.vb_rows.specs.Pieces.{behind_label}
use Rattle.vb_rows.proofs.LineRows.{line_read, line_behind}
use Rattle.vb_rows.proofs.lines.line_rows.Goals as goal

pub returns-clause-rows : goal.returns-clause-rows
returns-clause-rows c = λ items known.
    line_read c.args.reader.now c.label_rows.new.reader c.add_pieces.new.reader c.args.line.now (drop c.behind_label-from.result c.args.line.now.tokens) c.in_ok-rows.rows.items c.add_pieces.new.rows.items
    (take c.add_pieces.new.rows.len (c.join.new.rows ++ drop (length c.join.new.rows) c.add_pieces.new.rows.items)) (subst (λ (ts : List Token). drop c.behind_label-from.result ts ≡ behind_label ts) c.as_slice.ensures c.behind_label-from.ensures.behind) c.in_ok-rows.ensures.rows c.in_ok-rows.ensures.words c.in_ok-add_pieces.ensures (grind (arith, common_steps))
    items (c.in_ok-rows.ensures.read items known)

pub returns-clause-read : goal.returns-clause-read
returns-clause-read c = λ items known.
    line_behind c.label_rows.new.reader c.add_pieces.new.reader c.args.line.now (drop c.behind_label-from.result c.args.line.now.tokens) c.in_ok-rows.rows.items c.add_pieces.new.rows.items
    (take c.add_pieces.new.rows.len (c.join.new.rows ++ drop (length c.join.new.rows) c.add_pieces.new.rows.items)) c.in_ok-rows.ensures.rows c.in_ok-add_pieces.ensures (grind (arith, common_steps))
    items (c.in_ok-rows.ensures.read items known)
