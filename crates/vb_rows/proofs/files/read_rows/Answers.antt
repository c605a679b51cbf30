use Rattle.std.proofs.Common.{[], ◌∷◌, ◌++◌, false, length, take, sym, ap, ◌∙◌, subst, arith}
use Rattle.std.proofs.lemmas.List.{take_more, take_all}
use Rattle.vb_rows.proofs.{Counts.depths_count, OneList.one_file, FilesRead.{AreLinesRead, line_more}}
use Rattle.vb_rows.proofs.files.read_rows.Goals as goal

pub loop-line-preserved : goal.loop-line-preserved
loop-line-preserved c =
    let line = c.line-item.result in
    let grown = take_more c.args.lines.now c.loop-line.line-index line c.loop-line-test.true ∙ ap (λ l. take c.loop-line.line-index c.args.lines.now ++ l ∷ []) (sym c.line-item.is) in
    subst (λ ls. AreLinesRead c.args.file c.args.words.now ls c.read_line.new.reader false c.read_line.new.read) (sym grown)
    (line_more c.args.file c.args.words.now (take c.loop-line.line-index c.args.lines.now) line c.loop-line.reader c.read_line.new.reader c.loop-line.first c.loop-line.read c.read_line.new.read c.loop-line.invariant c.in_ok-read_line.ensures)

pub returns-clause-alone : goal.returns-clause-alone
returns-clause-alone c =
    let known : AreLinesRead c.args.file c.args.words.now c.args.lines.now c.loop-line.reader c.loop-line.first c.loop-line.read =
    subst (λ ls. AreLinesRead c.args.file c.args.words.now ls c.loop-line.reader c.loop-line.first c.loop-line.read) (take_all c.loop-line.line-index c.args.lines.now (omega arith)) c.loop-line.invariant in
    λ others are. one_file c.one_item.ensures c.args.words.now [] c.args.lines.now others c.loop-line.read.rows c.requires known.few are known.rows_are

pub returns-clause-counted : goal.returns-clause-counted
returns-clause-counted c =
    let known : AreLinesRead c.args.file c.args.words.now c.args.lines.now c.loop-line.reader c.loop-line.first c.loop-line.read =
    subst (λ ls. AreLinesRead c.args.file c.args.words.now ls c.loop-line.reader c.loop-line.first c.loop-line.read) (take_all c.loop-line.line-index c.args.lines.now (omega arith)) c.loop-line.invariant in
    ap (λ ds. length ds) known.depths_are ∙ depths_count c.args.words.now [] c.args.lines.now c.loop-line.read.rows known.rows_are
