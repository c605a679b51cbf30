use Rattle.std.proofs.Common.{◌≡◌, length, take, drop, ap, sym, ◌∙◌, subst, length-drop, arith}
use Rattle.vb_lexer.specs.{Characters.{IsText, without_mark}, Pieces.behind, Lines.with_piece, Reader.part, declared.piece.Found.Found, Progress.{ReadTo, Finishes}}
use Rattle.vb_lexer.proofs.{Runs.empty_of, Bounds.piece_bounds, Lengths.text_len, TextPieces.text_short, Steps.{TakenBy, read_step}, Files.{nothing_read, file_lines, file_refused, file_sound}, Unique.{extends_self, extends_trans}}
use Rattle.vb_lexer.proofs.lines.lex.Goals as goal

pub loop-rest-init : goal.loop-rest-init
loop-rest-init c = record {
  read = nothing_read c.args.names.now c.without_mark-text.result.now c.new-progress.result c.new-progress.ensures.reads c.new-progress.ensures.line c.new-progress.ensures.breaks c.new-progress.ensures.tracks c.new-progress.ensures.number;
  names = extends_self c.args.names.now;
  file = c.new-progress.ensures.file;
}

pub split_at-requires : goal.split_at-requires
split_at-requires c =
    let b = piece_bounds c.loop-rest.before c.loop-rest.rest.now c.loop-rest-test.true in
    omega (arith, b.1, ap (λ f. f.length) c.piece_at-found.ensures)

pub take-requires-clause-number : goal.take-requires-clause-number
take-requires-clause-number c =
    let is : IsText c.args.bytes.now c.without_mark-text.result.now = (c.in_ok-all.all.items, c.in_ok-all.ensures, c.without_mark-text.ensures ∙ ap (λ us. without_mark us) c.deref.ensures.value) in
    omega (arith, c.loop-rest.invariant.read.bound, text_len c.args.bytes.now c.without_mark-text.result.now is, c.requires)

pub take-requires-clause-short : goal.take-requires-clause-short
take-requires-clause-short c = λ e.
    text_short c.loop-rest.before c.loop-rest.rest.now c.split_at.result.0.now (ap (λ f. f.piece) (sym c.piece_at-found.ensures) ∙ e)
    (c.split_at.ensures.front ∙ ap (λ f. take f.length c.loop-rest.rest.now) c.piece_at-found.ensures)

pub returns-in_err-take-clause-names : goal.returns-in_err-take-clause-names
returns-in_err-take-clause-names c = extends_trans c.take.new.names c.loop-rest.names c.args.names.now c.take.ensures.names c.loop-rest.invariant.names

pub loop-rest-smaller : goal.loop-rest-smaller
loop-rest-smaller c =
    let b = piece_bounds c.loop-rest.before c.loop-rest.rest.now c.loop-rest-test.true in
    omega (arith, b.0, b.1, ap (λ f. f.length) c.piece_at-found.ensures, ap (λ us. length us) c.split_at.ensures.back, length-drop c.piece_at-found.result.length c.loop-rest.rest.now)

pub loop-rest-preserved : goal.loop-rest-preserved
loop-rest-preserved c = record {
  read = subst (λ b. ReadTo c.args.names.now c.take.new.names c.without_mark-text.result.now c.split_at.result.1.now b c.take.new.self) (ap (λ f. behind c.loop-rest.before f.piece) (sym c.piece_at-found.ensures) ∙ sym c.behind_piece-before.ensures)
      (read_step c.args.names.now c.loop-rest.names c.take.new.names c.without_mark-text.result.now c.loop-rest.rest.now c.split_at.result.0.now c.split_at.result.1.now c.loop-rest.before c.loop-rest.progress c.take.new.self
      c.loop-rest-test.true c.loop-rest.invariant.read c.take.ensures.names
      (subst (λ (f : Found). c.take.new.names ≡ with_piece c.loop-rest.names f.piece c.split_at.result.0.now) c.piece_at-found.ensures c.in_ok-take.ensures.grown)
      (c.split_at.ensures.front ∙ ap (λ f. take f.length c.loop-rest.rest.now) c.piece_at-found.ensures)
      (c.split_at.ensures.back ∙ ap (λ f. drop f.length c.loop-rest.rest.now) c.piece_at-found.ensures)
      (subst (λ (f : Found). TakenBy c.take.new.names c.loop-rest.progress c.take.new.self (part f.piece c.split_at.result.0.now)) c.piece_at-found.ensures
      (record { items = c.in_ok-take.ensures.items; reads = c.in_ok-take.ensures.reads; marks = c.in_ok-take.ensures.marks; number = c.in_ok-take.ensures.number })));
  names = extends_trans c.take.new.names c.loop-rest.names c.args.names.now c.take.ensures.names c.loop-rest.invariant.names;
  file = c.take.ensures.file ∙ c.loop-rest.invariant.file;
}

lexed : goal.returns-clause-lexed
lexed c =
    let is : IsText c.args.bytes.now c.without_mark-text.result.now = (c.in_ok-all.all.items, c.in_ok-all.ensures, c.without_mark-text.ensures ∙ ap (λ us. without_mark us) c.deref.ensures.value) in
    let none = empty_of c.loop-rest.rest.now (omega arith) in
    file_lines c.args.names.now c.loop-rest.names c.args.file c.args.bytes.now c.without_mark-text.result.now c.loop-rest.before c.loop-rest.progress c.finish.result is
    (subst (λ us. ReadTo c.args.names.now c.loop-rest.names c.without_mark-text.result.now us c.loop-rest.before c.loop-rest.progress) none c.loop-rest.invariant.read)
    (λ items marks reads tracks. subst (λ f. Finishes c.loop-rest.names f items marks c.finish.result) c.loop-rest.invariant.file (c.finish.ensures c.loop-rest.names items marks reads tracks))

pub returns-clause-lexed : goal.returns-clause-lexed
returns-clause-lexed c = lexed c

pub returns-clause-refused : goal.returns-clause-refused
returns-clause-refused c =
    let is : IsText c.args.bytes.now c.without_mark-text.result.now = (c.in_ok-all.all.items, c.in_ok-all.ensures, c.without_mark-text.ensures ∙ ap (λ us. without_mark us) c.deref.ensures.value) in
    let none = empty_of c.loop-rest.rest.now (omega arith) in
    file_refused c.args.names.now c.loop-rest.names c.args.file c.args.bytes.now c.without_mark-text.result.now c.loop-rest.before c.loop-rest.progress c.finish.result is
    (subst (λ us. ReadTo c.args.names.now c.loop-rest.names c.without_mark-text.result.now us c.loop-rest.before c.loop-rest.progress) none c.loop-rest.invariant.read)
    (λ items marks reads tracks. subst (λ f. Finishes c.loop-rest.names f items marks c.finish.result) c.loop-rest.invariant.file (c.finish.ensures c.loop-rest.names items marks reads tracks))

pub returns-clause-sound : goal.returns-clause-sound
returns-clause-sound c = file_sound c.args.names.now c.loop-rest.names c.args.file c.args.bytes.now c.finish.result (lexed c)

pub returns-clause-names : goal.returns-clause-names
returns-clause-names c = c.loop-rest.invariant.names
