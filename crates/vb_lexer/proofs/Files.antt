-- A file that was read to its end.
use Rattle.std.proofs.Common.{ap, ◌≡◌, ℕ, Bool, true, List, [], ◌++◌, Some, None, Result, Ok, Err, refl, sym, ◌∙◌, subst, append-nil, arith}
use Rattle.std.specs.Prelude.{IfOk}
use Rattle.vb_diag.specs.{declared.refusal.Refusal.Refusal, Broken.{IsLeast, InFile}}
use Rattle.vb_syntax.specs.declared.tokens.Line.{Line}
use Rattle.vb_lexer.specs.{declared.{error.LexErr.{LexErr, TheVariants.Refused}, piece.Before.Before, lines.Progress.Progress}, Characters.{Character, IsText}, Pieces.{Part, file_front}, Lines.{Item, items_of, marks_of, items_from, marks_from, grouped, AreLines, IsBroken, with_parts, LexedFrom, Breaks}, Reader.Reads, Regions.Tracks, Progress.{FileBreaks, Finishes, ReadTo}}
use Rattle.vb_lexer.proofs.Unique.{extends_self, broken_in, never_both}

-- nothing of the text was read
pub nothing_read : (table : List (List ℕ)) (text : List Character) (p : Progress) → ((later : List (List ℕ)) → Reads later p.reader []) → p.reader.line ≡ 1 → p.reader.breaks ≡ true → Tracks p.regions [] → p.number ≡ 1 → ReadTo table table text text file_front p
nothing_read table text p reads line breaks tracks number = record {
  done = [];
  items = [];
  marks = [];
  falls = λ more f. f;
  items_are = λ more. rw (number, line, breaks) refl;
  marks_are = λ more. rw number refl;
  reads = λ later e. reads later;
  tracks = tracks;
  behind = tt;
  bound = omega (arith, number);
  names = refl;
}

end_items : (p : Progress) (items : List Item) (done : List Part) → items_from 1 1 true (done ++ []) ≡ items ++ items_from p.number p.reader.line p.reader.breaks [] → items_of (done ++ []) ≡ items
end_items p items done e = e ∙ append-nil items

end_marks : (p : Progress) (marks : List (ℕ × Bool)) (done : List Part) → marks_from 1 (done ++ []) ≡ marks ++ marks_from p.number [] → marks_of (done ++ []) ≡ marks
end_marks p marks done e = e ∙ append-nil marks

broken_there : (parts : List Part) (items : List Item) (marks : List (ℕ × Bool)) (line rule : ℕ) → items_of parts ≡ items → marks_of parts ≡ marks → FileBreaks items marks line rule → IsBroken parts line rule
broken_there parts items marks line rule is ms b = subst (λ us. FileBreaks us (marks_of parts) line rule) (sym is) (subst (λ ks. FileBreaks items ks line rule) (sym ms) b)

broken_back : (parts : List Part) (items : List Item) (marks : List (ℕ × Bool)) (line rule : ℕ) → items_of parts ≡ items → marks_of parts ≡ marks → IsBroken parts line rule → FileBreaks items marks line rule
broken_back parts items marks line rule is ms b = subst (λ ks. FileBreaks items ks line rule) ms (subst (λ us. FileBreaks us (marks_of parts) line rule) is b)

-- the file's lines
pub file_lines : (earlier table : List (List ℕ)) (file : ℕ) (bytes : List ℕ) (text : List Character) (b : Before) (p : Progress) (result : Result (List Line) LexErr) → IsText bytes text → ReadTo earlier table text [] b p
    → ((items : List Item) (marks : List (ℕ × Bool)) → Reads table p.reader items → Tracks p.regions marks → Finishes table file items marks result) → IfOk result (λ lines. LexedFrom earlier table file bytes lines)
file_lines earlier table file bytes text b p (Ok lines) is_text read finishes =
    let f = finishes read.items read.marks (read.reads table (extends_self table)) read.tracks in
    let parts = read.done ++ [] in
    let items = end_items p read.items read.done (read.items_are []) in
    let marks = end_marks p read.marks read.done (read.marks_are []) in
    record {
      names = read.names ∙ ap (λ ps. with_parts earlier ps) (sym (append-nil read.done));
      lexed = record {
        text = text;
        decoded = is_text;
        parts = parts;
        falls = read.falls [] refl;
        sound = λ line rule h. f.1 (record { file = file; line = line; rule = rule }) (refl, broken_back parts read.items read.marks line rule items marks h);
        lines_are = subst (λ us. AreLines table file (grouped us) lines) (sym items) f.0;
      };
    }
file_lines earlier table file bytes text b p (Err e) is_text read finishes = tt

-- the file's least broken rule
pub file_refused : (earlier table : List (List ℕ)) (file : ℕ) (bytes : List ℕ) (text : List Character) (b : Before) (p : Progress) (result : Result (List Line) LexErr) → IsText bytes text → ReadTo earlier table text [] b p
    → ((items : List Item) (marks : List (ℕ × Bool)) → Reads table p.reader items → Tracks p.regions marks → Finishes table file items marks result) → (refusal : Refusal) → result ≡ Err (Refused refusal) → IsLeast (InFile file (Breaks bytes)) (Some refusal)
file_refused earlier table file bytes text b p result is_text read finishes refusal e =
    let f = subst (λ r. Finishes table file read.items read.marks r) e (finishes read.items read.marks (read.reads table (extends_self table)) read.tracks) in
    let parts = read.done ++ [] in
    let items = end_items p read.items read.done (read.items_are []) in
    let marks = end_marks p read.marks read.done (read.marks_are []) in (
      (
        f.0.0,
        record {
          text = text;
          decoded = is_text;
          parts = parts;
          falls = read.falls [] refl;
          broken = broken_there parts read.items read.marks refusal.line refusal.rule items marks f.0.1;
        },
      ),
      λ other h. f.1 other (h.0, broken_back parts read.items read.marks other.line other.rule items marks (broken_in bytes text parts other.line other.rule is_text (read.falls [] refl) h.1)),
    )

-- a file that has lines has no refusal
pub file_sound : (earlier table : List (List ℕ)) (file : ℕ) (bytes : List ℕ) (result : Result (List Line) LexErr) → IfOk result (λ lines. LexedFrom earlier table file bytes lines) → IfOk result (λ lines. IsLeast (InFile file (Breaks bytes)) None)
file_sound earlier table file bytes (Ok lines) lexed = λ other h. never_both table file bytes lines other.line other.rule lexed.lexed h.1
file_sound earlier table file bytes (Err e) lexed = tt
