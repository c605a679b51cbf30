-- One piece more.
use Rattle.std.proofs.Common.{◌≡◌, ℕ, ◌+◌, ◌<◌, ◌≤◌, Bool, true, false, List, [], ◌∷◌, ◌++◌, Result, Ok, Err, refl, ap, sym, ◌∙◌, subst, append_assoc, append-nil, length, take, drop, length-drop, ◌⊎◌, arith, if◌then◌else◌}
use Rattle.std.specs.Prelude.{OnOk}
use Rattle.vb_text.specs.Names.{Extends}
use Rattle.vb_lexer.specs.{declared.{piece.{Piece.Piece, Before.Before}, lines.Progress.Progress}, Characters.Character, Pieces.{Part, Falls, piece_at, behind, file_front}, Lines.{Item, item, is_token, items_from, marks_from, mark_of, lines_in, with_piece, with_parts}, Reader.{Reads, part, items_here}, Regions.{Tracks, AreBefore}, Progress.ReadTo}
use Rattle.vb_lexer.specs.declared.piece.Piece.TheVariants as piece
use Rattle.vb_lexer.proofs.{Bounds.piece_bounds, Contexts.region_front, Unique.extends_trans}

pub on_ok : {A E X Y : Type 0} (r : Result A E) → (X → Y) → OnOk r X → OnOk r Y
on_ok (Ok a) f x = f x
on_ok (Err e) f x = x

pub here_token : (line : ℕ) (breaks : Bool) (p : Part) → is_token p.piece ≡ true → items_here line breaks p ≡ item p line breaks ∷ []
here_token line breaks p e = rw e refl

-- LINES OF REGIONS

before_more : (marks : List (ℕ × Bool)) (n m : ℕ) → n ≤ m → AreBefore marks n → AreBefore marks m
before_more [] n m le are = tt
before_more (k ∷ ks) n m le are = (omega (arith, le, are.0), before_more ks n m le are.1)

before_last : (marks : List (ℕ × Bool)) (k : ℕ × Bool) (n : ℕ) → AreBefore marks n → k.0 < n → AreBefore (marks ++ (k ∷ [])) n
before_last [] k n are below = (below, tt)
before_last (x ∷ xs) k n are below = (are.0, before_last xs k n are.1 below)

before_both : (front : Bool) (marks : List (ℕ × Bool)) (n m : ℕ) → AreBefore marks (if front then n else n + 1) → n + 1 ≤ m → AreBefore marks m
before_both true marks n m are le = before_more marks n m (omega (arith, le)) are
before_both false marks n m are le = before_more marks (n + 1) m le are

no_mark : (front : Bool) (marks : List (ℕ × Bool)) (n m k : ℕ) → AreBefore marks (if front then n else n + 1) → n + 1 ≤ k → AreBefore (marks ++ []) k
no_mark front marks n m k are le = subst (λ ms. AreBefore ms k) (sym (append-nil marks)) (before_both front marks n k are le)

space_mark : (front : Bool) (marks : List (ℕ × Bool)) (n m : ℕ) → AreBefore marks (if front then n else n + 1) → m ≡ n + 0 → AreBefore (marks ++ []) (if front then m else m + 1)
space_mark true marks n m are e = subst (λ ms. AreBefore ms m) (sym (append-nil marks)) (before_more marks n m (omega (arith, e)) are)
space_mark false marks n m are e = subst (λ ms. AreBefore ms (m + 1)) (sym (append-nil marks)) (before_more marks (n + 1) (m + 1) (omega (arith, e)) are)

region_mark : (front starts : Bool) (marks : List (ℕ × Bool)) (n m : ℕ) → AreBefore marks (if front then n else n + 1) → m ≡ n + 0 → AreBefore (marks ++ ((n, starts) ∷ [])) (m + 1)
region_mark front starts marks n m are e = before_last marks (n, starts) (m + 1) (before_both front marks n (m + 1) are (omega (arith, e))) (omega (arith, e))

behind_step : (b : Before) (p : Piece) (marks : List (ℕ × Bool)) (n m : ℕ) → AreBefore marks (if b.line_front then n else n + 1) → m ≡ n + lines_in p → AreBefore (marks ++ mark_of n p) (if (behind b p).line_front then m else m + 1)
behind_step b piece.Name marks n m are e = no_mark b.line_front marks n m (m + 1) are (omega (arith, e))
behind_step b piece.EscapedName marks n m are e = no_mark b.line_front marks n m (m + 1) are (omega (arith, e))
behind_step b (piece.Keyword k) marks n m are e = no_mark b.line_front marks n m (m + 1) are (omega (arith, e))
behind_step b (piece.Integer l) marks n m are e = no_mark b.line_front marks n m (m + 1) are (omega (arith, e))
behind_step b piece.Text marks n m are e = no_mark b.line_front marks n m (m + 1) are (omega (arith, e))
behind_step b (piece.Char u) marks n m are e = no_mark b.line_front marks n m (m + 1) are (omega (arith, e))
behind_step b (piece.Symbol s) marks n m are e = no_mark b.line_front marks n m (m + 1) are (omega (arith, e))
behind_step b piece.Space marks n m are e = space_mark b.line_front marks n m are e
behind_step b piece.Comment marks n m are e = no_mark b.line_front marks n m (m + 1) are (omega (arith, e))
behind_step b piece.Continuation marks n m are e = no_mark b.line_front marks n m (m + 1) are (omega (arith, e))
behind_step b piece.LineEnd marks n m are e = no_mark b.line_front marks n m m are (omega (arith, e))
behind_step b piece.RegionStart marks n m are e = region_mark b.line_front true marks n m are e
behind_step b piece.RegionEnd marks n m are e = region_mark b.line_front false marks n m are e
behind_step b (piece.Fault f) marks n m are e = no_mark b.line_front marks n m (m + 1) are (omega (arith, e))

one_line_at_most : (p : Piece) → lines_in p ≤ 1
one_line_at_most piece.LineEnd = omega arith
one_line_at_most piece.Continuation = omega arith
one_line_at_most piece.Name = omega arith
one_line_at_most piece.EscapedName = omega arith
one_line_at_most (piece.Keyword k) = omega arith
one_line_at_most (piece.Integer l) = omega arith
one_line_at_most piece.Text = omega arith
one_line_at_most (piece.Char u) = omega arith
one_line_at_most (piece.Symbol s) = omega arith
one_line_at_most piece.Space = omega arith
one_line_at_most piece.Comment = omega arith
one_line_at_most piece.RegionStart = omega arith
one_line_at_most piece.RegionEnd = omega arith
one_line_at_most (piece.Fault f) = omega arith

front_before : (front : Bool) (marks : List (ℕ × Bool)) (n : ℕ) → AreBefore marks (if front then n else n + 1) → front ≡ true → AreBefore marks n
front_before true marks n are e = are
front_before false marks n are e = cc

-- ONE PIECE MORE

-- what `take` does with a piece
pub record TakenBy (table : List (List ℕ)) (p q : Progress) (x : Part) : Type 0 where
  pub items : (more : List Part) → items_from p.number p.reader.line p.reader.breaks (x ∷ more) ≡ items_here p.reader.line p.reader.breaks x ++ items_from q.number q.reader.line q.reader.breaks more
  pub reads : (later : List (List ℕ)) (items : List Item) → Extends later table → Reads later p.reader items → Reads later q.reader (items ++ items_here p.reader.line p.reader.breaks x)
  pub marks : (marks : List (ℕ × Bool)) → Tracks p.regions marks → ((x.piece ≡ piece.RegionStart) ⊎ (x.piece ≡ piece.RegionEnd) → AreBefore marks p.number) → Tracks q.regions (marks ++ mark_of p.number x.piece)
  pub number : q.number ≡ p.number + lines_in x.piece

parts_more : (table : List (List ℕ)) (ps : List Part) (x : Part) → with_parts table (ps ++ (x ∷ [])) ≡ with_piece (with_parts table ps) x.piece x.characters
parts_more table [] x = refl
parts_more table (p ∷ ps) x = parts_more (with_piece table p.piece p.characters) ps x

pub read_step : (earlier table later : List (List ℕ)) (text rest cs back : List Character) (b : Before) (p q : Progress) → 0 < length rest → ReadTo earlier table text rest b p → Extends later table → later ≡ with_piece table (piece_at b rest).piece cs
    → cs ≡ take (piece_at b rest).length rest → back ≡ drop (piece_at b rest).length rest → TakenBy later p q (part (piece_at b rest).piece cs)
    → ReadTo earlier later text back (behind b (piece_at b rest).piece) q
read_step earlier table later text rest cs back b p q some read ext grown is_cs is_back taken =
    let x = part (piece_at b rest).piece cs in
    let bounds = piece_bounds b rest some in
    record {
      done = read.done ++ (x ∷ []);
      items = read.items ++ items_here p.reader.line p.reader.breaks x;
      marks = read.marks ++ mark_of p.number x.piece;
      falls = λ more f. subst (λ ps. Falls file_front text ps) (sym (append_assoc read.done (x ∷ []) more)) (read.falls (x ∷ more) (some, refl, is_cs, subst (λ us. Falls (behind b x.piece) us more) is_back f));
      items_are = λ more. ap (λ ps. items_from 1 1 true ps) (append_assoc read.done (x ∷ []) more) ∙ read.items_are (x ∷ more) ∙ ap (λ is. read.items ++ is) (taken.items more)
          ∙ sym (append_assoc read.items (items_here p.reader.line p.reader.breaks x) (items_from q.number q.reader.line q.reader.breaks more));
      marks_are = λ more. ap (λ ps. marks_from 1 ps) (append_assoc read.done (x ∷ []) more) ∙ read.marks_are (x ∷ more) ∙ ap (λ n. read.marks ++ (mark_of p.number x.piece ++ marks_from n more)) (sym taken.number)
          ∙ sym (append_assoc read.marks (mark_of p.number x.piece) (marks_from q.number more));
      reads = λ last e. taken.reads last read.items e (read.reads last (extends_trans last later table e ext));
      tracks = taken.marks read.marks read.tracks (λ region. front_before b.line_front read.marks p.number read.behind (region_front b rest region));
      behind = behind_step b x.piece read.marks p.number q.number read.behind taken.number;
      bound = omega (arith, read.bound, taken.number, one_line_at_most x.piece, bounds.0, bounds.1, length-drop (piece_at b rest).length rest, ap (λ us. length us) is_back);
      names = grown ∙ ap (λ t. with_piece t x.piece x.characters) read.names ∙ sym (parts_more earlier read.done x);
    }
