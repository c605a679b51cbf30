-- One line more of a file.
use Rattle.std.proofs.Common.{◌≡◌, ◌⊎◌, inl, inr, ℕ, Bool, false, List, [], ◌∷◌, ◌++◌, Option, length, take, drop, refl, sym, ap, ◌∙◌, subst, append_assoc, append-nil}
use Rattle.std.proofs.Math.Seq.{take-append_seam, drop-append_seam, take-length}
use Rattle.vb_syntax.specs.declared.{tokens.Line.Line, item.{Item.Item, Row.Row}, words.ContextualWords.ContextualWords}
use Rattle.vb_rows.specs.{Rows.{items_behind, AreLineRows}, Files.{line_depths, depths_of, AreRowsOf, is_of_grammar, row_count, BreaksGrammar}}
use Rattle.vb_rows.proofs.Counts.{line_count}

pub behind_both : (items : List (Option Item)) (xs ys : List Row) → items_behind items (xs ++ ys) ≡ items_behind (items_behind items xs) ys
behind_both items [] ys = refl
behind_both items (x ∷ xs) ys = behind_both (x.item ∷ items) xs ys

pub rows_more : (words : ContextualWords) (items : List (Option Item)) (ls : List Line) (rows : List Row) (l : Line) (here : List Row)
    → AreRowsOf words items ls rows → AreLineRows words (items_behind items rows) l here → AreRowsOf words items (ls ++ l ∷ []) (rows ++ here)
rows_more words items [] rows l here known are =
    (here, [], ap (λ rs. rs ++ here) known ∙ sym (append-nil here), subst (λ rs. AreLineRows words (items_behind items rs) l here) known are, refl)
rows_more words items (k ∷ ls) rows l here known are =
    let first = known.0 in
    let later = known.1 in
    let split = known.2 in (
      first,
      later ++ here,
      ap (λ rs. rs ++ here) split ∙ append_assoc first later here,
      known.3,
      rows_more words (items_behind items first) ls later l here known.4
          (subst (λ is. AreLineRows words is l here) (ap (λ rs. items_behind items rs) split ∙ behind_both items first later) are),
    )

pub depths_more : (ls : List Line) (l : Line) → depths_of (ls ++ l ∷ []) ≡ depths_of ls ++ line_depths l
depths_more [] l = append-nil (line_depths l)
depths_more (k ∷ ls) l = ap (λ ds. line_depths k ++ ds) (depths_more ls l) ∙ sym (append_assoc (line_depths k) (depths_of ls) (line_depths l))

-- whether the next line is the first of the file
abbrev pub flag : Bool → List Line → Bool
flag first [] = first
flag first (l ∷ ls) = false

pub flag_more : (first : Bool) (ls : List Line) (l : Line) → flag first (ls ++ l ∷ []) ≡ false
flag_more first [] l = refl
flag_more first (k ∷ ls) l = refl

flag_past : (ls : List Line) → flag false ls ≡ false
flag_past [] = refl
flag_past (l ∷ ls) = refl

-- the first rows, and those behind them
first_rows : (n : ℕ) (first later rows here : List Row) → rows ≡ first ++ later → length first ≡ n → take n (rows ++ here) ≡ take n rows
first_rows n first later rows here split count =
    ap (λ m. take m (rows ++ here)) (sym count) ∙ ap (λ rs. take (length first) rs) (ap (λ rs. rs ++ here) split ∙ append_assoc first later here) ∙ take-append_seam first (later ++ here)
    ∙ sym (ap (λ m. take m rows) (sym count) ∙ ap (λ rs. take (length first) rs) split ∙ take-append_seam first later)

later_rows : (n : ℕ) (first later rows here : List Row) → rows ≡ first ++ later → length first ≡ n → drop n (rows ++ here) ≡ later ++ here
later_rows n first later rows here split count =
    ap (λ m. drop m (rows ++ here)) (sym count) ∙ ap (λ rs. drop (length first) rs) (ap (λ rs. rs ++ here) split ∙ append_assoc first later here) ∙ drop-append_seam first (later ++ here)

later_alone : (n : ℕ) (first later rows : List Row) → rows ≡ first ++ later → length first ≡ n → drop n rows ≡ later
later_alone n first later rows split count = ap (λ m. drop m rows) (sym count) ∙ ap (λ rs. drop (length first) rs) split ∙ drop-append_seam first later

-- the last line breaks the grammar
abbrev pub LastBreaks : Bool → List Line → Line → List Row → Line → Type 0
LastBreaks first ls l here broken = (l ≡ broken) × (is_of_grammar (flag first ls) l here ≡ false)

take_here : (l : Line) (rows here : List Row) → rows ≡ [] → length here ≡ row_count l → take (row_count l) (rows ++ here) ≡ here
take_here l rows here none count = ap (λ rs. take (row_count l) (rs ++ here)) none ∙ ap (λ n. take n here) (sym count) ∙ take-length here

pub broken_split : (first : Bool) (words : ContextualWords) (items : List (Option Item)) (ls : List Line) (rows : List Row) (l : Line) (here : List Row) (broken : Line)
    → AreRowsOf words items ls rows → length here ≡ row_count l → BreaksGrammar first (ls ++ l ∷ []) (rows ++ here) broken → BreaksGrammar first ls rows broken ⊎ LastBreaks first ls l here broken
broken_split first words items [] rows l here broken known count (inl h) = inr (h.0, ap (λ rs. is_of_grammar first l rs) (sym (take_here l rows here known count)) ∙ h.1)
broken_split first words items [] rows l here broken known count (inr h) = absurd h
broken_split first words items (k ∷ ls) rows l here broken known count (inl h) =
    let begin_ = known.0 in let later = known.1 in let split = known.2 in
    let n = line_count words items k begin_ known.3 in
    inl (inl (h.0, ap (λ rs. is_of_grammar first k rs) (sym (first_rows (row_count k) begin_ later rows here split n)) ∙ h.1))
broken_split first words items (k ∷ ls) rows l here broken known count (inr h) =
    let begin_ = known.0 in let later = known.1 in let split = known.2 in
    let n = line_count words items k begin_ known.3 in
    let rest = broken_split false words (items_behind items begin_) ls later l here broken known.4 count (subst (λ rs. BreaksGrammar false (ls ++ l ∷ []) rs broken) (later_rows (row_count k) begin_ later rows here split n) h) in
    elim rest [
      | inl a ↦ inl (inr (subst (λ rs. BreaksGrammar false ls rs broken) (sym (later_alone (row_count k) begin_ later rows split n)) a))
      | inr b ↦ inr (b.0, ap (λ f. is_of_grammar f l here) (sym (flag_past ls)) ∙ b.1)
    ]

pub broken_front : (first : Bool) (words : ContextualWords) (items : List (Option Item)) (ls : List Line) (rows : List Row) (l : Line) (here : List Row) (broken : Line)
    → AreRowsOf words items ls rows → BreaksGrammar first ls rows broken → BreaksGrammar first (ls ++ l ∷ []) (rows ++ here) broken
broken_front first words items [] rows l here broken known h = absurd h
broken_front first words items (k ∷ ls) rows l here broken known (inl h) =
    let begin_ = known.0 in let later = known.1 in let split = known.2 in
    let n = line_count words items k begin_ known.3 in
    inl (h.0, ap (λ rs. is_of_grammar first k rs) (first_rows (row_count k) begin_ later rows here split n) ∙ h.1)
broken_front first words items (k ∷ ls) rows l here broken known (inr h) =
    let begin_ = known.0 in let later = known.1 in let split = known.2 in
    let n = line_count words items k begin_ known.3 in
    inr (subst (λ rs. BreaksGrammar false (ls ++ l ∷ []) rs broken) (sym (later_rows (row_count k) begin_ later rows here split n))
    (broken_front false words (items_behind items begin_) ls later l here broken known.4 (subst (λ rs. BreaksGrammar false ls rs broken) (later_alone (row_count k) begin_ later rows split n) h)))

pub broken_last : (first : Bool) (words : ContextualWords) (items : List (Option Item)) (ls : List Line) (rows : List Row) (l : Line) (here : List Row) (broken : Line)
    → AreRowsOf words items ls rows → length here ≡ row_count l → LastBreaks first ls l here broken → BreaksGrammar first (ls ++ l ∷ []) (rows ++ here) broken
broken_last first words items [] rows l here broken known count h = inl (h.0, ap (λ rs. is_of_grammar first l rs) (take_here l rows here known count) ∙ h.1)
broken_last first words items (k ∷ ls) rows l here broken known count h =
    let begin_ = known.0 in let later = known.1 in let split = known.2 in
    let n = line_count words items k begin_ known.3 in
    inr (subst (λ rs. BreaksGrammar false (ls ++ l ∷ []) rs broken) (sym (later_rows (row_count k) begin_ later rows here split n))
    (broken_last false words (items_behind items begin_) ls later l here broken known.4 count (h.0, ap (λ f. is_of_grammar f l here) (flag_past ls) ∙ h.1)))
