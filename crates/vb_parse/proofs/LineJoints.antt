-- Rows of lines that are in place are so in each line, which breaks the rule on its form only by a colon at the file's front.
use Rattle.std.proofs.Common.{◌≡◌, inl, inr, ℕ, suc, ◌+◌, Bool, true, false, ◌&&◌, not, if◌then◌else◌, List, [], ◌∷◌, ◌++◌, Option, Some, None, length, take, drop, refl, sym, ap, ◌∙◌, subst, length-append}
use Rattle.std.proofs.Math.Seq.{take-append_seam, drop-append_seam}
use Rattle.vb_text.specs.declared.names.Name.{Name}
use Rattle.vb_syntax.specs.{declared.{tokens.{Token.Token, Line.Line}, item.{Item.Item, Joint.Joint, Row.Row}, words.{Context.Context, ContextualWords.ContextualWords}}, Items.is_end}
use Rattle.vb_syntax.specs.declared.item.Item.TheVariants as item
use Rattle.vb_syntax.specs.declared.item.Joint.TheVariants as joint
use Rattle.vb_rows.specs.declared.pieces.Before.{Before}
use Rattle.vb_rows.specs.declared.pieces.Before.TheVariants as before
use Rattle.vb_rows.specs.{Pieces.{Piece, piece, is_colon, parts_at_else, parts_at_then, before_next, push, cut, behind_label, label_of, is_empty, parts_statements, is_left_out, kept, pieces_of}, Rows.{items_behind, context_behind, Spells, ArePieceRows, is_in_place, waiting_behind, are_in_place, joint_of, joined, label_rows, AreLineRows}, Files.{AreRowsOf, row_count, begins_colon, is_of_grammar, BreaksGrammar}}
use Rattle.vb_parse.specs.Excluded.{BeginsColon}
use Rattle.vb_parse.proofs.TreeJoints.{AreFree}

left : (a b : Bool) → (a && b) ≡ true → a ≡ true
left true b h = refl
left false b h = cc

right : (a b : Bool) → (a && b) ≡ true → b ≡ true
right true b h = h
right false b h = cc

both : (a b : Bool) → a ≡ true → b ≡ true → (a && b) ≡ true
both true b h i = i
both false b h i = h

-- THE LAST PIECE OF A LINE

-- the last piece, or this where there is none, stands before the end of the line or a colon
abbrev Closes : Joint → List Piece → Type 0
Closes j [] = parts_statements j ≡ true
Closes j (p ∷ ps) = Closes p.behind ps

abbrev ClosesRows : Joint → List Row → Type 0
ClosesRows j [] = parts_statements j ≡ true
ClosesRows j (r ∷ rs) = ClosesRows r.behind rs

tested : (P : List Piece → Type 0) (b : Bool) (xs ys : List Piece) → P xs → P ys → P (if b then xs else ys)
tested P true xs ys h i = h
tested P false xs ys h i = i

push_closes : (j : Joint) (t : Token) (ps : List Piece) → Closes j ps → Closes j (push t ps)
push_closes j t [] h = h
push_closes j t (p ∷ ps) h = h

cut_closes : (j : Joint) (b : Before) (ts : List Token) → Closes j (cut b ts)
cut_closes j b [] = refl
cut_closes j b (t ∷ ts) =
    let other = push t (cut (before_next t) ts) in
    let then_ = if parts_at_then t ts then piece (t ∷ []) joint.Then ∷ cut before.Other ts else other in
    let else_ = if parts_at_else b t then piece [] joint.Else ∷ cut before.Other ts else then_ in
    tested (Closes j) (is_colon t) (piece [] joint.Colon ∷ cut before.Front ts) else_ (cut_closes joint.Colon before.Front ts)
    (tested (Closes j) (parts_at_else b t) (piece [] joint.Else ∷ cut before.Other ts) then_ (cut_closes joint.Else before.Other ts)
    (tested (Closes j) (parts_at_then t ts) (piece (t ∷ []) joint.Then ∷ cut before.Other ts) other (cut_closes joint.Then before.Other ts)
    (push_closes j t (cut (before_next t) ts) (cut_closes j (before_next t) ts))))

closes_elsewhere : (i j : Joint) (ps : List Piece) → parts_statements i ≡ true → Closes j ps → Closes i ps
closes_elsewhere i j [] e h = e
closes_elsewhere i j (p ∷ ps) e h = h

kept_test : (from : Joint) (p : Piece) (ps : List Piece) (b : Bool) → is_left_out from p ≡ b → Closes p.behind ps → Closes from (if b then ps else p ∷ ps)
kept_test from p ps true e h =
    closes_elsewhere from p.behind ps (left (parts_statements from) (parts_statements p.behind) (right (is_empty p.tokens) (parts_statements from && parts_statements p.behind) e)) h
kept_test from p ps false e h = h

kept_closes : (from : Joint) (ps : List Piece) → Closes from ps → Closes from (kept from ps)
kept_closes from [] h = h
kept_closes from (p ∷ ps) h = kept_test from p (kept p.behind ps) (is_left_out from p) refl (kept_closes p.behind ps h)

rows_close : (words : ContextualWords) (number : ℕ) (items : List (Option Item)) (i j : Joint) (ps : List Piece) (rs : List Row) → i ≡ j → ArePieceRows words number items ps rs → Closes i ps → ClosesRows j rs
rows_close words number items i j [] [] e are h = subst (λ (k : Joint). parts_statements k ≡ true) e h
rows_close words number items i j [] (r ∷ rs) e are h = absurd are
rows_close words number items i j (p ∷ ps) [] e are h = absurd are
rows_close words number items i j (p ∷ ps) (r ∷ rs) e are h = rows_close words number (r.item ∷ items) p.behind r.behind ps rs (sym are.1) are.3 h

-- what stands behind the last row
abbrev last_joint : Joint → List Row → Joint
last_joint j [] = j
last_joint j (r ∷ rs) = last_joint r.behind rs

joined_end : (i : Bool) (j : Joint) (rs : List Row) → ClosesRows j rs → last_joint (joint_of i j rs) (joined (not (is_end (joint_of i j rs))) rs) ≡ joint.End
joined_end i joint.End [] h = refl
joined_end true joint.Colon [] h = refl
joined_end false joint.Colon [] h = refl
joined_end i joint.Then [] h = cc
joined_end i joint.Else [] h = cc
joined_end i j (r ∷ rs) h = joined_end (not (is_end (joint_of i j (r ∷ rs)))) r.behind rs h

-- LABELS

-- none of the rows is a label
abbrev HaveNoLabel : List Row → Type 0
HaveNoLabel [] = Unit {0}
HaveNoLabel (r ∷ rs) = ((n : Name) → r.item ≡ Some (item.Label n) → ⊥) × HaveNoLabel rs

no_label : (c : Context) (ts : List Token) (n : Name) → Spells c ts (Some (item.Label n)) → ⊥
no_label c ts n h = h.1

pieces_without : (words : ContextualWords) (number : ℕ) (items : List (Option Item)) (ps : List Piece) (rs : List Row) → ArePieceRows words number items ps rs → HaveNoLabel rs
pieces_without words number items [] [] are = tt
pieces_without words number items [] (r ∷ rs) are = absurd are
pieces_without words number items (p ∷ ps) [] are = absurd are
pieces_without words number items (p ∷ ps) (r ∷ rs) are =
    let c = context_behind words items in
    (λ n e. no_label c p.tokens n (subst (λ (o : Option Item). Spells c p.tokens o) e are.2), pieces_without words number (r.item ∷ items) ps rs are.3)

joined_free : (inside : Bool) (from : Joint) (rs : List Row) → HaveNoLabel rs → AreFree from (joined inside rs)
joined_free inside from [] h = tt
joined_free inside from (r ∷ rs) h =
    let j = joint_of inside r.behind rs in
    (λ n e. absurd (h.0 n e), joined_free (not (is_end j)) j rs h.1)

-- ONE LINE

-- rows between two ends, in which labels stand at the front
record AreWhole (rows : List Row) : Type 0 where
  free : AreFree joint.End rows
  ends : last_joint joint.End rows ≡ joint.End

with_label : (number : ℕ) (o : Option Name) (rows : List Row) → AreWhole rows → AreWhole (label_rows number o ++ rows)
with_label number None rows h = h
with_label number (Some n) rows h = record { free = (λ m e. (refl, refl), h.free); ends = h.ends }

line_whole : (words : ContextualWords) (items : List (Option Item)) (l : Line) (rows : List Row) → AreLineRows words items l rows → AreWhole rows
line_whole words items l rows are =
    let us = behind_label l.tokens in
    let behind = items_behind items (label_rows l.number (label_of l.tokens)) in
    let closes = rows_close words l.number behind joint.End joint.End (pieces_of l.tokens) are.parts refl are.are (kept_closes joint.End (cut before.Front us) (cut_closes joint.End before.Front us)) in
    let parts : AreWhole (joined false are.parts) = record {
      free = joined_free false joint.End are.parts (pieces_without words l.number behind (pieces_of l.tokens) are.parts are.are);
      ends = joined_end false joint.End are.parts closes;
    } in
    subst (λ (rs : List Row). AreWhole rs) (sym are.joined_are) (with_label l.number (label_of l.tokens) (joined false are.parts) parts)

-- HOW MANY

joined_count : (inside : Bool) (rs : List Row) → length (joined inside rs) ≡ length rs
joined_count inside [] = refl
joined_count inside (r ∷ rs) = ap suc (joined_count (not (is_end (joint_of inside r.behind rs))) rs)

piece_count : (words : ContextualWords) (number : ℕ) (items : List (Option Item)) (ps : List Piece) (rs : List Row) → ArePieceRows words number items ps rs → length rs ≡ length ps
piece_count words number items [] [] are = refl
piece_count words number items [] (r ∷ rs) are = absurd are
piece_count words number items (p ∷ ps) [] are = absurd are
piece_count words number items (p ∷ ps) (r ∷ rs) are = ap suc (piece_count words number (r.item ∷ items) ps rs are.3)

line_count : (words : ContextualWords) (items : List (Option Item)) (l : Line) (rows : List Row) → AreLineRows words items l rows → length rows ≡ row_count l
line_count words items l rows are =
    let labels = label_rows l.number (label_of l.tokens) in
    ap (λ (rs : List Row). length rs) are.joined_are ∙ length-append labels (joined false are.parts)
    ∙ ap (λ (n : ℕ). length labels + n) (joined_count false are.parts ∙ piece_count words l.number (items_behind items labels) (pieces_of l.tokens) are.parts are.are)

-- ALL LINES

free_both : (from : Joint) (xs ys : List Row) → AreFree from xs → last_joint from xs ≡ joint.End → AreFree joint.End ys → AreFree from (xs ++ ys)
free_both from [] ys h e k = subst (λ (j : Joint). AreFree j ys) (sym e) k
free_both from (x ∷ xs) ys h e k = (h.0, free_both x.behind xs ys h.1 e k)

pub lines_free : (words : ContextualWords) (items : List (Option Item)) (ls : List Line) (rows : List Row) → AreRowsOf words items ls rows → AreFree joint.End rows
lines_free words items [] rows are = subst (λ (rs : List Row). AreFree joint.End rs) (sym are) tt
lines_free words items (l ∷ ls) rows are =
    let here = line_whole words items l are.0 are.3 in
    subst (λ (rs : List Row). AreFree joint.End rs) (sym are.2) (free_both joint.End are.0 are.1 here.free here.ends (lines_free words (items_behind items are.0) ls are.1 are.4))

-- behind an end no `If` waits
none_waits : (w : ℕ) (j : Joint) → j ≡ joint.End → waiting_behind w j ≡ 0
none_waits w j e = ap (λ (k : Joint). waiting_behind w k) e

split_in_place : (from : Joint) (w : ℕ) (xs ys : List Row) → last_joint from xs ≡ joint.End → (from ≡ joint.End → w ≡ 0) → are_in_place from w (xs ++ ys) ≡ true
    → (are_in_place from w xs ≡ true) × (are_in_place joint.End 0 ys ≡ true)
split_in_place from w [] ys e none h = (refl, subst (λ (j : Joint). are_in_place j 0 ys ≡ true) e (subst (λ (n : ℕ). are_in_place from n ys ≡ true) (none e) h))
split_in_place from w (x ∷ xs) ys e none h =
    let fit = is_in_place from w x.behind x.item in
    let waits = waiting_behind w x.behind in
    let rest = split_in_place x.behind waits xs ys e (none_waits w x.behind) (right fit (are_in_place x.behind waits (xs ++ ys)) h) in
    (both fit (are_in_place x.behind waits xs) (left fit (are_in_place x.behind waits (xs ++ ys)) h) rest.0, rest.1)

here_alone : (n : ℕ) (here later rows : List Row) → rows ≡ here ++ later → length here ≡ n → take n rows ≡ here
here_alone n here later rows split count = ap (λ (m : ℕ). take m rows) (sym count) ∙ ap (λ (rs : List Row). take (length here) rs) split ∙ take-append_seam here later

later_alone : (n : ℕ) (here later rows : List Row) → rows ≡ here ++ later → length here ≡ n → drop n rows ≡ later
later_alone n here later rows split count = ap (λ (m : ℕ). drop m rows) (sym count) ∙ ap (λ (rs : List Row). drop (length here) rs) split ∙ drop-append_seam here later

-- rows in place aren't of the grammar only for the colon
only_colon : (first : Bool) (placed colon : Bool) → placed ≡ true → (placed && not (first && colon)) ≡ false → (first ≡ true) × (colon ≡ true)
only_colon true true true p h = (refl, refl)
only_colon first placed colon p h = absurd cc

-- the first of the lines breaks the grammar, by a colon
abbrev LeadsByColon : Bool → List Line → Line → Type 0
LeadsByColon first [] l = ⊥
LeadsByColon first (k ∷ ls) l = (first ≡ true) × (k ≡ l) × (begins_colon k.tokens ≡ true)

none_leads : {A : Type 0} (ls : List Line) (l : Line) → LeadsByColon false ls l → A
none_leads [] l h = absurd h
none_leads (k ∷ ls) l h = let e : false ≡ true = h.0 in cc

lines_break : (first : Bool) (words : ContextualWords) (items : List (Option Item)) (ls : List Line) (rows : List Row) → AreRowsOf words items ls rows → are_in_place joint.End 0 rows ≡ true
    → (l : Line) → BreaksGrammar first ls rows l → LeadsByColon first ls l
lines_break first words items [] rows are placed l h = absurd h
lines_break first words items (k ∷ ls) rows are placed l (inl h) =
    let count = line_count words items k are.0 are.3 in
    let parts = split_in_place joint.End 0 are.0 are.1 (line_whole words items k are.0 are.3).ends (λ e. refl) (subst (λ (rs : List Row). are_in_place joint.End 0 rs ≡ true) are.2 placed) in
    let broken : is_of_grammar first k are.0 ≡ false = subst (λ (rs : List Row). is_of_grammar first k rs ≡ false) (here_alone (row_count k) are.0 are.1 rows are.2 count) h.1 in
    let colon = only_colon first (are_in_place joint.End 0 are.0) (begins_colon k.tokens) parts.0 broken in
    (colon.0, h.0, colon.1)
lines_break first words items (k ∷ ls) rows are placed l (inr h) =
    let count = line_count words items k are.0 are.3 in
    let parts = split_in_place joint.End 0 are.0 are.1 (line_whole words items k are.0 are.3).ends (λ e. refl) (subst (λ (rs : List Row). are_in_place joint.End 0 rs ≡ true) are.2 placed) in
    let behind : BreaksGrammar false ls are.1 l = subst (λ (rs : List Row). BreaksGrammar false ls rs l) (later_alone (row_count k) are.0 are.1 rows are.2 count) h in
    none_leads ls l (lines_break false words (items_behind items are.0) ls are.1 are.4 parts.1 l behind)

pub led_by_colon : (words : ContextualWords) (ls : List Line) (rows : List Row) → AreRowsOf words [] ls rows → are_in_place joint.End 0 rows ≡ true
    → (l : Line) → BreaksGrammar true ls rows l → BeginsColon ls l.number
led_by_colon words [] rows are placed l h = absurd h
led_by_colon words (k ∷ ls) rows are placed l h =
    let first = lines_break true words [] (k ∷ ls) rows are placed l h in
    (first.2, sym (ap (λ (x : Line). x.number) first.1))
