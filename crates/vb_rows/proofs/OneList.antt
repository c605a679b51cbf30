-- Lines have one list of rows.
use Rattle.std.proofs.Common.{◌≡◌, ℕ, suc, ◌≤◌, Bool, true, false, List, [], ◌∷◌, ◌++◌, Option, Some, None, length, All, refl, sym, ap, ◌∙◌, subst, if◌then◌else◌, arith}
use Rattle.vb_syntax.specs.declared.symbol.Symbol.TheVariants as sign
use Rattle.vb_syntax.specs.{declared.{tokens.{Token.Token, Line.Line}, item.{Item.Item, Joint.Joint, Row.Row}, words.{Context.Context, ContextualWords.ContextualWords}}, ContextualWords.OptionsApart}
use Rattle.vb_syntax.specs.declared.tokens.Token.TheVariants as token
use Rattle.vb_syntax.specs.declared.item.Joint.TheVariants as joint
use Rattle.vb_parse_expr.specs.TypeReading.{most_tokens}
use Rattle.vb_parse_stmt.specs.Items.{IsItem}
use Rattle.vb_rows.specs.{declared.pieces.Before.Before, Pieces.{Piece, piece, is_colon, parts_at_else, parts_at_then, before_next, push, cut, label_of, behind_label, is_left_out, kept, pieces_of}, Rows.{items_behind, context_behind, Spells, ArePieceRows, joined, label_rows, AreLineRows}, Files.AreRowsOf}
use Rattle.vb_rows.specs.declared.pieces.Before.TheVariants as before

-- PIECES ARE NO LONGER THAN THEIR LINE

abbrev pub AreShort : ℕ → List Piece → Type 0
AreShort n [] = Unit {0}
AreShort n (p ∷ ps) = (length p.tokens ≤ n) × AreShort n ps

by_test : (P : List Piece → Type 0) (b : Bool) (xs ys : List Piece) → P xs → P ys → P (if b then xs else ys)
by_test P true xs ys h i = h
by_test P false xs ys h i = i

shorter : (n m : ℕ) (ps : List Piece) → n ≤ m → AreShort n ps → AreShort m ps
shorter n m [] h short = tt
shorter n m (p ∷ ps) h short = (omega (arith, short.0), shorter n m ps h short.1)

push_short : (t : Token) (n : ℕ) (ps : List Piece) → AreShort n ps → AreShort (suc n) (push t ps)
push_short t n [] short = tt
push_short t n (p ∷ ps) short = (omega (arith, short.0), shorter n (suc n) ps (omega arith) short.1)

cut_short : (b : Before) (ts : List Token) → AreShort (length ts) (cut b ts)
cut_short b [] = (omega arith, tt)
cut_short b (t ∷ ts) =
    let n = length ts in
    by_test (AreShort (suc n)) (is_colon t) (piece [] joint.Colon ∷ cut before.Front ts)
    (if parts_at_else b t then piece [] joint.Else ∷ cut before.Other ts else if parts_at_then t ts then piece (t ∷ []) joint.Then ∷ cut before.Other ts else push t (cut (before_next t) ts))
    (omega arith, shorter n (suc n) (cut before.Front ts) (omega arith) (cut_short before.Front ts))
    (by_test (AreShort (suc n)) (parts_at_else b t) (piece [] joint.Else ∷ cut before.Other ts) (if parts_at_then t ts then piece (t ∷ []) joint.Then ∷ cut before.Other ts else push t (cut (before_next t) ts))
    (omega arith, shorter n (suc n) (cut before.Other ts) (omega arith) (cut_short before.Other ts))
    (by_test (AreShort (suc n)) (parts_at_then t ts) (piece (t ∷ []) joint.Then ∷ cut before.Other ts) (push t (cut (before_next t) ts))
    (omega arith, shorter n (suc n) (cut before.Other ts) (omega arith) (cut_short before.Other ts))
    (push_short t n (cut (before_next t) ts) (cut_short (before_next t) ts))))

kept_short : (n : ℕ) (from : Joint) (ps : List Piece) → AreShort n ps → AreShort n (kept from ps)
kept_short n from [] short = tt
kept_short n from (p ∷ ps) short =
    by_test (AreShort n) (is_left_out from p) (kept p.behind ps) (p ∷ kept p.behind ps) (kept_short n p.behind ps short.1) (short.0, kept_short n p.behind ps short.1)

label_short : (ts : List Token) → length (behind_label ts) ≤ length ts
label_short (token.Name n ∷ token.Symbol sign.Colon ∷ ts) = omega arith
label_short (token.EscapedName n ∷ token.Symbol sign.Colon ∷ ts) = omega arith
label_short ts = omega arith

pieces_short : (n : ℕ) (ts : List Token) → length ts ≤ n → AreShort n (pieces_of ts)
pieces_short n ts h =
    let us = behind_label ts in
    kept_short n joint.End (cut before.Front us) (shorter (length us) n (cut before.Front us) (omega (arith, label_short ts)) (cut_short before.Front us))

-- ONE LIST

-- tokens are one item at most
abbrev pub OneItem : Type 0
OneItem = (c : Context) (ts : List Token) (x y : Item) → OptionsApart c.words → length ts ≤ most_tokens → IsItem c ts x → IsItem c ts y → x ≡ y

one_spelled : OneItem → (c : Context) (ts : List Token) (x y : Option Item) → OptionsApart c.words → length ts ≤ most_tokens → Spells c ts x → Spells c ts y → x ≡ y
one_spelled one c ts None None apart short h i = refl
one_spelled one c ts None (Some y) apart short h i = absurd (h y i)
one_spelled one c ts (Some x) None apart short h i = absurd (i x h)
one_spelled one c ts (Some x) (Some y) apart short h i = ap (λ z. Some z) (one c ts x y apart short h i)

same_row : (r s : Row) → r.line ≡ s.line → r.item ≡ s.item → r.behind ≡ s.behind → r ≡ s
same_row r s e f g =
    let make : ℕ → Option Item → Joint → Row = λ n i j. record { line = n; item = i; behind = j } in
    ap (λ n. make n r.item r.behind) e ∙ ap (λ i. make s.line i r.behind) f ∙ ap (λ j. make s.line s.item j) g

one_parts : OneItem → (words : ContextualWords) (number : ℕ) (items : List (Option Item)) (ps : List Piece) (xs ys : List Row) → OptionsApart words → AreShort most_tokens ps
    → ArePieceRows words number items ps xs → ArePieceRows words number items ps ys → xs ≡ ys
one_parts one words number items [] [] [] apart short h i = refl
one_parts one words number items [] [] (y ∷ ys) apart short h i = absurd i
one_parts one words number items [] (x ∷ xs) ys apart short h i = absurd h
one_parts one words number items (p ∷ ps) [] ys apart short h i = absurd h
one_parts one words number items (p ∷ ps) (x ∷ xs) [] apart short h i = absurd i
one_parts one words number items (p ∷ ps) (x ∷ xs) (y ∷ ys) apart short h i =
    let item = one_spelled one (context_behind words items) p.tokens x.item y.item apart short.0 h.2 i.2 in
    let rest = one_parts one words number (x.item ∷ items) ps xs ys apart short.1 h.3 (subst (λ z. ArePieceRows words number (z ∷ items) ps ys) (sym item) i.3) in
    ap (λ z. z ∷ xs) (same_row x y (h.0 ∙ sym i.0) item (h.1 ∙ sym i.1)) ∙ ap (λ zs. y ∷ zs) rest

one_line : OneItem → (words : ContextualWords) (items : List (Option Item)) (l : Line) (xs ys : List Row) → OptionsApart words → length l.tokens ≤ most_tokens
    → AreLineRows words items l xs → AreLineRows words items l ys → xs ≡ ys
one_line one words items l xs ys apart short h i =
    h.joined_are
    ∙ ap (λ ps. label_rows l.number (label_of l.tokens) ++ joined false ps) (one_parts one words l.number (items_behind items (label_rows l.number (label_of l.tokens))) (pieces_of l.tokens) h.parts i.parts apart (pieces_short most_tokens l.tokens short) h.are i.are)
    ∙ sym i.joined_are

-- the premise of one line more
first_short : (l : Line) (ls : List Line) → All (λ k. length k.tokens ≤ most_tokens) (l ∷ ls) → length l.tokens ≤ most_tokens
first_short l ls h = h 0 l (omega arith)

rest_short : (l : Line) (ls : List Line) → All (λ k. length k.tokens ≤ most_tokens) (l ∷ ls) → All (λ k. length k.tokens ≤ most_tokens) ls
rest_short l ls h = λ k d lt. h (suc k) d (omega (arith, lt))

pub one_file : OneItem → (words : ContextualWords) (items : List (Option Item)) (ls : List Line) (rows other : List Row) → OptionsApart words → All (λ l. length l.tokens ≤ most_tokens) ls
    → AreRowsOf words items ls rows → AreRowsOf words items ls other → rows ≡ other
one_file one words items [] rows other apart short h i = h ∙ sym i
one_file one words items (l ∷ ls) rows other apart short h i =
    let here = one_line one words items l h.0 i.0 apart (first_short l ls short) h.3 i.3 in
    let rest = one_file one words (items_behind items h.0) ls h.1 i.1 apart (rest_short l ls short) h.4 (subst (λ rs. AreRowsOf words (items_behind items rs) ls i.1) (sym here) i.4) in
    h.2 ∙ ap (λ rs. rs ++ h.1) here ∙ ap (λ rs. i.0 ++ rs) rest ∙ sym i.2
