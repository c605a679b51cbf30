-- The rows of a line are in place exactly where the productions make a line.
use Rattle.std.proofs.Common.{◌≡◌, ℕ, zero, suc, ◌≤◌, ◌<◌, ◌+◌, ◌-◌, nat_lt, Bool, true, false, not, ◌&&◌, ◌||◌, if◌then◌else◌, List, [], ◌∷◌, ◌++◌, Option, Some, None, refl, sym, ap, ◌∙◌, subst, length, append_assoc, arith}
use Rattle.vb_syntax.specs.{declared.{tokens.Line.Line, item.{Joint.Joint, Item.Item, Row.Row}, words.ContextualWords.ContextualWords}, Items.{is_simple, is_end}}
use Rattle.vb_syntax.specs.declared.item.Joint.TheVariants as joint
use Rattle.vb_syntax.specs.declared.tokens.Token.{Token}
use Rattle.vb_text.specs.declared.names.Name.{Name}
use Rattle.vb_rows.specs.declared.pieces.Before.{Before}
use Rattle.vb_rows.specs.declared.pieces.Before.TheVariants as before
use Rattle.vb_rows.specs.Pieces.{Piece, piece, is_colon, parts_at_else, parts_at_then, before_next, push, cut, behind_label, label_of, is_empty, parts_statements, is_left_out, kept, pieces_of}
use Rattle.vb_rows.specs.Rows.{items_behind, is_if, fits, waiting_behind, are_in_place, joint_of, joined, label_rows, ArePieceRows, AreLineRows}
use Rattle.vb_rows.specs.Production.{row, AreStatements, IsPart, IsLine}
use Rattle.vb_rows.specs.Production.AreStatements.{last, further, line_if, line_if_else}
use Rattle.vb_rows.specs.Production.IsPart.{item, line_if as part_if, line_if_else as part_if_else}
use Rattle.vb_rows.specs.Production.IsLine.{nothing, part}

-- PRODUCED, THEN IN PLACE

-- where statements end so many `If`s have to wait
abbrev pub enough : Joint → ℕ → Type 0
enough joint.Else w = nat_lt 0 w ≡ true
enough joint.End w = Unit {0}
enough j w = ⊥

or_true : (a b : Bool) → b ≡ true → (a || b) ≡ true
or_true true b h = refl
or_true false b h = h

both : (a b : Bool) → a ≡ true → b ≡ true → (a && b) ≡ true
both true b h i = i
both false b h i = h

last_fits : (from j : Joint) (w : ℕ) (x : Item) → is_simple x ≡ true → enough j w → fits from w j x ≡ true
last_fits from joint.End w x h e = or_true (is_end from) (is_simple x) h
last_fits from joint.Else w x h e = both (is_simple x) (nat_lt 0 w) h e
last_fits from joint.Then w x h e = absurd e
last_fits from joint.Colon w x h e = absurd e

statements_in_place : (j : Joint) (rows : List Row) → AreStatements j rows → (from : Joint) (w : ℕ) (rest : List Row) → enough j w
    → are_in_place j (waiting_behind w j) rest ≡ true → are_in_place from w (rows ++ rest) ≡ true
statements_in_place j rows (last number x h) from w rest e i = both (fits from w j x) (are_in_place j (waiting_behind w j) rest) (last_fits from j w x h e) i
statements_in_place j rows (further {rows = more} number x h s) from w rest e i = both (is_simple x) (are_in_place joint.Colon w (more ++ rest)) h (statements_in_place j more s joint.Colon w rest e i)
statements_in_place j rows (line_if {rows = more} number x h s) from w rest e i = both (is_if x) (are_in_place joint.Then (w + 1) (more ++ rest)) h (statements_in_place joint.End more s joint.Then (w + 1) rest tt i)
statements_in_place j rows (line_if_else {rows = more} {others = others} number x h s t) from w rest e i =
    both (is_if x) (are_in_place joint.Then (w + 1) ((more ++ others) ++ rest)) h
    (subst (λ rs. are_in_place joint.Then (w + 1) rs ≡ true) (sym (append_assoc more others rest))
    (statements_in_place joint.Else more s joint.Then (w + 1) (others ++ rest) (grind arith)
    (subst (λ n. are_in_place joint.Else n (others ++ rest) ≡ true) (omega arith) (statements_in_place j others t joint.Else w rest e i))))

part_in_place : (rows : List Row) → IsPart rows → (rest : List Row) → are_in_place joint.End 0 rest ≡ true → are_in_place joint.End 0 (rows ++ rest) ≡ true
part_in_place rows (item number x) rest i = i
part_in_place rows (part_if number x h s) rest i = statements_in_place joint.End rows (line_if number x h s) joint.End 0 rest tt i
part_in_place rows (part_if_else number x h s t) rest i = statements_in_place joint.End rows (line_if_else number x h s t) joint.End 0 rest tt i

pub line_in_place : (rows : List Row) → IsLine rows → are_in_place joint.End 0 rows ≡ true
line_in_place rows nothing = refl
line_in_place rows (part {rows = here} {others = others} p l) = part_in_place here p others (line_in_place others l)

-- IN PLACE, THEN PRODUCED

-- colons stand only inside an `If` on one line, and the rows end with one that ends
abbrev pub AreClosed : Bool → List Row → Type 0
AreClosed inside [] = inside ≡ false
AreClosed inside (r ∷ rs) = (r.behind ≡ joint.Colon → inside ≡ true) × AreClosed (not (is_end r.behind)) rs

-- so many statements that end at an `Else`, and then those that end
abbrev pub Chain : ℕ → List Row → List Row → Type 0
Chain zero rows rest = (here : List Row) × (rows ≡ here ++ rest) × AreStatements joint.End here
Chain (suc k) rows rest = (here middle : List Row) × (rows ≡ here ++ middle) × AreStatements joint.Else here × Chain k middle rest

pub record Parsed (w : ℕ) (rows : List Row) : Type 0 where
  pub count : ℕ
  pub few : count ≤ w
  pub rest : List Row
  pub chain : Chain count rows rest
  pub placed : are_in_place joint.End 0 rest ≡ true
  pub closed : AreClosed false rest
  pub shorter : length rest ≤ length rows

left : (a b : Bool) → (a && b) ≡ true → a ≡ true
left true b h = refl
left false b h = cc

right : (a b : Bool) → (a && b) ≡ true → b ≡ true
right true b h = h
right false b h = cc

other : (a b : Bool) → a ≡ false → (a || b) ≡ true → b ≡ true
other false b e h = h
other true b e h = cc

add_front : (r : Row) (rows here rest : List Row) → rows ≡ here ++ rest → r ∷ rows ≡ (r ∷ here) ++ rest
add_front r rows here rest e = ap (λ xs. r ∷ xs) e

add_two : (r : Row) (rows here middle there rest : List Row) → rows ≡ here ++ middle → middle ≡ there ++ rest → r ∷ rows ≡ (r ∷ (here ++ there)) ++ rest
add_two r rows here middle there rest e f = ap (λ xs. r ∷ xs) (e ∙ ap (λ xs. here ++ xs) f ∙ sym (append_assoc here there rest))

chain_further : (k number : ℕ) (x : Item) (rows rest : List Row) → is_simple x ≡ true → Chain k rows rest → Chain k (row number x joint.Colon ∷ rows) rest
chain_further zero number x rows rest h c = (row number x joint.Colon ∷ c.0, add_front (row number x joint.Colon) rows c.0 rest c.1, further number x h c.2)
chain_further (suc k) number x rows rest h c = (row number x joint.Colon ∷ c.0, c.1, add_front (row number x joint.Colon) rows c.0 c.1 c.2, further number x h c.3, c.4)

chain_if_else : (k number : ℕ) (x : Item) (rows rest : List Row) → is_if x ≡ true → Chain (suc k) rows rest → Chain k (row number x joint.Then ∷ rows) rest
chain_if_else zero number x rows rest h c =
    let d = c.4 in
    (row number x joint.Then ∷ (c.0 ++ d.0), add_two (row number x joint.Then) rows c.0 c.1 d.0 rest c.2 d.1, line_if_else number x h c.3 d.2)
chain_if_else (suc k) number x rows rest h c =
    let d = c.4 in
    (row number x joint.Then ∷ (c.0 ++ d.0), d.1, add_two (row number x joint.Then) rows c.0 c.1 d.0 d.1 c.2 d.2, line_if_else number x h c.3 d.3, d.4)

chain_if : (k number : ℕ) (x : Item) (rows rest : List Row) → is_if x ≡ true → Chain k rows rest → (w : ℕ) → k ≤ w + 1
    → (n : ℕ) × (n ≤ w) × Chain n (row number x joint.Then ∷ rows) rest
chain_if zero number x rows rest h c w few = (0, omega arith, (row number x joint.Then ∷ c.0, add_front (row number x joint.Then) rows c.0 rest c.1, line_if number x h c.2))
chain_if (suc k) number x rows rest h c w few = (k, omega (arith, few), chain_if_else k number x rows rest h c)

abbrev pub AreParsed : List Row → Type 0
AreParsed rs = (from : Joint) (w : ℕ) → is_end from ≡ false → are_in_place from w rs ≡ true → AreClosed true rs → Parsed w rs

positive : (w : ℕ) → nat_lt 0 w ≡ true → 0 < w
positive zero h = cc
positive (suc w) h = omega arith

parse_row : (from : Joint) (w number : ℕ) (o : Option Item) (j : Joint) (rs : List Row) → AreParsed rs → is_end from ≡ false
    → are_in_place from w (record { line = number; item = o; behind = j } ∷ rs) ≡ true → AreClosed true (record { line = number; item = o; behind = j } ∷ rs)
    → Parsed w (record { line = number; item = o; behind = j } ∷ rs)
parse_row from w number None j rs again e h f = cc
parse_row from w number (Some x) joint.End rs again e h f =
    let simple : is_simple x ≡ true = other (is_end from) (is_simple x) e (left (is_end from || is_simple x) (are_in_place joint.End 0 rs) h) in
    record { count = 0; few = omega arith; rest = rs; chain = (row number x joint.End ∷ [], refl, last number x simple); placed = right (is_end from || is_simple x) (are_in_place joint.End 0 rs) h; closed = f.1; shorter = omega arith }
parse_row from w number (Some x) joint.Colon rs again e h f =
    let p = again joint.Colon w refl (right (is_simple x) (are_in_place joint.Colon w rs) h) f.1 in
    let simple = left (is_simple x) (are_in_place joint.Colon w rs) h in
    record { count = p.count; few = p.few; rest = p.rest; chain = chain_further p.count number x rs p.rest simple p.chain; placed = p.placed; closed = p.closed; shorter = omega (arith, p.shorter) }
parse_row from w number (Some x) joint.Else rs again e h f =
    let fit = left (is_simple x && nat_lt 0 w) (are_in_place joint.Else (w - 1) rs) h in
    let p = again joint.Else (w - 1) refl (right (is_simple x && nat_lt 0 w) (are_in_place joint.Else (w - 1) rs) h) f.1 in
    let some = positive w (right (is_simple x) (nat_lt 0 w) fit) in
    record { count = suc p.count; few = omega (arith, p.few, some); rest = p.rest; chain = (row number x joint.Else ∷ [], rs, refl, last number x (left (is_simple x) (nat_lt 0 w) fit), p.chain); placed = p.placed; closed = p.closed; shorter = omega (arith, p.shorter) }
parse_row from w number (Some x) joint.Then rs again e h f =
    let p = again joint.Then (w + 1) refl (right (is_if x) (are_in_place joint.Then (w + 1) rs) h) f.1 in
    let c = chain_if p.count number x rs p.rest (left (is_if x) (are_in_place joint.Then (w + 1) rs) h) p.chain w p.few in
    record { count = c.0; few = c.1; rest = p.rest; chain = c.2; placed = p.placed; closed = p.closed; shorter = omega (arith, p.shorter) }

parse_rows : (rs : List Row) → AreParsed rs
parse_rows [] from w e h f = cc
parse_rows (r ∷ rs) from w e h f = parse_row from w r.line r.item r.behind rs (parse_rows rs) e h f

part_of_if : (k number : ℕ) (x : Item) (rows rest : List Row) → is_if x ≡ true → Chain k rows rest → k ≤ 1 → IsLine rest → IsLine (row number x joint.Then ∷ rows)
part_of_if zero number x rows rest h c few l = subst (λ rs. IsLine rs) (sym (add_front (row number x joint.Then) rows c.0 rest c.1)) (part (part_if number x h c.2) l)
part_of_if (suc zero) number x rows rest h c few l =
    let d = c.4 in subst (λ rs. IsLine rs) (sym (add_two (row number x joint.Then) rows c.0 c.1 d.0 rest c.2 d.1)) (part (part_if_else number x h c.3 d.2) l)
part_of_if (suc (suc k)) number x rows rest h c few l = absurd (omega (arith, few))

abbrev pub AreLinesTo : ℕ → Type 0
AreLinesTo n = (rows : List Row) → length rows ≤ n → are_in_place joint.End 0 rows ≡ true → AreClosed false rows → IsLine rows

first_part : (n number : ℕ) (o : Option Item) (j : Joint) (rs : List Row) → AreLinesTo n → length rs ≤ n
    → are_in_place joint.End 0 (record { line = number; item = o; behind = j } ∷ rs) ≡ true → AreClosed false (record { line = number; item = o; behind = j } ∷ rs)
    → IsLine (record { line = number; item = o; behind = j } ∷ rs)
first_part n number None j rs again short h f = cc
first_part n number (Some x) joint.End rs again short h f = part (item number x) (again rs short h f.1)
first_part n number (Some x) joint.Colon rs again short h f = let e : false ≡ true = f.0 refl in cc
first_part n number (Some x) joint.Else rs again short h f =
    let e : false ≡ true = right (is_simple x) false (left (is_simple x && false) (are_in_place joint.Else 0 rs) h) in cc
first_part n number (Some x) joint.Then rs again short h f =
    let p = parse_rows rs joint.Then 1 refl (right (is_if x) (are_in_place joint.Then 1 rs) h) f.1 in
    part_of_if p.count number x rs p.rest (left (is_if x) (are_in_place joint.Then 1 rs) h) p.chain p.few (again p.rest (omega (arith, p.shorter, short)) p.placed p.closed)

lines_to : (n : ℕ) → AreLinesTo n
lines_to n [] short h f = nothing
lines_to zero (r ∷ rs) short h f = absurd (omega (arith, short))
lines_to (suc n) (r ∷ rs) short h f = first_part n r.line r.item r.behind rs (lines_to n) (omega (arith, short)) h f

-- THE ROWS OF A LINE ARE CLOSED

abbrev pub Closes : Joint → List Piece → Type 0
Closes j [] = parts_statements j ≡ true
Closes j (p ∷ ps) = Closes p.behind ps

abbrev pub ClosesRows : Joint → List Row → Type 0
ClosesRows j [] = parts_statements j ≡ true
ClosesRows j (r ∷ rs) = ClosesRows r.behind rs

tested : (P : List Piece → Type 0) (b : Bool) (xs ys : List Piece) → P xs → P ys → P (if b then xs else ys)
tested P true xs ys h i = h
tested P false xs ys h i = i

push_closes : (j : Joint) (t : Token) (ps : List Piece) → Closes j ps → Closes j (push t ps)
push_closes j t [] h = h
push_closes j t (p ∷ ps) h = h

cut_closes : (j : Joint) (b : Before) (ts : List Token) → Closes j (cut b ts)
cut_closes j b [] = refl
cut_closes j b (t ∷ ts) =
    tested (Closes j) (is_colon t) (piece [] joint.Colon ∷ cut before.Front ts)
    (if parts_at_else b t then piece [] joint.Else ∷ cut before.Other ts else if parts_at_then t ts then piece (t ∷ []) joint.Then ∷ cut before.Other ts else push t (cut (before_next t) ts))
    (cut_closes joint.Colon before.Front ts)
    (tested (Closes j) (parts_at_else b t) (piece [] joint.Else ∷ cut before.Other ts) (if parts_at_then t ts then piece (t ∷ []) joint.Then ∷ cut before.Other ts else push t (cut (before_next t) ts))
    (cut_closes joint.Else before.Other ts)
    (tested (Closes j) (parts_at_then t ts) (piece (t ∷ []) joint.Then ∷ cut before.Other ts) (push t (cut (before_next t) ts))
    (cut_closes joint.Then before.Other ts)
    (push_closes j t (cut (before_next t) ts) (cut_closes j (before_next t) ts))))

closes_elsewhere : (i j : Joint) (ps : List Piece) → parts_statements i ≡ true → Closes j ps → Closes i ps
closes_elsewhere i j [] e h = e
closes_elsewhere i j (p ∷ ps) e h = h

kept_test : (from : Joint) (p : Piece) (ps : List Piece) (b : Bool) → is_left_out from p ≡ b → Closes p.behind ps → Closes from (if b then ps else p ∷ ps)
kept_test from p ps true e h =
    closes_elsewhere from p.behind ps (left (parts_statements from) (parts_statements p.behind) (right (is_empty p.tokens) (parts_statements from && parts_statements p.behind) e)) h
kept_test from p ps false e h = h

kept_closes : (from : Joint) (ps : List Piece) → Closes from ps → Closes from (kept from ps)
kept_closes from [] h = h
kept_closes from (p ∷ ps) h = kept_test from p (kept p.behind ps) (is_left_out from p) refl (kept_closes p.behind ps h)

rows_close : (words : ContextualWords) (number : ℕ) (items : List (Option Item)) (i j : Joint) (ps : List Piece) (rs : List Row) → i ≡ j → ArePieceRows words number items ps rs → Closes i ps → ClosesRows j rs
rows_close words number items i j [] [] e are h = subst (λ k. parts_statements k ≡ true) e h
rows_close words number items i j [] (r ∷ rs) e are h = absurd are
rows_close words number items i j (p ∷ ps) [] e are h = absurd are
rows_close words number items i j (p ∷ ps) (r ∷ rs) e are h = rows_close words number (r.item ∷ items) p.behind r.behind ps rs (sym are.1) are.3 h

colon_inside : (inside : Bool) (j : Joint) (rs : List Row) → joint_of inside j rs ≡ joint.Colon → inside ≡ true
colon_inside true j rs e = refl
colon_inside false joint.End rs e = cc
colon_inside false joint.Colon rs e = cc
colon_inside false joint.Then rs e = cc
colon_inside false joint.Else rs e = cc

joined_closed : (i : Bool) (j : Joint) (rs : List Row) → ClosesRows j rs → AreClosed (not (is_end (joint_of i j rs))) (joined (not (is_end (joint_of i j rs))) rs)
joined_closed i joint.End [] h = refl
joined_closed true joint.Colon [] h = refl
joined_closed false joint.Colon [] h = refl
joined_closed i joint.Then [] h = cc
joined_closed i joint.Else [] h = cc
joined_closed i j (r ∷ rs) h =
    let inside = not (is_end (joint_of i j (r ∷ rs))) in
    (λ e. colon_inside inside r.behind rs e, joined_closed inside r.behind rs h)

label_closed : (number : ℕ) (o : Option Name) (rs : List Row) → AreClosed false rs → AreClosed false (label_rows number o ++ rs)
label_closed number None rs h = h
label_closed number (Some n) rs h = (λ e. cc, h)

line_closed : (words : ContextualWords) (items : List (Option Item)) (l : Line) (rows : List Row) → AreLineRows words items l rows → AreClosed false rows
line_closed words items l rows are =
    let us = behind_label l.tokens in
    let ends = rows_close words l.number (items_behind items (label_rows l.number (label_of l.tokens))) joint.End joint.End (pieces_of l.tokens) are.parts refl are.are (kept_closes joint.End (cut before.Front us) (cut_closes joint.End before.Front us)) in
    subst (λ rs. AreClosed false rs) (sym are.joined_are) (label_closed l.number (label_of l.tokens) (joined false are.parts) (joined_closed false joint.End are.parts ends))

pub line_produced : (words : ContextualWords) (items : List (Option Item)) (l : Line) (rows : List Row) → AreLineRows words items l rows
    → ((are_in_place joint.End 0 rows ≡ true) → IsLine rows) × (IsLine rows → (are_in_place joint.End 0 rows ≡ true))
line_produced words items l rows are = (λ h. lines_to (length rows) rows (omega arith) h (line_closed words items l rows are), line_in_place rows)
