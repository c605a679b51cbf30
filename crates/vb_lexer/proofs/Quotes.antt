-- The contents of literals.
use Rattle.std.proofs.Common.{◌≡◌, ℕ, zero, suc, ◌+◌, ◌<◌, ◌≤◌, Bool, true, false, ◌==◌, nat_lt, List, [], ◌∷◌, ◌++◌, length, get_or, take, drop, drop-cons, add-one, append_assoc, length-append, codes, cond, Option, None, Some, refl, ap, sym, ◌∙◌, arith, if◌then◌else◌}
use Rattle.std.specs.Prelude.{Result, Ok, Err, is_ok, OnOk}
use Rattle.std.specs.Char.Escape.{encode_utf16}
use Rattle.std.proofs.lemmas.Bool.{eqb-true, ltb-true, ltb-false}
use Rattle.std.proofs.lemmas.List.{drop-drop, drop_all}
use Rattle.vb_lexer.specs.{Characters.{Character, is_char, is_line_end, is_line_end_code}, Tokens.{char_at, plus_some, content_len, units_of, starts, char_literal, text_literal, quoted_of, quoted_or_fault, quoted_at}}

-- THE TEXT AT A PLACE

char_is : (cs : List Character) (i : ℕ) → char_at cs i ≡ get_or cs i None
char_is [] i = refl
char_is (None ∷ cs) zero = refl
char_is (Some c ∷ cs) zero = refl
char_is (c ∷ cs) (suc i) = char_is cs i

char_front : (cs : List Character) (i : ℕ) → i < length cs → drop i cs ≡ char_at cs i ∷ drop (suc i) cs
char_front cs i below = drop-cons cs i None below ∙ ap (λ c. c ∷ drop (suc i) cs) (sym (char_is cs i))

char_drop : (cs : List Character) (i : ℕ) → char_at (drop i cs) 0 ≡ char_at cs i
char_drop [] zero = refl
char_drop [] (suc i) = refl
char_drop (c ∷ cs) zero = refl
char_drop (c ∷ cs) (suc i) = char_drop cs i

pub char_within : (cs : List Character) (i : ℕ) → is_char (char_at cs i) 34 ≡ true → i < length cs
char_within [] i is = cc
char_within (c ∷ cs) zero is = omega arith
char_within (c ∷ cs) (suc i) is = omega (arith, char_within cs i is)

-- UNITS

nil_behind : (l : List ℕ) → l ≡ l ++ []
nil_behind [] = refl
nil_behind (m ∷ l) = ap (λ k. m ∷ k) (nil_behind l)

last_unit : (c : ℕ) (quote : Bool) → encode_utf16 c ≡ encode_utf16 c ++ units_of (drop (if quote then 2 else 1) (Some c ∷ []))
unfolding units_of
last_unit c true = nil_behind (encode_utf16 c)
last_unit c false = nil_behind (encode_utf16 c)

next_units : (c : ℕ) (d : Character) (cs : List Character) (quote : Bool) → (c == 34) ≡ quote → (if quote then 34 ∷ units_of cs else encode_utf16 c ++ units_of (d ∷ cs)) ≡ encode_utf16 c ++ units_of (drop (if quote then 2 else 1) (Some c ∷ d ∷ cs))
next_units c d cs true is = rw (eqb-true c 34 is) refl
next_units c d cs false is = refl

units_front : (c : Character) (cs : List Character) → units_of (c ∷ cs) ≡ units_of (c ∷ []) ++ units_of (drop (if is_char c 34 then 2 else 1) (c ∷ cs))
unfolding units_of
units_front None cs = refl
units_front (Some c) [] = last_unit c (c == 34)
units_front (Some c) (d ∷ cs) = next_units c d cs (c == 34) refl

pub units_step : (cs : List Character) (i : ℕ) → i < length cs → units_of (drop i cs) ≡ units_of (char_at cs i ∷ []) ++ units_of (drop (i + (if is_char (char_at cs i) 34 then 2 else 1)) cs)
units_step cs i below =
    ap units_of (char_front cs i below) ∙ units_front (char_at cs i) (drop (suc i) cs)
    ∙ ap (λ l. units_of (char_at cs i ∷ []) ++ units_of (drop (if is_char (char_at cs i) 34 then 2 else 1) l)) (sym (char_front cs i below))
    ∙ ap (λ l. units_of (char_at cs i ∷ []) ++ units_of l) (drop-drop (if is_char (char_at cs i) 34 then 2 else 1) i cs)

-- the units of what is left of a content, without those of its first character
pub units_rest : (cs : List Character) (i k : ℕ) (c : Character) (quote : Bool) → i < length cs → c ≡ char_at cs i → quote ≡ is_char (char_at cs i) 34 → k ≡ (if quote then 2 else 1) → units_of (drop i cs) ≡ units_of (c ∷ []) ++ units_of (drop (i + k) cs)
units_rest cs i k c quote below at is step =
    let same : (if is_char (char_at cs i) 34 then 2 else 1) ≡ k = ap (λ q. if q then 2 else 1) (sym is) ∙ sym step in
    units_step cs i below
    ∙ ap (λ d. units_of (d ∷ []) ++ units_of (drop (i + (if is_char (char_at cs i) 34 then 2 else 1)) cs)) (sym at)
    ∙ ap (λ j. units_of (c ∷ []) ++ units_of (drop (i + j) cs)) same

pub units_on : (cs : List Character) (i k : ℕ) (c : Character) (quote : Bool) (old new : List ℕ) → i < length cs → c ≡ char_at cs i → quote ≡ is_char (char_at cs i) 34 → k ≡ (if quote then 2 else 1) → new ≡ old ++ units_of (c ∷ []) → old ++ units_of (drop i cs) ≡ units_of cs → new ++ units_of (drop (i + k) cs) ≡ units_of cs
units_on cs i k c quote old new below at is step more so_far =
    ap (λ l. l ++ units_of (drop (i + k) cs)) more
    ∙ append_assoc old (units_of (c ∷ [])) (units_of (drop (i + k) cs))
    ∙ ap (λ l. old ++ l) (sym (units_rest cs i k c quote below at is step)) ∙ so_far

pub units_end : (cs : List Character) (i : ℕ) → length cs ≤ i → units_of (drop i cs) ≡ []
unfolding units_of
units_end cs i past = ap units_of (drop_all i cs past)

pub units_all : (cs : List Character) (i : ℕ) (units : List ℕ) → length cs ≤ i → units ++ units_of (drop i cs) ≡ units_of cs → units ≡ units_of cs
units_all cs i units past so_far = nil_behind units ∙ ap (λ l. units ++ l) (sym (units_end cs i past)) ∙ so_far

pub lens_on : (cs : List Character) (i k : ℕ) (c : Character) (quote : Bool) (count n total : ℕ) → i < length cs → c ≡ char_at cs i → quote ≡ is_char (char_at cs i) 34 → k ≡ (if quote then 2 else 1) → n ≡ length (units_of (c ∷ [])) → count + length (units_of (drop i cs)) ≡ total → count + n + length (units_of (drop (i + k) cs)) ≡ total
lens_on cs i k c quote count n total below at is step len so_far =
    let rest = ap length (units_rest cs i k c quote below at is step) ∙ length-append (units_of (c ∷ [])) (units_of (drop (i + k) cs)) in
    omega arith

pub lens_all : (cs : List Character) (i count total : ℕ) → length cs ≤ i → count + length (units_of (drop i cs)) ≡ total → count ≡ total
lens_all cs i count total past so_far = let none = ap length (units_end cs i past) in omega arith

pub step_size : (quote : Bool) (k : ℕ) → k ≡ (if quote then 2 else 1) → (1 ≤ k) × (k ≤ 2)
step_size true k e = (omega arith, omega arith)
step_size false k e = (omega arith, omega arith)

pub one_character : (c : ℕ) → units_of (Some c ∷ []) ≡ encode_utf16 c
unfolding units_of
one_character c = refl

pub no_character : units_of (None ∷ []) ≡ []
unfolding units_of
no_character = refl

pub pushed : {T E : Type 0} (r : Result T E) (old new units more : List ℕ) → new ≡ (if is_ok r then old ++ units else old) → units ≡ more → OnOk r (new ≡ old ++ more)
pushed (Ok t) old new units more is same = is ∙ ap (λ l. old ++ l) same
pushed (Err e) old new units more is same = tt

pub none_pushed : (old : List ℕ) → old ≡ old ++ []
none_pushed old = nil_behind old

one_or_two : (t : Bool) (x y z : ℕ) (n : ℕ) → (t ≡ true → n ≡ 1) → (t ≡ false → n ≡ 2) → n ≡ length (cond t (x ∷ []) (y ∷ z ∷ []))
one_or_two true x y z n one two = one refl
one_or_two false x y z n one two = two refl

pub len_is : (c n : ℕ) → (c < 0x1_0000 → n ≡ 1) → (0x1_0000 ≤ c → n ≡ 2) → n ≡ length (units_of (Some c ∷ []))
len_is c n one two =
    one_or_two (nat_lt c 0x1_0000) _ _ _ n (λ t. one (ltb-true _ _ t)) (λ f. two (ltb-false _ _ f)) ∙ ap length (sym (one_character c))

first_of_either : (t : Bool) (x y z : ℕ) (rest : List ℕ) → get_or (cond t (x ∷ []) (y ∷ z ∷ []) ++ rest) 0 0 ≡ get_or (cond t (x ∷ []) (y ∷ z ∷ [])) 0 0
first_of_either true x y z rest = refl
first_of_either false x y z rest = refl

pub first_is : (cs : List Character) (i c : ℕ) → i < length cs → get_or cs i None ≡ Some c → get_or (units_of (drop i cs)) 0 0 ≡ get_or (encode_utf16 c) 0 0
first_is cs i c below at =
    let here : char_at cs i ≡ Some c = char_is cs i ∙ at in
    ap (λ l. get_or l 0 0) (units_step cs i below)
    ∙ ap (λ d. get_or (units_of (d ∷ []) ++ units_of (drop (i + (if is_char (char_at cs i) 34 then 2 else 1)) cs)) 0 0) here
    ∙ ap (λ l. get_or (l ++ units_of (drop (i + (if is_char (char_at cs i) 34 then 2 else 1)) cs)) 0 0) (one_character c)
    ∙ first_of_either (nat_lt c 0x1_0000) _ _ _ _

pub none_skipped : (cs : List Character) (i : ℕ) → i < length cs → get_or cs i None ≡ None → units_of (drop i cs) ≡ units_of (drop (i + 1) cs)
unfolding units_of
none_skipped cs i below at = rw (add-one, drop-cons cs i None, at) refl

-- CONTENTS

no_quote : (c : ℕ) (quote : Bool) → (c == 34) ≡ quote → is_line_end_code c ≡ true → quote ≡ false
no_quote c true is ends =
    let never : is_line_end_code 34 ≡ true = ap is_line_end_code (sym (eqb-true c 34 is)) ∙ ends in cc
no_quote c false is ends = refl

content_line_end : (c : Character) (cs : List Character) → is_line_end c ≡ true → content_len (c ∷ cs) ≡ None
unfolding content_len
content_line_end None cs ends = cc
content_line_end (Some c) [] ends = rw (no_quote c (c == 34) refl ends) refl
content_line_end (Some c) (d ∷ cs) ends = rw ends refl

content_closed : (c : Character) (cs : List Character) → is_line_end c ≡ false → is_char c 34 ≡ true → is_char (char_at cs 0) 34 ≡ false → content_len (c ∷ cs) ≡ Some 0
unfolding content_len
content_closed c [] inside is single = rw is refl
content_closed c (None ∷ cs) inside is single = rw (inside, is) refl
content_closed c (Some d ∷ cs) inside is single = rw (inside, is, single) refl

pub content_doubled : (c : Character) (cs : List Character) → is_line_end c ≡ false → is_char c 34 ≡ true → is_char (char_at cs 0) 34 ≡ true → content_len (c ∷ cs) ≡ plus_some 2 (content_len (drop 1 cs))
unfolding content_len
content_doubled c [] inside is double = cc
content_doubled c (None ∷ cs) inside is double = cc
content_doubled c (Some d ∷ cs) inside is double = rw (inside, is, double) refl

pub content_other : (c : Character) (cs : List Character) → is_line_end c ≡ false → is_char c 34 ≡ false → content_len (c ∷ cs) ≡ plus_some 1 (content_len cs)
unfolding content_len
content_other c [] inside other = rw other refl
content_other c (d ∷ cs) inside other = rw (inside, other) refl

-- at a place
pub content_stops : (cs : List Character) (i : ℕ) → i < length cs → is_line_end (char_at cs i) ≡ true → content_len (drop i cs) ≡ None
content_stops cs i below ends = ap content_len (char_front cs i below) ∙ content_line_end (char_at cs i) (drop (suc i) cs) ends

next_is : (cs : List Character) (i : ℕ) → is_char (char_at (drop (suc i) cs) 0) 34 ≡ is_char (char_at cs (i + 1)) 34
next_is cs i = rw add-one (ap (λ c. is_char c 34) (char_drop cs (suc i)))

pub content_ends : (cs : List Character) (i : ℕ) → i < length cs → is_line_end (char_at cs i) ≡ false → is_char (char_at cs i) 34 ≡ true → is_char (char_at cs (i + 1)) 34 ≡ false → content_len (drop i cs) ≡ Some 0
content_ends cs i below inside is single =
    ap content_len (char_front cs i below) ∙ content_closed (char_at cs i) (drop (suc i) cs) inside is (next_is cs i ∙ single)

content_steps : (cs : List Character) (i : ℕ) (quote : Bool) → i < length cs → is_line_end (char_at cs i) ≡ false → is_char (char_at cs i) 34 ≡ quote → (quote ≡ true → is_char (char_at cs (i + 1)) 34 ≡ true) → content_len (drop i cs) ≡ plus_some (if quote then 2 else 1) (content_len (drop (i + (if quote then 2 else 1)) cs))
content_steps cs i true below inside is double =
    let place : suc i + 1 ≡ i + 2 = omega arith in
    ap content_len (char_front cs i below)
    ∙ content_doubled (char_at cs i) (drop (suc i) cs) inside is (next_is cs i ∙ double refl)
    ∙ ap (λ l. plus_some 2 (content_len l)) (drop-drop 1 (suc i) cs ∙ ap (λ k. drop k cs) place)
content_steps cs i false below inside is double =
    let place : suc i ≡ i + 1 = omega arith in
    ap content_len (char_front cs i below)
    ∙ content_other (char_at cs i) (drop (suc i) cs) inside is
    ∙ ap (λ k. plus_some 1 (content_len (drop k cs))) place

plus_plus : (i k : ℕ) (o : Option ℕ) → plus_some i (plus_some k o) ≡ plus_some (i + k) o
plus_plus i k None = refl
plus_plus i k (Some m) = ap (λ n. Some n) (omega arith)

pub content_on : (cs : List Character) (i k : ℕ) (quote : Bool) → i < length cs → is_line_end (char_at cs i) ≡ false → quote ≡ is_char (char_at cs i) 34 → (quote ≡ true → is_char (char_at cs (i + 1)) 34 ≡ true) → k ≡ (if quote then 2 else 1) → content_len cs ≡ plus_some i (content_len (drop i cs)) → content_len cs ≡ plus_some (i + k) (content_len (drop (i + k) cs))
content_on cs i k quote below inside is double step so_far =
    so_far ∙ ap (λ o. plus_some i o) (content_steps cs i quote below inside (sym is) double)
    ∙ plus_plus i (if quote then 2 else 1) (content_len (drop (i + (if quote then 2 else 1)) cs))
    ∙ ap (λ j. plus_some (i + j) (content_len (drop (i + j) cs))) (sym step)

pub content_within : (cs : List Character) (i k : ℕ) (quote : Bool) → i < length cs → (quote ≡ true → is_char (char_at cs (i + 1)) 34 ≡ true) → k ≡ (if quote then 2 else 1) → i + k ≤ length cs
content_within cs i k true below double step = omega (arith, char_within cs (i + 1) (double refl))
content_within cs i k false below double step = omega arith

pub content_past : (cs : List Character) (i : ℕ) → length cs ≤ i → content_len (drop i cs) ≡ None
unfolding content_len
content_past cs i past = ap content_len (drop_all i cs past)

-- LITERALS

pub quoted_some : (text rest : List Character) (n : ℕ) → rest ≡ drop 1 text → content_len rest ≡ Some n → quoted_of n (units_of (take n rest)) text ≡ quoted_at text
quoted_some text rest n is len =
    ap (λ r. quoted_of n (units_of (take n r)) text) is
    ∙ ap (λ o. quoted_or_fault o text) (sym (ap content_len (sym is) ∙ len))

-- what stands behind the quote that ends the content
pub behind_is : (text rest behind : List Character) (n : ℕ) → rest ≡ drop 1 text → behind ≡ drop (n + 1) rest → behind ≡ drop (n + 2) text
behind_is text rest behind n is after =
    let place : 1 + (n + 1) ≡ n + 2 = omega arith in
    after ∙ ap (λ l. drop (n + 1) l) is ∙ drop-drop (n + 1) 1 text ∙ ap (λ k. drop k text) place

-- the literal of a content is the one that stands there
pub char_stands : (text rest content behind : List Character) (n : ℕ) → rest ≡ drop 1 text → content_len rest ≡ Some n → content ≡ take n rest → length content ≡ n → behind ≡ drop (n + 1) rest → starts (codes "c") behind ≡ true → char_literal (length content) (units_of content) text ≡ quoted_at text
char_stands text rest content behind n is len within long after marked =
    let marked : starts (codes "c") (drop (n + 2) text) ≡ true = ap (λ l. starts (codes "c") l) (sym (behind_is text rest behind n is after)) ∙ marked in
    let chosen : char_literal n (units_of (take n rest)) text ≡ quoted_of n (units_of (take n rest)) text = rw marked refl in
    ap (λ k. char_literal k (units_of content) text) long ∙ ap (λ l. char_literal n (units_of l) text) within ∙ chosen ∙ quoted_some text rest n is len

pub text_stands : (text rest content behind : List Character) (n : ℕ) → rest ≡ drop 1 text → content_len rest ≡ Some n → content ≡ take n rest → length content ≡ n → behind ≡ drop (n + 1) rest → starts (codes "c") behind ≡ false → text_literal (length content) (units_of content) text ≡ quoted_at text
text_stands text rest content behind n is len within long after unmarked =
    let unmarked : starts (codes "c") (drop (n + 2) text) ≡ false = ap (λ l. starts (codes "c") l) (sym (behind_is text rest behind n is after)) ∙ unmarked in
    let chosen : text_literal n (units_of (take n rest)) text ≡ quoted_of n (units_of (take n rest)) text = rw unmarked refl in
    ap (λ k. text_literal k (units_of content) text) long ∙ ap (λ l. text_literal n (units_of l) text) within ∙ chosen ∙ quoted_some text rest n is len
