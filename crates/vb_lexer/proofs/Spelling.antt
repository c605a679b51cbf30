-- What the characters of a token say of the text that they begin.
use Rattle.std.proofs.Common.{◌≡◌, ℕ, zero, suc, ◌+◌, ◌≤◌, Bool, true, false, ◌&&◌, ◌||◌, ◌==◌, nat_lt, nat_le, List, [], ◌∷◌, ◌++◌, length, take, drop, Option, None, Some, refl, sym, ap, ap₂, ◌∙◌, subst, ⊎_elim, inl, inr, arith, if◌then◌else◌}
use Rattle.std.proofs.Math.Seq.{drop-append_seam}
use Rattle.std.proofs.lemmas.Bool.{and_parts, eqb-true, eq-eqb, leb-true, both_ways}
use Rattle.std.proofs.lemmas.Grind.{common_steps}
use Rattle.std.specs.List.{list_all}
use Rattle.std.specs.Char.{to_ascii_lowercase}
use Rattle.vb_syntax.specs.declared.tokens.IntegerType.{IntegerType}
use Rattle.vb_lexer.specs.{declared.piece.Base.{Base, TheVariants.{Decimal, Hexadecimal, Octal}}, Characters.{Character, is_char, is_line_end, run_len}, Tokens.{lowered, is_digit, is_digit_code, starts, suffixes, suffix_in, suffix_len, suffix_type, content_len, plus_some}, Longest.{AreWord, IsAmong, IsSuffix, AreBetweenQuotes}}
use Rattle.vb_lexer.proofs.Quotes.{content_other, content_doubled}

-- RUNS

-- characters that pass are no more than the run that they begin
pub run_covers : (p : Character → Bool) (cs rest : List Character) → list_all p cs ≡ true → length cs ≤ run_len p (cs ++ rest)
unfolding run_len
run_covers p [] rest h = omega arith
run_covers p (c ∷ cs) rest h =
    let both = and_parts (p c) (list_all p cs) h in rw both.0 (omega (arith, run_covers p cs rest both.1))

-- a run ends before a character that doesn't pass
pub run_ends : (p : Character → Bool) (cs : List Character) (c : Character) (rest : List Character) → list_all p cs ≡ true → p c ≡ false → run_len p (cs ++ (c ∷ rest)) ≡ length cs
unfolding run_len
run_ends p [] c rest h differs = rw differs refl
run_ends p (d ∷ cs) c rest h differs =
    let both = and_parts (p d) (list_all p cs) h in rw both.0 (ap (λ n. suc n) (run_ends p cs c rest both.1 differs))

run_by : (b : Bool) (p : Character → Bool) (c : Character) (cs : List Character) (n : ℕ) → p c ≡ b → list_all p (take n cs) ≡ true → list_all p (take (if b then suc n else 0) (c ∷ cs)) ≡ true
run_by true p c cs n e h = rw e h
run_by false p c cs n e h = refl

pub run_passes : (p : Character → Bool) (text : List Character) → list_all p (take (run_len p text) text) ≡ true
unfolding run_len
run_passes p [] = refl
run_passes p (c ∷ cs) = run_by (p c) p c cs (run_len p cs) refl (run_passes p cs)

-- WORDS

-- a word that stands at the front is spelled by as many characters
pub word_at_front : (w : List ℕ) (text : List Character) → starts w text ≡ true → AreWord w (take (length w) text)
word_at_front [] text h = (refl, refl)
word_at_front (x ∷ xs) [] h = cc
word_at_front (x ∷ xs) (None ∷ cs) h = cc
word_at_front (x ∷ xs) (Some c ∷ cs) h =
    let both = and_parts (to_ascii_lowercase c == x) (starts xs cs) h in
    let rest = word_at_front xs cs both.1 in
    (rest.0, ap₂ (λ k ks. k ∷ ks) (eqb-true (to_ascii_lowercase c) x both.0) rest.1)

pub word_starts : (w : List ℕ) (cs rest : List Character) → AreWord w cs → starts w (cs ++ rest) ≡ true
word_starts [] cs rest h = refl
word_starts (x ∷ xs) [] rest h = cc
word_starts (x ∷ xs) (None ∷ cs) rest h = cc
word_starts (x ∷ xs) (Some c ∷ cs) rest h =
    let first : to_ascii_lowercase c ≡ x = cc in
    let others : lowered cs ≡ xs = cc in
    rw (eq-eqb (to_ascii_lowercase c) x first) (word_starts xs cs rest (h.0, others))

pub word_len : (w : List ℕ) (cs : List Character) → AreWord w cs → length cs ≡ length w
word_len [] [] h = refl
word_len [] (None ∷ cs) h = cc
word_len [] (Some c ∷ cs) h = cc
word_len (x ∷ xs) [] h = cc
word_len (x ∷ xs) (None ∷ cs) h = cc
word_len (x ∷ xs) (Some c ∷ cs) h =
    let others : lowered cs ≡ xs = cc in ap (λ n. suc n) (word_len xs cs (h.0, others))

-- the first character of a word
pub record Begins (x : ℕ) (cs : List Character) : Type 0 where
  pub code : ℕ
  pub others : List Character
  pub stands : cs ≡ Some code ∷ others
  pub lower : to_ascii_lowercase code ≡ x

pub word_first : (x : ℕ) (xs : List ℕ) (cs : List Character) → AreWord (x ∷ xs) cs → Begins x cs
word_first x xs [] h = absurd (cc)
word_first x xs (None ∷ cs) h = absurd (cc)
word_first x xs (Some c ∷ cs) h = record { code = c; others = cs; stands = refl; lower = cc }

-- a character whose lower case is no letter is that itself
pub no_letter_is : (c x : ℕ) → to_ascii_lowercase c ≡ x → (nat_lt x 97 || nat_lt 122 x) ≡ true → c ≡ x
no_letter_is c x e h = grind (arith, common_steps)

-- SUFFIXES

no_digit_code : (base : Base) (c x : ℕ) → to_ascii_lowercase c ≡ x → (nat_lt x 48 || nat_lt 102 x) ≡ true → is_digit_code base c ≡ false
no_digit_code Decimal c x e h = grind (arith, common_steps)
no_digit_code Hexadecimal c x e h = grind (arith, common_steps)
no_digit_code Octal c x e h = grind (arith, common_steps)

abbrev begins_apart : List ℕ → Bool
begins_apart [] = false
begins_apart (x ∷ xs) = nat_lt x 48 || nat_lt 102 x

abbrev apart_from_digits : List (List ℕ × IntegerType) → Bool
apart_from_digits [] = true
apart_from_digits (s ∷ ss) = begins_apart s.0 && apart_from_digits ss

-- the first character is no digit
record IsApart (base : Base) (cs : List Character) : Type 0 where
  first : Character
  others : List Character
  stands : cs ≡ first ∷ others
  apart : is_digit base first ≡ false

word_apart : (w : List ℕ) (base : Base) (cs : List Character) → begins_apart w ≡ true → AreWord w cs → IsApart base cs
word_apart [] base cs e h = absurd (cc)
word_apart (x ∷ xs) base cs e h =
    let f = word_first x xs cs h in
    record { first = Some f.code; others = f.others; stands = f.stands; apart = no_digit_code base f.code x f.lower e }

suffix_apart : (ss : List (List ℕ × IntegerType)) (t : IntegerType) (base : Base) (cs : List Character) → apart_from_digits ss ≡ true → IsAmong ss t cs → IsApart base cs
suffix_apart [] t base cs e h = absurd h
suffix_apart (s ∷ ss) t base cs e h =
    let both = and_parts (begins_apart s.0) (apart_from_digits ss) e in
    ⊎_elim (λ w. word_apart s.0 base cs both.0 w.0) (λ k. suffix_apart ss t base cs both.1 k) h

abbrev none_longer : ℕ → List (List ℕ × IntegerType) → Bool
none_longer n [] = true
none_longer n (s ∷ ss) = nat_le (length s.0) n && none_longer n ss

abbrev longer_first : List (List ℕ × IntegerType) → Bool
longer_first [] = true
longer_first (s ∷ ss) = none_longer (length s.0) ss && longer_first ss

no_longer : (n : ℕ) (ss : List (List ℕ × IntegerType)) (t : IntegerType) (cs : List Character) → none_longer n ss ≡ true → IsAmong ss t cs → length cs ≤ n
no_longer n [] t cs e h = absurd h
no_longer n (s ∷ ss) t cs e h =
    let both = and_parts (nat_le (length s.0) n) (none_longer n ss) e in
    ⊎_elim (λ w. omega (arith, word_len s.0 cs w.0, leb-true (length s.0) n both.0)) (λ k. no_longer n ss t cs both.1 k) h

suffix_by : (b : Bool) (s : List ℕ × IntegerType) (ss : List (List ℕ × IntegerType)) (t : IntegerType) (cs rest : List Character) → starts s.0 (cs ++ rest) ≡ b → longer_first (s ∷ ss) ≡ true → IsAmong (s ∷ ss) t cs → (longer_first ss ≡ true → IsAmong ss t cs → length cs ≤ suffix_len (suffix_in ss (cs ++ rest))) → length cs ≤ suffix_len (if b then Some s else suffix_in ss (cs ++ rest))
suffix_by true s ss t cs rest is l h f =
    let both = and_parts (none_longer (length s.0) ss) (longer_first ss) l in
    ⊎_elim (λ w. omega (arith, word_len s.0 cs w.0)) (λ k. no_longer (length s.0) ss t cs both.0 k) h
suffix_by false s ss t cs rest is l h f =
    let both = and_parts (none_longer (length s.0) ss) (longer_first ss) l in
    ⊎_elim (λ w. absurd (both_ways (starts s.0 (cs ++ rest)) is (word_starts s.0 cs rest w.0))) (λ k. f both.1 k) h

suffix_covers : (ss : List (List ℕ × IntegerType)) (t : IntegerType) (cs rest : List Character) → longer_first ss ≡ true → IsAmong ss t cs → length cs ≤ suffix_len (suffix_in ss (cs ++ rest))
suffix_covers [] t cs rest l h = absurd h
suffix_covers (s ∷ ss) t cs rest l h =
    suffix_by (starts s.0 (cs ++ rest)) s ss t cs rest refl l h (λ l' h'. suffix_covers ss t cs rest l' h')

covers_by : (n d s : ℕ) (len : List Character → ℕ) (text back : List Character) → n ≡ d → drop d text ≡ back → s ≤ len back → d + s ≤ n + len (drop n text)
covers_by n d s len text back e is h = rw (e, is) (omega arith)

-- digits and a suffix are no more than the run of digits and the suffix that stand there
pub integer_covers : (base : Base) (kind : Option IntegerType) (digits suffix rest : List Character) → list_all (is_digit base) digits ≡ true → IsSuffix kind suffix → length digits + length suffix ≤ run_len (is_digit base) (digits ++ (suffix ++ rest)) + suffix_len (suffix_in suffixes (drop (run_len (is_digit base) (digits ++ (suffix ++ rest))) (digits ++ (suffix ++ rest))))
integer_covers base None digits suffix rest all none =
    omega (arith, run_covers (is_digit base) digits (suffix ++ rest) all, ap (λ l. length l) none)
integer_covers base (Some t) digits suffix rest all is =
    let a = suffix_apart suffixes t base suffix refl is in
    let count : run_len (is_digit base) (digits ++ (suffix ++ rest)) ≡ length digits =
    ap (λ l. run_len (is_digit base) (digits ++ (l ++ rest))) a.stands ∙ run_ends (is_digit base) digits a.first (a.others ++ rest) all a.apart in
    covers_by (run_len (is_digit base) (digits ++ (suffix ++ rest))) (length digits) (length suffix) (λ l. suffix_len (suffix_in suffixes l)) (digits ++ (suffix ++ rest)) (suffix ++ rest)
    count (drop-append_seam digits (suffix ++ rest)) (suffix_covers suffixes t suffix rest refl is)

among_by : (b : Bool) (s found : List ℕ × IntegerType) (ss : List (List ℕ × IntegerType)) (text : List Character) → starts s.0 text ≡ b → (suffix_in ss text ≡ Some found → IsAmong ss found.1 (take (length found.0) text)) → (if b then Some s else suffix_in ss text) ≡ Some found → IsAmong (s ∷ ss) found.1 (take (length found.0) text)
among_by true s found ss text is f e = let same : s ≡ found = cc in rw (← same) (inl (word_at_front s.0 text is, refl))
among_by false s found ss text is f e = inr (f e)

among : (ss : List (List ℕ × IntegerType)) (text : List Character) (found : List ℕ × IntegerType) → suffix_in ss text ≡ Some found → IsAmong ss found.1 (take (length found.0) text)
among [] text found e = absurd (cc)
among (s ∷ ss) text found e = among_by (starts s.0 text) s found ss text refl (among ss text found) e

suffix_is : (o : Option (List ℕ × IntegerType)) (text : List Character) → suffix_in suffixes text ≡ o → IsSuffix (suffix_type o) (take (suffix_len o) text)
suffix_is None text e = refl
suffix_is (Some s) text e = among suffixes text s e

-- the suffix that stands at the front is spelled by as many characters
pub suffix_at_front : (text : List Character) → IsSuffix (suffix_type (suffix_in suffixes text)) (take (suffix_len (suffix_in suffixes text)) text)
suffix_at_front text = suffix_is (suffix_in suffixes text) text refl

-- CONTENTS OF LITERALS

pub char_code : (c : Character) (x : ℕ) → is_char c x ≡ true → c ≡ Some x
char_code None x e = cc
char_code (Some c) x e = ap (λ k. Some k) (eqb-true c x e)

quote_in_line : (c : Character) → is_char c 34 ≡ true → is_line_end c ≡ false
quote_in_line c e = rw (char_code c 34 e) refl

plus_covers : (k n m : ℕ) (o : Option ℕ) → plus_some k o ≡ Some m → ((j : ℕ) → o ≡ Some j → n ≤ j) → k + n ≤ m
plus_covers k n m None e f = cc
plus_covers k n m (Some j) e f = let sum : k + j ≡ m = cc in omega (arith, f j refl, sum)

-- what may stand between quotes and has a quote behind it is no longer than the content that stands there
pub content_covers : (content rest : List Character) (m : ℕ) → AreBetweenQuotes content → content_len (content ++ (Some 34 ∷ rest)) ≡ Some m → length content ≤ m
content_covers [] rest m h e = omega arith
content_covers (c ∷ []) rest m h e =
    omega (arith, plus_covers 1 0 m (content_len (Some 34 ∷ rest)) (sym (content_other c (Some 34 ∷ rest) h.1 h.0) ∙ e) (λ j is. omega arith))
content_covers (c ∷ d ∷ cs) rest m h e =
    ⊎_elim
    (λ q. omega (arith, plus_covers 2 (length cs) m (content_len (cs ++ (Some 34 ∷ rest))) (sym (content_doubled c (d ∷ (cs ++ (Some 34 ∷ rest))) (quote_in_line c q.0) q.0 q.1) ∙ e) (λ j is. content_covers cs rest j q.2 is)))
    (λ p. omega (arith, plus_covers 1 (suc (length cs)) m (content_len (d ∷ (cs ++ (Some 34 ∷ rest)))) (sym (content_other c (d ∷ (cs ++ (Some 34 ∷ rest))) p.1 p.0) ∙ e) (λ j is. content_covers (d ∷ cs) rest j p.2 is)))
    h

-- m characters may stand between quotes, and a quote stands behind
pub record IsContent (text : List Character) (m : ℕ) : Type 0 where
  pub between : AreBetweenQuotes (take m text)
  pub closed : take (suc m) text ≡ take m text ++ (Some 34 ∷ [])

closed_here : (c : Character) (cs : List Character) → is_char c 34 ≡ true → IsContent (c ∷ cs) 0
closed_here c cs e = record { between = tt; closed = ap (λ d. d ∷ []) (char_code c 34 e) }

doubled_there : (c d : Character) (cs : List Character) (j : ℕ) → is_char c 34 ≡ true → is_char d 34 ≡ true → IsContent cs j → IsContent (c ∷ d ∷ cs) (suc (suc j))
doubled_there c d cs j e f is = record { between = inl (e, f, is.between); closed = ap (λ l. c ∷ d ∷ l) is.closed }

plain_between : (c d : Character) (cs : List Character) (j : ℕ) → is_char c 34 ≡ false → is_line_end c ≡ false → AreBetweenQuotes (take j (d ∷ cs)) → AreBetweenQuotes (c ∷ take j (d ∷ cs))
plain_between c d cs zero differs inside is = (differs, inside)
plain_between c d cs (suc j) differs inside is = inr (differs, inside, is)

plain_there : (c d : Character) (cs : List Character) (j : ℕ) → is_char c 34 ≡ false → is_line_end c ≡ false → IsContent (d ∷ cs) j → IsContent (c ∷ d ∷ cs) (suc j)
plain_there c d cs j differs inside is = record { between = plain_between c d cs j differs inside is.between; closed = ap (λ l. c ∷ l) is.closed }

content_if : (b : Bool) (x y : Option ℕ) (text : List Character) (m : ℕ) → (b ≡ true → x ≡ Some m → IsContent text m) → (b ≡ false → y ≡ Some m → IsContent text m) → (if b then x else y) ≡ Some m → IsContent text m
content_if true x y text m f g e = f refl e
content_if false x y text m f g e = g refl e

content_zero : (text : List Character) (m : ℕ) → IsContent text 0 → Some 0 ≡ Some m → IsContent text m
content_zero text m is e = let none : 0 ≡ m = cc in subst (λ k. IsContent text k) none is

content_plus : (k m : ℕ) (o : Option ℕ) (text : List Character) → plus_some k o ≡ Some m → ((j : ℕ) → o ≡ Some j → IsContent text (k + j)) → IsContent text m
content_plus k m None text e f = absurd (cc)
content_plus k m (Some j) text e f = let sum : k + j ≡ m = cc in subst (λ n. IsContent text n) sum (f j refl)

at_number : (text : List Character) (n m : ℕ) → n ≡ m → IsContent text n → IsContent text m
at_number text n m e is = subst (λ k. IsContent text k) e is

pub content_is : (text : List Character) (m : ℕ) → content_len text ≡ Some m → IsContent text m
unfolding content_len
content_is [] m e = absurd (cc)
content_is (c ∷ []) m e =
    content_if (is_char c 34) (Some 0) None (c ∷ []) m (λ q z. content_zero (c ∷ []) m (closed_here c [] q) z) (λ q z. absurd (cc)) e
content_is (c ∷ d ∷ cs) m e =
    content_if (is_line_end c) None _ (c ∷ d ∷ cs) m (λ l z. absurd (cc))
    (λ l. content_if (is_char c 34) _ _ (c ∷ d ∷ cs) m
    (λ q. content_if (is_char d 34) (plus_some 2 (content_len cs)) (Some 0) (c ∷ d ∷ cs) m
    (λ r z. content_plus 2 m (content_len cs) (c ∷ d ∷ cs) z (λ j is. at_number (c ∷ d ∷ cs) (suc (suc j)) (2 + j) (omega arith) (doubled_there c d cs j q r (content_is cs j is))))
    (λ r z. content_zero (c ∷ d ∷ cs) m (closed_here c (d ∷ cs) q) z))
    (λ q z. content_plus 1 m (content_len (d ∷ cs)) (c ∷ d ∷ cs) z (λ j is. at_number (c ∷ d ∷ cs) (suc j) (1 + j) (omega arith) (plain_there c d cs j q l (content_is (d ∷ cs) j is))))) e
