-- The reserved words by their first letters.
use Rattle.std.proofs.Common.{◌≡◌, ◌≢◌, ℕ, suc, ◌<◌, Bool, true, false, List, [], ◌∷◌, length, drop, refl, ap, ◌∙◌, ⊎_elim, arith}
use Rattle.std.specs.Prelude.{◌&&◌, ◌||◌, ◌==◌, if◌then◌else◌, Some, None, codes, bytes_eq, slice_index}
use Rattle.std.proofs.lemmas.Bool.{and_left, and_right, and_parts, or_cases, eqb-true, ne_eqb}
use Rattle.std.specs.Char.{to_ascii_lowercase}
use Rattle.vb_syntax.specs.{Texts.keyword_text, declared.keyword.Keyword.Keyword}
use Rattle.vb_lexer.specs.{Characters.{Character, is_readable}, Tables.{keywords_a, keywords_b, keywords_c, keywords_d, keywords_e, keywords_f, keywords_g, keywords_h, keywords_i, keywords_l, keywords_m, keywords_n, keywords_o, keywords_p, keywords_r, keywords_s, keywords_t, keywords_u, keywords_v, keywords_w, keywords_x, keywords}, Tokens.{keyword_in, lowered}}

-- the word and the text are the same just where they are from the i-th character on
pub record SameFrom (word : List Character) (text : List ℕ) (i : ℕ) : Type 0 where
  pub readable : is_readable (drop i word) ≡ true
  pub same : bytes_eq (lowered (drop i word)) (drop i text) ≡ bytes_eq (lowered word) text

pub other_length : (word : List Character) (text : List ℕ) → is_readable word ≡ true → length word ≢ length text → bytes_eq (lowered word) text ≡ false
other_length [] [] h n = absurd (n refl)
other_length [] (x ∷ xs) h n = refl
other_length (None ∷ cs) xs h n = cc
other_length (Some c ∷ cs) [] h n = refl
other_length (Some c ∷ cs) (x ∷ xs) h n =
    and_right (to_ascii_lowercase c == x) (bytes_eq (lowered cs) xs) (other_length cs xs h (λ e. n (ap (λ k. suc k) e)))

-- WORDS BY THEIR FIRST LETTER

abbrev begins : ℕ → List ℕ → Bool
begins k [] = false
begins k (x ∷ xs) = k == x

abbrev pub of_letter : ℕ → List Keyword → List Keyword
of_letter k [] = []
of_letter k (w ∷ ws) = if begins k (keyword_text w) then w ∷ of_letter k ws else of_letter k ws

other_word : (k : ℕ) (cs text : List ℕ) → begins k text ≡ false → bytes_eq (k ∷ cs) text ≡ false
other_word k cs [] h = refl
other_word k cs (x ∷ xs) h = and_left (k == x) (bytes_eq cs xs) h

kept_if : (k : ℕ) (cs : List ℕ) (w : Keyword) (all some : List Keyword) (b : Bool) → begins k (keyword_text w) ≡ b → keyword_in all (k ∷ cs) ≡ keyword_in some (k ∷ cs) → keyword_in (w ∷ all) (k ∷ cs) ≡ keyword_in (if b then w ∷ some else some) (k ∷ cs)
kept_if k cs w all some true e h = ap (λ o. if bytes_eq (k ∷ cs) (keyword_text w) then Some w else o) h
kept_if k cs w all some false e h = ap (λ b. if b then Some w else keyword_in all (k ∷ cs)) (other_word k cs (keyword_text w) e) ∙ h

-- just the words of its letter matter
by_letter : (k : ℕ) (cs : List ℕ) (ws : List Keyword) → keyword_in ws (k ∷ cs) ≡ keyword_in (of_letter k ws) (k ∷ cs)
by_letter k cs [] = refl
by_letter k cs (w ∷ ws) = kept_if k cs w ws (of_letter k ws) (begins k (keyword_text w)) refl (by_letter k cs ws)

-- each table has the reserved words of its letter
pub record LetterTables : Type 0 where
  pub a : of_letter 97 keywords ≡ keywords_a
  pub b : of_letter 98 keywords ≡ keywords_b
  pub c : of_letter 99 keywords ≡ keywords_c
  pub d : of_letter 100 keywords ≡ keywords_d
  pub e : of_letter 101 keywords ≡ keywords_e
  pub f : of_letter 102 keywords ≡ keywords_f
  pub g : of_letter 103 keywords ≡ keywords_g
  pub h : of_letter 104 keywords ≡ keywords_h
  pub i : of_letter 105 keywords ≡ keywords_i
  pub l : of_letter 108 keywords ≡ keywords_l
  pub m : of_letter 109 keywords ≡ keywords_m
  pub n : of_letter 110 keywords ≡ keywords_n
  pub o : of_letter 111 keywords ≡ keywords_o
  pub p : of_letter 112 keywords ≡ keywords_p
  pub r : of_letter 114 keywords ≡ keywords_r
  pub s : of_letter 115 keywords ≡ keywords_s
  pub t : of_letter 116 keywords ≡ keywords_t
  pub u : of_letter 117 keywords ≡ keywords_u
  pub v : of_letter 118 keywords ≡ keywords_v
  pub w : of_letter 119 keywords ≡ keywords_w
  pub x : of_letter 120 keywords ≡ keywords_x

pub tables : LetterTables
unfolding keywords keywords_a keywords_b keywords_c keywords_d keywords_e keywords_f keywords_g keywords_h keywords_i keywords_l keywords_m keywords_n keywords_o keywords_p keywords_r keywords_s keywords_t keywords_u keywords_v keywords_w keywords_x
tables = record { a = refl; b = refl; c = refl; d = refl; e = refl; f = refl; g = refl; h = refl; i = refl; l = refl; m = refl; n = refl; o = refl; p = refl; r = refl; s = refl; t = refl; u = refl; v = refl; w = refl; x = refl }

pub in_table : (k : ℕ) (word : List ℕ) (table : List Keyword) → of_letter k keywords ≡ table → 0 < k → slice_index word 0 ≡ k → keyword_in keywords word ≡ keyword_in table word
in_table k [] table t p h = absurd (omega arith)
in_table k (c ∷ cs) table t p h = rw h (by_letter k cs keywords ∙ ap (λ ws. keyword_in ws (k ∷ cs)) t)

-- WORDS OF NONE OF THE LETTERS

abbrev pub letters : List ℕ
letters = codes "abcdefghilmnoprstuvwx"

abbrev pub IsNoneOf : ℕ → List ℕ → Type 0
IsNoneOf c [] = Unit
IsNoneOf c (k ∷ ks) = (c ≢ k) × IsNoneOf c ks

abbrev is_one_of : ℕ → List ℕ → Bool
is_one_of c [] = false
is_one_of c (k ∷ ks) = c == k || is_one_of c ks

abbrev begins_in : List ℕ → List ℕ → Bool
begins_in ks [] = false
begins_in ks (x ∷ xs) = is_one_of x ks

abbrev all_begin_in : List ℕ → List Keyword → Bool
all_begin_in ks [] = true
all_begin_in ks (w ∷ ws) = begins_in ks (keyword_text w) && all_begin_in ks ws

apart : (c x : ℕ) (ks : List ℕ) → IsNoneOf c ks → is_one_of x ks ≡ true → c ≢ x
apart c x [] n h = cc
apart c x (k ∷ ks) n h =
    ⊎_elim (λ q e. n.0 (e ∙ eqb-true x k q)) (λ q. apart c x ks n.1 q) (or_cases (x == k) (is_one_of x ks) h)

begins_apart : (word text ks : List ℕ) → IsNoneOf (slice_index word 0) ks → begins_in ks text ≡ true → bytes_eq word text ≡ false
begins_apart word [] ks n h = cc
begins_apart [] (x ∷ xs) ks n h = refl
begins_apart (c ∷ cs) (x ∷ xs) ks n h = and_left (c == x) (bytes_eq cs xs) (ne_eqb c x (apart c x ks n h))

none_in : (word ks : List ℕ) (ws : List Keyword) → IsNoneOf (slice_index word 0) ks → all_begin_in ks ws ≡ true → keyword_in ws word ≡ None
none_in word ks [] n h = refl
none_in word ks (w ∷ ws) n h =
    let p = and_parts (begins_in ks (keyword_text w)) (all_begin_in ks ws) h in
    ap (λ b. if b then Some w else keyword_in ws word) (begins_apart word (keyword_text w) ks n p.0) ∙ none_in word ks ws n p.1

pub no_letter : (word : List ℕ) → IsNoneOf (slice_index word 0) letters → keyword_in keywords word ≡ None
unfolding keywords keywords_a keywords_b keywords_c keywords_d keywords_e keywords_f keywords_g keywords_h keywords_i keywords_l keywords_m keywords_n keywords_o keywords_p keywords_r keywords_s keywords_t keywords_u keywords_v keywords_w keywords_x
no_letter word n = none_in word letters keywords n refl
