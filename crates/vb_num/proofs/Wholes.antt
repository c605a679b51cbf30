-- What a text is, by its parts.
use Rattle.std.proofs.Common.{◌≡◌, ℕ, ◌<◌, ℤ, Bool, true, false, List, [], ◌∷◌, ◌++◌, length, take, drop, refl, sym, ap, subst, ◌∙◌, arith}
use Rattle.std.specs.Prelude.{if◌then◌else◌, IsTrue, ◌==◌, ◌||◌}
use Rattle.std.specs.List.{AllByRecursion as Each}
use Rattle.std.specs.Str.Parse.{IsNumeral, digits_value}
use Rattle.std.specs.Char.{digit_value}
use Rattle.std.proofs.lemmas.List.{append-nil, take-append-drop}
use Rattle.std.proofs.lemmas.List.Elements.{All-from_recursion, recursion_from_All}
use Rattle.std.proofs.Math.Seq.{drop-append_seam, take-append_seam, drop-length}
use Rattle.vb_num.specs.{Whole.{Sign, None, Plus, Minus, is_blank, sign_text, signed, IsWhole}, WholeReading.{is_digit, run_len, sign_at, is_minus, behind_sign, with_sign, text_of, numeral_of, digits_of, after_of, left_of, value_of}}
use Rattle.vb_num.proofs.{Runs.{starts, run_before, run_whole, run_passes}, Digits.{as_digits, of_digits}}

-- FOUND

sign_split : (us : List ℕ) → us ≡ sign_text (sign_at us) ++ behind_sign us
sign_split [] = refl
sign_split (u ∷ us) = by_sign (u == 45) (u == 43) refl refl
  where
    by_sign : (m p : Bool) → (u == 45) ≡ m → (u == 43) ≡ p → u ∷ us ≡ sign_text (if m then Minus else if p then Plus else None) ++ (if m || p then us else u ∷ us)
    by_sign true p e f = ap (λ (v : ℕ). v ∷ us) (grind arith)
    by_sign false true e f = ap (λ (v : ℕ). v ∷ us) (grind arith)
    by_sign false false e f = refl

none_left : (us : List ℕ) → drop (run_len is_blank us) us ≡ [] → Each (λ u. IsTrue (is_blank u)) us
none_left us e =
    subst (Each (λ u. IsTrue (is_blank u))) (sym (append-nil (take (run_len is_blank us) us)) ∙ ap (λ vs. take (run_len is_blank us) us ++ vs) (sym e) ∙ take-append-drop (run_len is_blank us) us)
    (run_passes is_blank us)

pub found : (units : List ℕ) → 0 < length (digits_of units) → left_of units ≡ [] → IsWhole units (value_of units)
found units some none = record {
  before = take (run_len is_blank units) units;
  sign = sign_at (text_of units);
  digits = digits_of units;
  after = after_of units;
  spelled =
      sym (take-append-drop (run_len is_blank units) units)
      ∙ ap (λ vs. take (run_len is_blank units) units ++ vs) (sign_split (text_of units))
      ∙ ap (λ vs. take (run_len is_blank units) units ++ (sign_text (sign_at (text_of units)) ++ vs)) (sym (take-append-drop (run_len is_digit (numeral_of units)) (numeral_of units)));
  blank_before = All-from_recursion (λ u. IsTrue (is_blank u)) (take (run_len is_blank units) units) (run_passes is_blank units);
  blank_after = All-from_recursion (λ u. IsTrue (is_blank u)) (after_of units) (none_left (after_of units) none);
  numeral = (some, as_digits (digits_of units) (run_passes is_digit (numeral_of units)));
  valued = refl;
}

-- AS THE CODE TAKES THEM APART

pub digits_read : (units text numeral ds : List ℕ) → text ≡ text_of units → numeral ≡ behind_sign text → ds ≡ take (run_len is_digit numeral) numeral → ds ≡ digits_of units
digits_read units text numeral ds is1 is2 is3 = is3 ∙ ap (λ (us : List ℕ). take (run_len is_digit us) us) (is2 ∙ ap behind_sign is1)

pub left_read : (units text numeral after left : List ℕ) → text ≡ text_of units → numeral ≡ behind_sign text → after ≡ drop (run_len is_digit numeral) numeral
    → left ≡ drop (run_len is_blank after) after → left ≡ left_of units
left_read units text numeral after left is1 is2 is3 is4 =
    is4 ∙ ap (λ (us : List ℕ). drop (run_len is_blank us) us) (is3 ∙ ap (λ (us : List ℕ). drop (run_len is_digit us) us) (is2 ∙ ap behind_sign is1))

-- READ

not_blank : (u : ℕ) → digit_value u < 10 → is_blank u ≡ false
not_blank u small = grind arith

not_sign : (u : ℕ) → digit_value u < 10 → (u == 45) ≡ false
not_sign u small = grind arith

not_plus : (u : ℕ) → digit_value u < 10 → (u == 43) ≡ false
not_plus u small = grind arith

not_digit : (u : ℕ) → IsTrue (is_blank u) → is_digit u ≡ false
not_digit u blank = grind arith

starts_none : (s : Sign) (ds us : List ℕ) → IsNumeral 10 ds → starts is_blank (sign_text s ++ (ds ++ us)) ≡ false
starts_none Plus ds us n = refl
starts_none Minus ds us n = refl
starts_none None [] us (some, all) = absurd (omega (arith, some))
starts_none None (d ∷ ds) us (some, (small, all)) = not_blank d small

sign_behind : (s : Sign) (ds us : List ℕ) → IsNumeral 10 ds → behind_sign (sign_text s ++ (ds ++ us)) ≡ ds ++ us
sign_behind Plus ds us n = refl
sign_behind Minus ds us n = refl
sign_behind None [] us (some, all) = absurd (omega (arith, some))
sign_behind None (d ∷ ds) us (some, (small, all)) =
    ap (λ (b : Bool). if b || d == 43 then ds ++ us else d ∷ (ds ++ us)) (not_sign d small)
    ∙ ap (λ (b : Bool). if b then ds ++ us else d ∷ (ds ++ us)) (not_plus d small)

sign_of : (s : Sign) (ds us : List ℕ) → IsNumeral 10 ds → sign_at (sign_text s ++ (ds ++ us)) ≡ s
sign_of Plus ds us n = refl
sign_of Minus ds us n = refl
sign_of None [] us (some, all) = absurd (omega (arith, some))
sign_of None (d ∷ ds) us (some, (small, all)) =
    ap (λ (b : Bool). if b then Minus else if d == 43 then Plus else None) (not_sign d small)
    ∙ ap (λ (b : Bool). if b then Plus else None) (not_plus d small)

blank_no_digit : (us : List ℕ) → Each (λ u. IsTrue (is_blank u)) us → starts is_digit us ≡ false
blank_no_digit [] all = refl
blank_no_digit (u ∷ us) (blank, all) = not_digit u blank

module _ (units : List ℕ) (value : ℤ) (w : IsWhole units value) where
  rest : List ℕ
  rest = sign_text w.sign ++ (w.digits ++ w.after)

  before_blank : Each (λ u. IsTrue (is_blank u)) w.before
  before_blank = recursion_from_All (λ u. IsTrue (is_blank u)) w.before w.blank_before

  after_blank : Each (λ u. IsTrue (is_blank u)) w.after
  after_blank = recursion_from_All (λ u. IsTrue (is_blank u)) w.after w.blank_after

  text_is : text_of units ≡ rest
  unfolding rest
  text_is =
      ap text_of w.spelled
      ∙ ap (λ (n : ℕ). drop n (w.before ++ rest)) (run_before is_blank w.before rest before_blank (starts_none w.sign w.digits w.after w.numeral))
      ∙ drop-append_seam w.before rest

  numeral_is : numeral_of units ≡ w.digits ++ w.after
  unfolding rest
  numeral_is = ap behind_sign text_is ∙ sign_behind w.sign w.digits w.after w.numeral

  run_is_digits : run_len is_digit (w.digits ++ w.after) ≡ length w.digits
  run_is_digits = run_before is_digit w.digits w.after (of_digits w.digits w.numeral.1) (blank_no_digit w.after after_blank)

  digits_are : digits_of units ≡ w.digits
  digits_are =
      ap (λ (us : List ℕ). take (run_len is_digit us) us) numeral_is ∙ ap (λ (n : ℕ). take n (w.digits ++ w.after)) run_is_digits
      ∙ take-append_seam w.digits w.after

  after_is : after_of units ≡ w.after
  after_is =
      ap (λ (us : List ℕ). drop (run_len is_digit us) us) numeral_is ∙ ap (λ (n : ℕ). drop n (w.digits ++ w.after)) run_is_digits
      ∙ drop-append_seam w.digits w.after

  pub some_digits : 0 < length (digits_of units)
  some_digits = subst (λ (ds : List ℕ). 0 < length ds) (sym digits_are) w.numeral.0

  pub none_behind : left_of units ≡ []
  none_behind = ap (λ (us : List ℕ). drop (run_len is_blank us) us) after_is ∙ ap (λ (n : ℕ). drop n w.after) (run_whole is_blank w.after after_blank) ∙ drop-length w.after

  -- so it is one number
  pub value_is : value ≡ value_of units
  unfolding rest
  value_is =
      w.valued ∙ ap (λ (s : Sign). signed s (digits_value 10 w.digits)) (sym (ap sign_at text_is ∙ sign_of w.sign w.digits w.after w.numeral))
      ∙ ap (λ (ds : List ℕ). signed (sign_at (text_of units)) (digits_value 10 ds)) (sym digits_are)

pub sign_read : (us : List ℕ) (n : ℕ) → with_sign (is_minus us) n ≡ signed (sign_at us) n
sign_read [] n = refl
sign_read (u ∷ us) n = by_sign (u == 45) (u == 43)
  where
    by_sign : (m p : Bool) → with_sign m n ≡ signed (if m then Minus else if p then Plus else None) n
    by_sign true p = refl
    by_sign false true = refl
    by_sign false false = refl

-- WHAT ISN'T SO IS NONE

some_not_empty : (us : List ℕ) → 0 < length us → (length us == 0) ≡ true → ⊥
some_not_empty us some e = absurd (grind (arith, some, e))

pub no_digits : (units ds : List ℕ) → ds ≡ digits_of units → (length ds == 0) ≡ true → (value : ℤ) → IsWhole units value → ⊥
no_digits units ds is e value w = some_not_empty ds (subst (λ (us : List ℕ). 0 < length us) (sym is) (some_digits units value w)) e

pub some_left : (units left : List ℕ) → left ≡ left_of units → (length left == 0) ≡ false → (value : ℤ) → IsWhole units value → ⊥
some_left units left is e value w =
    let none : left ≡ [] = is ∙ none_behind units value w in
    absurd (true_from_false (ap (λ (us : List ℕ). length us == 0) (sym none) ∙ e))
  where
    true_from_false : true ≡ false → ⊥
    true_from_false f = absurd cc

pub is_nothing : (us : List ℕ) → (length us == 0) ≡ true → us ≡ []
is_nothing [] e = refl
is_nothing (u ∷ us) e = absurd (grind (arith, e))

pub is_something : (us : List ℕ) → (length us == 0) ≡ false → 0 < length us
is_something [] e = absurd cc
is_something (u ∷ us) e = omega arith
