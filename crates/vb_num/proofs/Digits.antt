-- The value of digits, and its cap.
use Rattle.std.proofs.Common.{◌≡◌, ℕ, zero, suc, ◌+◌, ◌-◌, ◌*◌, ◌<◌, min, List, [], ◌∷◌, length, drop, get_or, sym, ap, ◌∙◌, arith}
use Rattle.std.specs.Prelude.{IsTrue}
use Rattle.std.specs.List.{AllByRecursion as Each}
use Rattle.std.specs.Char.{digit_value}
use Rattle.std.specs.Str.Parse.{AllDigits, digits_value_after}
use Rattle.vb_num.specs.WholeReading.{is_digit}

-- to cap on the way changes nothing
cap_step : (n d c : ℕ) → min (min n c * 10 + d) c ≡ min (n * 10 + d) c
cap_step n d c = grind arith

pub capped : (n c : ℕ) (us : List ℕ) → min (digits_value_after 10 (min n c) us) c ≡ min (digits_value_after 10 n us) c
capped n c [] = grind arith
capped n c (u ∷ us) =
    sym (capped (min n c * 10 + digit_value u) c us)
    ∙ ap (λ (m : ℕ). min (digits_value_after 10 m us) c) (cap_step n (digit_value u) c)
    ∙ capped (n * 10 + digit_value u) c us

pub digit_worth : (u : ℕ) → digit_value u < 10 → digit_value u ≡ u - 48
digit_worth u small = grind arith

-- the turn of a loop over digits
pub next_digit : (us : List ℕ) (i v c : ℕ) → i < length us → AllDigits 10 us
    → min (digits_value_after 10 v (drop i us)) c ≡ min (digits_value_after 10 (min (v * 10 + (get_or us i 0 - 48)) c) (drop (i + 1) us)) c
next_digit [] i v c inside all = absurd (omega (arith, inside))
next_digit (u ∷ us) zero v c inside (small, all) =
    ap (λ (d : ℕ). min (digits_value_after 10 (v * 10 + d) us) c) (digit_worth u small) ∙ sym (capped (v * 10 + (u - 48)) c us)
next_digit (u ∷ us) (suc i) v c inside (small, all) =
    next_digit us i v c (omega (arith, inside)) all ∙ ap (λ (k : ℕ). min (digits_value_after 10 (min (v * 10 + (get_or us i 0 - 48)) c) (drop k (u ∷ us))) c) (behind i)
  where
    behind : (k : ℕ) → suc (k + 1) ≡ suc k + 1
    behind k = omega arith

pub as_digits : (us : List ℕ) → Each (λ u. IsTrue (is_digit u)) us → AllDigits 10 us
as_digits [] all = tt
as_digits (u ∷ us) (passed, all) = (grind arith, as_digits us all)

pub of_digits : (us : List ℕ) → AllDigits 10 us → Each (λ u. IsTrue (is_digit u)) us
of_digits [] all = tt
of_digits (u ∷ us) (small, all) = (grind arith, of_digits us all)
