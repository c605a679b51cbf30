-- How a whole number is read from text: private steps on lists, which the code equals.
use Rattle.std.specs.Prelude.{ℕ, suc, ◌^◌, min, Bool, true, false, ◌&&◌, ◌||◌, nat_le, ◌==◌, if◌then◌else◌, List, [], ◌∷◌, take, drop, ℤ, pos, neg_ℤ}
use Rattle.std.specs.Str.Parse.{digits_value}
use Rattle.vb_num.specs.{declared.whole.Run.{Run, TheVariants.{Blanks, Digits}}, Whole.{Sign, None, Plus, Minus, is_blank, signed}}

abbrev pub is_digit : ℕ → Bool
is_digit u = nat_le 48 u && nat_le u 57

abbrev pub is_in_run : Run → ℕ → Bool
is_in_run Blanks u = is_blank u
is_in_run Digits u = is_digit u

-- how many at the front pass
unfoldable pub run_len : (ℕ → Bool) → List ℕ → ℕ
run_len passes [] = 0
run_len passes (u ∷ us) = if passes u then suc (run_len passes us) else 0

abbrev pub sign_at : List ℕ → Sign
sign_at [] = None
sign_at (u ∷ us) = if u == 45 then Minus else if u == 43 then Plus else None

abbrev pub is_minus : List ℕ → Bool
is_minus [] = false
is_minus (u ∷ us) = u == 45

abbrev pub behind_sign : List ℕ → List ℕ
behind_sign [] = []
behind_sign (u ∷ us) = if u == 45 || u == 43 then us else u ∷ us

-- THE PARTS OF A TEXT

abbrev pub text_of : List ℕ → List ℕ
text_of units = drop (run_len is_blank units) units

abbrev pub numeral_of : List ℕ → List ℕ
numeral_of units = behind_sign (text_of units)

abbrev pub digits_of : List ℕ → List ℕ
digits_of units = take (run_len is_digit (numeral_of units)) (numeral_of units)

abbrev pub after_of : List ℕ → List ℕ
after_of units = drop (run_len is_digit (numeral_of units)) (numeral_of units)

abbrev pub left_of : List ℕ → List ℕ
left_of units = drop (run_len is_blank (after_of units)) (after_of units)

abbrev pub value_of : List ℕ → ℤ
value_of units = signed (sign_at (text_of units)) (digits_value 10 (digits_of units))

-- ITS SIZE

-- above each number of a kind
abbrev pub too_large : ℕ
too_large = 2 ^ 64

abbrev pub capped_value : List ℕ → ℕ
capped_value digits = min (digits_value 10 digits) too_large

abbrev pub with_sign : Bool → ℕ → ℤ
with_sign true n = neg_ℤ (pos n)
with_sign false n = pos n
