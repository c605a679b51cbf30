-- What the operators give on numbers of one kind (Visual Basic Language Specification 11.0, 11.13 to 11.18).
use Rattle.std.specs.Prelude.{ℕ, zero, suc, ◌-◌, ◌*◌, ◌/◌, ◌%◌, ◌^◌, ℤ, pos, negsuc, ◌-ℤ◌, int_le, int_div, int_rem, unsigned_abs, bit_and, bit_or, bit_xor, if◌then◌else◌, Result, Ok, Err}
use Rattle.std.specs.Int.{int_rem_euclid}
use Rattle.vb_num.specs.{declared.{kinds.Kind.Kind, num.Thrown.{Thrown, TheVariants.{Overflow, DivideByZero}}}, Kind.{greatest, is_in, width, span}}

-- DIVISION

abbrev pub or_overflow : Kind → ℤ → Result ℤ Thrown
or_overflow kind value = if is_in kind value then Ok value else Err Overflow

-- the value where the divisor isn't zero
abbrev pub divided : ℤ → Result ℤ Thrown → Result ℤ Thrown
divided (pos zero) value = Err DivideByZero
divided divisor value = value

-- towards zero (11.13.4)
abbrev pub quotient : Kind → ℤ → ℤ → Result ℤ Thrown
quotient kind a b = divided b (or_overflow kind (int_div a b))

-- with the sign of the dividend, and always in range (11.13.5)
abbrev pub remainder : ℤ → ℤ → Result ℤ Thrown
remainder a b = divided b (Ok (int_rem a b))

-- BITS: two's complement in the width of the kind

abbrev pub bits : Kind → ℤ → ℕ
bits kind (pos n) = n
bits kind (negsuc n) = span kind - suc n

-- the number that has these bits
abbrev pub of_bits : Kind → ℕ → ℤ
of_bits kind n = if int_le (pos n) (greatest kind) then pos n else pos n -ℤ pos (span kind)

-- bit by bit (11.16)
abbrev pub both_bits : Kind → ℤ → ℤ → ℤ
both_bits kind a b = of_bits kind (bit_and (bits kind a) (bits kind b))

abbrev pub either_bits : Kind → ℤ → ℤ → ℤ
either_bits kind a b = of_bits kind (bit_or (bits kind a) (bits kind b))

abbrev pub other_bits : Kind → ℤ → ℤ → ℤ
other_bits kind a b = of_bits kind (bit_xor (bits kind a) (bits kind b))

abbrev pub no_bits : Kind → ℤ → ℤ
no_bits kind a = of_bits kind (span kind - 1 - bits kind a)

-- SHIFTS (11.18)

-- as many places as the lowest bits of the count say: those that can count the width
abbrev pub places : Kind → ℤ → ℕ
places kind count = unsigned_abs (int_rem_euclid count (pos (width kind)))

-- what goes out at the left is lost
abbrev pub shifted_left : Kind → ℤ → ℤ → ℤ
shifted_left kind a count = of_bits kind (bits kind a * 2 ^ places kind count % span kind)

-- the quotient rounded down, so the sign stays
abbrev pub floored : ℤ → ℕ → ℤ
floored (pos n) by = pos (n / by)
floored (negsuc n) by = negsuc (n / by)

abbrev pub shifted_right : Kind → ℤ → ℤ → ℤ
shifted_right kind a count = floored a (2 ^ places kind count)
