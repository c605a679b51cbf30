-- Quotients and remainders.
use Rattle.std.proofs.Common.{◌≡◌, zero, suc, ℤ, pos, negsuc, Bool, true, false, Some, None, Result, Ok, Err, refl, sym, subst, of_z}
use Rattle.std.specs.Prelude.{if◌then◌else◌, int_div, int_rem}
use Rattle.std.specs.Int.{w128}
use Rattle.vb_num.specs.{declared.{kinds.Kind.Kind, num.{Num.Num, Thrown.{Thrown, TheVariants.{Overflow, DivideByZero, Format}}}}, Kind.{is_in, in_kind}, Num.{Answers, Gives}, Operators.{divided, or_overflow, quotient, remainder}}

not_zero : (b : ℤ) (value : Result ℤ Thrown) → (of_z w128 b ≡ 0 → ⊥) → divided b value ≡ value
not_zero (pos zero) value h = absurd (h refl)
not_zero (pos (suc n)) value h = refl
not_zero (negsuc n) value h = refl

given_at : (b : Bool) (kind : Kind) (z : ℤ) (r : Result Num Thrown) → Answers kind (if b then Some z else None) r → Gives kind (if b then Ok z else Err Overflow) r
given_at true kind z (Ok n) (e, k) = (cc, k)
given_at true kind z (Err Overflow) e = absurd cc
given_at false kind z (Ok n) (e, k) = absurd cc
given_at false kind z (Err Overflow) e = refl
given_at b kind z (Err DivideByZero) e = absurd e
given_at b kind z (Err Format) e = absurd e

turned : (kind : Kind) (want other : Result ℤ Thrown) (r : Result Num Thrown) → want ≡ other → Gives kind want r → Gives kind other r
turned kind want other r same g = subst (λ (x : Result ℤ Thrown). Gives kind x r) same g

pub quotient_given : (kind : Kind) (a b : ℤ) (r : Result Num Thrown) → (of_z w128 b ≡ 0 → ⊥) → Answers kind (in_kind kind (int_div a b)) r → Gives kind (quotient kind a b) r
quotient_given kind a b r h e =
    turned kind (or_overflow kind (int_div a b)) (quotient kind a b) r (sym (not_zero b (or_overflow kind (int_div a b)) h)) (given_at (is_in kind (int_div a b)) kind (int_div a b) r e)

-- where it is in range
pub remainder_given : (kind : Kind) (a b : ℤ) (r : Result Num Thrown) → (of_z w128 b ≡ 0 → ⊥) → is_in kind (int_rem a b) ≡ true → Answers kind (in_kind kind (int_rem a b)) r → Gives kind (remainder a b) r
remainder_given kind a b r h inside e =
    turned kind (Ok (int_rem a b)) (remainder a b) r (sym (not_zero b (Ok (int_rem a b)) h))
    (given_at true kind (int_rem a b) r (subst (λ (c : Bool). Answers kind (if c then Some (int_rem a b) else None) r) inside e))
