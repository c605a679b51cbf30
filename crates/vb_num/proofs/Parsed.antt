-- The answer of a read number.
use Rattle.std.proofs.Common.{◌≡◌, ◌⊎◌, inl, inr, ℕ, zero, suc, ◌<◌, ◌≤◌, ◌^◌, min, ℤ, pos, negsuc, neg_ℤ, Bool, true, false, List, Option, Some, None, Result, Ok, Err, refl, sym, ap, subst, ◌∙◌, arith}
use Rattle.std.specs.Prelude.{if◌then◌else◌}
use Rattle.std.proofs.lemmas.Bool.{cases_lt}
use Rattle.vb_num.specs.{declared.{kinds.Kind.{Kind, TheVariants.{Byte, SByte, Short, UShort, Integer, UInteger, Long, ULong}}, num.{Num.Num, Thrown.{Thrown, TheVariants.{Overflow, DivideByZero, Format}}}}, Kind.{is_in, in_kind}, Num.Answers, Whole.{Sign, Plus, Minus, signed, IsWhole, Parses}, WholeReading.{too_large, value_of}}
use Rattle.vb_num.specs.Whole.{None as Unsigned}

beyond : (kind : Kind) (n : ℕ) → 2 ^ 64 ≤ n → is_in kind (pos n) ≡ false
beyond Byte n h = grind arith
beyond SByte n h = grind arith
beyond Short n h = grind arith
beyond UShort n h = grind arith
beyond Integer n h = grind arith
beyond UInteger n h = grind arith
beyond Long n h = grind arith
beyond ULong n h = grind arith

beneath : (kind : Kind) (n : ℕ) → 2 ^ 63 ≤ n → is_in kind (negsuc n) ≡ false
beneath Byte n h = grind arith
beneath SByte n h = grind arith
beneath Short n h = grind arith
beneath UShort n h = grind arith
beneath Integer n h = grind arith
beneath UInteger n h = grind arith
beneath Long n h = grind arith
beneath ULong n h = grind arith

opposite_beneath : (kind : Kind) (n : ℕ) → 2 ^ 64 ≤ n → is_in kind (neg_ℤ (pos n)) ≡ false
opposite_beneath kind zero h = absurd (omega (arith, h))
opposite_beneath kind (suc n) h = beneath kind n (omega (arith, h))

out : (kind : Kind) (s : Sign) (n : ℕ) → 2 ^ 64 ≤ n → is_in kind (signed s n) ≡ false
out kind Minus n h = opposite_beneath kind n h
out kind Plus n h = beyond kind n h
out kind Unsigned n h = beyond kind n h

none_of : (kind : Kind) (z : ℤ) → is_in kind z ≡ false → in_kind kind z ≡ None
none_of kind z e = ap (λ (b : Bool). if b then Some z else None) e

cap_large : (n c : ℕ) → c ≤ n → min n c ≡ c
cap_large n c h = omega (arith, h)

cap_small : (n c : ℕ) → n < c → min n c ≡ n
cap_small n c h = omega (arith, h)

pub capped_in : (kind : Kind) (s : Sign) (n : ℕ) → in_kind kind (signed s (min n too_large)) ≡ in_kind kind (signed s n)
capped_in kind s n = by_size (cases_lt n too_large)
  where
    by_size : (n < too_large) ⊎ (too_large ≤ n) → in_kind kind (signed s (min n too_large)) ≡ in_kind kind (signed s n)
    by_size (inl small) = ap (λ (m : ℕ). in_kind kind (signed s m)) (cap_small n too_large small)
    by_size (inr large) =
        ap (λ (m : ℕ). in_kind kind (signed s m)) (cap_large n too_large large) ∙ none_of kind (signed s too_large) (out kind s too_large (omega arith))
        ∙ sym (none_of kind (signed s n) (out kind s n large))

parsed_at : (units : List ℕ) (kind : Kind) (b : Bool) (r : Result Num Thrown) → is_in kind (value_of units) ≡ b → IsWhole units (value_of units)
    → Answers kind (if b then Some (value_of units) else None) r → Parses units kind r
parsed_at units kind true (Ok n) is w (e, k) = (subst (IsWhole units) (some_same (value_of units) n.value e) w, k)
  where
    some_same : (x y : ℤ) → Some x ≡ Some y → x ≡ y
    some_same x y f = cc
parsed_at units kind true (Err Overflow) is w e = absurd cc
parsed_at units kind false (Ok n) is w (e, k) = absurd cc
parsed_at units kind false (Err Overflow) is w e = (value_of units, w, is)
parsed_at units kind b (Err DivideByZero) is w e = absurd e
parsed_at units kind b (Err Format) is w e = absurd e

pub parsed : (units : List ℕ) (kind : Kind) (z : ℤ) (r : Result Num Thrown) → IsWhole units (value_of units) → in_kind kind z ≡ in_kind kind (value_of units) → Answers kind (in_kind kind z) r
    → Parses units kind r
parsed units kind z r w same e =
    parsed_at units kind (is_in kind (value_of units)) r refl w (subst (λ (o : Option ℤ). Answers kind o r) same e)
