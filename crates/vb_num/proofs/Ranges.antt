-- What lies in the range of a kind.
use Rattle.std.proofs.Common.{ℕ, zero, suc, ◌<◌, ◌≤◌, ◌%◌, ℤ, pos, negsuc, neg_ℤ, arith}
use Rattle.std.specs.Prelude.{IsTrue, int_rem, unsigned_abs}
use Rattle.std.proofs.Math.Nat.{mod-le}
use Rattle.vb_num.specs.{declared.kinds.Kind.{Kind, TheVariants.{Byte, SByte, Short, UShort, Integer, UInteger, Long, ULong}}, Kind.{is_in, span}}

pub below : (kind : Kind) (m n : ℕ) → m ≤ n → IsTrue (is_in kind (pos n)) → IsTrue (is_in kind (pos m))
below Byte m n h p = grind arith
below SByte m n h p = grind arith
below Short m n h p = grind arith
below UShort m n h p = grind arith
below Integer m n h p = grind arith
below UInteger m n h p = grind arith
below Long m n h p = grind arith
below ULong m n h p = grind arith

pub above : (kind : Kind) (m n : ℕ) → m ≤ n → IsTrue (is_in kind (negsuc n)) → IsTrue (is_in kind (negsuc m))
above Byte m n h p = grind arith
above SByte m n h p = grind arith
above Short m n h p = grind arith
above UShort m n h p = grind arith
above Integer m n h p = grind arith
above UInteger m n h p = grind arith
above Long m n h p = grind arith
above ULong m n h p = grind arith

none_in : (kind : Kind) → IsTrue (is_in kind (pos zero))
none_in Byte = grind arith
none_in SByte = grind arith
none_in Short = grind arith
none_in UShort = grind arith
none_in Integer = grind arith
none_in UInteger = grind arith
none_in Long = grind arith
none_in ULong = grind arith

opposite : (kind : Kind) (m n : ℕ) → m ≤ suc n → IsTrue (is_in kind (negsuc n)) → IsTrue (is_in kind (neg_ℤ (pos m)))
opposite kind zero n h p = none_in kind
opposite kind (suc m) n h p = above kind m n (omega (arith, h)) p

pub rem_in : (kind : Kind) (a b : ℤ) → IsTrue (is_in kind a) → IsTrue (is_in kind (int_rem a b))
rem_in kind (pos a) b p = below kind (a % unsigned_abs b) a (mod-le a (unsigned_abs b)) p
rem_in kind (negsuc a) b p = opposite kind (suc a % unsigned_abs b) a (mod-le (suc a) (unsigned_abs b)) p

-- AS BITS

pub positive_few : (kind : Kind) (n : ℕ) → IsTrue (is_in kind (pos n)) → n < span kind
positive_few Byte n p = grind arith
positive_few SByte n p = grind arith
positive_few Short n p = grind arith
positive_few UShort n p = grind arith
positive_few Integer n p = grind arith
positive_few UInteger n p = grind arith
positive_few Long n p = grind arith
positive_few ULong n p = grind arith

pub negative_few : (kind : Kind) (n : ℕ) → IsTrue (is_in kind (negsuc n)) → suc n ≤ span kind
negative_few Byte n p = grind arith
negative_few SByte n p = grind arith
negative_few Short n p = grind arith
negative_few UShort n p = grind arith
negative_few Integer n p = grind arith
negative_few UInteger n p = grind arith
negative_few Long n p = grind arith
negative_few ULong n p = grind arith
