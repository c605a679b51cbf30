-- The bits of a number tell it.
use Rattle.std.proofs.Common.{◌≡◌, ℤ, pos, negsuc, arith}
use Rattle.std.specs.Prelude.{IsTrue}
use Rattle.std.proofs.lemmas.Int.{ints}
use Rattle.vb_num.specs.{declared.kinds.Kind.{Kind, TheVariants.{Byte, SByte, Short, UShort, Integer, UInteger, Long, ULong}}, Kind.is_in, Operators.{bits, of_bits}}

pub told : (kind : Kind) (value : ℤ) → IsTrue (is_in kind value) → of_bits kind (bits kind value) ≡ value
told Byte (pos n) p = grind (arith, ints)
told SByte (pos n) p = grind (arith, ints)
told Short (pos n) p = grind (arith, ints)
told UShort (pos n) p = grind (arith, ints)
told Integer (pos n) p = grind (arith, ints)
told UInteger (pos n) p = grind (arith, ints)
told Long (pos n) p = grind (arith, ints)
told ULong (pos n) p = grind (arith, ints)
told Byte (negsuc n) p = grind (arith, ints)
told SByte (negsuc n) p = grind (arith, ints)
told Short (negsuc n) p = grind (arith, ints)
told UShort (negsuc n) p = grind (arith, ints)
told Integer (negsuc n) p = grind (arith, ints)
told UInteger (negsuc n) p = grind (arith, ints)
told Long (negsuc n) p = grind (arith, ints)
told ULong (negsuc n) p = grind (arith, ints)
