-- A shift within 64 bits, cut to the width of a kind.
use Rattle.std.proofs.Common.{◌≡◌, ℕ, ◌-◌, ◌*◌, ◌^◌, ◌%◌, ℤ, ap, ◌∙◌}
use Rattle.std.specs.Prelude.{bit_and}
use Rattle.std.proofs.lemmas.Nat.{and_mask}
use Rattle.std.proofs.Math.Pow.{mod-mod-pow}
use Rattle.vb_num.specs.{declared.kinds.Kind.{Kind, TheVariants.{Byte, SByte, Short, UShort, Integer, UInteger, Long, ULong}}, Kind.{width, span}, Operators.{bits, of_bits, places, shifted_left}}

cut : (kind : Kind) (n : ℕ) → n % 2 ^ 64 % span kind ≡ n % span kind
cut Byte n = mod-mod-pow n 56 8
cut SByte n = mod-mod-pow n 56 8
cut Short n = mod-mod-pow n 48 16
cut UShort n = mod-mod-pow n 48 16
cut Integer n = mod-mod-pow n 32 32
cut UInteger n = mod-mod-pow n 32 32
cut Long n = mod-mod-pow n 0 64
cut ULong n = mod-mod-pow n 0 64

masked : (kind : Kind) (n : ℕ) → bit_and (n % 2 ^ 64) (span kind - 1) ≡ n % span kind
masked kind n = and_mask (n % 2 ^ 64) (width kind) ∙ cut kind n

pub shifted : (kind : Kind) (a count : ℤ) (n p last : ℕ) → n ≡ bits kind a → p ≡ places kind count → last ≡ span kind - 1
    → of_bits kind (bit_and (n * 2 ^ p % 2 ^ 64) last) ≡ shifted_left kind a count
shifted kind a count n p last same by all =
    ap (λ (l : ℕ). of_bits kind (bit_and (n * 2 ^ p % 2 ^ 64) l)) all
    ∙ ap (of_bits kind) (masked kind (n * 2 ^ p))
    ∙ ap (λ (b : ℕ). of_bits kind (b * 2 ^ p % span kind)) same
    ∙ ap (λ (q : ℕ). of_bits kind (bits kind a * 2 ^ q % span kind)) by
