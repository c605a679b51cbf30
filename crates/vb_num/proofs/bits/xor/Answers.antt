use Rattle.std.proofs.Common.{◌<◌, sym, subst}
use Rattle.std.proofs.lemmas.Nat.{xor_lt}
use Rattle.vb_num.specs.{declared.kinds.Kind.Kind, Kind.{width, span}}
use Rattle.vb_num.proofs.bits.xor.Goals as goal

pub of_bits-requires : goal.of_bits-requires
of_bits-requires c =
    xor_lt (width c.args.a.kind) c.bits.result c.bits-2.result c.bits.ensures.few
    (subst (λ (k : Kind). c.bits-2.result < span k) (sym c.requires) c.bits-2.ensures.few)
