use Rattle.std.proofs.Common.{◌≡◌, map, take}
use Rattle.vb_value.specs.Datum.{datum_of, default_of}
use Rattle.vb_code.proofs.stack.Slots.new.Given as goal

abbrev pub invariant-loop-shape : goal.invariant-loop-shape
invariant-loop-shape l = map datum_of l.values.items ≡ map default_of (take l.shape-index l.shapes)
