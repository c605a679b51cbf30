use Rattle.std.proofs.Common.{◌≡◌, ◌++◌, ◌+◌, ℕ, List, length}
use Rattle.std.specs.Io.KnownBytes.{Consumes}
use Rattle.vb_io.proofs.real.read_most.Given as goal

abbrev pub invariant-loop : goal.invariant-loop
invariant-loop g l = (bytes : List ℕ) × (l.into.items ≡ l.initial.into.items ++ bytes) × (length bytes + l.left ≡ l.most) × Consumes (g.F.Read.remaining l.initial.file) (g.F.Read.remaining l.file) bytes
