use Rattle.std.proofs.Common.{◌≡◌, ℕ, ◌<◌, true, get_or}
use Rattle.vb_num.specs.WholeReading.{is_in_run}
use Rattle.vb_num.proofs.whole.run_len.Given as goal

abbrev pub invariant-loop-i : goal.invariant-loop-i
invariant-loop-i l = (k : ℕ) → k < l.i → is_in_run l.run (get_or l.units k 0) ≡ true
