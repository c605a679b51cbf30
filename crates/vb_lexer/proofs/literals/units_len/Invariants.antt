use Rattle.std.proofs.Common.{◌≡◌, ◌≤◌, ◌+◌, ◌*◌, ◌-◌, length, drop}
use Rattle.vb_lexer.specs.Tokens.{units_of}
use Rattle.vb_lexer.proofs.literals.units_len.Given as goal

abbrev pub invariant-loop-i : goal.invariant-loop-i
invariant-loop-i l = record {
  left : l.count + length (units_of (drop l.i l.content)) ≡ length (units_of l.content);
  small : l.count ≤ 2 * l.i;
}

abbrev pub decreases-loop-i : goal.decreases-loop-i
decreases-loop-i l = length l.content - l.i
