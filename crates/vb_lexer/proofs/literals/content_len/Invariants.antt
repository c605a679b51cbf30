use Rattle.std.proofs.Common.{◌≡◌, ◌≤◌, ◌-◌, length, drop}
use Rattle.vb_lexer.specs.Tokens.{content_len, plus_some}
use Rattle.vb_lexer.proofs.literals.content_len.Given as goal

abbrev pub invariant-loop-i : goal.invariant-loop-i
invariant-loop-i l = record {
  left : content_len l.text ≡ plus_some l.i (content_len (drop l.i l.text));
  within : l.i ≤ length l.text;
}

abbrev pub decreases-loop-i : goal.decreases-loop-i
decreases-loop-i l = length l.text - l.i
