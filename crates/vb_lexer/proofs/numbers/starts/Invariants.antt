use Rattle.std.proofs.Common.{◌≡◌, ◌≤◌, length, drop}
use Rattle.vb_lexer.specs.Tokens.{starts}
use Rattle.vb_lexer.proofs.numbers.starts.Given as goal

abbrev pub invariant-loop-i : goal.invariant-loop-i
invariant-loop-i l = record {
  left : starts l.word l.text ≡ starts (drop l.i l.word) (drop l.i l.text);
  within : l.i ≤ length l.text;
}
