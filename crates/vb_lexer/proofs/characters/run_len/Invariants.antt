use Rattle.std.proofs.Common.{◌≡◌, ℕ, ◌<◌, true, get_or, None}
use Rattle.vb_lexer.specs.Tokens.{is_in_run}
use Rattle.vb_lexer.proofs.characters.run_len.Given as goal

abbrev pub invariant-loop-i : goal.invariant-loop-i
invariant-loop-i l = (k : ℕ) → k < l.i → is_in_run l.run (get_or l.text k None) ≡ true
