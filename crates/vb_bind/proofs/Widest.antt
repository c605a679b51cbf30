-- The width of a file of token lines.
use Rattle.std.proofs.Common.{ℕ, ◌≤◌, List, ◌∷◌, length, arith}
use Rattle.std.specs.Prelude.{nat_le}
use Rattle.std.proofs.lemmas.Bool.Decides.{nat_tests}
use Rattle.vb_syntax.specs.declared.tokens.Line.{Line as TokenLine}
use Rattle.vb_bind.specs.Grammar.{greater, widest}
use Rattle.vb_bind.proofs.Trees.{by_test}

left : (a b : ℕ) → a ≤ greater a b
left a b = by_test (nat_le a b) _ (λ h. let le : a ≤ b = grind (arith, nat_tests, h) in rw h le) (λ h. rw h (omega arith))

-- lines of which the first has a token have a line of one token at least
pub is_wide : (l : TokenLine) (lines : List TokenLine) → 1 ≤ length l.tokens → 1 ≤ widest (l ∷ lines)
is_wide l lines h = let k = left (length l.tokens) (widest lines) in omega (arith, h, k)
