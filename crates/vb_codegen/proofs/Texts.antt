-- Texts of ASCII characters.
use Rattle.std.proofs.Common.{◌<◌, ℕ, zero, suc, Bool, true, false, List, [], ◌∷◌, length, get_or, All, IsTrue, refl, arith}
use Rattle.std.specs.Prelude.{nat_lt, ◌&&◌}
use Rattle.std.proofs.lemmas.Bool.Decides.{nat_tests}

-- each is below 128
abbrev pub is_ascii : List ℕ → Bool
is_ascii [] = true
is_ascii (b ∷ bs) = nat_lt b 128 && is_ascii bs

both : (p q : Bool) → IsTrue (p && q) → IsTrue p × IsTrue q
both true q h = (refl, h)
both false q h = absurd (cc)

pub all_ascii : (text : List ℕ) → IsTrue (is_ascii text) → All (λ byte. byte < 128) text
all_ascii [] h = λ k d lt. absurd (omega arith)
all_ascii (b ∷ bs) h = at (both (nat_lt b 128) (is_ascii bs) h).0 (all_ascii bs (both (nat_lt b 128) (is_ascii bs) h).1)
  where
    at : IsTrue (nat_lt b 128) → All (λ byte. byte < 128) bs → (k d : ℕ) → k < length (b ∷ bs) → get_or (b ∷ bs) k d < 128
    at first rest zero d lt = grind (arith, nat_tests, first)
    at first rest (suc k) d lt = rest k d (omega arith)
