-- Runs of characters.
use Rattle.std.proofs.Common.{◌≡◌, ℕ, zero, suc, ◌<◌, ◌≤◌, Bool, true, false, List, [], ◌∷◌, length, take, get_or, None, Some, refl, ap, arith}
use Rattle.vb_lexer.specs.{Characters.{Character, run_len, is_char, is_name_part, is_readable}, Tokens.char_at}

-- n characters pass, and then the text ends, or one doesn't
pub run_is : (passes : Character → Bool) (text : List Character) (n : ℕ) → n ≤ length text → ((k : ℕ) → k < n → passes (get_or text k None) ≡ true) → (n < length text → passes (get_or text n None) ≡ false) → n ≡ run_len passes text
unfolding run_len
run_is passes [] n within inside over = omega (arith, within)
run_is passes (c ∷ cs) zero within inside over = let no = over (omega arith) in rw no refl
run_is passes (c ∷ cs) (suc n) within inside over =
    let yes = inside 0 (omega arith) in
    let rest = run_is passes cs n (omega (arith, within)) (λ k below. inside (suc k) (omega (arith, below))) (λ below. over (omega (arith, below))) in
    rw yes (ap (λ k. suc k) rest)

pub empty_of : {A : Type 0} (xs : List A) → length xs ≡ 0 → xs ≡ []
empty_of [] e = refl
empty_of (x ∷ xs) e = absurd (omega (arith, e))

name_readable_by : (b : Bool) (c : ℕ) (cs : List Character) → is_name_part (Some c) ≡ b → is_readable (take (run_len is_name_part cs) cs) ≡ true → is_readable (take (run_len is_name_part (Some c ∷ cs)) (Some c ∷ cs)) ≡ true
unfolding run_len
name_readable_by true c cs e rest = rw e rest
name_readable_by false c cs e rest = rw e refl

-- the characters of a name are readable
pub name_readable : (text : List Character) → is_readable (take (run_len is_name_part text) text) ≡ true
unfolding run_len
name_readable [] = refl
name_readable (None ∷ cs) = refl
name_readable (Some c ∷ cs) = name_readable_by (is_name_part (Some c)) c cs refl (name_readable cs)

-- a character that is readable stands inside the text
pub at_within : (text : List Character) (i x : ℕ) → is_char (char_at text i) x ≡ true → i < length text
at_within [] i x e = cc
at_within (c ∷ cs) zero x e = omega arith
at_within (c ∷ cs) (suc i) x e = omega (arith, at_within cs i x e)
