-- Runs of units.
use Rattle.std.proofs.Common.{◌≡◌, ℕ, zero, suc, ◌<◌, ◌≤◌, Bool, true, false, List, [], ◌∷◌, ◌++◌, length, take, get_or, refl, ap, ◌∙◌, arith}
use Rattle.std.specs.Prelude.{if◌then◌else◌, IsTrue}
use Rattle.std.specs.List.{AllByRecursion as Each}
use Rattle.vb_num.specs.WholeReading.{run_len}

-- n units pass, and then the text ends, or one doesn't
pub run_is : (passes : ℕ → Bool) (units : List ℕ) (n : ℕ) → n ≤ length units → ((k : ℕ) → k < n → passes (get_or units k 0) ≡ true) → (n < length units → passes (get_or units n 0) ≡ false)
    → n ≡ run_len passes units
unfolding run_len
run_is passes [] n within inside over = omega (arith, within)
run_is passes (u ∷ us) zero within inside over = let no = over (omega arith) in rw no refl
run_is passes (u ∷ us) (suc n) within inside over =
    let yes = inside 0 (omega arith) in
    let rest = run_is passes us n (omega (arith, within)) (λ k below. inside (suc k) (omega (arith, below))) (λ below. over (omega (arith, below))) in
    rw yes (ap (λ k. suc k) rest)

abbrev pub starts : (ℕ → Bool) → List ℕ → Bool
starts passes [] = false
starts passes (u ∷ us) = passes u

none_passes : (passes : ℕ → Bool) (us : List ℕ) → starts passes us ≡ false → run_len passes us ≡ 0
unfolding run_len
none_passes passes [] e = refl
none_passes passes (u ∷ us) e = ap (λ (b : Bool). if b then suc (run_len passes us) else 0) e

-- all of these pass, and what is behind them doesn't begin with one that does
pub run_before : (passes : ℕ → Bool) (us vs : List ℕ) → Each (λ u. IsTrue (passes u)) us → starts passes vs ≡ false → run_len passes (us ++ vs) ≡ length us
unfolding run_len
run_before passes [] vs all none = none_passes passes vs none
run_before passes (u ∷ us) vs (passed, all) none =
    ap (λ (b : Bool). if b then suc (run_len passes (us ++ vs)) else 0) passed ∙ ap (λ (n : ℕ). suc n) (run_before passes us vs all none)

pub run_whole : (passes : ℕ → Bool) (us : List ℕ) → Each (λ u. IsTrue (passes u)) us → run_len passes us ≡ length us
unfolding run_len
run_whole passes [] all = refl
run_whole passes (u ∷ us) (passed, all) =
    ap (λ (b : Bool). if b then suc (run_len passes us) else 0) passed ∙ ap (λ (n : ℕ). suc n) (run_whole passes us all)

-- what is before the end of a run passes
run_at : (passes : ℕ → Bool) (u : ℕ) (us : List ℕ) (b : Bool) → passes u ≡ b → Each (λ v. IsTrue (passes v)) (take (run_len passes us) us)
    → Each (λ v. IsTrue (passes v)) (take (if b then suc (run_len passes us) else 0) (u ∷ us))
run_at passes u us true is all = (is, all)
run_at passes u us false is all = tt

pub run_passes : (passes : ℕ → Bool) (us : List ℕ) → Each (λ u. IsTrue (passes u)) (take (run_len passes us) us)
unfolding run_len
run_passes passes [] = tt
run_passes passes (u ∷ us) = run_at passes u us (passes u) refl (run_passes passes us)
