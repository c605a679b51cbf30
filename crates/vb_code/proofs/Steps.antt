-- What stands at a place of a procedure that was made of steps.
use Rattle.std.proofs.Common.{◌≡◌, ℕ, zero, suc, ◌+◌, ◌<◌, Bool, true, false, List, [], ◌∷◌, map, Some, refl, sym, ap, ◌∙◌, arith}
use Rattle.std.specs.Prelude.{slice_get, ◌==◌, if◌then◌else◌}
use Rattle.std.proofs.lemmas.Bool.Decides.{nat_tests}
use Rattle.vb_code.specs.{declared.instr.Step.Step, Code.{begins_from, begins_at}}

-- no statement begins before the places that are listed
pub begins_before : (ss : List Step) (i place : ℕ) → place < i → begins_at (begins_from i ss) place ≡ 0
begins_before [] i place lt = refl
begins_before (s ∷ ss) i place lt =
    let rest : begins_at (begins_from (i + 1) ss) place ≡ 0 = begins_before ss (i + 1) place (omega arith) in
    pick (s.begins == 0) rest
  where
    pick : (b : Bool) → begins_at (begins_from (i + 1) ss) place ≡ 0 → begins_at (if b then begins_from (i + 1) ss else (i, s.begins) ∷ begins_from (i + 1) ss) place ≡ 0
    pick true rest = rest
    pick false rest = let no : (i == place) ≡ false = grind (arith, nat_tests) in rw no rest

pub begins_there : (ss : List Step) (i j : ℕ) (s : Step) → slice_get ss j ≡ Some s → begins_at (begins_from i ss) (i + j) ≡ s.begins
begins_there [] i j s e = cc
begins_there (x ∷ ss) i zero s e = let same : x ≡ s = cc in let at : i + 0 ≡ i = omega arith in rw at (pick (x.begins == 0) refl ∙ ap (λ (y : Step). y.begins) same)
  where
    pick : (b : Bool) → (x.begins == 0) ≡ b → begins_at (if b then begins_from (i + 1) ss else (i, x.begins) ∷ begins_from (i + 1) ss) i ≡ x.begins
    pick true b = let none : x.begins ≡ 0 = grind (arith, nat_tests) in begins_before ss (i + 1) i (omega arith) ∙ sym none
    pick false b = let yes : (i == i) ≡ true = grind (arith, nat_tests) in rw yes refl
begins_there (x ∷ ss) i (suc j) s e =
    let rest : begins_at (begins_from (i + 1) ss) (i + 1 + j) ≡ s.begins = begins_there ss (i + 1) j s e in
    let at : i + suc j ≡ i + 1 + j = omega arith in
    rw at (pick (x.begins == 0) rest)
  where
    pick : (b : Bool) → begins_at (begins_from (i + 1) ss) (i + 1 + j) ≡ s.begins → begins_at (if b then begins_from (i + 1) ss else (i, x.begins) ∷ begins_from (i + 1) ss) (i + 1 + j) ≡ s.begins
    pick true rest = rest
    pick false rest = let no : (i == (i + 1 + j)) ≡ false = grind (arith, nat_tests) in rw no rest

-- the instruction at a place
pub instr_there : (ss : List Step) (j : ℕ) (s : Step) → slice_get ss j ≡ Some s → slice_get (map (λ (x : Step). x.instr) ss) j ≡ Some s.instr
instr_there [] j s e = cc
instr_there (x ∷ ss) zero s e = let same : x ≡ s = cc in ap (λ (y : Step). Some y.instr) same
instr_there (x ∷ ss) (suc j) s e = instr_there ss j s e

-- how many statements begin at a place
pub begins_of_step : (ss : List Step) (j : ℕ) (s : Step) → slice_get ss j ≡ Some s → begins_at (begins_from 0 ss) j ≡ s.begins
begins_of_step ss j s e = let at : 0 + j ≡ j = omega arith in rw (← at) (begins_there ss 0 j s e)
