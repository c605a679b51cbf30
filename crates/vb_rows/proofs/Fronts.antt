-- The first element of a list that is taken apart.
use Rattle.std.proofs.Common.{◌≡◌, suc, ◌≤◌, ◌-◌, List, [], ◌∷◌, length, take, drop, get_or, refl, sym, ap, ◌∙◌, arith}
use Rattle.std.proofs.Math.Seq.{take-length}

pub list_of_length-zero : {A : Type 0} (rest : List A) → length rest ≡ 0 → rest ≡ []
list_of_length-zero [] none = refl
list_of_length-zero (x ∷ xs) none = absurd (omega arith)

-- what stands behind the first element, as the code takes it
abbrev pub behind_first : {A : Type 0} → List A → List A
behind_first rest = take (length rest - 1) (drop 1 rest)

pub first_is : {A : Type 0} (rest : List A) (x : A) → 1 ≤ length rest → x ≡ get_or rest 0 x → rest ≡ x ∷ behind_first rest
first_is [] x some e = absurd (omega arith)
first_is (y ∷ ys) x some e =
    let count : suc (length ys) - 1 ≡ length ys = omega arith in
    ap (λ z. z ∷ ys) (sym e) ∙ ap (λ zs. x ∷ zs) (sym (ap (λ n. take n ys) count ∙ take-length ys))
