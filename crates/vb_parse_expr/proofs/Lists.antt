-- The last of a list.
use Rattle.std.proofs.Common.{◌≡◌, ℕ, suc, ◌-◌, List, [], ◌∷◌, ◌++◌, length, Some, None, refl, ap, ◌∙◌, arith}
use Rattle.std.specs.List.{slice_get}
use Rattle.vb_parse_expr.specs.TypeReading.{popped, popped_behind}

pub popped_append : {A : Type 0} (vs : List A) (x : A) → popped (vs ++ x ∷ []) ≡ Some (vs, x)
unfolding popped
popped_append [] x = refl
popped_append (v ∷ vs) x = ap (popped_behind v) (popped_append vs x)

pub popped_last : {A : Type 0} (ws vs : List A) (x : A) → ws ≡ vs ++ x ∷ [] → popped ws ≡ Some (vs, x)
popped_last ws vs x e = ap popped e ∙ popped_append vs x

-- the last of a list that isn't empty is at the last place
pub popped_cons : {A : Type 0} (w : A) (ws : List A) → (vs : List A) × (x : A) × (popped (w ∷ ws) ≡ Some (vs, x)) × (slice_get (w ∷ ws) (length ws) ≡ Some x)
unfolding popped
popped_cons w [] = ([], w, refl, refl)
popped_cons w (v ∷ ws) = let p = popped_cons v ws in (w ∷ p.0, p.1, ap (popped_behind w) p.2, p.3)

less_one : (n : ℕ) → suc n - 1 ≡ n
less_one n = omega arith

pub popped_some : {A : Type 0} (ws : List A) (x : A) → Some x ≡ slice_get ws (length ws - 1) → (vs : List A) × (popped ws ≡ Some (vs, x))
popped_some [] x e = absurd cc
popped_some (w ∷ ws) x e =
    let p = popped_cons w ws in
    let f : slice_get (w ∷ ws) (length (w ∷ ws) - 1) ≡ slice_get (w ∷ ws) (length ws) = ap (slice_get (w ∷ ws)) (less_one (length ws)) in
    let g : p.1 ≡ x = cc in
    (p.0, p.2 ∙ ap (λ y. Some (p.0, y)) g)

pub popped_none : {A : Type 0} (ws : List A) → None ≡ slice_get ws (length ws - 1) → popped ws ≡ None
unfolding popped
popped_none [] e = refl
popped_none (w ∷ ws) e =
    let p = popped_cons w ws in
    let f : slice_get (w ∷ ws) (length (w ∷ ws) - 1) ≡ slice_get (w ∷ ws) (length ws) = ap (slice_get (w ∷ ws)) (less_one (length ws)) in
    absurd cc
