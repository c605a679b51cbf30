-- Lists that stand at a place of a longer one.
use Rattle.std.proofs.Common.{◌≡◌, ℕ, ◌+◌, ◌<◌, List, [], ◌∷◌, ◌++◌, length, Some, ap, ◌∙◌, subst, arith, append_assoc, length-append}
use Rattle.std.specs.Prelude.{slice_get}
use Rattle.std.proofs.Math.Seq.{get_or-append_seam}
use Rattle.std.proofs.lemmas.Option.{slice_get-get_or}

-- these elements stand at this place
abbrev pub HasAt : {X : Type 0} → List X → ℕ → List X → Type 0
HasAt whole place [] = Unit {0}
HasAt whole place (x ∷ xs) = (slice_get whole place ≡ Some x) × HasAt whole (place + 1) xs

pub has_front : {X : Type 0} (whole : List X) (place : ℕ) (a b : List X) → HasAt whole place (a ++ b) → HasAt whole place a
has_front whole place [] b h = tt
has_front whole place (x ∷ a) b h = (h.0, has_front whole (place + 1) a b h.1)

pub has_back : {X : Type 0} (whole : List X) (place : ℕ) (a b : List X) → HasAt whole place (a ++ b) → HasAt whole (place + length a) b
has_back whole place [] b h = let e : place ≡ place + 0 = omega arith in subst (λ n. HasAt whole n b) e h
has_back whole place (x ∷ a) b h =
    let e : place + 1 + length a ≡ place + length (x ∷ a) = omega arith in
    subst (λ n. HasAt whole n b) e (has_back whole (place + 1) a b h.1)

pub has_all : {X : Type 0} (xs front : List X) → HasAt (front ++ xs) (length front) xs
has_all [] front = tt
has_all (x ∷ xs) front =
    let within : length front < length (front ++ x ∷ xs) = omega (arith, length-append front (x ∷ xs)) in
    let here = slice_get-get_or (front ++ x ∷ xs) (length front) x within ∙ ap Some (get_or-append_seam front x xs x) in
    let n : length (front ++ x ∷ []) ≡ length front + 1 = omega (arith, length-append front (x ∷ [])) in
    let rest = has_all xs (front ++ x ∷ []) in
    let rest' = subst (λ l. HasAt l (length (front ++ x ∷ [])) xs) (append_assoc front (x ∷ []) xs) rest in
    (here, subst (λ m. HasAt (front ++ x ∷ xs) m xs) n rest')
