-- Looking classes up by name.
use Rattle.std.proofs.Common.{◌≡◌, ℕ, zero, suc, ◌+◌, ◌-◌, ◌<◌, ◌≤◌, Bool, true, false, ◌&&◌, ◌||◌, List, [], ◌∷◌, length, drop, get_or, Option, Some, None, refl, sym, ap, ◌∙◌, arith, add-one}
use Rattle.std.specs.Prelude.{slice_get, bytes_eq, nat_eq, if◌then◌else◌}
use Rattle.vb_code.specs.{declared.code.Class.Class, Code.{Code, text_at, class_from, class_name, base_in, inherits, exception}}

pub drop_at : {A : Type 0} (xs : List A) (i : ℕ) (x : A) → slice_get xs i ≡ Some x → drop i xs ≡ x ∷ drop (i + 1) xs
drop_at [] i x e = cc
drop_at (y ∷ xs) zero x e = cc
drop_at (y ∷ xs) (suc i) x e = rw add-one (drop_at xs i x e ∙ rw add-one refl)

pub drop_end : {A : Type 0} (xs : List A) (i : ℕ) → length xs ≤ i → drop i xs ≡ []
drop_end [] zero le = refl
drop_end [] (suc i) le = refl
drop_end (x ∷ xs) zero le = absurd (omega arith)
drop_end (x ∷ xs) (suc i) le = drop_end xs i (omega arith)

pub drop_get : (xs : List ℕ) (i : ℕ) → i < length xs → drop i xs ≡ get_or xs i 0 ∷ drop (i + 1) xs
drop_get [] i lt = absurd (omega arith)
drop_get (x ∷ xs) zero lt = refl
drop_get (x ∷ xs) (suc i) lt = rw add-one (drop_get xs i (omega arith) ∙ rw add-one refl)

-- the first elements that are left are compared, and then the rest
pub same_step : (xs ys : List ℕ) (i : ℕ) → i < length xs → i < length ys → bytes_eq (drop i xs) (drop i ys) ≡ (nat_eq (get_or xs i 0) (get_or ys i 0) && bytes_eq (drop (i + 1) xs) (drop (i + 1) ys))
same_step xs ys i lx ly = rw (drop_get xs i lx) (rw (drop_get ys i ly) refl)

pub same_end : (xs ys : List ℕ) (i : ℕ) → length xs ≤ i → length ys ≤ i → bytes_eq (drop i xs) (drop i ys) ≡ true
same_end xs ys i lx ly = rw (drop_end xs i lx) (rw (drop_end ys i ly) refl)

pub same_lengths : (xs ys : List ℕ) → (length xs ≡ length ys → ⊥) → bytes_eq xs ys ≡ false
same_lengths [] [] ne = absurd (ne refl)
same_lengths [] (y ∷ ys) ne = refl
same_lengths (x ∷ xs) [] ne = refl
same_lengths (x ∷ xs) (y ∷ ys) ne = let rest = same_lengths xs ys (λ e. ne (omega (arith, e))) in rw rest (no (nat_eq x y))
  where
    no : (b : Bool) → (b && false) ≡ false
    no true = refl
    no false = refl

-- the class at a place has the name, or a later one
pub class_step : (c : Code) (name : List ℕ) (i : ℕ) (k : Class) → slice_get c.classes i ≡ Some k → class_from i (drop i c.classes) c.texts name ≡ (if bytes_eq (text_at c.texts k.name) name then Some i else class_from (i + 1) (drop (i + 1) c.classes) c.texts name)
class_step c name i k e = ap (λ ks. class_from i ks c.texts name) (drop_at c.classes i k e)

pub class_end : (c : Code) (name : List ℕ) (i : ℕ) → length c.classes ≤ i → class_from i (drop i c.classes) c.texts name ≡ None
class_end c name i le = ap (λ ks. class_from i ks c.texts name) (drop_end c.classes i le)

-- a class that is not System.Exception itself inherits it by its base
pub inherits_on : (c : Code) (long counter : ℕ) (heir : Option ℕ) (k : ℕ) (next : Option ℕ) → counter < long → heir ≡ Some k → bytes_eq (class_name c k) exception ≡ false → next ≡ base_in (slice_get c.classes k) → inherits c (long - (counter + 1)) next ≡ inherits c (long - counter) heir
inherits_on c long counter heir k next lt some other base =
    let less : suc (long - (counter + 1)) ≡ long - counter = omega (arith, lt) in
    ap (λ b. inherits c (long - (counter + 1)) b) base
    ∙ sym (ap (λ b. b || inherits c (long - (counter + 1)) (base_in (slice_get c.classes k))) other)
    ∙ ap (λ h. inherits c (suc (long - (counter + 1))) h) (sym some)
    ∙ ap (λ n. inherits c n heir) less
