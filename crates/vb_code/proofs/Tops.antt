-- The topmost operand is the last of the values.
use Rattle.std.proofs.Common.{◌≡◌, ℕ, ◌+◌, ◌-◌, ◌≤◌, List, [], ◌∷◌, ◌++◌, map, reverse, length, drop, set, refl, sym, ap, subst, ◌∙◌, arith, length-append, Option, Some}
use Rattle.std.specs.Option.{option_to_list}
use Rattle.std.proofs.Math.Seq.{set-append_seam}
use Rattle.std.proofs.lemmas.List.{map-append, reverse-append, length-reverse, length-map}

module _ {A B : Type 0} (f : A → B) where
  -- the last value
  snoc : (xs : List A) → 1 ≤ length xs → (ys : List A) × (y : A) × (xs ≡ ys ++ y ∷ [])
  snoc [] le = absurd (omega arith)
  snoc (x ∷ []) le = ([], x, refl)
  snoc (x ∷ y ∷ xs) le = let r = snoc (y ∷ xs) (omega arith) in (x ∷ r.0, r.1, ap (λ z. x ∷ z) r.2)

  pub seen_snoc : (ys : List A) (y : A) → reverse (map f (ys ++ y ∷ [])) ≡ f y ∷ reverse (map f ys)
  seen_snoc ys y = ap reverse (map-append f ys (y ∷ [])) ∙ reverse-append (map f ys) (f y ∷ [])

  pub seen_long : (xs : List A) → length (reverse (map f xs)) ≡ length xs
  seen_long xs = length-reverse (map f xs) ∙ length-map xs f

  set_snoc : (ys : List A) (y v : A) → reverse (map f (set (ys ++ y ∷ []) (length ys) v)) ≡ f v ∷ drop 1 (reverse (map f (ys ++ y ∷ [])))
  set_snoc ys y v = ap (λ z. reverse (map f z)) (set-append_seam ys y [] v) ∙ seen_snoc ys v ∙ ap (λ z. f v ∷ drop 1 z) (sym (seen_snoc ys y))

  -- the last value is set
  pub seen-set : (xs : List A) (n : ℕ) (v : A) → n ≡ length xs → 1 ≤ length xs → reverse (map f (set xs (n - 1) v)) ≡ f v ∷ drop 1 (reverse (map f xs))
  seen-set xs n v e le =
      let s = snoc xs le in
      let long : length xs ≡ length s.0 + 1 = ap length s.2 ∙ length-append s.0 (s.1 ∷ []) in
      let last : length s.0 ≡ n - 1 = omega (arith, long, e) in
      subst (λ z. reverse (map f (set z (n - 1) v)) ≡ f v ∷ drop 1 (reverse (map f z))) (sym s.2) (subst (λ k. reverse (map f (set (s.0 ++ s.1 ∷ []) k v)) ≡ f v ∷ drop 1 (reverse (map f (s.0 ++ s.1 ∷ [])))) last (set_snoc s.0 s.1 v))

  -- the last value is taken, and then the last one is set
  pub seen-set_popped : (xs ys : List A) (o : Option A) (y : A) (n : ℕ) (v : A) → xs ≡ ys ++ option_to_list o → o ≡ Some y → 2 ≤ length (reverse (map f xs)) → n ≡ length ys → reverse (map f (set ys (n - 1) v)) ≡ f v ∷ drop 2 (reverse (map f xs))
  seen-set_popped xs ys o y n v e some le long =
      let whole : xs ≡ ys ++ y ∷ [] = e ∙ ap (λ z. ys ++ option_to_list z) some in
      let seen : reverse (map f xs) ≡ f y ∷ reverse (map f ys) = ap (λ z. reverse (map f z)) whole ∙ seen_snoc ys y in
      let more : 1 ≤ length ys = omega (arith, le, seen_long xs, ap length whole, length-append ys (y ∷ [])) in
      seen-set ys n v long more ∙ ap (λ z. f v ∷ drop 2 z) (sym seen)
