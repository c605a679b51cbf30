-- One turn of the loop that reads a list.
use Rattle.std.proofs.Common.{◌≡◌, ℕ, zero, suc, ◌+◌, ◌-◌, ◌≤◌, ◌<◌, List, [], ◌∷◌, ◌++◌, Some, None, ap, ◌∙◌, arith}
use Rattle.vb_syntax.specs.declared.tokens.Token.{Token}
use Rattle.vb_parse_expr.specs.{Reading.after_comma, TypeReading.{Read, and_then}}
use Rattle.vb_parse_decl.specs.DeclarationReading.{listed, listed_on}

module _ {X : Type 0} (read : List Token → Read X) where
  more : List X → ℕ → X → List Token → Read (List X)
  more xs k x us = listed_on (listed read k) (xs ++ x ∷ []) us (after_comma us)

  turn : (n at : ℕ) (xs : List X) (ts : List Token) → at < n → listed read (n - at) xs ts ≡ and_then (read ts) (more xs (n - (at + 1)))
  unfolding listed more
  turn n at xs ts below = let e : n - at ≡ suc (n - (at + 1)) = omega arith in ap (λ k. listed read k xs ts) e

  pub turn_fails : (n at : ℕ) (xs : List X) (ts : List Token) → at < n → read ts ≡ None → listed read (n - at) xs ts ≡ None
  turn_fails n at xs ts below e = turn n at xs ts below ∙ ap (λ r. and_then r (more xs (n - (at + 1)))) e

  turn_finds : (n at : ℕ) (xs : List X) (ts us : List Token) (x : X) → at < n → read ts ≡ Some (x, us)
      → listed read (n - at) xs ts ≡ listed_on (listed read (n - (at + 1))) (xs ++ x ∷ []) us (after_comma us)
  unfolding more
  turn_finds n at xs ts us x below e = turn n at xs ts below ∙ ap (λ r. and_then r (more xs (n - (at + 1)))) e

  pub turn_ends : (n at : ℕ) (xs : List X) (ts us : List Token) (x : X) → at < n → read ts ≡ Some (x, us) → after_comma us ≡ None
      → listed read (n - at) xs ts ≡ Some (xs ++ x ∷ [], us)
  turn_ends n at xs ts us x below e none = turn_finds n at xs ts us x below e ∙ ap (listed_on (listed read (n - (at + 1))) (xs ++ x ∷ []) us) none

  pub turn_goes : (n at : ℕ) (xs : List X) (ts us vs : List Token) (x : X) → at < n → read ts ≡ Some (x, us) → after_comma us ≡ Some vs
      → listed read (n - at) xs ts ≡ listed read (n - (at + 1)) (xs ++ x ∷ []) vs
  turn_goes n at xs ts us vs x below e next = turn_finds n at xs ts us x below e ∙ ap (listed_on (listed read (n - (at + 1))) (xs ++ x ∷ []) us) next

  pub no_turn : (n at : ℕ) (xs : List X) (ts : List Token) → n ≤ at → listed read (n - at) xs ts ≡ None
  unfolding listed
  no_turn n at xs ts done = let e : n - at ≡ zero = omega arith in ap (λ k. listed read k xs ts) e
