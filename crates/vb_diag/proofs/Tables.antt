-- A look-up in two tables, one after the other.
use Rattle.std.proofs.Common.{◌≡◌, ℕ, Bool, true, false, List, [], ◌∷◌, ◌++◌, refl, sym, ap, ◌∙◌, Bor}
use Rattle.std.specs.Prelude.{Option, Some, None, if◌then◌else◌, ◌==◌}
use Rattle.std.specs.Option.{option_copied, option_or}
use Rattle.vb_diag.specs.Rules.{text_in}

chosen-or : (b : Bool) (t : List ℕ) (x y : Option (List ℕ)) → (if b then Some t else option_or x y) ≡ option_or (if b then Some t else x) y
chosen-or true t x y = refl
chosen-or false t x y = refl

text_in-append : (number : ℕ) (xs ys : List (ℕ × List ℕ)) → text_in (xs ++ ys) number ≡ option_or (text_in xs number) (text_in ys number)
text_in-append number [] ys = refl
text_in-append number (row ∷ xs) ys =
    ap (λ found. if number == row.0 then Some row.1 else found) (text_in-append number xs ys)
    ∙ chosen-or (number == row.0) row.1 (text_in xs number) (text_in ys number)

copied-or : (a b : Option (Bor (List ℕ))) → option_copied (option_or a b) ≡ option_or (option_copied a) (option_copied b)
copied-or None b = refl
copied-or (Some x) b = refl

-- what is found in the first table, or else in the second, is found in the two
pub found_in_two : (number : ℕ) (xs ys : List (ℕ × List ℕ)) (a b found : Option (Bor (List ℕ))) → option_copied a ≡ text_in xs number → option_copied b ≡ text_in ys number → found ≡ option_or a b → option_copied found ≡ text_in (xs ++ ys) number
found_in_two number xs ys a b found in_xs in_ys either =
    ap option_copied either
    ∙ copied-or a b
    ∙ ap (λ x. option_or x (option_copied b)) in_xs
    ∙ ap (λ y. option_or (text_in xs number) y) in_ys
    ∙ sym (text_in-append number xs ys)
