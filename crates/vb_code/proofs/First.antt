-- The first state of a thread.
use Rattle.std.proofs.Common.{◌≡◌, List, [], ◌∷◌, map, Some, refl, sym, ap, ◌∙◌}
use Rattle.vb_value.specs.{declared.value.Shape.{Shape, TheVariants.{Num, Bool, Text, Ref}}, Datum.{Datum, shape_of, default_of}}
use Rattle.vb_code.specs.{Code.{Code, locals_of}, Machine.At, Shapes.{IsChecked, IsState}}

shape_of-default : (k : Shape) → shape_of (default_of k) ≡ k
shape_of-default (Num kind) = refl
shape_of-default Bool = refl
shape_of-default Text = refl
shape_of-default Ref = refl

shapes_of-defaults : (ks : List Shape) → map shape_of (map default_of ks) ≡ ks
shapes_of-defaults [] = refl
shapes_of-defaults (k ∷ ks) = ap (λ x. x ∷ map shape_of (map default_of ks)) (shape_of-default k) ∙ ap (λ xs. k ∷ xs) (shapes_of-defaults ks)

pub first_state : (c : Code) (ops slots : List Datum) → IsChecked c → ops ≡ [] → slots ≡ map default_of (locals_of c) → IsState c (At 0 ops slots)
first_state c ops slots checked none defaults =
    let table = checked.0 in
    (table, checked.1, checked.1.start ∙ ap (λ o. Some (Some (map shape_of o))) (sym none), ap (λ s. map shape_of s) defaults ∙ shapes_of-defaults (locals_of c))
