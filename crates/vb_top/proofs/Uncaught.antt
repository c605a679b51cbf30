-- The line of an exception that nothing caught, in its parts.
use Rattle.std.proofs.Common.{◌≡◌, ℕ, ◌≤◌, List, ◌++◌, Option, subst}
use Rattle.std.specs.Prelude.{Result}
use Rattle.std.specs.Io.KnownBytes.{Appends}
use Rattle.vb_io.specs.Outside.{AppendsPart, Writes}
use Rattle.vb_io.proofs.Written.{part_of_both, both_written}

pub whole_line : {T E : Type 0} (a b c : Option (List ℕ)) (f g h : ℕ) (front number digits colon name text back : List ℕ) (r : Result T E) → number ≡ digits → name ≡ text → Appends a b (front ++ number ++ colon) → f ≤ g → Writes b c g h (name ++ back) r → Writes a c f h (front ++ digits ++ colon ++ (text ++ back)) r
whole_line a b c f g h front number digits colon name text back r e k p le w =
    subst (λ x. Writes a c f h (front ++ x ++ colon ++ (text ++ back)) r) e (subst (λ x. Writes a c f h (front ++ number ++ colon ++ (x ++ back)) r) k (both_written a b c f g h (front ++ number ++ colon) (name ++ back) r p le w))

pub part_of_line : (a b : Option (List ℕ)) (front number digits colon rest : List ℕ) → number ≡ digits → AppendsPart a b (front ++ number ++ colon) → AppendsPart a b (front ++ digits ++ colon ++ rest)
part_of_line a b front number digits colon rest e p =
    subst (λ x. AppendsPart a b (front ++ x ++ colon ++ rest)) e (part_of_both a b (front ++ number ++ colon) rest p)
