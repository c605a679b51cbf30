-- Writes one after another.
use Rattle.std.proofs.Common.{◌≡◌, ℕ, ◌≤◌, List, ◌++◌, take, drop, sym, ap, ◌∙◌, arith, append_assoc, length-append, take-append-drop, Option}
use Rattle.std.specs.Prelude.{Result, Ok, Err}
use Rattle.std.specs.Io.KnownBytes.{Appends}
use Rattle.std.proofs.KnownBytes.{Appends-trans}
use Rattle.vb_io.specs.{Causes.Rose, Outside.{AppendsPart, Writes}}

pub put_more : (a b c : Option (List ℕ)) (text front rest : List ℕ) (n : ℕ) → text ≡ front ++ rest → Appends a b front → Appends b c (take n rest) → (x : List ℕ) × (text ≡ x ++ drop n rest) × Appends a c x
put_more a b c text front rest n e p q =
    (front ++ take n rest, e ∙ ap (λ r. front ++ r) (sym (take-append-drop n rest)) ∙ sym (append_assoc front (take n rest) (drop n rest)), Appends-trans a b c front (take n rest) p q)

pub part_of_both : (a b : Option (List ℕ)) (front back : List ℕ) → AppendsPart a b front → AppendsPart a b (front ++ back)
part_of_both a b front back p = (p.0, p.1 ++ back, ap (λ x. x ++ back) p.2 ∙ append_assoc p.0 p.1 back, omega (arith, p.3, length-append p.1 back), p.4)

rose_before : (f g h : ℕ) → f ≤ g → Rose g h → Rose f h
rose_before f g h le rose = omega arith

pub part_after : (a b c : Option (List ℕ)) (front back : List ℕ) → Appends a b front → AppendsPart b c back → AppendsPart a c (front ++ back)
part_after a b c front back p q =
    (front ++ q.0, q.1, ap (λ x. front ++ x) q.2 ∙ sym (append_assoc front q.0 q.1), q.3, Appends-trans a b c front q.0 p q.4)

pub both_written : {T E : Type 0} (a b c : Option (List ℕ)) (f g h : ℕ) (front back : List ℕ) (r : Result T E) → Appends a b front → f ≤ g → Writes b c g h back r → Writes a c f h (front ++ back) r
both_written a b c f g h front back (Ok x) p le w = record { ok = Appends-trans a b c front back p w.ok; failed = tt; later = omega (arith, w.later) }
both_written a b c f g h front back (Err e) p le w = record { ok = tt; failed = (part_after a b c front back p w.failed.0, rose_before f g h le w.failed.1); later = omega (arith, w.later) }
