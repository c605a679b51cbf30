-- The end of a file.
use Rattle.std.proofs.Common.{◌≡◌, ◌⊎◌, inl, inr, ℕ, Bool, List, Option, None, Some, refl}
use Rattle.vb_diag.specs.{declared.refusal.Refusal.Refusal, Broken.{IsLeast, IsLeastLine, InFile, OfRule, lesser, broken_at}}
use Rattle.vb_diag.proofs.Least.{rules_ordered, least_of_two, least_at, least_same}
use Rattle.vb_lexer.specs.{Lines.{Item, grouped, SomeLineBreaks, RegionBreaks}, Progress.FileBreaks}

-- the least of the rules that lines break, with the first line that breaks the rule of regions
pub least_file : (file : ℕ) (items : List Item) (marks : List (ℕ × Bool)) (least : Option Refusal) (region : Option ℕ) → IsLeast (InFile file (SomeLineBreaks (grouped items))) least → IsLeastLine (RegionBreaks marks) region
    → IsLeast (InFile file (FileBreaks items marks)) (lesser least (broken_at file 9 region))
least_file file items marks least region is first =
    let Lines : Refusal → Type 0 = InFile file (SomeLineBreaks (grouped items)) in
    let Regions : Refusal → Type 0 = InFile file (OfRule 9 (RegionBreaks marks)) in
    least_same rules_ordered (λ x. Lines x ⊎ Regions x) (InFile file (FileBreaks items marks)) (lesser least (broken_at file 9 region))
    (least_of_two rules_ordered Lines Regions least (broken_at file 9 region) is (least_at file 9 (RegionBreaks marks) region first))
    (λ x u. elim u [ inl h ↦ (h.0, inl h.1) | inr h ↦ (h.0, inr h.1) ])
    (λ x h. elim h.1 [ inl b ↦ inl (h.0, b) | inr b ↦ inr (h.0, b) ])

pub none_least : (least other : Option Refusal) → lesser least other ≡ None → least ≡ None
none_least None other e = refl
none_least (Some k) None e = e
none_least (Some k) (Some x) e = cc
