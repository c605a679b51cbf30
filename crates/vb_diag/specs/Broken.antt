-- Broken rules in the order in which they are told, and the least of a set of them.
use Rattle.std.specs.Prelude.{◌≡◌, ◌⊎◌, ℕ, ◌<◌, ◌≤◌, Option, Some, None}
use Rattle.std.specs.declared.cmp.Ordering.{Ordering}
use Rattle.std.specs.Ordering.{ord_min, nat_cmp, ordering_then}
use Rattle.vb_diag.specs.declared.refusal.Refusal.{Refusal}

-- THE ORDER

-- The first is told before the second, or is it: by the file, of which they come in the order in which they were given, then by
-- the line, then by the number of the rule.
abbrev pub IsNotAfter : Refusal → Refusal → Type 0
IsNotAfter a b = (a.file < b.file) ⊎ ((a.file ≡ b.file) × ((a.line < b.line) ⊎ ((a.line ≡ b.line) × (a.rule ≤ b.rule))))

-- the same, as it is compared
abbrev pub told_order : Refusal → Refusal → Ordering
told_order a b = ordering_then (nat_cmp a.file b.file) (ordering_then (nat_cmp a.line b.line) (nat_cmp a.rule b.rule))

-- THE LEAST OF A SET

-- by an order: none where nothing is in the set, else one that is in it, and not after any that is
abbrev pub IsLeastBy : {X : Type 0} → (X → X → Type 0) → (X → Type 0) → Option X → Type 0
IsLeastBy {X} NotAfter Is None = (x : X) → Is x → ⊥
IsLeastBy {X} NotAfter Is (Some x) = Is x × ((y : X) → Is y → NotAfter x y)

-- of broken rules, the one that is told
abbrev pub IsLeast : (Refusal → Type 0) → Option Refusal → Type 0
IsLeast Broken found = IsLeastBy IsNotAfter Broken found

-- of lines
abbrev pub IsLeastLine : (ℕ → Type 0) → Option ℕ → Type 0
IsLeastLine Broken first = IsLeastBy (λ a b. a ≤ b) Broken first

-- THE LESSER OF TWO

-- by an order; the only one where there is one
abbrev pub lesser_by : {X : Type 0} → (X → X → Ordering) → Option X → Option X → Option X
lesser_by order None b = b
lesser_by order (Some a) None = Some a
lesser_by order (Some a) (Some b) = Some (ord_min order a b)

abbrev pub lesser : Option Refusal → Option Refusal → Option Refusal
lesser a b = lesser_by told_order a b

abbrev pub lesser_line : Option ℕ → Option ℕ → Option ℕ
lesser_line a b = lesser_by nat_cmp a b

-- it is one of the two
abbrev pub IsOneOf : Option Refusal → Option Refusal → Refusal → Type 0
IsOneOf a b r = (a ≡ Some r) ⊎ (b ≡ Some r)

-- SETS OF BROKEN RULES

-- those of a file, of lines and numbers in it
abbrev pub InFile : ℕ → (ℕ → ℕ → Type 0) → Refusal → Type 0
InFile file Breaks r = (r.file ≡ file) × Breaks r.line r.rule

-- one number, in these lines
abbrev pub OfRule : ℕ → (ℕ → Type 0) → ℕ → ℕ → Type 0
OfRule number Broken line rule = (rule ≡ number) × Broken line

-- the rule of a file, where it is broken in a line
abbrev pub broken_at : ℕ → ℕ → Option ℕ → Option Refusal
broken_at file number None = None
broken_at file number (Some line) = Some (record { file = file; line = line; rule = number })
