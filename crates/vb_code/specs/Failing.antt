-- The first place at which code fails its check (ECMA-335, III.1.8.1.3). The least place that has shapes is visited next, and
-- gives its shapes to the places to which it leads.
use Rattle.std.specs.Prelude.{◌≡◌, ℕ, ◌<◌, ◌≤◌, ◌⊎◌, Bool, false, ◌||◌, ◌==◌, if◌then◌else◌, List, [], ◌∷◌, length, Option, Some, None, IsSome, slice_get}
use Rattle.vb_code.specs.{declared.instr.Instr.Instr, Code.{Code, body_of}, Shapes.{Shapes, Turns, leads_to}}

-- One visit: the shapes before the place, and those that it gives; none where the place fails.
pub record Visit : Type 0 where
  pub place : ℕ
  pub shapes : Shapes
  pub gives : Option Shapes

abbrev pub is_in : ℕ → List ℕ → Bool
is_in p [] = false
is_in p (q ∷ qs) = (q == p) || is_in p qs

abbrev pub leads_in : Option Instr → ℕ → List ℕ
leads_in None place = []
leads_in (Some i) place = leads_to i place

-- the shapes that are kept, or else the new ones
abbrev pub or_new : Option Shapes → Option Shapes → Option Shapes
or_new None new = new
or_new (Some kept) new = Some kept

-- The shapes before a place after these visits, the latest first: none at the procedure's first place, and elsewhere those
-- that the first visit which leads there has given.
abbrev pub before : Code → List Visit → ℕ → Option Shapes
before c [] place = if place == 0 then Some [] else None
before c (v ∷ vs) place = or_new (before c vs place) (if is_in place (leads_in (slice_get (body_of c) v.place) v.place) then v.gives else None)

abbrev pub IsVisited : List Visit → ℕ → Type 0
IsVisited [] place = ⊥
IsVisited (v ∷ vs) place = (v.place ≡ place) ⊎ IsVisited vs place

abbrev pub Fits : Option Shapes → Shapes → Type 0
Fits None js = Unit {0}
Fits (Some ks) js = ks ≡ js

-- the places are there, and the shapes fit those that they have
abbrev pub AllFit : Code → List Visit → List ℕ → Shapes → Type 0
AllFit c vs [] js = Unit {0}
AllFit c vs (p ∷ ps) js = (p < length (body_of c)) × Fits (before c vs p) js × AllFit c vs ps js

-- A place finds what it needs before ks, and gives js to where it leads.
pub record Passes (c : Code) (vs : List Visit) (place : ℕ) (ks js : Shapes) : Type 0 where
  pub instr : Instr
  pub there : slice_get (body_of c) place ≡ Some instr
  pub turns : Turns c instr ks js
  pub fit : AllFit c vs (leads_to instr place) js

abbrev pub IsVerdict : Code → List Visit → ℕ → Shapes → Option Shapes → Type 0
IsVerdict c vs place ks None = (js : Shapes) → Passes c vs place ks js → ⊥
IsVerdict c vs place ks (Some js) = Passes c vs place ks js

-- the visit after these: the least place that has shapes and wasn't visited
pub record IsNext (c : Code) (vs : List Visit) (v : Visit) : Type 0 where
  pub given : before c vs v.place ≡ Some v.shapes
  pub fresh : IsVisited vs v.place → ⊥
  pub least : (place : ℕ) → place < v.place → IsSome (before c vs place) → IsVisited vs place
  pub verdict : IsVerdict c vs v.place v.shapes v.gives

abbrev pub AreVisits : Code → List Visit → Type 0
AreVisits c [] = Unit {0}
AreVisits c (v ∷ vs) = IsNext c vs v × AreVisits c vs

-- the visits of the whole check: no place that has shapes is left
pub record AreAllVisits (c : Code) (vs : List Visit) : Type 0 where
  pub each : AreVisits c vs
  pub all : (place : ℕ) → IsSome (before c vs place) → IsVisited vs place

abbrev pub HasFailed : List Visit → ℕ → Type 0
HasFailed [] place = ⊥
HasFailed (v ∷ vs) place = ((v.place ≡ place) × (v.gives ≡ None)) ⊎ HasFailed vs place

-- the least place of those that were visited and have failed
pub record IsFirstFailing (c : Code) (place : ℕ) : Type 0 where
  pub visits : List Visit
  pub whole : AreAllVisits c visits
  pub failed : HasFailed visits place
  pub first : (other : ℕ) → HasFailed visits other → place ≤ other
