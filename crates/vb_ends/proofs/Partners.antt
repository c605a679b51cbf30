-- A block without an ender was passed by the ender of one round it, or is open at the end.
use Rattle.std.proofs.Common.{◌≡◌, ◌⊎◌, inl, inr, ℕ, ◌<◌, List, [], ◌∷◌, length, sym, ◌∙◌, ap, subst, arith}
use Rattle.std.proofs.lemmas.Bool.{cases_lt}
use Rattle.vb_ends.specs.{declared.role.{Sort.Sort, Role.Role, Mark.Mark}, Enders.{Block, Closes, IsOpen, IsStray, HasOpener, HasEnder, HasStray, BreaksBackwards}, Stack.{HasNoBlock, IsPassed, MarkBreaks, SomeMarkBreaks, IsLeftOpen}}
use Rattle.vb_ends.specs.declared.role.Role.TheVariants as role

-- where these are open, an ender of the sort closes a block, or has none
abbrev pub IsDecided : (Block → Type 0) → Sort → Type 0
IsDecided Open s = ((b : Block) × Closes Open s b) ⊎ HasNoBlock Open s

-- where these are open, a mark of the role passes the block
abbrev Passes : (Block → Type 0) → Role → Block → Type 0
Passes Open (role.Opens s) b = ⊥
Passes Open (role.Ends s) b = IsPassed Open s b
Passes Open role.Stays b = ⊥

-- a mark passes the block
abbrev WasPassed : List Mark → Block → Type 0
WasPassed [] b = ⊥
WasPassed (r ∷ before) b = Passes (IsOpen before) r.role b ⊎ WasPassed before b

-- WHAT IS OPEN

opener_by : (k : Role) (here : ℕ) (before : List Mark) (b : Block) → (IsOpen before b → HasOpener before b) → IsOpen (record { role = k; line = here } ∷ before) b → HasOpener (record { role = k; line = here } ∷ before) b
opener_by (role.Opens s) here before b again (inl e) = inl e
opener_by (role.Opens s) here before b again (inr h) = inr (again h)
opener_by (role.Ends s) here before b again h = inr (again h.0)
opener_by role.Stays here before b again h = inr (again h)

opener : (marks : List Mark) (b : Block) → IsOpen marks b → HasOpener marks b
opener [] b h = absurd h
opener (r ∷ before) b h = opener_by r.role r.line before b (opener before b) h

placed_by : (k : Role) (here : ℕ) (before : List Mark) (b : Block) → (HasOpener before b → b.place < length before) → HasOpener (record { role = k; line = here } ∷ before) b → b.place < length (record { role = k; line = here } ∷ before)
placed_by (role.Opens s) here before b again (inl e) = let same : b.place ≡ length before = ap (λ y. y.place) e in omega (arith, same)
placed_by (role.Ends s) here before b again (inl e) = absurd e
placed_by role.Stays here before b again (inl e) = absurd e
placed_by k here before b again (inr h) = let within = again h in omega (arith, within)

-- a block's opener is one of the marks
placed : (marks : List Mark) (b : Block) → HasOpener marks b → b.place < length marks
placed [] b h = absurd h
placed (r ∷ before) b h = placed_by r.role r.line before b (placed before b) h

one_by : (k : Role) (here : ℕ) (before : List Mark) (b c : Block) → b.place ≡ c.place → (HasOpener before b → HasOpener before c → b ≡ c)
    → HasOpener (record { role = k; line = here } ∷ before) b → HasOpener (record { role = k; line = here } ∷ before) c → b ≡ c
one_by (role.Opens s) here before b c same again (inl e) (inl f) = e ∙ sym f
one_by (role.Opens s) here before b c same again (inl e) (inr h) = let at : b.place ≡ length before = ap (λ y. y.place) e in let within = placed before c h in absurd (omega (arith, at, within, same))
one_by (role.Opens s) here before b c same again (inr h) (inl f) = let at : c.place ≡ length before = ap (λ y. y.place) f in let within = placed before b h in absurd (omega (arith, at, within, same))
one_by (role.Ends s) here before b c same again (inl e) g = absurd e
one_by (role.Ends s) here before b c same again (inr h) (inl f) = absurd f
one_by role.Stays here before b c same again (inl e) g = absurd e
one_by role.Stays here before b c same again (inr h) (inl f) = absurd f
one_by k here before b c same again (inr h) (inr g) = again h g

-- a place is that of one block
one : (marks : List Mark) (b c : Block) → b.place ≡ c.place → HasOpener marks b → HasOpener marks c → b ≡ c
one [] b c same h g = absurd h
one (r ∷ before) b c same h g = one_by r.role r.line before b c same (one before b c same) h g

-- WHAT IS NO LONGER OPEN

-- what was ended had an opener
ended_by : (k : Role) (here : ℕ) (before : List Mark) (b : Block) → (HasEnder before b → HasOpener before b) → HasEnder (record { role = k; line = here } ∷ before) b → HasOpener before b
ended_by (role.Opens s) here before b again (inl e) = absurd e
ended_by (role.Ends s) here before b again (inl k) = opener before b k.is_open
ended_by role.Stays here before b again (inl e) = absurd e
ended_by k here before b again (inr h) = again h

ended_opener : (marks : List Mark) (b : Block) → HasEnder marks b → HasOpener marks b
ended_opener [] b h = absurd h
ended_opener (r ∷ before) b h = inr (ended_by r.role r.line before b (ended_opener before b) h)

passed_by : (k : Role) (here : ℕ) (before : List Mark) (b : Block) → (WasPassed before b → HasOpener before b) → WasPassed (record { role = k; line = here } ∷ before) b → HasOpener before b
passed_by (role.Opens s) here before b again (inl e) = absurd e
passed_by (role.Ends s) here before b again (inl p) = opener before b p.is_open
passed_by role.Stays here before b again (inl e) = absurd e
passed_by k here before b again (inr h) = again h

passed_opener : (marks : List Mark) (b : Block) → WasPassed marks b → HasOpener marks b
passed_opener [] b h = absurd h
passed_opener (r ∷ before) b h = inr (passed_by r.role r.line before b (passed_opener before b) h)

-- what had an opener before isn't opened again
reopened : (s : Sort) (here : ℕ) (before : List Mark) (b : Block) → HasOpener before b → IsOpen (record { role = role.Opens s; line = here } ∷ before) b → IsOpen before b
reopened s here before b h (inl e) = let at : b.place ≡ length before = ap (λ y. y.place) e in let within = placed before b h in absurd (omega (arith, at, within))
reopened s here before b h (inr k) = k

ended_not_by : (k : Role) (here : ℕ) (before : List Mark) (b : Block) → (HasEnder before b → IsOpen before b → ⊥) → HasEnder (record { role = k; line = here } ∷ before) b → IsOpen (record { role = k; line = here } ∷ before) b → ⊥
ended_not_by (role.Opens s) here before b again (inl e) g = absurd e
ended_not_by (role.Opens s) here before b again (inr h) g = again h (reopened s here before b (ended_opener before b h) g)
ended_not_by (role.Ends s) here before b again (inl k) g = let within = g.1 b k in omega (arith, within)
ended_not_by (role.Ends s) here before b again (inr h) g = again h g.0
ended_not_by role.Stays here before b again (inl e) g = absurd e
ended_not_by role.Stays here before b again (inr h) g = again h g

ended_not : (marks : List Mark) (b : Block) → HasEnder marks b → IsOpen marks b → ⊥
ended_not [] b h g = absurd h
ended_not (r ∷ before) b h g = ended_not_by r.role r.line before b (ended_not before b) h g

passed_not_by : (k : Role) (here : ℕ) (before : List Mark) (b : Block) → (WasPassed before b → IsOpen before b → ⊥) → WasPassed (record { role = k; line = here } ∷ before) b → IsOpen (record { role = k; line = here } ∷ before) b → ⊥
passed_not_by (role.Opens s) here before b again (inl e) g = absurd e
passed_not_by (role.Opens s) here before b again (inr h) g = again h (reopened s here before b (passed_opener before b h) g)
passed_not_by (role.Ends s) here before b again (inl p) g = let within = g.1 p.around p.closes in let inside = p.inside in omega (arith, within, inside)
passed_not_by (role.Ends s) here before b again (inr h) g = again h g.0
passed_not_by role.Stays here before b again (inl e) g = absurd e
passed_not_by role.Stays here before b again (inr h) g = again h g

passed_not : (marks : List Mark) (b : Block) → WasPassed marks b → IsOpen marks b → ⊥
passed_not [] b h g = absurd h
passed_not (r ∷ before) b h g = passed_not_by r.role r.line before b (passed_not before b) h g

apart_by : (k : Role) (here : ℕ) (before : List Mark) (b : Block) → (WasPassed before b → HasEnder before b → ⊥) → WasPassed (record { role = k; line = here } ∷ before) b → HasEnder (record { role = k; line = here } ∷ before) b → ⊥
apart_by (role.Opens s) here before b again (inl e) g = absurd e
apart_by (role.Opens s) here before b again (inr h) (inl f) = absurd f
apart_by (role.Ends s) here before b again (inl p) (inl k) = let past = p.closes.innermost b k.is_open (inr k.fits) in let inside = p.inside in omega (arith, past, inside)
apart_by (role.Ends s) here before b again (inl p) (inr g) = ended_not before b g p.is_open
apart_by (role.Ends s) here before b again (inr h) (inl k) = passed_not before b h k.is_open
apart_by role.Stays here before b again (inl e) g = absurd e
apart_by role.Stays here before b again (inr h) (inl f) = absurd f
apart_by k here before b again (inr h) (inr g) = again h g

-- what was passed has no ender
apart : (marks : List Mark) (b : Block) → WasPassed marks b → HasEnder marks b → ⊥
apart [] b h g = absurd h
apart (r ∷ before) b h g = apart_by r.role r.line before b (apart before b) h g

-- EACH BLOCK IS OPEN, ENDED OR PASSED

abbrev Fate : List Mark → Block → Type 0
Fate marks b = IsOpen marks b ⊎ HasEnder marks b ⊎ WasPassed marks b

fate_found : (s : Sort) (here : ℕ) (before : List Mark) (b c : Block) → IsOpen before b → Closes (IsOpen before) s c → Fate (record { role = role.Ends s; line = here } ∷ before) b
fate_found s here before b c h k = elim (cases_lt b.place c.place) [
  | inl below ↦ inl (
    h,
    λ closed j.
        let past = j.innermost c k.is_open (inr k.fits) in omega (arith, below, past),
  )
  | inr past ↦ elim (cases_lt c.place b.place) [
    | inl inside ↦ inr (inr (inl (record { is_open = h; around = c; closes = k; inside = inside })))
    | inr within ↦
        let same : c.place ≡ b.place = omega (arith, past, within) in
        inr (inl (inl (subst (λ y. Closes (IsOpen before) s y) (one before c b same (opener before c k.is_open) (opener before b h)) k)))
  ]
]

fate_ender : (s : Sort) (here : ℕ) (before : List Mark) (b : Block) → IsDecided (IsOpen before) s → IsOpen before b → Fate (record { role = role.Ends s; line = here } ∷ before) b
fate_ender s here before b (inl (c, k)) h = fate_found s here before b c h k
fate_ender s here before b (inr none) h = inl (h, λ closed k. absurd (none closed k))

fate_by : ((marks : List Mark) (s : Sort) → IsDecided (IsOpen marks) s) → (k : Role) (here : ℕ) (before : List Mark) (b : Block) → (HasOpener before b → Fate before b)
    → HasOpener (record { role = k; line = here } ∷ before) b → Fate (record { role = k; line = here } ∷ before) b
fate_by decided (role.Opens s) here before b again (inl e) = inl (inl e)
fate_by decided (role.Opens s) here before b again (inr h) = elim (again h) [ inl k ↦ inl (inr k) | inr (inl k) ↦ inr (inl (inr k)) | inr (inr k) ↦ inr (inr (inr k)) ]
fate_by decided (role.Ends s) here before b again (inl e) = absurd e
fate_by decided (role.Ends s) here before b again (inr h) = elim (again h) [ inl k ↦ fate_ender s here before b (decided before s) k | inr (inl k) ↦ inr (inl (inr k)) | inr (inr k) ↦ inr (inr (inr k)) ]
fate_by decided role.Stays here before b again (inl e) = absurd e
fate_by decided role.Stays here before b again (inr h) = elim (again h) [ inl k ↦ inl k | inr (inl k) ↦ inr (inl (inr k)) | inr (inr k) ↦ inr (inr (inr k)) ]

fate : ((marks : List Mark) (s : Sort) → IsDecided (IsOpen marks) s) → (marks : List Mark) (b : Block) → HasOpener marks b → Fate marks b
fate decided [] b h = absurd h
fate decided (r ∷ before) b h = fate_by decided r.role r.line before b (fate decided before b) h

-- THE SAME LINES

abbrev IsLineOfPassed : List Mark → ℕ → Type 0
IsLineOfPassed marks line = (b : Block) × WasPassed marks b × (line ≡ b.line)

one_more : (r : Mark) (before : List Mark) (line : ℕ) → HasStray before line ⊎ IsLineOfPassed before line → HasStray (r ∷ before) line ⊎ IsLineOfPassed (r ∷ before) line
one_more r before line (inl h) = inl (inr h)
one_more r before line (inr (b, h, e)) = inr (b, inr h, e)

mark_by : (k : Role) (here : ℕ) (before : List Mark) (line : ℕ) → MarkBreaks (IsOpen before) k here line
    → HasStray (record { role = k; line = here } ∷ before) line ⊎ IsLineOfPassed (record { role = k; line = here } ∷ before) line
mark_by (role.Opens s) here before line h = absurd h
mark_by (role.Ends s) here before line (inl h) = inl (inl h)
mark_by (role.Ends s) here before line (inr (b, p, e)) = inr (b, inl p, e)
mark_by role.Stays here before line h = absurd h

marks_by : (marks : List Mark) (line : ℕ) → SomeMarkBreaks marks line → HasStray marks line ⊎ IsLineOfPassed marks line
marks_by [] line h = absurd h
marks_by (r ∷ before) line (inl h) = mark_by r.role r.line before line h
marks_by (r ∷ before) line (inr h) = one_more r before line (marks_by before line h)

pub there : (marks : List Mark) (line : ℕ) → SomeMarkBreaks marks line ⊎ IsLeftOpen marks line → BreaksBackwards marks line
there marks line (inl h) = elim (marks_by marks line h) [
  | inl k ↦ inl k
  | inr (b, k, e) ↦ inr (b, passed_opener marks b k, λ g. apart marks b k g, e)
]
there marks line (inr (b, k, e)) = inr (b, opener marks b k, λ g. ended_not marks b g k, e)

stray_by : (k : Role) (here : ℕ) (before : List Mark) (line : ℕ) → (line ≡ here) × IsStray (IsOpen before) k → MarkBreaks (IsOpen before) k here line
stray_by (role.Opens s) here before line h = absurd h.1
stray_by (role.Ends s) here before line h = inl h
stray_by role.Stays here before line h = absurd h.1

stray : (marks : List Mark) (line : ℕ) → HasStray marks line → SomeMarkBreaks marks line
stray [] line h = absurd h
stray (r ∷ before) line (inl h) = inl (stray_by r.role r.line before line h)
stray (r ∷ before) line (inr h) = inr (stray before line h)

passes_by : (k : Role) (here : ℕ) (before : List Mark) (b : Block) (line : ℕ) → line ≡ b.line → Passes (IsOpen before) k b → MarkBreaks (IsOpen before) k here line
passes_by (role.Opens s) here before b line e h = absurd h
passes_by (role.Ends s) here before b line e h = inr (b, h, e)
passes_by role.Stays here before b line e h = absurd h

passes : (marks : List Mark) (b : Block) (line : ℕ) → line ≡ b.line → WasPassed marks b → SomeMarkBreaks marks line
passes [] b line e h = absurd h
passes (r ∷ before) b line e (inl h) = inl (passes_by r.role r.line before b line e h)
passes (r ∷ before) b line e (inr h) = inr (passes before b line e h)

pub back : ((marks : List Mark) (s : Sort) → IsDecided (IsOpen marks) s) → (marks : List Mark) (line : ℕ) → BreaksBackwards marks line → SomeMarkBreaks marks line ⊎ IsLeftOpen marks line
back decided marks line (inl h) = inl (stray marks line h)
back decided marks line (inr (b, h, none, e)) = elim (fate decided marks b h) [
  | inl k ↦ inr (b, k, e)
  | inr (inl k) ↦ absurd (none k)
  | inr (inr k) ↦ inl (passes marks b line e k)
]
