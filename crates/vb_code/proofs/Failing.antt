-- Checked code has no failing place, and code without a failing place is checked.
use Rattle.std.proofs.Common.{◌≡◌, inl, inr, ℕ, zero, suc, ◌+◌, ◌<◌, Bool, true, false, ◌||◌, List, [], ◌∷◌, length, Option, Some, None, refl, sym, ap, subst, ◌∙◌, arith}
use Rattle.std.specs.Prelude.{slice_get, IsSome, ◌==◌, if◌then◌else◌}
use Rattle.std.proofs.lemmas.Bool.Decides.{nat_tests}
use Rattle.std.proofs.lemmas.Option.{slice_get_within}
use Rattle.vb_code.specs.{declared.instr.{Silent.TheVariants.TextOf, Instr.{Instr, TheVariants.{Push, PushText, LoadLocal, StoreLocal, Arith, Compare, Concat, Intrinsic, Jump, JumpIf, Write, Return}}}, Code.{Code, body_of}, Shapes.{Shapes, Turns, leads_to, AllHave, IsShaping, IsChecked}, Failing.{Visit, is_in, leads_in, or_new, before, IsVisited, Fits, AllFit, Passes, IsVerdict, AreVisits, AreAllVisits, HasFailed, IsFirstFailing}}

-- an instruction gives one list of shapes
turns_once : (c : Code) (i : Instr) (ks js os : Shapes) → Turns c i ks js → Turns c i ks os → js ≡ os
turns_once c (Push k) ks js os a b = cc
turns_once c (PushText i) ks js os (la, a) (lb, b) = cc
turns_once c (LoadLocal x) ks js os (k, a, e) (l, b, f) = cc
turns_once c (StoreLocal x) ks js os (k, a, e) (l, b, f) = cc
turns_once c (Arith o k) ks js os (r, a, e, s) (q, b, f, t) = cc
turns_once c (Compare o) ks js os (k, r, a, e) (l, q, b, f) = cc
turns_once c Concat ks js os (r, a, e, s) (q, b, f, t) = cc
turns_once c (Intrinsic TextOf) ks js os (k, r, a, e) (l, q, b, f) = cc
turns_once c (Jump to) ks js os a b = cc
turns_once c (JumpIf to) ks js os a b = cc
turns_once c (Write mark) ks js os a b = cc
turns_once c Return ks js os (a, e) (b, f) = cc

have_in : (table : List (Option Shapes)) (ps : List ℕ) (js : Shapes) (p : ℕ) → AllHave table ps js → is_in p ps ≡ true → slice_get table p ≡ Some (Some js)
have_in table [] js p all e = cc
have_in table (q ∷ qs) js p (here, rest) e = pick (λ f. have_in table qs js p rest f) (q == p) refl e
  where
    pick : (is_in p qs ≡ true → slice_get table p ≡ Some (Some js)) → (b : Bool) → (q == p) ≡ b → (b || is_in p qs) ≡ true → slice_get table p ≡ Some (Some js)
    pick later true b e = let same : q ≡ p = grind (arith, nat_tests) in ap (λ x. slice_get table x) (sym same) ∙ here
    pick later false b e = later e

instr_within : {A : Type 0} (xs : List A) (i : ℕ) → i < length xs → (x : A) × (slice_get xs i ≡ Some x)
instr_within [] i lt = absurd (omega arith)
instr_within (x ∷ xs) zero lt = (x, refl)
instr_within (x ∷ xs) (suc i) lt = instr_within xs i (omega arith)

-- the places to which a visit leads
abbrev places_of : Code → Visit → List ℕ
places_of c v = leads_in (slice_get (body_of c) v.place) v.place

-- the shapes that visits have given are those of the table
abbrev Agree : Code → List (Option Shapes) → List Visit → Type 0
Agree c table vs = (p : ℕ) (ks : Shapes) → before c vs p ≡ Some ks → slice_get table p ≡ Some (Some ks)

module _ (c : Code) (table : List (Option Shapes)) (shaping : IsShaping c table) where
  agrees : (vs : List Visit) → AreVisits c vs → Agree c table vs
  agrees [] are zero ks e = shaping.start ∙ ap Some e
  agrees [] are (suc p) ks e =
      let no : (suc p == 0) ≡ false = grind (arith, nat_tests) in
      let none : None ≡ Some ks = ap (λ (b : Bool). if b then Some [] else None) (sym no) ∙ e in
      cc
  agrees (v ∷ vs) (next, are) p ks e = old (λ q l f. agrees vs are q l f) (before c vs p) refl e
    where
      new : Agree c table vs → v.gives ≡ Some ks → is_in p (places_of c v) ≡ true → slice_get table p ≡ Some (Some ks)
      new earlier gives led =
          let passed : Passes c vs v.place v.shapes ks = subst (IsVerdict c vs v.place v.shapes) gives next.verdict in
          let at : slice_get table v.place ≡ Some (Some v.shapes) = earlier v.place v.shapes next.given in
          let found = shaping.each v.place passed.instr v.shapes passed.there at in
          let same : found.0 ≡ ks = turns_once c passed.instr v.shapes found.0 ks found.1 passed.turns in
          let there : is_in p (leads_to passed.instr v.place) ≡ true = ap (λ o. is_in p (leads_in o v.place)) (sym passed.there) ∙ led in
          have_in table (leads_to passed.instr v.place) found.0 p found.2 there ∙ ap (λ x. Some (Some x)) same

      here : Agree c table vs → (b : Bool) → is_in p (places_of c v) ≡ b → (if b then v.gives else None) ≡ Some ks → slice_get table p ≡ Some (Some ks)
      here earlier true led e = new earlier e led
      here earlier false led e = cc

      old : Agree c table vs → (o : Option Shapes) → before c vs p ≡ o → or_new o (if is_in p (places_of c v) then v.gives else None) ≡ Some ks → slice_get table p ≡ Some (Some ks)
      old earlier None at e = here earlier (is_in p (places_of c v)) refl e
      old earlier (Some k) at e = earlier p ks (at ∙ e)

  all_fit : (vs : List Visit) → AreVisits c vs → (ps : List ℕ) (js : Shapes) → AllHave table ps js → AllFit c vs ps js
  all_fit vs are [] js all = tt
  all_fit vs are (p ∷ ps) js (here, rest) = (subst (λ n. p < n) shaping.long (slice_get_within table p (Some js) here), one (before c vs p) refl, all_fit vs are ps js rest)
    where
      one : (o : Option Shapes) → before c vs p ≡ o → Fits o js
      one None at = tt
      one (Some ks) at = let has = agrees vs are p ks at in cc

  none_fails : (vs : List Visit) → AreVisits c vs → (p : ℕ) → HasFailed vs p → ⊥
  none_fails [] are p failed = failed
  none_fails (v ∷ vs) (next, are) p (inr failed) = none_fails vs are p failed
  none_fails (v ∷ vs) (next, are) p (inl (at, fails)) =
      let verdict : IsVerdict c vs v.place v.shapes None = subst (IsVerdict c vs v.place v.shapes) fails next.verdict in
      let has : slice_get table v.place ≡ Some (Some v.shapes) = agrees vs are v.place v.shapes next.given in
      let within : v.place < length (body_of c) = subst (λ n. v.place < n) shaping.long (slice_get_within table v.place (Some v.shapes) has) in
      let found = instr_within (body_of c) v.place within in
      let each = shaping.each v.place found.0 v.shapes found.1 has in
      verdict each.0 (record { instr = found.0; there = found.1; turns = each.1; fit = all_fit vs are (leads_to found.0 v.place) each.0 each.2 })

pub checked_never_fails : (c : Code) → IsChecked c → (place : ℕ) → IsFirstFailing c place → ⊥
checked_never_fails c checked place f = none_fails c checked.0 checked.1 f.visits f.whole.each place f.failed

-- AND THE OTHER WAY

abbrev tabulate : (ℕ → Option Shapes) → ℕ → ℕ → List (Option Shapes)
tabulate f i zero = []
tabulate f i (suc n) = f i ∷ tabulate f (i + 1) n

length-tabulate : (f : ℕ → Option Shapes) (i n : ℕ) → length (tabulate f i n) ≡ n
length-tabulate f i zero = refl
length-tabulate f i (suc n) = ap suc (length-tabulate f (i + 1) n)

tabulate_at : (f : ℕ → Option Shapes) (i n p : ℕ) → p < n → slice_get (tabulate f i n) p ≡ Some (f (i + p))
tabulate_at f i zero p lt = absurd (omega arith)
tabulate_at f i (suc n) zero lt = let at : i + 0 ≡ i = omega arith in ap (λ x. Some (f x)) (sym at)
tabulate_at f i (suc n) (suc p) lt = let at : i + 1 + p ≡ i + suc p = omega arith in tabulate_at f (i + 1) n p (omega arith) ∙ ap (λ x. Some (f x)) at

module _ (c : Code) where
  abbrev AllGiven : List Visit → List ℕ → Shapes → Type 0
  AllGiven vs [] js = Unit {0}
  AllGiven vs (p ∷ ps) js = (p < length (body_of c)) × (before c vs p ≡ Some js) × AllGiven vs ps js

  -- what a visit that has passed leaves
  abbrev Held : List Visit → ℕ → Type 0
  Held vs p = (i : Instr) × (ks : Shapes) × (js : Shapes) × (slice_get (body_of c) p ≡ Some i) × (before c vs p ≡ Some ks) × Turns c i ks js × AllGiven vs (leads_to i p) js

  stays : (v : Visit) (vs : List Visit) (p : ℕ) (ks : Shapes) → before c vs p ≡ Some ks → before c (v ∷ vs) p ≡ Some ks
  stays v vs p ks at = ap (λ o. or_new o (if is_in p (leads_in (slice_get (body_of c) v.place) v.place) then v.gives else None)) at

  all_stay : (v : Visit) (vs : List Visit) (ps : List ℕ) (js : Shapes) → AllGiven vs ps js → AllGiven (v ∷ vs) ps js
  all_stay v vs [] js all = tt
  all_stay v vs (p ∷ ps) js (within, at, rest) = (within, stays v vs p js at, all_stay v vs ps js rest)

  -- a place to which the visit leads has the shapes that it gives
  all_given : (v : Visit) (vs : List Visit) (js : Shapes) → v.gives ≡ Some js → (ps : List ℕ) → AllFit c vs ps js → ((p : ℕ) → is_in p ps ≡ true → is_in p (leads_in (slice_get (body_of c) v.place) v.place) ≡ true) → AllGiven (v ∷ vs) ps js
  all_given v vs js gives [] fit led = tt
  all_given v vs js gives (p ∷ ps) (within, fits, rest) led = (within, one (before c vs p) refl fits, all_given v vs js gives ps rest (λ q at. led q (or_true (p == q) (is_in q ps) at)))
    where
      or_true : (a b : Bool) → b ≡ true → (a || b) ≡ true
      or_true true b e = refl
      or_true false b e = e

      here : is_in p (p ∷ ps) ≡ true
      here = let yes : (p == p) ≡ true = grind (arith, nat_tests) in ap (λ b. b || is_in p ps) yes

      one : (o : Option Shapes) → before c vs p ≡ o → Fits o js → before c (v ∷ vs) p ≡ Some js
      one None at fits = ap (λ o. or_new o (if is_in p (leads_in (slice_get (body_of c) v.place) v.place) then v.gives else None)) at ∙ ap (λ b. if b then v.gives else None) (led p here) ∙ gives
      one (Some ks) at fits = stays v vs p js (at ∙ ap Some fits)

  held : (vs : List Visit) → AreVisits c vs → ((p : ℕ) → HasFailed vs p → ⊥) → (p : ℕ) → IsVisited vs p → Held vs p
  held [] are fine p visited = absurd visited
  held (v ∷ vs) (next, are) fine p (inr visited) =
      let h = held vs are (λ q f. fine q (inr f)) p visited in
      (h.0, h.1, h.2, h.3, stays v vs p h.1 h.4, h.5, all_stay v vs (leads_to h.0 p) h.2 h.6)
  held (v ∷ vs) (next, are) fine p (inl at) = subst (Held (v ∷ vs)) at (by_gives v.gives refl)
    where
      by_gives : (o : Option Shapes) → v.gives ≡ o → Held (v ∷ vs) v.place
      by_gives None gives = absurd (fine v.place (inl (refl, gives)))
      by_gives (Some js) gives =
          let passed : Passes c vs v.place v.shapes js = subst (IsVerdict c vs v.place v.shapes) gives next.verdict in
          let led = λ (p : ℕ) (e : is_in p (leads_to passed.instr v.place) ≡ true). ap (λ o. is_in p (leads_in o v.place)) passed.there ∙ e in
          (passed.instr, v.shapes, js, passed.there, stays v vs v.place v.shapes next.given, passed.turns, all_given v vs js gives (leads_to passed.instr v.place) passed.fit led)

  module _ (vs : List Visit) (whole : AreAllVisits c vs) (fine : (p : ℕ) → HasFailed vs p → ⊥) where
    abbrev table : List (Option Shapes)
    table = tabulate (before c vs) 0 (length (body_of c))

    table_at : (p : ℕ) → p < length (body_of c) → slice_get table p ≡ Some (before c vs p)
    table_at p lt = let at : 0 + p ≡ p = omega arith in tabulate_at (before c vs) 0 (length (body_of c)) p lt ∙ ap (λ x. Some (before c vs x)) at

    first_is : (us : List Visit) → before c us 0 ≡ Some []
    first_is [] = refl
    first_is (v ∷ us) = stays v us 0 [] (first_is us)

    visited_at : (p : ℕ) (ks : Shapes) → before c vs p ≡ Some ks → Held vs p
    visited_at p ks at = held vs whole.each fine p (whole.all p (subst IsSome (sym at) refl))

    all_have : (ps : List ℕ) (js : Shapes) → AllGiven vs ps js → AllHave table ps js
    all_have [] js all = tt
    all_have (p ∷ ps) js (within, at, rest) = (table_at p within ∙ ap Some at, all_have ps js rest)

    shapes_each : (place : ℕ) (i : Instr) (ks : Shapes) → slice_get (body_of c) place ≡ Some i → slice_get table place ≡ Some (Some ks) → (js : Shapes) × Turns c i ks js × AllHave table (leads_to i place) js
    shapes_each place i ks there has =
        let within : place < length (body_of c) = slice_get_within (body_of c) place i there in
        let at : before c vs place ≡ Some ks = let t = table_at place within in cc in
        let h = visited_at place ks at in
        let same : h.0 ≡ i = let e = h.3 in cc in
        let shapes : h.1 ≡ ks = let e = h.4 in cc in
        (h.2, subst (λ j. Turns c j ks h.2) same (subst (λ l. Turns c h.0 l h.2) shapes h.5), subst (λ j. AllHave table (leads_to j place) h.2) same (all_have (leads_to h.0 place) h.2 h.6))

    pub is_checked : IsChecked c
    is_checked =
        let h = visited_at 0 [] (first_is vs) in
        let within : 0 < length (body_of c) = slice_get_within (body_of c) 0 h.0 h.3 in
        (table, record { long = length-tabulate (before c vs) 0 (length (body_of c)); start = table_at 0 within ∙ ap Some (first_is vs); each = shapes_each })

pub fine_is_checked : (c : Code) (vs : List Visit) → AreAllVisits c vs → ((p : ℕ) → HasFailed vs p → ⊥) → IsChecked c
fine_is_checked c vs whole fine = is_checked c vs whole fine
