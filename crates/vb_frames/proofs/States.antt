-- A state of checked code finds what its instruction needs, and stays a state.
use Rattle.std.proofs.Common.{◌≡◌, ℕ, zero, suc, ◌+◌, ◌<◌, Bool, true, false, List, [], ◌∷◌, map, length, ℤ, pos, Option, Some, None, refl, sym, ap, subst, ◌∙◌, arith, set, get_or}
use Rattle.std.specs.Prelude.{slice_get, slice_set, slice_index_or, if◌then◌else◌, IsSome}
use Rattle.std.specs.Option.{option_map}
use Rattle.std.proofs.lemmas.List.{map-set, length-map}
use Rattle.std.proofs.lemmas.Option.{slice_get_within, slice_get-get_or, slice_get-map}
use Rattle.std.specs.Fmt.{signed_decimal}
use Rattle.vb_threads.specs.Machine.{Silent, Asks, Rests}
use Rattle.vb_num.specs.declared.kinds.Kind.{Kind, TheVariants.Integer}
use Rattle.vb_value.specs.{declared.value.Shape.{Shape, TheVariants.{Num, Bool as TruthShape, Text}}, Datum.{Datum, Number, Truth, Letters, Object, shape_of, units_of}, Store.{Ask, Reply}}
use Rattle.vb_code.specs.{declared.instr.{Constant.TheVariants.Integer as IntegerConstant, Instr.{Instr, TheVariants.{Push, PushText, LoadLocal, StoreLocal, Arith, Compare, Concat, Intrinsic, Jump, JumpIf, Write as WriteInstr, Return}}, Silent.TheVariants.TextOf}, Code.{Code, locals_of, body_of, begins_of, begins_at, throwable, overflow, out_of_memory, text_at}, Machine.{CodeThread, CodeNext, At, Returned, Gone, Lost, code_next, act, fetched, throws_class, or_throws, arith_of, joined, compared}, Shapes.{Shapes, Turns, AllHave, leads_to, IsShaping, IsState}}
use Rattle.vb_frames.specs.Turn.{Needs}

some_of : {A : Type 0} (o : Option A) → IsSome o → (x : A) × (o ≡ Some x)
some_of None h = absurd (cc)
some_of (Some x) h = (x, refl)

-- operands whose shapes begin with one
record First (ops : List Datum) (k : Shape) (ks : List Shape) : Type 0 where
  datum : Datum
  rest : List Datum
  is : ops ≡ datum ∷ rest
  shape : shape_of datum ≡ k
  shapes : map shape_of rest ≡ ks

first_of : (ops : List Datum) (k : Shape) (ks : List Shape) → map shape_of ops ≡ k ∷ ks → First ops k ks
first_of [] k ks e = absurd (cc)
first_of (d ∷ rest) k ks e = let a : shape_of d ≡ k = cc in let b : map shape_of rest ≡ ks = cc in record { datum = d; rest = rest; is = refl; shape = a; shapes = b }

-- a number on top, and the rest
record OneNumber (ops : List Datum) (k : Kind) (ks : List Shape) : Type 0 where
  value : ℤ
  rest : List Datum
  is : ops ≡ Number k value ∷ rest
  shapes : map shape_of rest ≡ ks

number_is : (d : Datum) (rest : List Datum) (k : Kind) (ks : List Shape) → shape_of d ≡ Num k → map shape_of rest ≡ ks → OneNumber (d ∷ rest) k ks
number_is (Number kind value) rest k ks e f = let same : kind ≡ k = cc in record { value = value; rest = rest; is = ap (λ x. Number x value ∷ rest) same; shapes = f }
number_is (Truth holds) rest k ks e f = absurd (cc)
number_is (Letters units) rest k ks e f = absurd (cc)
number_is (Object number) rest k ks e f = absurd (cc)

one_number : (ops : List Datum) (k : Kind) (ks : List Shape) → map shape_of ops ≡ Num k ∷ ks → OneNumber ops k ks
one_number ops k ks e = let f = first_of ops (Num k) ks e in subst (λ o. OneNumber o k ks) (sym f.is) (number_is f.datum f.rest k ks f.shape f.shapes)

record TwoNumbers (ops : List Datum) (k : Kind) (ks : List Shape) : Type 0 where
  left : ℤ
  right : ℤ
  rest : List Datum
  is : ops ≡ Number k right ∷ Number k left ∷ rest
  shapes : map shape_of rest ≡ ks

two_numbers : (ops : List Datum) (k : Kind) (ks : List Shape) → map shape_of ops ≡ Num k ∷ Num k ∷ ks → TwoNumbers ops k ks
two_numbers ops k ks e =
    let f = one_number ops k (Num k ∷ ks) e in
    let g = one_number f.rest k ks f.shapes in
    record { left = g.value; right = f.value; rest = g.rest; is = f.is ∙ ap (λ r. Number k f.value ∷ r) g.is; shapes = g.shapes }

record OneTruth (ops : List Datum) (ks : List Shape) : Type 0 where
  holds : Bool
  rest : List Datum
  is : ops ≡ Truth holds ∷ rest
  shapes : map shape_of rest ≡ ks

truth_is : (d : Datum) (rest : List Datum) (ks : List Shape) → shape_of d ≡ TruthShape → map shape_of rest ≡ ks → OneTruth (d ∷ rest) ks
truth_is (Number kind value) rest ks e f = absurd (cc)
truth_is (Truth holds) rest ks e f = record { holds = holds; rest = rest; is = refl; shapes = f }
truth_is (Letters units) rest ks e f = absurd (cc)
truth_is (Object number) rest ks e f = absurd (cc)

one_truth : (ops : List Datum) (ks : List Shape) → map shape_of ops ≡ TruthShape ∷ ks → OneTruth ops ks
one_truth ops ks e = let f = first_of ops TruthShape ks e in subst (λ o. OneTruth o ks) (sym f.is) (truth_is f.datum f.rest ks f.shape f.shapes)

record OneText (ops : List Datum) (ks : List Shape) : Type 0 where
  text : Option (List ℕ)
  rest : List Datum
  is : ops ≡ Letters text ∷ rest
  shapes : map shape_of rest ≡ ks

text_is : (d : Datum) (rest : List Datum) (ks : List Shape) → shape_of d ≡ Text → map shape_of rest ≡ ks → OneText (d ∷ rest) ks
text_is (Number kind value) rest ks e f = absurd (cc)
text_is (Truth holds) rest ks e f = absurd (cc)
text_is (Letters units) rest ks e f = record { text = units; rest = rest; is = refl; shapes = f }
text_is (Object number) rest ks e f = absurd (cc)

one_text : (ops : List Datum) (ks : List Shape) → map shape_of ops ≡ Text ∷ ks → OneText ops ks
one_text ops ks e = let f = first_of ops Text ks e in subst (λ o. OneText o ks) (sym f.is) (text_is f.datum f.rest ks f.shape f.shapes)

-- a slot that has a shape is there
slot_there : (c : Code) (slots : List Datum) (x : ℕ) (k : Shape) → map shape_of slots ≡ locals_of c → slice_get (locals_of c) x ≡ Some k → x < length slots
slot_there c slots x k same at =
    let lt : x < length (locals_of c) = slice_get_within (locals_of c) x k at in
    let long : length slots ≡ length (locals_of c) = sym (length-map slots shape_of) ∙ ap length same in
    omega (arith, lt, long)

-- an instruction that finds its operands finds what it needs
pub needs_of : (c : Code) (i : Instr) (ops slots : List Datum) (js : Shapes) → map shape_of slots ≡ locals_of c → Turns c i (map shape_of ops) js → Needs c i ops slots
needs_of c (Push k) ops slots js same h = tt
needs_of c (PushText i) ops slots js same h = h.0
needs_of c (LoadLocal x) ops slots js same h = slot_there c slots x (Num h.0) same h.1
needs_of c (StoreLocal x) ops slots js same h = let f = one_number ops h.0 js h.2 in (slot_there c slots x (Num h.0) same h.1, subst (λ o. 0 < length o) (sym f.is) (omega arith))
needs_of c (Arith o k) ops slots js same h = let f = two_numbers ops k h.0 h.1 in let s = some_of (throwable c overflow) h.3 in ((f.left, f.right, f.rest, f.is), (s.0, s.1))
needs_of c (Compare r) ops slots js same h = let f = two_numbers ops h.0 h.1 h.2 in (h.0, f.left, f.right, f.rest, f.is)
needs_of c Concat ops slots js same h =
    let f = one_text ops (Text ∷ h.0) h.1 in
    let g = one_text f.rest h.0 f.shapes in
    let s = some_of (throwable c out_of_memory) h.3 in
    ((g.text, f.text, g.rest, f.is ∙ ap (λ r. Letters f.text ∷ r) g.is), (s.0, s.1))
needs_of c (Intrinsic TextOf) ops slots js same h = let f = one_number ops h.0 h.1 h.2 in (h.0, f.value, f.rest, f.is)
needs_of c (Jump to) ops slots js same h = tt
needs_of c (JumpIf to) ops slots js same h = let f = one_truth ops js h in (f.holds, f.rest, f.is)
needs_of c (WriteInstr mark) ops slots js same h = let f = one_text ops js h in (f.text, f.rest, f.is)
needs_of c Return ops slots js same h = tt

-- what a thread comes to by a step is a state
abbrev pub IsGoing : CodeThread → Type 0
IsGoing (At place ops slots) = Unit {0}
IsGoing Returned = Unit {0}
IsGoing (Gone over) = ⊥
IsGoing Lost = ⊥

abbrev After : Code → CodeNext → Type 0
After c (Silent b s) = IsState c s × IsGoing s
After c (Asks a commits go) = (r : Reply) → IsState c (go r)
After c (Rests over) = Unit {0}

module _ (c : Code) (table : List (Option Shapes)) (shaping : IsShaping c table) where
  state_at : (place : ℕ) (ops slots : List Datum) (js : Shapes) → slice_get table place ≡ Some (Some js) → map shape_of ops ≡ js → map shape_of slots ≡ locals_of c → IsState c (At place ops slots)
  state_at place ops slots js at e same = (table, shaping, at ∙ ap (λ ks. Some (Some ks)) (sym e), same)

  goes_on : (b place : ℕ) (ops slots : List Datum) (js : Shapes) → slice_get table place ≡ Some (Some js) → map shape_of ops ≡ js → map shape_of slots ≡ locals_of c → After c (Silent b (At place ops slots))
  goes_on b place ops slots js at e same = (state_at place ops slots js at e same, tt)

  thrown : (name : List ℕ) (o : Option ℕ) → IsSome o → After c (throws_class c name o)
  thrown name None h = absurd (cc)
  thrown name (Some k) h = λ r. tt

  or_kept : {A : Type 0} (name : List ℕ) (o : Option A) (go : A → CodeNext) → IsSome (throwable c name) → ((v : A) → After c (go v)) → After c (or_throws c name o go)
  or_kept name None go h g = thrown name (throwable c name) h
  or_kept name (Some v) go h g = g v

  kept : (i : Instr) (b place : ℕ) (ops slots : List Datum) (js : Shapes) → map shape_of slots ≡ locals_of c → Turns c i (map shape_of ops) js → AllHave table (leads_to i place) js → After c (act c i b place ops slots)
  kept (Push (IntegerConstant v)) b place ops slots js same h to = goes_on b (place + 1) (Number Integer v ∷ ops) slots js to.0 (sym h) same
  kept (PushText i) b place ops slots js same h to = goes_on b (place + 1) (Letters (Some (text_at c.texts i)) ∷ ops) slots js to.0 (sym h.1) same
  kept (LoadLocal x) b place ops slots js same h to = goes_on b (place + 1) (slice_index_or slots x (Number Integer (pos 0)) ∷ ops) slots js to.0 (ap (λ s. s ∷ map shape_of ops) (loaded x h.0 h.1) ∙ sym h.2) same
    where
      loaded : (x : ℕ) (k : Kind) → slice_get (locals_of c) x ≡ Some (Num k) → shape_of (slice_index_or slots x (Number Integer (pos 0))) ≡ Num k
      loaded x k at =
          let lt = slot_there c slots x (Num k) same at in
          let there = slice_get-get_or slots x (Number Integer (pos 0)) lt in
          let seen : slice_get (map shape_of slots) x ≡ Some (shape_of (get_or slots x (Number Integer (pos 0)))) = slice_get-map shape_of slots x ∙ ap (λ o. option_map shape_of o) there in
          let both : Some (shape_of (get_or slots x (Number Integer (pos 0)))) ≡ Some (Num k) = sym seen ∙ ap (λ ks. slice_get ks x) same ∙ at in
          cc
  kept (StoreLocal x) b place ops slots js same h to =
      let f = one_number ops h.0 js h.2 in
      let stored : map shape_of (slice_set slots x (Number h.0 f.value)) ≡ locals_of c = map-set shape_of slots x (Number h.0 f.value) ∙ ap (λ ks. set ks x (Num h.0)) same ∙ set_there (locals_of c) x (Num h.0) h.1 in
      subst (λ o. After c (act c (StoreLocal x) b place o slots)) (sym f.is) (goes_on b (place + 1) f.rest (slice_set slots x (Number h.0 f.value)) js to.0 f.shapes stored)
    where
      set_there : (ks : List Shape) (x : ℕ) (k : Shape) → slice_get ks x ≡ Some k → set ks x k ≡ ks
      set_there [] x k e = cc
      set_there (y ∷ ks) zero k e = let s : y ≡ k = cc in ap (λ z. z ∷ ks) (sym s)
      set_there (y ∷ ks) (suc x) k e = ap (λ z. y ∷ z) (set_there ks x k e)
  kept (Arith o k) b place ops slots js same h to =
      let f = two_numbers ops k h.0 h.1 in
      subst (λ q. After c (act c (Arith o k) b place q slots)) (sym f.is) (or_kept overflow (arith_of o k f.left f.right) _ h.3 (λ v. goes_on b (place + 1) (Number k v ∷ f.rest) slots js to.0 (ap (λ ks. Num k ∷ ks) f.shapes ∙ sym h.2) same))
  kept (Compare r) b place ops slots js same h to =
      let f = two_numbers ops h.0 h.1 h.2 in
      subst (λ q. After c (act c (Compare r) b place q slots)) (sym f.is) (goes_on b (place + 1) (Truth (compared r f.left f.right) ∷ f.rest) slots js to.0 (ap (λ ks. TruthShape ∷ ks) f.shapes ∙ sym h.3) same)
  kept Concat b place ops slots js same h to =
      let f = one_text ops (Text ∷ h.0) h.1 in
      let g = one_text f.rest h.0 f.shapes in
      let is : ops ≡ Letters f.text ∷ Letters g.text ∷ g.rest = f.is ∙ ap (λ r. Letters f.text ∷ r) g.is in
      subst (λ q. After c (act c Concat b place q slots)) (sym is) (or_kept out_of_memory (joined (units_of g.text) (units_of f.text)) _ h.3 (λ v. goes_on b (place + 1) (Letters (Some v) ∷ g.rest) slots js to.0 (ap (λ ks. Text ∷ ks) g.shapes ∙ sym h.2) same))
  kept (Intrinsic TextOf) b place ops slots js same h to =
      let f = one_number ops h.0 h.1 h.2 in
      subst (λ q. After c (act c (Intrinsic TextOf) b place q slots)) (sym f.is) (goes_on b (place + 1) (Letters (Some (signed_decimal f.value)) ∷ f.rest) slots js to.0 (ap (λ ks. Text ∷ ks) f.shapes ∙ sym h.3) same)
  kept (Jump go) b place ops slots js same h to = goes_on b go ops slots js to.0 (sym h) same
  kept (JumpIf go) b place ops slots js same h to =
      let f = one_truth ops js h in
      subst (λ q. After c (act c (JumpIf go) b place q slots)) (sym f.is) (goes_on b (if f.holds then go else place + 1) f.rest slots js (chosen f.holds) f.shapes same)
    where
      chosen : (x : Bool) → slice_get table (if x then go else place + 1) ≡ Some (Some js)
      chosen true = to.0
      chosen false = to.1.0
  kept (WriteInstr mark) b place ops slots js same h to =
      let f = one_text ops js h in
      subst (λ q. After c (act c (WriteInstr mark) b place q slots)) (sym f.is) (λ r. state_at (place + 1) f.rest slots js to.0 f.shapes same)
  kept Return b place ops slots js same h to = (tt, tt)

-- a state stands at a place that is there
pub within_body : (c : Code) (place : ℕ) (ops slots : List Datum) → IsState c (At place ops slots) → place < length (body_of c)
within_body c place ops slots h =
    let lt : place < length h.0 = slice_get_within h.0 place (Some (map shape_of ops)) h.2 in
    omega (arith, lt, h.1.long)

-- the instruction there finds what it needs
pub needs_at : (c : Code) (place : ℕ) (ops slots : List Datum) (i : Instr) → IsState c (At place ops slots) → slice_get (body_of c) place ≡ Some i → Needs c i ops slots
needs_at c place ops slots i h at =
    let found = h.1.each place i (map shape_of ops) at h.2 in
    needs_of c i ops slots found.0 h.3 found.1

after_at : (c : Code) (place : ℕ) (ops slots : List Datum) → IsState c (At place ops slots) → After c (code_next c (At place ops slots))
after_at c place ops slots h =
    let at = slice_get-get_or (body_of c) place Return (within_body c place ops slots h) in
    let i = get_or (body_of c) place Return in
    let found = h.1.each place i (map shape_of ops) at h.2 in
    subst (λ o. After c (fetched c o place ops slots)) (sym at) (kept c h.0 h.1 i (begins_at (begins_of c) place) place ops slots found.0 h.3 found.1 found.2)

-- what a state comes to by a step is a state
after_state : (c : Code) (s : CodeThread) → IsState c s → After c (code_next c s)
after_state c (At place ops slots) h = after_at c place ops slots h
after_state c Returned h = λ r. tt
after_state c (Gone over) h = tt
after_state c Lost h = absurd h

pub state_next : (c : Code) (s s' : CodeThread) (b : ℕ) → IsState c s → code_next c s ≡ Silent b s' → IsState c s' × IsGoing s'
state_next c s s' b h e = subst (After c) e (after_state c s h)

pub state_given : (c : Code) (s s' : CodeThread) (a : Ask) (commits : Reply → Bool) (r : Reply) → IsState c s → code_next c s ≡ Asks a commits (λ r. s') → IsState c s'
state_given c s s' a commits r h e = (subst (After c) e (after_state c s h)) r
