-- What a thread does that runs code: one case for each instruction (ECMA-335, III).
use Rattle.std.specs.Prelude.{ℕ, ◌+◌, Bool, true, false, not, ◌&&◌, nat_le, List, [], ◌∷◌, ◌++◌, map, length, ℤ, pos, ◌+ℤ◌, ◌-ℤ◌, ◌*ℤ◌, int_le, Option, Some, None, slice_get, slice_set, slice_index_or, if◌then◌else◌}
use Rattle.std.specs.Fmt.{signed_decimal}
use Rattle.vb_num.specs.{declared.kinds.Kind.{Kind, TheVariants.Integer}, Kind.in_kind}
use Rattle.vb_text.specs.Units.{most_units}
use Rattle.vb_threads.specs.Machine.{Over, Ended, Threw, Next, Silent, Asks, Rests, Machine}
use Rattle.vb_value.specs.{Datum.{Datum, Number, Truth, Letters, Object, default_of, units_of}, Store.{Places, Calls, Store, Ask, New, Write, End, Reply, store_rows, opened}}
use Rattle.vb_code.specs.{declared.instr.{Constant.{Constant, TheVariants.Integer as IntegerConstant}, Arithmetic.{Arithmetic, TheVariants.{Add, Sub, Mul}}, Comparison.{Comparison, TheVariants.{Equal, NotEqual, Less, LessOrEqual, Greater, GreaterOrEqual}}, Silent.TheVariants.TextOf, Mark.{Mark, TheVariants.{Never, Always, IfEqual}}, Instr.{Instr, TheVariants.{Push, PushText, LoadLocal, StoreLocal, Arith, Compare, Concat, Intrinsic, Jump, JumpIf, Write as WriteInstr, Return}}}, Code.{Code, body_of, begins_of, locals_of, begins_at, text_at, throwable, class_units, overflow, out_of_memory}}

-- A thread: at a place with its operands, the topmost first, and its locals; its last call has returned; it rests.
-- Lost is a thread that found no instruction, no operand or one of the wrong shape: it does nothing more.
pub data CodeThread : Type 0 where
  At : (place : ℕ) (operands slots : List Datum) → CodeThread
  Returned : CodeThread
  Gone : (over : Over) → CodeThread
  Lost : CodeThread

abbrev pub CodeNext : Type 0
CodeNext = Next CodeThread Ask Reply

abbrev pub lost : CodeNext
lost = Silent 0 Lost

-- goes on with the operands that an instruction takes, and is lost without them
abbrev pub on_number : List Datum → (Kind → ℤ → List Datum → CodeNext) → CodeNext
on_number [] go = lost
on_number (Number k v ∷ rest) go = go k v rest
on_number (Truth b ∷ rest) go = lost
on_number (Letters t ∷ rest) go = lost
on_number (Object o ∷ rest) go = lost

abbrev pub on_truth : List Datum → (Bool → List Datum → CodeNext) → CodeNext
on_truth [] go = lost
on_truth (Number k v ∷ rest) go = lost
on_truth (Truth b ∷ rest) go = go b rest
on_truth (Letters t ∷ rest) go = lost
on_truth (Object o ∷ rest) go = lost

abbrev pub on_letters : List Datum → (List ℕ → List Datum → CodeNext) → CodeNext
on_letters [] go = lost
on_letters (Number k v ∷ rest) go = lost
on_letters (Truth b ∷ rest) go = lost
on_letters (Letters t ∷ rest) go = go (units_of t) rest
on_letters (Object o ∷ rest) go = lost

abbrev pub on_any : List Datum → (Datum → List Datum → CodeNext) → CodeNext
on_any [] go = lost
on_any (d ∷ rest) go = go d rest

-- an object of the class is asked for, and the thread throws it to its bottom: nothing catches it
abbrev pub throws_class : Code → List ℕ → Option ℕ → CodeNext
throws_class c name None = lost
throws_class c name (Some k) = Asks (New name (class_units c k)) (λ r. true) (λ r. Gone (Threw name))

abbrev pub throws : Code → List ℕ → CodeNext
throws c name = throws_class c name (throwable c name)

-- goes on with a value, or throws
abbrev pub or_throws : {A : Type 0} → Code → List ℕ → Option A → (A → CodeNext) → CodeNext
or_throws c name None go = throws c name
or_throws c name (Some v) go = go v

abbrev pub constant : Constant → Datum
constant (IntegerConstant v) = Number Integer v

-- the whole-number result, where it is in the kind's range
abbrev pub arith_of : Arithmetic → Kind → ℤ → ℤ → Option ℤ
arith_of Add k x y = in_kind k (x +ℤ y)
arith_of Sub k x y = in_kind k (x -ℤ y)
arith_of Mul k x y = in_kind k (x *ℤ y)

abbrev pub compared : Comparison → ℤ → ℤ → Bool
compared Equal x y = int_le x y && int_le y x
compared NotEqual x y = not (int_le x y && int_le y x)
compared Less x y = not (int_le y x)
compared LessOrEqual x y = int_le x y
compared Greater x y = not (int_le x y)
compared GreaterOrEqual x y = int_le y x

-- both texts, where they aren't too long together (Visual Basic Language Specification 11.0, 11.15)
abbrev pub joined : List ℕ → List ℕ → Option (List ℕ)
joined s t = if nat_le (length (s ++ t)) most_units then Some (s ++ t) else None

abbrev pub commits : Mark → Reply → Bool
commits Never r = false
commits Always r = true
commits IfEqual r = false

-- an instruction at a place, where b statements begin
abbrev pub act : Code → Instr → ℕ → ℕ → List Datum → List Datum → CodeNext
act c (Push k) b place ops slots = Silent b (At (place + 1) (constant k ∷ ops) slots)
act c (PushText i) b place ops slots = Silent b (At (place + 1) (Letters (Some (text_at c.texts i)) ∷ ops) slots)
act c (LoadLocal x) b place ops slots = Silent b (At (place + 1) (slice_index_or slots x (Number Integer (pos 0)) ∷ ops) slots)
act c (StoreLocal x) b place ops slots = on_any ops (λ d rest. Silent b (At (place + 1) rest (slice_set slots x d)))
act c (Arith o k) b place ops slots = on_number ops (λ ky y below. on_number below (λ kx x rest. or_throws c overflow (arith_of o k x y) (λ v. Silent b (At (place + 1) (Number k v ∷ rest) slots))))
act c (Compare r) b place ops slots = on_number ops (λ ky y below. on_number below (λ kx x rest. Silent b (At (place + 1) (Truth (compared r x y) ∷ rest) slots)))
act c Concat b place ops slots = on_letters ops (λ t below. on_letters below (λ s rest. or_throws c out_of_memory (joined s t) (λ st. Silent b (At (place + 1) (Letters (Some st) ∷ rest) slots))))
act c (Intrinsic TextOf) b place ops slots = on_number ops (λ k v rest. Silent b (At (place + 1) (Letters (Some (signed_decimal v)) ∷ rest) slots))
act c (Jump to) b place ops slots = Silent b (At to ops slots)
act c (JumpIf to) b place ops slots = on_truth ops (λ holds rest. Silent b (At (if holds then to else place + 1) rest slots))
act c (WriteInstr mark) b place ops slots = on_letters ops (λ t rest. Asks (Write t) (commits mark) (λ r. At (place + 1) rest slots))
act c Return b place ops slots = Silent b Returned

abbrev pub fetched : Code → Option Instr → ℕ → List Datum → List Datum → CodeNext
fetched c None place ops slots = lost
fetched c (Some i) place ops slots = act c i (begins_at (begins_of c) place) place ops slots

-- what a thread does next
abbrev pub code_next : Code → CodeThread → CodeNext
code_next c (At place ops slots) = fetched c (slice_get (body_of c) place) place ops slots
code_next c Returned = Asks End (λ r. true) (λ r. Gone Ended)
code_next c (Gone over) = Rests over
code_next c Lost = lost

-- the code as threads: thread 0 begins at the front of Main, and a thread that is started with no call returns at once
abbrev pub code_machine : Code → Machine Calls Places CodeThread Ask Reply Store
code_machine c = record {
  main = At 0 [] (map default_of (locals_of c));
  started = λ calls. Returned;
  next = code_next c;
  opening = opened;
  rows = store_rows;
}
