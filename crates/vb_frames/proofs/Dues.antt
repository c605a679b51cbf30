-- What a thread does next that does no turn.
use Rattle.std.proofs.Common.{◌≡◌, ℕ, ◌+◌, ◌≤◌, ◌<◌, Bool, true, false, List, [], ◌∷◌, ◌++◌, length, length-append, pos, Option, Some, None, refl, sym, ap, subst, ◌∙◌, arith}
use Rattle.std.specs.Prelude.{nat_le, slice_set, slice_index_or, if◌then◌else◌, Result, Ok, Err}
use Rattle.std.specs.Fmt.{signed_decimal}
use Rattle.std.proofs.lemmas.Bool.Decides.{nat_tests}
use Rattle.vb_text.specs.{Units.{most_units, IsText}, declared.TextErr.{TextErr, TheVariants.{TooLong, Memory}}}
use Rattle.vb_threads.specs.Machine.{Silent}
use Rattle.vb_num.specs.declared.kinds.Kind.{Kind, TheVariants.Integer}
use Rattle.vb_value.specs.Datum.{Datum, Number, Truth, Letters}
use Rattle.vb_code.specs.{declared.{instr.{Arithmetic.Arithmetic, Mark.Mark, Instr.{Instr, TheVariants.{Push, PushText, LoadLocal, StoreLocal, Arith, Compare, Concat, Intrinsic, Jump, JumpIf, Write as WriteInstr, Return}}, Silent.TheVariants.TextOf}, local.Local.Local}, Code.{Code, text_at}, Machine.{CodeThread, At, Returned, act, constant, compared, joined}}
use Rattle.vb_frames.specs.Turn.{Needs, StandsAt, JoinsTo}

-- an instruction that neither writes nor may throw does a silent step
pub silent_act : (c : Code) (i : Instr) (place : ℕ) (ops slots : List Datum) → Needs c i ops slots → ((mark : Mark) → i ≡ WriteInstr mark → ⊥) → ((o : Arithmetic) (k : Kind) → i ≡ Arith o k → ⊥) → (i ≡ Concat → ⊥) → (b : ℕ) → (state : CodeThread) × (act c i b place ops slots ≡ Silent b state)
silent_act c (Push k) place ops slots h w a j b = (At (place + 1) (constant k ∷ ops) slots, refl)
silent_act c (PushText i) place ops slots h w a j b = (At (place + 1) (Letters (Some (text_at c.texts i)) ∷ ops) slots, refl)
silent_act c (LoadLocal x) place ops slots h w a j b = (At (place + 1) (slice_index_or slots x (Number Integer (pos 0)) ∷ ops) slots, refl)
silent_act c (StoreLocal x) place [] slots h w a j b = let lt : 0 < 0 = h.1 in absurd (omega arith)
silent_act c (StoreLocal x) place (d ∷ rest) slots h w a j b = (At (place + 1) rest (slice_set slots x d), refl)
silent_act c (Arith o k) place ops slots h w a j b = absurd (a o k refl)
silent_act c (Compare r) place ops slots h w a j b = (At (place + 1) (Truth (compared r h.1 h.2) ∷ h.3) slots, ap (λ z. act c (Compare r) b place z slots) h.4)
silent_act c Concat place ops slots h w a j b = absurd (j refl)
silent_act c (Intrinsic TextOf) place ops slots h w a j b = (At (place + 1) (Letters (Some (signed_decimal h.1)) ∷ h.2) slots, ap (λ z. act c (Intrinsic TextOf) b place z slots) h.3)
silent_act c (Jump to) place ops slots h w a j b = (At to ops slots, refl)
silent_act c (JumpIf to) place ops slots h w a j b = (At (if h.0 then to else place + 1) h.1 slots, ap (λ z. act c (JumpIf to) b place z slots) h.2)
silent_act c (WriteInstr mark) place ops slots h w a j b = absurd (w mark refl)
silent_act c Return place ops slots h w a j b = (Returned, refl)

pub stands_as : (c : Code) (i j : Instr) (place : ℕ) (old new : Local) (asks : Option Bool) → i ≡ j → StandsAt c j place old new asks → StandsAt c i place old new asks
stands_as c i j place old new asks e h = subst (λ k. StandsAt c k place old new asks) (sym e) h

fits_true : (n m : ℕ) → n ≤ m → nat_le n m ≡ true
fits_true n m le = grind (arith, nat_tests)

fits_false : (n m : ℕ) → m < n → nat_le n m ≡ false
fits_false n m lt = grind (arith, nat_tests)

-- two texts are joined exactly where they are short enough together
pub joined_some : (s t : List ℕ) → length s + length t ≤ most_units → joined s t ≡ Some (s ++ t)
joined_some s t le = ap (λ b. if b then Some (s ++ t) else None) (fits_true (length (s ++ t)) most_units (omega (arith, length-append s t)))

pub joined_none : (s t : List ℕ) → most_units < length s + length t → joined s t ≡ None
joined_none s t lt = ap (λ b. if b then Some (s ++ t) else None) (fits_false (length (s ++ t)) most_units (omega (arith, length-append s t)))

pub joins_to : (s t : List ℕ) (r : Result (List ℕ) TextErr) → IsText (s ++ t) r → JoinsTo s t r
joins_to s t (Ok text) h = joined_some s t (omega (arith, h.1, length-append s t)) ∙ ap (λ x. Some x) (sym h.0)
joins_to s t (Err TooLong) h = joined_none s t (omega (arith, h, length-append s t))
joins_to s t (Err Memory) h = tt
