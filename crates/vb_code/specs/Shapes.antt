-- Checked code: each instruction that is reached finds its operands, and what it names is there (ECMA-335, III.1.8).
use Rattle.std.specs.Prelude.{◌≡◌, ℕ, ◌+◌, ◌<◌, List, [], ◌∷◌, map, length, Option, Some, slice_get, IsSome}
use Rattle.vb_num.specs.declared.kinds.Kind.{Kind, TheVariants.Integer}
use Rattle.vb_value.specs.{declared.value.Shape.{Shape, TheVariants.{Num, Bool as Truth, Text}}, Datum.shape_of}
use Rattle.vb_code.specs.{declared.instr.{Silent.TheVariants.TextOf, Instr.{Instr, TheVariants.{Push, PushText, LoadLocal, StoreLocal, Arith, Compare, Concat, Intrinsic, Jump, JumpIf, Write, Return}}}, Code.{Code, body_of, locals_of, throwable, overflow, out_of_memory}, Machine.{CodeThread, At, Returned, Gone, Lost}}

-- the shapes of the operands before a place, the topmost first
abbrev pub Shapes : Type 0
Shapes = List Shape

-- An instruction finds what it needs before these shapes, and leaves those.
abbrev pub Turns : Code → Instr → Shapes → Shapes → Type 0
Turns c (Push k) ks js = js ≡ Num Integer ∷ ks
Turns c (PushText i) ks js = (i < length c.texts) × (js ≡ Text ∷ ks)
Turns c (LoadLocal x) ks js = (k : Kind) × (slice_get (locals_of c) x ≡ Some (Num k)) × (js ≡ Num k ∷ ks)
Turns c (StoreLocal x) ks js = (k : Kind) × (slice_get (locals_of c) x ≡ Some (Num k)) × (ks ≡ Num k ∷ js)
Turns c (Arith o k) ks js = (rest : Shapes) × (ks ≡ Num k ∷ Num k ∷ rest) × (js ≡ Num k ∷ rest) × IsSome (throwable c overflow)
Turns c (Compare r) ks js = (k : Kind) × (rest : Shapes) × (ks ≡ Num k ∷ Num k ∷ rest) × (js ≡ Truth ∷ rest)
Turns c Concat ks js = (rest : Shapes) × (ks ≡ Text ∷ Text ∷ rest) × (js ≡ Text ∷ rest) × IsSome (throwable c out_of_memory)
Turns c (Intrinsic TextOf) ks js = (k : Kind) × (rest : Shapes) × (ks ≡ Num k ∷ rest) × (js ≡ Text ∷ rest)
Turns c (Jump to) ks js = js ≡ ks
Turns c (JumpIf to) ks js = ks ≡ Truth ∷ js
Turns c (Write mark) ks js = ks ≡ Text ∷ js
Turns c Return ks js = (ks ≡ []) × (js ≡ [])

-- the places to which an instruction leads
abbrev pub leads_to : Instr → ℕ → List ℕ
leads_to (Push k) place = (place + 1) ∷ []
leads_to (PushText i) place = (place + 1) ∷ []
leads_to (LoadLocal x) place = (place + 1) ∷ []
leads_to (StoreLocal x) place = (place + 1) ∷ []
leads_to (Arith o k) place = (place + 1) ∷ []
leads_to (Compare r) place = (place + 1) ∷ []
leads_to Concat place = (place + 1) ∷ []
leads_to (Intrinsic k) place = (place + 1) ∷ []
leads_to (Jump to) place = to ∷ []
leads_to (JumpIf to) place = to ∷ (place + 1) ∷ []
leads_to (Write mark) place = (place + 1) ∷ []
leads_to Return place = []

-- the shapes are those before each of these places
abbrev pub AllHave : List (Option Shapes) → List ℕ → Shapes → Type 0
AllHave table [] js = Unit {0}
AllHave table (p ∷ ps) js = (slice_get table p ≡ Some (Some js)) × AllHave table ps js

-- A table of shapes, one for each place of Main that is reached.
pub record IsShaping (c : Code) (table : List (Option Shapes)) : Type 0 where
  pub long : length table ≡ length (body_of c)
  pub start : slice_get table 0 ≡ Some (Some [])
  pub each : (place : ℕ) (i : Instr) (ks : Shapes) → slice_get (body_of c) place ≡ Some i → slice_get table place ≡ Some (Some ks) → (js : Shapes) × Turns c i ks js × AllHave table (leads_to i place) js

-- each place that is reached has shapes under which its instruction finds its operands
abbrev pub IsChecked : Code → Type 0
IsChecked c = (table : List (Option Shapes)) × IsShaping c table

-- A state of the code: its operands and locals have the shapes of its place.
abbrev pub IsState : Code → CodeThread → Type 0
IsState c (At place ops slots) = (table : List (Option Shapes)) × IsShaping c table × (slice_get table place ≡ Some (Some (map shape_of ops))) × (map shape_of slots ≡ locals_of c)
IsState c Returned = Unit {0}
IsState c (Gone over) = Unit {0}
IsState c Lost = ⊥
