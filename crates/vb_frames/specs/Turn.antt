-- What one instruction needs and does.
use Rattle.std.specs.Prelude.{◌≡◌, ℕ, ◌+◌, ◌<◌, ◌^◌, ℤ, Bool, List, ◌∷◌, length, Option, Some, None, Result, Ok, Err}
use Rattle.vb_text.specs.declared.TextErr.{TextErr, TheVariants.{TooLong, Memory}}
use Rattle.vb_num.specs.declared.kinds.Kind.{Kind}
use Rattle.vb_threads.specs.Machine.{Silent, Asks}
use Rattle.vb_value.specs.{Datum.{Datum, Number, Truth, Letters}, Store.Reply}
use Rattle.vb_code.specs.{declared.{instr.{Instr.{Instr, TheVariants.{Push, PushText, LoadLocal, StoreLocal, Arith, Compare, Concat, Intrinsic, Jump, JumpIf, Write, Return}}, Silent.TheVariants.TextOf}, local.{Position.{Position, TheVariants.{At as AtPlace, Writing, Throwing, Returned, Ended, Thrown}}, Local.Local}}, Code.{Code, throwable, overflow, out_of_memory}, Machine.{CodeThread, code_next, act, joined}, Local.thread_of}
use Rattle.vb_frames.specs.{declared.{turn.Did.{Did, TheVariants.{Went, Asked, Rested, NoMemory}}, due.Due.{Due, TheVariants.{Step, Ask, Rest}}}, Frames.{Awaits, AsksNow, HasStep, asked, given}}

-- the place at which a thread is
abbrev pub place_of : Position → Option ℕ
place_of (AtPlace place) = Some place
place_of (Writing place) = Some place
place_of (Throwing place class) = Some place
place_of Returned = None
place_of Ended = None
place_of (Thrown class) = None

abbrev pub Throwable : Code → List ℕ → Type 0
Throwable c name = (class : ℕ) × (throwable c name ≡ Some class)

-- what is on top of the operands
abbrev pub HasNumber : List Datum → Type 0
HasNumber ops = (k : Kind) × (v : ℤ) × (rest : List Datum) × (ops ≡ Number k v ∷ rest)

abbrev pub HasNumbers : List Datum → Type 0
HasNumbers ops = (k : Kind) × (x : ℤ) × (y : ℤ) × (rest : List Datum) × (ops ≡ Number k y ∷ Number k x ∷ rest)

abbrev pub HasTruth : List Datum → Type 0
HasTruth ops = (b : Bool) × (rest : List Datum) × (ops ≡ Truth b ∷ rest)

abbrev pub HasText : List Datum → Type 0
HasText ops = (t : Option (List ℕ)) × (rest : List Datum) × (ops ≡ Letters t ∷ rest)

abbrev pub HasTexts : List Datum → Type 0
HasTexts ops = (s : Option (List ℕ)) × (t : Option (List ℕ)) × (rest : List Datum) × (ops ≡ Letters t ∷ Letters s ∷ rest)

-- what an instruction needs of the operands and locals
abbrev pub Needs : Code → Instr → List Datum → List Datum → Type 0
Needs c (Push k) ops slots = Unit {0}
Needs c (PushText i) ops slots = i < length c.texts
Needs c (LoadLocal x) ops slots = x < length slots
Needs c (StoreLocal x) ops slots = (x < length slots) × (0 < length ops)
Needs c (Arith o k) ops slots = ((x : ℤ) × (y : ℤ) × (rest : List Datum) × (ops ≡ Number k y ∷ Number k x ∷ rest)) × Throwable c overflow
Needs c (Compare r) ops slots = HasNumbers ops
Needs c Concat ops slots = HasTexts ops × Throwable c out_of_memory
Needs c (Intrinsic TextOf) ops slots = HasNumber ops
Needs c (Jump to) ops slots = Unit {0}
Needs c (JumpIf to) ops slots = HasTruth ops
Needs c (Write mark) ops slots = HasText ops
Needs c Return ops slots = Unit {0}

-- nothing but where the thread is has changed
pub record Stays (old new : Local) : Type 0 where
  pub operands : new.operands ≡ old.operands
  pub slots : new.slots ≡ old.slots
  pub begun : new.begun ≡ old.begun

-- The instruction at the place was asked: what it asks stands there now.
pub record Stops (c : Code) (i : Instr) (place : ℕ) (old new : Local) (committed : Bool) : Type 0 where
  pub stays : Stays old new
  pub here : place_of new.position ≡ Some place
  pub awaits : Awaits new
  pub commits : Reply → Bool
  pub asks : (b : ℕ) → act c i b place old.operands old.slots ≡ Asks (asked c new) commits (λ r. given c new)
  pub marked : (r : Reply) → commits r ≡ committed

-- what the instruction at a place did: its silent step, its ask, or nothing
abbrev pub Obeys : Code → Instr → ℕ → Local → Local → Did → Type 0
Obeys c i place old new Went = ((b : ℕ) → act c i b place old.operands old.slots ≡ Silent b (thread_of c new)) × (new.begun ≡ old.begun)
Obeys c i place old new (Asked committed) = Stops c i place old new committed
Obeys c i place old new (Rested class) = ⊥
Obeys c i place old new NoMemory = Stays old new × (new.position ≡ old.position)

-- a value was put on the operands, and the thread has gone on to the next place
abbrev pub Pushes : Datum → ℕ → Local → Local → Did → Type 0
Pushes d place old new Went = (new.position ≡ AtPlace (place + 1)) × (new.operands ≡ d ∷ old.operands) × (new.slots ≡ old.slots) × (new.begun ≡ old.begun)
Pushes d place old new (Asked committed) = ⊥
Pushes d place old new (Rested class) = ⊥
Pushes d place old new NoMemory = Stays old new × (new.position ≡ old.position)

-- a thread that throws a class of this name to its bottom asks for an object of it
pub record Throws (c : Code) (name : List ℕ) (place : ℕ) (old new : Local) : Type 0 where
  pub class : ℕ
  pub is : throwable c name ≡ Some class
  pub here : new.position ≡ Throwing place class
  pub stays : Stays old new

-- What one turn did: a silent step, or nothing but to show what the thread asks or how it rests.
abbrev pub TurnsTo : Code → Local → Local → Did → Type 0
TurnsTo c old new Went = (b : ℕ) × (code_next c (thread_of c old) ≡ Silent b (thread_of c new)) × (new.begun ≡ old.begun + b) × (b < 2 ^ 32)
TurnsTo c old new (Asked committed) = (thread_of c new ≡ thread_of c old) × (new.begun ≡ old.begun) × AsksNow c new committed
TurnsTo c old new (Rested class) = (thread_of c new ≡ thread_of c old) × (new.begun ≡ old.begun) × (new.position ≡ Thrown class)
TurnsTo c old new NoMemory = (thread_of c new ≡ thread_of c old) × (new.begun ≡ old.begun)

-- what the instruction at a place does next: a silent step, or the ask that stands there now
abbrev pub StandsAt : Code → Instr → ℕ → Local → Local → Option Bool → Type 0
StandsAt c i place old new None = (new ≡ old) × ((b : ℕ) → (state : CodeThread) × (act c i b place old.operands old.slots ≡ Silent b state))
StandsAt c i place old new (Some committed) = Stops c i place old new committed

-- What is due of a thread that does no turn.
abbrev pub IsDue : Code → Local → Local → Due → Type 0
IsDue c old new Step = (new ≡ old) × HasStep c new
IsDue c old new (Ask committed) = (thread_of c new ≡ thread_of c old) × (new.begun ≡ old.begun) × AsksNow c new committed
IsDue c old new (Rest class) = (new ≡ old) × (new.position ≡ Thrown class)

-- what a join of two texts came to
abbrev pub JoinsTo : List ℕ → List ℕ → Result (List ℕ) TextErr → Type 0
JoinsTo s t (Ok text) = joined s t ≡ Some text
JoinsTo s t (Err TooLong) = joined s t ≡ None
JoinsTo s t (Err Memory) = Unit {0}
