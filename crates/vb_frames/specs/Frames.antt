-- What a thread asks where it stands, where the answer leads, and why a silent run has paused.
use Rattle.std.specs.Prelude.{◌≡◌, ℕ, ◌+◌, ◌^◌, ◌<◌, Bool, List, [], ◌∷◌, drop, Option}
use Rattle.vb_threads.specs.Machine.{Ended, Threw, Silent, Asks, quiet, taken, begun}
use Rattle.vb_value.specs.{Datum.{Datum, Number, Truth, Letters, Object, units_of}, Store.{Ask, New, Write, End, Reply}}
use Rattle.vb_code.specs.{declared.local.{Position.{Position, TheVariants.{At as AtPlace, Writing, Throwing, Returned as HasReturned, Ended as HasEnded, Thrown}}, Local.Local}, Code.{Code, class_name, class_units}, Machine.{CodeThread, At, Gone, Lost, code_next}, Shapes.IsState, Local.{thread_of, ask_of}}
use Rattle.vb_frames.specs.declared.run.Pause.{Pause, TheVariants.{Ask as AskPause, Spent, Uncaught, Memory}}

-- the text on top of the operands
abbrev pub top_text : List Datum → List ℕ
top_text [] = []
top_text (Number kind value ∷ rest) = []
top_text (Truth holds ∷ rest) = []
top_text (Letters t ∷ rest) = units_of t
top_text (Object number ∷ rest) = []

-- what a thread asks that is there. One that asks nothing is lost
abbrev pub asked_at : Code → Position → List Datum → Ask
asked_at c (AtPlace place) ops = End
asked_at c (Writing place) ops = Write (top_text ops)
asked_at c (Throwing place class) ops = New (class_name c class) (class_units c class)
asked_at c HasReturned ops = End
asked_at c HasEnded ops = End
asked_at c (Thrown class) ops = End

abbrev pub asked : Code → Local → Ask
asked c l = asked_at c l.position l.operands

-- where each answer to that leads
abbrev pub given_at : Code → Position → List Datum → List Datum → CodeThread
given_at c (AtPlace place) ops slots = Lost
given_at c (Writing place) ops slots = At (place + 1) (drop 1 ops) slots
given_at c (Throwing place class) ops slots = Gone (Threw (class_name c class))
given_at c HasReturned ops slots = Gone Ended
given_at c HasEnded ops slots = Lost
given_at c (Thrown class) ops slots = Lost

abbrev pub given : Code → Local → CodeThread
given c l = given_at c l.position l.operands l.slots

-- a thread is where it has asked and has no answer yet
abbrev pub AwaitsAt : Position → List Datum → Type 0
AwaitsAt (AtPlace place) ops = ⊥
AwaitsAt (Writing place) ops = (place + 1 < 2 ^ 64) × (text : Option (List ℕ)) × (rest : List Datum) × (ops ≡ Letters text ∷ rest)
AwaitsAt (Throwing place class) ops = Unit {0}
AwaitsAt HasReturned ops = Unit {0}
AwaitsAt HasEnded ops = ⊥
AwaitsAt (Thrown class) ops = ⊥

abbrev pub Awaits : Local → Type 0
Awaits l = AwaitsAt l.position l.operands

-- The thread asks what stands there, each answer leads on to a state, and the entry is committed as its mark says.
pub record AsksNow (c : Code) (l : Local) (committed : Bool) : Type 0 where
  pub awaits : Awaits l
  pub state : IsState c (given c l)
  pub commits : Reply → Bool
  pub asks : code_next c (thread_of c l) ≡ Asks (asked c l) commits (λ r. given c l)
  pub marked : (r : Reply) → commits r ≡ committed

-- what the thread does next is a silent step
abbrev pub HasStep : Code → Local → Type 0
HasStep c l = (begins : ℕ) × (state : CodeThread) × (code_next c (thread_of c l) ≡ Silent begins state)

-- what a pause says of the thread, after so many of the turns of a budget
abbrev pub PausesAt : Code → Local → ℕ → ℕ → Pause → Type 0
PausesAt c l spent budget (AskPause action committed) = (ask_of c action ≡ asked c l) × AsksNow c l committed
PausesAt c l spent budget Spent = (spent ≡ budget) × HasStep c l
PausesAt c l spent budget (Uncaught class) = l.position ≡ Thrown class
PausesAt c l spent budget Memory = Unit {0}

-- the pause of a thread that asks
abbrev pub ShowsAsk : Local → Bool → Pause → Type 0
ShowsAsk l committed (AskPause action mark) = ((c : Code) → ask_of c action ≡ asked c l) × (mark ≡ committed)
ShowsAsk l committed Spent = ⊥
ShowsAsk l committed (Uncaught class) = ⊥
ShowsAsk l committed Memory = Unit {0}

-- The thread has done so many silent steps, which begin so many statements.
pub record RunsOn (c : Code) (old new : Local) (spent : ℕ) : Type 0 where
  pub thread : thread_of c new ≡ quiet (code_next c) spent (thread_of c old)
  pub each : taken (code_next c) spent (thread_of c old) ≡ spent
  pub begun : new.begun ≡ old.begun + begun (code_next c) spent (thread_of c old)
