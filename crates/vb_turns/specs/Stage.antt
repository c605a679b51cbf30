-- A run so far, and what one ask or a stop makes of it.
use Rattle.std.specs.Prelude.{◌≡◌, ◌⊎◌, ℕ, ◌+◌, ◌*◌, ◌<◌, ◌≤◌, ◌++◌, Bool, cond, List, [], ◌∷◌, map, length, Option, Some, None}
use Rattle.std.specs.Io.KnownBytes.{Appends, Keeps}
use Rattle.vb_io.specs.{Causes.Rose, Outside.AppendsPart}
use Rattle.vb_text.specs.Units.{utf8_of}
use Rattle.vb_threads.specs.{Machine.{quiet, begun, taken}, World.{Thread, World, Run as Legal, opening}}
use Rattle.vb_value.specs.{Store.{Store, Ask, New, Write, End}, declared.{action.Action.{Action, TheVariants.{New as NewAction, Write as WriteAction, End as EndAction}}, stop.{Limits.Limits, Stop.{Stop, TheVariants.{Ended, Uncaught, HeapLimit, TurnLimit, WriteFault, Memory}}}}}
use Rattle.vb_code.specs.{declared.local.Position.TheVariants.{Ended as HasEnded, Thrown}, Code.Code, Machine.{CodeThread, code_next, code_machine}, Shapes.IsState, Local.{thread_of, ask_of}}
use Rattle.vb_frames.specs.{declared.run.Pause.{Pause, TheVariants.{Ask as AskPause, Spent, Uncaught as UncaughtPause, Memory as MemoryPause}}, Frames.{AsksNow, HasStep, asked, given}}
use Rattle.vb_turns.specs.{declared.alone.Running.Running, Ran.{entry_of, AreMains}}

-- The journal is legal and leads to a world with this console and these ended threads, from which the thread has come on
-- to where it is; the counts are those of that run.
pub record Stage (c : Code) (heap : ℕ) (input : List ℕ) (r : Running) (console ended : List ℕ) : Type 0 where
  pub world : World CodeThread Store
  pub legal : Legal (code_machine c) (opening (code_machine c) input heap) (map entry_of r.journal) world
  pub thread : Thread CodeThread
  pub one : world.threads ≡ thread ∷ []
  pub steps : ℕ
  pub arrives : quiet (code_next c) steps thread.state ≡ thread_of c r.local
  pub tail : r.local.begun ≡ thread.since + begun (code_next c) steps thread.state
  pub turns : r.turns ≡ world.paid + taken (code_next c) steps thread.state
  pub begun : r.settled ≡ world.begun
  pub units : r.units ≡ world.store.units
  pub limit : world.store.heap ≡ heap
  pub shown : world.store.console ≡ console
  pub over : world.store.ended ≡ ended

abbrev pub IsStage : Code → ℕ → Running → List ℕ → List ℕ → Type 0
IsStage c heap r console ended = (input : List ℕ) → Stage c heap input r console ended

pub record IsSmall (limits : Limits) (r : Running) : Type 0 where
  pub begun : r.settled + r.local.begun ≤ 4294967296 * r.turns
  pub turns : r.turns ≤ limits.turns
  pub units : r.units ≤ limits.heap

-- a run of checked code that goes on
pub record IsFine (c : Code) (limits : Limits) (r : Running) : Type 0 where
  pub state : IsState c (thread_of c r.local)
  pub small : IsSmall limits r
  pub mains : AreMains r.journal

abbrev pub PausesNow : Code → Limits → Running → Pause → Type 0
PausesNow c limits r (AskPause action committed) = (ask_of c action ≡ asked c r.local) × AsksNow c r.local committed
PausesNow c limits r Spent = (r.turns ≡ limits.turns) × HasStep c r.local
PausesNow c limits r (UncaughtPause class) = r.local.position ≡ Thrown class
PausesNow c limits r MemoryPause = Unit {0}

-- each stage of the old run is one of the new run, with more console and more ended threads
abbrev pub Leads : Code → Limits → Running → Running → List ℕ → List ℕ → Type 0
Leads c limits old new more over = (console ended : List ℕ) → IsStage c limits.heap old console ended → IsStage c limits.heap new (console ++ more) (ended ++ over)

abbrev pub units_asked : Ask → ℕ
units_asked (New class units) = units
units_asked (Write text) = 0
units_asked End = 0

abbrev pub written_by : Ask → List ℕ
written_by (New class units) = []
written_by (Write text) = utf8_of text
written_by End = []

abbrev pub ended_by : Ask → List ℕ
ended_by (New class units) = []
ended_by (Write text) = []
ended_by End = 0 ∷ []

pub record IsSame (old new : Running) : Type 0 where
  pub local : new.local ≡ old.local
  pub journal : new.journal ≡ old.journal
  pub turns : new.turns ≡ old.turns
  pub settled : new.settled ≡ old.settled
  pub units : new.units ≡ old.units

pub record Adds (c : Code) (limits : Limits) (old new : Running) (ask : Ask) (before after : Option (List ℕ)) : Type 0 where
  pub leads : Leads c limits old new (written_by ask) (ended_by ask)
  pub fine : IsFine c limits new
  pub turns : new.turns ≡ old.turns + 1
  pub going : ended_by ask ≡ [] → new.local.position ≡ HasEnded → ⊥
  pub shows : Appends before after (written_by ask)

abbrev pub Performs : Code → Limits → Running → Running → Option (List ℕ) → Option (List ℕ) → ℕ → ℕ → Option Stop → Type 0
Performs c limits old new before after faults now None = Adds c limits old new (asked c old.local) before after
Performs c limits old new before after faults now (Some Ended) = ⊥
Performs c limits old new before after faults now (Some (Uncaught thread class)) = ⊥
Performs c limits old new before after faults now (Some TurnLimit) = IsSame old new × Keeps before after × (old.turns ≡ limits.turns) × (old.units + units_asked (asked c old.local) ≤ limits.heap)
Performs c limits old new before after faults now (Some HeapLimit) = IsSame old new × Keeps before after × (limits.heap < old.units + units_asked (asked c old.local))
Performs c limits old new before after faults now (Some WriteFault) = IsSame old new × (text : List ℕ) × (asked c old.local ≡ Write text) × AppendsPart before after (utf8_of text) × Rose faults now
Performs c limits old new before after faults now (Some Memory) = IsSame old new × Keeps before after

abbrev pub PutsText : List ℕ → Option (List ℕ) → Option (List ℕ) → ℕ → ℕ → Option Stop → Type 0
PutsText text before after faults now None = Appends before after (utf8_of text)
PutsText text before after faults now (Some Ended) = ⊥
PutsText text before after faults now (Some (Uncaught thread class)) = ⊥
PutsText text before after faults now (Some HeapLimit) = ⊥
PutsText text before after faults now (Some TurnLimit) = ⊥
PutsText text before after faults now (Some WriteFault) = AppendsPart before after (utf8_of text) × Rose faults now
PutsText text before after faults now (Some Memory) = Keeps before after

abbrev pub PutsAll : Action → Option (List ℕ) → Option (List ℕ) → ℕ → ℕ → Option Stop → Type 0
PutsAll (NewAction class) before after faults now stop = (stop ≡ None) × Appends before after []
PutsAll (WriteAction text) before after faults now stop = PutsText text before after faults now stop
PutsAll EndAction before after faults now stop = (stop ≡ None) × Appends before after []

-- The answer was given, and the entry counted. Its statements are settled where it is committed.
pub record Settles (c : Code) (committed : Bool) (more : ℕ) (old new : Running) : Type 0 where
  pub thread : thread_of c new.local ≡ given c old.local
  pub journal : new.journal ≡ old.journal
  pub turns : new.turns ≡ old.turns + 1
  pub units : new.units ≡ old.units + more
  pub settled : new.settled ≡ cond committed (old.settled + old.local.begun) old.settled
  pub begun : new.local.begun ≡ cond committed 0 old.local.begun

-- the thread has a silent step, or an ask within the heap limit
abbrev pub HasMore : Code → Limits → Running → Type 0
HasMore c limits r = HasStep c r.local ⊎ (((committed : Bool) × AsksNow c r.local committed) × (r.units + units_asked (asked c r.local) ≤ limits.heap))

abbrev pub EndsBy : Code → Limits → Running → Stop → List ℕ → List ℕ → Option (List ℕ) → Option (List ℕ) → ℕ → ℕ → Type 0
EndsBy c limits r Ended more over before after faults now = (over ≡ 0 ∷ []) × Appends before after more
EndsBy c limits r (Uncaught thread class) more over before after faults now = (thread ≡ 0) × (r.local.position ≡ Thrown class) × Appends before after more
EndsBy c limits r HeapLimit more over before after faults now = ((committed : Bool) × AsksNow c r.local committed) × (limits.heap < r.units + units_asked (asked c r.local)) × Appends before after more
EndsBy c limits r TurnLimit more over before after faults now = (r.turns ≡ limits.turns) × (over ≡ []) × HasMore c limits r × Appends before after more
EndsBy c limits r WriteFault more over before after faults now = ((committed : Bool) × AsksNow c r.local committed) × (text : List ℕ) × (asked c r.local ≡ Write text) × (front : List ℕ) × (back : List ℕ) × (utf8_of text ≡ front ++ back) × (0 < length back) × Appends before after (more ++ front) × Rose faults now
EndsBy c limits r Memory more over before after faults now = Appends before after more

pub record Ends (c : Code) (limits : Limits) (old r : Running) (stop : Stop) (before after : Option (List ℕ)) (faults now : ℕ) : Type 0 where
  pub more : List ℕ
  pub over : List ℕ
  pub leads : Leads c limits old r more over
  pub small : IsSmall limits r
  pub mains : AreMains r.journal
  pub ends : EndsBy c limits r stop more over before after faults now

pub record GoesOn (c : Code) (limits : Limits) (old r : Running) (before after : Option (List ℕ)) : Type 0 where
  pub more : List ℕ
  pub leads : Leads c limits old r more []
  pub fine : IsFine c limits r
  pub going : r.local.position ≡ HasEnded → ⊥
  pub shows : Appends before after more

abbrev pub Rounds : Code → Limits → Running → Running → Option (List ℕ) → Option (List ℕ) → ℕ → ℕ → Option Stop → Type 0
Rounds c limits old r before after faults now None = GoesOn c limits old r before after × (old.turns < r.turns)
Rounds c limits old r before after faults now (Some stop) = Ends c limits old r stop before after faults now
