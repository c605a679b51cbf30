-- What the run of a program with one thread comes to.
use Rattle.std.specs.Prelude.{◌≡◌, ℕ, ◌+◌, ◌<◌, ◌≤◌, ◌++◌, List, [], ◌∷◌, map, length, Option, Some}
use Rattle.std.specs.Io.KnownBytes.{Appends}
use Rattle.vb_io.specs.Causes.{Rose}
use Rattle.vb_text.specs.Units.{utf8_of}
use Rattle.vb_threads.specs.{Machine.{Sign, AsksWrite, quiet, begun, taken}, World.{Thread, World, Run as Legal, opening, Entry as OneEntry}, Stands.{sign, IsStuck}, Schedule.{Reaches, Stop as ThreadStop, Ended as AllHaveEnded, Uncaught as HasThrown, HeapLimit as NoHeap, StopSays}}
use Rattle.vb_value.specs.{Store.{Store, seen}, declared.{journal.Entry.Entry, stop.{Limits.Limits, Stop.{Stop, TheVariants.{Ended, Uncaught, HeapLimit, TurnLimit, WriteFault, Memory}}}}}
use Rattle.vb_code.specs.{Code.{Code, class_name}, Machine.{CodeThread, code_next, code_machine}}
use Rattle.vb_turns.specs.declared.alone.Run.{Run}

-- one recorded action, as the entry of a journal of threads
abbrev pub entry_of : Entry → OneEntry
entry_of e = record { thread = e.thread; worker = e.worker; committed = e.committed }

-- each entry is one of thread 0, run by worker 0
abbrev pub AreMains : List Entry → Type 0
AreMains [] = Unit {0}
AreMains (e ∷ es) = (e.thread ≡ 0) × (e.worker ≡ 0) × AreMains es

-- what the one thread shows in this state
abbrev pub ShowsIn : Code → Store → CodeThread → ℕ → Sign → Type 0
ShowsIn c store state t x = (t ≡ 0) × (sign (code_machine c).rows store (code_next c state) ≡ Some x)

-- a stop stands while the one thread is in this state
abbrev pub StandsIn : Code → Store → CodeThread → ℕ → ThreadStop → Type 0
StandsIn c store state heap stop = StopSays (ShowsIn c store state) (IsStuck (code_machine c).rows store 0 (code_next c state)) 1 (seen store) heap stop

-- What the sink has gained at a stop: the console, and at a failed write a proper front of the text that is asked next.
abbrev pub ShowsBy : Code → Store → CodeThread → Stop → Option (List ℕ) → Option (List ℕ) → ℕ → ℕ → Type 0
ShowsBy c store state Ended old new before now = Appends old new store.console
ShowsBy c store state (Uncaught thread class) old new before now = Appends old new store.console
ShowsBy c store state HeapLimit old new before now = Appends old new store.console
ShowsBy c store state TurnLimit old new before now = Appends old new store.console
ShowsBy c store state Memory old new before now = Appends old new store.console
ShowsBy c store state WriteFault old new before now = (text : List ℕ) × (front : List ℕ) × (back : List ℕ) × ShowsIn c store state 0 (AsksWrite text) × (utf8_of text ≡ front ++ back) × (0 < length back) × Appends old new (store.console ++ front) × Rose before now

-- A stop of the threads stands where the one thread is. At the turn limit none does.
abbrev pub StandsBy : Code → Store → CodeThread → ℕ → Limits → Stop → Type 0
StandsBy c store state turns limits Ended = StandsIn c store state limits.heap AllHaveEnded
StandsBy c store state turns limits (Uncaught thread class) = StandsIn c store state limits.heap (HasThrown thread (class_name c class))
StandsBy c store state turns limits HeapLimit = StandsIn c store state limits.heap NoHeap
StandsBy c store state turns limits TurnLimit = (turns ≡ limits.turns) × ((other : ThreadStop) → StandsIn c store state limits.heap other → ⊥)
StandsBy c store state turns limits WriteFault = Unit {0}
StandsBy c store state turns limits Memory = Unit {0}

-- The journal is legal and leads to a world, from which the thread has come on to the run's tail by silent steps; the
-- counts are those of that run; and the sink and the threads are as the stop says.
pub record Ran (code : Code) (limits : Limits) (run : Run) (stop : Stop) (input : List ℕ) (old new : Option (List ℕ)) (before now : ℕ) : Type 0 where
  pub world : World CodeThread Store
  pub legal : Legal (code_machine code) (opening (code_machine code) input limits.heap) (map entry_of run.journal) world
  pub thread : Thread CodeThread
  pub one : world.threads ≡ thread ∷ []
  pub steps : ℕ
  pub reaches : Reaches (code_machine code) world run.tails
  pub tail : run.tails ≡ (thread.since + begun (code_next code) steps thread.state) ∷ []
  pub turns : run.turns ≡ world.paid + taken (code_next code) steps thread.state
  pub begun : run.begun ≡ world.begun + (thread.since + begun (code_next code) steps thread.state)
  pub threads : run.threads ≡ 0
  pub units : run.units ≡ world.store.units
  pub within : run.turns ≤ limits.turns
  pub committed : AreMains run.journal
  pub shows : ShowsBy code world.store (quiet (code_next code) steps thread.state) stop old new before now
  pub stands : StandsBy code world.store (quiet (code_next code) steps thread.state) run.turns limits stop
