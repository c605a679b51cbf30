-- The state of one thread as it is seen, and what its actions ask.
use Rattle.std.specs.Prelude.{List}
use Rattle.vb_threads.specs.Machine.{Ended, Threw}
use Rattle.vb_value.specs.{declared.action.Action.{Action, TheVariants.{New as NewAction, Write as WriteAction, End as EndAction}}, Datum.Datum, Store.{Ask, New, Write, End}}
use Rattle.vb_code.specs.{declared.local.{Position.{Position, TheVariants.{At as AtPlace, Writing, Throwing, Returned as HasReturned, Ended as HasEnded, Thrown}}, Local.Local}, Code.{Code, class_name, class_units}, Machine.{CodeThread, At, Returned, Gone}}

-- a thread whose ask has no answer yet is before its instruction
abbrev pub thread_at : Code → Position → List Datum → List Datum → CodeThread
thread_at c (AtPlace place) ops slots = At place ops slots
thread_at c (Writing place) ops slots = At place ops slots
thread_at c (Throwing place class) ops slots = At place ops slots
thread_at c HasReturned ops slots = Returned
thread_at c HasEnded ops slots = Gone Ended
thread_at c (Thrown class) ops slots = Gone (Threw (class_name c class))

abbrev pub thread_of : Code → Local → CodeThread
thread_of c l = thread_at c l.position l.operands l.slots

abbrev pub ask_of : Code → Action → Ask
ask_of c (NewAction class) = New (class_name c class) (class_units c class)
ask_of c (WriteAction text) = Write text
ask_of c EndAction = End
