-- What the call has come to, the status and the line that tell it.
use Rattle.std.specs.Prelude.{◌≡◌, ◌⊎◌, ℕ, List, [], ◌++◌, Option, codes}
use Rattle.std.specs.Fmt.{decimal}
use Rattle.std.specs.Io.KnownBytes.{Appends}
use Rattle.vb_diag.specs.Rules.{refusal_text}
use Rattle.vb_io.specs.{Causes.Rose, Outside.AppendsPart}
use Rattle.vb_value.specs.declared.stop.{Stop.{Stop, TheVariants.{Ended, Uncaught, HeapLimit, TurnLimit, WriteFault, Memory as NoMemory}}, Status.{Status, TheVariants.{Ended as StatusEnded, Refused as StatusRefused, Usage as StatusUsage, Uncaught as StatusUncaught, Heap, Turns, Read, Write, Memory as StatusMemory, File}}}
use Rattle.vb_top.specs.declared.outcome.Answer.{Answer, TheVariants.{Usage, Missing, TooLong, LoadFault, Refused, Memory, Stopped}}

-- the exit status of a stop
abbrev pub status_of_stop : Stop → Status
status_of_stop Ended = StatusEnded
status_of_stop (Uncaught thread class) = StatusUncaught
status_of_stop HeapLimit = Heap
status_of_stop TurnLimit = Turns
status_of_stop WriteFault = Write
status_of_stop NoMemory = StatusMemory

-- the exit status of an answer
abbrev pub status_of : Answer → Status
status_of Usage = StatusUsage
status_of Missing = File
status_of TooLong = File
status_of LoadFault = Read
status_of (Refused line rule) = StatusRefused
status_of Memory = StatusMemory
status_of (Stopped stop) = status_of_stop stop

-- the line that tells a stop; name is the full name of the class that was thrown
abbrev pub line_of_stop : Stop → List ℕ → List ℕ
line_of_stop Ended name = []
line_of_stop (Uncaught thread class) name = codes "uncaught on thread " ++ decimal thread ++ codes ": " ++ (name ++ codes "\n")
line_of_stop HeapLimit name = codes "heap limit reached\n"
line_of_stop TurnLimit name = codes "turn limit reached\n"
line_of_stop WriteFault name = codes "write fault\n"
line_of_stop NoMemory name = codes "out of memory\n"

-- the line that tells an answer about a file
abbrev pub line_of : Answer → List ℕ → List ℕ → List ℕ
line_of Usage file name = codes "usage: vbrun run FILE.. [--limit N] [--heap N] [--seed N or --workers N], check FILE.., code FILE.., sample N\n"
line_of Missing file name = file ++ codes ": not found\n"
line_of TooLong file name = file ++ codes ": longer than 4194304 bytes\n"
line_of LoadFault file name = codes "read fault\n"
line_of (Refused line rule) file name = refusal_text file line rule
line_of Memory file name = codes "out of memory\n"
line_of (Stopped stop) file name = line_of_stop stop name

-- the line that tells a refusal of a file, where one is to be told
abbrev pub IsRefusalLine : Answer → List ℕ → List ℕ → Type 0
IsRefusalLine Usage file line = Unit {0}
IsRefusalLine Missing file line = Unit {0}
IsRefusalLine TooLong file line = Unit {0}
IsRefusalLine LoadFault file line = Unit {0}
IsRefusalLine (Refused number rule) file line = line ≡ refusal_text file number rule
IsRefusalLine Memory file line = Unit {0}
IsRefusalLine (Stopped stop) file line = Unit {0}

-- The line is told and the status is the answer's; or a proper front of the line is, since the sink has failed, and the status is 9.
abbrev pub Tells : List ℕ → Status → Status → Option (List ℕ) → Option (List ℕ) → ℕ → ℕ → Type 0
Tells line said status old new before now = ((status ≡ said) × Appends old new line) ⊎ ((status ≡ Write) × AppendsPart old new line × Rose before now)
