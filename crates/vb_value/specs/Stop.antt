-- Exit statuses.
use Rattle.std.specs.Prelude.{ℕ}
use Rattle.vb_value.specs.declared.stop.Status.{Status, TheVariants.{Ended, Refused, Usage, Uncaught, AllWaiting, Heap, Turns, Depth, Read, Write, Memory, File}}

abbrev pub status_code : Status → ℕ
status_code Ended = 0
status_code Refused = 1
status_code Usage = 2
status_code Uncaught = 3
status_code AllWaiting = 4
status_code Heap = 5
status_code Turns = 6
status_code Depth = 7
status_code Read = 8
status_code Write = 9
status_code Memory = 10
status_code File = 11
