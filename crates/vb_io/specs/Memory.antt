-- What the objects in memory tell.
use Rattle.std.specs.Prelude.{ℕ, ◌+◌, ◌-◌, ◌^◌, min, List, Option, Some, drop}
use Rattle.vb_io.specs.{Files.{Files, named_files}, declared.memory.{MemSource.MemSource, MemSink.MemSink, MemFolder.MemFolder}}

abbrev pub source_left : MemSource → Option (List ℕ)
source_left s = Some (drop s.at s.bytes.items)

abbrev pub source_faults : MemSource → ℕ
source_faults s = s.faults

-- the number of the next call
abbrev pub source_call : MemSource → ℕ
source_call s = s.calls

-- the numbers of the calls that fail
abbrev pub source_fails : MemSource → List ℕ
source_fails s = s.fails.items

abbrev pub sink_written : MemSink → Option (List ℕ)
sink_written s = Some s.bytes.items

abbrev pub sink_faults : MemSink → ℕ
sink_faults s = s.faults

abbrev pub sink_call : MemSink → ℕ
sink_call s = s.calls

abbrev pub sink_fails : MemSink → List ℕ
sink_fails s = s.fails.items

-- the most bytes that a call takes
abbrev pub sink_most : MemSink → ℕ
sink_most s = s.most

abbrev pub folder_holds : MemFolder → Option Files
folder_holds s = Some (named_files s.files.items)

abbrev pub folder_faults : MemFolder → ℕ
folder_faults s = s.faults

abbrev pub folder_call : MemFolder → ℕ
folder_call s = s.calls

abbrev pub folder_fails : MemFolder → List ℕ
folder_fails s = s.fails.items

-- The number of the call after this one. At the last value of its type it stands still.
abbrev pub next_call : ℕ → ℕ
next_call call = min (call + 1) (2 ^ 64 - 1)
