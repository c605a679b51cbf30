-- How many blocks of each sort are open.
use Rattle.std.specs.Prelude.{◌≡◌, ℕ, ◌+◌, ◌==◌, Bool, true, false, if◌then◌else◌, List, [], ◌∷◌, slice_index_or}
use Rattle.vb_ends.specs.declared.{role.Sort.Sort, stack.Open.Open}
use Rattle.vb_ends.specs.declared.role.Sort.TheVariants as sort

-- each sort by a number
abbrev pub number : Sort → ℕ
number sort.If = 0
number sort.While = 1
number sort.Do = 2
number sort.For = 3
number sort.Select = 4
number sort.Try = 5
number sort.SyncLock = 6
number sort.With = 7
number sort.Using = 8
number sort.Sub = 9
number sort.Function = 10
number sort.Property = 11
number sort.Get = 12
number sort.Set = 13
number sort.Event = 14
number sort.AddHandler = 15
number sort.RemoveHandler = 16
number sort.RaiseEvent = 17
number sort.Module = 18
number sort.Class = 19
number sort.Interface = 20

abbrev pub same_sort : Sort → Sort → Bool
same_sort a b = number a == number b

-- a block of the sort is among these
unfoldable pub holds : Sort → List Open → Bool
holds s [] = false
holds s (o ∷ os) = if same_sort o.sort s then true else holds s os

unfoldable pub count : Sort → List Open → ℕ
count s [] = 0
count s (o ∷ os) = if same_sort o.sort s then count s os + 1 else count s os

-- the counts of these blocks, by the number of the sort
unfoldable pub AreCounts : List ℕ → List Open → Type 0
AreCounts counts blocks = (s : Sort) → slice_index_or counts (number s) 0 ≡ count s blocks
