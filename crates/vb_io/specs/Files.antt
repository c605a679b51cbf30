-- What a folder holds, and what a load of one of its files does.
use Rattle.std.specs.Prelude.{◌≡◌, ℕ, ◌<◌, ◌≤◌, List, [], ◌∷◌, ◌++◌, length, Option, Some, None, if◌then◌else◌, OnOk, OnErr, IsErrOf, Result, Vec, String, string_bytes, map, bytes_eq}
use Rattle.std.specs.Borrow.{Bor}
use Rattle.std.specs.declared.alloc.Global.{Global}
use Rattle.vb_io.specs.{declared.LoadErr.{LoadErr, TheVariants.{Missing, TooLong, Failed}}, Causes.Rose}

-- names with the bytes of their files
abbrev pub Files : Type 0
Files = List (List ℕ × List ℕ)

-- the bytes of the first file of that name
abbrev pub file_of : Files → List ℕ → Option (List ℕ)
file_of [] name = None
file_of (f ∷ files) name = if bytes_eq f.0 name then Some f.1 else file_of files name

-- a fact about the files, where the folder tells them
abbrev pub OfTold : Option Files → (Files → Type 0) → Type 0
OfTold told P = (files : Files) → told ≡ Some files → P files

-- What a load leaves in into, and why it is refused.
pub record Loads (told : Option Files) (name : List ℕ) (most : ℕ) (before now : ℕ) (result : Result (Unit {0}) LoadErr) (old new : List ℕ) : Type 0 where
  pub loaded : OnOk result ((bytes : List ℕ) × (new ≡ old ++ bytes) × (length bytes ≤ most) × OfTold told (λ files. file_of files name ≡ Some bytes))
  pub missing : IsErrOf result Missing → OfTold told (λ files. file_of files name ≡ None)
  pub absent : OfTold told (λ files. file_of files name ≡ None → IsErrOf result Missing)
  pub too_long : IsErrOf result TooLong → OfTold told (λ files. (bytes : List ℕ) × (file_of files name ≡ Some bytes) × (most < length bytes))
  pub longer : OfTold told (λ files. (bytes : List ℕ) → file_of files name ≡ Some bytes → most < length bytes → IsErrOf result TooLong)
  pub failed : IsErrOf result Failed → Rose before now
  pub later : before ≤ now
  pub unchanged : OnErr result (new ≡ old)

-- the files of a list in memory
abbrev pub named_files : List (String Global × Vec ℕ Global) → Files
named_files files = map (λ f. (string_bytes f.0, f.1.items)) files

-- what a look-up answered
abbrev pub IsFound : Option (Bor (List ℕ)) → Option (List ℕ) → Type 0
IsFound None found = found ≡ None
IsFound (Some b) found = found ≡ Some b.now
