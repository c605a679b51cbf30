-- The words of the command line.
use Rattle.std.specs.Prelude.{◌≡◌, ℕ, Bool, ◌&&◌, not, ◌==◌, false, List, [], ◌∷◌, Option, Some, None, if◌then◌else◌, codes, bytes_eq}
use Rattle.std.specs.Borrow.{Bor}

-- a word that may name a file: it isn't empty and doesn't begin with a dash
abbrev pub is_file : List ℕ → Bool
is_file [] = false
is_file (b ∷ bs) = not (b == 45)

-- the file of `run FILE`, and none where the words are usage
abbrev pub file_of_words : List (List ℕ) → Option (List ℕ)
file_of_words [] = None
file_of_words (command ∷ []) = None
file_of_words (command ∷ file ∷ []) = if bytes_eq command (codes "run") && is_file file then Some file else None
file_of_words (command ∷ file ∷ more ∷ words) = None

-- what a look-up of a word answered
abbrev pub NameIs : Option (Bor (List ℕ)) → Option (List ℕ) → Type 0
NameIs None found = found ≡ None
NameIs (Some word) found = found ≡ Some word.now
