-- How far a file was read.
use Rattle.std.specs.Prelude.{◌≡◌, ◌⊎◌, ℕ, ◌+◌, ◌≤◌, Bool, true, if◌then◌else◌, List, ◌++◌, length, Some, None, Result, Ok, Err}
use Rattle.vb_diag.specs.Broken.{IsLeast, InFile, OfRule}
use Rattle.vb_text.specs.Names.{Extends}
use Rattle.vb_syntax.specs.declared.tokens.Line.{Line}
use Rattle.vb_lexer.specs.{declared.{error.LexErr.{LexErr, TheVariants.{Refused, Memory}}, piece.Before.Before, lines.Progress.Progress}, Characters.Character, Pieces.{Part, Falls, file_front}, Lines.{Item, items_from, marks_from, grouped, AreLines, SomeLineBreaks, RegionBreaks, with_parts}, Reader.Reads, Regions.{Tracks, AreBefore}}

-- items and marks of a file break the rule in the line
abbrev pub FileBreaks : List Item → List (ℕ × Bool) → ℕ → ℕ → Type 0
FileBreaks items marks line rule = SomeLineBreaks (grouped items) line rule ⊎ OfRule 9 (RegionBreaks marks) line rule

-- What was read of a text, and what is left of it; the table was another one before.
pub record ReadTo (earlier table : List (List ℕ)) (text rest : List Character) (before : Before) (p : Progress) : Type 0 where
  pub done : List Part
  pub items : List Item
  pub marks : List (ℕ × Bool)
  pub falls : (more : List Part) → Falls before rest more → Falls file_front text (done ++ more)
  pub items_are : (more : List Part) → items_from 1 1 true (done ++ more) ≡ items ++ items_from p.number p.reader.line p.reader.breaks more
  pub marks_are : (more : List Part) → marks_from 1 (done ++ more) ≡ marks ++ marks_from p.number more
  pub reads : (later : List (List ℕ)) → Extends later table → Reads later p.reader items
  pub tracks : Tracks p.regions marks
  pub behind : AreBefore marks (if before.line_front then p.number else p.number + 1)
  pub bound : p.number + length rest ≤ length text + 1
  pub names : table ≡ with_parts earlier done

-- what the end of a file answers
abbrev pub Finishes : List (List ℕ) → ℕ → List Item → List (ℕ × Bool) → Result (List Line) LexErr → Type 0
Finishes table file items marks (Ok lines) = AreLines table file (grouped items) lines × IsLeast (InFile file (FileBreaks items marks)) None
Finishes table file items marks (Err (Refused r)) = IsLeast (InFile file (FileBreaks items marks)) (Some r)
Finishes table file items marks (Err Memory) = Unit {0}
