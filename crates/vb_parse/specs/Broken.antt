-- The rules that are judged before a tree is built: private definitions, which the code's functions cite.
use Rattle.std.specs.Prelude.{◌≡◌, ◌⊎◌, ℕ, List, reverse, Option, Some, None, Result, Err}
use Rattle.vb_syntax.specs.declared.{declaration.SourceFile.SourceFile, item.Row.Row}
use Rattle.vb_ends.specs.{Enders.BreaksBackwards, Roles.marks_of, Depth.IsTooDeep}
use Rattle.vb_tree.specs.declared.tree.BuildErr.{BuildErr}
use Rattle.vb_tree.specs.declared.tree.BuildErr.TheVariants as build
use Rattle.vb_parse.specs.{Options.HasUnsupportedOption, Modifiers.HasModifiersAtOdds}

-- the rules on rows but for that on where they stand
abbrev pub BreaksJudged : List Row → List ℕ → ℕ → ℕ → Type 0
BreaksJudged rows depths line rule =
    ((rule ≡ 31) × BreaksBackwards (marks_of None (reverse rows)) line)
    ⊎ ((rule ≡ 33) × IsTooDeep (reverse rows) (reverse depths) line)
    ⊎ ((rule ≡ 35) × HasUnsupportedOption rows line)
    ⊎ ((rule ≡ 36) × HasModifiersAtOdds rows line)

-- the line of the row that can't stand where it is, if there is no tree for that
abbrev pub misplaced_in : Result SourceFile BuildErr → Option ℕ
misplaced_in (Err (build.Misplaced line)) = Some line
misplaced_in built = None
