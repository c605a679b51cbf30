-- Which rules on lines and blocks the logical lines of a file break, and which syntax tree they are.
use Rattle.std.specs.Prelude.{◌≡◌, ◌⊎◌, ℕ, List, [], reverse, None}
use Rattle.vb_syntax.specs.declared.{tokens.Line.Line, words.ContextualWords.ContextualWords, declaration.SourceFile.SourceFile, item.Row.Row}
use Rattle.vb_rows.specs.Files.{AreRowsOf, BreaksGrammarRule, depths_of}
use Rattle.vb_ends.specs.{Enders.BreaksBackwards, Roles.marks_of, Depth.IsTooDeep}
use Rattle.vb_blocks.specs.Trees.{IsTree, IsMisplaced}
use Rattle.vb_parse.specs.{Options.HasUnsupportedOption, Modifiers.HasModifiersAtOdds}

-- The rules on rows, each with its number: a block without an end or an end without a block; nesting deeper than 100; a row that can't stand where it
-- is; an option's setting that isn't supported; modifiers that are repeated or exclude each other. A row that isn't of the grammar goes on with no file
-- either, and its line's own rule, 30 or 32, is told before 34.
abbrev pub BreaksRowRule : List Row → List ℕ → ℕ → ℕ → Type 0
BreaksRowRule rows depths line rule =
    ((rule ≡ 31) × BreaksBackwards (marks_of None (reverse rows)) line)
    ⊎ ((rule ≡ 33) × IsTooDeep (reverse rows) (reverse depths) line)
    ⊎ ((rule ≡ 34) × IsMisplaced rows line)
    ⊎ ((rule ≡ 35) × HasUnsupportedOption rows line)
    ⊎ ((rule ≡ 36) × HasModifiersAtOdds rows line)

-- The lines break the rule in the line: one of them isn't of the grammar, or their rows break a rule on rows.
pub record BreaksLines (words : ContextualWords) (lines : List Line) (line rule : ℕ) : Type 0 where
  pub rows : List Row
  pub are_rows : AreRowsOf words [] lines rows
  pub broken : BreaksGrammarRule lines rows line rule ⊎ BreaksRowRule rows (depths_of lines) line rule

-- The lines of this file are the tree.
pub record IsTreeOf (words : ContextualWords) (file : ℕ) (lines : List Line) (tree : SourceFile) : Type 0 where
  pub rows : List Row
  pub are_rows : AreRowsOf words [] lines rows
  pub is_tree : IsTree file rows tree
