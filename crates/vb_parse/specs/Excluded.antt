-- Which rules the lines of a file can't break where they have a tree.
use Rattle.std.specs.Prelude.{◌≡◌, ◌⊎◌, ℕ, true, List, [], ◌∷◌}
use Rattle.vb_syntax.specs.declared.{tokens.Line.Line, words.ContextualWords.ContextualWords}
use Rattle.vb_rows.specs.Files.{begins_colon}
use Rattle.vb_parse.specs.Rules.{BreaksLines}

-- the first of the lines begins with a colon, and this is its number
abbrev pub BeginsColon : List Line → ℕ → Type 0
BeginsColon [] number = ⊥
BeginsColon (l ∷ ls) number = (begins_colon l.tokens ≡ true) × (number ≡ l.number)

-- A rule that the lines break is neither that on the ends of blocks, 31, nor that on where rows stand, 34. Where it is that on a line's own
-- form, 30, or 32 with a reserved word that the grammar doesn't use, the line is the first and begins with a colon.
abbrev pub BreakNoRuleOfForm : ContextualWords → List Line → Type 0
BreakNoRuleOfForm words lines =
    (line rule : ℕ) → BreaksLines words lines line rule → (rule ≡ 31 → ⊥) × (rule ≡ 34 → ⊥) × ((rule ≡ 30) ⊎ (rule ≡ 32) → BeginsColon lines line)
