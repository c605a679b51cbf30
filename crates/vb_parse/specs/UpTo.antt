-- The rows as far as a broken rule: private definitions, which the code's functions cite.
use Rattle.std.specs.Prelude.{◌≡◌, ℕ, ◌-◌, ◌<◌, nat_lt, if◌then◌else◌, List, [], ◌∷◌, ◌++◌, reverse, Option, Some, None, Result, Err, IfOk}
use Rattle.vb_diag.specs.declared.refusal.Refusal.{Refusal}
use Rattle.vb_syntax.specs.declared.{declaration.SourceFile.SourceFile, item.Row.Row}
use Rattle.vb_ends.specs.{declared.role.Sort.Sort, Roles.{marks_of, AreOpenBehind}}
use Rattle.vb_tree.specs.declared.tree.BuildErr.{BuildErr}
use Rattle.vb_tree.specs.declared.tree.BuildErr.TheVariants as build
use Rattle.vb_blocks.specs.Trees.{IsTree, IsMisplaced}

-- each stands in a greater line
abbrev pub AreBehind : ℕ → List Row → Type 0
AreBehind line [] = Unit {0}
AreBehind line (r ∷ rs) = (line < r.line) × AreBehind line rs

-- the front of the rows, behind which each stands in a greater line
pub record IsUpTo (line : ℕ) (rows front : List Row) : Type 0 where
  pub rest : List Row
  pub are : rows ≡ front ++ rest
  pub behind : AreBehind line rest

-- The last line in which a row may stand that is misplaced and told before the rule that is broken: its line, or that before it,
-- where its number is less than 34.
abbrev pub last_line : Refusal → ℕ
last_line b = if nat_lt b.rule 34 then b.line - 1 else b.line

-- all rows where no rule is broken, and else those as far as that line
abbrev pub IsFront : Option Refusal → List Row → List Row → Type 0
IsFront None rows front = front ≡ rows
IsFront (Some b) rows front = IsUpTo (last_line b) rows front

-- what is known of a tree that was to be built of rows
pub record IsBuilt (file : ℕ) (rows : List Row) (built : Result SourceFile BuildErr) : Type 0 where
  pub tree : IfOk built (λ t. IsTree file rows t)
  pub placed : IfOk built (λ t. (line : ℕ) → IsMisplaced rows line → ⊥)
  pub misplaced : (line : ℕ) → built ≡ Err (build.Misplaced line) → IsMisplaced rows line
  pub alone : (line other : ℕ) → built ≡ Err (build.Misplaced line) → IsMisplaced rows other → other ≡ line
  pub unended : built ≡ Err build.Unended → (line : ℕ) → IsMisplaced rows line → ⊥
  pub open_block : built ≡ Err build.Unended → (s : Sort) × (ss : List Sort) × AreOpenBehind (marks_of None (reverse rows)) (s ∷ ss)

-- a front of the rows was built, as far as the rule that is broken
pub record IsFrontBuilt (file : ℕ) (rows : List Row) (broken : Option Refusal) (built : Result SourceFile BuildErr) : Type 0 where
  pub front : List Row
  pub is_front : IsFront broken rows front
  pub is_built : IsBuilt file front built
