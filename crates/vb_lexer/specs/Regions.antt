-- The regions of a file, as far as it was read.
use Rattle.std.specs.Prelude.{◌≡◌, ℕ, zero, suc, ◌+◌, ◌<◌, ◌≤◌, Bool, List, [], ◌∷◌, ◌++◌, Option, Some, None}
use Rattle.vb_lexer.specs.{declared.regions.Regions.Regions, Lines.{begun, ended, IsUnclosed, IsUnopened, RegionBreaks}}

-- each of these lines is before the line
abbrev pub AreBefore : List (ℕ × Bool) → ℕ → Type 0
AreBefore [] line = Unit {0}
AreBefore (m ∷ ms) line = (m.0 < line) × AreBefore ms line

-- no region is open
pub record IsClosed (marks : List (ℕ × Bool)) : Type 0 where
  pub no_unclosed : (line : ℕ) → IsUnclosed marks line → ⊥

-- The outermost region that is open begins in the line outer, where none was open before.
pub record IsOpen (marks : List (ℕ × Bool)) (outer : ℕ) : Type 0 where
  pub unclosed : IsUnclosed marks outer
  pub outermost : begun unclosed.front ≡ ended unclosed.front
  pub first : (line : ℕ) → IsUnclosed marks line → outer ≤ line

-- Each region that ended was open, and so many are open.
pub record IsBalanced (marks : List (ℕ × Bool)) (depth : ℕ) : Type 0 where
  pub count : begun marks ≡ ended marks + depth
  pub within : (part rest : List (ℕ × Bool)) → marks ≡ part ++ rest → ended part ≤ begun part
  pub no_unopened : (line : ℕ) → IsUnopened marks line → ⊥

-- what is open where so many regions are
abbrev pub IsOpenFrom : List (ℕ × Bool) → ℕ → ℕ → Type 0
IsOpenFrom marks zero outer = IsClosed marks
IsOpenFrom marks (suc n) outer = IsOpen marks outer

-- what is known of lines of which none, or this as the first, ends a region that isn't open
abbrev pub IsState : List (ℕ × Bool) → ℕ → ℕ → Option ℕ → Type 0
IsState marks depth outer None = IsBalanced marks depth × IsOpenFrom marks depth outer
IsState marks depth outer (Some first) = IsUnopened marks first × ((line : ℕ) → RegionBreaks marks line → first ≤ line)

-- The regions are those of these lines that begin and end some.
pub record Tracks (r : Regions) (marks : List (ℕ × Bool)) : Type 0 where
  pub depth_within : (line : ℕ) → AreBefore marks line → r.depth ≤ line
  pub state : IsState marks r.depth r.outer r.unopened
