-- The front of the rows and what is behind it.
use Rattle.std.proofs.Common.{◌≡◌, ◌⊎◌, inl, inr, ℕ, ◌-◌, ◌<◌, ◌≤◌, Bool, true, false, if◌then◌else◌, List, [], ◌∷◌, ◌++◌, Option, Some, None, Err, refl, ap, sym, ◌∙◌, append_assoc, append-nil, subst, arith}
use Rattle.std.specs.Prelude.{nat_lt}
use Rattle.std.proofs.lemmas.Bool.Decides.{nat_tests}
use Rattle.vb_diag.specs.declared.refusal.Refusal.{Refusal}
use Rattle.vb_syntax.specs.declared.item.Row.{Row}
use Rattle.vb_blocks.specs.Trees.{CanGoOn, IsMisplaced}
use Rattle.vb_tree.specs.declared.tree.BuildErr.TheVariants as build
use Rattle.vb_parse.specs.UpTo.{AreBehind, IsUpTo, last_line, IsFront, IsFrontBuilt}

pub all_rows : (line : ℕ) (rows : List Row) → IsUpTo line rows rows
all_rows line rows = record { rest = []; are = sym (append-nil rows); behind = tt }

-- a row in a list of two parts stands in the first with the rest behind it, or in the second
data Part (a b : List Row) (before : List Row) (r : Row) : Type 0 where
  in_first : (more : List Row) → a ≡ before ++ r ∷ more → Part a b before r
  in_second : (front : List Row) (more : List Row) → b ≡ front ++ r ∷ more → Part a b before r

more_part : (x y : Row) (a b before : List Row) (r : Row) → x ≡ y → Part a b before r → Part (x ∷ a) b (y ∷ before) r
more_part x y a b before r e (in_first more p) = in_first more (ap (λ (v : Row). v ∷ a) e ∙ ap (λ (v : List Row). y ∷ v) p)
more_part x y a b before r e (in_second front more p) = in_second front more p

part : (a b before : List Row) (r : Row) (behind : List Row) → a ++ b ≡ before ++ r ∷ behind → Part a b before r
part [] b before r behind e = in_second before behind e
part (x ∷ a) b [] r behind e = let q : x ≡ r = cc in in_first a (ap (λ (v : Row). v ∷ a) q)
part (x ∷ a) b (y ∷ before) r behind e = let q : x ≡ y = cc in let t : a ++ b ≡ before ++ r ∷ behind = cc in more_part x y a b before r q (part a b before r behind t)

line_behind : (line : ℕ) (front : List Row) (r : Row) (more : List Row) → AreBehind line (front ++ r ∷ more) → line < r.line
line_behind line [] r more b = b.0
line_behind line (x ∷ front) r more b = line_behind line front r more b.1

-- a row that is misplaced in the front is so in all rows
pub misplaced_there : (rows front : List Row) (line : ℕ) (rest : List Row) → rows ≡ front ++ rest → IsMisplaced front line → IsMisplaced rows line
misplaced_there rows front line rest are (before, r, behind, is, on, off, at) =
    (before, r, behind ++ rest, are ∙ ap (λ (xs : List Row). xs ++ rest) is ∙ append_assoc before (r ∷ behind) rest, on, off, at)

placed_part : (front rest before : List Row) (r : Row) (least line : ℕ) → AreBehind least rest → CanGoOn before → (CanGoOn (before ++ r ∷ []) → ⊥) → line ≡ r.line → Part front rest before r → IsMisplaced front line ⊎ (least < line)
placed_part front rest before r least line behind on off at (in_first more is) = inl (before, r, more, is, on, off, at)
placed_part front rest before r least line behind on off at (in_second others more is) =
    inr (subst (λ (n : ℕ). least < n) (sym at) (line_behind least others r more (subst (λ (xs : List Row). AreBehind least xs) is behind)))

-- a row that is misplaced in all rows is so in the front, or stands in a greater line
pub misplaced_here : (rows front : List Row) (least line : ℕ) → IsUpTo least rows front → IsMisplaced rows line → IsMisplaced front line ⊎ (least < line)
misplaced_here rows front least line u (before, r, behind, is, on, off, at) =
    placed_part front u.rest before r least line u.behind on off at (part front u.rest before r behind (sym u.are ∙ is))

at_or_behind : (a b : ℕ) (s : Bool) → nat_lt a b ≡ s → a - 1 < b → (a < b) ⊎ (a ≡ b)
at_or_behind a b true e h = let less : a < b = grind (arith, nat_tests, e) in inl less
at_or_behind a b false e h = let no : b ≤ a = grind (arith, nat_tests, e) in inr (omega (arith, h, no))

by_number : (b : Refusal) (line : ℕ) (s : Bool) → nat_lt b.rule 34 ≡ s → last_line b < line → (b.line < line) ⊎ ((b.line ≡ line) × (b.rule ≤ 34))
by_number b line true e h =
    let small : b.rule < 34 = grind (arith, nat_tests, e) in
    let here : b.line - 1 < line = subst (λ (s : Bool). (if s then b.line - 1 else b.line) < line) e h in
    elim (at_or_behind b.line line (nat_lt b.line line) refl here) [ inl less ↦ inl less | inr same ↦ inr (same, omega (arith, small)) ]
by_number b line false e h = inl (subst (λ (s : Bool). (if s then b.line - 1 else b.line) < line) e h)

-- what stands behind the last line isn't told before the rule that is broken
pub not_told_before : (b z : Refusal) → last_line b < z.line → z.rule ≡ 34 → (b.line < z.line) ⊎ ((b.line ≡ z.line) × (b.rule ≤ z.rule))
not_told_before b z h is = elim (by_number b z.line (nat_lt b.rule 34) refl h) [
  | inl less ↦ inl less
  | inr here ↦ inr (here.0, subst (λ (n : ℕ). b.rule ≤ n) (sym is) here.1)
]

-- where memory ran out, any front will do
some_front : (rows : List Row) (broken : Option Refusal) → (front : List Row) × IsFront broken rows front
some_front rows None = (rows, refl)
some_front rows (Some b) = (rows, all_rows (last_line b) rows)

pub never_built : (file : ℕ) (rows : List Row) (broken : Option Refusal) → IsFrontBuilt file rows broken (Err build.Memory)
never_built file rows broken =
    let f = some_front rows broken in
    record {
      front = f.0;
      is_front = f.1;
      is_built = record {
        tree = tt;
        placed = tt;
        misplaced = λ line e. absurd cc;
        alone = λ line other e. absurd cc;
        unended = λ e. absurd cc;
        open_block = λ e. absurd cc;
      };
    }
