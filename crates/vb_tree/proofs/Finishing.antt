-- The answer behind the last row is that of the steps.
use Rattle.std.proofs.Common.{◌≡◌, ℕ, Bool, true, false, List, [], ◌∷◌, reverse, Option, Some, None, Result, Ok, Err, IfOk, refl, sym, ap, ◌∙◌, subst}
use Rattle.std.proofs.lemmas.List.{reverse-reverse}
use Rattle.vb_syntax.specs.declared.{declaration.SourceFile.SourceFile, item.Row.Row}
use Rattle.vb_blocks.specs.{declared.{frame.{Frame.Frame, FileParts.FileParts}, fault.Fault.Fault}, Trees.{IsTree, IsMisplaced}, Steps.{State, Fails, run, start, finished}}
use Rattle.vb_blocks.specs.declared.frame.Frame.TheVariants as frame
use Rattle.vb_tree.specs.{declared.tree.BuildErr.BuildErr, Build.{stopped, finish}}
use Rattle.vb_tree.specs.declared.tree.BuildErr.TheVariants as error
use Rattle.vb_ends.specs.{declared.role.Sort.Sort, Roles.{marks_of, AreOpenBehind}}
use Rattle.vb_blocks.specs.declared.fault.Fault.TheVariants as fault
use Rattle.vb_tree.proofs.{Placing.{built, no_tree}, Placed.placed, Unended.unended}

pub finish_ok : (n : ℕ) (f : Frame) (b : Bool) (below : List Frame) (t : SourceFile) → (b ≡ true → below ≡ []) → finish n f b ≡ Ok t → finished n f (reverse below) ≡ Some t
finish_ok n (frame.File p) true below t h e =
    let whole : finished n (frame.File p) [] ≡ Some t = cc in
    subst (λ (fs : List Frame). finished n (frame.File p) (reverse fs) ≡ Some t) (sym (h refl)) whole
finish_ok n (frame.File p) false below t h e = absurd cc
finish_ok n f b below t h e = absurd cc

not_finished : (n : ℕ) (p : FileParts) (fs : List Frame) → (fs ≡ [] → ⊥) → finished n (frame.File p) fs ≡ None
not_finished n p [] h = absurd (h refl)
not_finished n p (f ∷ fs) h = refl

pub finish_unended : (n : ℕ) (f : Frame) (b : Bool) (below : List Frame) → (below ≡ [] → b ≡ true) → finish n f b ≡ Err error.Unended → finished n f (reverse below) ≡ None
finish_unended n (frame.File p) true below h e = absurd cc
finish_unended n (frame.File p) false below h e =
    not_finished n p (reverse below) (λ none. let empty : below ≡ [] = sym (reverse-reverse below) ∙ ap (λ (fs : List Frame). reverse fs) none in
    let contrary : false ≡ true = h empty in absurd cc)
finish_unended n f b below h e = refl

-- THE ANSWER

module _ (n : ℕ) (rows : List Row) (f : Frame) (b : Bool) (below : List Frame) (so_far : run rows start [] ≡ Some (f, reverse below)) where
  pub tree_is : (r : Result SourceFile BuildErr) → r ≡ finish n f b → (b ≡ true → below ≡ []) → IfOk r (λ t. IsTree n rows t)
  tree_is (Ok t) is h = built n rows (f, reverse below) t so_far (finish_ok n f b below t h (sym is))
  tree_is (Err e) is h = tt

  pub tree_placed : (r : Result SourceFile BuildErr) → IfOk r (λ t. (line : ℕ) → IsMisplaced rows line → ⊥)
  tree_placed (Ok t) = placed rows (f, reverse below) so_far
  tree_placed (Err e) = tt

  pub none_misplaced : (line : ℕ) → IsMisplaced rows line → ⊥
  none_misplaced = placed rows (f, reverse below) so_far

  pub no_tree_is : (r : Result SourceFile BuildErr) → r ≡ finish n f b → (below ≡ [] → b ≡ true) → r ≡ Err error.Unended → (t : SourceFile) → IsTree n rows t → ⊥
  no_tree_is r is h e = no_tree n rows (f, reverse below) so_far (finish_unended n f b below h (sym is ∙ e))

  pub block_is_open : (r : Result SourceFile BuildErr) → r ≡ finish n f b → (below ≡ [] → b ≡ true) → r ≡ Err error.Unended
      → (s : Sort) × (ss : List Sort) × AreOpenBehind (marks_of None (reverse rows)) (s ∷ ss)
  block_is_open r is h e = unended rows (f, reverse below) so_far n (finish_unended n f b below h (sym is ∙ e))

-- the end tells no line
pub no_line : (n : ℕ) (f : Frame) (b : Bool) (line : ℕ) → finish n f b ≡ Err (error.Misplaced line) → ⊥
no_line n (frame.File p) true line e = cc
no_line n (frame.File p) false line e = cc
no_line n f b line e = cc

-- the rows that were turned over, turned over again
pub led_by : (rows rest : List Row) (o : Option State) → rest ≡ reverse rows → run (reverse rest) start [] ≡ o → run rows start [] ≡ o
led_by rows rest o turned e = ap (λ (rs : List Row). run rs start []) (sym (reverse-reverse rows) ∙ ap reverse (sym turned)) ∙ e

pub misplaced_by : (rows rest : List Row) (line : ℕ) → rest ≡ reverse rows → IsMisplaced (reverse rest) line → IsMisplaced rows line
misplaced_by rows rest line turned is = subst (λ (rs : List Row). IsMisplaced rs line) (ap reverse turned ∙ reverse-reverse rows) is

-- where a step doesn't go on, the line is told, unless memory ran out
pub stopped_there : (f : Fault) (at line : ℕ) (o : Option State) (r : BuildErr) → r ≡ stopped f at → ◌≡◌ {A = Result Frame BuildErr} (Err r) (Err (error.Misplaced line)) → Fails f o → (o ≡ None) × (at ≡ line)
stopped_there fault.Memory at line o r is told h = absurd cc
stopped_there fault.Grammar at line o r is told h = (h, cc)
