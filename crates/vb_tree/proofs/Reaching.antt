-- What the rows so far lead to, while the others are still to come.
use Rattle.std.proofs.Common.{◌≡◌, List, [], ◌∷◌, ◌++◌, reverse, Option, Some, None, refl, sym, ap, subst, ◌∙◌, append_assoc}
use Rattle.std.proofs.lemmas.List.{append-nil}
use Rattle.vb_syntax.specs.declared.item.Row.{Row}
use Rattle.vb_blocks.specs.{declared.frame.Frame.Frame, Trees.IsMisplaced, Steps.{State, step, run, run_on, start}}
use Rattle.vb_tree.proofs.{Placing.{run_then, misplaced}, Frames.reverse_last}

-- The rows begin with some that lead to these frames, and the rest is still to come, here from the last.
pub record Reaches (rows rest : List Row) (top : Frame) (below : List Frame) : Type 0 where
  pub before : List Row
  pub all : rows ≡ before ++ reverse rest
  pub leads : run before start [] ≡ Some (top, below)

pub reaches_none : (rows : List Row) → Reaches (reverse rows) rows start []
reaches_none rows = record { before = []; all = refl; leads = refl }

pub reaches_more : (rows rest : List Row) (r : Row) (top next : Frame) (below over : List Frame) → Reaches rows (rest ++ r ∷ []) top below
    → step top below r ≡ Some (next, over) → Reaches rows rest next over
reaches_more rows rest r top next below over h e = record {
  before = h.before ++ r ∷ [];
  all = h.all ∙ ap (λ (xs : List Row). h.before ++ xs) (reverse_last rest r) ∙ sym (append_assoc h.before (r ∷ []) (reverse rest));
  leads = run_then h.before (r ∷ []) start [] ∙ ap (λ (o : Option State). run_on (run (r ∷ [])) o) h.leads ∙ ap (λ (o : Option State). run_on (run []) o) e;
}

pub reaches_misplaced : (rows rest : List Row) (r : Row) (top : Frame) (below : List Frame) → Reaches rows (rest ++ r ∷ []) top below → step top below r ≡ None
    → IsMisplaced rows r.line
reaches_misplaced rows rest r top below h e =
    let all : rows ≡ h.before ++ r ∷ reverse rest = h.all ∙ ap (λ (xs : List Row). h.before ++ xs) (reverse_last rest r) in
    subst (λ (xs : List Row). IsMisplaced xs r.line) (sym all) (misplaced h.before r (top, below) h.leads e (reverse rest))

pub reaches_all : (rows : List Row) (top : Frame) (below : List Frame) → Reaches rows [] top below → run rows start [] ≡ Some (top, below)
reaches_all rows top below h = subst (λ (xs : List Row). run xs start [] ≡ Some (top, below)) (sym (h.all ∙ append-nil h.before)) h.leads
