-- A row at which no step goes on is misplaced.
use Rattle.std.proofs.Common.{◌≡◌, ℕ, List, [], ◌∷◌, ◌++◌, Option, Some, None, refl, ap, sym, ◌∙◌, append_assoc}
use Rattle.vb_syntax.specs.declared.{declaration.SourceFile.SourceFile, item.Row.Row}
use Rattle.vb_blocks.specs.{declared.frame.Frame.Frame, Trees.{IsTree, CanGoOn, IsMisplaced}, Steps.{State, step, run, run_on, start, finished}}
use Rattle.vb_tree.proofs.{Leads.leads_run, FileRows.tree_leads, Building.{rows_hold, finished_is}, GoingOn.goes_on}

on_then : (a b : List Row) (o : Option State) → ((st : State) → run (a ++ b) st.0 st.1 ≡ run_on (run b) (run a st.0 st.1)) → run_on (run (a ++ b)) o ≡ run_on (run b) (run_on (run a) o)
on_then a b None h = refl
on_then a b (Some st) h = h st

pub run_then : (a b : List Row) (f : Frame) (fs : List Frame) → run (a ++ b) f fs ≡ run_on (run b) (run a f fs)
run_then [] b f fs = refl
run_then (r ∷ a) b f fs = on_then a b (step f fs r) (λ st. run_then a b st.0 st.1)

module _ (before : List Row) (r : Row) (st : State) (so_far : run before start [] ≡ Some st) where
  pub begins : CanGoOn before
  begins = goes_on st.0 st.1 before (rows_hold before st so_far)

  pub refused : step st.0 st.1 r ≡ None → CanGoOn (before ++ r ∷ []) → ⊥
  refused stop (others, t, is) =
      let l = tree_leads is in
      let e : run ((before ++ r ∷ []) ++ others) start [] ≡ None =
      ap (λ (rows : List Row). run rows start []) (append_assoc before (r ∷ []) others) ∙ run_then before (r ∷ others) start []
      ∙ ap (λ (o : Option State). run_on (run (r ∷ others)) o) so_far ∙ ap (λ (o : Option State). run_on (run others) o) stop in
      let f = leads_run l.leads in
      absurd cc

  pub misplaced : step st.0 st.1 r ≡ None → (behind : List Row) → IsMisplaced (before ++ r ∷ behind) r.line
  misplaced stop behind = (before, r, behind, refl, begins, refused stop, refl)

abbrev finished_of : ℕ → Option State → Option SourceFile
finished_of n None = None
finished_of n (Some st) = finished n st.0 st.1

-- no tree is of rows that lead elsewhere
pub no_tree : (n : ℕ) (rows : List Row) (st : State) → run rows start [] ≡ Some st → finished n st.0 st.1 ≡ None → (t : SourceFile) → IsTree n rows t → ⊥
no_tree n rows st e none t is =
    let l = tree_leads is in
    let f = leads_run l.leads in
    let g : finished_of n (Some st) ≡ Some t = ap (finished_of n) (sym e ∙ f) ∙ l.is in
    absurd cc

pub built : (n : ℕ) (rows : List Row) (st : State) (t : SourceFile) → run rows start [] ≡ Some st → finished n st.0 st.1 ≡ Some t → IsTree n rows t
built n rows st t e f = finished_is n st.0 st.1 rows t (rows_hold rows st e) f
