-- What rows lead to, one behind the other.
use Rattle.std.proofs.Common.{◌≡◌, ℕ, Bool, false, List, [], ◌∷◌, ◌++◌, Option, Some, None, refl, ap, ◌∙◌, subst, if◌then◌else◌}
use Rattle.vb_syntax.specs.declared.{statement.{StatementForm.StatementForm, Statement.Statement}, item.{Item.Item, Joint.Joint, Row.Row}}
use Rattle.vb_syntax.specs.declared.item.Joint.TheVariants as joint
use Rattle.vb_blocks.specs.{declared.{scope.Scope.Scope, frame.Frame.Frame}, Trees.{row, whole, statement, simple_form}, Steps.{State, step, run, run_on, is_line, opened, opened_or_turned, scope_turn, turned, body_step, statement_ends}}
use Rattle.vb_blocks.specs.declared.frame.Frame.TheVariants as frame

pub data Leads : Frame → List Frame → List Row → Frame → List Frame → Type 0 where
  here : {f : Frame} {fs : List Frame} → Leads f fs [] f fs
  on : {f g h : Frame} {fs gs hs : List Frame} {r : Row} {rows : List Row} → step f fs r ≡ Some (g, gs) → Leads g gs rows h hs → Leads f fs (r ∷ rows) h hs

pub and_on : {f g h : Frame} {fs gs hs : List Frame} {xs ys : List Row} → Leads f fs xs g gs → Leads g gs ys h hs → Leads f fs (xs ++ ys) h hs
and_on here b = b
and_on (on e a) b = on e (and_on a b)

pub leads_run : {f g : Frame} {fs gs : List Frame} {rows : List Row} → Leads f fs rows g gs → run rows f fs ≡ Some (g, gs)
leads_run here = refl
leads_run (on {rows = rows} e a) = ap (λ (o : Option State). run_on (run rows) o) e ∙ leads_run a

pub leads_to : {f g h : Frame} {fs gs hs : List Frame} {rows : List Row} → Leads f fs rows g gs → ◌≡◌ {A = State} (g, gs) (h, hs) → Leads f fs rows h hs
leads_to {f} {g} {h} {fs} {gs} {hs} {rows} a e = let P : State → Type 0 = λ st. Leads f fs rows st.0 st.1 in subst P e a

-- STEPS WHERE STATEMENTS STAND

module _ (sc : Scope) (ss : List Statement) (below : List Frame) (line : ℕ) (x : Item) where
  pub step_simple : (behind : Joint) (f : StatementForm) → simple_form x ≡ Some f
      → step (frame.Body sc ss) below (row line x behind) ≡ statement_ends behind sc (ss ++ statement line f ∷ []) below
  step_simple behind f e = ap (λ (o : Option StatementForm). body_step sc ss below line x behind o) e

  pub step_turns : is_line sc ≡ false → simple_form x ≡ None → opened line x ≡ None
      → step (frame.Body sc ss) below (whole line x) ≡ turned (scope_turn sc ss line x) below
  step_turns l e n = ap (λ (o : Option StatementForm). body_step sc ss below line x joint.End o) e
      ∙ ap (λ (b : Bool). turned (if b then None else opened_or_turned sc ss line x (opened line x)) below) l
      ∙ ap (λ (o : Option Frame). turned (opened_or_turned sc ss line x o) below) n

  pub step_opens : (f : Frame) → is_line sc ≡ false → simple_form x ≡ None → opened line x ≡ Some f
      → step (frame.Body sc ss) below (whole line x) ≡ Some (f, frame.Body sc ss ∷ below)
  step_opens f l e n = ap (λ (o : Option StatementForm). body_step sc ss below line x joint.End o) e
      ∙ ap (λ (b : Bool). turned (if b then None else opened_or_turned sc ss line x (opened line x)) below) l
      ∙ ap (λ (o : Option Frame). turned (opened_or_turned sc ss line x o) below) n
