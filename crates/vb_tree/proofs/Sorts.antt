-- Which block each frame is, and what a turn of the innermost frame does to the blocks that are open.
use Rattle.std.proofs.Common.{◌≡◌, ℕ, Bool, true, false, List, [], ◌∷◌, ◌++◌, Option, Some, None, refl, ap, sym, ◌∙◌, subst, if◌then◌else◌}
use Rattle.vb_syntax.specs.declared.{statement.Statement.Statement, declaration.Member.Member, item.Item.Item}
use Rattle.vb_syntax.specs.declared.item.DeclarationLine.TheVariants as header
use Rattle.vb_syntax.specs.declared.item.Item.TheVariants as item
use Rattle.vb_ends.specs.{declared.role.{Sort.Sort, Role.Role, Mark.Mark}, Roles.{accessor_sort, goes_on_property, item_role, AreOpenBehind, opens, ends, stays}}
use Rattle.vb_ends.specs.declared.role.Sort.TheVariants as sort
use Rattle.vb_ends.specs.declared.role.Role.TheVariants as role
use Rattle.vb_blocks.specs.{declared.{scope.{Scope.Scope, AccessorHeader.AccessorHeader}, frame.{Frame.Frame, TypeHeader.TypeHeader, Whole.Whole, Turn.Turn}}, Steps.{State, is_line, takes_get, takes_set, takes_accessor, with_accessor, put, placed, turned, popped, automatic, reopened, reopened_last, reopened_as}}
use Rattle.vb_blocks.specs.declared.scope.Scope.TheVariants as scope
use Rattle.vb_blocks.specs.declared.scope.AccessorHeader.TheVariants as accessor_header
use Rattle.vb_blocks.specs.declared.frame.Frame.TheVariants as frame
use Rattle.vb_blocks.specs.declared.frame.TypeHeader.TheVariants as type_header
use Rattle.vb_blocks.specs.declared.frame.Whole.TheVariants as is
use Rattle.vb_blocks.specs.declared.frame.Turn.TheVariants as turn
use Rattle.vb_tree.proofs.MemberRows.{popped_append}

-- SORTS

-- the sort of a statement with one block, by the item that begins it
abbrev pub enclosed_sort : Item → Option Sort
enclosed_sort (item.While x) = Some sort.While
enclosed_sort (item.Do t) = Some sort.Do
enclosed_sort (item.For v a b c) = Some sort.For
enclosed_sort (item.ForEach v x) = Some sort.For
enclosed_sort (item.SyncLock x) = Some sort.SyncLock
enclosed_sort (item.With x) = Some sort.With
enclosed_sort (item.Using r) = Some sort.Using
enclosed_sort x = None

-- the sort of a procedure, by its header
abbrev pub procedure_sort : Item → Option Sort
procedure_sort (item.Declares (header.Sub ms s is)) = Some sort.Sub
procedure_sort (item.Declares (header.Constructor ms ps is)) = Some sort.Sub
procedure_sort (item.Declares (header.Function ms k s t is)) = Some sort.Function
procedure_sort x = None

abbrev pub accessor_header_sort : AccessorHeader → Sort
accessor_header_sort (accessor_header.Get l a) = sort.Get
accessor_header_sort (accessor_header.Set l a ps) = sort.Set
accessor_header_sort (accessor_header.Event l k ps) = accessor_sort k

-- a part of an `If` on one line is no block
abbrev pub scope_sort : Scope → Option Sort
scope_sort (scope.Enclosed l x) = enclosed_sort x
scope_sort (scope.If c) = Some sort.If
scope_sort (scope.Select c) = Some sort.Select
scope_sort (scope.Try c) = Some sort.Try
scope_sort (scope.Procedure l x) = procedure_sort x
scope_sort (scope.Accessor h) = Some (accessor_header_sort h)
scope_sort (scope.Line c) = None

abbrev pub type_sort : TypeHeader → Sort
type_sort (type_header.Module l a n) = sort.Module
type_sort (type_header.Class p) = sort.Class

-- the sort of the block that a frame is; a file is none
abbrev pub frame_sort : Frame → Option Sort
frame_sort (frame.Body s ss) = scope_sort s
frame_sort (frame.Select l v) = Some sort.Select
frame_sort (frame.Property p) = Some sort.Property
frame_sort (frame.Event e) = Some sort.Event
frame_sort (frame.Members h ms) = Some (type_sort h)
frame_sort (frame.Interface p) = Some sort.Interface
frame_sort (frame.File p) = None

abbrev pub grown : Option Sort → List Sort → List Sort
grown None ss = ss
grown (Some s) ss = s ∷ ss

-- the sorts of those frames that are blocks, the innermost first
abbrev pub open_sorts : List Frame → List Sort
open_sorts [] = []
open_sorts (f ∷ fs) = grown (frame_sort f) (open_sorts fs)

abbrev pub is_interface : Frame → Bool
is_interface (frame.Interface p) = true
is_interface f = false

abbrev pub is_members : Frame → Bool
is_members (frame.Members h ms) = true
is_members f = false

abbrev pub is_line_frame : Frame → Bool
is_line_frame (frame.Body s ss) = is_line s
is_line_frame f = false

-- ROLES

-- where blocks of the first sorts are open, those of the second are behind a row of the role
abbrev pub Leaves : Role → List Sort → List Sort → Type 0
Leaves (role.Opens s) before after = after ≡ s ∷ before
Leaves (role.Ends s) before after = before ≡ s ∷ after
Leaves role.Stays before after = after ≡ before

pub leaves_open : (r : Role) (line : ℕ) (marks : List Mark) (before after : List Sort) → Leaves r before after → AreOpenBehind marks before → AreOpenBehind (record { role = r; line = line } ∷ marks) after
leaves_open (role.Opens s) line marks before after e h = subst (λ (ss : List Sort). AreOpenBehind (record { role = role.Opens s; line = line } ∷ marks) ss) (sym e) (opens s line h)
leaves_open (role.Ends s) line marks before after e h = ends s line (subst (λ (ss : List Sort). AreOpenBehind marks ss) e h)
leaves_open role.Stays line marks before after e h = subst (λ (ss : List Sort). AreOpenBehind (record { role = role.Stays; line = line } ∷ marks) ss) (sym e) (stays line h)

-- BEFORE THE ITEM BEHIND

-- the state at which the item behind the rows is met, if there is one
abbrev pub reopened_at : Option Item → Frame → List Frame → Option State
reopened_at None f fs = Some (f, fs)
reopened_at (Some x) f fs = reopened x f fs

-- no item behind it opens a property in the frame again
abbrev pub IsSettled : Frame → Type 0
IsSettled f = (next : Option Item) (fs : List Frame) (st : State) → reopened_at next f fs ≡ Some st → ◌≡◌ {A = State} (f, fs) st

pub some_state : (p q : State) → ◌≡◌ {A = Option State} (Some p) (Some q) → p ≡ q
some_state p q e = cc

pub settled_body : (sc : Scope) (ss : List Statement) → IsSettled (frame.Body sc ss)
settled_body sc ss None fs st e = some_state (frame.Body sc ss, fs) st e
settled_body sc ss (Some x) fs st e = some_state (frame.Body sc ss, fs) st e

pub settled_other : (f : Frame) → is_members f ≡ false → IsSettled f
settled_other f none None fs st e = some_state (f, fs) st e
settled_other (frame.Members h ms) none (Some x) fs st e = absurd cc
settled_other f none (Some x) fs st e = some_state (f, fs) st e

settled_choice : (b : Bool) (h : TypeHeader) (ms : List Member) (fs : List Frame) → reopened_last h fs (popped ms) ≡ None → (st : State)
    → (if b then reopened_last h fs (popped ms) else Some (frame.Members h ms, fs)) ≡ Some st → ◌≡◌ {A = State} (frame.Members h ms, fs) st
settled_choice true h ms fs none st e = absurd cc
settled_choice false h ms fs none st e = some_state (frame.Members h ms, fs) st e

settled_members : (h : TypeHeader) (ms : List Member) → ((fs : List Frame) → reopened_last h fs (popped ms) ≡ None) → IsSettled (frame.Members h ms)
settled_members h ms none None fs st e = some_state (frame.Members h ms, fs) st e
settled_members h ms none (Some x) fs st e = settled_choice (goes_on_property (Some x)) h ms fs (none fs) st e

pub settled_new : (h : TypeHeader) → IsSettled (frame.Members h [])
settled_new h = settled_members h [] (λ fs. refl)

settled_with : (h : TypeHeader) (ms : List Member) (m : Member) → automatic m ≡ None → IsSettled (frame.Members h (ms ++ m ∷ []))
settled_with h ms m none = settled_members h (ms ++ m ∷ []) (λ fs. ap (reopened_last h fs) (popped_append ms m) ∙ ap (reopened_as h ms fs) none)

-- the part is no property that an item behind it goes on with
abbrev pub IsPlain : Whole → Type 0
IsPlain (is.Member m) = automatic m ≡ None
IsPlain w = Unit {0}

pub record Settles (g f : Frame) : Type 0 where
  pub same : frame_sort f ≡ frame_sort g
  pub settled : IsSettled f

settles_as : (g f k : Frame) → Settles g f → ◌≡◌ {A = Option Frame} (Some f) (Some k) → Settles g k
settles_as g f k s e = let P : Frame → Type 0 = λ u. Settles g u in let q : f ≡ k = cc in subst P q s

settles_if : (b : Bool) (g f k : Frame) → Settles g f → (if b then Some f else None) ≡ Some k → Settles g k
settles_if true g f k s e = settles_as g f k s e
settles_if false g f k s e = absurd cc

pub put_settles : (w : Whole) (g f : Frame) → IsPlain w → put w g ≡ Some f → Settles g f
put_settles (is.Statement s) (frame.Body sc ss) f p e = settles_as (frame.Body sc ss) (frame.Body sc (ss ++ s ∷ [])) f (record { same = refl; settled = settled_body sc (ss ++ s ∷ []) }) e
put_settles (is.Member m) (frame.Members h ms) f p e =
    settles_as (frame.Members h ms) (frame.Members h (ms ++ m ∷ [])) f (record { same = refl; settled = settled_with h ms m p }) e
put_settles (is.Get a) (frame.Property p) f i e =
    let g : Frame = frame.Property (record { line = p.line; modifiers = p.modifiers; header = p.header; get = Some a; set = p.set }) in
    settles_if (takes_get p.get p.set) (frame.Property p) g f (record { same = refl; settled = settled_other g refl }) e
put_settles (is.Set a) (frame.Property p) f i e =
    let g : Frame = frame.Property (record { line = p.line; modifiers = p.modifiers; header = p.header; get = p.get; set = Some a }) in
    settles_if (takes_set p.set) (frame.Property p) g f (record { same = refl; settled = settled_other g refl }) e
put_settles (is.Event k a) (frame.Event v) f i e =
    let g : Frame = frame.Event (with_accessor v k a) in
    settles_if (takes_accessor k v) (frame.Event v) g f (record { same = refl; settled = settled_other g refl }) e
put_settles (is.Type t) (frame.File p) f i e =
    let g : Frame = frame.File (record { options = p.options; imports = p.imports; types = p.types ++ t ∷ [] }) in
    settles_as (frame.File p) g f (record { same = refl; settled = settled_other g refl }) e
put_settles w g f p e = absurd cc

-- WHAT A TURN DOES

-- a frame that stands in place of another, behind an item
pub record Goes (f : Frame) (x : Item) (g : Frame) : Type 0 where
  pub leaves : (next : Option Item) (fs : List Frame) (st : State) → reopened_at next g fs ≡ Some st
      → Leaves (item_role (is_interface f) (Some x) next) (open_sorts (f ∷ fs)) (open_sorts (st.0 ∷ st.1))

-- a frame, now the second, in which an item begins the third
pub record Opens (f : Frame) (x : Item) (g h : Frame) : Type 0 where
  pub one : Sort
  pub same : frame_sort g ≡ frame_sort f
  pub new : frame_sort h ≡ Some one
  pub is_opened : (next : Option Item) → item_role (is_interface f) (Some x) next ≡ role.Opens one
  pub settled : IsSettled h

-- a frame that an item ends
pub record Closes (f : Frame) (x : Item) (w : Whole) : Type 0 where
  pub one : Sort
  pub old : frame_sort f ≡ Some one
  pub is_ended : (next : Option Item) → item_role (is_interface f) (Some x) next ≡ role.Ends one
  pub plain : IsPlain w

abbrev pub Marked : Frame → Item → Turn → Type 0
Marked f x (turn.Goes g) = Goes f x g
Marked f x (turn.Opens g h) = Opens f x g h
Marked f x (turn.Closes w) = Closes f x w

pub marked_as : (f : Frame) (x : Item) (s t : Turn) → Marked f x s → ◌≡◌ {A = Option Turn} (Some s) (Some t) → Marked f x t
marked_as f x s t m e = let P : Turn → Type 0 = λ u. Marked f x u in let q : s ≡ t = cc in subst P q m

pub marked_if : (b : Bool) (f : Frame) (x : Item) (s t : Turn) → Marked f x s → (if b then Some s else None) ≡ Some t → Marked f x t
marked_if true f x s t m e = marked_as f x s t m e
marked_if false f x s t m e = absurd cc

pub goes_settled : (f : Frame) (x : Item) (g : Frame) → frame_sort g ≡ frame_sort f → IsSettled g → ((next : Option Item) → item_role (is_interface f) (Some x) next ≡ role.Stays)
    → Goes f x g
goes_settled f x g same settled is = record {
  leaves = λ next fs st e. let P : Role → Type 0 = λ r. Leaves r (open_sorts (f ∷ fs)) (open_sorts (st.0 ∷ st.1)) in
      subst P (sym (is next)) (ap (λ (q : State). open_sorts (q.0 ∷ q.1)) (sym (settled next fs st e)) ∙ ap (λ (o : Option Sort). grown o (open_sorts fs)) same);
}

-- behind an item that ends its line's statements
pub record After (f : Frame) (fs : List Frame) (x : Item) (to : State) : Type 0 where
  pub leaves : (next : Option Item) (st : State) → reopened_at next to.0 to.1 ≡ Some st
      → Leaves (item_role (is_interface f) (Some x) next) (open_sorts (f ∷ fs)) (open_sorts (st.0 ∷ st.1))

after_as : (f : Frame) (fs : List Frame) (x : Item) (p q : State) → After f fs x p → ◌≡◌ {A = Option State} (Some p) (Some q) → After f fs x q
after_as f fs x p q a e = let P : State → Type 0 = λ u. After f fs x u in subst P (some_state p q e) a

closes_into : (f : Frame) (x : Item) (w : Whole) (g : Frame) (fs : List Frame) → Closes f x w → (o : Option Frame) → put w g ≡ o → (to : State) → placed o fs ≡ Some to → After f (g ∷ fs) x to
closes_into f x w g fs c None was to e = absurd cc
closes_into f x w g fs c (Some k) was to e =
    let s = put_settles w g k c.plain was in
    let a : After f (g ∷ fs) x (k, fs) = record {
      leaves = λ next st r. let P : Role → Type 0 = λ v. Leaves v (open_sorts (f ∷ g ∷ fs)) (open_sorts (st.0 ∷ st.1)) in
          subst P (sym (c.is_ended next)) (ap (λ (o : Option Sort). grown o (open_sorts (g ∷ fs))) c.old
          ∙ ap (λ (o : Option Sort). c.one ∷ grown o (open_sorts fs)) (sym s.same) ∙ ap (λ (q : State). c.one ∷ open_sorts (q.0 ∷ q.1)) (s.settled next fs st r));
    } in
    after_as f (g ∷ fs) x (k, fs) to a e

pub turned_after : (f : Frame) (fs : List Frame) (x : Item) (t : Turn) → Marked f x t → (to : State) → turned (Some t) fs ≡ Some to → After f fs x to
turned_after f fs x (turn.Goes g) m to e = after_as f fs x (g, fs) to (record { leaves = λ next st r. m.leaves next fs st r }) e
turned_after f fs x (turn.Opens g h) m to e =
    let a : After f fs x (h, g ∷ fs) = record {
      leaves = λ next st r. let P : Role → Type 0 = λ v. Leaves v (open_sorts (f ∷ fs)) (open_sorts (st.0 ∷ st.1)) in
          subst P (sym (m.is_opened next)) (ap (λ (q : State). open_sorts (q.0 ∷ q.1)) (sym (m.settled next (g ∷ fs) st r))
          ∙ ap (λ (o : Option Sort). grown o (open_sorts (g ∷ fs))) m.new ∙ ap (λ (o : Option Sort). m.one ∷ grown o (open_sorts fs)) m.same);
    } in
    after_as f fs x (h, g ∷ fs) to a e
turned_after f [] x (turn.Closes w) m to e = absurd cc
turned_after f (g ∷ fs) x (turn.Closes w) m to e = closes_into f x w g fs m (put w g) refl to e
