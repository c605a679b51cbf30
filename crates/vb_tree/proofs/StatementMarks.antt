-- What a turn does to the blocks that are open, where the innermost frame is of statements.
use Rattle.std.proofs.Common.{◌≡◌, ℕ, Bool, true, false, List, [], ◌∷◌, ◌++◌, Option, Some, None, refl, sym, ◌∙◌, subst, if◌then◌else◌}
use Rattle.vb_syntax.specs.{declared.{statement.{StatementForm.StatementForm, Statement.Statement, BlockClause.BlockClause}, declaration.{Modifier.Modifier, MemberForm.MemberForm}, item.Item.Item}, Items.must_override}
use Rattle.vb_syntax.specs.declared.statement.StatementForm.TheVariants as form
use Rattle.vb_syntax.specs.declared.declaration.MemberForm.TheVariants as member
use Rattle.vb_syntax.specs.declared.item.EventAccessorKind.TheVariants as accessor
use Rattle.vb_syntax.specs.declared.item.DeclarationLine.TheVariants as header
use Rattle.vb_syntax.specs.declared.item.BlockWord.TheVariants as word
use Rattle.vb_syntax.specs.declared.item.Item.TheVariants as item
use Rattle.vb_ends.specs.{declared.role.Sort.Sort, Roles.item_role}
use Rattle.vb_ends.specs.declared.role.Sort.TheVariants as sort
use Rattle.vb_ends.specs.declared.role.Role.TheVariants as role
use Rattle.vb_blocks.specs.{declared.{scope.{Scope.Scope, IfParts.IfParts, IfClause.IfClause, SelectParts.SelectParts, SelectClause.SelectClause, TryParts.TryParts, TryClause.TryClause, AccessorHeader.AccessorHeader}, frame.{Frame.Frame, Whole.Whole, Turn.Turn}}, Trees.{statement, member_of, else_if, case, catch, last_clause, enclosed, procedure}, Steps.{body, word_of, if_end, if_next, if_turn, select_end, select_next, select_turn, try_end, try_next, try_turn, opened, enclosed_whole, procedure_whole, accessor_turn, scope_turn, opened_or_turned, automatic_form}}
use Rattle.vb_blocks.specs.declared.scope.Scope.TheVariants as scope
use Rattle.vb_blocks.specs.declared.scope.IfClause.TheVariants as if_clause
use Rattle.vb_blocks.specs.declared.scope.SelectClause.TheVariants as select_clause
use Rattle.vb_blocks.specs.declared.scope.TryClause.TheVariants as try_clause
use Rattle.vb_blocks.specs.declared.scope.AccessorHeader.TheVariants as accessor_header
use Rattle.vb_blocks.specs.declared.frame.Frame.TheVariants as frame
use Rattle.vb_blocks.specs.declared.frame.Whole.TheVariants as is
use Rattle.vb_blocks.specs.declared.frame.Turn.TheVariants as turn
use Rattle.vb_tree.proofs.Sorts.{enclosed_sort, procedure_sort, frame_sort, is_interface, IsSettled, settled_body, settled_other, IsPlain, Closes, Marked, marked_as, goes_settled}

-- an item that goes on with the frame's statement
goes_body : (f : Frame) (x : Item) (sc : Scope) → frame_sort (body sc) ≡ frame_sort f → ((next : Option Item) → item_role (is_interface f) (Some x) next ≡ role.Stays)
    → (t : Turn) → ◌≡◌ {A = Option Turn} (Some (turn.Goes (body sc))) (Some t) → Marked f x t
goes_body f x sc same is t e = marked_as f x (turn.Goes (body sc)) t (goes_settled f x (body sc) same (settled_body sc []) is) e

pub ends_as : (f : Frame) (x : Item) (w : Whole) (s : Sort) → frame_sort f ≡ Some s → ((next : Option Item) → item_role (is_interface f) (Some x) next ≡ role.Ends s)
    → IsPlain w → (t : Turn) → ◌≡◌ {A = Option Turn} (Some (turn.Closes w)) (Some t) → Marked f x t
ends_as f x w s old is plain t e =
    let c : Closes f x w = record { one = s; old = old; is_ended = is; plain = plain } in marked_as f x (turn.Closes w) t c e

-- STATEMENTS

module _ (f : Frame) (old : frame_sort f ≡ Some sort.If) where
  if_end_marks : (p : IfParts) (o : Option BlockClause) (x : Item) (t : Turn) → if_end p o (word_of x) ≡ Some t → Marked f x t
  if_end_marks p o (item.End word.If) t e =
      ends_as f (item.End word.If) (is.Statement (statement p.line (form.If p.test p.body p.else_ifs o))) sort.If old (λ next. refl) tt t e
  if_end_marks p o x t e = absurd cc

  if_next_marks : (p : IfParts) (line : ℕ) (x : Item) (t : Turn) → if_next p line x ≡ Some t → Marked f x t
  if_next_marks p line (item.ElseIf u) t e = goes_body f (item.ElseIf u) (scope.If (if_clause.ElseIf p line u)) (sym old) (λ next. refl) t e
  if_next_marks p line item.Else t e = goes_body f item.Else (scope.If (if_clause.Else p line)) (sym old) (λ next. refl) t e
  if_next_marks p line x t e = if_end_marks p None x t e

  pub if_marks : (c : IfClause) (ss : List Statement) (line : ℕ) (x : Item) (t : Turn) → if_turn c ss line x ≡ Some t → Marked f x t
  if_marks (if_clause.If l u) ss line x t e = if_next_marks (record { line = l; test = u; body = ss; else_ifs = [] }) line x t e
  if_marks (if_clause.ElseIf p l u) ss line x t e = if_next_marks (record { line = p.line; test = p.test; body = p.body; else_ifs = p.else_ifs ++ else_if l u ss ∷ [] }) line x t e
  if_marks (if_clause.Else p l) ss line x t e = if_end_marks p (Some (last_clause l ss)) x t e

module _ (f : Frame) (old : frame_sort f ≡ Some sort.Select) where
  select_end_marks : (p : SelectParts) (o : Option BlockClause) (x : Item) (t : Turn) → select_end p o (word_of x) ≡ Some t → Marked f x t
  select_end_marks p o (item.End word.Select) t e =
      ends_as f (item.End word.Select) (is.Statement (statement p.line (form.Select p.value p.cases o))) sort.Select old (λ next. refl) tt t e
  select_end_marks p o x t e = absurd cc

  pub select_next_marks : (p : SelectParts) (line : ℕ) (x : Item) (t : Turn) → select_next p line x ≡ Some t → Marked f x t
  select_next_marks p line (item.Case u) t e = goes_body f (item.Case u) (scope.Select (select_clause.Case p line u)) (sym old) (λ next. refl) t e
  select_next_marks p line item.CaseElse t e = goes_body f item.CaseElse (scope.Select (select_clause.Else p line)) (sym old) (λ next. refl) t e
  select_next_marks p line x t e = select_end_marks p None x t e

  pub select_marks : (c : SelectClause) (ss : List Statement) (line : ℕ) (x : Item) (t : Turn) → select_turn c ss line x ≡ Some t → Marked f x t
  select_marks (select_clause.Case p l u) ss line x t e = select_next_marks (record { line = p.line; value = p.value; cases = p.cases ++ case l u ss ∷ [] }) line x t e
  select_marks (select_clause.Else p l) ss line x t e = select_end_marks p (Some (last_clause l ss)) x t e

module _ (f : Frame) (old : frame_sort f ≡ Some sort.Try) where
  try_end_marks : (p : TryParts) (o : Option BlockClause) (x : Item) (t : Turn) → try_end p o (word_of x) ≡ Some t → Marked f x t
  try_end_marks p o (item.End word.Try) t e =
      ends_as f (item.End word.Try) (is.Statement (statement p.line (form.Try p.body p.catches o))) sort.Try old (λ next. refl) tt t e
  try_end_marks p o x t e = absurd cc

  try_next_marks : (p : TryParts) (line : ℕ) (x : Item) (t : Turn) → try_next p line x ≡ Some t → Marked f x t
  try_next_marks p line (item.Catch v u) t e = goes_body f (item.Catch v u) (scope.Try (try_clause.Catch p line v u)) (sym old) (λ next. refl) t e
  try_next_marks p line item.Finally t e = goes_body f item.Finally (scope.Try (try_clause.Finally p line)) (sym old) (λ next. refl) t e
  try_next_marks p line x t e = try_end_marks p None x t e

  pub try_marks : (c : TryClause) (ss : List Statement) (line : ℕ) (x : Item) (t : Turn) → try_turn c ss line x ≡ Some t → Marked f x t
  try_marks (try_clause.Try l) ss line x t e = try_next_marks (record { line = l; body = ss; catches = [] }) line x t e
  try_marks (try_clause.Catch p l v u) ss line x t e = try_next_marks (record { line = p.line; body = p.body; catches = p.catches ++ catch l v u ss ∷ [] }) line x t e
  try_marks (try_clause.Finally p l) ss line x t e = try_end_marks p (Some (last_clause l ss)) x t e

-- an ender of the sort, whatever stands round it
pub record IsEnder (x : Item) (s : Sort) : Type 0 where
  pub role : (inside : Bool) (next : Option Item) → item_role inside (Some x) next ≡ role.Ends s

ender : (x : Item) (s : Sort) → ((inside : Bool) (next : Option Item) → item_role inside (Some x) next ≡ role.Ends s) → IsEnder x s
ender x s is = record { role = is }

-- an ender of the sort that this is
pub record EndsSort (o : Option Sort) (x : Item) : Type 0 where
  pub one : Sort
  pub is : o ≡ Some one
  pub ender : IsEnder x one

enclosed_ends : (y : Item) (ss : List Statement) (line : ℕ) (x : Item) (f : StatementForm) → enclosed y ss line x ≡ Some f → EndsSort (enclosed_sort y) x
enclosed_ends (item.While a) ss line (item.End word.While) f e = record { one = sort.While; is = refl; ender = ender (item.End word.While) sort.While (λ i n. refl) }
enclosed_ends (item.While a) ss line x f e = absurd cc
enclosed_ends (item.SyncLock a) ss line (item.End word.SyncLock) f e = record { one = sort.SyncLock; is = refl; ender = ender (item.End word.SyncLock) sort.SyncLock (λ i n. refl) }
enclosed_ends (item.SyncLock a) ss line x f e = absurd cc
enclosed_ends (item.With a) ss line (item.End word.With) f e = record { one = sort.With; is = refl; ender = ender (item.End word.With) sort.With (λ i n. refl) }
enclosed_ends (item.With a) ss line x f e = absurd cc
enclosed_ends (item.Using a) ss line (item.End word.Using) f e = record { one = sort.Using; is = refl; ender = ender (item.End word.Using) sort.Using (λ i n. refl) }
enclosed_ends (item.Using a) ss line x f e = absurd cc
enclosed_ends (item.Do a) ss line (item.Loop b) f e = record { one = sort.Do; is = refl; ender = ender (item.Loop b) sort.Do (λ i n. refl) }
enclosed_ends (item.Do None) ss line x f e = absurd cc
enclosed_ends (item.Do (Some a)) ss line x f e = absurd cc
enclosed_ends (item.For a b c d) ss line (item.Next n) f e = record { one = sort.For; is = refl; ender = ender (item.Next n) sort.For (λ i n. refl) }
enclosed_ends (item.For a b c d) ss line x f e = absurd cc
enclosed_ends (item.ForEach a b) ss line (item.Next n) f e = record { one = sort.For; is = refl; ender = ender (item.Next n) sort.For (λ i n. refl) }
enclosed_ends (item.ForEach a b) ss line x f e = absurd cc
enclosed_ends y ss line x f e = absurd cc

procedure_ends : (y : Item) (ss : List Statement) (x : Item) (m : List Modifier × MemberForm) → procedure y ss x ≡ Some m → EndsSort (procedure_sort y) x
procedure_ends (item.Declares (header.Sub ms s is_)) ss (item.End word.Sub) m e = record { one = sort.Sub; is = refl; ender = ender (item.End word.Sub) sort.Sub (λ i n. refl) }
procedure_ends (item.Declares (header.Sub ms s is_)) ss x m e = absurd cc
procedure_ends (item.Declares (header.Constructor ms s is_)) ss (item.End word.Sub) m e = record { one = sort.Sub; is = refl; ender = ender (item.End word.Sub) sort.Sub (λ i n. refl) }
procedure_ends (item.Declares (header.Constructor ms s is_)) ss x m e = absurd cc
procedure_ends (item.Declares (header.Function ms k s t is_)) ss (item.End word.Function) m e =
    record { one = sort.Function; is = refl; ender = ender (item.End word.Function) sort.Function (λ i n. refl) }
procedure_ends (item.Declares (header.Function ms k s t is_)) ss x m e = absurd cc
procedure_ends y ss x m e = absurd cc

if_none : {A : Type 0} (b : Bool) (x y : A) → (if b then None else Some x) ≡ Some y → x ≡ y
if_none true x y e = absurd cc
if_none false x y e = cc

-- a procedure with a block is no property
form_plain : (line : ℕ) (m n : List Modifier × MemberForm) → automatic_form line m.0 m.1 ≡ None → m ≡ n → automatic_form line n.0 n.1 ≡ None
form_plain line m n plain e = let P : List Modifier × MemberForm → Type 0 = λ k. automatic_form line k.0 k.1 ≡ None in subst P e plain

procedure_plain : (l : ℕ) (y : Item) (ss : List Statement) (x : Item) (m : List Modifier × MemberForm) → procedure y ss x ≡ Some m → automatic_form l m.0 m.1 ≡ None
procedure_plain l (item.Declares (header.Sub ms s is_)) ss (item.End word.Sub) m e =
    form_plain l (ms, member.Sub s is_ (Some ss)) m refl (if_none (must_override ms) (ms, member.Sub s is_ (Some ss)) m e)
procedure_plain l (item.Declares (header.Sub ms s is_)) ss x m e = absurd cc
procedure_plain l (item.Declares (header.Constructor ms s is_)) ss (item.End word.Sub) m e =
    form_plain l (ms, member.Constructor s is_ (Some ss)) m refl (if_none (must_override ms) (ms, member.Constructor s is_ (Some ss)) m e)
procedure_plain l (item.Declares (header.Constructor ms s is_)) ss x m e = absurd cc
procedure_plain l (item.Declares (header.Function ms k s t is_)) ss (item.End word.Function) m e =
    form_plain l (ms, member.Function k s t is_ (Some ss)) m refl (if_none (must_override ms) (ms, member.Function k s t is_ (Some ss)) m e)
procedure_plain l (item.Declares (header.Function ms k s t is_)) ss x m e = absurd cc
procedure_plain l y ss x m e = absurd cc

ends_sort : (f : Frame) (o : Option Sort) (x : Item) (w : Whole) → frame_sort f ≡ o → EndsSort o x → IsPlain w → (t : Turn) → ◌≡◌ {A = Option Turn} (Some (turn.Closes w)) (Some t) → Marked f x t
ends_sort f o x w same s plain t e = ends_as f x w s.one (same ∙ s.is) (λ next. s.ender.role (is_interface f) next) plain t e

enclosed_marks : (l : ℕ) (y : Item) (ss : List Statement) (line : ℕ) (x : Item) (o : Option StatementForm) (t : Turn) → enclosed y ss line x ≡ o → enclosed_whole l o ≡ Some t
    → Marked (frame.Body (scope.Enclosed l y) ss) x t
enclosed_marks l y ss line x None t was e = absurd cc
enclosed_marks l y ss line x (Some f) t was e = ends_sort (frame.Body (scope.Enclosed l y) ss) (enclosed_sort y) x (is.Statement (statement l f)) refl (enclosed_ends y ss line x f was) tt t e

procedure_marks : (l : ℕ) (y : Item) (ss : List Statement) (x : Item) (o : Option (List Modifier × MemberForm)) (t : Turn) → procedure y ss x ≡ o → procedure_whole l o ≡ Some t
    → Marked (frame.Body (scope.Procedure l y) ss) x t
procedure_marks l y ss x None t was e = absurd cc
procedure_marks l y ss x (Some m) t was e =
    ends_sort (frame.Body (scope.Procedure l y) ss) (procedure_sort y) x (is.Member (member_of l m)) refl (procedure_ends y ss x m was) (procedure_plain l y ss x m was) t e

accessor_marks : (h : AccessorHeader) (ss : List Statement) (x : Item) (t : Turn) → accessor_turn h ss x ≡ Some t → Marked (frame.Body (scope.Accessor h) ss) x t
accessor_marks (accessor_header.Get l a) ss (item.End word.Get) t e =
    ends_as (frame.Body (scope.Accessor (accessor_header.Get l a)) ss) (item.End word.Get) (is.Get (record { line = l; access = a; body = ss })) sort.Get refl (λ next. refl) tt t e
accessor_marks (accessor_header.Get l a) ss x t e = absurd cc
accessor_marks (accessor_header.Set l a ps) ss (item.End word.Set) t e =
    ends_as (frame.Body (scope.Accessor (accessor_header.Set l a ps)) ss) (item.End word.Set) (is.Set (record { line = l; access = a; parameters = ps; body = ss })) sort.Set refl (λ next. refl) tt t e
accessor_marks (accessor_header.Set l a ps) ss x t e = absurd cc
accessor_marks (accessor_header.Event l accessor.AddHandler ps) ss (item.End word.AddHandler) t e =
    ends_as (frame.Body (scope.Accessor (accessor_header.Event l accessor.AddHandler ps)) ss) (item.End word.AddHandler) (is.Event accessor.AddHandler (record { line = l; parameters = ps; body = ss }))
    sort.AddHandler refl (λ next. refl) tt t e
accessor_marks (accessor_header.Event l accessor.RemoveHandler ps) ss (item.End word.RemoveHandler) t e =
    ends_as (frame.Body (scope.Accessor (accessor_header.Event l accessor.RemoveHandler ps)) ss) (item.End word.RemoveHandler)
    (is.Event accessor.RemoveHandler (record { line = l; parameters = ps; body = ss })) sort.RemoveHandler refl (λ next. refl) tt t e
accessor_marks (accessor_header.Event l accessor.RaiseEvent ps) ss (item.End word.RaiseEvent) t e =
    ends_as (frame.Body (scope.Accessor (accessor_header.Event l accessor.RaiseEvent ps)) ss) (item.End word.RaiseEvent) (is.Event accessor.RaiseEvent (record { line = l; parameters = ps; body = ss }))
    sort.RaiseEvent refl (λ next. refl) tt t e
accessor_marks (accessor_header.Event l accessor.AddHandler ps) ss x t e = absurd cc
accessor_marks (accessor_header.Event l accessor.RemoveHandler ps) ss x t e = absurd cc
accessor_marks (accessor_header.Event l accessor.RaiseEvent ps) ss x t e = absurd cc

scope_marks : (sc : Scope) (ss : List Statement) (line : ℕ) (x : Item) (t : Turn) → scope_turn sc ss line x ≡ Some t → Marked (frame.Body sc ss) x t
scope_marks (scope.Enclosed l y) ss line x t e = enclosed_marks l y ss line x (enclosed y ss line x) t refl e
scope_marks (scope.If c) ss line x t e = if_marks (frame.Body (scope.If c) ss) refl c ss line x t e
scope_marks (scope.Select c) ss line x t e = select_marks (frame.Body (scope.Select c) ss) refl c ss line x t e
scope_marks (scope.Try c) ss line x t e = try_marks (frame.Body (scope.Try c) ss) refl c ss line x t e
scope_marks (scope.Procedure l y) ss line x t e = procedure_marks l y ss x (procedure y ss x) t refl e
scope_marks (scope.Accessor h) ss line x t e = accessor_marks h ss x t e
scope_marks (scope.Line c) ss line x t e = absurd cc

-- a frame that an item begins
pub record Begins (f : Frame) (x : Item) (h : Frame) : Type 0 where
  pub one : Sort
  pub new : frame_sort h ≡ Some one
  pub is_opened : (next : Option Item) → item_role (is_interface f) (Some x) next ≡ role.Opens one
  pub settled : IsSettled h

begins_as : (f : Frame) (x : Item) (g h : Frame) → Begins f x g → ◌≡◌ {A = Option Frame} (Some g) (Some h) → Begins f x h
begins_as f x g h b e = let P : Frame → Type 0 = λ u. Begins f x u in let q : g ≡ h = cc in subst P q b

pub begins_body : (f : Frame) (x : Item) (sc : Scope) (s : Sort) → frame_sort (body sc) ≡ Some s → ((next : Option Item) → item_role (is_interface f) (Some x) next ≡ role.Opens s)
    → (h : Frame) → ◌≡◌ {A = Option Frame} (Some (body sc)) (Some h) → Begins f x h
begins_body f x sc s new is h e =
    let b : Begins f x (body sc) = record { one = s; new = new; is_opened = is; settled = settled_body sc [] } in begins_as f x (body sc) h b e

pub begins_other : (f : Frame) (x : Item) (g : Frame) (s : Sort) → frame_sort g ≡ Some s → ((next : Option Item) → item_role (is_interface f) (Some x) next ≡ role.Opens s)
    → IsSettled g → (h : Frame) → ◌≡◌ {A = Option Frame} (Some g) (Some h) → Begins f x h
begins_other f x g s new is settled h e =
    let b : Begins f x g = record { one = s; new = new; is_opened = is; settled = settled } in begins_as f x g h b e

pub opens_with : (f : Frame) (x : Item) (h : Frame) → Begins f x h → Marked f x (turn.Opens f h)
opens_with f x h b = record { one = b.one; same = refl; new = b.new; is_opened = b.is_opened; settled = b.settled }

statement_begins : (f : Frame) (line : ℕ) (x : Item) (h : Frame) → opened line x ≡ Some h → Begins f x h
statement_begins f line (item.If t) h e = begins_body f (item.If t) (scope.If (if_clause.If line t)) sort.If refl (λ next. refl) h e
statement_begins f line item.Try h e = begins_body f item.Try (scope.Try (try_clause.Try line)) sort.Try refl (λ next. refl) h e
statement_begins f line (item.Select v) h e = begins_other f (item.Select v) (frame.Select line v) sort.Select refl (λ next. refl) (settled_other (frame.Select line v) refl) h e
statement_begins f line (item.While a) h e = begins_body f (item.While a) (scope.Enclosed line (item.While a)) sort.While refl (λ next. refl) h e
statement_begins f line (item.Do a) h e = begins_body f (item.Do a) (scope.Enclosed line (item.Do a)) sort.Do refl (λ next. refl) h e
statement_begins f line (item.For a b c d) h e = begins_body f (item.For a b c d) (scope.Enclosed line (item.For a b c d)) sort.For refl (λ next. refl) h e
statement_begins f line (item.ForEach a b) h e = begins_body f (item.ForEach a b) (scope.Enclosed line (item.ForEach a b)) sort.For refl (λ next. refl) h e
statement_begins f line (item.SyncLock a) h e = begins_body f (item.SyncLock a) (scope.Enclosed line (item.SyncLock a)) sort.SyncLock refl (λ next. refl) h e
statement_begins f line (item.With a) h e = begins_body f (item.With a) (scope.Enclosed line (item.With a)) sort.With refl (λ next. refl) h e
statement_begins f line (item.Using a) h e = begins_body f (item.Using a) (scope.Enclosed line (item.Using a)) sort.Using refl (λ next. refl) h e
statement_begins f line x h e = absurd cc

opened_marks : (sc : Scope) (ss : List Statement) (line : ℕ) (x : Item) (o : Option Frame) (t : Turn) → opened line x ≡ o → opened_or_turned sc ss line x o ≡ Some t → Marked (frame.Body sc ss) x t
opened_marks sc ss line x None t was e = scope_marks sc ss line x t e
opened_marks sc ss line x (Some h) t was e =
    marked_as (frame.Body sc ss) x (turn.Opens (frame.Body sc ss) h) t (opens_with (frame.Body sc ss) x h (statement_begins (frame.Body sc ss) line x h was)) e

pub line_marks : (b : Bool) (sc : Scope) (ss : List Statement) (line : ℕ) (x : Item) (t : Turn) → (if b then None else opened_or_turned sc ss line x (opened line x)) ≡ Some t → Marked (frame.Body sc ss) x t
line_marks true sc ss line x t e = absurd cc
line_marks false sc ss line x t e = opened_marks sc ss line x (opened line x) t refl e
