-- Whatever rows lead to stands for them.
use Rattle.std.proofs.Common.{◌≡◌, ℕ, Bool, true, false, List, [], ◌∷◌, ◌++◌, Option, Some, None, refl, ap, sym, ◌∙◌, append_assoc, subst, if◌then◌else◌}
use Rattle.std.specs.Prelude.{not}
use Rattle.vb_syntax.specs.declared.{expression.Expr.Expr, statement.{StatementForm.StatementForm, Statement.Statement}, item.{Joint.Joint, Item.Item, Row.Row}}
use Rattle.vb_syntax.specs.declared.statement.StatementForm.TheVariants as form
use Rattle.vb_syntax.specs.declared.item.EventAccessorKind.TheVariants as accessor
use Rattle.vb_syntax.specs.declared.item.DeclarationLine.TheVariants as header
use Rattle.vb_syntax.specs.declared.item.Joint.TheVariants as joint
use Rattle.vb_syntax.specs.declared.item.Item.TheVariants as item
use Rattle.vb_blocks.specs.declared.{scope.{Scope.Scope, AccessorHeader.AccessorHeader, LineClause.LineClause}, frame.{Frame.Frame, Whole.Whole, Turn.Turn}}
use Rattle.vb_blocks.specs.declared.scope.Scope.TheVariants as scope
use Rattle.vb_blocks.specs.declared.scope.AccessorHeader.TheVariants as accessor_header
use Rattle.vb_blocks.specs.declared.scope.LineClause.TheVariants as line_clause
use Rattle.vb_blocks.specs.declared.frame.Frame.TheVariants as frame
use Rattle.vb_blocks.specs.declared.frame.Whole.TheVariants as is
use Rattle.vb_blocks.specs.declared.frame.Turn.TheVariants as turn
use Rattle.vb_blocks.specs.Trees as tree
use Rattle.vb_blocks.specs.Trees.{
  row,
  whole,
  statement,
  member_of,
  simple_form,
  enclosed,
  else_if,
  case,
  catch,
  last_clause,
  bare_member,
  procedure,
  IsSimple,
  AreSimple,
  IsStatement,
  AreStatements,
  AreElseIfs,
  AreCases,
  AreCatches,
  IsLastClause,
  IsGet,
  IsSet,
  IsEventAccessor,
  AreEventAccessors,
  IsMember,
  AreMembers,
  IsBase,
  AreInterfaceLists,
  AreInterfaceMembers,
  IsType,
  AreTypes,
  AreOptions,
  AreImports,
}
use Rattle.vb_blocks.specs.Steps.{body, is_line, put, frame_turn, State, turned, placed, line_ends, else_begins, line_whole, statement_ends, no_statement, body_step, frame_step}
use Rattle.vb_tree.proofs.{MemberRows.{parts, event_parts}, FileRows.file_parts, Standing.{Kind, a_file, kind_of, takes, IsLineFront, front_then, front_line_else, Stands, stands_body, stands_line, stands_property, stands_event, stands_members, stands_file, IsWhole, whole_kind, scope_kind, Holds, bottom, inside}, Ends.{AreParted, none_parted, grouped, no_more, last_parted, one_parted, one_statement, one_member, one_type}, StatementRows.line_over, Sound.frame_turns}

-- A PART IN ITS FRAME

put_stands : (w : Whole) (g f : Frame) (rows r : List Row) → Stands g rows → IsWhole w r → takes g (whole_kind w) ≡ true → put w g ≡ Some f → Stands f (rows ++ r) × (kind_of f ≡ kind_of g)
put_stands (is.Statement s) g f rows r (stands_body {sc = sc} {ss = ss} {front = a} {rows = b} l fr d) i t e =
    let P : Frame → Type 0 = λ k. Stands k (rows ++ r) × (kind_of k ≡ kind_of g) in
    let q : frame.Body sc (ss ++ s ∷ []) ≡ f = cc in
    subst P q (grouped (λ x. Stands (frame.Body sc (ss ++ s ∷ [])) x) a b r (stands_body l fr (one_statement d i)), refl)
put_stands (is.Member m) g f rows r (stands_members {h = h} {ms = ms} {front = a} {rows = b} fr d) i t e =
    let P : Frame → Type 0 = λ k. Stands k (rows ++ r) × (kind_of k ≡ kind_of g) in
    let q : frame.Members h (ms ++ m ∷ []) ≡ f = cc in
    subst P q (grouped (λ x. Stands (frame.Members h (ms ++ m ∷ [])) x) a b r (stands_members fr (one_member d i)), refl)
put_stands (is.Get a) g f rows r (stands_property {line = l} {ms = ms} {h = h} {g = None} {s = None} free tree.none tree.none) i t e =
    let P : Frame → Type 0 = λ k. Stands k (rows ++ r) × (kind_of k ≡ kind_of g) in
    let k : Frame = frame.Property (parts l ms h (Some a) None) in
    let q : k ≡ f = cc in
    subst P q (no_more (λ x. Stands k (whole l (item.Declares (header.Property ms h)) ∷ x)) r (stands_property free i tree.none), refl)
put_stands (is.Set a) g f rows r (stands_property {line = l} {ms = ms} {h = h} {g = o} {s = None} {gets = gets} free j tree.none) i t e =
    let P : Frame → Type 0 = λ k. Stands k (rows ++ r) × (kind_of k ≡ kind_of g) in
    let k : Frame = frame.Property (parts l ms h o (Some a)) in
    let q : k ≡ f = cc in
    subst P q (grouped (λ x. Stands k (whole l (item.Declares (header.Property ms h)) ∷ x)) gets [] r (stands_property free j i), refl)
put_stands (is.Event accessor.AddHandler a) g f rows r (stands_event {line = l} {ms = ms} {n = n} {t = d} {a = None} {b = b} {c = c} j) i t e =
    let P : Frame → Type 0 = λ k. Stands k (rows ++ r) × (kind_of k ≡ kind_of g) in
    let q : frame.Event (event_parts l ms n d (Some a) b c) ≡ f = cc in subst P q (stands_event (tree.add j i), refl)
put_stands (is.Event accessor.RemoveHandler b) g f rows r (stands_event {line = l} {ms = ms} {n = n} {t = d} {a = a} {b = None} {c = c} j) i t e =
    let P : Frame → Type 0 = λ k. Stands k (rows ++ r) × (kind_of k ≡ kind_of g) in
    let q : frame.Event (event_parts l ms n d a (Some b) c) ≡ f = cc in subst P q (stands_event (tree.remove j i), refl)
put_stands (is.Event accessor.RaiseEvent c) g f rows r (stands_event {line = l} {ms = ms} {n = n} {t = d} {a = a} {b = b} {c = None} j) i t e =
    let P : Frame → Type 0 = λ k. Stands k (rows ++ r) × (kind_of k ≡ kind_of g) in
    let q : frame.Event (event_parts l ms n d a b (Some c)) ≡ f = cc in subst P q (stands_event (tree.raise j i), refl)
put_stands (is.Type y) g f rows r (stands_file {os = os} {is = is_} {ts = ts} {options = o} {imports = m} {types = u} a b c) i t e =
    let P : Frame → Type 0 = λ k. Stands k (rows ++ r) × (kind_of k ≡ kind_of g) in
    let k : Frame = frame.File (file_parts os is_ (ts ++ y ∷ [])) in
    let q : k ≡ f = cc in
    let same : o ++ (m ++ (u ++ r)) ≡ (o ++ (m ++ u)) ++ r = simp append_assoc in
    subst P q (subst (λ (rs : List Row). Stands k rs) same (stands_file a b (one_type c i)), refl)
put_stands w g f rows r st i t e = absurd cc

pub put_holds : (w : Whole) (g f : Frame) (gs : List Frame) (rows r : List Row) → Holds g gs rows → IsWhole w r → takes g (whole_kind w) ≡ true → put w g ≡ Some f → Holds f gs (rows ++ r)
put_holds w g f gs rows r (bottom k st) i t e = let p = put_stands w g f rows r st i t e in bottom (p.1 ∙ k) p.0
put_holds w g f gs rows r (inside {g = h} {rows = a} {others = b} hs u st) i t e =
    let p = put_stands w g f b r st i t e in
    grouped (λ x. Holds f gs x) a b r (inside hs (ap (λ (k : Kind). takes h k) p.1 ∙ u) p.0)

-- A TURN

placed_is : (o : Option Frame) (bs : List Frame) (st : State) → placed o bs ≡ Some st → (f : Frame) × (o ≡ Some f) × (◌≡◌ {A = State} (f, bs) st)
placed_is None bs st e = absurd cc
placed_is (Some f) bs st e = (f, refl, cc)

some_state : (p q : State) → ◌≡◌ {A = Option State} (Some p) (Some q) → p ≡ q
some_state p q e = cc

pub turned_holds : (f : Frame) (fs : List Frame) (rows : List Row) → Holds f fs rows → (line : ℕ) (x : Item) (t : Turn) → frame_turn f line x ≡ Some t
    → (st : State) → turned (Some t) fs ≡ Some st → Holds st.0 st.1 (rows ++ whole line x ∷ [])
turned_holds f fs rows (bottom k s) line x (turn.Goes g) e st was =
    let P : State → Type 0 = λ q. Holds q.0 q.1 (rows ++ whole line x ∷ []) in
    let u = frame_turns f rows s line x (turn.Goes g) e in
    subst P (some_state (g, []) st was) (bottom (u.1 ∙ k) u.0)
turned_holds f fs rows (inside {g = h} {gs = hs} {rows = a} {others = b} i t s) line x (turn.Goes g) e st was =
    let P : State → Type 0 = λ q. Holds q.0 q.1 (rows ++ whole line x ∷ []) in
    let u = frame_turns f b s line x (turn.Goes g) e in
    subst P (some_state (g, fs) st was) (grouped (λ r. Holds g fs r) a b (whole line x ∷ []) (inside i (ap (λ (k : Kind). takes h k) u.1 ∙ t) u.0))
turned_holds f fs rows (bottom k s) line x (turn.Opens g h) e st was =
    let P : State → Type 0 = λ q. Holds q.0 q.1 (rows ++ whole line x ∷ []) in
    let u = frame_turns f rows s line x (turn.Opens g h) e in
    let i : Holds h (f ∷ []) (rows ++ whole line x ∷ []) = inside (bottom k s) u.2 u.1 in
    subst P (ap (λ (v : Frame). (h, v ∷ [])) (sym u.0) ∙ some_state (h, g ∷ []) st was) i
turned_holds f fs rows (inside {g = b} {gs = bs} {rows = r} {others = o} i t s) line x (turn.Opens g h) e st was =
    let P : State → Type 0 = λ q. Holds q.0 q.1 (rows ++ whole line x ∷ []) in
    let u = frame_turns f o s line x (turn.Opens g h) e in
    let j : Holds h (f ∷ fs) (rows ++ whole line x ∷ []) = inside (inside i t s) u.2 u.1 in
    subst P (ap (λ (v : Frame). (h, v ∷ fs)) (sym u.0) ∙ some_state (h, g ∷ fs) st was) j
turned_holds f fs rows (bottom k s) line x (turn.Closes w) e st was = absurd cc
turned_holds f fs rows (inside {g = b} {gs = bs} {rows = r} {others = o} i t s) line x (turn.Closes w) e st was =
    let P : State → Type 0 = λ q. Holds q.0 q.1 (rows ++ whole line x ∷ []) in
    let u = frame_turns f o s line x (turn.Closes w) e in
    let p = placed_is (put w b) bs st was in
    subst P p.2 (grouped (λ q. Holds p.0 bs q) r o (whole line x ∷ []) (put_holds w b p.0 bs r (o ++ whole line x ∷ []) i u.0 (ap (λ (k : Kind). takes b k) u.1 ∙ t) p.1))

-- ON ONE LINE

accessor_no_file : (h : AccessorHeader) → scope_kind (scope.Accessor h) ≡ a_file → ⊥
accessor_no_file (accessor_header.Get l a) e = cc
accessor_no_file (accessor_header.Set l a ps) e = cc
accessor_no_file (accessor_header.Event l k ps) e = cc

pub scope_no_file : (sc : Scope) → scope_kind sc ≡ a_file → ⊥
scope_no_file (scope.Accessor h) e = accessor_no_file h e
scope_no_file sc e = cc

pub line_ended : {c : LineClause} {front rows r : List Row} {ss : List Statement} {s : Statement} → IsLineFront c front → AreParted rows ss → IsSimple joint.End r s
    → IsSimple joint.End ((front ++ rows) ++ r) (line_whole c (ss ++ s ∷ []))
line_ended front_then d i = tree.line_if (last_parted d i)
line_ended {rows = rows} {r = r} {ss = ss} {s = s} (front_line_else {line = l} {t = t} {rows = q} {b = b} a) d i =
    grouped (λ x. IsSimple joint.End (row l (item.If t) joint.Then ∷ x) (statement l (form.LineIf t b (Some (ss ++ s ∷ []))))) q rows r (tree.line_if_else a (last_parted d i) refl)

pub lines_end : (fs : List Frame) (sc : Scope) (ss : List Statement) (rows : List Row) → Holds (frame.Body sc ss) fs rows → (r : List Row) (s : Statement) → IsSimple joint.End r s
    → (st : State) → line_ends sc (ss ++ s ∷ []) fs ≡ Some st → Holds st.0 st.1 (rows ++ r)
lines_end fs sc ss rows (bottom k s') r s i st e = absurd (scope_no_file sc k)
lines_end (g ∷ gs) sc ss rows (inside {rows = a} {others = b} h t (stands_body {front = p} {rows = q} l fr d)) r s i st e =
    let P : State → Type 0 = λ q. Holds q.0 q.1 (rows ++ r) in
    let same = some_state (frame.Body sc (ss ++ s ∷ []), g ∷ gs) st (sym (line_over sc (ss ++ s ∷ []) (g ∷ gs) l) ∙ e) in
    subst P same (put_holds (is.Statement s) (frame.Body sc ss) (frame.Body sc (ss ++ s ∷ [])) (g ∷ gs) rows r (inside h t (stands_body l fr d)) (tree.simple i) (ap not l) refl)
lines_end (frame.Body s' before ∷ gs) sc ss rows (inside {rows = a} {others = b} h t (stands_line {c = c} {front = p} {rows = q} fr d)) r s i st e =
    grouped (λ x. Holds st.0 st.1 x) a b r (lines_end gs s' before a h (b ++ r) (line_whole c (ss ++ s ∷ [])) (line_ended fr d i) st e)
lines_end (g ∷ gs) sc ss rows (inside h t (stands_line fr d)) r s i st e = absurd cc

else_ended : {l : ℕ} {u : Expr} {b : List Statement} {front rows r : List Row} {ss : List Statement} {s : Statement} → IsLineFront (line_clause.Else l u b) front → AreParted rows ss
    → IsSimple joint.Else r s → IsSimple joint.Else ((front ++ rows) ++ r) (line_whole (line_clause.Else l u b) (ss ++ s ∷ []))
else_ended {rows = rows} {r = r} {ss = ss} {s = s} (front_line_else {line = l} {t = t} {rows = q} {b = b} a) d i =
    grouped (λ x. IsSimple joint.Else (row l (item.If t) joint.Then ∷ x) (statement l (form.LineIf t b (Some (ss ++ s ∷ []))))) q rows r (tree.line_if_else a (last_parted d i) refl)

begun_else : {l : ℕ} {u : Expr} {front rows r : List Row} {ss : List Statement} {s : Statement} → IsLineFront (line_clause.Then l u) front → AreParted rows ss → IsSimple joint.Else r s
    → Stands (body (scope.Line (line_clause.Else l u (ss ++ s ∷ [])))) ((front ++ rows) ++ r)
begun_else {l} {u} {rows = rows} {r = r} {ss = ss} {s = s} front_then d i =
    no_more (λ x. Stands (body (scope.Line (line_clause.Else l u (ss ++ s ∷ [])))) (row l (item.If u) joint.Then ∷ x)) (rows ++ r) (stands_line (front_line_else (last_parted d i)) none_parted)

no_else : (sc : Scope) (ss : List Statement) (fs : List Frame) (st : State) → is_line sc ≡ false → else_begins sc ss fs ≡ Some st → ⊥
no_else (scope.Line c) ss fs st l e = cc
no_else sc ss fs st l e = cc

pub elses_begin : (fs : List Frame) (sc : Scope) (ss : List Statement) (rows : List Row) → Holds (frame.Body sc ss) fs rows → (r : List Row) (s : Statement) → IsSimple joint.Else r s
    → (st : State) → else_begins sc (ss ++ s ∷ []) fs ≡ Some st → Holds st.0 st.1 (rows ++ r)
elses_begin fs sc ss rows (bottom k s') r s i st e = absurd (scope_no_file sc k)
elses_begin (g ∷ gs) sc ss rows (inside h t (stands_body l fr d)) r s i st e = absurd (no_else sc (ss ++ s ∷ []) (g ∷ gs) st l e)
elses_begin (g ∷ gs) sc ss rows (inside {rows = a} {others = b} h t (stands_line {c = line_clause.Then l u} {front = p} {rows = q} fr d)) r s i st e =
    let P : State → Type 0 = λ q. Holds q.0 q.1 (rows ++ r) in
    subst P (some_state (body (scope.Line (line_clause.Else l u (ss ++ s ∷ []))), g ∷ gs) st e)
    (grouped (λ x. Holds (body (scope.Line (line_clause.Else l u (ss ++ s ∷ [])))) (g ∷ gs) x) a b r (inside h t (begun_else fr d i)))
elses_begin (frame.Body s' before ∷ gs) sc ss rows (inside {rows = a} {others = b} h t (stands_line {c = line_clause.Else l u v} {front = p} {rows = q} fr d)) r s i st e =
    grouped (λ x. Holds st.0 st.1 x) a b r (elses_begin gs s' before a h (b ++ r) (line_whole (line_clause.Else l u v) (ss ++ s ∷ [])) (else_ended fr d i) st e)
elses_begin (g ∷ gs) sc ss rows (inside h t (stands_line {c = line_clause.Else l u v} fr d)) r s i st e = absurd cc

parts_colon : (sc : Scope) (ss : List Statement) (fs : List Frame) (rows : List Row) → Holds (frame.Body sc ss) fs rows → (r : List Row) (s : Statement) → IsSimple joint.Colon r s
    → (st : State) → statement_ends joint.Colon sc (ss ++ s ∷ []) fs ≡ Some st → Holds st.0 st.1 (rows ++ r)
parts_colon sc ss fs rows (bottom k s') r s i st e = absurd (scope_no_file sc k)
parts_colon sc ss fs rows (inside h t (stands_body l fr d)) r s i st e =
    let no : ◌≡◌ {A = Option State} None (Some st) = sym (ap (λ (b : Bool). if b then Some (frame.Body sc (ss ++ s ∷ []), fs) else None) l) ∙ e in absurd cc
parts_colon sc ss fs rows (inside {g = g} {gs = gs} {rows = a} {others = b} h t (stands_line {c = c} {front = p} {rows = q} fr d)) r s i st e =
    let P : State → Type 0 = λ q. Holds q.0 q.1 (rows ++ r) in
    let f : Frame = frame.Body (scope.Line c) (ss ++ s ∷ []) in
    subst P (some_state (f, g ∷ gs) st e) (grouped (λ x. Holds f (g ∷ gs) x) a b r (inside h t (grouped (λ x. Stands f x) p q r (stands_line fr (one_parted d i)))))

pub simple_holds : (sc : Scope) (ss : List Statement) (fs : List Frame) (rows : List Row) → Holds (frame.Body sc ss) fs rows → (line : ℕ) (x : Item) (j : Joint) (f : StatementForm) → simple_form x ≡ Some f
    → (st : State) → statement_ends j sc (ss ++ statement line f ∷ []) fs ≡ Some st → Holds st.0 st.1 (rows ++ row line x j ∷ [])
simple_holds sc ss fs rows h line x joint.End f was st e = lines_end fs sc ss rows h (row line x joint.End ∷ []) (statement line f) (tree.alone was) st e
simple_holds sc ss fs rows h line x joint.Else f was st e = elses_begin fs sc ss rows h (row line x joint.Else ∷ []) (statement line f) (tree.alone was) st e
simple_holds sc ss fs rows h line x joint.Colon f was st e = parts_colon sc ss fs rows h (row line x joint.Colon ∷ []) (statement line f) (tree.alone was) st e
simple_holds sc ss fs rows h line x joint.Then f was st e = absurd cc

-- A STEP

turn_is : (o : Option Turn) (fs : List Frame) (st : State) → turned o fs ≡ Some st → (t : Turn) × (o ≡ Some t) × (turned (Some t) fs ≡ Some st)
turn_is None fs st e = absurd cc
turn_is (Some t) fs st e = (t, refl, e)

whole_holds : (f : Frame) (fs : List Frame) (rows : List Row) → Holds f fs rows → (line : ℕ) (x : Item) (st : State) → turned (frame_turn f line x) fs ≡ Some st
    → Holds st.0 st.1 (rows ++ whole line x ∷ [])
whole_holds f fs rows h line x st e = let t = turn_is (frame_turn f line x) fs st e in turned_holds f fs rows h line x t.0 t.1 st t.2

no_statement_holds : (sc : Scope) (ss : List Statement) (fs : List Frame) (rows : List Row) → Holds (frame.Body sc ss) fs rows → (line : ℕ) (x : Item) (j : Joint) (st : State)
    → no_statement j sc ss fs line x ≡ Some st → Holds st.0 st.1 (rows ++ row line x j ∷ [])
no_statement_holds sc ss fs rows h line x joint.End st e = whole_holds (frame.Body sc ss) fs rows h line x st e
no_statement_holds sc ss fs rows h line (item.If t) joint.Then st e =
    let P : State → Type 0 = λ q. Holds q.0 q.1 (rows ++ row line (item.If t) joint.Then ∷ []) in
    subst P (some_state (body (scope.Line (line_clause.Then line t)), frame.Body sc ss ∷ fs) st e) (inside h refl (stands_line front_then none_parted))
no_statement_holds sc ss fs rows h line x joint.Then st e = absurd cc
no_statement_holds sc ss fs rows h line x joint.Else st e = absurd cc
no_statement_holds sc ss fs rows h line x joint.Colon st e = absurd cc

body_holds : (sc : Scope) (ss : List Statement) (fs : List Frame) (rows : List Row) → Holds (frame.Body sc ss) fs rows → (line : ℕ) (x : Item) (j : Joint) (o : Option StatementForm) (st : State)
    → simple_form x ≡ o → body_step sc ss fs line x j o ≡ Some st → Holds st.0 st.1 (rows ++ row line x j ∷ [])
body_holds sc ss fs rows h line x j (Some f) st was e = simple_holds sc ss fs rows h line x j f was st e
body_holds sc ss fs rows h line x j None st was e = no_statement_holds sc ss fs rows h line x j st e

pub frame_holds : (f : Frame) (fs : List Frame) (rows : List Row) → Holds f fs rows → (line : ℕ) (x : Item) (j : Joint) (st : State) → frame_step f fs line x j ≡ Some st
    → Holds st.0 st.1 (rows ++ row line x j ∷ [])
frame_holds (frame.Body sc ss) fs rows h line x j st e = body_holds sc ss fs rows h line x j (simple_form x) st refl e
frame_holds f fs rows h line x joint.End st e = whole_holds f fs rows h line x st e
frame_holds f fs rows h line x j st e = absurd cc
