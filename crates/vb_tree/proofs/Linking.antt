-- Behind any rows of a file, the blocks that are open are the frames that rows lead to.
use Rattle.std.proofs.Common.{◌≡◌, ℕ, Bool, true, false, ◌&&◌, List, [], ◌∷◌, ◌++◌, reverse, Option, Some, None, refl, ap, sym, ◌∙◌, subst, append_assoc, append-nil, if◌then◌else◌}
use Rattle.std.proofs.lemmas.List.{reverse-append}
use Rattle.vb_syntax.specs.{declared.{statement.{StatementForm.StatementForm, Statement.Statement}, item.{Joint.Joint, Item.Item, Row.Row}, declaration.Member.Member}, Items.is_end}
use Rattle.vb_syntax.specs.declared.item.Joint.TheVariants as joint
use Rattle.vb_syntax.specs.declared.item.Item.TheVariants as item
use Rattle.vb_ends.specs.{declared.role.Role.Role, OpenBlocks.in_interface, Roles.{goes_on_property, is_fresh, item_role, role_of, marks_of, AreOpenBehind, nothing}}
use Rattle.vb_ends.specs.declared.role.Role.TheVariants as role
use Rattle.vb_blocks.specs.{declared.{scope.Scope.Scope, frame.{Frame.Frame, PropertyParts.PropertyParts, TypeHeader.TypeHeader, Turn.Turn}}, Trees.{statement, simple_form}, Steps.{State, body, is_line, frame_turn, opened_or_turned, opened, turned, line_whole, line_ends, else_begins, statement_ends, line_if, no_statement, body_step, frame_step, popped, automatic, reopened, reopened_as, reopened_last, reopened_step, item_step, step, run, run_on, start}}
use Rattle.vb_blocks.specs.declared.scope.Scope.TheVariants as scope
use Rattle.vb_blocks.specs.declared.scope.LineClause.TheVariants as line_clause
use Rattle.vb_blocks.specs.declared.frame.Frame.TheVariants as frame
use Rattle.vb_tree.proofs.{Sorts.{open_sorts, is_interface, is_line_frame, Leaves, leaves_open, reopened_at, IsSettled, some_state, settled_body, settled_other, After, turned_after}, FrameMarks.frame_marks, Standing.Holds, Building.{reopened_holds, step_holds, start_holds}, Inside.{inside_by, holds_inside}}

-- The frames are the blocks that are open behind these rows, which are listed from the last.
pub record AreLinked (f : Frame) (fs : List Frame) (rows : List Row) : Type 0 where
  pub blocks : (next : Option Item) (st : State) → reopened_at next f fs ≡ Some st → AreOpenBehind (marks_of next rows) (open_sorts (st.0 ∷ st.1))
  pub fresh : is_line_frame f ≡ false → is_fresh rows ≡ true

-- the same before an item, which has opened a property in them again if it goes on with one
pub record AreMet (x : Item) (f : Frame) (fs : List Frame) (rows : List Row) : Type 0 where
  pub blocks : AreOpenBehind (marks_of (Some x) rows) (open_sorts (f ∷ fs))
  pub fresh : is_line_frame f ≡ false → is_fresh rows ≡ true
  pub inside : is_line_frame f ≡ false → in_interface (marks_of (Some x) rows) ≡ is_interface f

abbrev a_row : ℕ → Item → Joint → Row
a_row line x j = record { line = line; item = Some x; behind = j }

-- ON ONE LINE

-- no more frames are blocks, nor fewer, and statements go on
pub record KeepsBody (fs : List Frame) (st : State) : Type 0 where
  pub sorts : open_sorts (st.0 ∷ st.1) ≡ open_sorts fs
  pub settled : IsSettled st.0

keeps_as : (fs : List Frame) (p q : State) → KeepsBody fs p → ◌≡◌ {A = Option State} (Some p) (Some q) → KeepsBody fs q
keeps_as fs p q k e = let P : State → Type 0 = λ u. KeepsBody fs u in subst P (some_state p q e) k

keeps_body : (sc : Scope) (ss : List Statement) (fs gs : List Frame) → open_sorts (frame.Body sc ss ∷ gs) ≡ open_sorts fs → KeepsBody fs (frame.Body sc ss, gs)
keeps_body sc ss fs gs same = record { sorts = same; settled = settled_body sc ss }

line_keeps : (fs : List Frame) (sc : Scope) (ss : List Statement) (st : State) → line_ends sc ss fs ≡ Some st → KeepsBody (frame.Body sc ss ∷ fs) st
line_keeps (frame.Body s before ∷ fs) (scope.Line c) ss st e = let k = line_keeps fs s (before ++ line_whole c ss ∷ []) st e in record { sorts = k.sorts; settled = k.settled }
line_keeps [] (scope.Line c) ss st e = absurd cc
line_keeps (f ∷ fs) (scope.Line c) ss st e = absurd cc
line_keeps fs sc ss st e = keeps_as (frame.Body sc ss ∷ fs) (frame.Body sc ss, fs) st (keeps_body sc ss (frame.Body sc ss ∷ fs) fs refl) e

pub record KeepsLine (j : Joint) (fs : List Frame) (st : State) : Type 0 where
  pub keeps : KeepsBody fs st
  pub ended : is_line_frame st.0 ≡ false → is_end j ≡ true

keeps_line_as : (j : Joint) (fs : List Frame) (p q : State) → KeepsLine j fs p → ◌≡◌ {A = Option State} (Some p) (Some q) → KeepsLine j fs q
keeps_line_as j fs p q k e = let P : State → Type 0 = λ u. KeepsLine j fs u in subst P (some_state p q e) k

-- a frame of a part of an `If` on one line
keeps_line : (j : Joint) (sc : Scope) (ss : List Statement) (fs gs : List Frame) → is_line sc ≡ true → open_sorts (frame.Body sc ss ∷ gs) ≡ open_sorts fs → KeepsLine j fs (frame.Body sc ss, gs)
keeps_line j sc ss fs gs is same = record { keeps = keeps_body sc ss fs gs same; ended = λ out. absurd cc }

else_keeps : (fs : List Frame) (sc : Scope) (ss : List Statement) (st : State) → else_begins sc ss fs ≡ Some st → KeepsLine joint.Else (frame.Body sc ss ∷ fs) st
else_keeps fs (scope.Line (line_clause.Then l t)) ss st e =
    let s : Scope = scope.Line (line_clause.Else l t ss) in
    keeps_line_as joint.Else (frame.Body (scope.Line (line_clause.Then l t)) ss ∷ fs) (body s, fs) st
    (keeps_line joint.Else s [] (frame.Body (scope.Line (line_clause.Then l t)) ss ∷ fs) fs refl refl) e
else_keeps (frame.Body s before ∷ fs) (scope.Line (line_clause.Else l t b)) ss st e =
    let k = else_keeps fs s (before ++ line_whole (line_clause.Else l t b) ss ∷ []) st e in
    record { keeps = record { sorts = k.keeps.sorts; settled = k.keeps.settled }; ended = k.ended }
else_keeps [] (scope.Line (line_clause.Else l t b)) ss st e = absurd cc
else_keeps (f ∷ fs) (scope.Line (line_clause.Else l t b)) ss st e = absurd cc
else_keeps fs sc ss st e = absurd cc

colon_keeps : (b : Bool) (fs : List Frame) (sc : Scope) (ss : List Statement) (st : State) → is_line sc ≡ b → (if b then Some (frame.Body sc ss, fs) else None) ≡ Some st
    → KeepsLine joint.Colon (frame.Body sc ss ∷ fs) st
colon_keeps true fs sc ss st is e = keeps_line_as joint.Colon (frame.Body sc ss ∷ fs) (frame.Body sc ss, fs) st (keeps_line joint.Colon sc ss (frame.Body sc ss ∷ fs) fs is refl) e
colon_keeps false fs sc ss st is e = absurd cc

statement_keeps : (j : Joint) (fs : List Frame) (sc : Scope) (ss : List Statement) (st : State) → statement_ends j sc ss fs ≡ Some st → KeepsLine j (frame.Body sc ss ∷ fs) st
statement_keeps joint.End fs sc ss st e = record { keeps = line_keeps fs sc ss st e; ended = λ out. refl }
statement_keeps joint.Else fs sc ss st e = else_keeps fs sc ss st e
statement_keeps joint.Colon fs sc ss st e = colon_keeps (is_line sc) fs sc ss st refl e
statement_keeps joint.Then fs sc ss st e = absurd cc

-- a statement without a block
abbrev Stays : Item → Type 0
Stays x = (inside : Bool) (next : Option Item) → item_role inside (Some x) next ≡ role.Stays

simple_stays : (x : Item) (f : StatementForm) → simple_form x ≡ Some f → Stays x
simple_stays (item.Declaration m ds) f e = λ i n. refl
simple_stays (item.Label n) f e = λ i n. refl
simple_stays (item.ReDim n x) f e = λ i n. refl
simple_stays (item.Assignment x y) f e = λ i n. refl
simple_stays (item.CompoundAssignment o x y) f e = λ i n. refl
simple_stays (item.Invocation x) f e = λ i n. refl
simple_stays (item.Throw x) f e = λ i n. refl
simple_stays (item.Yield x) f e = λ i n. refl
simple_stays (item.Return x) f e = λ i n. refl
simple_stays (item.GoTo n) f e = λ i n. refl
simple_stays (item.Exit k) f e = λ i n. refl
simple_stays (item.Continue k) f e = λ i n. refl
simple_stays (item.OnError a) f e = λ i n. refl
simple_stays (item.Resume p) f e = λ i n. refl
simple_stays (item.AddHandler x y) f e = λ i n. refl
simple_stays (item.RemoveHandler x y) f e = λ i n. refl
simple_stays (item.RaiseEvent n xs) f e = λ i n. refl
simple_stays x f e = absurd cc

if_stays : (b : Bool) (r : Role) → r ≡ role.Stays → (if b then r else role.Stays) ≡ role.Stays
if_stays true r e = e
if_stays false r e = refl

and_false : (b : Bool) → (b && false) ≡ false
and_false true = refl
and_false false = refl

linked_kept : (j : Joint) (f : Frame) (fs : List Frame) (rows : List Row) (line : ℕ) (x : Item) (st : State) → AreMet x f fs rows
    → ((next : Option Item) → role_of rows (marks_of (Some x) rows) (a_row line x j) next ≡ role.Stays) → KeepsLine j (f ∷ fs) st
    → AreLinked st.0 st.1 (a_row line x j ∷ rows)
linked_kept j f fs rows line x st m stays_ k = record {
  blocks = λ next to r. let P : Role → Type 0 = λ v. Leaves v (open_sorts (f ∷ fs)) (open_sorts (to.0 ∷ to.1)) in
      leaves_open (role_of rows (marks_of (Some x) rows) (a_row line x j) next) line (marks_of (Some x) rows) (open_sorts (f ∷ fs)) (open_sorts (to.0 ∷ to.1))
      (subst P (sym (stays_ next)) (ap (λ (q : State). open_sorts (q.0 ∷ q.1)) (sym (k.keeps.settled next st.1 to r)) ∙ k.keeps.sorts)) m.blocks;
  fresh = k.ended;
}

-- A WHOLE LINE

linked_whole : (f : Frame) (fs : List Frame) (rows : List Row) (line : ℕ) (x : Item) (st : State) → AreMet x f fs rows → is_line_frame f ≡ false → After f fs x st
    → AreLinked st.0 st.1 (a_row line x joint.End ∷ rows)
linked_whole f fs rows line x st m alone a = record {
  blocks = λ next to r.
      let is : role_of rows (marks_of (Some x) rows) (a_row line x joint.End) next ≡ item_role (is_interface f) (Some x) next =
      ap (λ (b : Bool). if b && true then item_role (in_interface (marks_of (Some x) rows)) (Some x) next else role.Stays) (m.fresh alone) ∙ ap (λ (b : Bool). item_role b (Some x) next) (m.inside alone) in
      let P : Role → Type 0 = λ v. Leaves v (open_sorts (f ∷ fs)) (open_sorts (to.0 ∷ to.1)) in
      leaves_open (role_of rows (marks_of (Some x) rows) (a_row line x joint.End) next) line (marks_of (Some x) rows) (open_sorts (f ∷ fs)) (open_sorts (to.0 ∷ to.1)) (subst P (sym is) (a.leaves next to r)) m.blocks;
  fresh = λ out. refl;
}

not_so : (b : Bool) (o : Option Turn) (t : Turn) → (if b then None else o) ≡ Some t → b ≡ false
not_so true o t e = absurd cc
not_so false o t e = refl

no_line : (f : Frame) (line : ℕ) (x : Item) (t : Turn) → frame_turn f line x ≡ Some t → is_line_frame f ≡ false
no_line (frame.Body sc ss) line x t e = not_so (is_line sc) (opened_or_turned sc ss line x (opened line x)) t e
no_line f line x t e = refl

whole_links : (f : Frame) (fs : List Frame) (rows : List Row) (line : ℕ) (x : Item) → AreMet x f fs rows → (o : Option Turn) → frame_turn f line x ≡ o → (st : State) → turned o fs ≡ Some st
    → AreLinked st.0 st.1 (a_row line x joint.End ∷ rows)
whole_links f fs rows line x m None was st e = absurd cc
whole_links f fs rows line x m (Some t) was st e = linked_whole f fs rows line x st m (no_line f line x t was) (turned_after f fs x t (frame_marks f line x t was) st e)

-- A STEP

if_links : (sc : Scope) (ss : List Statement) (fs : List Frame) (rows : List Row) (line : ℕ) (x : Item) → AreMet x (frame.Body sc ss) fs rows → (st : State) → line_if sc ss fs line x ≡ Some st
    → AreLinked st.0 st.1 (a_row line x joint.Then ∷ rows)
if_links sc ss fs rows line (item.If t) m st e =
    let s : Scope = scope.Line (line_clause.Then line t) in
    let k : KeepsLine joint.Then (frame.Body sc ss ∷ fs) st =
    keeps_line_as joint.Then (frame.Body sc ss ∷ fs) (body s, frame.Body sc ss ∷ fs) st (keeps_line joint.Then s [] (frame.Body sc ss ∷ fs) (frame.Body sc ss ∷ fs) refl refl) e in
    linked_kept joint.Then (frame.Body sc ss) fs rows line (item.If t) st m
    (λ next. ap (λ (b : Bool). if b then item_role (in_interface (marks_of (Some (item.If t)) rows)) (Some (item.If t)) next else role.Stays) (and_false (is_fresh rows))) k
if_links sc ss fs rows line x m st e = absurd cc

other_links : (j : Joint) (sc : Scope) (ss : List Statement) (fs : List Frame) (rows : List Row) (line : ℕ) (x : Item) → AreMet x (frame.Body sc ss) fs rows → (st : State)
    → no_statement j sc ss fs line x ≡ Some st → AreLinked st.0 st.1 (a_row line x j ∷ rows)
other_links joint.End sc ss fs rows line x m st e = whole_links (frame.Body sc ss) fs rows line x m (frame_turn (frame.Body sc ss) line x) refl st e
other_links joint.Then sc ss fs rows line x m st e = if_links sc ss fs rows line x m st e
other_links joint.Else sc ss fs rows line x m st e = absurd cc
other_links joint.Colon sc ss fs rows line x m st e = absurd cc

body_links : (j : Joint) (sc : Scope) (ss : List Statement) (fs : List Frame) (rows : List Row) (line : ℕ) (x : Item) → AreMet x (frame.Body sc ss) fs rows → (o : Option StatementForm) → simple_form x ≡ o
    → (st : State) → body_step sc ss fs line x j o ≡ Some st → AreLinked st.0 st.1 (a_row line x j ∷ rows)
body_links j sc ss fs rows line x m None was st e = other_links j sc ss fs rows line x m st e
body_links j sc ss fs rows line x m (Some f) was st e =
    let s = simple_stays x f was in
    let k = statement_keeps j fs sc (ss ++ statement line f ∷ []) st e in
    let q : KeepsLine j (frame.Body sc ss ∷ fs) st = record { keeps = record { sorts = k.keeps.sorts; settled = k.keeps.settled }; ended = k.ended } in
    linked_kept j (frame.Body sc ss) fs rows line x st m
    (λ next. if_stays (is_fresh rows && is_end j) (item_role (in_interface (marks_of (Some x) rows)) (Some x) next) (s (in_interface (marks_of (Some x) rows)) next)) q

frame_links : (f : Frame) (fs : List Frame) (rows : List Row) (line : ℕ) (x : Item) (j : Joint) → AreMet x f fs rows → (st : State) → frame_step f fs line x j ≡ Some st
    → AreLinked st.0 st.1 (a_row line x j ∷ rows)
frame_links (frame.Body sc ss) fs rows line x j m st e = body_links j sc ss fs rows line x m (simple_form x) refl st e
frame_links f fs rows line x joint.End m st e = whole_links f fs rows line x m (frame_turn f line x) refl st e
frame_links f fs rows line x j m st e = absurd cc

-- WITH A PROPERTY THAT GOES ON

alike_as : (f : Frame) (p q : State) → is_line_frame p.0 ≡ is_line_frame f → ◌≡◌ {A = Option State} (Some p) (Some q) → is_line_frame q.0 ≡ is_line_frame f
alike_as f p q s e = let P : State → Type 0 = λ u. is_line_frame u.0 ≡ is_line_frame f in subst P (some_state p q e) s

as_alike : (h : TypeHeader) (ms : List Member) (fs : List Frame) (o : Option PropertyParts) (st : State) → reopened_as h ms fs o ≡ Some st → is_line_frame st.0 ≡ false
as_alike h ms fs None st e = absurd cc
as_alike h ms fs (Some p) st e = alike_as (frame.Property p) (frame.Property p, frame.Members h ms ∷ fs) st refl e

last_alike : (h : TypeHeader) (fs : List Frame) (o : Option (List Member × Member)) (st : State) → reopened_last h fs o ≡ Some st → is_line_frame st.0 ≡ false
last_alike h fs None st e = absurd cc
last_alike h fs (Some p) st e = as_alike h p.0 fs (automatic p.1) st e

choice_alike : (b : Bool) (h : TypeHeader) (ms : List Member) (fs : List Frame) (st : State) → (if b then reopened_last h fs (popped ms) else Some (frame.Members h ms, fs)) ≡ Some st
    → is_line_frame st.0 ≡ false
choice_alike true h ms fs st e = last_alike h fs (popped ms) st e
choice_alike false h ms fs st e = alike_as (frame.Members h ms) (frame.Members h ms, fs) st refl e

reopened_alike : (x : Item) (f : Frame) (fs : List Frame) (st : State) → reopened x f fs ≡ Some st → is_line_frame st.0 ≡ is_line_frame f
reopened_alike x (frame.Members h ms) fs st e = choice_alike (goes_on_property (Some x)) h ms fs st e
reopened_alike x f fs st e = alike_as f (f, fs) st refl e

-- the frames stand for the same rows, here from the beginning of the file
linked_met : (x : Item) (f : Frame) (fs : List Frame) (rows in_order : List Row) → AreLinked f fs rows → Holds f fs in_order → (st : State) → reopened x f fs ≡ Some st → AreMet x st.0 st.1 rows
linked_met x f fs rows in_order l h st e = record {
  blocks = l.blocks (Some x) st e;
  fresh = λ out. l.fresh (sym (reopened_alike x f fs st e) ∙ out);
  inside = λ out. inside_by (l.blocks (Some x) st e) ∙ holds_inside st.0 st.1 in_order (reopened_holds x f fs in_order h st e) out;
}

reopened_links : (line : ℕ) (x : Item) (j : Joint) (f : Frame) (fs : List Frame) (rows in_order : List Row) → AreLinked f fs rows → Holds f fs in_order → (o : Option State) → reopened x f fs ≡ o → (st : State)
    → reopened_step line x j o ≡ Some st → AreLinked st.0 st.1 (a_row line x j ∷ rows)
reopened_links line x j f fs rows in_order l h None was st e = absurd cc
reopened_links line x j f fs rows in_order l h (Some q) was st e = frame_links q.0 q.1 rows line x j (linked_met x f fs rows in_order l h q was) st e

item_links : (f : Frame) (fs : List Frame) (rows in_order : List Row) → AreLinked f fs rows → Holds f fs in_order → (line : ℕ) (j : Joint) (o : Option Item) (st : State) → item_step f fs line j o ≡ Some st
    → AreLinked st.0 st.1 (record { line = line; item = o; behind = j } ∷ rows)
item_links f fs rows in_order l h line j None st e = absurd cc
item_links f fs rows in_order l h line j (Some x) st e = reopened_links line x j f fs rows in_order l h (reopened x f fs) refl st e

step_links : (f : Frame) (fs : List Frame) (rows in_order : List Row) → AreLinked f fs rows → Holds f fs in_order → (r : Row) (st : State) → step f fs r ≡ Some st → AreLinked st.0 st.1 (r ∷ rows)
step_links f fs rows in_order l h r st e = item_links f fs rows in_order l h r.line r.behind r.item st e

-- ALL ROWS

turned_rows : (r : Row) (more rows : List Row) → reverse more ++ (r ∷ rows) ≡ reverse (r ∷ more) ++ rows
turned_rows r more rows = sym (append_assoc (reverse more) (r ∷ []) rows) ∙ ap (λ (v : List Row). v ++ rows) (sym (reverse-append (r ∷ []) more))

on_links : (more : List Row) (r : Row) (o : Option State) (rows in_order : List Row) → ((st : State) → o ≡ Some st → AreLinked st.0 st.1 (r ∷ rows))
    → ((st : State) → o ≡ Some st → Holds st.0 st.1 (in_order ++ r ∷ []))
    → ((f : Frame) (fs : List Frame) (before ordered : List Row) → AreLinked f fs before → Holds f fs ordered → (st : State) → run more f fs ≡ Some st → AreLinked st.0 st.1 (reverse more ++ before))
    → (st : State) → run_on (run more) o ≡ Some st → AreLinked st.0 st.1 (reverse (r ∷ more) ++ rows)
on_links more r None rows in_order l h go st e = absurd cc
on_links more r (Some q) rows in_order l h go st e =
    subst (λ (v : List Row). AreLinked st.0 st.1 v) (turned_rows r more rows) (go q.0 q.1 (r ∷ rows) (in_order ++ r ∷ []) (l q refl) (h q refl) st e)

run_links : (more : List Row) (f : Frame) (fs : List Frame) (rows in_order : List Row) → AreLinked f fs rows → Holds f fs in_order → (st : State) → run more f fs ≡ Some st
    → AreLinked st.0 st.1 (reverse more ++ rows)
run_links [] f fs rows in_order l h st e = let P : State → Type 0 = λ v. AreLinked v.0 v.1 rows in subst P (some_state (f, fs) st e) l
run_links (r ∷ more) f fs rows in_order l h st e =
    on_links more r (step f fs r) rows in_order (step_links f fs rows in_order l h r) (step_holds f fs in_order h r) (λ g gs before ordered m i to w. run_links more g gs before ordered m i to w) st e

start_links : AreLinked start [] []
start_links = record {
  blocks = λ next st r. let P : State → Type 0 = λ v. AreOpenBehind (marks_of next []) (open_sorts (v.0 ∷ v.1)) in subst P (settled_other start refl next [] st r) nothing;
  fresh = λ out. refl;
}

pub rows_link : (rows : List Row) (st : State) → run rows start [] ≡ Some st → AreLinked st.0 st.1 (reverse rows)
rows_link rows st e = subst (λ (v : List Row). AreLinked st.0 st.1 v) (append-nil (reverse rows)) (run_links rows start [] [] [] start_links start_holds st e)
