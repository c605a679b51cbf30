-- Where frames stand for rows, a file goes on with them.
use Rattle.std.proofs.Common.{◌≡◌, ℕ, Bool, true, false, List, [], ◌∷◌, ◌++◌, Option, Some, None, refl, ap, sym, ◌∙◌, append_assoc, append-nil, subst, if◌then◌else◌}
use Rattle.std.specs.Prelude.{not}
use Rattle.vb_syntax.specs.{declared.{statement.Statement.Statement, declaration.Modifier.Modifier, item.{Item.Item, Row.Row}}, Items.must_override}
use Rattle.vb_syntax.specs.declared.statement.LoopTest.TheVariants as loop
use Rattle.vb_syntax.specs.declared.statement.StatementForm.TheVariants as form
use Rattle.vb_syntax.specs.declared.declaration.TypeForm.TheVariants as type_form
use Rattle.vb_syntax.specs.declared.item.EventAccessorKind.TheVariants as accessor
use Rattle.vb_syntax.specs.declared.item.DeclarationLine.TheVariants as header
use Rattle.vb_syntax.specs.declared.item.BlockWord.TheVariants as word
use Rattle.vb_syntax.specs.declared.item.Joint.TheVariants as joint
use Rattle.vb_syntax.specs.declared.item.Item.TheVariants as item
use Rattle.vb_blocks.specs.declared.{scope.{Scope.Scope, AccessorHeader.AccessorHeader}, frame.{Frame.Frame, Whole.Whole}}
use Rattle.vb_blocks.specs.declared.scope.Scope.TheVariants as scope
use Rattle.vb_blocks.specs.declared.scope.AccessorHeader.TheVariants as accessor_header
use Rattle.vb_blocks.specs.declared.frame.Frame.TheVariants as frame
use Rattle.vb_blocks.specs.declared.frame.Whole.TheVariants as is
use Rattle.vb_blocks.specs.declared.frame.Turn.TheVariants as turn
use Rattle.vb_blocks.specs.Trees as tree
use Rattle.vb_blocks.specs.Trees.{
  row,
  whole,
  statement,
  member_of,
  simple_form,
  enclosed,
  else_if,
  case,
  catch,
  last_clause,
  bare_member,
  procedure,
  IsSimple,
  AreSimple,
  IsStatement,
  AreStatements,
  AreElseIfs,
  AreCases,
  AreCatches,
  IsLastClause,
  IsGet,
  IsSet,
  IsEventAccessor,
  AreEventAccessors,
  IsMember,
  AreMembers,
  IsBase,
  AreInterfaceLists,
  AreInterfaceMembers,
  IsType,
  AreTypes,
  AreOptions,
  AreImports,
}
use Rattle.vb_blocks.specs.{Steps.{body, is_line, opened, put, member_opened, procedure_whole, frame_turn, class_of, property_of, custom_event, with_accessor, line_whole}, Trees.{IsTree, CanGoOn}}
use Rattle.vb_tree.proofs.{MemberRows.{parts, event_parts}, FileRows.class_parts, Standing.{Kind, a_line, a_file, kind_of, takes, IsFront, front_enclosed, front_if, front_else_if, front_else, front_case, front_case_else, front_try, front_catch, front_finally, front_procedure, front_get, front_set, front_event, front_module, front_class, Stands, stands_body, stands_line, stands_select, stands_property, stands_event, stands_members, stands_interface, stands_file, IsWhole, whole_kind, scope_kind, Holds, bottom, inside}, Ends.grouped, Sound.frame_turns, Holding.{put_holds, line_ended, scope_no_file}}
use Rattle.vb_syntax.specs.declared.declaration.{MemberForm.MemberForm, SourceFile.SourceFile}
use Rattle.vb_syntax.specs.declared.declaration.MemberForm.TheVariants as member
use Rattle.vb_syntax.specs.declared.statement.ExitKind.TheVariants as exit

-- fewer rows go on where more do
pub fewer : (a b : List Row) → CanGoOn (a ++ b) → CanGoOn a
fewer a b (others, t, is_) = (b ++ others, t, subst (λ (r : List Row). IsTree t.file r t) (append_assoc a b others) is_)

-- rows that make a frame whole
pub record Closing (f : Frame) (r : List Row) : Type 0 where
  pub rows : List Row
  pub whole : Whole
  pub is : IsWhole whole (r ++ rows)
  pub kind : whole_kind whole ≡ kind_of f

closes : (f : Frame) (r : List Row) → Stands f r → (x : Item) (w : Whole) → frame_turn f 0 x ≡ Some (turn.Closes w) → Closing f r
closes f r s x w e = let u = frame_turns f r s 0 x (turn.Closes w) e in record { rows = whole 0 x ∷ []; whole = w; is = u.0; kind = u.1 }

enclosed_closes : (l : ℕ) (x : Item) (ss : List Statement) (r : List Row) → Stands (frame.Body (scope.Enclosed l x) ss) r → opened l x ≡ Some (body (scope.Enclosed l x)) → Closing (frame.Body (scope.Enclosed l x) ss) r
enclosed_closes l (item.While t) ss r s o = closes (frame.Body (scope.Enclosed l (item.While t)) ss) r s (item.End word.While) (is.Statement (statement l (form.While t ss))) refl
enclosed_closes l (item.SyncLock t) ss r s o = closes (frame.Body (scope.Enclosed l (item.SyncLock t)) ss) r s (item.End word.SyncLock) (is.Statement (statement l (form.SyncLock t ss))) refl
enclosed_closes l (item.With t) ss r s o = closes (frame.Body (scope.Enclosed l (item.With t)) ss) r s (item.End word.With) (is.Statement (statement l (form.With t ss))) refl
enclosed_closes l (item.Using t) ss r s o = closes (frame.Body (scope.Enclosed l (item.Using t)) ss) r s (item.End word.Using) (is.Statement (statement l (form.Using t ss))) refl
enclosed_closes l (item.Do None) ss r s o = closes (frame.Body (scope.Enclosed l (item.Do None)) ss) r s (item.Loop None) (is.Statement (statement l (form.Do loop.Never ss))) refl
enclosed_closes l (item.Do (Some c)) ss r s o = closes (frame.Body (scope.Enclosed l (item.Do (Some c))) ss) r s (item.Loop None) (is.Statement (statement l (form.Do (loop.Top c) ss))) refl
enclosed_closes l (item.For v a b c) ss r s o =
    closes (frame.Body (scope.Enclosed l (item.For v a b c)) ss) r s (item.Next None) (is.Statement (statement l (form.For v a b c ss (record { line = 0; variable = None })))) refl
enclosed_closes l (item.ForEach v c) ss r s o =
    closes (frame.Body (scope.Enclosed l (item.ForEach v c)) ss) r s (item.Next None) (is.Statement (statement l (form.ForEach v c ss (record { line = 0; variable = None })))) refl
enclosed_closes l x ss r s o = absurd cc

no_bare : (b : Bool) (m : List Modifier × MemberForm) → (if b then Some m else None) ≡ None → b ≡ false
no_bare true m e = absurd cc
no_bare false m e = refl

procedure_closes : (l : ℕ) (x : Item) (ss : List Statement) (r : List Row) → Stands (frame.Body (scope.Procedure l x) ss) r → bare_member x ≡ None
    → member_opened l x ≡ Some (body (scope.Procedure l x)) → Closing (frame.Body (scope.Procedure l x) ss) r
procedure_closes l (item.Declares (header.Sub ms s is_)) ss r st n o =
    let m : List Modifier × MemberForm = (ms, member.Sub s is_ (Some ss)) in
    closes (frame.Body (scope.Procedure l (item.Declares (header.Sub ms s is_))) ss) r st (item.End word.Sub) (is.Member (member_of l m))
    (ap (λ (b : Bool). procedure_whole l (if b then None else Some m)) (no_bare (must_override ms) (ms, member.Sub s is_ None) n))
procedure_closes l (item.Declares (header.Constructor ms s is_)) ss r st n o =
    let m : List Modifier × MemberForm = (ms, member.Constructor s is_ (Some ss)) in
    closes (frame.Body (scope.Procedure l (item.Declares (header.Constructor ms s is_))) ss) r st (item.End word.Sub) (is.Member (member_of l m))
    (ap (λ (b : Bool). procedure_whole l (if b then None else Some m)) (no_bare (must_override ms) (ms, member.Constructor s is_ None) n))
procedure_closes l (item.Declares (header.Function ms k s t is_)) ss r st n o =
    let m : List Modifier × MemberForm = (ms, member.Function k s t is_ (Some ss)) in
    closes (frame.Body (scope.Procedure l (item.Declares (header.Function ms k s t is_))) ss) r st (item.End word.Function) (is.Member (member_of l m))
    (ap (λ (b : Bool). procedure_whole l (if b then None else Some m)) (no_bare (must_override ms) (ms, member.Function k s t is_ None) n))
procedure_closes l x ss r st n o = absurd cc

-- a body that is no part of an `If` on one line
body_closes : (sc : Scope) (ss : List Statement) (front rows : List Row) → is_line sc ≡ false → IsFront sc front → AreStatements rows ss → Closing (frame.Body sc ss) (front ++ rows)
body_closes sc ss front rows l (front_enclosed {line = n} {x = x} o) d = enclosed_closes n x ss (front ++ rows) (stands_body l (front_enclosed o) d) o
body_closes sc ss front rows l (front_if {line = n} {t = t}) d =
    closes (frame.Body sc ss) (front ++ rows) (stands_body l front_if d) (item.End word.If) (is.Statement (statement n (form.If t ss [] None))) refl
body_closes sc ss front rows l (front_else_if {p = p} {rows = r} {line = n} {t = t} i) d =
    closes (frame.Body sc ss) (front ++ rows) (stands_body l (front_else_if i) d) (item.End word.If) (is.Statement (statement p.line (form.If p.test p.body (p.else_ifs ++ else_if n t ss ∷ []) None))) refl
body_closes sc ss front rows l (front_else {p = p} {rows = r} {line = n} i) d =
    closes (frame.Body sc ss) (front ++ rows) (stands_body l (front_else i) d) (item.End word.If) (is.Statement (statement p.line (form.If p.test p.body p.else_ifs (Some (last_clause n ss))))) refl
body_closes sc ss front rows l (front_case {p = p} {rows = r} {line = n} {cs = t} i) d =
    closes (frame.Body sc ss) (front ++ rows) (stands_body l (front_case i) d) (item.End word.Select) (is.Statement (statement p.line (form.Select p.value (p.cases ++ case n t ss ∷ []) None))) refl
body_closes sc ss front rows l (front_case_else {p = p} {rows = r} {line = n} i) d =
    closes (frame.Body sc ss) (front ++ rows) (stands_body l (front_case_else i) d) (item.End word.Select) (is.Statement (statement p.line (form.Select p.value p.cases (Some (last_clause n ss))))) refl
body_closes sc ss front rows l (front_try {line = n}) d =
    closes (frame.Body sc ss) (front ++ rows) (stands_body l front_try d) (item.End word.Try) (is.Statement (statement n (form.Try ss [] None))) refl
body_closes sc ss front rows l (front_catch {p = p} {rows = r} {line = n} {v = v} {t = t} i) d =
    closes (frame.Body sc ss) (front ++ rows) (stands_body l (front_catch i) d) (item.End word.Try) (is.Statement (statement p.line (form.Try p.body (p.catches ++ catch n v t ss ∷ []) None))) refl
body_closes sc ss front rows l (front_finally {p = p} {rows = r} {line = n} i) d =
    closes (frame.Body sc ss) (front ++ rows) (stands_body l (front_finally i) d) (item.End word.Try) (is.Statement (statement p.line (form.Try p.body p.catches (Some (last_clause n ss))))) refl
body_closes sc ss front rows l (front_procedure {line = n} {x = x} b o) d = procedure_closes n x ss (front ++ rows) (stands_body l (front_procedure b o) d) b o
body_closes sc ss front rows l (front_get {line = n} {a = a}) d =
    closes (frame.Body sc ss) (front ++ rows) (stands_body l front_get d) (item.End word.Get) (is.Get (record { line = n; access = a; body = ss })) refl
body_closes sc ss front rows l (front_set {line = n} {a = a} {ps = ps}) d =
    closes (frame.Body sc ss) (front ++ rows) (stands_body l front_set d) (item.End word.Set) (is.Set (record { line = n; access = a; parameters = ps; body = ss })) refl
body_closes sc ss front rows l (front_event {line = n} {k = accessor.AddHandler} {ps = ps}) d =
    closes (frame.Body sc ss) (front ++ rows) (stands_body l front_event d) (item.End word.AddHandler) (is.Event accessor.AddHandler (record { line = n; parameters = ps; body = ss })) refl
body_closes sc ss front rows l (front_event {line = n} {k = accessor.RemoveHandler} {ps = ps}) d =
    closes (frame.Body sc ss) (front ++ rows) (stands_body l front_event d) (item.End word.RemoveHandler) (is.Event accessor.RemoveHandler (record { line = n; parameters = ps; body = ss })) refl
body_closes sc ss front rows l (front_event {line = n} {k = accessor.RaiseEvent} {ps = ps}) d =
    closes (frame.Body sc ss) (front ++ rows) (stands_body l front_event d) (item.End word.RaiseEvent) (is.Event accessor.RaiseEvent (record { line = n; parameters = ps; body = ss })) refl

frame_closes : (f : Frame) (r : List Row) → Stands f r → (kind_of f ≡ a_file → ⊥) → (kind_of f ≡ a_line → ⊥) → Closing f r
frame_closes f r (stands_body {sc = sc} {ss = ss} {front = a} {rows = b} l fr d) no_file no_line = body_closes sc ss a b l fr d
frame_closes f r (stands_line fr d) no_file no_line = absurd (no_line refl)
frame_closes f r (stands_select {line = l} {v = v}) no_file no_line = closes f r stands_select (item.End word.Select) (is.Statement (statement l (form.Select v [] None))) refl
frame_closes f r (stands_property {line = l} {ms = ms} {h = h} {g = g} {s = s} free i j) no_file no_line =
    closes f r (stands_property free i j) (item.End word.Property) (is.Member (property_of (parts l ms h g s))) refl
frame_closes f r (stands_event {line = l} {ms = ms} {n = n} {t = d} {a = a} {b = b} {c = c} i) no_file no_line =
    closes f r (stands_event i) (item.End word.Event) (is.Member (custom_event (event_parts l ms n d a b c))) refl
frame_closes f r (stands_members {ms = ms} (front_module {line = l} {a = a} {n = n}) d) no_file no_line =
    closes f r (stands_members front_module d) (item.End word.Module) (is.Type (record { line = l; access = a; name = n; form = type_form.Module ms })) refl
frame_closes f r (stands_members {ms = ms} (front_class {line = l} {a = a} {c = c} {n = n} {ps = ps} {b = b} {ls = ls} i j) d) no_file no_line =
    closes f r (stands_members (front_class i j) d) (item.End word.Class) (is.Type (class_of (class_parts l a c n ps b ls) ms)) refl
frame_closes f r (stands_interface {line = l} {a = a} {n = n} {ps = ps} {ls = ls} {ms = ms} i d) no_file no_line =
    closes f r (stands_interface i d) (item.End word.Interface) (is.Type (record { line = l; access = a; name = n; form = type_form.Interface ps ls ms })) refl
frame_closes f r (stands_file a b c) no_file no_line = absurd (no_file refl)

-- A PLACE FOR EACH PART

pub record Put (w : Whole) (g : Frame) : Type 0 where
  pub frame : Frame
  pub is : put w g ≡ Some frame
  pub kind : kind_of frame ≡ kind_of g

put_takes : (w : Whole) (g : Frame) → takes g (whole_kind w) ≡ true → Put w g
put_takes (is.Statement s) (frame.Body sc ss) t = record { frame = frame.Body sc (ss ++ s ∷ []); is = refl; kind = refl }
put_takes (is.Member m) (frame.Members h ms) t = record { frame = frame.Members h (ms ++ m ∷ []); is = refl; kind = refl }
put_takes (is.Get a) (frame.Property p) t =
    let f : Frame = frame.Property (record { line = p.line; modifiers = p.modifiers; header = p.header; get = Some a; set = p.set }) in
    record { frame = f; is = ap (λ (b : Bool). if b then Some f else None) t; kind = refl }
put_takes (is.Set a) (frame.Property p) t =
    let f : Frame = frame.Property (record { line = p.line; modifiers = p.modifiers; header = p.header; get = p.get; set = Some a }) in
    record { frame = f; is = ap (λ (b : Bool). if b then Some f else None) t; kind = refl }
put_takes (is.Event k a) (frame.Event e) t =
    let f : Frame = frame.Event (with_accessor e k a) in record { frame = f; is = ap (λ (b : Bool). if b then Some f else None) t; kind = refl }
put_takes (is.Type y) (frame.File p) t = record { frame = frame.File (record { options = p.options; imports = p.imports; types = p.types ++ y ∷ [] }); is = refl; kind = refl }
put_takes w g t = absurd cc

accessor_no_line : (h : AccessorHeader) → scope_kind (scope.Accessor h) ≡ a_line → ⊥
accessor_no_line (accessor_header.Get l a) e = cc
accessor_no_line (accessor_header.Set l a ps) e = cc
accessor_no_line (accessor_header.Event l k ps) e = cc

no_line_kind : (sc : Scope) → is_line sc ≡ false → scope_kind sc ≡ a_line → ⊥
no_line_kind (scope.Line c) l e = cc
no_line_kind (scope.Accessor h) l e = accessor_no_line h e
no_line_kind sc l e = cc

not_true : (b : Bool) → not b ≡ true → b ≡ false
not_true true e = cc
not_true false e = refl

takes_no_line : (w : Whole) (g : Frame) → takes g (whole_kind w) ≡ true → kind_of g ≡ a_line → ⊥
takes_no_line (is.Statement s) (frame.Body sc ss) t k = no_line_kind sc (not_true (is_line sc) t) k
takes_no_line w (frame.Select l v) t k = cc
takes_no_line w (frame.Property p) t k = cc
takes_no_line w (frame.Event e) t k = cc
takes_no_line w (frame.Members h ms) t k = cc
takes_no_line w (frame.Interface p) t k = cc
takes_no_line w (frame.File p) t k = cc
takes_no_line w (frame.Body sc ss) t k = cc

takes_no_file : (g : Frame) → takes g a_file ≡ true → ⊥
takes_no_file (frame.Body sc ss) t = cc
takes_no_file g t = cc

file_goes : (f : Frame) (rows : List Row) → kind_of f ≡ a_file → Stands f rows → CanGoOn rows
file_goes f rows k (stands_file {os = os} {is = is_} {ts = ts} {options = o} {imports = m} {types = u} a b c) =
    let t : SourceFile = record { file = 0; options = os; imports = is_; types = ts } in
    ([], t, subst (λ (r : List Row). IsTree 0 r t) (sym (append-nil (o ++ (m ++ u)))) (tree.file a b c))
file_goes f rows k (stands_body {sc = sc} l fr d) = absurd (scope_no_file sc k)
file_goes f rows k (stands_line fr d) = absurd cc
file_goes f rows k stands_select = absurd cc
file_goes f rows k (stands_property free i j) = absurd cc
file_goes f rows k (stands_event i) = absurd cc
file_goes f rows k (stands_members fr d) = absurd cc
file_goes f rows k (stands_interface i d) = absurd cc

go_whole : (fs : List Frame) (f : Frame) (rows : List Row) → Holds f fs rows → (kind_of f ≡ a_line → ⊥) → CanGoOn rows
go_whole [] f rows (bottom k s) no_line = file_goes f rows k s
go_whole (g ∷ gs) f rows (inside {rows = a} {others = b} h t s) no_line =
    let c = frame_closes f b s (λ k. takes_no_file g (sym (ap (λ (v : Kind). takes g v) k) ∙ t)) no_line in
    let u : takes g (whole_kind c.whole) ≡ true = ap (λ (v : Kind). takes g v) c.kind ∙ t in
    let p = put_takes c.whole g u in
    fewer (a ++ b) c.rows (grouped CanGoOn a b c.rows
    (go_whole gs p.frame (a ++ (b ++ c.rows)) (put_holds c.whole g p.frame gs a (b ++ c.rows) h c.is u p.is) (λ k. takes_no_line c.whole g u (sym p.kind ∙ k))))

go_line : (fs : List Frame) (sc : Scope) (ss : List Statement) (rows : List Row) → Holds (frame.Body sc ss) fs rows → (r : List Row) (s : Statement) → IsSimple joint.End r s → CanGoOn (rows ++ r)
go_line fs sc ss rows (bottom k s') r s i = absurd (scope_no_file sc k)
go_line (g ∷ gs) sc ss rows (inside h t (stands_body l fr d)) r s i =
    go_whole (g ∷ gs) (frame.Body sc (ss ++ s ∷ [])) (rows ++ r)
    (put_holds (is.Statement s) (frame.Body sc ss) (frame.Body sc (ss ++ s ∷ [])) (g ∷ gs) rows r (inside h t (stands_body l fr d)) (tree.simple i) (ap not l) refl) (no_line_kind sc l)
go_line (frame.Body s' before ∷ gs) sc ss rows (inside {rows = a} {others = b} h t (stands_line {c = c} fr d)) r s i =
    grouped CanGoOn a b r (go_line gs s' before a h (b ++ r) (line_whole c (ss ++ s ∷ [])) (line_ended fr d i))
go_line (g ∷ gs) sc ss rows (inside h t (stands_line fr d)) r s i = absurd cc

pub goes_on : (f : Frame) (fs : List Frame) (rows : List Row) → Holds f fs rows → CanGoOn rows
goes_on (frame.Body (scope.Line c) ss) fs rows h =
    fewer rows (whole 0 (item.Exit exit.Sub) ∷ []) (go_line fs (scope.Line c) ss rows h (whole 0 (item.Exit exit.Sub) ∷ []) (statement 0 (form.Exit exit.Sub)) (tree.alone refl))
goes_on (frame.Body (scope.Accessor a) ss) fs rows h = go_whole fs (frame.Body (scope.Accessor a) ss) rows h (accessor_no_line a)
goes_on f fs rows h = go_whole fs f rows h (λ k. cc)
