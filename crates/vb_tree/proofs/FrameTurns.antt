-- The same of each frame.
use Rattle.std.proofs.Common.{◌≡◌, ℕ, Bool, true, false, List, [], ◌∷◌, ◌++◌, Option, Some, None, refl, ap, sym, ◌∙◌, append_assoc, append-nil, subst, if◌then◌else◌}
use Rattle.std.specs.Prelude.{not}
use Rattle.vb_text.specs.declared.names.Name.{Name}
use Rattle.vb_syntax.specs.{declared.{types.{TypeName.TypeName, TypeParameter.TypeParameter}, expression.Expr.Expr, statement.{StatementForm.StatementForm, Statement.Statement}, declaration.{Access.Access, Modifier.Modifier, Member.Member, GetAccessor.GetAccessor, SetAccessor.SetAccessor, EventAccessor.EventAccessor, ClassModifier.ClassModifier, ClassBase.ClassBase, InterfaceList.InterfaceList}, item.{PropertyHeader.PropertyHeader, Item.Item, Row.Row}}, Items.must_override}
use Rattle.vb_syntax.specs.declared.declaration.TypeForm.TheVariants as type_form
use Rattle.vb_syntax.specs.declared.item.EventAccessorKind.TheVariants as accessor
use Rattle.vb_syntax.specs.declared.item.DeclarationLine.TheVariants as header
use Rattle.vb_syntax.specs.declared.item.BlockWord.TheVariants as word
use Rattle.vb_syntax.specs.declared.item.Item.TheVariants as item
use Rattle.vb_blocks.specs.declared.{scope.{Scope.Scope, AccessorHeader.AccessorHeader}, frame.{Frame.Frame, TypeHeader.TypeHeader, Turn.Turn}}
use Rattle.vb_blocks.specs.declared.scope.Scope.TheVariants as scope
use Rattle.vb_blocks.specs.declared.scope.IfClause.TheVariants as if_clause
use Rattle.vb_blocks.specs.declared.scope.TryClause.TheVariants as try_clause
use Rattle.vb_blocks.specs.declared.scope.AccessorHeader.TheVariants as accessor_header
use Rattle.vb_blocks.specs.declared.frame.Frame.TheVariants as frame
use Rattle.vb_blocks.specs.declared.frame.TypeHeader.TheVariants as type_header
use Rattle.vb_blocks.specs.declared.frame.Whole.TheVariants as is
use Rattle.vb_blocks.specs.declared.frame.Turn.TheVariants as turn
use Rattle.vb_blocks.specs.Trees as tree
use Rattle.vb_blocks.specs.Trees.{
  row,
  whole,
  statement,
  member_of,
  simple_form,
  enclosed,
  else_if,
  case,
  catch,
  last_clause,
  bare_member,
  procedure,
  IsSimple,
  AreSimple,
  IsStatement,
  AreStatements,
  AreElseIfs,
  AreCases,
  AreCatches,
  IsLastClause,
  IsGet,
  IsSet,
  IsEventAccessor,
  AreEventAccessors,
  IsMember,
  AreMembers,
  IsBase,
  AreInterfaceLists,
  AreInterfaceMembers,
  IsType,
  AreTypes,
  AreOptions,
  AreImports,
}
use Rattle.vb_blocks.specs.Steps.{body, is_line, opened, takes_get, takes_set, takes_accessor, select_next, member_opened, scope_turn, accessor_turn, enclosed_whole, procedure_whole, opened_or_turned, body_turn, property_turn, custom_event, event_turn, members_turn, member_or_header, header_turn, class_of, class_inherits, class_implements, property_of}
use Rattle.vb_tree.proofs.{MemberRows.{parts, event_parts}, FileRows.class_parts, Standing.{Kind, a_statement, a_member, kind_of, takes, IsFront, front_enclosed, front_if, front_try, front_procedure, front_get, front_set, front_event, IsTypeFront, front_module, front_class, Stands, stands_body, stands_select, stands_event, stands_members, Turned}, Ends.{grouped, one_member, one_list}, Turning.{if_turns, select_turns, select_next_turns, try_turns}}
use Rattle.vb_syntax.specs.declared.declaration.MemberForm.{MemberForm}
use Rattle.vb_syntax.specs.declared.declaration.MemberForm.TheVariants as member

-- BODIES

if_some : {A : Type 0} (b : Bool) (x y : A) → (if b then Some x else None) ≡ Some y → (b ≡ true) × (x ≡ y)
if_some true x y e = (refl, cc)
if_some false x y e = absurd cc

pub opened_stands : (line : ℕ) (x : Item) (f : Frame) → opened line x ≡ Some f → Stands f (whole line x ∷ []) × (kind_of f ≡ a_statement)
opened_stands line (item.If t) f e =
    let P : Frame → Type 0 = λ g. Stands g (whole line (item.If t) ∷ []) × (kind_of g ≡ a_statement) in
    let g : body (scope.If (if_clause.If line t)) ≡ f = cc in subst P g (stands_body refl front_if tree.no_statements, refl)
opened_stands line item.Try f e =
    let P : Frame → Type 0 = λ g. Stands g (whole line item.Try ∷ []) × (kind_of g ≡ a_statement) in
    let g : body (scope.Try (try_clause.Try line)) ≡ f = cc in subst P g (stands_body refl front_try tree.no_statements, refl)
opened_stands line (item.Select v) f e =
    let P : Frame → Type 0 = λ g. Stands g (whole line (item.Select v) ∷ []) × (kind_of g ≡ a_statement) in
    let g : frame.Select line v ≡ f = cc in subst P g (stands_select, refl)
opened_stands line (item.While a) f e =
    let P : Frame → Type 0 = λ g. Stands g (whole line (item.While a) ∷ []) × (kind_of g ≡ a_statement) in
    let g : body (scope.Enclosed line (item.While a)) ≡ f = cc in subst P g (stands_body refl (front_enclosed refl) tree.no_statements, refl)
opened_stands line (item.Do a) f e =
    let P : Frame → Type 0 = λ g. Stands g (whole line (item.Do a) ∷ []) × (kind_of g ≡ a_statement) in
    let g : body (scope.Enclosed line (item.Do a)) ≡ f = cc in subst P g (stands_body refl (front_enclosed refl) tree.no_statements, refl)
opened_stands line (item.For a b c d) f e =
    let P : Frame → Type 0 = λ g. Stands g (whole line (item.For a b c d) ∷ []) × (kind_of g ≡ a_statement) in
    let g : body (scope.Enclosed line (item.For a b c d)) ≡ f = cc in subst P g (stands_body refl (front_enclosed refl) tree.no_statements, refl)
opened_stands line (item.ForEach a b) f e =
    let P : Frame → Type 0 = λ g. Stands g (whole line (item.ForEach a b) ∷ []) × (kind_of g ≡ a_statement) in
    let g : body (scope.Enclosed line (item.ForEach a b)) ≡ f = cc in subst P g (stands_body refl (front_enclosed refl) tree.no_statements, refl)
opened_stands line (item.SyncLock a) f e =
    let P : Frame → Type 0 = λ g. Stands g (whole line (item.SyncLock a) ∷ []) × (kind_of g ≡ a_statement) in
    let g : body (scope.Enclosed line (item.SyncLock a)) ≡ f = cc in subst P g (stands_body refl (front_enclosed refl) tree.no_statements, refl)
opened_stands line (item.With a) f e =
    let P : Frame → Type 0 = λ g. Stands g (whole line (item.With a) ∷ []) × (kind_of g ≡ a_statement) in
    let g : body (scope.Enclosed line (item.With a)) ≡ f = cc in subst P g (stands_body refl (front_enclosed refl) tree.no_statements, refl)
opened_stands line (item.Using a) f e =
    let P : Frame → Type 0 = λ g. Stands g (whole line (item.Using a) ∷ []) × (kind_of g ≡ a_statement) in
    let g : body (scope.Enclosed line (item.Using a)) ≡ f = cc in subst P g (stands_body refl (front_enclosed refl) tree.no_statements, refl)
opened_stands line x f e = absurd cc

enclosed_turns : (l : ℕ) (y : Item) (others : List Row) (ss : List Statement) → AreStatements others ss → (line : ℕ) (x : Item) (o : Option StatementForm) (t : Turn)
    → enclosed y ss line x ≡ o → enclosed_whole l o ≡ Some t → Turned (frame.Body (scope.Enclosed l y) ss) (whole l y ∷ others) (whole line x) t
enclosed_turns l y others ss d line x None t e w = absurd cc
enclosed_turns l y others ss d line x (Some f) t e w =
    let P : Turn → Type 0 = λ s. Turned (frame.Body (scope.Enclosed l y) ss) (whole l y ∷ others) (whole line x) s in
    let g : turn.Closes (is.Statement (statement l f)) ≡ t = cc in
    let s : IsStatement (whole l y ∷ (others ++ whole line x ∷ [])) (statement l f) = tree.block line x d e in
    subst P g (s, refl)

procedure_turns : (l : ℕ) (y : Item) (others : List Row) (ss : List Statement) → AreStatements others ss → (line : ℕ) (x : Item) (o : Option (List Modifier × MemberForm)) (t : Turn)
    → procedure y ss x ≡ o → procedure_whole l o ≡ Some t → Turned (frame.Body (scope.Procedure l y) ss) (whole l y ∷ others) (whole line x) t
procedure_turns l y others ss d line x None t e w = absurd cc
procedure_turns l y others ss d line x (Some m) t e w =
    let P : Turn → Type 0 = λ s. Turned (frame.Body (scope.Procedure l y) ss) (whole l y ∷ others) (whole line x) s in
    let g : turn.Closes (is.Member (member_of l m)) ≡ t = cc in
    let s : IsMember (whole l y ∷ (others ++ whole line x ∷ [])) (member_of l m) = tree.block line x d e in
    subst P g (s, refl)

accessor_turns : (h : AccessorHeader) (front others : List Row) (ss : List Statement) → IsFront (scope.Accessor h) front → AreStatements others ss → (line : ℕ) (x : Item) (t : Turn)
    → accessor_turn h ss x ≡ Some t → Turned (frame.Body (scope.Accessor h) ss) (front ++ others) (whole line x) t
accessor_turns h front others ss (front_get {line = l} {a = a}) d line (item.End word.Get) t e =
    let P : Turn → Type 0 = λ s. Turned (frame.Body (scope.Accessor h) ss) (front ++ others) (whole line (item.End word.Get)) s in
    let g : turn.Closes (is.Get (record { line = l; access = a; body = ss })) ≡ t = cc in subst P g (tree.some line d, refl)
accessor_turns h front others ss (front_set {line = l} {a = a} {ps = ps}) d line (item.End word.Set) t e =
    let P : Turn → Type 0 = λ s. Turned (frame.Body (scope.Accessor h) ss) (front ++ others) (whole line (item.End word.Set)) s in
    let g : turn.Closes (is.Set (record { line = l; access = a; parameters = ps; body = ss })) ≡ t = cc in subst P g (tree.some line d, refl)
accessor_turns h front others ss (front_event {line = l} {k = accessor.AddHandler} {ps = ps}) d line (item.End word.AddHandler) t e =
    let P : Turn → Type 0 = λ s. Turned (frame.Body (scope.Accessor h) ss) (front ++ others) (whole line (item.End word.AddHandler)) s in
    let g : turn.Closes (is.Event accessor.AddHandler (record { line = l; parameters = ps; body = ss })) ≡ t = cc in subst P g (tree.accessor_block line d, refl)
accessor_turns h front others ss (front_event {line = l} {k = accessor.RemoveHandler} {ps = ps}) d line (item.End word.RemoveHandler) t e =
    let P : Turn → Type 0 = λ s. Turned (frame.Body (scope.Accessor h) ss) (front ++ others) (whole line (item.End word.RemoveHandler)) s in
    let g : turn.Closes (is.Event accessor.RemoveHandler (record { line = l; parameters = ps; body = ss })) ≡ t = cc in subst P g (tree.accessor_block line d, refl)
accessor_turns h front others ss (front_event {line = l} {k = accessor.RaiseEvent} {ps = ps}) d line (item.End word.RaiseEvent) t e =
    let P : Turn → Type 0 = λ s. Turned (frame.Body (scope.Accessor h) ss) (front ++ others) (whole line (item.End word.RaiseEvent)) s in
    let g : turn.Closes (is.Event accessor.RaiseEvent (record { line = l; parameters = ps; body = ss })) ≡ t = cc in subst P g (tree.accessor_block line d, refl)
accessor_turns h front others ss (front_get) d line x t e = absurd cc
accessor_turns h front others ss (front_set) d line x t e = absurd cc
accessor_turns h front others ss (front_event {k = accessor.AddHandler}) d line x t e = absurd cc
accessor_turns h front others ss (front_event {k = accessor.RemoveHandler}) d line x t e = absurd cc
accessor_turns h front others ss (front_event {k = accessor.RaiseEvent}) d line x t e = absurd cc

scope_turns : (sc : Scope) (front others : List Row) (ss : List Statement) → IsFront sc front → AreStatements others ss → (line : ℕ) (x : Item) (t : Turn)
    → scope_turn sc ss line x ≡ Some t → Turned (frame.Body sc ss) (front ++ others) (whole line x) t
scope_turns (scope.Enclosed l y) front others ss (front_enclosed o) d line x t e = enclosed_turns l y others ss d line x (enclosed y ss line x) t refl e
scope_turns (scope.If c) front others ss fr d line x t e = if_turns (frame.Body (scope.If c) ss) refl c front others ss fr d line x t e
scope_turns (scope.Select c) front others ss fr d line x t e = select_turns (frame.Body (scope.Select c) ss) refl c front others ss fr d line x t e
scope_turns (scope.Try c) front others ss fr d line x t e = try_turns (frame.Body (scope.Try c) ss) refl c front others ss fr d line x t e
scope_turns (scope.Procedure l y) front others ss (front_procedure n o) d line x t e = procedure_turns l y others ss d line x (procedure y ss x) t refl e
scope_turns (scope.Accessor h) front others ss fr d line x t e = accessor_turns h front others ss fr d line x t e
scope_turns (scope.Line c) front others ss fr d line x t e = absurd cc

opened_turns : (sc : Scope) (front others : List Row) (ss : List Statement) → is_line sc ≡ false → IsFront sc front → AreStatements others ss → (line : ℕ) (x : Item) (o : Option Frame) (t : Turn)
    → opened line x ≡ o → opened_or_turned sc ss line x o ≡ Some t → Turned (frame.Body sc ss) (front ++ others) (whole line x) t
opened_turns sc front others ss l fr d line x None t was e = scope_turns sc front others ss fr d line x t e
opened_turns sc front others ss l fr d line x (Some h) t was e =
    let P : Turn → Type 0 = λ s. Turned (frame.Body sc ss) (front ++ others) (whole line x) s in
    let g : turn.Opens (frame.Body sc ss) h ≡ t = cc in
    let s = opened_stands line x h was in
    subst P g (refl, s.0, ap (λ (k : Kind). takes (frame.Body sc ss) k) s.1 ∙ ap not l)

pub body_turns : (sc : Scope) (front others : List Row) (ss : List Statement) → is_line sc ≡ false → IsFront sc front → AreStatements others ss → (line : ℕ) (x : Item) (t : Turn)
    → body_turn sc ss line x ≡ Some t → Turned (frame.Body sc ss) (front ++ others) (whole line x) t
body_turns sc front others ss l fr d line x t e =
    opened_turns sc front others ss l fr d line x (opened line x) t refl
    (sym (ap (λ (b : Bool). if b then None else opened_or_turned sc ss line x (opened line x)) l) ∙ e)

pub select_turns_first : (l : ℕ) (v : Expr) (line : ℕ) (x : Item) (t : Turn) → select_next (record { line = l; value = v; cases = [] }) line x ≡ Some t
    → Turned (frame.Select l v) (whole l (item.Select v) ∷ []) (whole line x) t
select_turns_first l v line x t e =
    select_next_turns (frame.Select l v) refl (record { line = l; value = v; cases = [] }) (whole l (item.Select v) ∷ []) (record { clauses = []; cases = tree.no_cases; are = refl }) line x t e

-- PROPERTIES AND EVENTS

pub property_turns : (l : ℕ) (ms : List Modifier) (h : PropertyHeader) (g : Option GetAccessor) (s : Option SetAccessor) (gets sets : List Row)
    → must_override ms ≡ false → IsGet gets g → IsSet sets s → (line : ℕ) (x : Item) (t : Turn) → property_turn (parts l ms h g s) line x ≡ Some t
    → Turned (frame.Property (parts l ms h g s)) (whole l (item.Declares (header.Property ms h)) ∷ (gets ++ sets)) (whole line x) t
property_turns l ms h g s gets sets free ig is_ line (item.Declares (header.Get a)) t e =
    let p = parts l ms h g s in
    let f : Frame = body (scope.Accessor (accessor_header.Get line a)) in
    let q = if_some (takes_get g s) (turn.Opens (frame.Property p) f) t e in
    let P : Turn → Type 0 = λ u. Turned (frame.Property p) (whole l (item.Declares (header.Property ms h)) ∷ (gets ++ sets)) (whole line (item.Declares (header.Get a))) u in
    subst P q.1 (refl, stands_body refl front_get tree.no_statements, q.0)
property_turns l ms h g s gets sets free ig is_ line (item.Declares (header.Set a ps)) t e =
    let p = parts l ms h g s in
    let f : Frame = body (scope.Accessor (accessor_header.Set line a ps)) in
    let q = if_some (takes_set s) (turn.Opens (frame.Property p) f) t e in
    let P : Turn → Type 0 = λ u. Turned (frame.Property p) (whole l (item.Declares (header.Property ms h)) ∷ (gets ++ sets)) (whole line (item.Declares (header.Set a ps))) u in
    subst P q.1 (refl, stands_body refl front_set tree.no_statements, q.0)
property_turns l ms h g s gets sets free ig is_ line (item.End word.Property) t e =
    let p = parts l ms h g s in
    let P : Turn → Type 0 = λ u. Turned (frame.Property p) (whole l (item.Declares (header.Property ms h)) ∷ (gets ++ sets)) (whole line (item.End word.Property)) u in
    let q : turn.Closes (is.Member (property_of p)) ≡ t = cc in
    subst P q (grouped (λ r. IsMember (whole l (item.Declares (header.Property ms h)) ∷ r) (property_of p)) gets sets (whole line (item.End word.Property) ∷ []) (tree.property line free ig is_), refl)
property_turns l ms h g s gets sets free ig is_ line x t e = absurd cc

pub event_turns : (l : ℕ) (ms : List Modifier) (n : Name) (d : TypeName) (a b c : Option EventAccessor) (rows : List Row) → AreEventAccessors rows a b c → (line : ℕ) (x : Item) (t : Turn)
    → event_turn (event_parts l ms n d a b c) line x ≡ Some t
    → Turned (frame.Event (event_parts l ms n d a b c)) (whole l (item.Declares (header.CustomEvent ms n d)) ∷ rows) (whole line x) t
event_turns l ms n d a b c rows i line (item.Declares (header.EventAccessor k ps)) t e =
    let p = event_parts l ms n d a b c in
    let f : Frame = body (scope.Accessor (accessor_header.Event line k ps)) in
    let q = if_some (takes_accessor k p) (turn.Opens (frame.Event p) f) t e in
    let P : Turn → Type 0 = λ u. Turned (frame.Event p) (whole l (item.Declares (header.CustomEvent ms n d)) ∷ rows) (whole line (item.Declares (header.EventAccessor k ps))) u in
    subst P q.1 (refl, stands_body refl front_event tree.no_statements, q.0)
event_turns l ms n d a b c rows i line (item.End word.Event) t e =
    let p = event_parts l ms n d a b c in
    let P : Turn → Type 0 = λ u. Turned (frame.Event p) (whole l (item.Declares (header.CustomEvent ms n d)) ∷ rows) (whole line (item.End word.Event)) u in
    let q : turn.Closes (is.Member (custom_event p)) ≡ t = cc in subst P q (tree.custom_event line i, refl)
event_turns l ms n d a b c rows i line x t e = absurd cc

-- MEMBERS

pub member_opened_stands : (line : ℕ) (x : Item) (f : Frame) → bare_member x ≡ None → member_opened line x ≡ Some f → Stands f (whole line x ∷ []) × (kind_of f ≡ a_member)
member_opened_stands line (item.Declares (header.Sub ms s is)) f n e =
    let P : Frame → Type 0 = λ g. Stands g (whole line (item.Declares (header.Sub ms s is)) ∷ []) × (kind_of g ≡ a_member) in
    let g : body (scope.Procedure line (item.Declares (header.Sub ms s is))) ≡ f = cc in subst P g (stands_body refl (front_procedure n refl) tree.no_statements, refl)
member_opened_stands line (item.Declares (header.Constructor ms s is)) f n e =
    let P : Frame → Type 0 = λ g. Stands g (whole line (item.Declares (header.Constructor ms s is)) ∷ []) × (kind_of g ≡ a_member) in
    let g : body (scope.Procedure line (item.Declares (header.Constructor ms s is))) ≡ f = cc in subst P g (stands_body refl (front_procedure n refl) tree.no_statements, refl)
member_opened_stands line (item.Declares (header.Function ms k s u is)) f n e =
    let P : Frame → Type 0 = λ g. Stands g (whole line (item.Declares (header.Function ms k s u is)) ∷ []) × (kind_of g ≡ a_member) in
    let g : body (scope.Procedure line (item.Declares (header.Function ms k s u is))) ≡ f = cc in subst P g (stands_body refl (front_procedure n refl) tree.no_statements, refl)
member_opened_stands line (item.Declares (header.CustomEvent ms m d)) f n e =
    let P : Frame → Type 0 = λ g. Stands g (whole line (item.Declares (header.CustomEvent ms m d)) ∷ []) × (kind_of g ≡ a_member) in
    let g : frame.Event (event_parts line ms m d None None None) ≡ f = cc in subst P g (stands_event tree.nothing, refl)
member_opened_stands line x f n e = absurd cc

class_inherits_turns : (l : ℕ) (a : Option Access) (c : Option ClassModifier) (n : Name) (ps : List TypeParameter) (b : Option ClassBase) (ls : List InterfaceList) (ms : List Member)
    (bases lists rows : List Row) → IsBase bases b → AreInterfaceLists header.Implements lists ls → AreMembers rows ms → (line : ℕ) (ts : List TypeName) (t : Turn)
    → class_inherits (class_parts l a c n ps b ls) ms line ts ≡ Some t
    → Turned (frame.Members (type_header.Class (class_parts l a c n ps b ls)) ms) ((whole l (item.Declares (header.Class a c n ps)) ∷ (bases ++ lists)) ++ rows) (whole line (item.Declares (header.Inherits ts))) t
class_inherits_turns l a c n ps None [] [] bases lists rows tree.none tree.nothing tree.nothing line (u ∷ []) t e =
    let P : Turn → Type 0 = λ s. Turned (frame.Members (type_header.Class (class_parts l a c n ps None [])) []) (whole l (item.Declares (header.Class a c n ps)) ∷ []) (whole line (item.Declares (header.Inherits (u ∷ [])))) s in
    let g : turn.Goes (frame.Members (type_header.Class (class_parts l a c n ps (Some (record { line = line; base = u })) [])) []) ≡ t = cc in
    subst P g (stands_members (front_class tree.some tree.nothing) tree.nothing, refl)
class_inherits_turns l a c n ps None [] [] bases lists rows i j d line [] t e = absurd cc
class_inherits_turns l a c n ps None [] [] bases lists rows i j d line (u ∷ v ∷ ts) t e = absurd cc
class_inherits_turns l a c n ps (Some b) ls ms bases lists rows i j d line ts t e = absurd cc
class_inherits_turns l a c n ps None (k ∷ ls) ms bases lists rows i j d line ts t e = absurd cc
class_inherits_turns l a c n ps None [] (m ∷ ms) bases lists rows i j d line ts t e = absurd cc

class_implements_turns : (l : ℕ) (a : Option Access) (c : Option ClassModifier) (n : Name) (ps : List TypeParameter) (b : Option ClassBase) (ls : List InterfaceList) (ms : List Member)
    (bases lists rows : List Row) → IsBase bases b → AreInterfaceLists header.Implements lists ls → AreMembers rows ms → (line : ℕ) (ts : List TypeName) (t : Turn)
    → class_implements (class_parts l a c n ps b ls) line ts ms ≡ Some t
    → Turned (frame.Members (type_header.Class (class_parts l a c n ps b ls)) ms) ((whole l (item.Declares (header.Class a c n ps)) ∷ (bases ++ lists)) ++ rows) (whole line (item.Declares (header.Implements ts))) t
class_implements_turns l a c n ps b ls [] bases lists rows i j tree.nothing line ts t e =
    let r : Row = whole line (item.Declares (header.Implements ts)) in
    let P : Turn → Type 0 = λ s. Turned (frame.Members (type_header.Class (class_parts l a c n ps b ls)) []) ((whole l (item.Declares (header.Class a c n ps)) ∷ (bases ++ lists)) ++ []) r s in
    let f : Frame = frame.Members (type_header.Class (class_parts l a c n ps b (ls ++ record { line = line; interfaces = ts } ∷ []))) [] in
    let g : turn.Goes f ≡ t = cc in
    let s : Stands f ((whole l (item.Declares (header.Class a c n ps)) ∷ (bases ++ (lists ++ r ∷ []))) ++ []) = stands_members (front_class i (one_list j line ts)) tree.nothing in
    let same : (whole l (item.Declares (header.Class a c n ps)) ∷ (bases ++ (lists ++ r ∷ []))) ++ [] ≡ ((whole l (item.Declares (header.Class a c n ps)) ∷ (bases ++ lists)) ++ []) ++ r ∷ [] = simp (append_assoc, append-nil) in
    subst P g (subst (λ (rs : List Row). Stands f rs) same s, refl)
class_implements_turns l a c n ps b ls (m ∷ ms) bases lists rows i j d line ts t e = absurd cc

header_turns : (h : TypeHeader) (ms : List Member) (front rows : List Row) → IsTypeFront h front → AreMembers rows ms → (line : ℕ) (x : Item) (t : Turn)
    → header_turn h ms line x ≡ Some t → Turned (frame.Members h ms) (front ++ rows) (whole line x) t
header_turns h ms front rows (front_module {line = l} {a = a} {n = n}) d line (item.End word.Module) t e =
    let P : Turn → Type 0 = λ s. Turned (frame.Members h ms) (front ++ rows) (whole line (item.End word.Module)) s in
    let g : turn.Closes (is.Type (record { line = l; access = a; name = n; form = type_form.Module ms })) ≡ t = cc in
    subst P g (tree.module_block line d, refl)
header_turns h ms front rows front_module d line x t e = absurd cc
header_turns h ms front rows (front_class {line = l} {a = a} {c = c} {n = n} {ps = ps} {b = b} {ls = ls} {bases = bases} {lists = lists} i j) d line (item.End word.Class) t e =
    let P : Turn → Type 0 = λ s. Turned (frame.Members h ms) (front ++ rows) (whole line (item.End word.Class)) s in
    let g : turn.Closes (is.Type (class_of (class_parts l a c n ps b ls) ms)) ≡ t = cc in
    let same : whole l (item.Declares (header.Class a c n ps)) ∷ (bases ++ (lists ++ (rows ++ whole line (item.End word.Class) ∷ [])))
    ≡ ((whole l (item.Declares (header.Class a c n ps)) ∷ (bases ++ lists)) ++ rows) ++ whole line (item.End word.Class) ∷ [] = simp append_assoc in
    subst P g (subst (λ (rs : List Row). IsType rs (class_of (class_parts l a c n ps b ls) ms)) same (tree.class line i j d), refl)
header_turns h ms front rows (front_class {line = l} {a = a} {c = c} {n = n} {ps = ps} {b = b} {ls = ls} {bases = bases} {lists = lists} i j) d line (item.Declares (header.Inherits ts)) t e =
    class_inherits_turns l a c n ps b ls ms bases lists rows i j d line ts t e
header_turns h ms front rows (front_class {line = l} {a = a} {c = c} {n = n} {ps = ps} {b = b} {ls = ls} {bases = bases} {lists = lists} i j) d line (item.Declares (header.Implements ts)) t e =
    class_implements_turns l a c n ps b ls ms bases lists rows i j d line ts t e
header_turns h ms front rows (front_class i j) d line x t e = absurd cc

member_at_turns : (h : TypeHeader) (ms : List Member) (front rows : List Row) → IsTypeFront h front → AreMembers rows ms → (line : ℕ) (x : Item)
    (m : Option (List Modifier × MemberForm)) (o : Option Frame) (t : Turn) → bare_member x ≡ m → member_opened line x ≡ o → member_or_header h ms line x m o ≡ Some t
    → Turned (frame.Members h ms) (front ++ rows) (whole line x) t
member_at_turns h ms front rows i d line x (Some m) o t b was e =
    let P : Turn → Type 0 = λ s. Turned (frame.Members h ms) (front ++ rows) (whole line x) s in
    let f : Frame = frame.Members h (ms ++ member_of line m ∷ []) in
    let g : turn.Goes f ≡ t = cc in
    subst P g (grouped (λ r. Stands f r) front rows (whole line x ∷ []) (stands_members i (one_member d (tree.bare b))), refl)
member_at_turns h ms front rows i d line x None (Some f) t b was e =
    let P : Turn → Type 0 = λ s. Turned (frame.Members h ms) (front ++ rows) (whole line x) s in
    let g : turn.Opens (frame.Members h ms) f ≡ t = cc in
    let s = member_opened_stands line x f b was in
    subst P g (refl, s.0, ap (λ (k : Kind). takes (frame.Members h ms) k) s.1)
member_at_turns h ms front rows i d line x None None t b was e = header_turns h ms front rows i d line x t e

pub members_turns : (h : TypeHeader) (ms : List Member) (front rows : List Row) → IsTypeFront h front → AreMembers rows ms → (line : ℕ) (x : Item) (t : Turn)
    → members_turn h ms line x ≡ Some t → Turned (frame.Members h ms) (front ++ rows) (whole line x) t
members_turns h ms front rows i d line x t e = member_at_turns h ms front rows i d line x (bare_member x) (member_opened line x) t refl refl e
