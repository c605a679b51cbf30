-- How the rows of a file become its tree: private steps on lists, which the code equals. The innermost frame stands first.
use Rattle.std.specs.Prelude.{◌≡◌, ℕ, Bool, true, false, not, ◌&&◌, if◌then◌else◌, List, [], ◌∷◌, ◌++◌, Option, Some, None, Result, Ok, Err}
use Rattle.vb_text.specs.declared.names.Name.{Name}
use Rattle.vb_syntax.specs.{declared.{types.TypeName.TypeName, expression.Expr.Expr, statement.{CaseItem.CaseItem, CatchClause.CatchClause, StatementForm.StatementForm, Statement.Statement, LoopCondition.LoopCondition, LoopTest.LoopTest, NextClause.NextClause, BlockClause.BlockClause}, declaration.{ImplementedMember.ImplementedMember, PropertyAccessors.PropertyAccessors, Modifier.Modifier, MemberForm.MemberForm, GetAccessor.GetAccessor, SetAccessor.SetAccessor, EventAccessor.EventAccessor, Member.Member, InterfaceHeader.InterfaceHeader, InterfaceMember.InterfaceMember, InterfaceList.InterfaceList, ClassBase.ClassBase, TypeDeclaration.TypeDeclaration, SourceFile.SourceFile}, item.{EventAccessorKind.EventAccessorKind, DeclarationLine.DeclarationLine, BlockWord.BlockWord, Joint.Joint, Item.Item, Row.Row}}, Items.must_override}
use Rattle.vb_syntax.specs.declared.statement.StatementForm.TheVariants as form
use Rattle.vb_syntax.specs.declared.statement.LoopTest.TheVariants as loop
use Rattle.vb_syntax.specs.declared.declaration.MemberForm.TheVariants as member
use Rattle.vb_syntax.specs.declared.declaration.TypeForm.TheVariants as type_form
use Rattle.vb_syntax.specs.declared.item.EventAccessorKind.TheVariants as accessor
use Rattle.vb_syntax.specs.declared.item.DeclarationLine.TheVariants as header
use Rattle.vb_syntax.specs.declared.item.BlockWord.TheVariants as word
use Rattle.vb_syntax.specs.declared.item.Joint.TheVariants as joint
use Rattle.vb_syntax.specs.declared.item.Item.TheVariants as item
use Rattle.vb_ends.specs.Roles.{goes_on_property}
use Rattle.vb_blocks.specs.{declared.{fault.Fault.{Fault, TheVariants.{Memory, Grammar}}, scope.{Scope.Scope, IfParts.IfParts, IfClause.IfClause, SelectParts.SelectParts, SelectClause.SelectClause, TryParts.TryParts, TryClause.TryClause, AccessorHeader.AccessorHeader, LineClause.LineClause}, frame.{Frame.Frame, PropertyParts.PropertyParts, EventParts.EventParts, TypeHeader.TypeHeader, ClassParts.ClassParts, InterfaceParts.InterfaceParts, FileParts.FileParts, Whole.Whole, Turn.Turn}}, Trees.{statement, member_of, else_if, case, catch, last_clause, simple_form, enclosed, bare_member, procedure, accessor_word, interface_member}, Words.is_word}
use Rattle.vb_blocks.specs.declared.scope.Scope.TheVariants as scope
use Rattle.vb_blocks.specs.declared.scope.IfClause.TheVariants as if_clause
use Rattle.vb_blocks.specs.declared.scope.SelectClause.TheVariants as select_clause
use Rattle.vb_blocks.specs.declared.scope.TryClause.TheVariants as try_clause
use Rattle.vb_blocks.specs.declared.scope.AccessorHeader.TheVariants as accessor_header
use Rattle.vb_blocks.specs.declared.scope.LineClause.TheVariants as line_clause
use Rattle.vb_blocks.specs.declared.frame.Frame.TheVariants as frame
use Rattle.vb_blocks.specs.declared.frame.TypeHeader.TheVariants as type_header
use Rattle.vb_blocks.specs.declared.frame.Whole.TheVariants as is
use Rattle.vb_blocks.specs.declared.frame.Turn.TheVariants as turn

-- the innermost frame, and those round it
abbrev pub State : Type 0
State = Frame × List Frame

-- what a function of the code returned, unless memory ran out
abbrev pub Fails : {B : Type 0} → Fault → Option B → Type 0
Fails Memory o = Unit {0}
Fails Grammar o = o ≡ None

abbrev pub Gives : {X B : Type 0} → (X → B) → Result X Fault → Option B → Type 0
Gives view (Ok x) o = o ≡ Some (view x)
Gives view (Err f) o = Fails f o

abbrev pub body : Scope → Frame
body s = frame.Body s []

-- the word behind `End`
abbrev pub word_of : Item → Option BlockWord
word_of (item.End w) = Some w
word_of x = None

-- THE CLAUSES OF STATEMENTS

abbrev pub if_end : IfParts → Option BlockClause → Option BlockWord → Option Turn
if_end p otherwise (Some word.If) = Some (turn.Closes (is.Statement (statement p.line (form.If p.test p.body p.else_ifs otherwise))))
if_end p otherwise w = None

abbrev pub if_next : IfParts → ℕ → Item → Option Turn
if_next p line (item.ElseIf t) = Some (turn.Goes (body (scope.If (if_clause.ElseIf p line t))))
if_next p line item.Else = Some (turn.Goes (body (scope.If (if_clause.Else p line))))
if_next p line x = if_end p None (word_of x)

abbrev pub if_turn : IfClause → List Statement → ℕ → Item → Option Turn
if_turn (if_clause.If l t) ss line x = if_next (record { line = l; test = t; body = ss; else_ifs = [] }) line x
if_turn (if_clause.ElseIf p l t) ss line x = if_next (record { line = p.line; test = p.test; body = p.body; else_ifs = p.else_ifs ++ else_if l t ss ∷ [] }) line x
if_turn (if_clause.Else p l) ss line x = if_end p (Some (last_clause l ss)) (word_of x)

abbrev pub select_end : SelectParts → Option BlockClause → Option BlockWord → Option Turn
select_end p otherwise (Some word.Select) = Some (turn.Closes (is.Statement (statement p.line (form.Select p.value p.cases otherwise))))
select_end p otherwise w = None

abbrev pub select_next : SelectParts → ℕ → Item → Option Turn
select_next p line (item.Case cs) = Some (turn.Goes (body (scope.Select (select_clause.Case p line cs))))
select_next p line item.CaseElse = Some (turn.Goes (body (scope.Select (select_clause.Else p line))))
select_next p line x = select_end p None (word_of x)

abbrev pub select_turn : SelectClause → List Statement → ℕ → Item → Option Turn
select_turn (select_clause.Case p l cs) ss line x = select_next (record { line = p.line; value = p.value; cases = p.cases ++ case l cs ss ∷ [] }) line x
select_turn (select_clause.Else p l) ss line x = select_end p (Some (last_clause l ss)) (word_of x)

abbrev pub try_end : TryParts → Option BlockClause → Option BlockWord → Option Turn
try_end p finally (Some word.Try) = Some (turn.Closes (is.Statement (statement p.line (form.Try p.body p.catches finally))))
try_end p finally w = None

abbrev pub try_next : TryParts → ℕ → Item → Option Turn
try_next p line (item.Catch v c) = Some (turn.Goes (body (scope.Try (try_clause.Catch p line v c))))
try_next p line item.Finally = Some (turn.Goes (body (scope.Try (try_clause.Finally p line))))
try_next p line x = try_end p None (word_of x)

abbrev pub try_turn : TryClause → List Statement → ℕ → Item → Option Turn
try_turn (try_clause.Try l) ss line x = try_next (record { line = l; body = ss; catches = [] }) line x
try_turn (try_clause.Catch p l v c) ss line x = try_next (record { line = p.line; body = p.body; catches = p.catches ++ catch l v c ss ∷ [] }) line x
try_turn (try_clause.Finally p l) ss line x = try_end p (Some (last_clause l ss)) (word_of x)

-- STATEMENTS

-- the frame that a statement with blocks begins
abbrev pub opened : ℕ → Item → Option Frame
opened line (item.If t) = Some (body (scope.If (if_clause.If line t)))
opened line item.Try = Some (body (scope.Try (try_clause.Try line)))
opened line (item.Select x) = Some (frame.Select line x)
opened line (item.While x) = Some (body (scope.Enclosed line (item.While x)))
opened line (item.Do c) = Some (body (scope.Enclosed line (item.Do c)))
opened line (item.For v a b c) = Some (body (scope.Enclosed line (item.For v a b c)))
opened line (item.ForEach v x) = Some (body (scope.Enclosed line (item.ForEach v x)))
opened line (item.SyncLock x) = Some (body (scope.Enclosed line (item.SyncLock x)))
opened line (item.With x) = Some (body (scope.Enclosed line (item.With x)))
opened line (item.Using r) = Some (body (scope.Enclosed line (item.Using r)))
opened line x = None

-- where a `Do` is tested that has these tests behind `Do` and behind `Loop`, in this line
abbrev pub loop_test : Option LoopCondition → ℕ → Option LoopCondition → Option LoopTest
loop_test None line None = Some loop.Never
loop_test (Some c) line None = Some (loop.Top c)
loop_test None line (Some c) = Some (loop.Bottom line c)
loop_test (Some c) line (Some d) = None

abbrev pub next_clause : ℕ → Item → Option NextClause
next_clause line (item.Next n) = Some (record { line = line; variable = n })
next_clause line x = None

abbrev pub enclosed_whole : ℕ → Option StatementForm → Option Turn
enclosed_whole line None = None
enclosed_whole line (Some f) = Some (turn.Closes (is.Statement (statement line f)))

abbrev pub procedure_whole : ℕ → Option (List Modifier × MemberForm) → Option Turn
procedure_whole line None = None
procedure_whole line (Some m) = Some (turn.Closes (is.Member (member_of line m)))

abbrev pub event_accessor_end : EventAccessorKind → EventAccessor → Option BlockWord → Option Turn
event_accessor_end accessor.AddHandler a (Some word.AddHandler) = Some (turn.Closes (is.Event accessor.AddHandler a))
event_accessor_end accessor.RemoveHandler a (Some word.RemoveHandler) = Some (turn.Closes (is.Event accessor.RemoveHandler a))
event_accessor_end accessor.RaiseEvent a (Some word.RaiseEvent) = Some (turn.Closes (is.Event accessor.RaiseEvent a))
event_accessor_end k a w = None

abbrev pub accessor_turn : AccessorHeader → List Statement → Item → Option Turn
accessor_turn (accessor_header.Get l a) ss (item.End word.Get) = Some (turn.Closes (is.Get (record { line = l; access = a; body = ss })))
accessor_turn (accessor_header.Set l a ps) ss (item.End word.Set) = Some (turn.Closes (is.Set (record { line = l; access = a; parameters = ps; body = ss })))
accessor_turn (accessor_header.Event l k ps) ss x = event_accessor_end k (record { line = l; parameters = ps; body = ss }) (word_of x)
accessor_turn h ss x = None

abbrev pub scope_turn : Scope → List Statement → ℕ → Item → Option Turn
scope_turn (scope.Enclosed l y) ss line x = enclosed_whole l (enclosed y ss line x)
scope_turn (scope.If c) ss line x = if_turn c ss line x
scope_turn (scope.Select c) ss line x = select_turn c ss line x
scope_turn (scope.Try c) ss line x = try_turn c ss line x
scope_turn (scope.Procedure l y) ss line x = procedure_whole l (procedure y ss x)
scope_turn (scope.Accessor h) ss line x = accessor_turn h ss x
scope_turn (scope.Line c) ss line x = None

abbrev pub opened_or_turned : Scope → List Statement → ℕ → Item → Option Frame → Option Turn
opened_or_turned s ss line x (Some f) = Some (turn.Opens (frame.Body s ss) f)
opened_or_turned s ss line x None = scope_turn s ss line x

abbrev pub is_line : Scope → Bool
is_line (scope.Line c) = true
is_line s = false

abbrev pub body_turn : Scope → List Statement → ℕ → Item → Option Turn
body_turn s ss line x = if is_line s then None else opened_or_turned s ss line x (opened line x)

-- MEMBERS

abbrev pub takes_get : Option GetAccessor → Option SetAccessor → Bool
takes_get None None = true
takes_get g s = false

abbrev pub takes_set : Option SetAccessor → Bool
takes_set None = true
takes_set (Some s) = false

abbrev pub property_of : PropertyParts → Member
property_of p = member_of p.line (p.modifiers, member.Property p.header (Some (record { get = p.get; set = p.set })))

abbrev pub property_turn : PropertyParts → ℕ → Item → Option Turn
property_turn p line (item.Declares (header.Get a)) = if takes_get p.get p.set then Some (turn.Opens (frame.Property p) (body (scope.Accessor (accessor_header.Get line a)))) else None
property_turn p line (item.Declares (header.Set a ps)) = if takes_set p.set then Some (turn.Opens (frame.Property p) (body (scope.Accessor (accessor_header.Set line a ps)))) else None
property_turn p line (item.End word.Property) =
    Some (turn.Closes (is.Member (property_of p)))
property_turn p line x = None

abbrev pub is_missing : Option EventAccessor → Bool
is_missing None = true
is_missing (Some a) = false

abbrev pub takes_accessor : EventAccessorKind → EventParts → Bool
takes_accessor accessor.AddHandler e = is_missing e.add_handler
takes_accessor accessor.RemoveHandler e = is_missing e.remove_handler
takes_accessor accessor.RaiseEvent e = is_missing e.raise_event

abbrev pub custom_event : EventParts → Member
custom_event e = member_of e.line (e.modifiers, member.CustomEvent e.name e.delegate e.add_handler e.remove_handler e.raise_event)

abbrev pub event_turn : EventParts → ℕ → Item → Option Turn
event_turn e line (item.Declares (header.EventAccessor k ps)) = if takes_accessor k e then Some (turn.Opens (frame.Event e) (body (scope.Accessor (accessor_header.Event line k ps)))) else None
event_turn e line (item.End word.Event) = Some (turn.Closes (is.Member (custom_event e)))
event_turn e line x = None

-- the frame that a member with a block begins; one that must be overridden has none
abbrev pub member_opened : ℕ → Item → Option Frame
member_opened line (item.Declares (header.Sub ms s is)) = Some (body (scope.Procedure line (item.Declares (header.Sub ms s is))))
member_opened line (item.Declares (header.Constructor ms ps is)) = Some (body (scope.Procedure line (item.Declares (header.Constructor ms ps is))))
member_opened line (item.Declares (header.Function ms k s t is)) = Some (body (scope.Procedure line (item.Declares (header.Function ms k s t is))))
member_opened line (item.Declares (header.CustomEvent ms n t)) =
    Some (frame.Event (record { line = line; modifiers = ms; name = n; delegate = t; add_handler = None; remove_handler = None; raise_event = None }))
member_opened line x = None

-- TYPES

abbrev pub only : List TypeName → Option TypeName
only (t ∷ []) = Some t
only ts = None

-- the base of a class stands before anything else
abbrev pub before_all : Option ClassBase → List InterfaceList → List Member → Option TypeName → Option TypeName
before_all None [] [] t = t
before_all b ls ms t = None

abbrev pub class_based : ClassParts → ℕ → Option TypeName → Option Turn
class_based p line None = None
class_based p line (Some t) = Some (turn.Goes (frame.Members (type_header.Class (record {
  line = p.line;
  access = p.access;
  modifier = p.modifier;
  name = p.name;
  type_parameters = p.type_parameters;
  base = Some (record { line = line; base = t });
  implements = p.implements;
})) []))

abbrev pub class_implements : ClassParts → ℕ → List TypeName → List Member → Option Turn
class_implements p line ts [] = Some (turn.Goes (frame.Members (type_header.Class (record {
  line = p.line;
  access = p.access;
  modifier = p.modifier;
  name = p.name;
  type_parameters = p.type_parameters;
  base = p.base;
  implements = p.implements ++ record { line = line; interfaces = ts } ∷ [];
})) []))
class_implements p line ts (m ∷ ms) = None

abbrev pub class_inherits : ClassParts → List Member → ℕ → List TypeName → Option Turn
class_inherits p ms line ts = class_based p line (before_all p.base p.implements ms (only ts))

abbrev pub class_of : ClassParts → List Member → TypeDeclaration
class_of p ms = record { line = p.line; access = p.access; name = p.name; form = type_form.Class p.modifier p.type_parameters p.base p.implements ms }

abbrev pub class_turn : ClassParts → List Member → ℕ → Item → Option Turn
class_turn p ms line (item.End word.Class) = Some (turn.Closes (is.Type (class_of p ms)))
class_turn p ms line (item.Declares (header.Inherits ts)) = class_inherits p ms line ts
class_turn p ms line (item.Declares (header.Implements ts)) = class_implements p line ts ms
class_turn p ms line x = None

abbrev pub module_end : TypeDeclaration → Item → Option Turn
module_end t (item.End word.Module) = Some (turn.Closes (is.Type t))
module_end t x = None

abbrev pub header_turn : TypeHeader → List Member → ℕ → Item → Option Turn
header_turn (type_header.Module l a n) ms line x = module_end (record { line = l; access = a; name = n; form = type_form.Module ms }) x
header_turn (type_header.Class p) ms line x = class_turn p ms line x

abbrev pub member_or_header : TypeHeader → List Member → ℕ → Item → Option (List Modifier × MemberForm) → Option Frame → Option Turn
member_or_header h ms line x (Some m) f = Some (turn.Goes (frame.Members h (ms ++ member_of line m ∷ [])))
member_or_header h ms line x None (Some f) = Some (turn.Opens (frame.Members h ms) f)
member_or_header h ms line x None None = header_turn h ms line x

abbrev pub members_turn : TypeHeader → List Member → ℕ → Item → Option Turn
members_turn h ms line x = member_or_header h ms line x (bare_member x) (member_opened line x)

abbrev pub interface_inherits : InterfaceParts → ℕ → List TypeName → List InterfaceMember → Option Turn
interface_inherits p line ts [] = Some (turn.Goes (frame.Interface (record {
  line = p.line;
  access = p.access;
  name = p.name;
  type_parameters = p.type_parameters;
  inherits = p.inherits ++ record { line = line; interfaces = ts } ∷ [];
  members = [];
})))
interface_inherits p line ts (m ∷ ms) = None

abbrev pub interface_of : InterfaceParts → TypeDeclaration
interface_of p = record { line = p.line; access = p.access; name = p.name; form = type_form.Interface p.type_parameters p.inherits p.members }

abbrev pub interface_more : InterfaceParts → ℕ → Item → Option Turn
interface_more p line (item.Declares (header.Inherits ts)) = interface_inherits p line ts p.members
interface_more p line (item.End word.Interface) =
    Some (turn.Closes (is.Type (interface_of p)))
interface_more p line x = None

abbrev pub interface_at : InterfaceParts → ℕ → Item → Option InterfaceHeader → Option Turn
interface_at p line x (Some h) = Some (turn.Goes (frame.Interface (record {
  line = p.line;
  access = p.access;
  name = p.name;
  type_parameters = p.type_parameters;
  inherits = p.inherits;
  members = p.members ++ record { line = line; header = h } ∷ [];
})))
interface_at p line x None = interface_more p line x

abbrev pub interface_turn : InterfaceParts → ℕ → Item → Option Turn
interface_turn p line x = interface_at p line x (interface_member x)

-- FILES

abbrev pub is_empty : {A : Type 0} → List A → Bool
is_empty [] = true
is_empty (x ∷ xs) = false

abbrev pub file_declares : FileParts → ℕ → DeclarationLine → Option Turn
file_declares p line (header.Delegate a k n ps xs t) = Some (turn.Goes (frame.File (record {
  options = p.options;
  imports = p.imports;
  types = p.types ++ record { line = line; access = a; name = n; form = type_form.Delegate k ps xs t } ∷ [];
})))
file_declares p line (header.Module a n) = Some (turn.Opens (frame.File p) (frame.Members (type_header.Module line a n) []))
file_declares p line (header.Class a c n ps) = Some (turn.Opens (frame.File p)
    (frame.Members (type_header.Class (record { line = line; access = a; modifier = c; name = n; type_parameters = ps; base = None; implements = [] })) []))
file_declares p line (header.Interface a n ps) = Some (turn.Opens (frame.File p)
    (frame.Interface (record { line = line; access = a; name = n; type_parameters = ps; inherits = []; members = [] })))
file_declares p line d = None

abbrev pub file_turn : FileParts → ℕ → Item → Option Turn
file_turn p line (item.Option s) = if is_empty p.imports && is_empty p.types then Some (turn.Goes (frame.File (record {
  options = p.options ++ record { line = line; setting = s } ∷ [];
  imports = p.imports;
  types = p.types;
}))) else None
file_turn p line (item.Imports ns) = if is_empty p.types then Some (turn.Goes (frame.File (record {
  options = p.options;
  imports = p.imports ++ record { line = line; namespaces = ns } ∷ [];
  types = p.types;
}))) else None
file_turn p line (item.Declares d) = file_declares p line d
file_turn p line x = None

-- FRAMES

abbrev pub frame_turn : Frame → ℕ → Item → Option Turn
frame_turn (frame.Body s ss) line x = body_turn s ss line x
frame_turn (frame.Select l v) line x = select_next (record { line = l; value = v; cases = [] }) line x
frame_turn (frame.Property p) line x = property_turn p line x
frame_turn (frame.Event e) line x = event_turn e line x
frame_turn (frame.Members h ms) line x = members_turn h ms line x
frame_turn (frame.Interface p) line x = interface_turn p line x
frame_turn (frame.File p) line x = file_turn p line x

abbrev pub with_accessor : EventParts → EventAccessorKind → EventAccessor → EventParts
with_accessor e accessor.AddHandler a = record { line = e.line; modifiers = e.modifiers; name = e.name; delegate = e.delegate; add_handler = Some a; remove_handler = e.remove_handler; raise_event = e.raise_event }
with_accessor e accessor.RemoveHandler a = record { line = e.line; modifiers = e.modifiers; name = e.name; delegate = e.delegate; add_handler = e.add_handler; remove_handler = Some a; raise_event = e.raise_event }
with_accessor e accessor.RaiseEvent a = record { line = e.line; modifiers = e.modifiers; name = e.name; delegate = e.delegate; add_handler = e.add_handler; remove_handler = e.remove_handler; raise_event = Some a }

-- the frame with a part that stands in it
abbrev pub put : Whole → Frame → Option Frame
put (is.Statement s) (frame.Body sc ss) = Some (frame.Body sc (ss ++ s ∷ []))
put (is.Member m) (frame.Members h ms) = Some (frame.Members h (ms ++ m ∷ []))
put (is.Get g) (frame.Property p) = if takes_get p.get p.set then Some (frame.Property (record { line = p.line; modifiers = p.modifiers; header = p.header; get = Some g; set = p.set })) else None
put (is.Set s) (frame.Property p) = if takes_set p.set then Some (frame.Property (record { line = p.line; modifiers = p.modifiers; header = p.header; get = p.get; set = Some s })) else None
put (is.Event k a) (frame.Event e) = if takes_accessor k e then Some (frame.Event (with_accessor e k a)) else None
put (is.Type t) (frame.File p) = Some (frame.File (record { options = p.options; imports = p.imports; types = p.types ++ t ∷ [] }))
put w f = None

abbrev pub placed : Option Frame → List Frame → Option State
placed None below = None
placed (Some f) below = Some (f, below)

abbrev pub put_below : Whole → List Frame → Option State
put_below w [] = None
put_below w (f ∷ below) = placed (put w f) below

abbrev pub turned : Option Turn → List Frame → Option State
turned None below = None
turned (Some (turn.Goes f)) below = Some (f, below)
turned (Some (turn.Opens f g)) below = Some (g, f ∷ below)
turned (Some (turn.Closes w)) below = put_below w below

-- `IF` ON ONE LINE

abbrev pub line_whole : LineClause → List Statement → Statement
line_whole (line_clause.Then l t) ss = statement l (form.LineIf t ss None)
line_whole (line_clause.Else l t b) ss = statement l (form.LineIf t b (Some ss))

abbrev pub put_line : Statement → List Frame → Option (Scope × List Statement × List Frame)
put_line s (frame.Body sc ss ∷ below) = Some (sc, ss ++ s ∷ [], below)
put_line s below = None

-- behind the last statement of a line
abbrev pub line_ends : Scope → List Statement → List Frame → Option State
line_ends (scope.Line c) ss (frame.Body s before ∷ below) = line_ends s (before ++ line_whole c ss ∷ []) below
line_ends (scope.Line c) ss below = None
line_ends s ss below = Some (frame.Body s ss, below)

-- behind the statement before `Else`
abbrev pub else_begins : Scope → List Statement → List Frame → Option State
else_begins (scope.Line (line_clause.Then l t)) ss below = Some (body (scope.Line (line_clause.Else l t ss)), below)
else_begins (scope.Line (line_clause.Else l t b)) ss (frame.Body s before ∷ below) = else_begins s (before ++ line_whole (line_clause.Else l t b) ss ∷ []) below
else_begins s ss below = None

abbrev pub statement_ends : Joint → Scope → List Statement → List Frame → Option State
statement_ends joint.End s ss below = line_ends s ss below
statement_ends joint.Else s ss below = else_begins s ss below
statement_ends joint.Colon s ss below = if is_line s then Some (frame.Body s ss, below) else None
statement_ends joint.Then s ss below = None

abbrev pub line_if : Scope → List Statement → List Frame → ℕ → Item → Option State
line_if s ss below line (item.If t) = Some (body (scope.Line (line_clause.Then line t)), frame.Body s ss ∷ below)
line_if s ss below line x = None

-- an item that is no statement by itself
abbrev pub no_statement : Joint → Scope → List Statement → List Frame → ℕ → Item → Option State
no_statement joint.End s ss below line x = turned (body_turn s ss line x) below
no_statement joint.Then s ss below line x = line_if s ss below line x
no_statement j s ss below line x = None

abbrev pub body_step : Scope → List Statement → List Frame → ℕ → Item → Joint → Option StatementForm → Option State
body_step s ss below line x behind (Some f) = statement_ends behind s (ss ++ statement line f ∷ []) below
body_step s ss below line x behind None = no_statement behind s ss below line x

-- STEPS

abbrev pub whole_step : Joint → Option Turn → List Frame → Option State
whole_step joint.End t below = turned t below
whole_step j t below = None

abbrev pub frame_step : Frame → List Frame → ℕ → Item → Joint → Option State
frame_step (frame.Body s ss) below line x behind = body_step s ss below line x behind (simple_form x)
frame_step f below line x behind = whole_step behind (frame_turn f line x) below

-- the last of a list, and those before it
abbrev pub popped_behind : {A : Type 0} → A → Option (List A × A) → Option (List A × A)
popped_behind x None = Some ([], x)
popped_behind x (Some p) = Some (x ∷ p.0, p.1)

abbrev pub popped : {A : Type 0} → List A → Option (List A × A)
popped [] = None
popped (x ∷ xs) = popped_behind x (popped xs)

-- An automatic property is put among the members with its header; where an accessor or the property's end stands behind that, it is none and goes on.
abbrev pub automatic_form : ℕ → List Modifier → MemberForm → Option PropertyParts
automatic_form line ms (member.Property h None) = if must_override ms then None else Some (record { line = line; modifiers = ms; header = h; get = None; set = None })
automatic_form line ms f = None

abbrev pub automatic : Member → Option PropertyParts
automatic m = automatic_form m.line m.modifiers m.form

abbrev pub reopened_as : TypeHeader → List Member → List Frame → Option PropertyParts → Option State
reopened_as h ms below None = None
reopened_as h ms below (Some p) = Some (frame.Property p, frame.Members h ms ∷ below)

abbrev pub reopened_last : TypeHeader → List Frame → Option (List Member × Member) → Option State
reopened_last h below None = None
reopened_last h below (Some p) = reopened_as h p.0 below (automatic p.1)

abbrev pub reopened : Item → Frame → List Frame → Option State
reopened x (frame.Members h ms) below = if goes_on_property (Some x) then reopened_last h below (popped ms) else Some (frame.Members h ms, below)
reopened x f below = Some (f, below)

abbrev pub reopened_step : ℕ → Item → Joint → Option State → Option State
reopened_step line x behind None = None
reopened_step line x behind (Some st) = frame_step st.0 st.1 line x behind

abbrev pub item_step : Frame → List Frame → ℕ → Joint → Option Item → Option State
item_step top below line behind None = None
item_step top below line behind (Some x) = reopened_step line x behind (reopened x top below)

abbrev pub step : Frame → List Frame → Row → Option State
step top below r = item_step top below r.line r.behind r.item

-- ALL ROWS

abbrev pub run_on : (Frame → List Frame → Option State) → Option State → Option State
run_on go None = None
run_on go (Some st) = go st.0 st.1

abbrev pub run : List Row → Frame → List Frame → Option State
run [] top below = Some (top, below)
run (r ∷ rows) top below = run_on (run rows) (step top below r)

-- before the first row
abbrev pub start : Frame
start = frame.File (record { options = []; imports = []; types = [] })

-- behind the last row
abbrev pub finished : ℕ → Frame → List Frame → Option SourceFile
finished file (frame.File p) [] = Some (record { file = file; options = p.options; imports = p.imports; types = p.types })
finished file f below = None

-- PARTS OF THE ABOVE, AS THE CODE HAS THEM

-- the end of an accessor, by the word behind `End`
abbrev pub accessor_end : AccessorHeader → List Statement → Option BlockWord → Option Turn
accessor_end (accessor_header.Get l a) ss w = if is_word word.Get w then Some (turn.Closes (is.Get (record { line = l; access = a; body = ss }))) else None
accessor_end (accessor_header.Set l a ps) ss w = if is_word word.Set w then Some (turn.Closes (is.Set (record { line = l; access = a; parameters = ps; body = ss }))) else None
accessor_end (accessor_header.Event l k ps) ss w = if is_word (accessor_word k) w then Some (turn.Closes (is.Event k (record { line = l; parameters = ps; body = ss }))) else None

abbrev pub is_next : Item → Bool
is_next (item.Next n) = true
is_next x = false

abbrev pub next_variable : Item → Option Name
next_variable (item.Next n) = n
next_variable x = None

abbrev pub next_of : ℕ → Item → NextClause
next_of line x = record { line = line; variable = next_variable x }

abbrev pub is_bare : Option LoopCondition → Bool
is_bare None = true
is_bare (Some c) = false

abbrev pub more_members : TypeHeader → List Member → ℕ → List Modifier → MemberForm → Option Turn
more_members h ms line m f = Some (turn.Goes (frame.Members h (ms ++ member_of line (m, f) ∷ [])))

abbrev pub event_parts : ℕ → List Modifier → Name → TypeName → EventParts
event_parts line ms n t = record { line = line; modifiers = ms; name = n; delegate = t; add_handler = None; remove_handler = None; raise_event = None }

-- a procedure's header among members
abbrev pub procedure_turn : TypeHeader → List Member → ℕ → DeclarationLine → Option Turn
procedure_turn h ms line (header.Sub m s is) =
    if must_override m then more_members h ms line m (member.Sub s is None) else Some (turn.Opens (frame.Members h ms) (body (scope.Procedure line (item.Declares (header.Sub m s is)))))
procedure_turn h ms line (header.Constructor m ps is) =
    if must_override m then more_members h ms line m (member.Constructor ps is None) else Some (turn.Opens (frame.Members h ms) (body (scope.Procedure line (item.Declares (header.Constructor m ps is)))))
procedure_turn h ms line (header.Function m k s t is) =
    if must_override m then more_members h ms line m (member.Function k s t is None) else Some (turn.Opens (frame.Members h ms) (body (scope.Procedure line (item.Declares (header.Function m k s t is)))))
procedure_turn h ms line d = None

-- the end of a procedure, by the word behind `End`
abbrev pub procedure_end : ℕ → DeclarationLine → List Statement → Option BlockWord → Option Turn
procedure_end l (header.Sub ms s is) ss w = if is_word word.Sub w && not (must_override ms) then procedure_whole l (Some (ms, member.Sub s is (Some ss))) else None
procedure_end l (header.Constructor ms ps is) ss w = if is_word word.Sub w && not (must_override ms) then procedure_whole l (Some (ms, member.Constructor ps is (Some ss))) else None
procedure_end l (header.Function ms k s t is) ss w = if is_word word.Function w && not (must_override ms) then procedure_whole l (Some (ms, member.Function k s t is (Some ss))) else None
procedure_end l d ss w = None

abbrev pub has_no_base : Option ClassBase → Bool
has_no_base None = true
has_no_base (Some b) = false

abbrev pub is_bare_class : ClassParts → List Member → Bool
is_bare_class p ms = has_no_base p.base && is_empty p.implements && is_empty ms

abbrev pub class_based_if : Bool → ClassParts → ℕ → Option TypeName → Option Turn
class_based_if b p line None = None
class_based_if b p line (Some t) = if b then class_based p line (Some t) else None

abbrev pub with_list : ClassParts → ℕ → List TypeName → ClassParts
with_list p line ts = record {
  line = p.line;
  access = p.access;
  modifier = p.modifier;
  name = p.name;
  type_parameters = p.type_parameters;
  base = p.base;
  implements = p.implements ++ record { line = line; interfaces = ts } ∷ [];
}

abbrev pub interface_member_turn : InterfaceParts → ℕ → Option InterfaceHeader → Option Turn
interface_member_turn p line (Some h) = interface_at p line item.Else (Some h)
interface_member_turn p line None = None

abbrev pub plain : List Modifier → List ImplementedMember → InterfaceHeader → Option InterfaceHeader
plain ms is h = if is_empty ms && is_empty is then Some h else None

abbrev pub with_else_if : IfParts → ℕ → Expr → List Statement → IfParts
with_else_if p l t ss = record { line = p.line; test = p.test; body = p.body; else_ifs = p.else_ifs ++ else_if l t ss ∷ [] }

abbrev pub with_case : SelectParts → ℕ → List CaseItem → List Statement → SelectParts
with_case p l cs ss = record { line = p.line; value = p.value; cases = p.cases ++ case l cs ss ∷ [] }

abbrev pub with_catch : TryParts → CatchClause → TryParts
with_catch p c = record { line = p.line; body = p.body; catches = p.catches ++ c ∷ [] }

abbrev pub with_statement : Scope → List Statement → Statement → Frame
with_statement s ss t = frame.Body s (ss ++ t ∷ [])

abbrev pub with_member : TypeHeader → List Member → Member → Frame
with_member h ms m = frame.Members h (ms ++ m ∷ [])

abbrev pub with_type : FileParts → TypeDeclaration → Frame
with_type p t = frame.File (record { options = p.options; imports = p.imports; types = p.types ++ t ∷ [] })

abbrev pub with_get : PropertyParts → GetAccessor → PropertyParts
with_get p g = record { line = p.line; modifiers = p.modifiers; header = p.header; get = Some g; set = p.set }

abbrev pub with_set : PropertyParts → SetAccessor → PropertyParts
with_set p s = record { line = p.line; modifiers = p.modifiers; header = p.header; get = p.get; set = Some s }

abbrev pub line_if_in : Frame → List Frame → ℕ → Item → Option State
line_if_in top below line (item.If t) = Some (body (scope.Line (line_clause.Then line t)), top ∷ below)
line_if_in top below line x = None

abbrev pub no_statement_in : Frame → Joint → List Frame → ℕ → Item → Option State
no_statement_in top joint.End below line x = turned (frame_turn top line x) below
no_statement_in top joint.Then below line x = line_if_in top below line x
no_statement_in top j below line x = None

abbrev pub reopened_top : Frame → List Frame → Option State
reopened_top (frame.Members h ms) below = reopened_last h below (popped ms)
reopened_top f below = Some (f, below)

abbrev pub reopened_in : Frame → Option PropertyParts → List Frame → Option State
reopened_in top None below = None
reopened_in top (Some p) below = Some (frame.Property p, top ∷ below)

abbrev pub last_of : Option (List Member × Member) → List Member × Option PropertyParts
last_of None = ([], None)
last_of (Some p) = (p.0, automatic p.1)

abbrev pub last_property : List Member → List Member × Option PropertyParts
last_property ms = last_of (popped ms)

abbrev pub has_accessors : Option PropertyAccessors → Bool
has_accessors None = false
has_accessors (Some a) = true
