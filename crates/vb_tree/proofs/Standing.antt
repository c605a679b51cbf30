-- What each frame stands for: the rows that began it, and those of what stands in it so far.
use Rattle.std.proofs.Common.{◌≡◌, ℕ, Bool, true, false, List, [], ◌∷◌, ◌++◌, Option, Some, None}
use Rattle.std.specs.Prelude.{not}
use Rattle.vb_text.specs.declared.names.Name.{Name}
use Rattle.vb_syntax.specs.{declared.{types.{TypeName.TypeName, TypeParameter.TypeParameter}, expression.Expr.Expr, statement.{CaseItem.CaseItem, CatchVariable.CatchVariable, Statement.Statement}, declaration.{Access.Access, Modifier.Modifier, Parameter.Parameter, Member.Member, GetAccessor.GetAccessor, SetAccessor.SetAccessor, EventAccessor.EventAccessor, ClassModifier.ClassModifier, ClassBase.ClassBase, InterfaceList.InterfaceList, InterfaceMember.InterfaceMember, TypeDeclaration.TypeDeclaration, OptionStatement.OptionStatement, ImportsStatement.ImportsStatement}, item.{PropertyHeader.PropertyHeader, EventAccessorKind.EventAccessorKind, Item.Item, Row.Row}}, Items.must_override}
use Rattle.vb_syntax.specs.declared.item.DeclarationLine.TheVariants as header
use Rattle.vb_syntax.specs.declared.item.Joint.TheVariants as joint
use Rattle.vb_syntax.specs.declared.item.Item.TheVariants as item
use Rattle.vb_blocks.specs.{declared.{scope.{Scope.Scope, IfParts.IfParts, SelectParts.SelectParts, TryParts.TryParts, AccessorHeader.AccessorHeader, LineClause.LineClause}, frame.{Frame.Frame, TypeHeader.TypeHeader, Whole.Whole, Turn.Turn}}, Trees.{row, whole, bare_member, AreSimple, IsStatement, AreStatements, AreElseIfs, AreCases, AreCatches, IsGet, IsSet, IsEventAccessor, AreEventAccessors, IsMember, AreMembers, IsBase, AreInterfaceLists, AreInterfaceMembers, IsType, AreTypes, AreOptions, AreImports}, Steps.{body, is_line, opened, takes_get, takes_set, takes_accessor, member_opened}}
use Rattle.vb_blocks.specs.declared.scope.Scope.TheVariants as scope
use Rattle.vb_blocks.specs.declared.scope.IfClause.TheVariants as if_clause
use Rattle.vb_blocks.specs.declared.scope.SelectClause.TheVariants as select_clause
use Rattle.vb_blocks.specs.declared.scope.TryClause.TheVariants as try_clause
use Rattle.vb_blocks.specs.declared.scope.AccessorHeader.TheVariants as accessor_header
use Rattle.vb_blocks.specs.declared.scope.LineClause.TheVariants as line_clause
use Rattle.vb_blocks.specs.declared.frame.Frame.TheVariants as frame
use Rattle.vb_blocks.specs.declared.frame.TypeHeader.TheVariants as type_header
use Rattle.vb_blocks.specs.declared.frame.Whole.TheVariants as is
use Rattle.vb_blocks.specs.declared.frame.Turn.TheVariants as turn
use Rattle.vb_tree.proofs.{MemberRows.{parts, event_parts}, FileRows.{class_parts, interface_parts, file_parts}, Ends.AreParted}

-- KINDS

-- what a frame becomes when it is whole
pub data Kind : Type 0 where
  a_statement : Kind
  a_line : Kind
  a_member : Kind
  a_get : Kind
  a_set : Kind
  an_event : EventAccessorKind → Kind
  a_type : Kind
  a_file : Kind

abbrev pub accessor_kind : AccessorHeader → Kind
accessor_kind (accessor_header.Get l a) = a_get
accessor_kind (accessor_header.Set l a ps) = a_set
accessor_kind (accessor_header.Event l k ps) = an_event k

abbrev pub scope_kind : Scope → Kind
scope_kind (scope.Enclosed l x) = a_statement
scope_kind (scope.If c) = a_statement
scope_kind (scope.Select c) = a_statement
scope_kind (scope.Try c) = a_statement
scope_kind (scope.Procedure l x) = a_member
scope_kind (scope.Accessor h) = accessor_kind h
scope_kind (scope.Line c) = a_line

abbrev pub kind_of : Frame → Kind
kind_of (frame.Body s ss) = scope_kind s
kind_of (frame.Select l v) = a_statement
kind_of (frame.Property p) = a_member
kind_of (frame.Event e) = a_member
kind_of (frame.Members h ms) = a_type
kind_of (frame.Interface p) = a_type
kind_of (frame.File p) = a_file

-- the frame has a place for a part of the kind
abbrev pub takes : Frame → Kind → Bool
takes (frame.Body s ss) a_statement = not (is_line s)
takes (frame.Body s ss) a_line = true
takes (frame.Property p) a_get = takes_get p.get p.set
takes (frame.Property p) a_set = takes_set p.set
takes (frame.Event e) (an_event k) = takes_accessor k e
takes (frame.Members h ms) a_member = true
takes (frame.File p) a_type = true
takes f k = false

-- FRONTS

pub record IsIfParts (p : IfParts) (rows : List Row) : Type 0 where
  pub front : List Row
  pub clauses : List Row
  pub body : AreStatements front p.body
  pub else_ifs : AreElseIfs clauses p.else_ifs
  pub are : rows ≡ whole p.line (item.If p.test) ∷ (front ++ clauses)

pub record IsSelectParts (p : SelectParts) (rows : List Row) : Type 0 where
  pub clauses : List Row
  pub cases : AreCases clauses p.cases
  pub are : rows ≡ whole p.line (item.Select p.value) ∷ clauses

pub record IsTryParts (p : TryParts) (rows : List Row) : Type 0 where
  pub front : List Row
  pub clauses : List Row
  pub body : AreStatements front p.body
  pub catches : AreCatches clauses p.catches
  pub are : rows ≡ whole p.line item.Try ∷ (front ++ clauses)

-- the rows before the statements of a scope
pub data IsFront : Scope → List Row → Type 0 where
  front_enclosed : {line : ℕ} {x : Item} → opened line x ≡ Some (body (scope.Enclosed line x)) → IsFront (scope.Enclosed line x) (whole line x ∷ [])
  front_if : {line : ℕ} {t : Expr} → IsFront (scope.If (if_clause.If line t)) (whole line (item.If t) ∷ [])
  front_else_if : {p : IfParts} {rows : List Row} {line : ℕ} {t : Expr} → IsIfParts p rows → IsFront (scope.If (if_clause.ElseIf p line t)) (rows ++ whole line (item.ElseIf t) ∷ [])
  front_else : {p : IfParts} {rows : List Row} {line : ℕ} → IsIfParts p rows → IsFront (scope.If (if_clause.Else p line)) (rows ++ whole line item.Else ∷ [])
  front_case : {p : SelectParts} {rows : List Row} {line : ℕ} {cs : List CaseItem} → IsSelectParts p rows → IsFront (scope.Select (select_clause.Case p line cs)) (rows ++ whole line (item.Case cs) ∷ [])
  front_case_else : {p : SelectParts} {rows : List Row} {line : ℕ} → IsSelectParts p rows → IsFront (scope.Select (select_clause.Else p line)) (rows ++ whole line item.CaseElse ∷ [])
  front_try : {line : ℕ} → IsFront (scope.Try (try_clause.Try line)) (whole line item.Try ∷ [])
  front_catch : {p : TryParts} {rows : List Row} {line : ℕ} {v : Option CatchVariable} {t : Option Expr} → IsTryParts p rows
      → IsFront (scope.Try (try_clause.Catch p line v t)) (rows ++ whole line (item.Catch v t) ∷ [])
  front_finally : {p : TryParts} {rows : List Row} {line : ℕ} → IsTryParts p rows → IsFront (scope.Try (try_clause.Finally p line)) (rows ++ whole line item.Finally ∷ [])
  front_procedure : {line : ℕ} {x : Item} → bare_member x ≡ None → member_opened line x ≡ Some (body (scope.Procedure line x)) → IsFront (scope.Procedure line x) (whole line x ∷ [])
  front_get : {line : ℕ} {a : Option Access} → IsFront (scope.Accessor (accessor_header.Get line a)) (whole line (item.Declares (header.Get a)) ∷ [])
  front_set : {line : ℕ} {a : Option Access} {ps : List Parameter} → IsFront (scope.Accessor (accessor_header.Set line a ps)) (whole line (item.Declares (header.Set a ps)) ∷ [])
  front_event : {line : ℕ} {k : EventAccessorKind} {ps : List Parameter}
      → IsFront (scope.Accessor (accessor_header.Event line k ps)) (whole line (item.Declares (header.EventAccessor k ps)) ∷ [])

pub data IsLineFront : LineClause → List Row → Type 0 where
  front_then : {line : ℕ} {t : Expr} → IsLineFront (line_clause.Then line t) (row line (item.If t) joint.Then ∷ [])
  front_line_else : {line : ℕ} {t : Expr} {rows : List Row} {b : List Statement} → AreSimple joint.Else rows b → IsLineFront (line_clause.Else line t b) (row line (item.If t) joint.Then ∷ rows)

pub data IsTypeFront : TypeHeader → List Row → Type 0 where
  front_module : {line : ℕ} {a : Option Access} {n : Name} → IsTypeFront (type_header.Module line a n) (whole line (item.Declares (header.Module a n)) ∷ [])
  front_class : {line : ℕ} {a : Option Access} {c : Option ClassModifier} {n : Name} {ps : List TypeParameter} {b : Option ClassBase} {ls : List InterfaceList} {bases lists : List Row}
      → IsBase bases b → AreInterfaceLists header.Implements lists ls → IsTypeFront (type_header.Class (class_parts line a c n ps b ls)) (whole line (item.Declares (header.Class a c n ps)) ∷ (bases ++ lists))

pub data Stands : Frame → List Row → Type 0 where
  stands_body : {sc : Scope} {ss : List Statement} {front rows : List Row} → is_line sc ≡ false → IsFront sc front → AreStatements rows ss → Stands (frame.Body sc ss) (front ++ rows)
  stands_line : {c : LineClause} {ss : List Statement} {front rows : List Row} → IsLineFront c front → AreParted rows ss → Stands (frame.Body (scope.Line c) ss) (front ++ rows)
  stands_select : {line : ℕ} {v : Expr} → Stands (frame.Select line v) (whole line (item.Select v) ∷ [])
  stands_property : {line : ℕ} {ms : List Modifier} {h : PropertyHeader} {g : Option GetAccessor} {s : Option SetAccessor} {gets sets : List Row}
      → must_override ms ≡ false → IsGet gets g → IsSet sets s → Stands (frame.Property (parts line ms h g s)) (whole line (item.Declares (header.Property ms h)) ∷ (gets ++ sets))
  stands_event : {line : ℕ} {ms : List Modifier} {n : Name} {t : TypeName} {a b c : Option EventAccessor} {rows : List Row}
      → AreEventAccessors rows a b c → Stands (frame.Event (event_parts line ms n t a b c)) (whole line (item.Declares (header.CustomEvent ms n t)) ∷ rows)
  stands_members : {h : TypeHeader} {ms : List Member} {front rows : List Row} → IsTypeFront h front → AreMembers rows ms → Stands (frame.Members h ms) (front ++ rows)
  stands_interface : {line : ℕ} {a : Option Access} {n : Name} {ps : List TypeParameter} {ls : List InterfaceList} {ms : List InterfaceMember} {lists rows : List Row}
      → AreInterfaceLists header.Inherits lists ls → AreInterfaceMembers rows ms
      → Stands (frame.Interface (interface_parts line a n ps ls ms)) (whole line (item.Declares (header.Interface a n ps)) ∷ (lists ++ rows))
  stands_file : {os : List OptionStatement} {is : List ImportsStatement} {ts : List TypeDeclaration} {options imports types : List Row}
      → AreOptions options os → AreImports imports is → AreTypes types ts → Stands (frame.File (file_parts os is ts)) (options ++ (imports ++ types))

-- the frames stand for the rows, each for those behind the ones of the frame round it
pub data Holds : Frame → List Frame → List Row → Type 0 where
  bottom : {f : Frame} {rows : List Row} → kind_of f ≡ a_file → Stands f rows → Holds f [] rows
  inside : {f g : Frame} {gs : List Frame} {rows others : List Row} → Holds g gs rows → takes g (kind_of f) ≡ true → Stands f others → Holds f (g ∷ gs) (rows ++ others)

-- PARTS THAT ARE WHOLE

abbrev pub IsWhole : Whole → List Row → Type 0
IsWhole (is.Statement s) rows = IsStatement rows s
IsWhole (is.Member m) rows = IsMember rows m
IsWhole (is.Get g) rows = IsGet rows (Some g)
IsWhole (is.Set s) rows = IsSet rows (Some s)
IsWhole (is.Event k a) rows = IsEventAccessor k rows a
IsWhole (is.Type t) rows = IsType rows t

abbrev pub whole_kind : Whole → Kind
whole_kind (is.Statement s) = a_statement
whole_kind (is.Member m) = a_member
whole_kind (is.Get g) = a_get
whole_kind (is.Set s) = a_set
whole_kind (is.Event k a) = an_event k
whole_kind (is.Type t) = a_type

-- what a turn of this frame, which stands for these rows, makes with one more row
abbrev pub Turned : Frame → List Row → Row → Turn → Type 0
Turned f rows r (turn.Goes g) = Stands g (rows ++ r ∷ []) × (kind_of g ≡ kind_of f)
Turned f rows r (turn.Opens g h) = (g ≡ f) × Stands h (r ∷ []) × (takes f (kind_of h) ≡ true)
Turned f rows r (turn.Closes w) = IsWhole w (rows ++ r ∷ []) × (whole_kind w ≡ kind_of f)
