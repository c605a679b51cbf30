-- Which rows of a file are which syntax tree (Visual Basic Language Specification 11.0, 1.1, 6, 7, 9 and 10). The rows are listed from
-- the beginning of the file. Each part of a tree is some rows, one behind the other, and the part knows the line of its first.
use Rattle.std.specs.Prelude.{◌≡◌, ℕ, Bool, true, false, if◌then◌else◌, List, [], ◌∷◌, ◌++◌, Option, Some, None}
use Rattle.vb_text.specs.declared.names.Name.{Name}
use Rattle.vb_syntax.specs.{declared.{types.{TypeName.TypeName, TypeParameter.TypeParameter}, expression.Expr.Expr, statement.{CaseItem.CaseItem, CatchVariable.CatchVariable, StatementForm.StatementForm, Statement.Statement, ElseIfClause.{ElseIfClause, roll-ElseIfClause}, CaseClause.{CaseClause, roll-CaseClause}, CatchClause.{CatchClause, roll-CatchClause}, BlockClause.{BlockClause, roll-BlockClause}}, declaration.{Access.Access, Modifier.Modifier, Parameter.Parameter, GetAccessor.GetAccessor, SetAccessor.SetAccessor, EventAccessor.EventAccessor, MemberForm.MemberForm, Member.Member, ClassModifier.ClassModifier, ClassBase.ClassBase, InterfaceList.InterfaceList, InterfaceHeader.InterfaceHeader, InterfaceMember.InterfaceMember, DelegateKind.DelegateKind, TypeDeclaration.TypeDeclaration, OptionSetting.OptionSetting, OptionStatement.OptionStatement, ImportsStatement.ImportsStatement, SourceFile.SourceFile}, item.{PropertyHeader.PropertyHeader, EventAccessorKind.EventAccessorKind, DeclarationLine.DeclarationLine, BlockWord.BlockWord, Joint.Joint, Item.Item, Row.Row}}, Items.{must_override, is_property_of_interface}}
use Rattle.vb_syntax.specs.declared.statement.LocalModifier.TheVariants as local
use Rattle.vb_syntax.specs.declared.statement.LoopTest.TheVariants as loop
use Rattle.vb_syntax.specs.declared.statement.StatementForm.TheVariants as form
use Rattle.vb_syntax.specs.declared.declaration.FunctionKind.TheVariants as function
use Rattle.vb_syntax.specs.declared.declaration.MemberForm.TheVariants as member
use Rattle.vb_syntax.specs.declared.declaration.InterfaceHeader.TheVariants as interface_header
use Rattle.vb_syntax.specs.declared.declaration.TypeForm.TheVariants as type_form
use Rattle.vb_syntax.specs.declared.item.EventAccessorKind.TheVariants as accessor
use Rattle.vb_syntax.specs.declared.item.DeclarationLine.TheVariants as header
use Rattle.vb_syntax.specs.declared.item.BlockWord.TheVariants as word
use Rattle.vb_syntax.specs.declared.item.Joint.TheVariants as joint
use Rattle.vb_syntax.specs.declared.item.Item.TheVariants as item

-- a row, by its line, its item and what stands behind it
abbrev pub row : ℕ → Item → Joint → Row
row line x behind = record { line = line; item = Some x; behind = behind }

-- a row that stands alone or ends a line's statements
abbrev pub whole : ℕ → Item → Row
whole line x = row line x joint.End

abbrev pub statement : ℕ → StatementForm → Statement
statement line f = record { line = line; form = f }

abbrev pub member_of : ℕ → List Modifier × MemberForm → Member
member_of line m = record { line = line; modifiers = m.0; form = m.1 }

abbrev pub else_if : ℕ → Expr → List Statement → ElseIfClause
else_if line test body = roll-ElseIfClause (record { line = line; test = test; body = body })

abbrev pub case : ℕ → List CaseItem → List Statement → CaseClause
case line items body = roll-CaseClause (record { line = line; items = items; body = body })

abbrev pub catch : ℕ → Option CatchVariable → Option Expr → List Statement → CatchClause
catch line variable filter body = roll-CatchClause (record { line = line; variable = variable; filter = filter; body = body })

abbrev pub last_clause : ℕ → List Statement → BlockClause
last_clause line body = roll-BlockClause (record { line = line; body = body })

-- STATEMENTS WITHOUT A BLOCK (10)

-- the statement that an item is by itself
abbrev pub simple_form : Item → Option StatementForm
simple_form (item.Declaration m ds) = Some (form.LocalDeclaration m ds)
simple_form (item.Label n) = Some (form.Label n)
simple_form (item.ReDim n x) = Some (form.ReDim n x)
simple_form (item.Assignment x y) = Some (form.Assignment x y)
simple_form (item.CompoundAssignment o x y) = Some (form.CompoundAssignment o x y)
simple_form (item.Invocation x) = Some (form.Invocation x)
simple_form (item.Throw x) = Some (form.Throw x)
simple_form (item.Yield x) = Some (form.Yield x)
simple_form (item.Return x) = Some (form.Return x)
simple_form (item.GoTo n) = Some (form.GoTo n)
simple_form (item.Exit k) = Some (form.Exit k)
simple_form (item.Continue k) = Some (form.Continue k)
simple_form (item.OnError a) = Some (form.OnError a)
simple_form (item.Resume p) = Some (form.Resume p)
simple_form (item.AddHandler x y) = Some (form.AddHandler x y)
simple_form (item.RemoveHandler x y) = Some (form.RemoveHandler x y)
simple_form (item.RaiseEvent n xs) = Some (form.RaiseEvent n xs)
simple_form x = None

-- the joints at which an `If` with an `Else` on one line may end: not before a colon, since it takes the statement behind it
abbrev pub may_end_if : Joint → Bool
may_end_if joint.End = true
may_end_if joint.Else = true
may_end_if j = false

-- A statement without a block, before this joint. An `If` on one line takes as many statements and the nearest `Else` that it can: without an
-- `Else` it ends where the line's statements end, and with one there or before the `Else` of an `If` round it (10.8.1).
mutual
  pub data IsSimple : Joint → List Row → Statement → Type 0 where
    alone : {behind : Joint} {line : ℕ} {x : Item} {f : StatementForm} → simple_form x ≡ Some f → IsSimple behind (row line x behind ∷ []) (statement line f)
    line_if : {line : ℕ} {test : Expr} {rows : List Row} {body : List Statement} → AreSimple joint.End rows body
        → IsSimple joint.End (row line (item.If test) joint.Then ∷ rows) (statement line (form.LineIf test body None))
    line_if_else : {behind : Joint} {line : ℕ} {test : Expr} {rows others : List Row} {body otherwise : List Statement} → AreSimple joint.Else rows body → AreSimple behind others otherwise
        → may_end_if behind ≡ true → IsSimple behind (row line (item.If test) joint.Then ∷ (rows ++ others)) (statement line (form.LineIf test body (Some otherwise)))

  -- one or more, with colons between them
  pub data AreSimple : Joint → List Row → List Statement → Type 0 where
    one : {behind : Joint} {rows : List Row} {s : Statement} → IsSimple behind rows s → AreSimple behind rows (s ∷ [])
    more : {behind : Joint} {rows others : List Row} {s : Statement} {ss : List Statement} → IsSimple joint.Colon rows s → AreSimple behind others ss
        → AreSimple behind (rows ++ others) (s ∷ ss)

-- STATEMENTS WITH A BLOCK (10.3, 10.4, 10.8 to 10.10 and 10.13)

-- the statement of an item, a block and the item at the block's end, in this line
abbrev pub enclosed : Item → List Statement → ℕ → Item → Option StatementForm
enclosed (item.While x) body line (item.End word.While) = Some (form.While x body)
enclosed (item.SyncLock x) body line (item.End word.SyncLock) = Some (form.SyncLock x body)
enclosed (item.With x) body line (item.End word.With) = Some (form.With x body)
enclosed (item.Using r) body line (item.End word.Using) = Some (form.Using r body)
enclosed (item.Do None) body line (item.Loop None) = Some (form.Do loop.Never body)
enclosed (item.Do (Some c)) body line (item.Loop None) = Some (form.Do (loop.Top c) body)
enclosed (item.Do None) body line (item.Loop (Some c)) = Some (form.Do (loop.Bottom line c) body)
enclosed (item.For v a b c) body line (item.Next n) = Some (form.For v a b c body (record { line = line; variable = n }))
enclosed (item.ForEach v x) body line (item.Next n) = Some (form.ForEach v x body (record { line = line; variable = n }))
enclosed x body line y = None

mutual
  pub data IsStatement : List Row → Statement → Type 0 where
    simple : {rows : List Row} {s : Statement} → IsSimple joint.End rows s → IsStatement rows s
    block : {line : ℕ} {x : Item} (last : ℕ) (y : Item) {rows : List Row} {body : List Statement} {f : StatementForm} → AreStatements rows body → enclosed x body last y ≡ Some f
        → IsStatement (whole line x ∷ (rows ++ whole last y ∷ [])) (statement line f)
    if_block : {line : ℕ} (last : ℕ) {test : Expr} {rows clauses others : List Row} {body : List Statement} {else_ifs : List ElseIfClause} {otherwise : Option BlockClause}
        → AreStatements rows body → AreElseIfs clauses else_ifs → IsLastClause item.Else others otherwise
        → IsStatement (whole line (item.If test) ∷ (rows ++ (clauses ++ (others ++ whole last (item.End word.If) ∷ [])))) (statement line (form.If test body else_ifs otherwise))
    select : {line : ℕ} (last : ℕ) {value : Expr} {clauses others : List Row} {cases : List CaseClause} {otherwise : Option BlockClause}
        → AreCases clauses cases → IsLastClause item.CaseElse others otherwise
        → IsStatement (whole line (item.Select value) ∷ (clauses ++ (others ++ whole last (item.End word.Select) ∷ []))) (statement line (form.Select value cases otherwise))
    try_block : {line : ℕ} (last : ℕ) {rows clauses others : List Row} {body : List Statement} {catches : List CatchClause} {finally : Option BlockClause}
        → AreStatements rows body → AreCatches clauses catches → IsLastClause item.Finally others finally
        → IsStatement (whole line item.Try ∷ (rows ++ (clauses ++ (others ++ whole last (item.End word.Try) ∷ [])))) (statement line (form.Try body catches finally))

  pub data AreStatements : List Row → List Statement → Type 0 where
    no_statements : AreStatements [] []
    more_statements : {rows others : List Row} {s : Statement} {ss : List Statement} → IsStatement rows s → AreStatements others ss → AreStatements (rows ++ others) (s ∷ ss)

  pub data AreElseIfs : List Row → List ElseIfClause → Type 0 where
    no_else_ifs : AreElseIfs [] []
    more_else_ifs : {line : ℕ} {test : Expr} {rows others : List Row} {body : List Statement} {cs : List ElseIfClause} → AreStatements rows body → AreElseIfs others cs
        → AreElseIfs (whole line (item.ElseIf test) ∷ (rows ++ others)) (else_if line test body ∷ cs)

  pub data AreCases : List Row → List CaseClause → Type 0 where
    no_cases : AreCases [] []
    more_cases : {line : ℕ} {items : List CaseItem} {rows others : List Row} {body : List Statement} {cs : List CaseClause} → AreStatements rows body → AreCases others cs
        → AreCases (whole line (item.Case items) ∷ (rows ++ others)) (case line items body ∷ cs)

  pub data AreCatches : List Row → List CatchClause → Type 0 where
    no_catches : AreCatches [] []
    more_catches : {line : ℕ} {variable : Option CatchVariable} {filter : Option Expr} {rows others : List Row} {body : List Statement} {cs : List CatchClause}
        → AreStatements rows body → AreCatches others cs
        → AreCatches (whole line (item.Catch variable filter) ∷ (rows ++ others)) (catch line variable filter body ∷ cs)

  -- nothing, or the clause that this item begins: `Else`, `Case Else` or `Finally`
  pub data IsLastClause : Item → List Row → Option BlockClause → Type 0 where
    no_clause : {x : Item} → IsLastClause x [] None
    clause : {line : ℕ} {x : Item} {rows : List Row} {body : List Statement} → AreStatements rows body → IsLastClause x (whole line x ∷ rows) (Some (last_clause line body))

-- MEMBERS (9)

-- The modifiers and the form of a member that has no block: a declaration, an event, or what must be overridden; a property also where it is
-- implemented automatically.
abbrev pub bare_member : Item → Option (List Modifier × MemberForm)
bare_member (item.Declaration local.Dim ds) = Some ([], member.Variables ds)
bare_member (item.Declaration local.Const ds) = Some ([], member.Constants ds)
bare_member (item.Declares (header.Variables ms ds)) = Some (ms, member.Variables ds)
bare_member (item.Declares (header.Constants ms ds)) = Some (ms, member.Constants ds)
bare_member (item.Declares (header.Sub ms s is)) = if must_override ms then Some (ms, member.Sub s is None) else None
bare_member (item.Declares (header.Constructor ms ps is)) = if must_override ms then Some (ms, member.Constructor ps is None) else None
bare_member (item.Declares (header.Function ms k s t is)) = if must_override ms then Some (ms, member.Function k s t is None) else None
bare_member (item.Declares (header.Property ms h)) = Some (ms, member.Property h None)
bare_member (item.Declares (header.Event ms n h is)) = Some (ms, member.Event n h is)
bare_member x = None

-- those of a procedure, from its header, its block and the item at its end
abbrev pub procedure : Item → List Statement → Item → Option (List Modifier × MemberForm)
procedure (item.Declares (header.Sub ms s is)) body (item.End word.Sub) = if must_override ms then None else Some (ms, member.Sub s is (Some body))
procedure (item.Declares (header.Constructor ms ps is)) body (item.End word.Sub) = if must_override ms then None else Some (ms, member.Constructor ps is (Some body))
procedure (item.Declares (header.Function ms k s t is)) body (item.End word.Function) = if must_override ms then None else Some (ms, member.Function k s t is (Some body))
procedure x body y = None

-- the accessors of a property, each at most once, `Get` first
pub data IsGet : List Row → Option GetAccessor → Type 0 where
  none : IsGet [] None
  some : {line : ℕ} (last : ℕ) {access : Option Access} {rows : List Row} {body : List Statement} → AreStatements rows body
      → IsGet (whole line (item.Declares (header.Get access)) ∷ (rows ++ whole last (item.End word.Get) ∷ [])) (Some (record { line = line; access = access; body = body }))

pub data IsSet : List Row → Option SetAccessor → Type 0 where
  none : IsSet [] None
  some : {line : ℕ} (last : ℕ) {access : Option Access} {parameters : List Parameter} {rows : List Row} {body : List Statement} → AreStatements rows body
      → IsSet (whole line (item.Declares (header.Set access parameters)) ∷ (rows ++ whole last (item.End word.Set) ∷ []))
      (Some (record { line = line; access = access; parameters = parameters; body = body }))

abbrev pub accessor_word : EventAccessorKind → BlockWord
accessor_word accessor.AddHandler = word.AddHandler
accessor_word accessor.RemoveHandler = word.RemoveHandler
accessor_word accessor.RaiseEvent = word.RaiseEvent

pub data IsEventAccessor : EventAccessorKind → List Row → EventAccessor → Type 0 where
  accessor_block : {line : ℕ} (last : ℕ) {k : EventAccessorKind} {parameters : List Parameter} {rows : List Row} {body : List Statement} → AreStatements rows body
      → IsEventAccessor k (whole line (item.Declares (header.EventAccessor k parameters)) ∷ (rows ++ whole last (item.End (accessor_word k)) ∷ []))
      (record { line = line; parameters = parameters; body = body })

-- accessors of an event in any order, each at most once: those of `AddHandler`, `RemoveHandler` and `RaiseEvent`
pub data AreEventAccessors : List Row → Option EventAccessor → Option EventAccessor → Option EventAccessor → Type 0 where
  nothing : AreEventAccessors [] None None None
  add : {rows others : List Row} {a : EventAccessor} {remove raise : Option EventAccessor} → AreEventAccessors rows None remove raise
      → IsEventAccessor accessor.AddHandler others a → AreEventAccessors (rows ++ others) (Some a) remove raise
  remove : {rows others : List Row} {a : EventAccessor} {add raise : Option EventAccessor} → AreEventAccessors rows add None raise
      → IsEventAccessor accessor.RemoveHandler others a → AreEventAccessors (rows ++ others) add (Some a) raise
  raise : {rows others : List Row} {a : EventAccessor} {add remove : Option EventAccessor} → AreEventAccessors rows add remove None
      → IsEventAccessor accessor.RaiseEvent others a → AreEventAccessors (rows ++ others) add remove (Some a)

pub data IsMember : List Row → Member → Type 0 where
  bare : {line : ℕ} {x : Item} {m : List Modifier × MemberForm} → bare_member x ≡ Some m → IsMember (whole line x ∷ []) (member_of line m)
  block : {line : ℕ} {x : Item} (last : ℕ) (y : Item) {rows : List Row} {body : List Statement} {m : List Modifier × MemberForm} → AreStatements rows body → procedure x body y ≡ Some m
      → IsMember (whole line x ∷ (rows ++ whole last y ∷ [])) (member_of line m)
  property : {line : ℕ} (last : ℕ) {ms : List Modifier} {h : PropertyHeader} {gets sets : List Row} {get : Option GetAccessor} {set : Option SetAccessor}
      → must_override ms ≡ false → IsGet gets get → IsSet sets set
      → IsMember (whole line (item.Declares (header.Property ms h)) ∷ (gets ++ (sets ++ whole last (item.End word.Property) ∷ [])))
      (member_of line (ms, member.Property h (Some (record { get = get; set = set }))))
  custom_event : {line : ℕ} (last : ℕ) {ms : List Modifier} {n : Name} {t : TypeName} {rows : List Row} {add remove raise : Option EventAccessor}
      → AreEventAccessors rows add remove raise
      → IsMember (whole line (item.Declares (header.CustomEvent ms n t)) ∷ (rows ++ whole last (item.End word.Event) ∷ []))
      (member_of line (ms, member.CustomEvent n t add remove raise))

pub data AreMembers : List Row → List Member → Type 0 where
  nothing : AreMembers [] []
  more : {rows others : List Row} {m : Member} {ms : List Member} → IsMember rows m → AreMembers others ms → AreMembers (rows ++ others) (m ∷ ms)

-- the header of a member of an interface (7.8.2)
abbrev pub interface_member : Item → Option InterfaceHeader
interface_member (item.Declares (header.Sub [] s [])) = Some (interface_header.Sub s)
interface_member (item.Declares (header.Function [] function.Regular s t [])) = Some (interface_header.Function s t)
interface_member (item.Declares (header.Property [] h)) = if is_property_of_interface h then Some (interface_header.Property h.kind h.name h.declared) else None
interface_member (item.Declares (header.Event [] n h [])) = Some (interface_header.Event n h)
interface_member x = None

pub data AreInterfaceMembers : List Row → List InterfaceMember → Type 0 where
  nothing : AreInterfaceMembers [] []
  more : {line : ℕ} {x : Item} {h : InterfaceHeader} {others : List Row} {ms : List InterfaceMember} → interface_member x ≡ Some h → AreInterfaceMembers others ms
      → AreInterfaceMembers (whole line x ∷ others) (record { line = line; header = h } ∷ ms)

-- TYPES (7)

-- the base of a class, if one is written
pub data IsBase : List Row → Option ClassBase → Type 0 where
  none : IsBase [] None
  some : {line : ℕ} {base : TypeName} → IsBase (whole line (item.Declares (header.Inherits (base ∷ []))) ∷ []) (Some (record { line = line; base = base }))

-- lines of `Implements` in a class, or of `Inherits` in an interface
pub data AreInterfaceLists : (List TypeName → DeclarationLine) → List Row → List InterfaceList → Type 0 where
  nothing : {says : List TypeName → DeclarationLine} → AreInterfaceLists says [] []
  more : {says : List TypeName → DeclarationLine} {line : ℕ} {ts : List TypeName} {others : List Row} {ls : List InterfaceList} → AreInterfaceLists says others ls
      → AreInterfaceLists says (whole line (item.Declares (says ts)) ∷ others) (record { line = line; interfaces = ts } ∷ ls)

pub data IsType : List Row → TypeDeclaration → Type 0 where
  module_block : {line : ℕ} (last : ℕ) {a : Option Access} {n : Name} {rows : List Row} {ms : List Member} → AreMembers rows ms
      → IsType (whole line (item.Declares (header.Module a n)) ∷ (rows ++ whole last (item.End word.Module) ∷ []))
      (record { line = line; access = a; name = n; form = type_form.Module ms })
  class : {line : ℕ} (last : ℕ) {a : Option Access} {c : Option ClassModifier} {n : Name} {ps : List TypeParameter} {bases lists rows : List Row}
      {base : Option ClassBase} {ls : List InterfaceList} {ms : List Member} → IsBase bases base → AreInterfaceLists header.Implements lists ls → AreMembers rows ms
      → IsType (whole line (item.Declares (header.Class a c n ps)) ∷ (bases ++ (lists ++ (rows ++ whole last (item.End word.Class) ∷ []))))
      (record { line = line; access = a; name = n; form = type_form.Class c ps base ls ms })
  interface : {line : ℕ} (last : ℕ) {a : Option Access} {n : Name} {ps : List TypeParameter} {lists rows : List Row} {ls : List InterfaceList} {ms : List InterfaceMember}
      → AreInterfaceLists header.Inherits lists ls → AreInterfaceMembers rows ms
      → IsType (whole line (item.Declares (header.Interface a n ps)) ∷ (lists ++ (rows ++ whole last (item.End word.Interface) ∷ [])))
      (record { line = line; access = a; name = n; form = type_form.Interface ps ls ms })
  delegate : {line : ℕ} {a : Option Access} {k : DelegateKind} {n : Name} {ps : List TypeParameter} {xs : List Parameter} {t : Option TypeName}
      → IsType (whole line (item.Declares (header.Delegate a k n ps xs t)) ∷ []) (record { line = line; access = a; name = n; form = type_form.Delegate k ps xs t })

pub data AreTypes : List Row → List TypeDeclaration → Type 0 where
  nothing : AreTypes [] []
  more : {rows others : List Row} {t : TypeDeclaration} {ts : List TypeDeclaration} → IsType rows t → AreTypes others ts → AreTypes (rows ++ others) (t ∷ ts)

-- FILES (6)

pub data AreOptions : List Row → List OptionStatement → Type 0 where
  nothing : AreOptions [] []
  more : {line : ℕ} {s : OptionSetting} {others : List Row} {os : List OptionStatement} → AreOptions others os
      → AreOptions (whole line (item.Option s) ∷ others) (record { line = line; setting = s } ∷ os)

pub data AreImports : List Row → List ImportsStatement → Type 0 where
  nothing : AreImports [] []
  more : {line : ℕ} {ns : List (List Name)} {others : List Row} {is : List ImportsStatement} → AreImports others is
      → AreImports (whole line (item.Imports ns) ∷ others) (record { line = line; namespaces = ns } ∷ is)

-- the rows of this file are the tree
pub data IsTree : ℕ → List Row → SourceFile → Type 0 where
  file : {n : ℕ} {options imports types : List Row} {os : List OptionStatement} {is : List ImportsStatement} {ts : List TypeDeclaration}
      → AreOptions options os → AreImports imports is → AreTypes types ts
      → IsTree n (options ++ (imports ++ types)) (record { file = n; options = os; imports = is; types = ts })

-- a file of the grammar begins with these rows
abbrev pub CanGoOn : List Row → Type 0
CanGoOn rows = (others : List Row) × (tree : SourceFile) × IsTree tree.file (rows ++ others) tree

-- a file of the grammar begins with the rows before this line's, and none with them and the row in this line
abbrev pub IsMisplaced : List Row → ℕ → Type 0
IsMisplaced rows line =
    (before : List Row) × (r : Row) × (behind : List Row) × (rows ≡ before ++ r ∷ behind) × CanGoOn before × (CanGoOn (before ++ r ∷ []) → ⊥) × (line ≡ r.line)
