-- One more at the end of each kind of list.
use Rattle.std.proofs.Common.{◌≡◌, ℕ, List, [], ◌∷◌, ◌++◌, Option, Some, sym, append_assoc, append-nil, subst}
use Rattle.vb_text.specs.declared.names.Name.{Name}
use Rattle.vb_syntax.specs.declared.{types.TypeName.TypeName, expression.Expr.Expr, statement.{CaseItem.CaseItem, CatchVariable.CatchVariable, Statement.Statement, ElseIfClause.ElseIfClause, CaseClause.CaseClause, CatchClause.CatchClause}, declaration.{Member.Member, InterfaceList.InterfaceList, InterfaceHeader.InterfaceHeader, InterfaceMember.InterfaceMember, TypeDeclaration.TypeDeclaration, OptionSetting.OptionSetting, OptionStatement.OptionStatement, ImportsStatement.ImportsStatement}, item.{DeclarationLine.DeclarationLine, Joint.Joint, Item.Item, Row.Row}}
use Rattle.vb_syntax.specs.declared.item.Joint.TheVariants as joint
use Rattle.vb_syntax.specs.declared.item.Item.TheVariants as item
use Rattle.vb_blocks.specs.Trees as tree
use Rattle.vb_blocks.specs.Trees.{
  whole,
  else_if,
  case,
  catch,
  interface_member,
  IsSimple,
  AreSimple,
  IsStatement,
  AreStatements,
  no_statements,
  more_statements,
  AreElseIfs,
  no_else_ifs,
  more_else_ifs,
  AreCases,
  no_cases,
  more_cases,
  AreCatches,
  no_catches,
  more_catches,
  IsMember,
  AreMembers,
  nothing,
  more,
  AreInterfaceLists,
  AreInterfaceMembers,
  IsType,
  AreTypes,
  AreOptions,
  AreImports,
}

-- statements of an `If` on one line, each with a colon behind it
pub data AreParted : List Row → List Statement → Type 0 where
  none_parted : AreParted [] []
  more_parted : {rows others : List Row} {s : Statement} {ss : List Statement} → IsSimple joint.Colon rows s → AreParted others ss → AreParted (rows ++ others) (s ∷ ss)

-- the same of rows that are grouped otherwise
pub grouped : (Is : List Row → Type 0) (a b c : List Row) → Is (a ++ (b ++ c)) → Is ((a ++ b) ++ c)
grouped Is a b c h = subst Is (sym (append_assoc a b c)) h

pub no_more : (Is : List Row → Type 0) (a : List Row) → Is (a ++ []) → Is a
no_more Is a h = subst Is (append-nil a) h

pub last_parted : {j : Joint} {rs rows : List Row} {ss : List Statement} {s : Statement} → AreParted rs ss → IsSimple j rows s → AreSimple j (rs ++ rows) (ss ++ s ∷ [])
last_parted none_parted d = tree.one d
last_parted {j = j} {rows = rows} {s = s} (more_parted {rows = a} {others = b} {s = t} {ss = ts} c cs) d =
    grouped (λ r. AreSimple j r (t ∷ (ts ++ s ∷ []))) a b rows (more c (last_parted cs d))

pub one_parted : {rs rows : List Row} {ss : List Statement} {s : Statement} → AreParted rs ss → IsSimple joint.Colon rows s → AreParted (rs ++ rows) (ss ++ s ∷ [])
one_parted {rows = rows} {s = s} none_parted d = no_more (λ r. AreParted r (s ∷ [])) rows (more_parted d none_parted)
one_parted {rows = rows} {s = s} (more_parted {rows = a} {others = b} {s = t} {ss = ts} c cs) d =
    grouped (λ r. AreParted r (t ∷ (ts ++ s ∷ []))) a b rows (more_parted c (one_parted cs d))

pub one_statement : {rs rows : List Row} {ss : List Statement} {s : Statement} → AreStatements rs ss → IsStatement rows s → AreStatements (rs ++ rows) (ss ++ s ∷ [])
one_statement {rows = rows} {s = s} no_statements d = no_more (λ r. AreStatements r (s ∷ [])) rows (more_statements d no_statements)
one_statement {rows = rows} {s = s} (more_statements {rows = a} {others = b} {s = t} {ss = ts} c cs) d =
    grouped (λ r. AreStatements r (t ∷ (ts ++ s ∷ []))) a b rows (more_statements c (one_statement cs d))

pub one_else_if : {rs rows : List Row} {cs : List ElseIfClause} {ss : List Statement} → AreElseIfs rs cs → (line : ℕ) (t : Expr) → AreStatements rows ss
    → AreElseIfs (rs ++ whole line (item.ElseIf t) ∷ rows) (cs ++ else_if line t ss ∷ [])
one_else_if {rows = rows} {ss = ss} no_else_ifs line t d = no_more (λ r. AreElseIfs (whole line (item.ElseIf t) ∷ r) (else_if line t ss ∷ [])) rows (more_else_ifs d no_else_ifs)
one_else_if {rows = rows} {ss = ss} (more_else_ifs {line = l} {test = u} {rows = a} {others = b} {body = us} {cs = cs} c ds) line t d =
    grouped (λ r. AreElseIfs (whole l (item.ElseIf u) ∷ r) (else_if l u us ∷ (cs ++ else_if line t ss ∷ []))) a b (whole line (item.ElseIf t) ∷ rows) (more_else_ifs c (one_else_if ds line t d))

pub one_case : {rs rows : List Row} {cs : List CaseClause} {ss : List Statement} → AreCases rs cs → (line : ℕ) (t : List CaseItem) → AreStatements rows ss
    → AreCases (rs ++ whole line (item.Case t) ∷ rows) (cs ++ case line t ss ∷ [])
one_case {rows = rows} {ss = ss} no_cases line t d = no_more (λ r. AreCases (whole line (item.Case t) ∷ r) (case line t ss ∷ [])) rows (more_cases d no_cases)
one_case {rows = rows} {ss = ss} (more_cases {line = l} {items = u} {rows = a} {others = b} {body = us} {cs = cs} c ds) line t d =
    grouped (λ r. AreCases (whole l (item.Case u) ∷ r) (case l u us ∷ (cs ++ case line t ss ∷ []))) a b (whole line (item.Case t) ∷ rows) (more_cases c (one_case ds line t d))

pub one_catch : {rs rows : List Row} {cs : List CatchClause} {ss : List Statement} → AreCatches rs cs → (line : ℕ) (v : Option CatchVariable) (t : Option Expr) → AreStatements rows ss
    → AreCatches (rs ++ whole line (item.Catch v t) ∷ rows) (cs ++ catch line v t ss ∷ [])
one_catch {rows = rows} {ss = ss} no_catches line v t d = no_more (λ r. AreCatches (whole line (item.Catch v t) ∷ r) (catch line v t ss ∷ [])) rows (more_catches d no_catches)
one_catch {rows = rows} {ss = ss} (more_catches {line = l} {variable = w} {filter = u} {rows = a} {others = b} {body = us} {cs = cs} c ds) line v t d =
    grouped (λ r. AreCatches (whole l (item.Catch w u) ∷ r) (catch l w u us ∷ (cs ++ catch line v t ss ∷ []))) a b (whole line (item.Catch v t) ∷ rows) (more_catches c (one_catch ds line v t d))

pub one_member : {rs rows : List Row} {ms : List Member} {m : Member} → AreMembers rs ms → IsMember rows m → AreMembers (rs ++ rows) (ms ++ m ∷ [])
one_member {rows = rows} {m = m} nothing d = no_more (λ r. AreMembers r (m ∷ [])) rows (more d nothing)
one_member {rows = rows} {m = m} (more {rows = a} {others = b} {m = t} {ms = ts} c cs) d =
    grouped (λ r. AreMembers r (t ∷ (ts ++ m ∷ []))) a b rows (more c (one_member cs d))

pub one_type : {rs rows : List Row} {ts : List TypeDeclaration} {t : TypeDeclaration} → AreTypes rs ts → IsType rows t → AreTypes (rs ++ rows) (ts ++ t ∷ [])
one_type {rows = rows} {t = t} nothing d = no_more (λ r. AreTypes r (t ∷ [])) rows (more d nothing)
one_type {rows = rows} {t = t} (more {rows = a} {others = b} {t = u} {ts = us} c cs) d =
    grouped (λ r. AreTypes r (u ∷ (us ++ t ∷ []))) a b rows (more c (one_type cs d))

pub one_option : {rs : List Row} {os : List OptionStatement} → AreOptions rs os → (line : ℕ) (s : OptionSetting)
    → AreOptions (rs ++ whole line (item.Option s) ∷ []) (os ++ record { line = line; setting = s } ∷ [])
one_option nothing line s = more nothing
one_option (more d) line s = more (one_option d line s)

pub one_imports : {rs : List Row} {is : List ImportsStatement} → AreImports rs is → (line : ℕ) (ns : List (List Name))
    → AreImports (rs ++ whole line (item.Imports ns) ∷ []) (is ++ record { line = line; namespaces = ns } ∷ [])
one_imports nothing line ns = more nothing
one_imports (more d) line ns = more (one_imports d line ns)

pub one_list : {says : List TypeName → DeclarationLine} {rs : List Row} {ls : List InterfaceList} → AreInterfaceLists says rs ls → (line : ℕ) (ts : List TypeName)
    → AreInterfaceLists says (rs ++ whole line (item.Declares (says ts)) ∷ []) (ls ++ record { line = line; interfaces = ts } ∷ [])
one_list nothing line ts = more nothing
one_list (more d) line ts = more (one_list d line ts)

pub one_header : {rs : List Row} {ms : List InterfaceMember} {h : InterfaceHeader} → AreInterfaceMembers rs ms → (line : ℕ) (x : Item) → interface_member x ≡ Some h
    → AreInterfaceMembers (rs ++ whole line x ∷ []) (ms ++ record { line = line; header = h } ∷ [])
one_header nothing line x e = more e nothing
one_header (more f d) line x e = more f (one_header d line x e)
