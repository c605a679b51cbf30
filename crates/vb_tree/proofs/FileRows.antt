-- The rows of a type lead from the types before it to those with it, and the rows of a file from its beginning to its tree.
use Rattle.std.proofs.Common.{◌≡◌, ℕ, List, [], ◌∷◌, ◌++◌, Option, Some, None, refl, ap, sym, ◌∙◌, append_assoc, append-nil}
use Rattle.vb_text.specs.declared.names.Name.{Name}
use Rattle.vb_syntax.specs.declared.{types.{TypeName.TypeName, TypeParameter.TypeParameter}, declaration.{Access.Access, ClassModifier.ClassModifier, ClassBase.ClassBase, InterfaceList.InterfaceList, InterfaceHeader.InterfaceHeader, InterfaceMember.InterfaceMember, TypeDeclaration.TypeDeclaration, OptionStatement.OptionStatement, ImportsStatement.ImportsStatement, SourceFile.SourceFile}, item.{DeclarationLine.DeclarationLine, Row.Row}}
use Rattle.vb_syntax.specs.declared.item.Item.TheVariants as item
use Rattle.vb_blocks.specs.{declared.frame.{Frame.Frame, ClassParts.ClassParts, InterfaceParts.InterfaceParts, FileParts.FileParts}, Trees.{whole, IsBase, none, some, AreInterfaceLists, nothing, more, AreInterfaceMembers, IsType, module_block, class, interface, delegate, AreTypes, AreOptions, AreImports, IsTree, file}, Steps.{State, step, turned, interface_at, run, start, finished}}
use Rattle.vb_blocks.specs.declared.frame.Frame.TheVariants as frame
use Rattle.vb_blocks.specs.declared.frame.TypeHeader.TheVariants as type_header
use Rattle.vb_tree.proofs.{Leads.{Leads, here, on, and_on, leads_to, leads_run}, MemberRows.members_lead}

-- LISTS

-- parts that stand one behind the other in a frame
abbrev Puts : {A : Type 0} → (List A → Frame) → List Frame → (List Row → A → Type 0) → Type 0
Puts {A} F below Is = (before : List A) (rows : List Row) (x : A) → Is rows x → Leads (F before) below rows (F (before ++ x ∷ [])) below

none_put : {A : Type 0} (F : List A → Frame) (below : List Frame) (before : List A) → Leads (F before) below [] (F (before ++ [])) below
none_put F below before = leads_to here (ap (λ ys. (F ys, below)) (sym (append-nil before)))

one_put : {A : Type 0} (F : List A → Frame) {below : List Frame} {f : Frame} {fs : List Frame} {rows : List Row} (before : List A) (x : A) (xs : List A)
    → Leads f fs rows (F ((before ++ x ∷ []) ++ xs)) below → Leads f fs rows (F (before ++ x ∷ xs)) below
one_put F {below} before x xs a = leads_to a (ap (λ ys. (F ys, below)) (append_assoc before (x ∷ []) xs))

lists_lead : {says : List TypeName → DeclarationLine} {rows : List Row} {ls : List InterfaceList} → AreInterfaceLists says rows ls → (F : List InterfaceList → Frame) (below : List Frame)
    → ((before : List InterfaceList) (line : ℕ) (ts : List TypeName) → step (F before) below (whole line (item.Declares (says ts))) ≡ Some (F (before ++ record { line = line; interfaces = ts } ∷ []), below))
    → (before : List InterfaceList) → Leads (F before) below rows (F (before ++ ls)) below
lists_lead nothing F below goes before = none_put F below before
lists_lead (more {line = line} {ts = ts} {ls = ls} d) F below goes before =
    one_put F before (record { line = line; interfaces = ts }) ls (on (goes before line ts) (lists_lead d F below goes (before ++ record { line = line; interfaces = ts } ∷ [])))

-- CLASSES

abbrev pub class_parts : ℕ → Option Access → Option ClassModifier → Name → List TypeParameter → Option ClassBase → List InterfaceList → ClassParts
class_parts line a c n ps b ls = record { line = line; access = a; modifier = c; name = n; type_parameters = ps; base = b; implements = ls }

base_leads : {rows : List Row} {b : Option ClassBase} → IsBase rows b → (line : ℕ) (a : Option Access) (c : Option ClassModifier) (n : Name) (ps : List TypeParameter) (below : List Frame)
    → Leads (frame.Members (type_header.Class (class_parts line a c n ps None [])) []) below rows (frame.Members (type_header.Class (class_parts line a c n ps b [])) []) below
base_leads none line a c n ps below = here
base_leads some line a c n ps below = on refl here

-- INTERFACES

abbrev pub interface_parts : ℕ → Option Access → Name → List TypeParameter → List InterfaceList → List InterfaceMember → InterfaceParts
interface_parts line a n ps ls ms = record { line = line; access = a; name = n; type_parameters = ps; inherits = ls; members = ms }

headers_lead : {rows : List Row} {ms : List InterfaceMember} → AreInterfaceMembers rows ms
    → (line : ℕ) (a : Option Access) (n : Name) (ps : List TypeParameter) (ls : List InterfaceList) (before : List InterfaceMember) (below : List Frame)
    → Leads (frame.Interface (interface_parts line a n ps ls before)) below rows (frame.Interface (interface_parts line a n ps ls (before ++ ms))) below
headers_lead nothing line a n ps ls before below = none_put (λ ms. frame.Interface (interface_parts line a n ps ls ms)) below before
headers_lead (more {line = at} {x = x} {h = h} {ms = ms} e d) line a n ps ls before below =
    let m : InterfaceMember = record { line = at; header = h } in
    one_put (λ ys. frame.Interface (interface_parts line a n ps ls ys)) before m ms
    (on (ap (λ (o : Option InterfaceHeader). turned (interface_at (interface_parts line a n ps ls before) at x o) below) e) (headers_lead d line a n ps ls (before ++ m ∷ []) below))

-- FILES

abbrev pub file_parts : List OptionStatement → List ImportsStatement → List TypeDeclaration → FileParts
file_parts os is ts = record { options = os; imports = is; types = ts }

type_leads : {rows : List Row} {t : TypeDeclaration} → IsType rows t → (os : List OptionStatement) (is : List ImportsStatement) (ts : List TypeDeclaration)
    → Leads (frame.File (file_parts os is ts)) [] rows (frame.File (file_parts os is (ts ++ t ∷ []))) []
type_leads (module_block {line = line} last {a = a} {n = n} ds) os is ts =
    on refl (and_on (members_lead ds (type_header.Module line a n) [] (frame.File (file_parts os is ts) ∷ [])) (on refl here))
type_leads (class {line = line} last {a = a} {c = c} {n = n} {ps = ps} {base = b} {ls = ls} d lists ds) os is ts =
    let below : List Frame = frame.File (file_parts os is ts) ∷ [] in
    on refl (and_on (base_leads d line a c n ps below)
    (and_on (lists_lead lists (λ xs. frame.Members (type_header.Class (class_parts line a c n ps b xs)) []) below (λ before at xs. refl) [])
    (and_on (members_lead ds (type_header.Class (class_parts line a c n ps b ls)) [] below) (on refl here))))
type_leads (interface {line = line} last {a = a} {n = n} {ps = ps} {ls = ls} lists ds) os is ts =
    let below : List Frame = frame.File (file_parts os is ts) ∷ [] in
    on refl (and_on (lists_lead lists (λ xs. frame.Interface (interface_parts line a n ps xs [])) below (λ before at xs. refl) [])
    (and_on (headers_lead ds line a n ps ls [] below) (on refl here)))
type_leads delegate os is ts = on refl here

types_lead : {rows : List Row} {others : List TypeDeclaration} → AreTypes rows others → (os : List OptionStatement) (is : List ImportsStatement) (ts : List TypeDeclaration)
    → Leads (frame.File (file_parts os is ts)) [] rows (frame.File (file_parts os is (ts ++ others))) []
types_lead nothing os is ts = none_put (λ ys. frame.File (file_parts os is ys)) [] ts
types_lead (more {t = t} {ts = others} d ds) os is ts =
    one_put (λ ys. frame.File (file_parts os is ys)) ts t others (and_on (type_leads d os is ts) (types_lead ds os is (ts ++ t ∷ [])))

options_lead : {rows : List Row} {others : List OptionStatement} → AreOptions rows others → (os : List OptionStatement)
    → Leads (frame.File (file_parts os [] [])) [] rows (frame.File (file_parts (os ++ others) [] [])) []
options_lead nothing os = none_put (λ ys. frame.File (file_parts ys [] [])) [] os
options_lead (more {line = line} {s = s} {os = others} d) os =
    one_put (λ ys. frame.File (file_parts ys [] [])) os (record { line = line; setting = s }) others (on refl (options_lead d (os ++ record { line = line; setting = s } ∷ [])))

imports_lead : {rows : List Row} {others : List ImportsStatement} → AreImports rows others → (os : List OptionStatement) (is : List ImportsStatement)
    → Leads (frame.File (file_parts os is [])) [] rows (frame.File (file_parts os (is ++ others) [])) []
imports_lead nothing os is = none_put (λ ys. frame.File (file_parts os ys [])) [] is
imports_lead (more {line = line} {ns = ns} {is = others} d) os is =
    one_put (λ ys. frame.File (file_parts os ys [])) is (record { line = line; namespaces = ns }) others (on refl (imports_lead d os (is ++ record { line = line; namespaces = ns } ∷ [])))

-- what the rows of a tree lead to
pub record LeadsToTree (n : ℕ) (rows : List Row) (tree : SourceFile) : Type 0 where
  pub parts : FileParts
  pub leads : Leads start [] rows (frame.File parts) []
  pub is : finished n (frame.File parts) [] ≡ Some tree

pub tree_leads : {n : ℕ} {rows : List Row} {tree : SourceFile} → IsTree n rows tree → LeadsToTree n rows tree
tree_leads (file {os = os} {is = is} {ts = ts} a b c) = record {
  parts = file_parts os is ts;
  leads = and_on (options_lead a []) (and_on (imports_lead b os []) (types_lead c os is []));
  is = refl;
}

-- ONE TREE

abbrev over : ℕ → Option State → Option SourceFile
over n None = None
over n (Some st) = finished n st.0 st.1

pub tree_is : {n : ℕ} {rows : List Row} {tree : SourceFile} → IsTree n rows tree → over n (run rows start []) ≡ Some tree
tree_is {n} t = let l = tree_leads t in ap (λ (o : Option State). over n o) (leads_run l.leads) ∙ l.is

pub same_tree : (n : ℕ) (rows : List Row) (t u : SourceFile) → IsTree n rows t → IsTree n rows u → t ≡ u
same_tree n rows t u a b = let p = tree_is a in let q = tree_is b in cc
