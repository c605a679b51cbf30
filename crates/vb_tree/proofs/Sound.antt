-- The frames stand for the rows that led to them.
use Rattle.std.proofs.Common.{◌≡◌, ℕ, List, [], ◌∷◌, ◌++◌, Option, Some, None, refl, append_assoc, append-nil, subst}
use Rattle.vb_text.specs.declared.names.Name.{Name}
use Rattle.vb_syntax.specs.declared.{types.TypeParameter.TypeParameter, declaration.{Access.Access, InterfaceList.InterfaceList, InterfaceMember.InterfaceMember, InterfaceHeader.InterfaceHeader, TypeDeclaration.TypeDeclaration, OptionStatement.OptionStatement, ImportsStatement.ImportsStatement}, item.{Item.Item, Row.Row}}
use Rattle.vb_syntax.specs.declared.declaration.TypeForm.TheVariants as type_form
use Rattle.vb_syntax.specs.declared.item.DeclarationLine.TheVariants as header
use Rattle.vb_syntax.specs.declared.item.BlockWord.TheVariants as word
use Rattle.vb_syntax.specs.declared.item.Item.TheVariants as item
use Rattle.vb_blocks.specs.declared.frame.{Frame.Frame, Turn.Turn}
use Rattle.vb_blocks.specs.declared.frame.Frame.TheVariants as frame
use Rattle.vb_blocks.specs.declared.frame.TypeHeader.TheVariants as type_header
use Rattle.vb_blocks.specs.declared.frame.Whole.TheVariants as is
use Rattle.vb_blocks.specs.declared.frame.Turn.TheVariants as turn
use Rattle.vb_blocks.specs.Trees as tree
use Rattle.vb_blocks.specs.Trees.{
  row,
  whole,
  statement,
  member_of,
  simple_form,
  enclosed,
  else_if,
  case,
  catch,
  last_clause,
  bare_member,
  procedure,
  IsSimple,
  AreSimple,
  IsStatement,
  AreStatements,
  AreElseIfs,
  AreCases,
  AreCatches,
  IsLastClause,
  IsGet,
  IsSet,
  IsEventAccessor,
  AreEventAccessors,
  IsMember,
  AreMembers,
  IsBase,
  AreInterfaceLists,
  AreInterfaceMembers,
  IsType,
  AreTypes,
  AreOptions,
  AreImports,
}
use Rattle.vb_blocks.specs.Steps.{frame_turn, interface_at, interface_more, file_turn}
use Rattle.vb_tree.proofs.{FileRows.{class_parts, interface_parts, file_parts}, Standing.{front_module, front_class, Stands, stands_body, stands_line, stands_select, stands_property, stands_event, stands_members, stands_interface, stands_file, Turned}, Ends.{grouped, one_type, one_option, one_imports, one_list, one_header}, FrameTurns.{body_turns, select_turns_first, property_turns, event_turns, members_turns}}

-- INTERFACES AND FILES

interface_more_turns : (l : ℕ) (a : Option Access) (n : Name) (ps : List TypeParameter) (ls : List InterfaceList) (ms : List InterfaceMember) (lists rows : List Row)
    → AreInterfaceLists header.Inherits lists ls → AreInterfaceMembers rows ms → (line : ℕ) (x : Item) (t : Turn) → interface_more (interface_parts l a n ps ls ms) line x ≡ Some t
    → Turned (frame.Interface (interface_parts l a n ps ls ms)) (whole l (item.Declares (header.Interface a n ps)) ∷ (lists ++ rows)) (whole line x) t
interface_more_turns l a n ps ls ms lists rows i d line (item.End word.Interface) t e =
    let P : Turn → Type 0 = λ s. Turned (frame.Interface (interface_parts l a n ps ls ms)) (whole l (item.Declares (header.Interface a n ps)) ∷ (lists ++ rows)) (whole line (item.End word.Interface)) s in
    let y : TypeDeclaration = record { line = l; access = a; name = n; form = type_form.Interface ps ls ms } in
    let g : turn.Closes (is.Type y) ≡ t = cc in
    subst P g (grouped (λ r. IsType (whole l (item.Declares (header.Interface a n ps)) ∷ r) y) lists rows (whole line (item.End word.Interface) ∷ []) (tree.interface line i d), refl)
interface_more_turns l a n ps ls [] lists rows i tree.nothing line (item.Declares (header.Inherits ts)) t e =
    let r : Row = whole line (item.Declares (header.Inherits ts)) in
    let P : Turn → Type 0 = λ s. Turned (frame.Interface (interface_parts l a n ps ls [])) (whole l (item.Declares (header.Interface a n ps)) ∷ (lists ++ [])) r s in
    let f : Frame = frame.Interface (interface_parts l a n ps (ls ++ record { line = line; interfaces = ts } ∷ []) []) in
    let g : turn.Goes f ≡ t = cc in
    let same : whole l (item.Declares (header.Interface a n ps)) ∷ ((lists ++ r ∷ []) ++ []) ≡ (whole l (item.Declares (header.Interface a n ps)) ∷ (lists ++ [])) ++ r ∷ [] = simp (append_assoc, append-nil) in
    subst P g (subst (λ (rs : List Row). Stands f rs) same (stands_interface (one_list i line ts) tree.nothing), refl)
interface_more_turns l a n ps ls (m ∷ ms) lists rows i d line (item.Declares (header.Inherits ts)) t e = absurd cc
interface_more_turns l a n ps ls ms lists rows i d line x t e = absurd cc

interface_turns : (l : ℕ) (a : Option Access) (n : Name) (ps : List TypeParameter) (ls : List InterfaceList) (ms : List InterfaceMember) (lists rows : List Row)
    → AreInterfaceLists header.Inherits lists ls → AreInterfaceMembers rows ms → (line : ℕ) (x : Item) (o : Option InterfaceHeader) (t : Turn) → tree.interface_member x ≡ o
    → interface_at (interface_parts l a n ps ls ms) line x o ≡ Some t
    → Turned (frame.Interface (interface_parts l a n ps ls ms)) (whole l (item.Declares (header.Interface a n ps)) ∷ (lists ++ rows)) (whole line x) t
interface_turns l a n ps ls ms lists rows i d line x None t was e = interface_more_turns l a n ps ls ms lists rows i d line x t e
interface_turns l a n ps ls ms lists rows i d line x (Some h) t was e =
    let P : Turn → Type 0 = λ s. Turned (frame.Interface (interface_parts l a n ps ls ms)) (whole l (item.Declares (header.Interface a n ps)) ∷ (lists ++ rows)) (whole line x) s in
    let f : Frame = frame.Interface (interface_parts l a n ps ls (ms ++ record { line = line; header = h } ∷ [])) in
    let g : turn.Goes f ≡ t = cc in
    subst P g (grouped (λ r. Stands f (whole l (item.Declares (header.Interface a n ps)) ∷ r)) lists rows (whole line x ∷ []) (stands_interface i (one_header d line x was)), refl)

file_turns : (os : List OptionStatement) (is_ : List ImportsStatement) (ts : List TypeDeclaration) (options imports types : List Row)
    → AreOptions options os → AreImports imports is_ → AreTypes types ts → (line : ℕ) (x : Item) (t : Turn) → file_turn (file_parts os is_ ts) line x ≡ Some t
    → Turned (frame.File (file_parts os is_ ts)) (options ++ (imports ++ types)) (whole line x) t
file_turns os [] [] options imports types a tree.nothing tree.nothing line (item.Option s) t e =
    let r : Row = whole line (item.Option s) in
    let P : Turn → Type 0 = λ u. Turned (frame.File (file_parts os [] [])) (options ++ []) r u in
    let f : Frame = frame.File (file_parts (os ++ record { line = line; setting = s } ∷ []) [] []) in
    let g : turn.Goes f ≡ t = cc in
    let same : (options ++ r ∷ []) ++ [] ≡ (options ++ []) ++ r ∷ [] = simp (append_assoc, append-nil) in
    subst P g (subst (λ (rs : List Row). Stands f rs) same (stands_file (one_option a line s) tree.nothing tree.nothing), refl)
file_turns os (i ∷ is_) ts options imports types a b c line (item.Option s) t e = absurd cc
file_turns os [] (u ∷ ts) options imports types a b c line (item.Option s) t e = absurd cc
file_turns os is_ [] options imports types a b tree.nothing line (item.Imports ns) t e =
    let r : Row = whole line (item.Imports ns) in
    let P : Turn → Type 0 = λ u. Turned (frame.File (file_parts os is_ [])) (options ++ (imports ++ [])) r u in
    let f : Frame = frame.File (file_parts os (is_ ++ record { line = line; namespaces = ns } ∷ []) []) in
    let g : turn.Goes f ≡ t = cc in
    let same : options ++ ((imports ++ r ∷ []) ++ []) ≡ (options ++ (imports ++ [])) ++ r ∷ [] = simp (append_assoc, append-nil) in
    subst P g (subst (λ (rs : List Row). Stands f rs) same (stands_file a (one_imports b line ns) tree.nothing), refl)
file_turns os is_ (u ∷ ts) options imports types a b c line (item.Imports ns) t e = absurd cc
file_turns os is_ ts options imports types a b c line (item.Declares (header.Delegate x k n ps xs y)) t e =
    let r : Row = whole line (item.Declares (header.Delegate x k n ps xs y)) in
    let P : Turn → Type 0 = λ u. Turned (frame.File (file_parts os is_ ts)) (options ++ (imports ++ types)) r u in
    let d : TypeDeclaration = record { line = line; access = x; name = n; form = type_form.Delegate k ps xs y } in
    let f : Frame = frame.File (file_parts os is_ (ts ++ d ∷ [])) in
    let g : turn.Goes f ≡ t = cc in
    let same : options ++ (imports ++ (types ++ r ∷ [])) ≡ (options ++ (imports ++ types)) ++ r ∷ [] = simp append_assoc in
    subst P g (subst (λ (rs : List Row). Stands f rs) same (stands_file a b (one_type c tree.delegate)), refl)
file_turns os is_ ts options imports types a b c line (item.Declares (header.Module x n)) t e =
    let P : Turn → Type 0 = λ u. Turned (frame.File (file_parts os is_ ts)) (options ++ (imports ++ types)) (whole line (item.Declares (header.Module x n))) u in
    let g : turn.Opens (frame.File (file_parts os is_ ts)) (frame.Members (type_header.Module line x n) []) ≡ t = cc in
    subst P g (refl, stands_members front_module tree.nothing, refl)
file_turns os is_ ts options imports types a b c line (item.Declares (header.Class x k n ps)) t e =
    let P : Turn → Type 0 = λ u. Turned (frame.File (file_parts os is_ ts)) (options ++ (imports ++ types)) (whole line (item.Declares (header.Class x k n ps))) u in
    let g : turn.Opens (frame.File (file_parts os is_ ts)) (frame.Members (type_header.Class (class_parts line x k n ps None [])) []) ≡ t = cc in
    subst P g (refl, stands_members (front_class tree.none tree.nothing) tree.nothing, refl)
file_turns os is_ ts options imports types a b c line (item.Declares (header.Interface x n ps)) t e =
    let P : Turn → Type 0 = λ u. Turned (frame.File (file_parts os is_ ts)) (options ++ (imports ++ types)) (whole line (item.Declares (header.Interface x n ps))) u in
    let g : turn.Opens (frame.File (file_parts os is_ ts)) (frame.Interface (interface_parts line x n ps [] [])) ≡ t = cc in
    subst P g (refl, stands_interface tree.nothing tree.nothing, refl)
file_turns os is_ ts options imports types a b c line x t e = absurd cc

-- ALL FRAMES

pub frame_turns : (f : Frame) (rows : List Row) → Stands f rows → (line : ℕ) (x : Item) (t : Turn) → frame_turn f line x ≡ Some t → Turned f rows (whole line x) t
frame_turns f rows (stands_body {sc = sc} {ss = ss} {front = a} {rows = b} l fr d) line x t e = body_turns sc a b ss l fr d line x t e
frame_turns f rows (stands_line fr d) line x t e = absurd cc
frame_turns f rows (stands_select {line = l} {v = v}) line x t e = select_turns_first l v line x t e
frame_turns f rows (stands_property {line = l} {ms = ms} {h = h} {g = g} {s = s} {gets = gets} {sets = sets} free i j) line x t e = property_turns l ms h g s gets sets free i j line x t e
frame_turns f rows (stands_event {line = l} {ms = ms} {n = n} {t = d} {a = a} {b = b} {c = c} {rows = rs} i) line x t e = event_turns l ms n d a b c rs i line x t e
frame_turns f rows (stands_members {h = h} {ms = ms} {front = a} {rows = b} i d) line x t e = members_turns h ms a b i d line x t e
frame_turns f rows (stands_interface {line = l} {a = a} {n = n} {ps = ps} {ls = ls} {ms = ms} {lists = lists} {rows = rs} i d) line x t e =
    interface_turns l a n ps ls ms lists rs i d line x (tree.interface_member x) t refl e
frame_turns f rows (stands_file {os = os} {is = is_} {ts = ts} {options = o} {imports = i} {types = y} a b c) line x t e = file_turns os is_ ts o i y a b c line x t e
