-- The rows of a tree have their joints in place, where labels stand at the fronts of lines.
use Rattle.std.proofs.Common.{◌≡◌, ◌⊎◌, inl, inr, ℕ, ◌+◌, ◌-◌, nat_lt, Bool, true, false, ◌&&◌, ◌||◌, List, [], ◌∷◌, ◌++◌, Option, Some, refl, sym, subst, append_assoc, append-nil, arith}
use Rattle.vb_text.specs.declared.names.Name.{Name}
use Rattle.vb_syntax.specs.{declared.{types.TypeName.TypeName, statement.{StatementForm.StatementForm, Statement.Statement, ElseIfClause.ElseIfClause, CaseClause.CaseClause, CatchClause.CatchClause, BlockClause.BlockClause}, declaration.{GetAccessor.GetAccessor, SetAccessor.SetAccessor, EventAccessor.EventAccessor, Member.Member, ClassBase.ClassBase, InterfaceList.InterfaceList, InterfaceMember.InterfaceMember, TypeDeclaration.TypeDeclaration, OptionStatement.OptionStatement, ImportsStatement.ImportsStatement, SourceFile.SourceFile}, item.{EventAccessorKind.EventAccessorKind, DeclarationLine.DeclarationLine, Item.Item, Joint.Joint, Row.Row}}, Items.{is_simple, is_end}}
use Rattle.vb_syntax.specs.declared.item.Item.TheVariants as item
use Rattle.vb_syntax.specs.declared.item.Joint.TheVariants as joint
use Rattle.vb_blocks.specs.Trees.{whole, simple_form, IsSimple, alone, line_if, line_if_else, AreSimple, one, more, IsStatement, simple, block, if_block, select, try_block, AreStatements, no_statements, more_statements, AreElseIfs, no_else_ifs, more_else_ifs, AreCases, no_cases, more_cases, AreCatches, no_catches, more_catches, IsLastClause, no_clause, clause, IsGet, IsSet, none, some, IsEventAccessor, accessor_block, AreEventAccessors, nothing, add, remove, raise, IsMember, bare, property, custom_event, AreMembers, AreInterfaceMembers, IsBase, AreInterfaceLists, IsType, module_block, class, interface, delegate, AreTypes, AreOptions, AreImports, IsTree, file}
use Rattle.vb_rows.specs.Rows.{fits, waiting_behind, are_in_place}

-- a label stands alone at the front of a line: behind an end, and an end is behind it
abbrev pub IsFree : Joint → Row → Type 0
IsFree from r = (n : Name) → r.item ≡ Some (item.Label n) → (from ≡ joint.End) × (r.behind ≡ joint.End)

abbrev pub AreFree : Joint → List Row → Type 0
AreFree from [] = Unit {0}
AreFree from (r ∷ rs) = IsFree from r × AreFree r.behind rs

-- rows with their labels so are in place
abbrev pub InPlace : Joint → ℕ → List Row → Type 0
InPlace from waiting rows = AreFree from rows → are_in_place from waiting rows ≡ true

-- ON ONE LINE

-- where a statement ends, an `If` waits for the `Else`
abbrev Ends : Joint → ℕ → Type 0
Ends joint.Else waiting = nat_lt 0 waiting ≡ true
Ends joint.Then waiting = ⊥
Ends j waiting = Unit {0}

or_true : (a b : Bool) → b ≡ true → (a || b) ≡ true
or_true true b h = refl
or_true false b h = h

both : (a b : Bool) → a ≡ true → b ≡ true → (a && b) ≡ true
both true b h i = i
both false b h i = h

simple_fits : (from j : Joint) (w : ℕ) (x : Item) → is_simple x ≡ true → Ends j w → fits from w j x ≡ true
simple_fits from joint.End w x h e = or_true (is_end from) (is_simple x) h
simple_fits from joint.Else w x h e = both (is_simple x) (nat_lt 0 w) h e
simple_fits from joint.Then w x h e = absurd e
simple_fits from joint.Colon w x h e = h

-- a statement without a block is simple, or a label
of_form : (x : Item) (f : StatementForm) → simple_form x ≡ Some f → (is_simple x ≡ true) ⊎ ((n : Name) × (Some x ≡ Some (item.Label n)))
of_form (item.Label n) f e = inr (n, refl)
of_form x f e = inl cc

label_fits : (from j : Joint) (w : ℕ) (x : Item) → from ≡ joint.End → j ≡ joint.End → fits from w j x ≡ true
label_fits joint.End joint.End w x e f = refl
label_fits from j w x e f = absurd cc

form_fits : (from j : Joint) (w line : ℕ) (x : Item) (f : StatementForm) → simple_form x ≡ Some f → IsFree from (record { line = line; item = Some x; behind = j }) → Ends j w → fits from w j x ≡ true
form_fits from j w line x f e free ends = elim (of_form x f e) [
  | inl h ↦ simple_fits from j w x h ends
  | inr k ↦ let at = free k.0 k.1 in label_fits from j w x at.0 at.1
]

-- the `If` that waited has its `Else`
again : (w : ℕ) → w ≡ w + 1 - 1
again w = omega arith

mutual
  simple_in_place : {behind : Joint} {rows : List Row} {s : Statement} → IsSimple behind rows s → (from : Joint) (w : ℕ) (rest : List Row) → Ends behind w
      → InPlace behind (waiting_behind w behind) rest → InPlace from w (rows ++ rest)
  simple_in_place (alone {behind = j} {line = line} {x = x} {f = f} e) from w rest ends later =
      λ free. both (fits from w j x) (are_in_place j (waiting_behind w j) rest) (form_fits from j w line x f e free.0 ends) (later free.1)
  simple_in_place (line_if d) from w rest ends later = λ free. simples_in_place d joint.Then (w + 1) rest tt later free.1
  simple_in_place (line_if_else {rows = rows} {others = others} d a m) from w rest ends later =
      let behind : InPlace joint.Else (w + 1 - 1) (others ++ rest) =
      subst (λ (n : ℕ). InPlace joint.Else n (others ++ rest)) (again w) (simples_in_place a joint.Else w rest ends later) in
      let all : InPlace joint.Then (w + 1) ((rows ++ others) ++ rest) =
      subst (λ (rs : List Row). InPlace joint.Then (w + 1) rs) (sym (append_assoc rows others rest)) (simples_in_place d joint.Then (w + 1) (others ++ rest) (grind arith) behind) in
      λ free. all free.1

  simples_in_place : {behind : Joint} {rows : List Row} {ss : List Statement} → AreSimple behind rows ss → (from : Joint) (w : ℕ) (rest : List Row) → Ends behind w
      → InPlace behind (waiting_behind w behind) rest → InPlace from w (rows ++ rest)
  simples_in_place (one d) from w rest ends later = simple_in_place d from w rest ends later
  simples_in_place (more {rows = rows} {others = others} d ds) from w rest ends later =
      subst (λ (rs : List Row). InPlace from w rs) (sym (append_assoc rows others rest)) (simple_in_place d from w (others ++ rest) tt (simples_in_place ds joint.Colon w rest ends later))

-- ALL PARTS

-- before rows that are in place these are too
record Keeps (rows : List Row) : Type 0 where
  in_place : (rest : List Row) → InPlace joint.End 0 rest → InPlace joint.End 0 (rows ++ rest)

no_row : Keeps []
no_row = record { in_place = λ rest later. later }

row_and : {line : ℕ} {x : Item} {rows : List Row} → Keeps rows → Keeps (whole line x ∷ rows)
row_and k = record { in_place = λ rest later free. k.in_place rest later free.1 }

one_row : {line : ℕ} {x : Item} → Keeps (whole line x ∷ [])
one_row = row_and no_row

and_then : {rows others : List Row} → Keeps rows → Keeps others → Keeps (rows ++ others)
and_then {rows} {others} k l = record { in_place = λ rest later. subst (λ (rs : List Row). InPlace joint.End 0 rs) (sym (append_assoc rows others rest)) (k.in_place (others ++ rest) (l.in_place rest later)) }

mutual
  statement_keeps : {rows : List Row} {s : Statement} → IsStatement rows s → Keeps rows
  statement_keeps (simple d) = record { in_place = λ rest later. simple_in_place d joint.End 0 rest tt later }
  statement_keeps (block last y ds e) = row_and (and_then (statements_keep ds) one_row)
  statement_keeps (if_block last ds cs o) = row_and (and_then (statements_keep ds) (and_then (else_ifs_keep cs) (and_then (clause_keeps o) one_row)))
  statement_keeps (select last cs o) = row_and (and_then (cases_keep cs) (and_then (clause_keeps o) one_row))
  statement_keeps (try_block last ds cs o) = row_and (and_then (statements_keep ds) (and_then (catches_keep cs) (and_then (clause_keeps o) one_row)))

  statements_keep : {rows : List Row} {ss : List Statement} → AreStatements rows ss → Keeps rows
  statements_keep no_statements = no_row
  statements_keep (more_statements d ds) = and_then (statement_keeps d) (statements_keep ds)

  else_ifs_keep : {rows : List Row} {cs : List ElseIfClause} → AreElseIfs rows cs → Keeps rows
  else_ifs_keep no_else_ifs = no_row
  else_ifs_keep (more_else_ifs ds cs) = row_and (and_then (statements_keep ds) (else_ifs_keep cs))

  cases_keep : {rows : List Row} {cs : List CaseClause} → AreCases rows cs → Keeps rows
  cases_keep no_cases = no_row
  cases_keep (more_cases ds cs) = row_and (and_then (statements_keep ds) (cases_keep cs))

  catches_keep : {rows : List Row} {cs : List CatchClause} → AreCatches rows cs → Keeps rows
  catches_keep no_catches = no_row
  catches_keep (more_catches ds cs) = row_and (and_then (statements_keep ds) (catches_keep cs))

  clause_keeps : {x : Item} {rows : List Row} {o : Option BlockClause} → IsLastClause x rows o → Keeps rows
  clause_keeps no_clause = no_row
  clause_keeps (clause ds) = row_and (statements_keep ds)

-- MEMBERS

get_keeps : {rows : List Row} {g : Option GetAccessor} → IsGet rows g → Keeps rows
get_keeps none = no_row
get_keeps (some last ds) = row_and (and_then (statements_keep ds) one_row)

set_keeps : {rows : List Row} {s : Option SetAccessor} → IsSet rows s → Keeps rows
set_keeps none = no_row
set_keeps (some last ds) = row_and (and_then (statements_keep ds) one_row)

accessor_keeps : {k : EventAccessorKind} {rows : List Row} {a : EventAccessor} → IsEventAccessor k rows a → Keeps rows
accessor_keeps (accessor_block last ds) = row_and (and_then (statements_keep ds) one_row)

accessors_keep : {rows : List Row} {a r s : Option EventAccessor} → AreEventAccessors rows a r s → Keeps rows
accessors_keep nothing = no_row
accessors_keep (add others a) = and_then (accessors_keep others) (accessor_keeps a)
accessors_keep (remove others a) = and_then (accessors_keep others) (accessor_keeps a)
accessors_keep (raise others a) = and_then (accessors_keep others) (accessor_keeps a)

member_keeps : {rows : List Row} {m : Member} → IsMember rows m → Keeps rows
member_keeps (bare e) = one_row
member_keeps (block last y ds e) = row_and (and_then (statements_keep ds) one_row)
member_keeps (property last e g s) = row_and (and_then (get_keeps g) (and_then (set_keeps s) one_row))
member_keeps (custom_event last others) = row_and (and_then (accessors_keep others) one_row)

members_keep : {rows : List Row} {ms : List Member} → AreMembers rows ms → Keeps rows
members_keep nothing = no_row
members_keep (more d ds) = and_then (member_keeps d) (members_keep ds)

headers_keep : {rows : List Row} {ms : List InterfaceMember} → AreInterfaceMembers rows ms → Keeps rows
headers_keep nothing = no_row
headers_keep (more e ds) = row_and (headers_keep ds)

-- TYPES AND FILES

base_keeps : {rows : List Row} {b : Option ClassBase} → IsBase rows b → Keeps rows
base_keeps none = no_row
base_keeps some = one_row

lists_keep : {says : List TypeName → DeclarationLine} {rows : List Row} {ls : List InterfaceList} → AreInterfaceLists says rows ls → Keeps rows
lists_keep nothing = no_row
lists_keep (more ds) = row_and (lists_keep ds)

type_keeps : {rows : List Row} {t : TypeDeclaration} → IsType rows t → Keeps rows
type_keeps (module_block last ms) = row_and (and_then (members_keep ms) one_row)
type_keeps (class last b ls ms) = row_and (and_then (base_keeps b) (and_then (lists_keep ls) (and_then (members_keep ms) one_row)))
type_keeps (interface last ls ms) = row_and (and_then (lists_keep ls) (and_then (headers_keep ms) one_row))
type_keeps delegate = one_row

types_keep : {rows : List Row} {ts : List TypeDeclaration} → AreTypes rows ts → Keeps rows
types_keep nothing = no_row
types_keep (more d ds) = and_then (type_keeps d) (types_keep ds)

options_keep : {rows : List Row} {os : List OptionStatement} → AreOptions rows os → Keeps rows
options_keep nothing = no_row
options_keep (more ds) = row_and (options_keep ds)

imports_keep : {rows : List Row} {is : List ImportsStatement} → AreImports rows is → Keeps rows
imports_keep nothing = no_row
imports_keep (more ds) = row_and (imports_keep ds)

tree_keeps : {n : ℕ} {rows : List Row} {tree : SourceFile} → IsTree n rows tree → Keeps rows
tree_keeps (file os is ts) = and_then (options_keep os) (and_then (imports_keep is) (types_keep ts))

pub tree_in_place : (n : ℕ) (rows : List Row) (tree : SourceFile) → IsTree n rows tree → AreFree joint.End rows → are_in_place joint.End 0 rows ≡ true
tree_in_place n rows tree is =
    let k = tree_keeps is in
    subst (λ (rs : List Row). InPlace joint.End 0 rs) (append-nil rows) (k.in_place [] (λ free. refl))
