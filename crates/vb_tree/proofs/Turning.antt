-- What a row makes of a frame stands for the frame's rows and this row.
use Rattle.std.proofs.Common.{◌≡◌, ℕ, List, [], ◌∷◌, ◌++◌, Option, Some, None, refl, ap, sym, ◌∙◌, append_assoc, append-nil, subst}
use Rattle.vb_syntax.specs.declared.{expression.Expr.Expr, statement.{CaseItem.CaseItem, CatchVariable.CatchVariable, Statement.Statement, BlockClause.BlockClause}, item.{Item.Item, Row.Row}}
use Rattle.vb_syntax.specs.declared.statement.StatementForm.TheVariants as form
use Rattle.vb_syntax.specs.declared.item.BlockWord.TheVariants as word
use Rattle.vb_syntax.specs.declared.item.Item.TheVariants as item
use Rattle.vb_blocks.specs.declared.scope.Scope.TheVariants as scope
use Rattle.vb_blocks.specs.declared.{scope.{IfParts.IfParts, IfClause.IfClause, SelectClause.SelectClause, TryClause.TryClause, SelectParts.SelectParts, TryParts.TryParts}, frame.{Frame.Frame, Turn.Turn}}
use Rattle.vb_blocks.specs.declared.scope.IfClause.TheVariants as if_clause
use Rattle.vb_blocks.specs.declared.scope.SelectClause.TheVariants as select_clause
use Rattle.vb_blocks.specs.declared.scope.TryClause.TheVariants as try_clause
use Rattle.vb_blocks.specs.declared.frame.Whole.TheVariants as is
use Rattle.vb_blocks.specs.declared.frame.Turn.TheVariants as turn
use Rattle.vb_blocks.specs.Trees as tree
use Rattle.vb_blocks.specs.Trees.{
  row,
  whole,
  statement,
  member_of,
  simple_form,
  enclosed,
  else_if,
  case,
  catch,
  last_clause,
  bare_member,
  procedure,
  IsSimple,
  AreSimple,
  IsStatement,
  AreStatements,
  AreElseIfs,
  AreCases,
  AreCatches,
  IsLastClause,
  IsGet,
  IsSet,
  IsEventAccessor,
  AreEventAccessors,
  IsMember,
  AreMembers,
  IsBase,
  AreInterfaceLists,
  AreInterfaceMembers,
  IsType,
  AreTypes,
  AreOptions,
  AreImports,
}
use Rattle.vb_blocks.specs.Steps.{body, if_next, if_end, if_turn, select_next, select_end, select_turn, try_next, try_end, try_turn, word_of}
use Rattle.vb_tree.proofs.{Standing.{a_statement, kind_of, IsIfParts, IsSelectParts, IsTryParts, IsFront, front_if, front_else_if, front_else, front_case, front_case_else, front_try, front_catch, front_finally, Stands, stands_body, Turned}, Ends.{grouped, no_more, one_else_if, one_case, one_catch}}

-- IF

if_ended : {p : IfParts} {rows others : List Row} {o : Option BlockClause} → IsIfParts p rows → IsLastClause item.Else others o → (last : ℕ)
    → IsStatement ((rows ++ others) ++ whole last (item.End word.If) ∷ []) (statement p.line (form.If p.test p.body p.else_ifs o))
if_ended {p} {rows} {others} {o} i l last =
    let P : List Row → Type 0 = λ r. IsStatement r (statement p.line (form.If p.test p.body p.else_ifs o)) in
    let e : (rows ++ others) ++ whole last (item.End word.If) ∷ []
    ≡ whole p.line (item.If p.test) ∷ (i.front ++ (i.clauses ++ (others ++ whole last (item.End word.If) ∷ []))) =
    ap (λ (r : List Row). (r ++ others) ++ whole last (item.End word.If) ∷ []) i.are ∙ simp append_assoc in
    subst P (sym e) (tree.if_block last i.body i.else_ifs l)

if_first : {line : ℕ} {t : Expr} {rows : List Row} {ss : List Statement} → AreStatements rows ss
    → IsIfParts (record { line = line; test = t; body = ss; else_ifs = [] }) (whole line (item.If t) ∷ rows)
if_first {line} {t} {rows} d = record { front = rows; clauses = []; body = d; else_ifs = tree.no_else_ifs; are = ap (λ (r : List Row). whole line (item.If t) ∷ r) (sym (append-nil rows)) }

if_later : {p : IfParts} {rows others : List Row} {ss : List Statement} → IsIfParts p rows → (line : ℕ) (t : Expr) → AreStatements others ss
    → IsIfParts (record { line = p.line; test = p.test; body = p.body; else_ifs = p.else_ifs ++ else_if line t ss ∷ [] }) ((rows ++ whole line (item.ElseIf t) ∷ []) ++ others)
if_later {p} {rows} {others} i line t d = record {
  front = i.front;
  clauses = i.clauses ++ whole line (item.ElseIf t) ∷ others;
  body = i.body;
  else_ifs = one_else_if i.else_ifs line t d;
  are = ap (λ (r : List Row). (r ++ whole line (item.ElseIf t) ∷ []) ++ others) i.are ∙ simp append_assoc;
}

-- a frame whose parts are these, with its rows
module _ (f : Frame) (is_statement : kind_of f ≡ a_statement) where
  if_next_turns : (p : IfParts) (rows : List Row) → IsIfParts p rows → (line : ℕ) (x : Item) (t : Turn) → if_next p line x ≡ Some t → Turned f rows (whole line x) t
  if_next_turns p rows i line (item.ElseIf u) t e =
      let P : Turn → Type 0 = λ s. Turned f rows (whole line (item.ElseIf u)) s in
      let g : turn.Goes (body (scope.If (if_clause.ElseIf p line u))) ≡ t = cc in
      subst P g (no_more (λ r. Stands (body (scope.If (if_clause.ElseIf p line u))) r) (rows ++ whole line (item.ElseIf u) ∷ []) (stands_body refl (front_else_if i) tree.no_statements), sym is_statement)
  if_next_turns p rows i line item.Else t e =
      let P : Turn → Type 0 = λ s. Turned f rows (whole line item.Else) s in
      let g : turn.Goes (body (scope.If (if_clause.Else p line))) ≡ t = cc in
      subst P g (no_more (λ r. Stands (body (scope.If (if_clause.Else p line))) r) (rows ++ whole line item.Else ∷ []) (stands_body refl (front_else i) tree.no_statements), sym is_statement)
  if_next_turns p rows i line (item.End word.If) t e =
      let P : Turn → Type 0 = λ s. Turned f rows (whole line (item.End word.If)) s in
      let s : Statement = statement p.line (form.If p.test p.body p.else_ifs None) in
      let g : turn.Closes (is.Statement s) ≡ t = cc in
      let Q : List Row → Type 0 = λ r. IsStatement (r ++ whole line (item.End word.If) ∷ []) s in
      subst P g (subst Q (append-nil rows) (if_ended i tree.no_clause line), sym is_statement)
  if_next_turns p rows i line x t e = absurd cc

  if_end_turns : (p : IfParts) (rows others : List Row) (o : Option BlockClause) → IsIfParts p rows → IsLastClause item.Else others o → (line : ℕ) (x : Item) (t : Turn)
      → if_end p o (word_of x) ≡ Some t → Turned f (rows ++ others) (whole line x) t
  if_end_turns p rows others o i l line (item.End word.If) t e =
      let P : Turn → Type 0 = λ s. Turned f (rows ++ others) (whole line (item.End word.If)) s in
      let g : turn.Closes (is.Statement (statement p.line (form.If p.test p.body p.else_ifs o))) ≡ t = cc in
      subst P g (if_ended i l line, sym is_statement)
  if_end_turns p rows others o i l line x t e = absurd cc

  pub if_turns : (c : IfClause) (front others : List Row) (ss : List Statement) → IsFront (scope.If c) front → AreStatements others ss → (line : ℕ) (x : Item) (t : Turn)
      → if_turn c ss line x ≡ Some t → Turned f (front ++ others) (whole line x) t
  if_turns c front others ss (front_if {line = l} {t = u}) d line x t e = if_next_turns (record { line = l; test = u; body = ss; else_ifs = [] }) (front ++ others) (if_first d) line x t e
  if_turns c front others ss (front_else_if {p = p} {rows = rows} {line = l} {t = u} i) d line x t e =
      if_next_turns (record { line = p.line; test = p.test; body = p.body; else_ifs = p.else_ifs ++ else_if l u ss ∷ [] }) (front ++ others) (if_later i l u d) line x t e
  if_turns c front others ss (front_else {p = p} {rows = rows} {line = l} i) d line x t e =
      grouped (λ r. Turned f r (whole line x) t) rows (whole l item.Else ∷ []) others (if_end_turns p rows (whole l item.Else ∷ others) (Some (last_clause l ss)) i (tree.clause d) line x t e)

-- SELECT CASE

select_ended : {p : SelectParts} {rows others : List Row} {o : Option BlockClause} → IsSelectParts p rows → IsLastClause item.CaseElse others o → (last : ℕ)
    → IsStatement ((rows ++ others) ++ whole last (item.End word.Select) ∷ []) (statement p.line (form.Select p.value p.cases o))
select_ended {p} {rows} {others} {o} i l last =
    let P : List Row → Type 0 = λ r. IsStatement r (statement p.line (form.Select p.value p.cases o)) in
    let e : (rows ++ others) ++ whole last (item.End word.Select) ∷ []
    ≡ whole p.line (item.Select p.value) ∷ (i.clauses ++ (others ++ whole last (item.End word.Select) ∷ [])) =
    ap (λ (r : List Row). (r ++ others) ++ whole last (item.End word.Select) ∷ []) i.are ∙ simp append_assoc in
    subst P (sym e) (tree.select last i.cases l)

select_later : {p : SelectParts} {rows others : List Row} {ss : List Statement} → IsSelectParts p rows → (line : ℕ) (t : List CaseItem) → AreStatements others ss
    → IsSelectParts (record { line = p.line; value = p.value; cases = p.cases ++ case line t ss ∷ [] }) ((rows ++ whole line (item.Case t) ∷ []) ++ others)
select_later {p} {rows} {others} i line t d = record {
  clauses = i.clauses ++ whole line (item.Case t) ∷ others;
  cases = one_case i.cases line t d;
  are = ap (λ (r : List Row). (r ++ whole line (item.Case t) ∷ []) ++ others) i.are ∙ simp append_assoc;
}

module _ (f : Frame) (is_statement : kind_of f ≡ a_statement) where
  pub select_next_turns : (p : SelectParts) (rows : List Row) → IsSelectParts p rows → (line : ℕ) (x : Item) (t : Turn) → select_next p line x ≡ Some t → Turned f rows (whole line x) t
  select_next_turns p rows i line (item.Case u) t e =
      let P : Turn → Type 0 = λ s. Turned f rows (whole line (item.Case u)) s in
      let g : turn.Goes (body (scope.Select (select_clause.Case p line u))) ≡ t = cc in
      subst P g (no_more (λ r. Stands (body (scope.Select (select_clause.Case p line u))) r) (rows ++ whole line (item.Case u) ∷ []) (stands_body refl (front_case i) tree.no_statements), sym is_statement)
  select_next_turns p rows i line item.CaseElse t e =
      let P : Turn → Type 0 = λ s. Turned f rows (whole line item.CaseElse) s in
      let g : turn.Goes (body (scope.Select (select_clause.Else p line))) ≡ t = cc in
      subst P g (no_more (λ r. Stands (body (scope.Select (select_clause.Else p line))) r) (rows ++ whole line item.CaseElse ∷ []) (stands_body refl (front_case_else i) tree.no_statements), sym is_statement)
  select_next_turns p rows i line (item.End word.Select) t e =
      let P : Turn → Type 0 = λ s. Turned f rows (whole line (item.End word.Select)) s in
      let s : Statement = statement p.line (form.Select p.value p.cases None) in
      let g : turn.Closes (is.Statement s) ≡ t = cc in
      let Q : List Row → Type 0 = λ r. IsStatement (r ++ whole line (item.End word.Select) ∷ []) s in
      subst P g (subst Q (append-nil rows) (select_ended i tree.no_clause line), sym is_statement)
  select_next_turns p rows i line x t e = absurd cc

  select_end_turns : (p : SelectParts) (rows others : List Row) (o : Option BlockClause) → IsSelectParts p rows → IsLastClause item.CaseElse others o → (line : ℕ) (x : Item) (t : Turn)
      → select_end p o (word_of x) ≡ Some t → Turned f (rows ++ others) (whole line x) t
  select_end_turns p rows others o i l line (item.End word.Select) t e =
      let P : Turn → Type 0 = λ s. Turned f (rows ++ others) (whole line (item.End word.Select)) s in
      let g : turn.Closes (is.Statement (statement p.line (form.Select p.value p.cases o))) ≡ t = cc in
      subst P g (select_ended i l line, sym is_statement)
  select_end_turns p rows others o i l line x t e = absurd cc

  pub select_turns : (c : SelectClause) (front others : List Row) (ss : List Statement) → IsFront (scope.Select c) front → AreStatements others ss → (line : ℕ) (x : Item) (t : Turn)
      → select_turn c ss line x ≡ Some t → Turned f (front ++ others) (whole line x) t
  select_turns c front others ss (front_case {p = p} {rows = rows} {line = l} {cs = u} i) d line x t e =
      select_next_turns (record { line = p.line; value = p.value; cases = p.cases ++ case l u ss ∷ [] }) (front ++ others) (select_later i l u d) line x t e
  select_turns c front others ss (front_case_else {p = p} {rows = rows} {line = l} i) d line x t e =
      grouped (λ r. Turned f r (whole line x) t) rows (whole l item.CaseElse ∷ []) others (select_end_turns p rows (whole l item.CaseElse ∷ others) (Some (last_clause l ss)) i (tree.clause d) line x t e)

-- TRY

try_ended : {p : TryParts} {rows others : List Row} {o : Option BlockClause} → IsTryParts p rows → IsLastClause item.Finally others o → (last : ℕ)
    → IsStatement ((rows ++ others) ++ whole last (item.End word.Try) ∷ []) (statement p.line (form.Try p.body p.catches o))
try_ended {p} {rows} {others} {o} i l last =
    let P : List Row → Type 0 = λ r. IsStatement r (statement p.line (form.Try p.body p.catches o)) in
    let e : (rows ++ others) ++ whole last (item.End word.Try) ∷ []
    ≡ whole p.line item.Try ∷ (i.front ++ (i.clauses ++ (others ++ whole last (item.End word.Try) ∷ []))) =
    ap (λ (r : List Row). (r ++ others) ++ whole last (item.End word.Try) ∷ []) i.are ∙ simp append_assoc in
    subst P (sym e) (tree.try_block last i.body i.catches l)

try_first : {line : ℕ} {rows : List Row} {ss : List Statement} → AreStatements rows ss
    → IsTryParts (record { line = line; body = ss; catches = [] }) (whole line item.Try ∷ rows)
try_first {line} {rows} d = record { front = rows; clauses = []; body = d; catches = tree.no_catches; are = ap (λ (r : List Row). whole line item.Try ∷ r) (sym (append-nil rows)) }

try_later : {p : TryParts} {rows others : List Row} {ss : List Statement} → IsTryParts p rows → (line : ℕ) (v : Option CatchVariable) (t : Option Expr) → AreStatements others ss
    → IsTryParts (record { line = p.line; body = p.body; catches = p.catches ++ catch line v t ss ∷ [] }) ((rows ++ whole line (item.Catch v t) ∷ []) ++ others)
try_later {p} {rows} {others} i line v t d = record {
  front = i.front;
  clauses = i.clauses ++ whole line (item.Catch v t) ∷ others;
  body = i.body;
  catches = one_catch i.catches line v t d;
  are = ap (λ (r : List Row). (r ++ whole line (item.Catch v t) ∷ []) ++ others) i.are ∙ simp append_assoc;
}

module _ (f : Frame) (is_statement : kind_of f ≡ a_statement) where
  try_next_turns : (p : TryParts) (rows : List Row) → IsTryParts p rows → (line : ℕ) (x : Item) (t : Turn) → try_next p line x ≡ Some t → Turned f rows (whole line x) t
  try_next_turns p rows i line (item.Catch v u) t e =
      let P : Turn → Type 0 = λ s. Turned f rows (whole line (item.Catch v u)) s in
      let g : turn.Goes (body (scope.Try (try_clause.Catch p line v u))) ≡ t = cc in
      subst P g (no_more (λ r. Stands (body (scope.Try (try_clause.Catch p line v u))) r) (rows ++ whole line (item.Catch v u) ∷ []) (stands_body refl (front_catch i) tree.no_statements), sym is_statement)
  try_next_turns p rows i line item.Finally t e =
      let P : Turn → Type 0 = λ s. Turned f rows (whole line item.Finally) s in
      let g : turn.Goes (body (scope.Try (try_clause.Finally p line))) ≡ t = cc in
      subst P g (no_more (λ r. Stands (body (scope.Try (try_clause.Finally p line))) r) (rows ++ whole line item.Finally ∷ []) (stands_body refl (front_finally i) tree.no_statements), sym is_statement)
  try_next_turns p rows i line (item.End word.Try) t e =
      let P : Turn → Type 0 = λ s. Turned f rows (whole line (item.End word.Try)) s in
      let s : Statement = statement p.line (form.Try p.body p.catches None) in
      let g : turn.Closes (is.Statement s) ≡ t = cc in
      let Q : List Row → Type 0 = λ r. IsStatement (r ++ whole line (item.End word.Try) ∷ []) s in
      subst P g (subst Q (append-nil rows) (try_ended i tree.no_clause line), sym is_statement)
  try_next_turns p rows i line x t e = absurd cc

  try_end_turns : (p : TryParts) (rows others : List Row) (o : Option BlockClause) → IsTryParts p rows → IsLastClause item.Finally others o → (line : ℕ) (x : Item) (t : Turn)
      → try_end p o (word_of x) ≡ Some t → Turned f (rows ++ others) (whole line x) t
  try_end_turns p rows others o i l line (item.End word.Try) t e =
      let P : Turn → Type 0 = λ s. Turned f (rows ++ others) (whole line (item.End word.Try)) s in
      let g : turn.Closes (is.Statement (statement p.line (form.Try p.body p.catches o))) ≡ t = cc in
      subst P g (try_ended i l line, sym is_statement)
  try_end_turns p rows others o i l line x t e = absurd cc

  pub try_turns : (c : TryClause) (front others : List Row) (ss : List Statement) → IsFront (scope.Try c) front → AreStatements others ss → (line : ℕ) (x : Item) (t : Turn)
      → try_turn c ss line x ≡ Some t → Turned f (front ++ others) (whole line x) t
  try_turns c front others ss (front_try {line = l}) d line x t e = try_next_turns (record { line = l; body = ss; catches = [] }) (front ++ others) (try_first d) line x t e
  try_turns c front others ss (front_catch {p = p} {rows = rows} {line = l} {v = v} {t = u} i) d line x t e =
      try_next_turns (record { line = p.line; body = p.body; catches = p.catches ++ catch l v u ss ∷ [] }) (front ++ others) (try_later i l v u d) line x t e
  try_turns c front others ss (front_finally {p = p} {rows = rows} {line = l} i) d line x t e =
      grouped (λ r. Turned f r (whole line x) t) rows (whole l item.Finally ∷ []) others (try_end_turns p rows (whole l item.Finally ∷ others) (Some (last_clause l ss)) i (tree.clause d) line x t e)
