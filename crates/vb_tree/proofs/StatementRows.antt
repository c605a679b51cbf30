-- The rows of a statement lead from the statements before it to those with it.
use Rattle.std.proofs.Common.{◌≡◌, ℕ, false, List, [], ◌∷◌, ◌++◌, Option, Some, None, refl, ap, sym, ◌∙◌, append_assoc, append-nil, subst}
use Rattle.vb_syntax.specs.declared.{expression.Expr.Expr, statement.{CaseItem.CaseItem, CatchVariable.CatchVariable, StatementForm.StatementForm, Statement.Statement, ElseIfClause.ElseIfClause, CaseClause.CaseClause, CatchClause.CatchClause, BlockClause.BlockClause}, item.{Item.Item, Joint.Joint, Row.Row}}
use Rattle.vb_syntax.specs.declared.statement.StatementForm.TheVariants as form
use Rattle.vb_syntax.specs.declared.item.Item.TheVariants as item
use Rattle.vb_syntax.specs.declared.item.BlockWord.TheVariants as word
use Rattle.vb_syntax.specs.declared.item.Joint.TheVariants as joint
use Rattle.vb_blocks.specs.{declared.{scope.{Scope.Scope, IfParts.IfParts, IfClause.IfClause, SelectParts.SelectParts, SelectClause.SelectClause, TryParts.TryParts, TryClause.TryClause, LineClause.LineClause}, frame.Frame.Frame}, Trees.{whole, statement, simple_form, enclosed, else_if, case, catch, IsSimple, alone, line_if, line_if_else, AreSimple, one, more, IsStatement, simple, block, if_block, select, try_block, AreStatements, no_statements, more_statements, AreElseIfs, no_else_ifs, more_else_ifs, AreCases, no_cases, more_cases, AreCatches, no_catches, more_catches, IsLastClause, no_clause, clause}, Steps.{State, step, put_below, body, is_line, opened, turned, statement_ends, line_ends, enclosed_whole}}
use Rattle.vb_blocks.specs.declared.scope.Scope.TheVariants as scope
use Rattle.vb_blocks.specs.declared.scope.IfClause.TheVariants as if_clause
use Rattle.vb_blocks.specs.declared.scope.SelectClause.TheVariants as select_clause
use Rattle.vb_blocks.specs.declared.scope.TryClause.TheVariants as try_clause
use Rattle.vb_blocks.specs.declared.scope.LineClause.TheVariants as line_clause
use Rattle.vb_blocks.specs.declared.frame.Frame.TheVariants as frame
use Rattle.vb_blocks.specs.declared.frame.Whole.TheVariants as is
use Rattle.vb_tree.proofs.Leads.{Leads, here, on, and_on, leads_to, step_simple, step_turns, step_opens}

-- ON ONE LINE

regrouped : (sc : Scope) (ss : List Statement) (s : Statement) (others : List Statement) (behind : Joint) (below : List Frame) (st : State)
    → statement_ends behind sc (ss ++ s ∷ others) below ≡ Some st → statement_ends behind sc ((ss ++ s ∷ []) ++ others) below ≡ Some st
regrouped sc ss s others behind below st h =
    let P : List Statement → Type 0 = λ ys. statement_ends behind sc ys below ≡ Some st in subst P (sym (append_assoc ss (s ∷ []) others)) h

mutual
  pub simple_leads : {behind : Joint} {rows : List Row} {s : Statement} → IsSimple behind rows s
      → (sc : Scope) (ss : List Statement) (below : List Frame) (st : State) → statement_ends behind sc (ss ++ s ∷ []) below ≡ Some st
      → Leads (frame.Body sc ss) below rows st.0 st.1
  simple_leads (alone {behind = behind} {line = line} {x = x} {f = f} e) sc ss below st h = on (step_simple sc ss below line x behind f e ∙ h) here
  simple_leads (line_if {line = line} {test = t} d) sc ss below st h = on refl (row_leads d (line_clause.Then line t) [] (frame.Body sc ss ∷ below) st h)
  simple_leads (line_if_else {behind = joint.End} {line = line} {test = t} {body = b} d a m) sc ss below st h =
      on refl (and_on (row_leads d (line_clause.Then line t) [] (frame.Body sc ss ∷ below) (body (scope.Line (line_clause.Else line t b)), frame.Body sc ss ∷ below) refl)
      (row_leads a (line_clause.Else line t b) [] (frame.Body sc ss ∷ below) st h))
  simple_leads (line_if_else {behind = joint.Else} {line = line} {test = t} {body = b} d a m) sc ss below st h =
      on refl (and_on (row_leads d (line_clause.Then line t) [] (frame.Body sc ss ∷ below) (body (scope.Line (line_clause.Else line t b)), frame.Body sc ss ∷ below) refl)
      (row_leads a (line_clause.Else line t b) [] (frame.Body sc ss ∷ below) st h))
  simple_leads (line_if_else {behind = joint.Colon} d a m) sc ss below st h = absurd cc
  simple_leads (line_if_else {behind = joint.Then} d a m) sc ss below st h = absurd cc

  pub row_leads : {behind : Joint} {rows : List Row} {others : List Statement} → AreSimple behind rows others
      → (c : LineClause) (ss : List Statement) (below : List Frame) (st : State) → statement_ends behind (scope.Line c) (ss ++ others) below ≡ Some st
      → Leads (frame.Body (scope.Line c) ss) below rows st.0 st.1
  row_leads (one d) c ss below st h = simple_leads d (scope.Line c) ss below st h
  row_leads (more {behind = behind} {s = s} {ss = others} d ds) c ss below st h =
      and_on (simple_leads d (scope.Line c) ss below (frame.Body (scope.Line c) (ss ++ s ∷ []), below) refl)
      (row_leads ds c (ss ++ s ∷ []) below st (regrouped (scope.Line c) ss s others behind below st h))

pub line_over : (sc : Scope) (ss : List Statement) (below : List Frame) → is_line sc ≡ false → line_ends sc ss below ≡ Some (frame.Body sc ss, below)
line_over (scope.Line c) ss below l = absurd cc
line_over sc ss below l = refl

-- ONE BLOCK

pub enclosing_opens : (x : Item) (ss : List Statement) (last : ℕ) (y : Item) (f : StatementForm) (line : ℕ) → enclosed x ss last y ≡ Some f
    → (simple_form x ≡ None) × (opened line x ≡ Some (body (scope.Enclosed line x)))
enclosing_opens (item.While t) ss last y f line e = (refl, refl)
enclosing_opens (item.SyncLock t) ss last y f line e = (refl, refl)
enclosing_opens (item.With t) ss last y f line e = (refl, refl)
enclosing_opens (item.Using t) ss last y f line e = (refl, refl)
enclosing_opens (item.Do t) ss last y f line e = (refl, refl)
enclosing_opens (item.For v a b c) ss last y f line e = (refl, refl)
enclosing_opens (item.ForEach v c) ss last y f line e = (refl, refl)
enclosing_opens x ss last y f line e = absurd cc

pub enclosing_ends : (x : Item) (ss : List Statement) (last : ℕ) (y : Item) (f : StatementForm) (line : ℕ) → enclosed x ss last y ≡ Some f
    → (simple_form y ≡ None) × (opened line y ≡ None)
enclosing_ends (item.While t) ss last (item.End w) f line e = (refl, refl)
enclosing_ends (item.While t) ss last y f line e = absurd cc
enclosing_ends (item.SyncLock t) ss last (item.End w) f line e = (refl, refl)
enclosing_ends (item.SyncLock t) ss last y f line e = absurd cc
enclosing_ends (item.With t) ss last (item.End w) f line e = (refl, refl)
enclosing_ends (item.With t) ss last y f line e = absurd cc
enclosing_ends (item.Using t) ss last (item.End w) f line e = (refl, refl)
enclosing_ends (item.Using t) ss last y f line e = absurd cc
enclosing_ends (item.Do t) ss last (item.Loop u) f line e = (refl, refl)
enclosing_ends (item.Do None) ss last y f line e = absurd cc
enclosing_ends (item.Do (Some c)) ss last y f line e = absurd cc
enclosing_ends (item.For v a b c) ss last (item.Next n) f line e = (refl, refl)
enclosing_ends (item.For v a b c) ss last y f line e = absurd cc
enclosing_ends (item.ForEach v c) ss last (item.Next n) f line e = (refl, refl)
enclosing_ends (item.ForEach v c) ss last y f line e = absurd cc
enclosing_ends x ss last y f line e = absurd cc

-- ALL STATEMENTS

-- where a clause of an `If` may begin, which has this so far
pub record IfAt (f : Frame) (p : IfParts) : Type 0 where
  pub else_ifs : (below : List Frame) (line : ℕ) (t : Expr) → step f below (whole line (item.ElseIf t)) ≡ Some (body (scope.If (if_clause.ElseIf p line t)), below)
  pub last : (below : List Frame) (line : ℕ) → step f below (whole line item.Else) ≡ Some (body (scope.If (if_clause.Else p line)), below)
  pub ends : (below : List Frame) (line : ℕ) → step f below (whole line (item.End word.If)) ≡ put_below (is.Statement (statement p.line (form.If p.test p.body p.else_ifs None))) below

pub record SelectAt (f : Frame) (p : SelectParts) : Type 0 where
  pub cases : (below : List Frame) (line : ℕ) (cs : List CaseItem) → step f below (whole line (item.Case cs)) ≡ Some (body (scope.Select (select_clause.Case p line cs)), below)
  pub last : (below : List Frame) (line : ℕ) → step f below (whole line item.CaseElse) ≡ Some (body (scope.Select (select_clause.Else p line)), below)
  pub ends : (below : List Frame) (line : ℕ) → step f below (whole line (item.End word.Select)) ≡ put_below (is.Statement (statement p.line (form.Select p.value p.cases None))) below

pub record TryAt (f : Frame) (p : TryParts) : Type 0 where
  pub catches : (below : List Frame) (line : ℕ) (v : Option CatchVariable) (c : Option Expr) → step f below (whole line (item.Catch v c)) ≡ Some (body (scope.Try (try_clause.Catch p line v c)), below)
  pub last : (below : List Frame) (line : ℕ) → step f below (whole line item.Finally) ≡ Some (body (scope.Try (try_clause.Finally p line)), below)
  pub ends : (below : List Frame) (line : ℕ) → step f below (whole line (item.End word.Try)) ≡ put_below (is.Statement (statement p.line (form.Try p.body p.catches None))) below

abbrev if_parts : ℕ → Expr → List Statement → List ElseIfClause → IfParts
if_parts l t b cs = record { line = l; test = t; body = b; else_ifs = cs }

abbrev select_parts : ℕ → Expr → List CaseClause → SelectParts
select_parts l v cs = record { line = l; value = v; cases = cs }

abbrev try_parts : ℕ → List Statement → List CatchClause → TryParts
try_parts l b cs = record { line = l; body = b; catches = cs }

-- a body with more statements
with_more : {f : Frame} {fs : List Frame} {rows : List Row} (sc : Scope) (below : List Frame) (ss others : List Statement) (s : Statement)
    → Leads f fs rows (frame.Body sc ((ss ++ s ∷ []) ++ others)) below → Leads f fs rows (frame.Body sc (ss ++ s ∷ others)) below
with_more sc below ss others s a = leads_to a (ap (λ (ys : List Statement). (frame.Body sc ys, below)) (append_assoc ss (s ∷ []) others))

mutual
  pub statement_leads : {rows : List Row} {s : Statement} → IsStatement rows s → (sc : Scope) (ss : List Statement) (below : List Frame) → is_line sc ≡ false
      → Leads (frame.Body sc ss) below rows (frame.Body sc (ss ++ s ∷ [])) below
  statement_leads (simple {s = s} d) sc ss below l = simple_leads d sc ss below (frame.Body sc (ss ++ s ∷ []), below) (line_over sc (ss ++ s ∷ []) below l)
  statement_leads (block {line = line} {x = x} last y {body = b} {f = f} ds e) sc ss below l =
      let opens = enclosing_opens x b last y f line e in
      let ends = enclosing_ends x b last y f last e in
      on (step_opens sc ss below line x (body (scope.Enclosed line x)) l opens.0 opens.1)
      (and_on (statements_lead ds (scope.Enclosed line x) [] (frame.Body sc ss ∷ below) refl)
      (on (step_turns (scope.Enclosed line x) b (frame.Body sc ss ∷ below) last y refl ends.0 ends.1
      ∙ ap (λ (o : Option StatementForm). turned (enclosed_whole line o) (frame.Body sc ss ∷ below)) e) here))
  statement_leads (if_block {line = line} last {test = t} {body = b} {else_ifs = cs} ds ds' o) sc ss below l =
      let inner : List Frame = frame.Body sc ss ∷ below in
      let clauses = else_ifs_lead ds' (frame.Body (scope.If (if_clause.If line t)) b) line t b [] inner (record { else_ifs = λ bs n u. refl; last = λ bs n. refl; ends = λ bs n. refl }) in
      on (step_opens sc ss below line (item.If t) (body (scope.If (if_clause.If line t))) l refl refl)
      (and_on (statements_lead ds (scope.If (if_clause.If line t)) [] inner refl)
      (and_on clauses.1 (if_lead o last clauses.0 line t b cs sc ss below clauses.2)))
  statement_leads (select {line = line} last {value = v} {cases = cs} ds o) sc ss below l =
      let clauses = cases_lead ds (frame.Select line v) line v [] (frame.Body sc ss ∷ below) (record { cases = λ bs n u. refl; last = λ bs n. refl; ends = λ bs n. refl }) in
      on (step_opens sc ss below line (item.Select v) (frame.Select line v) l refl refl)
      (and_on clauses.1 (select_lead o last clauses.0 line v cs sc ss below clauses.2))
  statement_leads (try_block {line = line} last {body = b} {catches = cs} ds ds' o) sc ss below l =
      let inner : List Frame = frame.Body sc ss ∷ below in
      let clauses = catches_lead ds' (frame.Body (scope.Try (try_clause.Try line)) b) line b [] inner (record { catches = λ bs n u c. refl; last = λ bs n. refl; ends = λ bs n. refl }) in
      on (step_opens sc ss below line item.Try (body (scope.Try (try_clause.Try line))) l refl refl)
      (and_on (statements_lead ds (scope.Try (try_clause.Try line)) [] inner refl)
      (and_on clauses.1 (try_lead o last clauses.0 line b cs sc ss below clauses.2)))

  pub statements_lead : {rows : List Row} {others : List Statement} → AreStatements rows others → (sc : Scope) (ss : List Statement) (below : List Frame) → is_line sc ≡ false
      → Leads (frame.Body sc ss) below rows (frame.Body sc (ss ++ others)) below
  statements_lead no_statements sc ss below l = leads_to here (ap (λ (ys : List Statement). (frame.Body sc ys, below)) (sym (append-nil ss)))
  statements_lead (more_statements {s = s} {ss = others} d ds) sc ss below l =
      with_more sc below ss others s (and_on (statement_leads d sc ss below l) (statements_lead ds sc (ss ++ s ∷ []) below l))

  else_ifs_lead : {rows : List Row} {cs : List ElseIfClause} → AreElseIfs rows cs → (f : Frame) (l : ℕ) (t : Expr) (b : List Statement) (before : List ElseIfClause) (below : List Frame)
      → IfAt f (if_parts l t b before) → (g : Frame) × Leads f below rows g below × IfAt g (if_parts l t b (before ++ cs))
  else_ifs_lead no_else_ifs f l t b before below at = (f, here, let P : List ElseIfClause → Type 0 = λ cs. IfAt f (if_parts l t b cs) in subst P (sym (append-nil before)) at)
  else_ifs_lead (more_else_ifs {line = line} {test = u} {body = ss} {cs = cs} ds ds') f l t b before below at =
      let c : IfClause = if_clause.ElseIf (if_parts l t b before) line u in
      let rest = else_ifs_lead ds' (frame.Body (scope.If c) ss) l t b (before ++ else_if line u ss ∷ []) below (record { else_ifs = λ bs n v. refl; last = λ bs n. refl; ends = λ bs n. refl }) in (
        rest.0,
        on (at.else_ifs below line u) (and_on (statements_lead ds (scope.If c) [] below refl) rest.1),
        let P : List ElseIfClause → Type 0 = λ xs. IfAt rest.0 (if_parts l t b xs) in subst P (append_assoc before (else_if line u ss ∷ []) cs) rest.2,
      )

  cases_lead : {rows : List Row} {cs : List CaseClause} → AreCases rows cs → (f : Frame) (l : ℕ) (v : Expr) (before : List CaseClause) (below : List Frame)
      → SelectAt f (select_parts l v before) → (g : Frame) × Leads f below rows g below × SelectAt g (select_parts l v (before ++ cs))
  cases_lead no_cases f l v before below at = (f, here, let P : List CaseClause → Type 0 = λ cs. SelectAt f (select_parts l v cs) in subst P (sym (append-nil before)) at)
  cases_lead (more_cases {line = line} {items = items} {body = ss} {cs = cs} ds ds') f l v before below at =
      let c : SelectClause = select_clause.Case (select_parts l v before) line items in
      let rest = cases_lead ds' (frame.Body (scope.Select c) ss) l v (before ++ case line items ss ∷ []) below (record { cases = λ bs n u. refl; last = λ bs n. refl; ends = λ bs n. refl }) in (
        rest.0,
        on (at.cases below line items) (and_on (statements_lead ds (scope.Select c) [] below refl) rest.1),
        let P : List CaseClause → Type 0 = λ xs. SelectAt rest.0 (select_parts l v xs) in subst P (append_assoc before (case line items ss ∷ []) cs) rest.2,
      )

  catches_lead : {rows : List Row} {cs : List CatchClause} → AreCatches rows cs → (f : Frame) (l : ℕ) (b : List Statement) (before : List CatchClause) (below : List Frame)
      → TryAt f (try_parts l b before) → (g : Frame) × Leads f below rows g below × TryAt g (try_parts l b (before ++ cs))
  catches_lead no_catches f l b before below at = (f, here, let P : List CatchClause → Type 0 = λ cs. TryAt f (try_parts l b cs) in subst P (sym (append-nil before)) at)
  catches_lead (more_catches {line = line} {variable = v} {filter = u} {body = ss} {cs = cs} ds ds') f l b before below at =
      let c : TryClause = try_clause.Catch (try_parts l b before) line v u in
      let rest = catches_lead ds' (frame.Body (scope.Try c) ss) l b (before ++ catch line v u ss ∷ []) below (record { catches = λ bs n w z. refl; last = λ bs n. refl; ends = λ bs n. refl }) in (
        rest.0,
        on (at.catches below line v u) (and_on (statements_lead ds (scope.Try c) [] below refl) rest.1),
        let P : List CatchClause → Type 0 = λ xs. TryAt rest.0 (try_parts l b xs) in subst P (append_assoc before (catch line v u ss ∷ []) cs) rest.2,
      )

  if_lead : {rows : List Row} {o : Option BlockClause} → IsLastClause item.Else rows o → (last : ℕ) (f : Frame) (l : ℕ) (t : Expr) (b : List Statement) (cs : List ElseIfClause)
      (sc : Scope) (ss : List Statement) (below : List Frame) → IfAt f (if_parts l t b cs)
      → Leads f (frame.Body sc ss ∷ below) (rows ++ whole last (item.End word.If) ∷ []) (frame.Body sc (ss ++ statement l (form.If t b cs o) ∷ [])) below
  if_lead no_clause last f l t b cs sc ss below at = on (at.ends (frame.Body sc ss ∷ below) last) here
  if_lead (clause {line = line} ds) last f l t b cs sc ss below at =
      on (at.last (frame.Body sc ss ∷ below) line)
      (and_on (statements_lead ds (scope.If (if_clause.Else (if_parts l t b cs) line)) [] (frame.Body sc ss ∷ below) refl) (on refl here))

  select_lead : {rows : List Row} {o : Option BlockClause} → IsLastClause item.CaseElse rows o → (last : ℕ) (f : Frame) (l : ℕ) (v : Expr) (cs : List CaseClause)
      (sc : Scope) (ss : List Statement) (below : List Frame) → SelectAt f (select_parts l v cs)
      → Leads f (frame.Body sc ss ∷ below) (rows ++ whole last (item.End word.Select) ∷ []) (frame.Body sc (ss ++ statement l (form.Select v cs o) ∷ [])) below
  select_lead no_clause last f l v cs sc ss below at = on (at.ends (frame.Body sc ss ∷ below) last) here
  select_lead (clause {line = line} ds) last f l v cs sc ss below at =
      on (at.last (frame.Body sc ss ∷ below) line)
      (and_on (statements_lead ds (scope.Select (select_clause.Else (select_parts l v cs) line)) [] (frame.Body sc ss ∷ below) refl) (on refl here))

  try_lead : {rows : List Row} {o : Option BlockClause} → IsLastClause item.Finally rows o → (last : ℕ) (f : Frame) (l : ℕ) (b : List Statement) (cs : List CatchClause)
      (sc : Scope) (ss : List Statement) (below : List Frame) → TryAt f (try_parts l b cs)
      → Leads f (frame.Body sc ss ∷ below) (rows ++ whole last (item.End word.Try) ∷ []) (frame.Body sc (ss ++ statement l (form.Try b cs o) ∷ [])) below
  try_lead no_clause last f l b cs sc ss below at = on (at.ends (frame.Body sc ss ∷ below) last) here
  try_lead (clause {line = line} ds) last f l b cs sc ss below at =
      on (at.last (frame.Body sc ss ∷ below) line)
      (and_on (statements_lead ds (scope.Try (try_clause.Finally (try_parts l b cs) line)) [] (frame.Body sc ss ∷ below) refl) (on refl here))
