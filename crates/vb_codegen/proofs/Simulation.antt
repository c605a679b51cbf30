-- Each step of the code is steps of the tree, or nothing.
use Rattle.std.proofs.Common.{◌≡◌, ℕ, zero, suc, ◌+◌, ◌≤◌, Bool, true, false, List, [], ◌∷◌, ◌++◌, map, length, ℤ, pos, Option, Some, None, refl, sym, ap, ◌∙◌, subst, arith, length-append}
use Rattle.std.specs.Prelude.{slice_get, slice_set, slice_index_or, nat_le, if◌then◌else◌}
use Rattle.std.specs.Fmt.{signed_decimal}
use Rattle.vb_num.specs.declared.kinds.Kind.TheVariants.{Integer}
use Rattle.vb_text.specs.Units.{most_units}
use Rattle.vb_threads.specs.{Machine.{Threw, Silent, Asks}, Same.{Equal, EqualFor}, Steps.GoesWith}
use Rattle.vb_threads.proofs.Steps.{meet, alone, both, skip, end, more, ask}
use Rattle.vb_value.specs.{Datum.{Datum, Number, Letters, Truth}, Store.{New, Write as AsksWrite}}
use Rattle.vb_bound.specs.{declared.tree.{Operand.{Operand, TheVariants.{Local, Number as NumberOperand}}, Operator.{Operator, TheVariants.{Add, Sub, Mul}}, Relation.{Relation, TheVariants.{Equal as IsEqual, NotEqual, Less, LessOrEqual, Greater, GreaterOrEqual}}, Expr.{Expr, TheVariants.{One, Two}}, Condition.Condition, Statement.{Statement, TheVariants.{Assign, WriteLine}}}, Tree.{Block, Done, Then, Loop, Tree}}
use Rattle.vb_meaning.specs.Source.{Pending, Declares, Does, Acts, Tests, SourceThread, Going, SourceNext, source_next, operand_value, arithmetic, value_of, related, line_text, throws as source_throws, or_overflows, writes, decided}
use Rattle.vb_code.specs.{declared.instr.{Instr.TheVariants.{PushText, StoreLocal, Arith, Compare, Concat, Intrinsic, Jump, JumpIf, Write, Return}, Silent.TheVariants.TextOf, Mark.TheVariants.Always, Step.Step}, Code.{Code, body_of, begins_of as code_begins, begins_from, begins_at, text_at, overflow, out_of_memory}, Machine.{CodeThread, At, Returned, Gone, CodeNext, code_next, act, fetched, throws, or_throws, arith_of, compared}}
use Rattle.vb_code.proofs.Steps.{instr_there, begins_of_step}
use Rattle.vb_codegen.specs.Emitted.{step, instr_of, arithmetic_of, comparison_of, expr_code, line_code, statement_code, locals_code, test_code, block_code}
use Rattle.vb_codegen.proofs.Placed.{HasAt, has_front, has_back}

-- Code whose Main has these steps, with the line end as text 0 and the classes that instructions throw.
pub record IsCodeOf (c : Code) (steps : List Step) : Type 0 where
  pub body : body_of c ≡ map (λ s. s.instr) steps
  pub begins : code_begins c ≡ begins_from 0 steps
  pub line : text_at c.texts 0 ≡ 10 ∷ []
  pub overflows : throws c overflow ≡ Asks (New overflow 2) (λ r. true) (λ r. Gone (Threw overflow))
  pub memory : throws c out_of_memory ≡ Asks (New out_of_memory 2) (λ r. true) (λ r. Gone (Threw out_of_memory))

-- locals that hold these Integers
abbrev pub numbers : List ℤ → List Datum
numbers vars = map (λ v. Number Integer v) vars

numbers_get : (vars : List ℤ) (x : ℕ) → slice_index_or (numbers vars) x (Number Integer (pos 0)) ≡ Number Integer (slice_index_or vars x (pos 0))
numbers_get [] x = refl
numbers_get (v ∷ vars) zero = refl
numbers_get (v ∷ vars) (suc x) = numbers_get vars x

numbers_set : (vars : List ℤ) (x : ℕ) (v : ℤ) → slice_set (numbers vars) x (Number Integer v) ≡ numbers (slice_set vars x v)
numbers_set [] x v = refl
numbers_set (w ∷ vars) zero v = refl
numbers_set (w ∷ vars) (suc x) v = ap (λ l. Number Integer w ∷ l) (numbers_set vars x v)

arith_same : (o : Operator) (x y : ℤ) → arith_of (arithmetic_of o) Integer x y ≡ arithmetic o x y
arith_same Add x y = refl
arith_same Sub x y = refl
arith_same Mul x y = refl

compared_same : (r : Relation) (x y : ℤ) → compared (comparison_of r) x y ≡ related r x y
compared_same IsEqual x y = refl
compared_same NotEqual x y = refl
compared_same Less x y = refl
compared_same LessOrEqual x y = refl
compared_same Greater x y = refl
compared_same GreaterOrEqual x y = refl

-- what is pending is what the code does from this place
pub data Leads (steps : List Step) : ℕ → List Pending → Type 0 where
  ends : {place : ℕ} → slice_get steps place ≡ Some (step 0 Return) → Leads steps place []
  declares : {place x : ℕ} {ds : List (Option Operand)} {rest : List Pending} → (after : ℕ) → HasAt steps place (locals_code place x ds) → place + length (locals_code place x ds) ≡ after → Leads steps after rest → Leads steps place (Declares x ds ∷ rest)
  does : {place : ℕ} {block : Block} {rest : List Pending} → (after : ℕ) → HasAt steps place (block_code place block) → place + length (block_code place block) ≡ after → Leads steps after rest → Leads steps place (Does block ∷ rest)
  tests : {place : ℕ} {test : Condition} {block : Block} {rest : List Pending} → (first : ℕ) → HasAt steps place (test_code first test) → HasAt steps first (block_code first block) → first + length (block_code first block) ≡ place → Leads steps (place + 1 + 1 + 1 + 1) rest
      → Leads steps place (Tests test block ∷ rest)

module _ (t : Tree) (c : Code) (steps : List Step) (is : IsCodeOf c steps) where
  abbrev pub q : CodeThread → CodeNext
  q = code_next c

  abbrev pub p : SourceThread → SourceNext
  p = source_next t

  -- between two statements: what is pending is what the code does from this place
  pub data Between : ℕ → CodeThread → SourceThread → Type 0 where
    between : {place : ℕ} {vars : List ℤ} {pending : List Pending} → Leads steps place pending → Between 2 (At place [] (numbers vars)) (Going vars pending)

  -- the code goes on with the tree
  abbrev pub Goes : Bool → ℕ → CodeThread → SourceThread → Type 0
  Goes = GoesWith Equal EqualFor q p 256 Between

  -- after the last instruction
  pub returned : {due : Bool} (vars : List ℤ) → Goes due 1 Returned (Going vars [])
  returned vars = ask refl refl (λ r. end refl refl)

  -- what the code does at a place
  pub turn : (place : ℕ) (s : Step) (ops slots : List Datum) → slice_get steps place ≡ Some s → q (At place ops slots) ≡ act c s.instr s.begins place ops slots
  turn place s ops slots e =
      ap (λ o. fetched c o place ops slots) (ap (λ l. slice_get l place) is.body ∙ instr_there steps place s e)
      ∙ ap (λ b. act c s.instr b place ops slots) (ap (λ l. begins_at l place) is.begins ∙ begins_of_step steps place s e)

  pushes : (v : Operand) (b place : ℕ) (ops : List Datum) (vars : List ℤ) → act c (instr_of v) b place ops (numbers vars) ≡ Silent b (At (place + 1) (Number Integer (operand_value vars v) ∷ ops) (numbers vars))
  pushes (Local x) b place ops vars = ap (λ d. Silent b (At (place + 1) (d ∷ ops) (numbers vars))) (numbers_get vars x.0)
  pushes (NumberOperand v) b place ops vars = refl

  -- an operand is pushed
  push : (v : Operand) (b place : ℕ) (ops : List Datum) (vars : List ℤ) → slice_get steps place ≡ Some (step b (instr_of v)) → q (At place ops (numbers vars)) ≡ Silent b (At (place + 1) (Number Integer (operand_value vars v) ∷ ops) (numbers vars))
  push v b place ops vars e = turn place (step b (instr_of v)) ops (numbers vars) e ∙ pushes v b place ops vars

  -- a number is stored
  store : (x place : ℕ) (v : ℤ) (vars : List ℤ) → slice_get steps place ≡ Some (step 0 (StoreLocal x)) → q (At place (Number Integer v ∷ []) (numbers vars)) ≡ Silent 0 (At (place + 1) [] (numbers (slice_set vars x v)))
  store x place v vars e = turn place (step 0 (StoreLocal x)) (Number Integer v ∷ []) (numbers vars) e ∙ ap (λ l. Silent 0 (At (place + 1) [] l)) (numbers_set vars x v)

  -- arithmetic, which the tree does too
  module _ (n place : ℕ) (o : Operator) (x y : ℤ) (vars : List ℤ) (u : SourceThread) (there : slice_get steps place ≡ Some (step 0 (Arith (arithmetic_of o) Integer))) where
    abbrev before : CodeThread
    before = At place (Number Integer y ∷ Number Integer x ∷ []) (numbers vars)

    abbrev after : ℤ → CodeThread
    after v = At (place + 1) (Number Integer v ∷ []) (numbers vars)

    next_is : (r : Option ℤ) → arithmetic o x y ≡ r → q before ≡ or_throws c overflow r (λ v. Silent 0 (after v))
    next_is r e = turn place (step 0 (Arith (arithmetic_of o) Integer)) (Number Integer y ∷ Number Integer x ∷ []) (numbers vars) there ∙ ap (λ r. or_throws c overflow r (λ v. Silent 0 (after v))) (arith_same o x y ∙ e)

    arith_at : (r : Option ℤ) → arithmetic o x y ≡ r → (r ≡ None → p u ≡ source_throws overflow) → ((v : ℤ) → r ≡ Some v → Goes false n (after v) u) → Goes false (n + 1) before u
    arith_at None e none some = more (omega arith) (ask (next_is None e ∙ is.overflows) (none refl) (λ r. end refl refl))
    arith_at (Some v) e none some = alone (next_is (Some v) e) (some v refl)

  -- a statement begins with its expression
  evaluates : (e : Expr) (n place : ℕ) (vars : List ℤ) (u v : SourceThread) → p u ≡ Silent 1 v → n + 3 ≤ 256 → HasAt steps place (expr_code e) → (value_of vars e ≡ None → p v ≡ source_throws overflow)
      → ((x : ℤ) → value_of vars e ≡ Some x → Goes false n (At (place + length (expr_code e)) (Number Integer x ∷ []) (numbers vars)) v) → Goes true 2 (At place [] (numbers vars)) u
  evaluates (One v) n place vars u after begins le h none some = both (push v 1 place [] vars h.0) begins (some (operand_value vars v) refl) (omega arith)
  evaluates (Two v o w) n place vars u after begins le h none some =
      let x = operand_value vars v in
      let y = operand_value vars w in
      let place3 : place + 3 ≡ place + 1 + 1 + 1 = omega arith in
      let last = arith_at n (place + 1 + 1) o x y vars after h.1.1.0 (arithmetic o x y) refl none (λ z e. subst (λ k. Goes false n (At k (Number Integer z ∷ []) (numbers vars)) after) place3 (some z e)) in
      both (push v 1 place [] vars h.0) begins (alone (push w 0 (place + 1) (Number Integer x ∷ []) vars h.1.0) last) (omega arith)

  -- the number on the stack is written as a line
  module _ (v : ℤ) (place : ℕ) (vars : List ℤ) (u : SourceThread) (rest : List Pending) (h : HasAt steps place line_code) (writing : p u ≡ writes (line_text v) (Going vars rest)) (l : Leads steps (place + 1 + 1 + 1 + 1) rest) where
    abbrev slots : List Datum
    slots = numbers vars

    abbrev texts_at : List Datum
    texts_at = Letters (Some (10 ∷ [])) ∷ Letters (Some (signed_decimal v)) ∷ []

    abbrev joins : Bool → CodeNext
    joins b = or_throws c out_of_memory (if b then Some (line_text v) else None) (λ text. Silent 0 (At (place + 1 + 1 + 1) (Letters (Some text) ∷ []) slots))

    abbrev says : Bool → SourceNext
    says b = if b then Asks (AsksWrite (line_text v)) (λ r. true) (λ r. Going vars rest) else source_throws out_of_memory

    concat_at : (b : Bool) → nat_le (length (line_text v)) most_units ≡ b → Goes false 4 (At (place + 1 + 1) texts_at slots) u
    concat_at true e =
        alone (turn (place + 1 + 1) (step 0 Concat) texts_at slots h.1.1.0 ∙ ap joins e)
        (ask (turn (place + 1 + 1 + 1) (step 0 (Write Always)) (Letters (Some (line_text v)) ∷ []) slots h.1.1.1.0) (writing ∙ ap says e) (λ r. meet (between l)))
    concat_at false e = more (omega arith) (ask (turn (place + 1 + 1) (step 0 Concat) texts_at slots h.1.1.0 ∙ ap joins e ∙ is.memory) (writing ∙ ap says e) (λ r. end refl refl))

    line_at : Goes false 6 (At place (Number Integer v ∷ []) slots) u
    line_at =
        alone (turn place (step 0 (Intrinsic TextOf)) (Number Integer v ∷ []) slots h.0)
        (alone (turn (place + 1) (step 0 (PushText 0)) (Letters (Some (signed_decimal v)) ∷ []) slots h.1.0 ∙ ap (λ text. Silent 0 (At (place + 1 + 1) (Letters (Some text) ∷ Letters (Some (signed_decimal v)) ∷ []) slots)) is.line)
        (concat_at (nat_le (length (line_text v)) most_units) refl))

  statement_goes : (s : Statement) (place : ℕ) (block : Block) (rest : List Pending) (vars : List ℤ) → HasAt steps place (statement_code s) → Leads steps (place + length (statement_code s)) (Does block ∷ rest) → Goes true 2 (At place [] (numbers vars)) (Going vars (Does (Then s block) ∷ rest))
  statement_goes (Assign x e) place block rest vars h l =
      let goes = λ (o : Option ℤ). or_overflows o (λ v. Silent 0 (Going (slice_set vars x.0 v) (Does block ∷ rest))) in
      let there = has_back steps place (expr_code e) (step 0 (StoreLocal x.0) ∷ []) h in
      let long : place + length (expr_code e ++ step 0 (StoreLocal x.0) ∷ []) ≡ place + length (expr_code e) + 1 = omega (arith, length-append (expr_code e) (step 0 (StoreLocal x.0) ∷ [])) in
      evaluates e 3 place vars (Going vars (Does (Then (Assign x e) block) ∷ rest)) (Going vars (Acts (Assign x e) ∷ Does block ∷ rest)) refl (omega arith) (has_front steps place (expr_code e) (step 0 (StoreLocal x.0) ∷ []) h) (λ z. ap goes z)
      (λ v z. skip (ap goes z) (alone (store x.0 (place + length (expr_code e)) v vars there.0) (meet (between (subst (λ k. Leads steps k (Does block ∷ rest)) long l)))))
  statement_goes (WriteLine e) place block rest vars h l =
      let u = Going vars (Acts (WriteLine e) ∷ Does block ∷ rest) in
      let goes = λ (o : Option ℤ). or_overflows o (λ v. writes (line_text v) (Going vars (Does block ∷ rest))) in
      let there = has_back steps place (expr_code e) line_code h in
      let long : place + length (expr_code e ++ line_code) ≡ place + length (expr_code e) + 1 + 1 + 1 + 1 = omega (arith, length-append (expr_code e) line_code) in
      evaluates e 6 place vars (Going vars (Does (Then (WriteLine e) block) ∷ rest)) u refl (omega arith) (has_front steps place (expr_code e) line_code h) (λ z. ap goes z)
      (λ v z. line_at v (place + length (expr_code e)) vars u (Does block ∷ rest) there (ap goes z) (subst (λ k. Leads steps k (Does block ∷ rest)) long l))

  -- the test of a loop
  module _ (place first : ℕ) (test : Condition) (block : Block) (rest : List Pending) (vars : List ℤ) (h : HasAt steps place (test_code first test)) (inner : HasAt steps first (block_code first block)) (at : first + length (block_code first block) ≡ place) (l : Leads steps (place + 1 + 1 + 1 + 1) rest) where
    abbrev x : ℤ
    x = operand_value vars test.left

    abbrev y : ℤ
    y = operand_value vars test.right

    abbrev b : Bool
    b = compared (comparison_of test.relation) x y

    decided_at : (b : Bool) → Goes false 2 (At (if b then first else place + 1 + 1 + 1 + 1) [] (numbers vars)) (Going vars (decided b test block rest))
    decided_at true = meet (between (does place inner at (tests first h inner at l)))
    decided_at false = meet (between l)

    test_goes : Goes true 2 (At place [] (numbers vars)) (Going vars (Tests test block ∷ rest))
    test_goes =
        both (push test.left 1 place [] vars h.0) refl
        (alone (push test.right 0 (place + 1) (Number Integer x ∷ []) vars h.1.0)
        (alone (turn (place + 1 + 1) (step 0 (Compare (comparison_of test.relation))) (Number Integer y ∷ Number Integer x ∷ []) (numbers vars) h.1.1.0)
        (skip (ap (λ b. Silent 0 (Going vars (decided b test block rest))) (sym (compared_same test.relation x y)))
        (alone (turn (place + 1 + 1 + 1) (step 0 (JumpIf first)) (Truth b ∷ []) (numbers vars) h.1.1.1.0) (decided_at b))))) (omega arith)

  block_goes : (block : Block) (place after : ℕ) (rest : List Pending) (vars : List ℤ) → HasAt steps place (block_code place block) → place + length (block_code place block) ≡ after → Leads steps after rest
      → Goes true 2 (At after [] (numbers vars)) (Going vars rest) → Goes true 2 (At place [] (numbers vars)) (Going vars (Does block ∷ rest))
  block_goes Done place after rest vars h at l ih =
      let same : after ≡ place = omega arith in
      skip refl (subst (λ k. Goes true 2 (At k [] (numbers vars)) (Going vars rest)) same ih)
  block_goes (Then s block) place after rest vars h at l ih =
      let next = place + length (statement_code s) in
      let behind = block_code next block in
      let at' : next + length behind ≡ after = omega (arith, length-append (statement_code s) behind) in
      statement_goes s place block rest vars (has_front steps place (statement_code s) behind h) (does after (has_back steps place (statement_code s) behind h) at' l)
  block_goes (Loop test body block) place after rest vars h at l ih =
      let inner = block_code (place + 1) body in
      let tested = place + 1 + length inner in
      let tail = test_code (place + 1) test in
      let behind = block_code (tested + 4) block in
      let inside = has_front steps (place + 1) inner (tail ++ behind) h.1 in
      let test_there = has_back steps (place + 1) inner (tail ++ behind) h.1 in
      let next : tested + 4 ≡ tested + 1 + 1 + 1 + 1 = omega arith in
      let behind_there = subst (λ k. HasAt steps k (block_code k block)) next (has_back steps tested tail behind test_there) in
      let same = ap (λ k. length (block_code k block)) next in
      let at' : tested + 1 + 1 + 1 + 1 + length (block_code (tested + 1 + 1 + 1 + 1) block) ≡ after = omega (arith, length-append inner (tail ++ behind), length-append tail behind) in
      let tested_at = tests (place + 1) (has_front steps tested tail behind test_there) inside refl (does after behind_there at' l) in
      both (turn place (step 1 (Jump tested)) [] (numbers vars) h.0) refl (meet (between tested_at)) (omega arith)

  locals_goes : (ds : List (Option Operand)) (x place after : ℕ) (rest : List Pending) (vars : List ℤ) → HasAt steps place (locals_code place x ds) → place + length (locals_code place x ds) ≡ after → Leads steps after rest
      → Goes true 2 (At after [] (numbers vars)) (Going vars rest) → Goes true 2 (At place [] (numbers vars)) (Going vars (Declares x ds ∷ rest))
  locals_goes [] x place after rest vars h at l ih =
      let same : after ≡ place = omega arith in
      skip refl (subst (λ k. Goes true 2 (At k [] (numbers vars)) (Going vars rest)) same ih)
  locals_goes (None ∷ ds) x place after rest vars h at l ih =
      let at' : place + 1 + length (locals_code (place + 1) (x + 1) ds) ≡ after = omega arith in
      both (turn place (step 1 (Jump (place + 1))) [] (numbers vars) h.0) refl (meet (between (declares after h.1 at' l))) (omega arith)
  locals_goes (Some v ∷ ds) x place after rest vars h at l ih =
      let next : place + 2 ≡ place + 1 + 1 = omega arith in
      let there = subst (λ k. HasAt steps (place + 1 + 1) (locals_code k (x + 1) ds)) next h.1.1 in
      let same = ap (λ k. length (locals_code k (x + 1) ds)) next in
      let at' : place + 1 + 1 + length (locals_code (place + 1 + 1) (x + 1) ds) ≡ after = omega arith in
      both (push v 2 place [] vars h.0) refl (skip refl (alone (store x (place + 1) (operand_value vars v) vars h.1.0) (meet (between (declares after there at' l))))) (omega arith)

  leads_goes : {place : ℕ} {pending : List Pending} → Leads steps place pending → (vars : List ℤ) → Goes true 2 (At place [] (numbers vars)) (Going vars pending)
  leads_goes (ends {place = place} e) vars = alone (turn place (step 0 Return) [] (numbers vars) e) (returned vars)
  leads_goes (declares {place = place} {x = x} {ds = ds} {rest = rest} after h at l) vars = locals_goes ds x place after rest vars h at l (leads_goes l vars)
  leads_goes (does {place = place} {block = block} {rest = rest} after h at l) vars = block_goes block place after rest vars h at l (leads_goes l vars)
  leads_goes (tests {place = place} {test = test} {block = block} {rest = rest} first h inner at l) vars = test_goes place first test block rest vars h inner at l

  -- from between two statements the code goes on
  pub goes_on : (n : ℕ) (s : CodeThread) (u : SourceThread) → Between n s u → Goes true n s u
  goes_on n s u (between {vars = vars} l) = leads_goes l vars
