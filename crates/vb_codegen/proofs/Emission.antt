-- Each line that is done leaves code that the lines behind it complete.
use Rattle.std.proofs.Common.{◌≡◌, ℕ, ◌+◌, ◌<◌, ◌≤◌, Option, List, [], ◌∷◌, ◌++◌, length, drop, get_or, add-one, refl, sym, ap, ap₂, ◌∙◌, subst, arith, append_assoc, length-append}
use Rattle.std.specs.Prelude.{slice_set, Result, Ok, Err, OnOk}
use Rattle.std.proofs.lemmas.List.{length-set, append-nil, drop_all}
use Rattle.std.proofs.Math.Seq.{set-append_seam, drop-cons}
use Rattle.vb_bound.specs.{declared.tree.{Condition.Condition, Operand.Operand, Statement.Statement, Line.{Line, TheVariants.{Does, While, EndWhile}}}, Tree.{Block, Done, Then, Loop, Tree, Outline, IsOutlineOf, lines_of}}
use Rattle.vb_code.specs.{declared.{instr.{Instr.TheVariants.{Jump, Return}, Step.Step}, code.Class.Class}, Code.{Procedure, code_with, procedure_of}}
use Rattle.vb_value.specs.declared.value.Shape.{Shape}
use Rattle.vb_codegen.specs.{declared.lines.OpenLoop.OpenLoop, Emitted.{step, statement_code, test_code, block_code, locals_code, front_code, body_code, main_code, texts, classes, integers, code_of}, Emission.{open_at, closed, Completes, last, inside, CanComplete, Goes}}

-- the code of a block behind these instructions
abbrev with_block : List Step → Block → List Step
with_block steps block = steps ++ block_code (length steps) block

-- closing adds four instructions
length-closed : (loop : OpenLoop) (steps : List Step) → length (closed loop steps) ≡ length steps + 4
length-closed loop steps =
    let jump = step 1 (Jump (length steps)) in
    omega (arith, length-append (slice_set steps loop.start jump) (test_code (loop.start + 1) loop.test), length-set steps loop.start jump)

then_code : (s : Statement) (steps steps' : List Step) (rest : Block) → steps' ≡ steps ++ statement_code s → with_block steps (Then s rest) ≡ with_block steps' rest
then_code s steps steps' rest e =
    let n : length steps' ≡ length steps + length (statement_code s) = ap length e ∙ length-append steps (statement_code s) in
    sym (append_assoc steps (statement_code s) (block_code (length steps + length (statement_code s)) rest))
    ∙ ap₂ (λ l n. l ++ block_code n rest) (sym e) (sym n)

loop_code : (test : Condition) (steps steps' : List Step) (body rest : Block) → steps' ≡ steps ++ step 1 (Jump 0) ∷ []
    → with_block steps (Loop test body rest) ≡ with_block (closed (open_at (length steps) test) (with_block steps' body)) rest
loop_code test steps steps' body rest e =
    let n = length steps in
    let inner = block_code (n + 1) body in
    let tests = test_code (n + 1) test in
    let jump = step 1 (Jump (n + 1 + length inner)) in
    let loop = open_at n test in
    let one : length steps' ≡ n + 1 = ap length e ∙ length-append steps (step 1 (Jump 0) ∷ []) in
    let front : with_block steps' body ≡ steps ++ step 1 (Jump 0) ∷ inner =
    ap₂ (λ l m. l ++ block_code m body) e one ∙ append_assoc steps (step 1 (Jump 0) ∷ []) inner in
    let long : length (steps ++ step 1 (Jump 0) ∷ inner) ≡ n + 1 + length inner = omega (arith, length-append steps (step 1 (Jump 0) ∷ inner)) in
    let set : closed loop (with_block steps' body) ≡ (steps ++ jump ∷ inner) ++ tests =
    ap (λ l. closed loop l) front
    ∙ ap (λ m. slice_set (steps ++ step 1 (Jump 0) ∷ inner) n (step 1 (Jump m)) ++ tests) long
    ∙ ap (λ l. l ++ tests) (set-append_seam steps (step 1 (Jump 0)) inner jump) in
    let longer : length ((steps ++ jump ∷ inner) ++ tests) ≡ n + 1 + length inner + 4 = omega (arith, length-append (steps ++ jump ∷ inner) tests, length-append steps (jump ∷ inner)) in
    let after = block_code (n + 1 + length inner + 4) rest in
    sym (ap (λ l. with_block l rest) set
    ∙ ap (λ m. ((steps ++ jump ∷ inner) ++ tests) ++ block_code m rest) longer
    ∙ append_assoc (steps ++ jump ∷ inner) tests after
    ∙ append_assoc steps (jump ∷ inner) (tests ++ after))

module _ (s : Statement) (steps steps' : List Step) (e : steps' ≡ steps ++ statement_code s) (lines : List Line) (whole : List Step) where
  does_last : (loops : List OpenLoop) (block : Block) → loops ≡ [] → Does s ∷ lines ≡ lines_of block → whole ≡ with_block steps block → Completes steps' loops lines whole
  does_last loops Done none is all = absurd (cc)
  does_last loops (Then z rest) none is all =
      let same : z ≡ s = cc in
      let left : lines ≡ lines_of rest = cc in
      last rest none left (subst (λ z. whole ≡ with_block steps (Then z rest)) same all ∙ then_code s steps steps' rest e)
  does_last loops (Loop test body rest) none is all = absurd (cc)

  does_inside : (loops : List OpenLoop) (block : Block) (outer : List OpenLoop) (loop : OpenLoop) (rest : List Line) → loops ≡ outer ++ loop ∷ [] → loop.start < length steps → Does s ∷ lines ≡ lines_of block ++ EndWhile ∷ rest
      → Completes (closed loop (with_block steps block)) outer rest whole → Completes steps' loops lines whole
  does_inside loops Done outer loop rest is lt left all = absurd (cc)
  does_inside loops (Then z more) outer loop rest is lt left all =
      let same : z ≡ s = cc in
      let left' : lines ≡ lines_of more ++ EndWhile ∷ rest = cc in
      let n : length steps' ≡ length steps + length (statement_code s) = ap length e ∙ length-append steps (statement_code s) in
      let code : with_block steps (Then z more) ≡ with_block steps' more = ap (λ z. with_block steps (Then z more)) same ∙ then_code s steps steps' more e in
      inside more outer loop rest is (omega arith) left' (subst (λ l. Completes (closed loop l) outer rest whole) code all)
  does_inside loops (Loop test body more) outer loop rest is lt left all = absurd (cc)

-- a statement
pub does_goes : (s : Statement) (steps steps' : List Step) (loops : List OpenLoop) → steps' ≡ steps ++ statement_code s → Goes (Does s) steps loops steps' loops
does_goes s steps steps' loops e lines whole (last block none is all) = does_last s steps steps' e lines whole loops block none is all
does_goes s steps steps' loops e lines whole (inside block outer loop rest is lt left all) = does_inside s steps steps' e lines whole loops block outer loop rest is lt left all

module _ (test : Condition) (steps steps' : List Step) (e : steps' ≡ steps ++ step 1 (Jump 0) ∷ []) (loops loops' : List OpenLoop) (f : loops' ≡ loops ++ open_at (length steps) test ∷ []) (lines : List Line) (whole : List Step) where
  within : length steps < length steps'
  within = omega (arith, ap length e, length-append steps (step 1 (Jump 0) ∷ []))

  while_last : (block : Block) → loops ≡ [] → While test ∷ lines ≡ lines_of block → whole ≡ with_block steps block → Completes steps' loops' lines whole
  while_last Done none is all = absurd (cc)
  while_last (Then s rest) none is all = absurd (cc)
  while_last (Loop z body rest) none is all =
      let same : z ≡ test = cc in
      let left : lines ≡ lines_of body ++ EndWhile ∷ lines_of rest = cc in
      inside body loops (open_at (length steps) test) (lines_of rest) f within left
      (last rest none refl (subst (λ z. whole ≡ with_block steps (Loop z body rest)) same all ∙ loop_code test steps steps' body rest e))

  while_inside : (block : Block) (outer : List OpenLoop) (loop : OpenLoop) (rest : List Line) → loops ≡ outer ++ loop ∷ [] → loop.start < length steps → While test ∷ lines ≡ lines_of block ++ EndWhile ∷ rest
      → Completes (closed loop (with_block steps block)) outer rest whole → Completes steps' loops' lines whole
  while_inside Done outer loop rest is lt left all = absurd (cc)
  while_inside (Then s more) outer loop rest is lt left all = absurd (cc)
  while_inside (Loop z body more) outer loop rest is lt left all =
      let same : z ≡ test = cc in
      let flat = append_assoc (lines_of body) (EndWhile ∷ lines_of more) (EndWhile ∷ rest) in
      let left' : lines ≡ lines_of body ++ EndWhile ∷ (lines_of more ++ EndWhile ∷ rest) = cc in
      let n : length steps' ≡ length steps + 1 = ap length e ∙ length-append steps (step 1 (Jump 0) ∷ []) in
      let done = closed (open_at (length steps) test) (with_block steps' body) in
      let code : with_block steps (Loop z body more) ≡ with_block done more = ap (λ z. with_block steps (Loop z body more)) same ∙ loop_code test steps steps' body more e in
      let longer : loop.start < length done = omega (arith, length-closed (open_at (length steps) test) (with_block steps' body), length-append steps' (block_code (length steps') body)) in
      inside body loops (open_at (length steps) test) (lines_of more ++ EndWhile ∷ rest) f within left'
      (inside more outer loop rest is longer refl (subst (λ l. Completes (closed loop l) outer rest whole) code all))

-- the front of a loop
pub while_goes : (test : Condition) (steps steps' : List Step) (loops loops' : List OpenLoop) → steps' ≡ steps ++ step 1 (Jump 0) ∷ [] → loops' ≡ loops ++ open_at (length steps) test ∷ [] → Goes (While test) steps loops steps' loops'
while_goes test steps steps' loops loops' e f lines whole (last block none is all) = while_last test steps steps' e loops loops' f lines whole block none is all
while_goes test steps steps' loops loops' e f lines whole (inside block outer loop rest is lt left all) = while_inside test steps steps' e loops loops' f lines whole block outer loop rest is lt left all

-- the last element of a list, and those before it
snoc_same : {X : Type 0} (xs ys : List X) (x y : X) → xs ++ x ∷ [] ≡ ys ++ y ∷ [] → (xs ≡ ys) × (x ≡ y)
snoc_same [] [] x y e = (refl, cc)
snoc_same [] (b ∷ []) x y e = absurd (cc)
snoc_same [] (b ∷ c ∷ ys) x y e = absurd (cc)
snoc_same (a ∷ []) [] x y e = absurd (cc)
snoc_same (a ∷ c ∷ xs) [] x y e = absurd (cc)
snoc_same (a ∷ xs) (b ∷ ys) x y e = let ih = snoc_same xs ys x y (cc) in let f : a ≡ b = cc in (ap₂ (λ h t. h ∷ t) f ih.0, ih.1)

-- at the end of a loop there is an open one, whose jump stands in the code
pub record Ends (steps : List Step) (loops : List OpenLoop) (lines : List Line) (whole : List Step) : Type 0 where
  pub outer : List OpenLoop
  pub loop : OpenLoop
  pub is : loops ≡ outer ++ loop ∷ []
  pub within : loop.start < length steps
  pub after : Completes (closed loop steps) outer lines whole

no_end : (lines : List Line) (block : Block) → EndWhile ∷ lines ≡ lines_of block → ⊥
no_end lines Done e = cc
no_end lines (Then s rest) e = cc
no_end lines (Loop test body rest) e = cc

ends_inside : (steps : List Step) (loops : List OpenLoop) (lines : List Line) (whole : List Step) (block : Block) (outer : List OpenLoop) (loop : OpenLoop) (rest : List Line) → loops ≡ outer ++ loop ∷ [] → loop.start < length steps
    → EndWhile ∷ lines ≡ lines_of block ++ EndWhile ∷ rest → Completes (closed loop (with_block steps block)) outer rest whole → Ends steps loops lines whole
ends_inside steps loops lines whole Done outer loop rest is lt left all =
    let same : rest ≡ lines = cc in
    record { outer = outer; loop = loop; is = is; within = lt; after = subst (λ l. Completes (closed loop l) outer lines whole) (append-nil steps) (subst (λ l. Completes (closed loop (with_block steps Done)) outer l whole) same all) }
ends_inside steps loops lines whole (Then s more) outer loop rest is lt left all = absurd (cc)
ends_inside steps loops lines whole (Loop test body more) outer loop rest is lt left all = absurd (cc)

pub ends : {steps : List Step} {loops : List OpenLoop} {lines : List Line} {whole : List Step} → Completes steps loops (EndWhile ∷ lines) whole → Ends steps loops lines whole
ends {lines = lines} (last block none is all) = absurd (no_end lines block is)
ends {steps = steps} {loops = loops} {lines = lines} {whole = whole} (inside block outer loop rest is lt left all) = ends_inside steps loops lines whole block outer loop rest is lt left all

-- the end of the innermost loop
pub end_goes : (steps steps' : List Step) (loops outer : List OpenLoop) (loop : OpenLoop) → loops ≡ outer ++ loop ∷ [] → steps' ≡ closed loop steps → Goes EndWhile steps loops steps' outer
end_goes steps steps' loops outer loop is done lines whole all =
    let e = ends all in
    let same = snoc_same e.outer outer e.loop loop (sym e.is ∙ is) in
    let after = subst (λ o. Completes (closed e.loop steps) o lines whole) same.0 e.after in
    let after' = subst (λ l. Completes (closed l steps) outer lines whole) same.1 after in
    subst (λ s. Completes s outer lines whole) (sym done) after'

-- the loop that was opened last is open still, and its jump stands in the code
pub is_open : (steps : List Step) (loops outer : List OpenLoop) (loop : OpenLoop) (lines : List Line) → loops ≡ outer ++ loop ∷ [] → CanComplete steps loops (EndWhile ∷ lines) → loop.start < length steps
is_open steps loops outer loop lines is can =
    let e = ends can.1 in
    let same = snoc_same e.outer outer e.loop loop (sym e.is ∙ is) in
    subst (λ (l : OpenLoop). l.start < length steps) same.1 e.within

-- where none is open, no loop ends
pub none_ends : (steps : List Step) (lines : List Line) → CanComplete steps [] (EndWhile ∷ lines) → ⊥
none_ends steps lines can = let e = ends can.1 in none e.outer e.loop e.is
  where
    none : (outer : List OpenLoop) (loop : OpenLoop) → (let empty : List OpenLoop = [] in empty ≡ outer ++ loop ∷ []) → ⊥
    none [] loop is = cc
    none (x ∷ outer) loop is = cc

-- with no line left the code is whole
pub is_whole : {steps : List Step} {loops : List OpenLoop} {whole : List Step} → Completes steps loops [] whole → steps ≡ whole
is_whole {steps = steps} (last Done none is all) = sym (all ∙ append-nil steps)
is_whole (last (Then s rest) none is all) = absurd (cc)
is_whole (last (Loop test body rest) none is all) = absurd (cc)
is_whole (inside Done outer loop rest is lt left all) = absurd (cc)
is_whole (inside (Then s more) outer loop rest is lt left all) = absurd (cc)
is_whole (inside (Loop test body more) outer loop rest is lt left all) = absurd (cc)

-- two facts that hold where there is a value
pub on_ok_both : {T E P Q R : Type 0} (r : Result T E) → (P → Q → R) → OnOk r P → OnOk r Q → OnOk r R
on_ok_both (Ok x) f p q = f p q
on_ok_both (Err e) f p q = tt

-- the next line done
pub next_done : (all : List Line) (i : ℕ) (d : Line) (steps steps' : List Step) (loops loops' : List OpenLoop) (whole : List Step) → i < length all → Goes (get_or all i d) steps loops steps' loops' → Completes steps loops (drop i all) whole → Completes steps' loops' (drop (i + 1) all) whole
next_done all i d steps steps' loops loops' whole lt goes h =
    let e : drop i all ≡ get_or all i d ∷ drop (i + 1) all = rw add-one (drop-cons all i d lt) in
    goes (drop (i + 1) all) whole (subst (λ l. Completes steps loops l whole) e h)

-- before a line that is left
pub can_go : (all : List Line) (i : ℕ) (d : Line) (steps : List Step) (loops : List OpenLoop) (whole : List Step) → i < length all → Completes steps loops (drop i all) whole → (lines : List Line) × CanComplete steps loops (get_or all i d ∷ lines)
can_go all i d steps loops whole lt h =
    let e : drop i all ≡ get_or all i d ∷ drop (i + 1) all = rw add-one (drop-cons all i d lt) in
    (drop (i + 1) all, (whole, subst (λ l. Completes steps loops l whole) e h))

-- behind the last line
pub all_done : (all : List Line) (i : ℕ) (steps : List Step) (loops : List OpenLoop) (whole : List Step) → length all ≤ i → Completes steps loops (drop i all) whole → steps ≡ whole
all_done all i steps loops whole le h = is_whole (subst (λ l. Completes steps loops l whole) (drop_all i all le) h)

-- behind the last declaration
pub locals_done : (locals : List (Option Operand)) (i : ℕ) (steps whole : List Step) → length locals ≤ i → steps ++ locals_code (length steps) i (drop i locals) ≡ whole → steps ≡ whole
locals_done locals i steps whole le h = sym (append-nil steps) ∙ ap (λ ds. steps ++ locals_code (length steps) i ds) (sym (drop_all i locals le)) ∙ h

-- the code of the tree, from its parts
module _ (t : Tree) (kept : Outline) (is : IsOutlineOf kept t) where
  abbrev pub IsAssembled : (locals : List (Option Operand)) (front body main : List Step) (names : List (List ℕ)) (kinds : List Class) (shapes : List Shape) (before procs : List Procedure) (proc : Procedure) → Type 0
  IsAssembled locals front body main names kinds shapes before procs proc =
      locals ≡ kept.locals → front ≡ front_code locals → body ≡ front ++ block_code (length front) t.body → main ≡ body ++ step 0 Return ∷ []
      → names ≡ texts → kinds ≡ classes → shapes ≡ integers locals → proc ≡ procedure_of 4 shapes main → before ≡ [] → procs ≡ before ++ proc ∷ [] → code_with names kinds procs 0 ≡ code_of t

  pub assembled : (locals : List (Option Operand)) (front body main : List Step) (names : List (List ℕ)) (kinds : List Class) (shapes : List Shape) (before procs : List Procedure) (proc : Procedure) → IsAssembled locals front body main names kinds shapes before procs proc
  assembled locals front body main names kinds shapes before procs proc el ef eb em en ek es ep ez eps =
      let l : locals ≡ t.locals = el ∙ is.locals in
      let a : front ≡ front_code t.locals = ef ∙ ap front_code l in
      let b : body ≡ body_code t = eb ∙ ap (λ x. x ++ block_code (length x) t.body) a in
      let m : main ≡ main_code t = em ∙ ap (λ x. x ++ step 0 Return ∷ []) b in
      let s : shapes ≡ integers t.locals = es ∙ ap integers l in
      let p : proc ≡ procedure_of 4 (integers t.locals) (main_code t) = ep ∙ ap₂ (λ x y. procedure_of 4 x y) s m in
      let ps : procs ≡ procedure_of 4 (integers t.locals) (main_code t) ∷ [] = eps ∙ ap₂ (λ x y. x ++ y ∷ []) ez p in
      ap₂ (λ x y. code_with x y procs 0) en ek ∙ ap (λ x. code_with texts classes x 0) ps
