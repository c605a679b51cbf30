-- The code of a tree is checked: a table of the shapes before each place.
use Rattle.std.proofs.Common.{◌≡◌, ℕ, zero, suc, ◌+◌, ◌<◌, ◌≤◌, List, [], ◌∷◌, ◌++◌, map, length, Option, Some, None, refl, sym, ap, subst, arith, length-append}
use Rattle.std.specs.Prelude.{slice_get, IsSome}
use Rattle.std.proofs.lemmas.List.{length-map}
use Rattle.vb_num.specs.declared.kinds.Kind.TheVariants.{Integer}
use Rattle.vb_value.specs.declared.value.Shape.TheVariants.{Num, Bool as Truth, Text}
use Rattle.vb_bound.specs.{declared.tree.{Operand.{Operand, TheVariants.{Local, Number}}, Expr.{Expr, TheVariants.{One, Two}}, Condition.Condition, Statement.{Statement, TheVariants.{Assign, WriteLine}}, Line.{Line, TheVariants.EndWhile}}, Tree.{Block, Done, Then, Loop, Tree, Outline, IsOutlineOf, IsBound, lines_of, IsOperandOf, IsExprOf, IsStatementOf, AreLocals, AreLines}}
use Rattle.vb_code.specs.{declared.instr.{Instr.{Instr, TheVariants.{StoreLocal, Return}}, Step.Step}, Code.{Code, locals_of, throwable, overflow, out_of_memory}, Shapes.{Shapes, Turns, leads_to, AllHave, IsChecked}}
use Rattle.vb_codegen.specs.Emitted.{step, instr_of, expr_code, line_code, statement_code, locals_code, test_code, block_code, front_code, main_code, integers, code_of}
use Rattle.vb_codegen.proofs.Placed.{HasAt, has_front, has_back, has_all}

-- the shapes before each place: nothing, a number, two numbers
abbrev none : Option Shapes
none = Some []

abbrev one : Option Shapes
one = Some (Num Integer ∷ [])

abbrev two : Option Shapes
two = Some (Num Integer ∷ Num Integer ∷ [])

abbrev expr_shapes : Expr → List (Option Shapes)
expr_shapes (One v) = none ∷ []
expr_shapes (Two v o w) = none ∷ one ∷ two ∷ []

abbrev line_shapes : List (Option Shapes)
line_shapes = one ∷ Some (Text ∷ []) ∷ Some (Text ∷ Text ∷ []) ∷ Some (Text ∷ []) ∷ []

abbrev statement_shapes : Statement → List (Option Shapes)
statement_shapes (Assign x e) = expr_shapes e ++ one ∷ []
statement_shapes (WriteLine e) = expr_shapes e ++ line_shapes

abbrev local_shapes : Option Operand → List (Option Shapes)
local_shapes None = none ∷ []
local_shapes (Some v) = none ∷ one ∷ []

abbrev locals_shapes : List (Option Operand) → List (Option Shapes)
locals_shapes [] = []
locals_shapes (d ∷ ds) = local_shapes d ++ locals_shapes ds

abbrev test_shapes : List (Option Shapes)
test_shapes = none ∷ one ∷ two ∷ Some (Truth ∷ []) ∷ []

abbrev block_shapes : Block → List (Option Shapes)
block_shapes Done = []
block_shapes (Then s rest) = statement_shapes s ++ block_shapes rest
block_shapes (Loop test body rest) = none ∷ (block_shapes body ++ (test_shapes ++ block_shapes rest))

abbrev main_shapes : Tree → List (Option Shapes)
main_shapes t = none ∷ ((locals_shapes t.locals ++ block_shapes t.body) ++ none ∷ [])

-- there is one for each instruction
expr_long : (e : Expr) → length (expr_shapes e) ≡ length (expr_code e)
expr_long (One v) = refl
expr_long (Two v o w) = refl

statement_long : (s : Statement) → length (statement_shapes s) ≡ length (statement_code s)
statement_long (Assign x e) = omega (arith, expr_long e, length-append (expr_shapes e) (one ∷ []), length-append (expr_code e) (step 0 (StoreLocal x.0) ∷ []))
statement_long (WriteLine e) = omega (arith, expr_long e, length-append (expr_shapes e) line_shapes, length-append (expr_code e) line_code)

locals_long : (ds : List (Option Operand)) (x place : ℕ) → length (locals_shapes ds) ≡ length (locals_code place x ds)
locals_long [] x place = refl
locals_long (None ∷ ds) x place = ap suc (locals_long ds (x + 1) (place + 1))
locals_long (Some v ∷ ds) x place = ap (λ n. suc (suc n)) (locals_long ds (x + 1) (place + 2))

block_long : (block : Block) (place : ℕ) → length (block_shapes block) ≡ length (block_code place block)
block_long Done place = refl
block_long (Then s rest) place =
    let next = place + length (statement_code s) in
    omega (arith, statement_long s, block_long rest next, length-append (statement_shapes s) (block_shapes rest), length-append (statement_code s) (block_code next rest))
block_long (Loop test body rest) place =
    let inner = block_code (place + 1) body in
    let behind = block_code (place + 1 + length inner + 4) rest in
    omega (arith, block_long body (place + 1), block_long rest (place + 1 + length inner + 4), length-append (block_shapes body) (test_shapes ++ block_shapes rest), length-append inner (test_code (place + 1) test ++ behind))

lines_front : (n : ℕ) (ls ms : List Line) → AreLines n (ls ++ ms) → AreLines n ls
lines_front n [] ms h = tt
lines_front n (l ∷ ls) ms h = (h.0, lines_front n ls ms h.1)

lines_back : (n : ℕ) (ls ms : List Line) → AreLines n (ls ++ ms) → AreLines n ms
lines_back n [] ms h = h
lines_back n (l ∷ ls) ms h = lines_back n ls ms h.1

-- a local that is declared above is one of all
operand_below : (k n : ℕ) → k ≤ n → (v : Operand) → IsOperandOf k v → IsOperandOf n v
operand_below k n le (Local x) h = omega arith
operand_below k n le (Number v) h = tt

-- Code of n Integer locals, with the classes that instructions throw.
pub record HasParts (c : Code) (n : ℕ) : Type 0 where
  pub locals : (x : ℕ) → x < n → slice_get (locals_of c) x ≡ Some (Num Integer)
  pub line : 0 < length c.texts
  pub overflows : IsSome (throwable c overflow)
  pub memory : IsSome (throwable c out_of_memory)

module _ (c : Code) (n : ℕ) (has : HasParts c n) (table : List (Option Shapes)) where
  -- an instruction finds its operands, and the places to which it leads have the shapes that it leaves
  abbrev pub Fits : ℕ → Instr → Option Shapes → Type 0
  Fits place i None = Unit {0}
  Fits place i (Some ks) = (js : Shapes) × Turns c i ks js × AllHave table (leads_to i place) js

  abbrev AllFit : ℕ → List Step → List (Option Shapes) → Type 0
  AllFit place [] [] = Unit {0}
  AllFit place [] (k ∷ ks) = ⊥
  AllFit place (s ∷ ss) [] = ⊥
  AllFit place (s ∷ ss) (k ∷ ks) = Fits place s.instr k × AllFit (place + 1) ss ks

  -- nothing stands on the stack before this place
  abbrev IsBare : ℕ → Type 0
  IsBare place = slice_get table place ≡ Some none

  fits_both : (a b : List Step) (ka kb : List (Option Shapes)) (place : ℕ) → AllFit place a ka → AllFit (place + length a) b kb → AllFit place (a ++ b) (ka ++ kb)
  fits_both [] b [] kb place f g = let e : place + 0 ≡ place = omega arith in subst (λ m. AllFit m b kb) e g
  fits_both [] b (k ∷ ka) kb place f g = absurd f
  fits_both (s ∷ a) b [] kb place f g = absurd f
  fits_both (s ∷ a) b (k ∷ ka) kb place f g =
      let e : place + suc (length a) ≡ place + 1 + length a = omega arith in
      (f.0, fits_both a b ka kb (place + 1) f.1 (subst (λ m. AllFit m b kb) e g))

  operand_fits : (v : Operand) (place : ℕ) (ks : Shapes) → IsOperandOf n v → slice_get table (place + 1) ≡ Some (Some (Num Integer ∷ ks)) → Fits place (instr_of v) (Some ks)
  operand_fits (Local x) place ks h e = (Num Integer ∷ ks, (Integer, has.locals x.0 h, refl), (e, tt))
  operand_fits (Number v) place ks h e = (Num Integer ∷ ks, refl, (e, tt))

  store_fits : (x place : ℕ) → x < n → IsBare (place + 1) → Fits place (StoreLocal x) one
  store_fits x place h e = ([], (Integer, has.locals x h, refl), (e, tt))

  expr_fits : (e : Expr) (place : ℕ) → IsExprOf n e → HasAt table place (expr_shapes e) → slice_get table (place + length (expr_code e)) ≡ Some one → AllFit place (expr_code e) (expr_shapes e)
  expr_fits (One v) place b h next = (operand_fits v place [] b next, tt)
  expr_fits (Two v o w) place b h next =
      let at : place + 3 ≡ place + 1 + 1 + 1 = omega arith in
      let next' = subst (λ m. slice_get table m ≡ Some one) at next in
      (operand_fits v place [] b.0 h.1.0, (operand_fits w (place + 1) (Num Integer ∷ []) b.1 h.1.1.0, ((Num Integer ∷ [], ([], refl, refl, has.overflows), (next', tt)), tt)))

  line_fits : (place : ℕ) → HasAt table place line_shapes → IsBare (place + 1 + 1 + 1 + 1) → AllFit place line_code line_shapes
  line_fits place h next = (
    (Text ∷ [], (Integer, [], refl, refl), (h.1.0, tt)),
    (
      (Text ∷ Text ∷ [], (has.line, refl), (h.1.1.0, tt)),
      ((Text ∷ [], ([], refl, refl, has.memory), (h.1.1.1.0, tt)), (([], refl, (next, tt)), tt)),
    ),
  )

  statement_fits : (s : Statement) (place after : ℕ) → IsStatementOf n s → HasAt table place (statement_shapes s) → place + length (statement_code s) ≡ after → IsBare after → AllFit place (statement_code s) (statement_shapes s)
  statement_fits (Assign x e) place after b h at bare =
      let next = place + length (expr_code e) in
      let last = step 0 (StoreLocal x.0) ∷ [] in
      let there = subst (λ m. HasAt table m (one ∷ [])) (ap (λ m. place + m) (expr_long e)) (has_back table place (expr_shapes e) (one ∷ []) h) in
      let at' : after ≡ next + 1 = omega (arith, length-append (expr_code e) last) in
      fits_both (expr_code e) last (expr_shapes e) (one ∷ []) place (expr_fits e place b.1 (has_front table place (expr_shapes e) (one ∷ []) h) there.0)
      (store_fits x.0 next b.0 (subst IsBare at' bare), tt)
  statement_fits (WriteLine e) place after b h at bare =
      let next = place + length (expr_code e) in
      let there = subst (λ m. HasAt table m line_shapes) (ap (λ m. place + m) (expr_long e)) (has_back table place (expr_shapes e) line_shapes h) in
      let at' : after ≡ next + 1 + 1 + 1 + 1 = omega (arith, length-append (expr_code e) line_code) in
      fits_both (expr_code e) line_code (expr_shapes e) line_shapes place (expr_fits e place b (has_front table place (expr_shapes e) line_shapes h) there.0)
      (line_fits next there (subst IsBare at' bare))

  statement_bare : (s : Statement) (ks : List (Option Shapes)) (place : ℕ) → HasAt table place (statement_shapes s ++ ks) → IsBare place
  statement_bare (Assign x (One v)) ks place h = h.0
  statement_bare (Assign x (Two v o w)) ks place h = h.0
  statement_bare (WriteLine (One v)) ks place h = h.0
  statement_bare (WriteLine (Two v o w)) ks place h = h.0

  block_bare : (block : Block) (place after : ℕ) → HasAt table place (block_shapes block) → place + length (block_code place block) ≡ after → IsBare after → IsBare place
  block_bare Done place after h at bare = let same : after ≡ place = omega arith in subst IsBare same bare
  block_bare (Then s rest) place after h at bare = statement_bare s (block_shapes rest) place h
  block_bare (Loop test body rest) place after h at bare = h.0

  test_fits : (test : Condition) (first place : ℕ) → IsOperandOf n test.left → IsOperandOf n test.right → HasAt table place test_shapes → IsBare first → IsBare (place + 4) → AllFit place (test_code first test) test_shapes
  test_fits test first place bl br h bare next =
      let at : place + 4 ≡ place + 1 + 1 + 1 + 1 = omega arith in (
        operand_fits test.left place [] bl h.1.0,
        (
          operand_fits test.right (place + 1) (Num Integer ∷ []) br h.1.1.0,
          ((Truth ∷ [], (Integer, [], refl, refl), (h.1.1.1.0, tt)), (([], refl, (bare, (subst IsBare at next, tt))), tt)),
        ),
      )

  block_fits : (block : Block) (place after : ℕ) → AreLines n (lines_of block) → HasAt table place (block_shapes block) → place + length (block_code place block) ≡ after → IsBare after → AllFit place (block_code place block) (block_shapes block)
  block_fits Done place after b h at bare = tt
  block_fits (Then s rest) place after b h at bare =
      let next = place + length (statement_code s) in
      let behind = block_code next rest in
      let at' : next + length behind ≡ after = omega (arith, length-append (statement_code s) behind) in
      let there = subst (λ m. HasAt table m (block_shapes rest)) (ap (λ m. place + m) (statement_long s)) (has_back table place (statement_shapes s) (block_shapes rest) h) in
      fits_both (statement_code s) behind (statement_shapes s) (block_shapes rest) place
      (statement_fits s place next b.0 (has_front table place (statement_shapes s) (block_shapes rest) h) refl (block_bare rest next after there at' bare))
      (block_fits rest next after b.1 there at' bare)
  block_fits (Loop test body rest) place after b h at bare =
      let inner = block_code (place + 1) body in
      let tested = place + 1 + length inner in
      let tests = test_code (place + 1) test in
      let behind = block_code (tested + 4) rest in
      let at' : tested + 4 + length behind ≡ after = omega (arith, length-append inner (tests ++ behind)) in
      let body_there = has_front table (place + 1) (block_shapes body) (test_shapes ++ block_shapes rest) h.1 in
      let both_there = subst (λ m. HasAt table m (test_shapes ++ block_shapes rest)) (ap (λ m. place + 1 + m) (block_long body (place + 1))) (has_back table (place + 1) (block_shapes body) (test_shapes ++ block_shapes rest) h.1) in
      let tests_there = has_front table tested test_shapes (block_shapes rest) both_there in
      let rest_there = has_back table tested test_shapes (block_shapes rest) both_there in
      let body_bound = lines_front n (lines_of body) (EndWhile ∷ lines_of rest) b.1 in
      let rest_bound = (lines_back n (lines_of body) (EndWhile ∷ lines_of rest) b.1).1 in
      let next = block_bare rest (tested + 4) after rest_there at' bare in
      let first = block_bare body (place + 1) tested body_there refl tests_there.0 in (
        ([], refl, (tests_there.0, tt)),
        fits_both inner (tests ++ behind) (block_shapes body) (test_shapes ++ block_shapes rest) (place + 1) (block_fits body (place + 1) tested body_bound body_there refl tests_there.0)
            (fits_both tests behind test_shapes (block_shapes rest) tested (test_fits test (place + 1) tested b.0.0 b.0.1 tests_there first next) (block_fits rest (tested + 4) after rest_bound rest_there at' bare)),
      )

  locals_bare : (ds : List (Option Operand)) (x place after : ℕ) → HasAt table place (locals_shapes ds) → place + length (locals_code place x ds) ≡ after → IsBare after → IsBare place
  locals_bare [] x place after h at bare = let same : after ≡ place = omega arith in subst IsBare same bare
  locals_bare (None ∷ ds) x place after h at bare = h.0
  locals_bare (Some v ∷ ds) x place after h at bare = h.0

  locals_fit : (ds : List (Option Operand)) (x place after : ℕ) → AreLocals x ds → x + length ds ≡ n → HasAt table place (locals_shapes ds) → place + length (locals_code place x ds) ≡ after → IsBare after → AllFit place (locals_code place x ds) (locals_shapes ds)
  locals_fit [] x place after b long h at bare = tt
  locals_fit (None ∷ ds) x place after b long h at bare =
      let at' : place + 1 + length (locals_code (place + 1) (x + 1) ds) ≡ after = omega arith in
      (([], refl, (locals_bare ds (x + 1) (place + 1) after h.1 at' bare, tt)), locals_fit ds (x + 1) (place + 1) after b.1 (omega arith) h.1 at' bare)
  locals_fit (Some v ∷ ds) x place after b long h at bare =
      let next : place + 1 + 1 ≡ place + 2 = omega arith in
      let there = subst (λ m. HasAt table m (locals_shapes ds)) next h.1.1 in
      let at' : place + 2 + length (locals_code (place + 2) (x + 1) ds) ≡ after = omega arith in
      let bare' = locals_bare ds (x + 1) (place + 2) after there at' bare in
      let rest = locals_fit ds (x + 1) (place + 2) after b.1 (omega arith) there at' bare in
      (operand_fits v place [] (operand_below x n (omega arith) v b.0) h.1.0, (store_fits x (place + 1) (omega arith) (subst IsBare (sym next) bare'), subst (λ m. AllFit m (locals_code (place + 2) (x + 1) ds) (locals_shapes ds)) (sym next) rest))

  fits_at : (ss : List Step) (ks : List (Option Shapes)) (from : ℕ) → AllFit from ss ks → (j : ℕ) (i : Instr) (k : Shapes) → slice_get (map (λ (s : Step). s.instr) ss) j ≡ Some i → slice_get ks j ≡ Some (Some k) → Fits (from + j) i (Some k)
  fits_at [] ks from f j i k e g = absurd (cc)
  fits_at (s ∷ ss) [] from f j i k e g = absurd f
  fits_at (s ∷ ss) (x ∷ ks) from f zero i k e g =
      let a : s.instr ≡ i = cc in
      let b : x ≡ Some k = cc in
      let at : from ≡ from + 0 = omega arith in
      subst (λ m. Fits m i (Some k)) at (subst (λ y. Fits from i y) b (subst (λ z. Fits from z x) a f.0))
  fits_at (s ∷ ss) (x ∷ ks) from f (suc j) i k e g =
      let at : from + 1 + j ≡ from + suc j = omega arith in
      subst (λ m. Fits m i (Some k)) at (fits_at ss ks (from + 1) f.1 j i k e g)

-- the locals are Integers
integers_at : (ds : List (Option Operand)) (x : ℕ) → x < length ds → slice_get (integers ds) x ≡ Some (Num Integer)
integers_at [] x lt = absurd (omega arith)
integers_at (d ∷ ds) zero lt = refl
integers_at (d ∷ ds) (suc x) lt = integers_at ds x (omega arith)

module _ (t : Tree) where
  has_parts : HasParts (code_of t) (length t.locals)
  has_parts = record { locals = integers_at t.locals; line = omega arith; overflows = refl; memory = refl }

  all_fit : AreLocals 0 t.locals → AreLines (length t.locals) (lines_of t.body) → AllFit (code_of t) (length t.locals) has_parts (main_shapes t) 0 (main_code t) (main_shapes t)
  all_fit bound lines =
      let c = code_of t in
      let n = length t.locals in
      let table = main_shapes t in
      let ks = locals_shapes t.locals in
      let ls = block_shapes t.body in
      let first = locals_code 1 0 t.locals in
      let whole : HasAt table 0 table = has_all table [] in
      let body_there = has_front table 1 (ks ++ ls) (none ∷ []) whole.1 in
      let last_there = has_back table 1 (ks ++ ls) (none ∷ []) whole.1 in
      let locals_there = has_front table 1 ks ls body_there in
      let behind = length (front_code t.locals) in
      let code = block_code behind t.body in
      let m : 1 + length ks ≡ behind = omega (arith, locals_long t.locals 0 1) in
      let block_there = subst (λ k. HasAt table k ls) m (has_back table 1 ks ls body_there) in
      let e : 1 + length (ks ++ ls) ≡ behind + length code = omega (arith, length-append ks ls, block_long t.body behind) in
      let bare : slice_get table (behind + length code) ≡ Some none = subst (λ k. slice_get table k ≡ Some none) e last_there.0 in
      let at : 1 + length first ≡ behind = omega arith in
      let bare' = block_bare c n has_parts table t.body behind (behind + length code) block_there refl bare in
      let locals_ok = locals_fit c n has_parts table t.locals 0 1 behind bound (omega arith) locals_there at bare' in
      let block_ok = block_fits c n has_parts table t.body behind (behind + length code) lines block_there refl bare in
      let both_ok = fits_both c n has_parts table first code ks ls 1 locals_ok (subst (λ k. AllFit c n has_parts table k code ls) (sym at) block_ok) in (
        ([], refl, (locals_bare c n has_parts table t.locals 0 1 behind locals_there at bare', tt)),
        fits_both c n has_parts table (first ++ code) (step 0 Return ∷ []) (ks ++ ls) (none ∷ []) 1 both_ok (([], (refl, refl), tt), tt),
      )

  long : length (main_shapes t) ≡ length (map (λ (s : Step). s.instr) (main_code t))
  long =
      let ks = locals_shapes t.locals in
      let ls = block_shapes t.body in
      let first = locals_code 1 0 t.locals in
      let behind = length (front_code t.locals) in
      let code = block_code behind t.body in
      omega (arith, length-map (main_code t) (λ (s : Step). s.instr), locals_long t.locals 0 1, block_long t.body behind, length-append (ks ++ ls) (none ∷ []), length-append ks ls, length-append (first ++ code) (step 0 Return ∷ []), length-append first code)

  pub is_checked : (kept : Outline) → IsOutlineOf kept t → IsBound kept → IsChecked (code_of t)
  is_checked kept is bound =
      let lines : AreLines (length t.locals) (lines_of t.body) = subst (λ l. AreLines (length t.locals) l) is.lines (subst (λ l. AreLines (length l) kept.lines) is.locals bound.lines) in
      let fits = all_fit (subst (λ l. AreLocals 0 l) is.locals bound.locals) lines in (
        main_shapes t,
        record {
          long = long;
          start = refl;
          each = λ place i ks e g. let at : 0 + place ≡ place = omega arith in let f = fits_at (code_of t) (length t.locals) has_parts (main_shapes t) (main_code t) (main_shapes t) 0 fits place i ks e g in
              subst (λ k. Fits (code_of t) (length t.locals) has_parts (main_shapes t) k i (Some ks)) at f;
        },
      )
