-- The steps of reading statements.
use Rattle.std.proofs.Common.{◌≡◌, ℕ, suc, ◌+◌, ◌-◌, ◌<◌, ◌≤◌, Bool, true, List, [], ◌∷◌, ◌++◌, length, take, take_all, drop, get_or, Option, Some, None, refl, sym, ap, subst, ◌∙◌, arith}
use Rattle.std.proofs.lemmas.List.{take_more}
use Rattle.std.specs.Prelude.{if◌then◌else◌, Result, Ok, Err, IfOk}
use Rattle.vb_text.specs.declared.names.Name.{Name}
use Rattle.vb_syntax.specs.declared.{expression.Expr.Expr as SyntaxExpr, statement.Statement.Statement as SyntaxStatement}
use Rattle.vb_syntax.specs.declared.statement.StatementForm.TheVariants as form
use Rattle.vb_bound.specs.{declared.tree.{Operand.Operand, Condition.Condition, Statement.Statement, Line.TheVariants.{While, EndWhile}}, Tree.{Block, Done, Then, Loop, lines_of, IsInitialOf, IsStatementOf, IsLineOf, AreLocals}}
use Rattle.vb_bind.specs.{declared.names.KnownNames.KnownNames, Grammar.{AreDistinctNames, IsBlockOf}, Parsing.{statement_read, test_read, dim_read, front, dim_or, front_read, is_new, IsGoodBlock, IsNoBlock}}
use Rattle.vb_bind.proofs.{OneStatement.{statement_sound, statement_made, test_sound, test_made}, Nested.{while_is, no_while, joined, AreGoodLines, good_append, good_split, all_good, good_block, join_good, good_at}}

-- what is so of an Ok is so where it follows
pub ok_so : {X E : Type 0} (r : Result X E) (P Q : X → Type 0) → IfOk r P → ((x : X) → P x → Q x) → IfOk r Q
ok_so (Ok x) P Q h f = f x h
ok_so (Err e) P Q h f = tt

module _ (known : KnownNames) (names : List Name) where
  -- A STATEMENT

  pub loop_good : (s : SyntaxStatement) (t : SyntaxExpr) (inner : List SyntaxStatement) (test : Condition) (b : Block) → s.form ≡ form.While t inner → test_read names t ≡ Some test → IsLineOf (length names) (While test) → IsGoodBlock known names inner b → IsGoodBlock known names (s ∷ []) (Loop test b Done)
  loop_good s t inner test b is read bound good =
      let sound = test_sound names t test read in
      good_block known names (s ∷ []) (Loop test b Done)
      (s, inner, [], refl, is ∙ ap (λ x. form.While x inner) sound.0, good.is_block, refl)
      ((bound, sound.1.0, sound.1.1), good_append (length names) (lines_of b) (EndWhile ∷ []) (all_good known names inner b good) ((tt, tt, tt), tt))

  pub then_good : (s : SyntaxStatement) (x : Statement) → statement_read known names s.form ≡ Some x → IsStatementOf (length names) x → IsGoodBlock known names (s ∷ []) (Then x Done)
  then_good s x read bound =
      let sound = statement_sound known names s.form x read in
      good_block known names (s ∷ []) (Then x Done) (s, [], refl, sound.0, refl) ((bound, sound.1.0, sound.1.1), tt)

  -- a good block of one While has a good test and a good body
  record IsLoop (t : SyntaxExpr) (inner : List SyntaxStatement) : Type 0 where
    test : Condition
    body : Block
    read : test_read names t ≡ Some test
    good : IsGoodBlock known names inner body

  same_form : (s x : SyntaxStatement) (behind : List SyntaxStatement) → s ∷ [] ≡ x ∷ behind → s.form ≡ x.form
  same_form s x behind e = let is : s ≡ x = cc in ap (λ (y : SyntaxStatement). y.form) is

  loop_of : (s : SyntaxStatement) (t : SyntaxExpr) (inner : List SyntaxStatement) (b : Block) → s.form ≡ form.While t inner → AreDistinctNames known names → IsBlockOf known names (s ∷ []) b → AreGoodLines (length names) (lines_of b) → IsLoop t inner
  loop_of s t inner Done is d h g = absurd cc
  loop_of s t inner (Then x b) is d h g = absurd (no_while known names x t inner (sym h.3 ∙ sym (same_form s h.0 h.1 h.2) ∙ is))
  loop_of s t inner (Loop c b r) is d h g =
      let parts = while_is t _ inner h.1 (sym is ∙ same_form s h.0 h.2 h.3 ∙ h.4) in
      let lines = good_split (length names) (lines_of b) (EndWhile ∷ lines_of r) g.1 in
      record {
        test = c;
        body = b;
        read = ap (λ x. test_read names x) parts.0 ∙ test_made known names c d g.0.0.0 g.0.0.1 (g.0.1, g.0.2);
        good = good_block known names inner b (subst (λ ss. IsBlockOf known names ss b) (sym parts.1) h.5) lines.0;
      }

  pub test_none : (s : SyntaxStatement) (t : SyntaxExpr) (inner : List SyntaxStatement) → s.form ≡ form.While t inner → test_read names t ≡ None → IsNoBlock known names (s ∷ [])
  test_none s t inner is none d b g =
      let l = loop_of s t inner b is d g.is_block (all_good known names (s ∷ []) b g) in
      let e : Some l.test ≡ None = sym l.read ∙ none in
      absurd cc

  pub inner_none : (s : SyntaxStatement) (t : SyntaxExpr) (inner : List SyntaxStatement) → s.form ≡ form.While t inner → IsNoBlock known names inner → IsNoBlock known names (s ∷ [])
  inner_none s t inner is none d b g =
      let l = loop_of s t inner b is d g.is_block (all_good known names (s ∷ []) b g) in
      none d l.body l.good

  by_block : (s : SyntaxStatement) (b : Block) → ((t : SyntaxExpr) (inner : List SyntaxStatement) → s.form ≡ form.While t inner → ⊥) → statement_read known names s.form ≡ None → AreDistinctNames known names → IsBlockOf known names (s ∷ []) b → AreGoodLines (length names) (lines_of b) → ⊥
  by_block s Done other none d h g = absurd cc
  by_block s (Then x b) other none d h g =
      let e : Some x ≡ None = sym (statement_made known names x d g.0.0 (g.0.1, g.0.2)) ∙ ap (λ f. statement_read known names f) (sym (same_form s h.0 h.1 h.2 ∙ h.3)) ∙ none in
      absurd cc
  by_block s (Loop c b r) other none d h g = other _ h.1 (same_form s h.0 h.2 h.3 ∙ h.4)

  pub statement_none : (s : SyntaxStatement) → ((t : SyntaxExpr) (inner : List SyntaxStatement) → s.form ≡ form.While t inner → ⊥) → statement_read known names s.form ≡ None → IsNoBlock known names (s ∷ [])
  statement_none s other none d b g = by_block s b other none d g.is_block (all_good known names (s ∷ []) b g)

  -- STATEMENTS

  pub none_at : (ss : List SyntaxStatement) (k : ℕ) (s : SyntaxStatement) → k < length ss → s ≡ get_or ss k s → IsNoBlock known names (s ∷ []) → IsNoBlock known names ss
  none_at ss k s lt e none d b g = let one = good_at known names ss b k s lt e g in none d one.0 one.1

  pub more_good : (ss : List SyntaxStatement) (k : ℕ) (s : SyntaxStatement) (b c : Block) → k < length ss → s ≡ get_or ss k s → IsGoodBlock known names (take k ss) b → IsGoodBlock known names (s ∷ []) c → IsGoodBlock known names (take (k + 1) ss) (joined b c)
  more_good ss k s b c lt e g h =
      let more : take (k + 1) ss ≡ take k ss ++ s ∷ [] = take_more ss k s lt ∙ ap (λ x. take k ss ++ x ∷ []) (sym e) in
      subst (λ xs. IsGoodBlock known names xs (joined b c)) (sym more) (join_good known names (take k ss) (s ∷ []) b c g h)

-- DECLARATIONS

-- the first statement and those behind it, as a pattern of both takes them
abbrev pub behind_first : List SyntaxStatement → List SyntaxStatement
behind_first rest = take (length rest - 1) (drop 1 rest)

pub first_is : (rest : List SyntaxStatement) (s : SyntaxStatement) → 1 ≤ length rest → s ≡ get_or rest 0 s → rest ≡ s ∷ behind_first rest
first_is [] s some e = absurd (omega arith)
first_is (x ∷ xs) s some e =
    let all : take (suc (length xs) - 1) xs ≡ xs = take_all _ xs (omega arith) in
    ap (λ y. y ∷ xs) (sym e) ∙ ap (λ ys. s ∷ ys) (sym all)

pub more_dims : (n : ℕ) (ds : List (Option Operand)) (d : Option Operand) → AreLocals n ds → IsInitialOf (n + length ds) d → AreLocals n (ds ++ d ∷ [])
more_dims n [] d h k = let e : n + 0 ≡ n = omega arith in (subst (λ m. IsInitialOf m d) e k, tt)
more_dims n (x ∷ ds) d h k = let e : n + length (x ∷ ds) ≡ n + 1 + length ds = omega arith in (h.0, more_dims (n + 1) ds d h.1 (subst (λ m. IsInitialOf m d) e k))

dim_next : (known : KnownNames) (m : Name) (names : List Name) (dims : List (Option Operand)) (rest : List SyntaxStatement) (x : SyntaxStatement) (behind : List SyntaxStatement) (s : Name) (i : Option Operand) → rest ≡ x ∷ behind → dim_read known names x.form ≡ Some (s, i) → front_read known m names dims rest ≡ (if is_new m names s then front_read known m (names ++ s ∷ []) (dims ++ i ∷ []) behind else None)
dim_next known m names dims rest x behind s i e read =
    ap (λ r. front_read known m names dims r) e
    ∙ ap (λ o. dim_or o (Some (front names dims (x ∷ behind))) (λ s i. if is_new m names s then front_read known m (names ++ s ∷ []) (dims ++ i ∷ []) behind else None)) read

pub dim_more : (known : KnownNames) (m : Name) (names grown : List Name) (dims more : List (Option Operand)) (rest : List SyntaxStatement) (x : SyntaxStatement) (behind : List SyntaxStatement) (s : Name) (i : Option Operand) → rest ≡ x ∷ behind → dim_read known names x.form ≡ Some (s, i) → is_new m names s ≡ true → grown ≡ names ++ s ∷ [] → more ≡ dims ++ i ∷ [] → front_read known m names dims rest ≡ front_read known m grown more behind
dim_more known m names grown dims more rest x behind s i e read new a b =
    dim_next known m names dims rest x behind s i e read
    ∙ ap (λ (p : Bool). if p then front_read known m (names ++ s ∷ []) (dims ++ i ∷ []) behind else None) new
    ∙ ap (λ n. front_read known m n (dims ++ i ∷ []) behind) (sym a) ∙ ap (λ d. front_read known m grown d behind) (sym b)
