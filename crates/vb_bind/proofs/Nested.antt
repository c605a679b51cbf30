-- Blocks: one behind another, the statement at a place, and at most one block of the same statements.
use Rattle.std.proofs.Common.{◌≡◌, ℕ, zero, suc, ◌<◌, List, [], ◌∷◌, ◌++◌, length, get_or, Some, refl, sym, ap, subst, ◌∙◌, arith, append_assoc}
use Rattle.vb_text.specs.declared.names.Name.{Name}
use Rattle.vb_syntax.specs.declared.{expression.Expr.Expr as SyntaxExpr, statement.{Statement.Statement as SyntaxStatement, StatementForm.{out-StatementForm, TheOpen.StatementForm-F, TheVariants.outs-While}}}
use Rattle.vb_syntax.specs.declared.statement.StatementForm.TheVariants as form
use Rattle.vb_bound.specs.{declared.tree.{Condition.Condition, Statement.{Statement, TheVariants.{Assign, WriteLine}}, Line.{Line, TheVariants.{Does, While, EndWhile}}}, Tree.{Block, Done, Then, Loop, lines_of, IsLineOf, AreLines}}
use Rattle.vb_bind.specs.{declared.names.KnownNames.KnownNames, Grammar.{statement_form, test_tree, IsBlockOf, AreDistinctNames, IsMixedLine, AreMixedLines, IsFitLine, AreFitLines}, Parsing.{FormLayer, statement_read, test_read, IsGoodBlock}}
use Rattle.vb_bind.proofs.OneStatement.{statement_made, test_made}

-- FORMS

-- a While has one test and one body
pub while_is : (t u : SyntaxExpr) (i j : List SyntaxStatement) → form.While t i ≡ form.While u j → (t ≡ u) × (i ≡ j)
while_is t u i j e =
    let open_e : ◌≡◌ {A = FormLayer} (StatementForm-F.While t i) (StatementForm-F.While u j) = sym (outs-While t i) ∙ ap out-StatementForm e ∙ outs-While u j in
    let tests : t ≡ u = cc in
    let bodies : i ≡ j = cc in
    (tests, bodies)

-- a statement without a block is no While
pub no_while : (known : KnownNames) (names : List Name) (s : Statement) (t : SyntaxExpr) (i : List SyntaxStatement) → statement_form known names s ≡ form.While t i → ⊥
no_while known names (Assign x e) t i h = cc
no_while known names (WriteLine e) t i h = cc

-- LINES WHOSE NAMES AND NUMBERS ARE RIGHT

abbrev pub IsGoodLine : ℕ → Line → Type 0
IsGoodLine n l = IsLineOf n l × IsMixedLine l × IsFitLine l

abbrev pub AreGoodLines : ℕ → List Line → Type 0
AreGoodLines n [] = Unit {0}
AreGoodLines n (l ∷ ls) = IsGoodLine n l × AreGoodLines n ls

good_lines : (n : ℕ) (ls : List Line) → AreLines n ls → AreMixedLines ls → AreFitLines ls → AreGoodLines n ls
good_lines n [] a m f = tt
good_lines n (l ∷ ls) a m f = ((a.0, m.0, f.0), good_lines n ls a.1 m.1 f.1)

parts_of : (n : ℕ) (ls : List Line) → AreGoodLines n ls → AreLines n ls × AreMixedLines ls × AreFitLines ls
parts_of n [] g = (tt, tt, tt)
parts_of n (l ∷ ls) g = let more = parts_of n ls g.1 in ((g.0.0, more.0), (g.0.1, more.1), (g.0.2, more.2))

pub good_append : (n : ℕ) (xs ys : List Line) → AreGoodLines n xs → AreGoodLines n ys → AreGoodLines n (xs ++ ys)
good_append n [] ys g h = h
good_append n (x ∷ xs) ys g h = (g.0, good_append n xs ys g.1 h)

pub good_split : (n : ℕ) (xs ys : List Line) → AreGoodLines n (xs ++ ys) → AreGoodLines n xs × AreGoodLines n ys
good_split n [] ys g = (tt, g)
good_split n (x ∷ xs) ys g = let more = good_split n xs ys g.1 in ((g.0, more.0), more.1)

-- ONE BLOCK BEHIND ANOTHER

abbrev pub joined : Block → Block → Block
joined Done c = c
joined (Then s b) c = Then s (joined b c)
joined (Loop t b r) c = Loop t b (joined r c)

pub joined_lines : (b c : Block) → lines_of (joined b c) ≡ lines_of b ++ lines_of c
joined_lines Done c = refl
joined_lines (Then s b) c = ap (λ ls. Does s ∷ ls) (joined_lines b c)
joined_lines (Loop t b r) c =
    ap (λ ls. While t ∷ (lines_of b ++ EndWhile ∷ ls)) (joined_lines r c)
    ∙ ap (λ ls. While t ∷ ls) (sym (append_assoc (lines_of b) (EndWhile ∷ lines_of r) (lines_of c)))

-- pushing the lines of one block and then those of another
pub joined_pushed : (old one both : List Line) (b c : Block) → one ≡ old ++ lines_of b → both ≡ one ++ lines_of c → both ≡ old ++ lines_of (joined b c)
joined_pushed old one both b c h k = k ∙ ap (λ ls. ls ++ lines_of c) h ∙ append_assoc old (lines_of b) (lines_of c) ∙ ap (λ ls. old ++ ls) (sym (joined_lines b c))

module _ (known : KnownNames) (names : List Name) where
  join_blocks : (xs ys : List SyntaxStatement) (b c : Block) → IsBlockOf known names xs b → IsBlockOf known names ys c → IsBlockOf known names (xs ++ ys) (joined b c)
  join_blocks xs ys Done c h k = subst (λ z. IsBlockOf known names (z ++ ys) c) (sym h) k
  join_blocks xs ys (Then s b) c h k = (h.0, h.1 ++ ys, ap (λ z. z ++ ys) h.2, h.3, join_blocks h.1 ys b c h.4 k)
  join_blocks xs ys (Loop t b r) c h k = (h.0, h.1, h.2 ++ ys, ap (λ z. z ++ ys) h.3, h.4, h.5, join_blocks h.2 ys r c h.6 k)

  pub all_good : (ss : List SyntaxStatement) (b : Block) → IsGoodBlock known names ss b → AreGoodLines (length names) (lines_of b)
  all_good ss b g = good_lines (length names) (lines_of b) g.bound g.mixed g.fit

  pub good_block : (ss : List SyntaxStatement) (b : Block) → IsBlockOf known names ss b → AreGoodLines (length names) (lines_of b) → IsGoodBlock known names ss b
  good_block ss b h g = let parts = parts_of (length names) (lines_of b) g in record { is_block = h; bound = parts.0; mixed = parts.1; fit = parts.2 }

  pub join_good : (xs ys : List SyntaxStatement) (b c : Block) → IsGoodBlock known names xs b → IsGoodBlock known names ys c → IsGoodBlock known names (xs ++ ys) (joined b c)
  join_good xs ys b c g h =
      good_block (xs ++ ys) (joined b c) (join_blocks xs ys b c g.is_block h.is_block)
      (subst (λ ls. AreGoodLines (length names) ls) (sym (joined_lines b c)) (good_append (length names) (lines_of b) (lines_of c) (all_good xs b g) (all_good ys c h)))

  one_at : (ss : List SyntaxStatement) (b : Block) (k : ℕ) (s : SyntaxStatement) → k < length ss → s ≡ get_or ss k s → IsBlockOf known names ss b → AreGoodLines (length names) (lines_of b)
      → (c : Block) × IsBlockOf known names (s ∷ []) c × AreGoodLines (length names) (lines_of c)
  one_at ss Done k s lt e h g = let none : length ss ≡ 0 = ap length h in absurd (omega arith)
  one_at ss (Then x b) zero s lt e h g =
      let is : s ≡ h.0 = e ∙ ap (λ z. get_or z 0 s) h.2 in
      (Then x Done, (s, [], refl, ap (λ (z : SyntaxStatement). z.form) is ∙ h.3, refl), (g.0, tt))
  one_at ss (Then x b) (suc k) s lt e h g =
      let len : length ss ≡ suc (length h.1) = ap length h.2 in
      one_at h.1 b k s (omega arith) (e ∙ ap (λ z. get_or z (suc k) s) h.2) h.4 g.1
  one_at ss (Loop t b r) zero s lt e h g =
      let is : s ≡ h.0 = e ∙ ap (λ z. get_or z 0 s) h.3 in
      let body = good_split (length names) (lines_of b) (EndWhile ∷ lines_of r) g.1 in
      (Loop t b Done, (s, h.1, [], refl, ap (λ (z : SyntaxStatement). z.form) is ∙ h.4, h.5, refl), (g.0, good_append (length names) (lines_of b) (EndWhile ∷ []) body.0 (body.1.0, tt)))
  one_at ss (Loop t b r) (suc k) s lt e h g =
      let len : length ss ≡ suc (length h.2) = ap length h.3 in
      let body = good_split (length names) (lines_of b) (EndWhile ∷ lines_of r) g.1 in
      one_at h.2 r k s (omega arith) (e ∙ ap (λ z. get_or z (suc k) s) h.3) h.6 body.1.1

  -- each statement of a block is one by itself
  pub good_at : (ss : List SyntaxStatement) (b : Block) (k : ℕ) (s : SyntaxStatement) → k < length ss → s ≡ get_or ss k s → IsGoodBlock known names ss b → (c : Block) × IsGoodBlock known names (s ∷ []) c
  good_at ss b k s lt e g =
      let one = one_at ss b k s lt e g.is_block (all_good ss b g) in
      (one.0, good_block (s ∷ []) one.0 one.1 one.2)

  -- AT MOST ONE BLOCK

  same_test : (t u : Condition) → AreDistinctNames known names → IsGoodLine (length names) (While t) → IsGoodLine (length names) (While u) → test_tree names t ≡ test_tree names u → t ≡ u
  same_test t u d g h e =
      let is : Some t ≡ Some u = sym (test_made known names t d g.0.0 g.0.1 (g.1, g.2)) ∙ ap (λ x. test_read names x) e ∙ test_made known names u d h.0.0 h.0.1 (h.1, h.2) in
      cc

  same_statement : (s r : Statement) → AreDistinctNames known names → IsGoodLine (length names) (Does s) → IsGoodLine (length names) (Does r) → statement_form known names s ≡ statement_form known names r → s ≡ r
  same_statement s r d g h e =
      let is : Some s ≡ Some r = sym (statement_made known names s d g.0 (g.1, g.2)) ∙ ap (λ f. statement_read known names f) e ∙ statement_made known names r d h.0 (h.1, h.2) in
      cc

  same_block : (ss : List SyntaxStatement) (b c : Block) → AreDistinctNames known names → IsBlockOf known names ss b → IsBlockOf known names ss c → AreGoodLines (length names) (lines_of b) → AreGoodLines (length names) (lines_of c) → b ≡ c
  same_block ss Done Done d h k g l = refl
  same_block ss Done (Then s c) d h k g l = let e = sym h ∙ k.2 in absurd cc
  same_block ss Done (Loop t c r) d h k g l = let e = sym h ∙ k.3 in absurd cc
  same_block ss (Then s b) Done d h k g l = let e = sym k ∙ h.2 in absurd cc
  same_block ss (Then s b) (Then r c) d h k g l =
      let e : h.0 ∷ h.1 ≡ k.0 ∷ k.1 = sym h.2 ∙ k.2 in
      let first : h.0 ≡ k.0 = cc in
      let more : h.1 ≡ k.1 = cc in
      let front : s ≡ r = same_statement s r d g.0 l.0 (sym h.3 ∙ ap (λ (x : SyntaxStatement). x.form) first ∙ k.3) in
      let rest : b ≡ c = same_block k.1 b c d (subst (λ x. IsBlockOf known names x b) more h.4) k.4 g.1 l.1 in
      ap (λ x. Then x b) front ∙ ap (λ x. Then r x) rest
  same_block ss (Then s b) (Loop t c r) d h k g l =
      let e : h.0 ∷ h.1 ≡ k.0 ∷ k.2 = sym h.2 ∙ k.3 in
      let first : h.0 ≡ k.0 = cc in
      absurd (no_while known names s (test_tree names t) k.1 (sym h.3 ∙ ap (λ (x : SyntaxStatement). x.form) first ∙ k.4))
  same_block ss (Loop t b r) Done d h k g l = let e = sym k ∙ h.3 in absurd cc
  same_block ss (Loop t b r) (Then s c) d h k g l =
      let e : k.0 ∷ k.1 ≡ h.0 ∷ h.2 = sym k.2 ∙ h.3 in
      let first : k.0 ≡ h.0 = cc in
      absurd (no_while known names s (test_tree names t) h.1 (sym k.3 ∙ ap (λ (x : SyntaxStatement). x.form) first ∙ h.4))
  same_block ss (Loop t b r) (Loop u c q) d h k g l =
      let e : h.0 ∷ h.2 ≡ k.0 ∷ k.2 = sym h.3 ∙ k.3 in
      let first : h.0 ≡ k.0 = cc in
      let more : h.2 ≡ k.2 = cc in
      let parts = while_is (test_tree names t) (test_tree names u) h.1 k.1 (sym h.4 ∙ ap (λ (x : SyntaxStatement). x.form) first ∙ k.4) in
      let mine = good_split (length names) (lines_of b) (EndWhile ∷ lines_of r) g.1 in
      let other = good_split (length names) (lines_of c) (EndWhile ∷ lines_of q) l.1 in
      let tests : t ≡ u = same_test t u d g.0 l.0 parts.0 in
      let bodies : b ≡ c = same_block k.1 b c d (subst (λ x. IsBlockOf known names x b) parts.1 h.5) k.5 mine.0 other.0 in
      let rests : r ≡ q = same_block k.2 r q d (subst (λ x. IsBlockOf known names x r) more h.6) k.6 mine.1.1 other.1.1 in
      ap (λ x. Loop x b r) tests ∙ ap (λ x. Loop u x r) bodies ∙ ap (λ x. Loop u c x) rests

  -- blocks of the same statements are the same
  pub one_block : (ss : List SyntaxStatement) (b c : Block) → AreDistinctNames known names → IsGoodBlock known names ss b → IsGoodBlock known names ss c → b ≡ c
  one_block ss b c d g h = same_block ss b c d g.is_block h.is_block (all_good ss b g) (all_good ss c h)
