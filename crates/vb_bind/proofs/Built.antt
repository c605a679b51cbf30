-- A program has no form that isn't one of a program's.
use Rattle.std.proofs.Common.{◌≡◌, inl, inr, ⊎_elim, ℕ, List, [], ◌∷◌, ◌++◌, Option, refl, sym, subst, ◌∙◌}
use Rattle.vb_text.specs.declared.names.Name.{Name}
use Rattle.vb_syntax.specs.declared.{expression.Expr.Expr as SyntaxExpr, statement.Statement.Statement as SyntaxStatement, declaration.{OptionStatement.OptionStatement, SourceFile.SourceFile}}
use Rattle.vb_syntax.specs.declared.statement.StatementForm.TheVariants as form
use Rattle.vb_bound.specs.{declared.tree.{Operand.Operand, Line.{Line, TheVariants.EndWhile}}, Tree.{Block, Done, Then, Loop, Tree, lines_of}}
use Rattle.vb_bind.specs.{declared.names.KnownNames.KnownNames, Grammar.{test_tree, dim_form, AreDims, IsBlockOf, AreFitLines, AreFitInitials, IsProgramOf, IsBuiltForm, dim, statement, loop, HasUnbuiltStatement, itself, inside, behind, HasOne, IsUnbuiltImports, HasUnbuiltMember, HasUnbuiltType, HasUnbuiltForm}}
use Rattle.vb_bind.proofs.{Nested.{while_is, no_while}, Outside.{members_made, main_made}, Least.{none_of_none, split_unbuilt, at_main, at_module}}

fit_split : (xs ys : List Line) → AreFitLines (xs ++ ys) → AreFitLines xs × AreFitLines ys
fit_split [] ys f = (tt, f)
fit_split (x ∷ xs) ys f = let more = fit_split xs ys f.1 in ((f.0, more.0), more.1)

module _ (known : KnownNames) (n : ℕ) where
  -- a statement of a built form that is no While, before others
  first_built : (s : SyntaxStatement) (ss : List SyntaxStatement) → IsBuiltForm known s.form → ((t : SyntaxExpr) (body : List SyntaxStatement) → s.form ≡ form.While t body → ⊥) → HasUnbuiltStatement known n (s ∷ ss) → HasUnbuiltStatement known n ss
  first_built s ss built other (itself x xs e unbuilt) = absurd (unbuilt built)
  first_built s ss built other (inside x xs t body e same_built h) = absurd (other t body e)
  first_built s ss built other (behind x xs h) = h

  dims_built : (all ns : List Name) (ds : List (Option Operand)) (ss : List SyntaxStatement) → AreDims all ns ds ss → AreFitInitials ds → HasUnbuiltStatement known n ss → ⊥
  dims_built all [] [] [] h fit u = none_of_none known n u
  dims_built all [] [] (s ∷ ss) h fit u = h
  dims_built all [] (d ∷ ds) ss h fit u = h
  dims_built all (m ∷ ns) [] ss h fit u = h
  dims_built all (m ∷ ns) (d ∷ ds) [] h fit u = h
  dims_built all (m ∷ ns) (d ∷ ds) (s ∷ ss) h fit u =
      let built : IsBuiltForm known s.form = subst (λ f. IsBuiltForm known f) (sym h.0) (dim all m d fit.0) in
      dims_built all ns ds ss h.1 fit.1 (first_built s ss built (λ t body e. let is : dim_form all m d ≡ form.While t body = sym h.0 ∙ e in absurd cc) u)

  loop_first : (s : SyntaxStatement) (t : SyntaxExpr) (inner ss : List SyntaxStatement) → s.form ≡ form.While t inner → IsBuiltForm known s.form → (HasUnbuiltStatement known n inner → ⊥) → HasUnbuiltStatement known n (s ∷ ss) → HasUnbuiltStatement known n ss
  loop_first s t inner ss is built none (itself x xs e unbuilt) = absurd (unbuilt built)
  loop_first s t inner ss is built none (inside x xs u body e same_built h) = absurd (none (subst (λ ys. HasUnbuiltStatement known n ys) (while_is u t body inner (sym e ∙ is)).1 h))
  loop_first s t inner ss is built none (behind x xs h) = h

  block_built : (names : List Name) (ss : List SyntaxStatement) (b : Block) → IsBlockOf known names ss b → AreFitLines (lines_of b) → HasUnbuiltStatement known n ss → ⊥
  block_built names ss Done h fit u = none_of_none known n (subst (λ ys. HasUnbuiltStatement known n ys) h u)
  block_built names ss (Then x b) h fit u =
      let built : IsBuiltForm known h.0.form = subst (λ f. IsBuiltForm known f) (sym h.3) (statement names x fit.0) in
      block_built names h.1 b h.4 fit.1 (first_built h.0 h.1 built (λ t body e. no_while known names x t body (sym h.3 ∙ e)) (subst (λ ys. HasUnbuiltStatement known n ys) h.2 u))
  block_built names ss (Loop test b r) h fit u =
      let built : IsBuiltForm known h.0.form = subst (λ f. IsBuiltForm known f) (sym h.4) (loop names test h.1 fit.0) in
      let lines = fit_split (lines_of b) (EndWhile ∷ lines_of r) fit.1 in
      block_built names h.2 r h.6 lines.1.1 (loop_first h.0 (test_tree names test) h.1 h.2 h.4 built (block_built names h.1 b h.5 lines.0) (subst (λ ys. HasUnbuiltStatement known n ys) h.3 u))

  only_one : {X : Type 0} (P : X → Type 0) (xs : List X) (x : X) → xs ≡ x ∷ [] → HasOne P xs → P x
  only_one P xs x e h = ⊎_elim (λ p. p) (λ none. absurd none) (subst (λ ys. HasOne P ys) e h)

  pub program_built : (file : SourceFile) (t : Tree) → IsProgramOf known file t → HasUnbuiltForm known file n → ⊥
  program_built file t p (inl h) = subst (λ os. HasOne (λ (o : OptionStatement). o.line ≡ n) os) p.is_file.no_options h
  program_built file t p (inr (inl h)) = (only_one (IsUnbuiltImports known n) file.imports p.is_file.imports p.is_file.one_imports h).1 p.is_file.is_imports
  program_built file t p (inr (inr h)) =
      let f = p.is_file in
      let d = only_one (HasUnbuiltType known n) file.types f.declared f.one_type h in
      let ms = at_module known f.declared n (f.main ∷ []) (members_made known f.declared (f.main ∷ []) f.is_module) d in
      let x = only_one (HasUnbuiltMember known n) (f.main ∷ []) f.main refl ms in
      let u = at_main known f.main n (p.dims ++ p.statements) (main_made known f.main (p.dims ++ p.statements) f.is_main) x in
      ⊎_elim (dims_built p.names p.names t.locals p.dims p.are_dims p.fit.0) (block_built p.names p.statements t.body p.is_block p.fit.1) (split_unbuilt known n p.dims p.statements u)
