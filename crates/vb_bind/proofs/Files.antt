-- The whole file: what is read is a program, and what is a program is read.
use Rattle.std.proofs.Common.{◌≡◌, suc, List, [], ◌∷◌, ◌++◌, length, Option, Some, refl, sym, ap, subst, ◌∙◌}
use Rattle.std.specs.Prelude.{Result, Ok, Err, IfOk}
use Rattle.vb_text.specs.declared.names.Name.{Name}
use Rattle.vb_syntax.specs.declared.{statement.Statement.Statement as SyntaxStatement, declaration.SourceFile.SourceFile}
use Rattle.vb_bound.specs.{declared.tree.Operand.Operand, Tree.{Block, Tree, outline, lines_of, AreLines, IsBound}}
use Rattle.vb_bind.specs.{declared.names.KnownNames.KnownNames, Grammar.{AreDims, IsIn, AreDistinctNames, AreFitInitials, IsFileOf, IsProgramOf}, Parsing.{Front, front, front_read, file_read, IsGoodBlock, IsNoBlock}}
use Rattle.vb_bind.proofs.{Nested.one_block, Declared.{distinct_of, front_sound, front_made, stop_read}, Outside.{file_sound, file_made}}

-- as many names as locals
dims_length : (all ns : List Name) (ds : List (Option Operand)) (ss : List SyntaxStatement) → AreDims all ns ds ss → length ns ≡ length ds
dims_length all [] [] ss h = refl
dims_length all [] (d ∷ ds) ss h = absurd h
dims_length all (n ∷ ns) [] ss h = absurd h
dims_length all (n ∷ ns) (d ∷ ds) [] h = absurd h
dims_length all (n ∷ ns) (d ∷ ds) (s ∷ ss) h = ap suc (dims_length all ns ds ss h.1)

-- the module's name and the statements of Main
abbrev Main : Type 0
Main = Name × List SyntaxStatement

module _ (known : KnownNames) where
  -- the block of a program, in terms of the names that it is read with
  good_of : (file : SourceFile) (t : Tree) (p : IsProgramOf known file t) → IsGoodBlock known p.names p.statements t.body
  good_of file t p =
      let same : length t.locals ≡ length p.names = sym (dims_length p.names p.names t.locals p.dims p.are_dims) in
      record { is_block = p.is_block; bound = subst (λ n. AreLines n (lines_of t.body)) same p.bound.lines; mixed = p.mixed; fit = p.fit.1 }

  file_of : (file : SourceFile) (t : Tree) (p : IsProgramOf known file t) → file_read known file ≡ Some (p.m, p.dims ++ p.statements)
  file_of file t p = file_made known file p.m (p.dims ++ p.statements) p.is_file p.distinct.0

  front_of : (file : SourceFile) (t : Tree) (p : IsProgramOf known file t) → front_read known p.m [] [] (p.dims ++ p.statements) ≡ Some (front p.names t.locals p.statements)
  front_of file t p = front_made known p.m [] p.names [] t.locals p.dims p.statements p.are_dims p.distinct p.bound.locals p.fit.0 (λ n l. stop_read known p.m n p.names l p.statements t.body p.is_block)

  pub parsed : (file : SourceFile) (m : Name) (body : List SyntaxStatement) (f : Front) (b : Block) → file_read known file ≡ Some (m, body) → front_read known m [] [] body ≡ Some f → IsGoodBlock known f.names f.behind b → IsBound (outline f.locals (lines_of b)) → IsProgramOf known file (record { locals = f.locals; body = b })
  parsed file m body f b read_file read_front good bound =
      let outer = file_sound known file m body read_file in
      let inner = front_sound known m [] [] body f read_front in
      let none : IsIn m [] → ⊥ = λ x. x in
      record {
        m = m;
        names = f.names;
        dims = inner.dims;
        statements = f.behind;
        is_file = subst (λ ss. IsFileOf known file m ss) inner.statements outer.0;
        are_dims = subst (λ ds. AreDims f.names f.names ds inner.dims) (sym inner.locals_are) (subst (λ ns. AreDims ns ns inner.inits inner.dims) (sym inner.names_are) inner.are_dims);
        is_block = good.is_block;
        distinct = subst (λ ns. AreDistinctNames known (m ∷ ns)) (sym inner.names_are) (distinct_of known m [] inner.more (outer.1, none, tt) inner.chain);
        bound = bound;
        mixed = good.mixed;
        fit = (subst (λ ds. AreFitInitials ds) (sym inner.locals_are) inner.fit, good.fit);
      }

  -- a file whose statements aren't read is no program
  pub no_front : (file : SourceFile) (m : Name) (body : List SyntaxStatement) → file_read known file ≡ Some (m, body) → ((f : Front) → front_read known m [] [] body ≡ Some f → IsNoBlock known f.names f.behind) → (t : Tree) → IsProgramOf known file t → ⊥
  no_front file m body e refuses t p =
      let pair : ◌≡◌ {A = Option Main} (Some (p.m, p.dims ++ p.statements)) (Some (m, body)) = sym (file_of file t p) ∙ e in
      let same : ◌≡◌ {A = Main} (p.m, p.dims ++ p.statements) (m, body) = cc in
      let m_is : p.m ≡ m = ap (λ (x : Main). x.0) same in
      let body_is : p.dims ++ p.statements ≡ body = ap (λ (x : Main). x.1) same in
      let read : front_read known m [] [] body ≡ Some (front p.names t.locals p.statements) = ap (λ n. front_read known n [] [] body) (sym m_is) ∙ ap (λ ss. front_read known p.m [] [] ss) (sym body_is) ∙ front_of file t p in
      refuses (front p.names t.locals p.statements) read p.distinct.2 t.body (good_of file t p)

  -- a file is that of one program at most
  pub same_program : (file : SourceFile) (t u : Tree) → IsProgramOf known file t → IsProgramOf known file u → t ≡ u
  same_program file t u p q =
      let pair : ◌≡◌ {A = Option Main} (Some (p.m, p.dims ++ p.statements)) (Some (q.m, q.dims ++ q.statements)) = sym (file_of file t p) ∙ file_of file u q in
      let both : ◌≡◌ {A = Main} (p.m, p.dims ++ p.statements) (q.m, q.dims ++ q.statements) = cc in
      let m_is : p.m ≡ q.m = ap (λ (x : Main). x.0) both in
      let body_is : p.dims ++ p.statements ≡ q.dims ++ q.statements = ap (λ (x : Main). x.1) both in
      let fronts : Some (front p.names t.locals p.statements) ≡ Some (front q.names u.locals q.statements) = sym (front_of file t p) ∙ ap (λ n. front_read known n [] [] (p.dims ++ p.statements)) m_is ∙ ap (λ ss. front_read known q.m [] [] ss) body_is ∙ front_of file u q in
      let same : front p.names t.locals p.statements ≡ front q.names u.locals q.statements = cc in
      let names : p.names ≡ q.names = ap (λ (x : Front). x.names) same in
      let locals : t.locals ≡ u.locals = ap (λ (x : Front). x.locals) same in
      let statements : p.statements ≡ q.statements = ap (λ (x : Front). x.behind) same in
      let mine : IsGoodBlock known q.names q.statements t.body = subst (λ ss. IsGoodBlock known q.names ss t.body) statements (subst (λ ns. IsGoodBlock known ns p.statements t.body) names (good_of file t p)) in
      let body : t.body ≡ u.body = one_block known q.names q.statements t.body u.body q.distinct.2 mine (good_of file u q) in
      let first : t ≡ record { locals = u.locals; body = t.body } = ap (λ (ls : List (Option Operand)). record { locals = ls; body = t.body }) locals in
      let second : ◌≡◌ {A = Tree} (record { locals = u.locals; body = t.body }) u = ap (λ (b : Block). record { locals = u.locals; body = b }) body in
      first ∙ second

-- what follows of an Ok from two facts of it
pub both_ok : {X E : Type 0} (r : Result X E) (P Q R : X → Type 0) → IfOk r P → IfOk r Q → ((x : X) → P x → Q x → R x) → IfOk r R
both_ok (Ok x) P Q R h k f = f x h k
both_ok (Err e) P Q R h k f = tt
