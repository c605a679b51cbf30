-- The least line that has a form which no program has, from its parts.
use Rattle.std.proofs.Common.{◌≡◌, ◌⊎◌, inl, inr, ⊎_elim, ℕ, ◌+◌, ◌<◌, ◌≤◌, true, false, List, [], ◌∷◌, ◌++◌, length, take, take_all, get_or, Option, Some, None, refl, sym, ap, subst, ◌∙◌, arith}
use Rattle.std.proofs.lemmas.List.{take_more, get_or_default}
use Rattle.vb_syntax.specs.declared.{expression.Expr.Expr as SyntaxExpr, statement.Statement.Statement as SyntaxStatement, declaration.{ImportsStatement.ImportsStatement, Member.Member, TypeDeclaration.TypeDeclaration, OptionStatement.OptionStatement, SourceFile.SourceFile}}
use Rattle.vb_syntax.specs.declared.statement.StatementForm.TheVariants as form
use Rattle.vb_bind.specs.{declared.names.KnownNames.KnownNames, Grammar.{IsBuiltForm, HasUnbuiltStatement, itself, inside, behind, HasOne, IsUnbuiltImports, HasUnbuiltMember, no_main, in_main, HasUnbuiltType, no_module, in_module, HasUnbuiltForm}, Parsing.{members_read, main_read, is_form}}
use Rattle.vb_diag.specs.Broken.{IsLeastLine, lesser_line}
use Rattle.vb_diag.proofs.Least.{least_same, least_of_two, lines_ordered}
use Rattle.vb_bind.proofs.{Nested.while_is, Outside.{members_sound, members_made, main_sound, main_made}, OneForm.{form_sound, form_made}}

-- ONE OF MANY

pub one_split : {X : Type 0} (P : X → Type 0) (xs ys : List X) → HasOne P (xs ++ ys) → HasOne P xs ⊎ HasOne P ys
one_split P [] ys h = inr h
one_split P (x ∷ xs) ys (inl p) = inl (inl p)
one_split P (x ∷ xs) ys (inr h) = ⊎_elim (λ k. inl (inr k)) (λ k. inr k) (one_split P xs ys h)

pub one_front : {X : Type 0} (P : X → Type 0) (xs ys : List X) → HasOne P xs → HasOne P (xs ++ ys)
one_front P [] ys h = absurd h
one_front P (x ∷ xs) ys (inl p) = inl p
one_front P (x ∷ xs) ys (inr h) = inr (one_front P xs ys h)

pub one_back : {X : Type 0} (P : X → Type 0) (xs ys : List X) → HasOne P ys → HasOne P (xs ++ ys)
one_back P [] ys h = h
one_back P (x ∷ xs) ys h = inr (one_back P xs ys h)

-- the list up to a place, and the element there
more_is : {X : Type 0} (xs : List X) (k : ℕ) (x : X) → k < length xs → x ≡ get_or xs k x → take k xs ++ x ∷ [] ≡ take (k + 1) xs
more_is xs k x lt e = ap (λ y. take k xs ++ y ∷ []) e ∙ sym (take_more xs k x lt)

-- one more element of a list
pub least_more : {X : Type 0} (P : ℕ → X → Type 0) (xs : List X) (k : ℕ) (x : X) (a b o : Option ℕ) → k < length xs → x ≡ get_or xs k x → o ≡ lesser_line a b → IsLeastLine (λ n. HasOne (P n) (take k xs)) a → IsLeastLine (λ n. P n x) b → IsLeastLine (λ n. HasOne (P n) (take (k + 1) xs)) o
least_more P xs k x a b o lt e is h one =
    let both = least_of_two lines_ordered (λ n. HasOne (P n) (take k xs)) (λ n. P n x) a b h one in
    subst (λ z. IsLeastLine (λ n. HasOne (P n) (take (k + 1) xs)) z) (sym is)
    (subst (λ ys. IsLeastLine (λ n. HasOne (P n) ys) (lesser_line a b)) (more_is xs k x lt e)
    (least_same lines_ordered (λ n. HasOne (P n) (take k xs) ⊎ P n x) (λ n. HasOne (P n) (take k xs ++ x ∷ [])) (lesser_line a b) both
    (λ n. ⊎_elim (one_front (P n) (take k xs) (x ∷ [])) (λ p. one_back (P n) (take k xs) (x ∷ []) (inl p)))
    (λ n i. ⊎_elim (λ j. inl j) (λ j. ⊎_elim (λ p. inr p) (λ none. absurd none) j) (one_split (P n) (take k xs) (x ∷ []) i))))

-- all of a list
pub least_all : {X : Type 0} (P : ℕ → X → Type 0) (xs : List X) (k : ℕ) (a : Option ℕ) → length xs ≤ k → IsLeastLine (λ n. HasOne (P n) (take k xs)) a → IsLeastLine (λ n. HasOne (P n) xs) a
least_all P xs k a le h = subst (λ ys. IsLeastLine (λ n. HasOne (P n) ys) a) (take_all k xs le) h

-- just this line
pub least_line : (line : ℕ) → IsLeastLine (λ n. line ≡ n) (Some line)
least_line line = (refl, λ n e. omega arith)

module _ (known : KnownNames) where
  -- STATEMENTS

  pub none_of_none : (n : ℕ) → HasUnbuiltStatement known n [] → ⊥
  none_of_none n h = elim h [ ]

  pub split_unbuilt : (n : ℕ) (xs ys : List SyntaxStatement) → HasUnbuiltStatement known n (xs ++ ys) → HasUnbuiltStatement known n xs ⊎ HasUnbuiltStatement known n ys
  split_unbuilt n [] ys h = inr h
  split_unbuilt n (x ∷ xs) ys (itself s ss e other) = inl (itself x xs e other)
  split_unbuilt n (x ∷ xs) ys (inside s ss t b e built h) = inl (inside x xs t b e built h)
  split_unbuilt n (x ∷ xs) ys (behind s ss h) = ⊎_elim (λ k. inl (behind x xs k)) (λ k. inr k) (split_unbuilt n xs ys h)

  front_unbuilt : (n : ℕ) (xs ys : List SyntaxStatement) → HasUnbuiltStatement known n xs → HasUnbuiltStatement known n (xs ++ ys)
  front_unbuilt n [] ys h = absurd (none_of_none n h)
  front_unbuilt n (x ∷ xs) ys (itself s ss e other) = itself x (xs ++ ys) e other
  front_unbuilt n (x ∷ xs) ys (inside s ss t b e built h) = inside x (xs ++ ys) t b e built h
  front_unbuilt n (x ∷ xs) ys (behind s ss h) = behind x (xs ++ ys) (front_unbuilt n xs ys h)

  back_unbuilt : (n : ℕ) (xs ys : List SyntaxStatement) → HasUnbuiltStatement known n ys → HasUnbuiltStatement known n (xs ++ ys)
  back_unbuilt n [] ys h = h
  back_unbuilt n (x ∷ xs) ys h = behind x (xs ++ ys) (back_unbuilt n xs ys h)

  pub least_behind : (ss : List SyntaxStatement) (k : ℕ) (s : SyntaxStatement) (a b o : Option ℕ) → k < length ss → s ≡ get_or ss k s → o ≡ lesser_line a b → IsLeastLine (λ n. HasUnbuiltStatement known n (take k ss)) a → IsLeastLine (λ n. HasUnbuiltStatement known n (s ∷ [])) b → IsLeastLine (λ n. HasUnbuiltStatement known n (take (k + 1) ss)) o
  least_behind ss k s a b o lt e is h one =
      let both = least_of_two lines_ordered (λ n. HasUnbuiltStatement known n (take k ss)) (λ n. HasUnbuiltStatement known n (s ∷ [])) a b h one in
      subst (λ z. IsLeastLine (λ n. HasUnbuiltStatement known n (take (k + 1) ss)) z) (sym is)
      (subst (λ ys. IsLeastLine (λ n. HasUnbuiltStatement known n ys) (lesser_line a b)) (more_is ss k s lt e)
      (least_same lines_ordered (λ n. HasUnbuiltStatement known n (take k ss) ⊎ HasUnbuiltStatement known n (s ∷ [])) (λ n. HasUnbuiltStatement known n (take k ss ++ s ∷ [])) (lesser_line a b) both
      (λ n. ⊎_elim (front_unbuilt n (take k ss) (s ∷ [])) (back_unbuilt n (take k ss) (s ∷ [])))
      (λ n. split_unbuilt n (take k ss) (s ∷ []))))

  pub least_whole : (ss : List SyntaxStatement) (k : ℕ) (a : Option ℕ) → length ss ≤ k → IsLeastLine (λ n. HasUnbuiltStatement known n (take k ss)) a → IsLeastLine (λ n. HasUnbuiltStatement known n ss) a
  least_whole ss k a le h = subst (λ ys. IsLeastLine (λ n. HasUnbuiltStatement known n ys) a) (take_all k ss le) h

  not_built : (s : SyntaxStatement) → is_form known s.form ≡ false → IsBuiltForm known s.form → ⊥
  not_built s e b = let yes = form_made known b in cc

  at_itself : (s : SyntaxStatement) (n : ℕ) → (IsBuiltForm known s.form → ⊥) → HasUnbuiltStatement known n (s ∷ []) → s.line ≡ n
  at_itself s n other (itself x ss e unbuilt) = e
  at_itself s n other (inside x ss t b e built h) = absurd (other built)
  at_itself s n other (behind x ss h) = absurd (none_of_none n h)

  -- a statement whose form isn't built
  pub least_itself : (s : SyntaxStatement) → is_form known s.form ≡ false → IsLeastLine (λ n. HasUnbuiltStatement known n (s ∷ [])) (Some s.line)
  least_itself s e =
      least_same lines_ordered (λ n. s.line ≡ n) (λ n. HasUnbuiltStatement known n (s ∷ [])) (Some s.line) (least_line s.line)
      (λ n is. itself s [] is (not_built s e))
      (λ n. at_itself s n (not_built s e))

  at_inside : (s : SyntaxStatement) (n : ℕ) (t : SyntaxExpr) (body : List SyntaxStatement) → s.form ≡ form.While t body → IsBuiltForm known s.form → HasUnbuiltStatement known n (s ∷ []) → HasUnbuiltStatement known n body
  at_inside s n t body is built (itself x ss e unbuilt) = absurd (unbuilt built)
  at_inside s n t body is built (inside x ss u b e same_built h) = subst (λ ys. HasUnbuiltStatement known n ys) (while_is u t b body (sym e ∙ is)).1 h
  at_inside s n t body is built (behind x ss h) = absurd (none_of_none n h)

  -- a While
  pub least_inside : (s : SyntaxStatement) (t : SyntaxExpr) (body : List SyntaxStatement) (a : Option ℕ) → s.form ≡ form.While t body → is_form known s.form ≡ true → IsLeastLine (λ n. HasUnbuiltStatement known n body) a → IsLeastLine (λ n. HasUnbuiltStatement known n (s ∷ [])) a
  least_inside s t body a is e h =
      let built = form_sound known s.form e in
      least_same lines_ordered (λ n. HasUnbuiltStatement known n body) (λ n. HasUnbuiltStatement known n (s ∷ [])) a h
      (λ n k. inside s [] t body is built k)
      (λ n. at_inside s n t body is built)

  none_within : (s : SyntaxStatement) (n : ℕ) → ((t : SyntaxExpr) (body : List SyntaxStatement) → s.form ≡ form.While t body → ⊥) → IsBuiltForm known s.form → HasUnbuiltStatement known n (s ∷ []) → ⊥
  none_within s n other built (itself x ss e unbuilt) = unbuilt built
  none_within s n other built (inside x ss t b e same_built h) = other t b e
  none_within s n other built (behind x ss h) = none_of_none n h

  -- another statement
  pub least_nothing : (s : SyntaxStatement) → ((t : SyntaxExpr) (body : List SyntaxStatement) → s.form ≡ form.While t body → ⊥) → is_form known s.form ≡ true → IsLeastLine (λ n. HasUnbuiltStatement known n (s ∷ [])) None
  least_nothing s other e = λ n. none_within s n other (form_sound known s.form e)

  -- MEMBERS AND TYPES

  pub at_main : (x : Member) (n : ℕ) (body : List SyntaxStatement) → main_read known x ≡ Some body → HasUnbuiltMember known n x → HasUnbuiltStatement known n body
  at_main x n body e (no_main is other) = absurd (other body (main_sound known x body e))
  at_main x n body e (in_main ss is h) =
      let some : Some ss ≡ Some body = sym (main_made known x ss is) ∙ e in
      let same : ss ≡ body = cc in
      subst (λ ys. HasUnbuiltStatement known n ys) same h

  -- Main
  pub least_in_main : (x : Member) (body : List SyntaxStatement) (a : Option ℕ) → main_read known x ≡ Some body → IsLeastLine (λ n. HasUnbuiltStatement known n body) a → IsLeastLine (λ n. HasUnbuiltMember known n x) a
  least_in_main x body a e h =
      least_same lines_ordered (λ n. HasUnbuiltStatement known n body) (λ n. HasUnbuiltMember known n x) a h (λ n k. in_main body (main_sound known x body e) k) (λ n. at_main x n body e)

  pub at_module : (d : TypeDeclaration) (n : ℕ) (ms : List Member) → members_read d ≡ Some ms → HasUnbuiltType known n d → HasOne (HasUnbuiltMember known n) ms
  at_module d n ms e (no_module is other) = absurd (other ms (members_sound known d ms e))
  at_module d n ms e (in_module xs is h) =
      let some : Some xs ≡ Some ms = sym (members_made known d xs is) ∙ e in
      let same : xs ≡ ms = cc in
      subst (λ ys. HasOne (HasUnbuiltMember known n) ys) same h

  -- a module
  pub least_in_module : (d : TypeDeclaration) (ms : List Member) (a : Option ℕ) → members_read d ≡ Some ms → IsLeastLine (λ n. HasOne (HasUnbuiltMember known n) ms) a → IsLeastLine (λ n. HasUnbuiltType known n d) a
  least_in_module d ms a e h =
      least_same lines_ordered (λ n. HasOne (HasUnbuiltMember known n) ms) (λ n. HasUnbuiltType known n d) a h (λ n k. in_module ms (members_sound known d ms e) k) (λ n. at_module d n ms e)

  -- THE FILE

  pub least_file : (file : SourceFile) (os : List OptionStatement) (is : List ImportsStatement) (ts : List TypeDeclaration) (a b c o : Option ℕ) → os ≡ file.options → is ≡ file.imports → ts ≡ file.types → o ≡ lesser_line a (lesser_line b c)
      → IsLeastLine (λ n. HasOne (λ (s : OptionStatement). s.line ≡ n) os) a → IsLeastLine (λ n. HasOne (IsUnbuiltImports known n) is) b → IsLeastLine (λ n. HasOne (HasUnbuiltType known n) ts) c
      → IsLeastLine (HasUnbuiltForm known file) o
  least_file file os is ts a b c o os_are is_are ts_are e f g h =
      let options = subst (λ xs. IsLeastLine (λ n. HasOne (λ (s : OptionStatement). s.line ≡ n) xs) a) os_are f in
      let imports = subst (λ xs. IsLeastLine (λ n. HasOne (IsUnbuiltImports known n) xs) b) is_are g in
      let types = subst (λ xs. IsLeastLine (λ n. HasOne (HasUnbuiltType known n) xs) c) ts_are h in
      subst (λ x. IsLeastLine (HasUnbuiltForm known file) x) (sym e) (least_of_two lines_ordered _ _ a (lesser_line b c) options (least_of_two lines_ordered _ _ b c imports types))

-- an Option, which no program has
pub least_option : (xs : List OptionStatement) (k : ℕ) (d : OptionStatement) (a o : Option ℕ) → k < length xs → o ≡ lesser_line a (Some (get_or xs k d).line) → IsLeastLine (λ n. HasOne (λ (s : OptionStatement). s.line ≡ n) (take k xs)) a → IsLeastLine (λ n. HasOne (λ (s : OptionStatement). s.line ≡ n) (take (k + 1) xs)) o
least_option xs k d a o lt is h =
    let x : OptionStatement = get_or xs k d in
    least_more (λ n (s : OptionStatement). s.line ≡ n) xs k x a (Some x.line) o lt (get_or_default xs k d x lt) is h (least_line x.line)
