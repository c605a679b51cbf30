-- The forms that the tests take are those of a program's statements, whatever the names and the numbers are.
use Rattle.std.proofs.Common.{◌≡◌, ℕ, Bool, true, List, [], ◌∷◌, Option, Some, None, refl, sym, ap, subst, ◌∙◌}
use Rattle.std.specs.Prelude.{◌&&◌, slice_get, unwrap_or}
use Rattle.vb_text.specs.declared.names.Name.{Name}
use Rattle.vb_syntax.specs.declared.tokens.IntegerType.TheVariants as kind
use Rattle.vb_syntax.specs.declared.types.PrimitiveTypeName.TheVariants as primitive
use Rattle.vb_syntax.specs.declared.types.BuiltInTypeName.TheVariants as built_in
use Rattle.vb_syntax.specs.declared.types.SimpleTypeName.TheVariants as simple
use Rattle.vb_syntax.specs.declared.types.TypeName.TheVariants as type_name
use Rattle.vb_syntax.specs.declared.expression.BinaryOperator.TheVariants as binary
use Rattle.vb_syntax.specs.declared.{expression.{Expr.{Expr as SyntaxExpr, out-Expr, TheOpen.Expr-F, TheVariants.{outs-SimpleName, outs-Integer, outs-Binary, outs-Invocation}}, VariableInitializer.VariableInitializer}, declarator.{VariableIdentifier.VariableIdentifier, VariableModifier.VariableModifier, Declarator.Declarator}, statement.{Statement.Statement as SyntaxStatement, StatementForm.{StatementForm, out-StatementForm, roll-StatementForm, roll-out-StatementForm, TheOpen.StatementForm-F, TheVariants.{outs-LocalDeclaration, outs-Assignment, outs-Invocation as outs-Call, outs-While, rolls-LocalDeclaration, rolls-Assignment, rolls-Invocation, rolls-While}}}}
use Rattle.vb_syntax.specs.declared.expression.Expr.TheVariants as tree
use Rattle.vb_syntax.specs.declared.expression.VariableInitializer.TheVariants as init
use Rattle.vb_syntax.specs.declared.declarator.VariableModifier.TheVariants as modifier
use Rattle.vb_syntax.specs.declared.declarator.Declarator.TheVariants as declarator
use Rattle.vb_syntax.specs.declared.statement.LocalModifier.TheVariants as local
use Rattle.vb_syntax.specs.declared.statement.StatementForm.TheVariants as form
use Rattle.vb_bound.specs.declared.tree.{Operand.{Operand, TheVariants.{Local, Number}}, Expr.{Expr, TheVariants.{One, Two}}, Condition.Condition, Statement.{Statement, TheVariants.{Assign, WriteLine}}, Line.TheVariants.{Does, While}}
use Rattle.vb_bind.specs.{declared.names.KnownNames.KnownNames, Grammar.{name_at, operand_tree, binary_of, relation_of, expr_tree, statement_form, test_tree, initial_tree, dim_form, IsFit, IsFitExpr, IsFitLine, IsFitInitial, IsBuiltForm, dim, statement, loop}, Parsing.{Layer, FormLayer, named, number_read, operator_read, relation_read, is_write_line, is_integer_type, is_some, is_operand_form, is_expr_form_at, is_expr_form, is_assign_form, is_argument_form, is_write_form_at, is_write_form, is_test_form_at, is_test_form, is_initial_form, is_variable_form, is_declarator_form, is_dim_form, is_form_at, is_form}}
use Rattle.vb_bind.proofs.{Trees.{and_is, named_is, number_is, integer_made, binary_is, call_is, integer_type_is, plain_is}, OneStatement.{operator_sound, relation_sound, operator_made, relation_made, write_line_tree, write_line_is, write_line_made}}

some_is : {A : Type 0} (o : Option A) → is_some o ≡ true → (x : A) × (o ≡ Some x)
some_is None h = absurd cc
some_is (Some x) h = (x, refl)

-- TESTED AND SO OF A PROGRAM

-- the operand, where its name is the one at this place
pub record OperandAs (k : ℕ) (x : SyntaxExpr) : Type 0 where
  pub n : Name
  pub p : Operand
  pub is : (names : List Name) → slice_get names k ≡ Some n → x ≡ operand_tree names p
  pub fit : IsFit p

number_as : (k : ℕ) (x : SyntaxExpr) → is_some (number_read x) ≡ true → OperandAs k x
number_as k x h =
    let v = some_is (number_read x) h in
    let is = number_is x v.0 v.1 in
    record { n = record { index = 0 }; p = Number v.0; is = λ names e. is.0; fit = is.1 }

operand_as : (k : ℕ) (x : SyntaxExpr) → is_operand_form x ≡ true → OperandAs k x
operand_as k (tree.SimpleName n []) h = record { n = n; p = Local (record { 0 = k }); is = λ names e. ap (λ o. tree.SimpleName (unwrap_or o (record { index = 0 })) []) (sym e); fit = tt }
operand_as k x h = number_as k x h

-- the expression, where its names stand behind another
pub record ExprAs (x : SyntaxExpr) : Type 0 where
  pub a : Name
  pub b : Name
  pub e : Expr
  pub is : (t : Name) → x ≡ expr_tree (t ∷ a ∷ b ∷ []) e
  pub fit : IsFitExpr e

expr_as : (x : SyntaxExpr) → is_expr_form x ≡ true → ExprAs x
expr_as x h = by_layer (out-Expr x) refl h
  where
    by_layer : (l : Layer) → out-Expr x ≡ l → is_expr_form_at x l ≡ true → ExprAs x
    by_layer (Expr-F.Binary o p q) is h =
        let k = and_is (is_some (operator_read o)) (is_operand_form p && is_operand_form q) h in
        let both = and_is (is_operand_form p) (is_operand_form q) k.1 in
        let f = some_is (operator_read o) k.0 in
        let mid = operator_sound o f.0 f.1 in
        let left = operand_as 1 p both.0 in
        let right = operand_as 2 q both.1 in
        record {
          a = left.n;
          b = right.n;
          e = Two left.p f.0 right.p;
          is = λ t. let names : List Name = t ∷ left.n ∷ right.n ∷ [] in
              binary_is x o p q is
              ∙ ap (λ y. tree.Binary y p q) mid
              ∙ ap (λ y. tree.Binary (binary_of f.0) y q) (left.is names refl)
              ∙ ap (λ y. tree.Binary (binary_of f.0) (operand_tree names left.p) y) (right.is names refl);
          fit = (left.fit, right.fit);
        }
    by_layer l is h =
        let one = operand_as 1 x h in
        record { a = one.n; b = one.n; e = One one.p; is = λ t. one.is (t ∷ one.n ∷ one.n ∷ []) refl; fit = one.fit }

module _ (known : KnownNames) where
  by_statement : (f : StatementForm) (names : List Name) (b : Statement) → IsFitLine (Does b) → f ≡ statement_form known names b → IsBuiltForm known f
  by_statement f names b fit is = subst (λ g. IsBuiltForm known g) (sym is) (statement names b fit)

  assign_form : (a x : SyntaxExpr) → is_assign_form a x ≡ true → IsBuiltForm known (form.Assignment a x)
  assign_form a x h =
      let both = and_is (is_some (named a)) (is_expr_form x) h in
      let n = some_is (named a) both.0 in
      let e = expr_as x both.1 in
      by_statement (form.Assignment a x) (n.0 ∷ e.a ∷ e.b ∷ []) (Assign (record { 0 = 0 }) e.e) e.fit
      (ap (λ y. form.Assignment y x) (named_is a n.0 n.1) ∙ ap (λ y. form.Assignment (tree.SimpleName n.0 []) y) (e.is n.0))

  write_form : (x : SyntaxExpr) → is_write_form known x ≡ true → IsBuiltForm known (form.Invocation x)
  write_form x h = by_layer (out-Expr x) refl h
    where
      by_argument : (f : SyntaxExpr) (xs : List SyntaxExpr) → out-Expr x ≡ Expr-F.Invocation f xs → is_write_line known f ≡ true → is_argument_form xs ≡ true → IsBuiltForm known (form.Invocation x)
      by_argument f [] is w h = absurd cc
      by_argument f (y ∷ []) is w h =
          let e = expr_as y h in
          by_statement (form.Invocation x) (known.console ∷ e.a ∷ e.b ∷ []) (WriteLine e.e) e.fit
          (ap (λ z. form.Invocation z) (call_is x f (y ∷ []) is ∙ ap (λ g. tree.Invocation g (y ∷ [])) (write_line_is known f w) ∙ ap (λ z. tree.Invocation (write_line_tree known) (z ∷ [])) (e.is known.console)))
      by_argument f (y ∷ z ∷ xs) is w h = absurd cc

      by_layer : (l : Layer) → out-Expr x ≡ l → is_write_form_at known l ≡ true → IsBuiltForm known (form.Invocation x)
      by_layer (Expr-F.Invocation f xs) is h = let both = and_is (is_write_line known f) (is_argument_form xs) h in by_argument f xs is both.0 both.1
      by_layer l is h = absurd cc

  loop_form : (x : SyntaxExpr) (body : List SyntaxStatement) → is_test_form x ≡ true → IsBuiltForm known (form.While x body)
  loop_form x body h = by_layer (out-Expr x) refl h
    where
      by_layer : (l : Layer) → out-Expr x ≡ l → is_test_form_at l ≡ true → IsBuiltForm known (form.While x body)
      by_layer (Expr-F.Binary o p q) is h =
          let k = and_is (is_some (relation_read o)) (is_operand_form p && is_operand_form q) h in
          let both = and_is (is_operand_form p) (is_operand_form q) k.1 in
          let f = some_is (relation_read o) k.0 in
          let mid = relation_sound o f.0 f.1 in
          let left = operand_as 0 p both.0 in
          let right = operand_as 1 q both.1 in
          let names : List Name = left.n ∷ right.n ∷ [] in
          let test : Condition = record { left = left.p; relation = f.0; right = right.p } in
          let test_is : x ≡ test_tree names test =
          binary_is x o p q is
          ∙ ap (λ y. tree.Binary y p q) mid
          ∙ ap (λ y. tree.Binary (binary.Relational (relation_of f.0)) y q) (left.is names refl)
          ∙ ap (λ y. tree.Binary (binary.Relational (relation_of f.0)) (operand_tree names left.p) y) (right.is names refl) in
          subst (λ y. IsBuiltForm known (form.While y body)) (sym test_is) (loop names test body (left.fit, right.fit))
      by_layer l is h = absurd cc

  -- the first value of a declaration, and the names that it is of
  initial_as : (i : Option VariableInitializer) → is_initial_form i ≡ true → (names : List Name) × (d : Option Operand) × (i ≡ initial_tree names d) × IsFitInitial d
  initial_as None h = ([], None, refl, tt)
  initial_as (Some (init.Expression x)) h =
      let one = operand_as 0 x h in
      (one.n ∷ [], Some one.p, ap (λ y. Some (init.Expression y)) (one.is (one.n ∷ []) refl), one.fit)
  initial_as (Some i) h = absurd cc

  variable_as : (vs : List VariableIdentifier) → is_variable_form vs ≡ true → (n : Name) × (vs ≡ record { name = n; modifier = modifier.Plain } ∷ [])
  variable_as [] h = absurd cc
  variable_as (v ∷ []) h = (v.name, ap (λ (m : VariableModifier). record { name = v.name; modifier = m } ∷ []) (plain_is v.modifier h))
  variable_as (v ∷ w ∷ vs) h = absurd cc

  declarator_form : (a : Declarator) → is_declarator_form a ≡ true → IsBuiltForm known (form.LocalDeclaration local.Dim (a ∷ []))
  declarator_form (declarator.As vs t i) h =
      let k = and_is (is_integer_type t) (is_variable_form vs && is_initial_form i) h in
      let both = and_is (is_variable_form vs) (is_initial_form i) k.1 in
      let n = variable_as vs both.0 in
      let d = initial_as i both.1 in
      let is : form.LocalDeclaration local.Dim (declarator.As vs t i ∷ []) ≡ dim_form d.0 n.0 d.1 =
      ap (λ x. form.LocalDeclaration local.Dim (declarator.As x t i ∷ [])) n.1
      ∙ ap (λ x. form.LocalDeclaration local.Dim (declarator.As (record { name = n.0; modifier = modifier.Plain } ∷ []) x i ∷ [])) (integer_type_is t k.0)
      ∙ ap (λ x. form.LocalDeclaration local.Dim (declarator.As (record { name = n.0; modifier = modifier.Plain } ∷ []) (type_name.Simple (simple.BuiltIn (built_in.Primitive primitive.Integer))) x ∷ [])) d.2 in
      subst (λ j. IsBuiltForm known j) (sym is) (dim d.0 n.0 d.1 d.3)
  declarator_form a h = absurd cc

  dims_form : (all : List Declarator) → is_dim_form all ≡ true → IsBuiltForm known (form.LocalDeclaration local.Dim all)
  dims_form [] h = absurd cc
  dims_form (a ∷ []) h = declarator_form a h
  dims_form (a ∷ b ∷ all) h = absurd cc

  -- a form that the tests take is built
  pub form_sound : (f : StatementForm) → is_form known f ≡ true → IsBuiltForm known f
  form_sound f h = by_layer (out-StatementForm f) refl h
    where
      opened : (l : FormLayer) → out-StatementForm f ≡ l → f ≡ roll-StatementForm l
      opened l is = sym (roll-out-StatementForm f) ∙ ap roll-StatementForm is

      by_layer : (l : FormLayer) → out-StatementForm f ≡ l → is_form_at known l ≡ true → IsBuiltForm known f
      by_layer (StatementForm-F.LocalDeclaration local.Dim all) is h =
          subst (λ g. IsBuiltForm known g) (sym (opened (StatementForm-F.LocalDeclaration local.Dim all) is ∙ rolls-LocalDeclaration local.Dim all)) (dims_form all h)
      by_layer (StatementForm-F.Assignment a x) is h =
          subst (λ g. IsBuiltForm known g) (sym (opened (StatementForm-F.Assignment a x) is ∙ rolls-Assignment a x)) (assign_form a x h)
      by_layer (StatementForm-F.Invocation x) is h =
          subst (λ g. IsBuiltForm known g) (sym (opened (StatementForm-F.Invocation x) is ∙ rolls-Invocation x)) (write_form x h)
      by_layer (StatementForm-F.While x body) is h =
          subst (λ g. IsBuiltForm known g) (sym (opened (StatementForm-F.While x body) is ∙ rolls-While x body)) (loop_form x body h)
      by_layer l is h = absurd cc

  -- OF A PROGRAM AND SO TESTED

  operand_form : (names : List Name) (p : Operand) → IsFit p → is_operand_form (operand_tree names p) ≡ true
  operand_form names (Local x) fit = refl
  operand_form names (Number v) fit = ap (λ o. is_some o) (integer_made v fit)

  two_operands : (names : List Name) (p q : Operand) → IsFit p → IsFit q → (is_operand_form (operand_tree names p) && is_operand_form (operand_tree names q)) ≡ true
  two_operands names p q f g = ap (λ (b : Bool). b && is_operand_form (operand_tree names q)) (operand_form names p f) ∙ operand_form names q g

  expr_form : (names : List Name) (e : Expr) → IsFitExpr e → is_expr_form (expr_tree names e) ≡ true
  expr_form names (One (Local x)) fit = ap (λ l. is_expr_form_at (operand_tree names (Local x)) l) (outs-SimpleName (name_at names x) [])
  expr_form names (One (Number v)) fit = ap (λ l. is_expr_form_at (operand_tree names (Number v)) l) (outs-Integer (record { kind = kind.Integer; value = v })) ∙ operand_form names (Number v) fit
  expr_form names (Two p o q) fit =
      ap (λ l. is_expr_form_at (expr_tree names (Two p o q)) l) (outs-Binary (binary_of o) (operand_tree names p) (operand_tree names q))
      ∙ ap (λ r. is_some r && (is_operand_form (operand_tree names p) && is_operand_form (operand_tree names q))) (operator_made o)
      ∙ two_operands names p q fit.0 fit.1

  initial_form : (names : List Name) (d : Option Operand) → IsFitInitial d → is_initial_form (initial_tree names d) ≡ true
  initial_form names None fit = refl
  initial_form names (Some p) fit = operand_form names p fit

  statement_tested : (names : List Name) (b : Statement) → IsFitLine (Does b) → is_form known (statement_form known names b) ≡ true
  statement_tested names (Assign x e) fit = ap (λ l. is_form_at known l) (outs-Assignment (tree.SimpleName (name_at names x) []) (expr_tree names e)) ∙ expr_form names e fit
  statement_tested names (WriteLine e) fit =
      ap (λ l. is_form_at known l) (outs-Call (tree.Invocation (write_line_tree known) (expr_tree names e ∷ [])))
      ∙ ap (λ l. is_write_form_at known l) (outs-Invocation (write_line_tree known) (expr_tree names e ∷ []))
      ∙ ap (λ (b : Bool). b && is_expr_form (expr_tree names e)) (write_line_made known)
      ∙ expr_form names e fit

  loop_tested : (names : List Name) (c : Condition) (body : List SyntaxStatement) → IsFitLine (While c) → is_form known (form.While (test_tree names c) body) ≡ true
  loop_tested names c body fit =
      ap (λ l. is_form_at known l) (outs-While (test_tree names c) body)
      ∙ ap (λ l. is_test_form_at l) (outs-Binary (binary.Relational (relation_of c.relation)) (operand_tree names c.left) (operand_tree names c.right))
      ∙ ap (λ r. is_some r && (is_operand_form (operand_tree names c.left) && is_operand_form (operand_tree names c.right))) (relation_made c.relation)
      ∙ two_operands names c.left c.right fit.0 fit.1

  -- a form that is built is taken by the tests
  pub form_made : {f : StatementForm} → IsBuiltForm known f → is_form known f ≡ true
  form_made (dim names n d fit) =
      ap (λ l. is_form_at known l) (outs-LocalDeclaration local.Dim (declarator.As (record { name = n; modifier = modifier.Plain } ∷ []) (type_name.Simple (simple.BuiltIn (built_in.Primitive primitive.Integer))) (initial_tree names d) ∷ []))
      ∙ initial_form names d fit
  form_made (statement names b fit) = statement_tested names b fit
  form_made (loop names c body fit) = loop_tested names c body fit
