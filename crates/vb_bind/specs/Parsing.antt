-- Reading the parts of a program as functions.
use Rattle.std.specs.Prelude.{ℕ, ◌+◌, ◌^◌, Bool, true, false, not, ◌&&◌, ◌==◌, nat_lt, if◌then◌else◌, ℤ, pos, negsuc, List, [], ◌∷◌, ◌++◌, length, Option, Some, None}
use Rattle.std.specs.List.{list_any}
use denote.Enum.Bare.{sameb}
use Rattle.vb_text.specs.declared.names.Name.{Name}
use Rattle.vb_syntax.specs.{contracts.types.PrimitiveTypeName.the_type as primitives, declared.{tokens.IntegerType.IntegerType, types.{BuiltInTypeName.BuiltInTypeName, SimpleTypeName.SimpleTypeName, TypeName.TypeName}, expression.{RelationalOperator.RelationalOperator, BinaryOperator.BinaryOperator, Expr.{Expr as SyntaxExpr, out-Expr, TheOpen.Expr-F}, VariableInitializer.VariableInitializer}, declarator.{VariableIdentifier.VariableIdentifier, VariableModifier.VariableModifier, Declarator.Declarator}, statement.{Statement.Statement as SyntaxStatement, StatementForm.{StatementForm, out-StatementForm, TheOpen.StatementForm-F}, BlockClause.BlockClause, CaseClause.CaseClause, CatchClause.CatchClause, ElseIfClause.ElseIfClause}, declaration.{Access.Access, Member.Member, MemberForm.MemberForm, MethodSignature.MethodSignature, Modifier.Modifier, TypeDeclaration.TypeDeclaration, TypeForm.TypeForm, SourceFile.SourceFile}}}
use Rattle.vb_syntax.specs.declared.tokens.IntegerType.TheVariants as kind
use Rattle.vb_syntax.specs.declared.types.PrimitiveTypeName.TheVariants as primitive
use Rattle.vb_syntax.specs.declared.types.BuiltInTypeName.TheVariants as built_in
use Rattle.vb_syntax.specs.declared.types.SimpleTypeName.TheVariants as simple
use Rattle.vb_syntax.specs.declared.types.TypeName.TheVariants as type_name
use Rattle.vb_syntax.specs.declared.expression.RelationalOperator.TheVariants as relational
use Rattle.vb_syntax.specs.declared.expression.BinaryOperator.TheVariants as binary
use Rattle.vb_syntax.specs.declared.expression.Expr.TheVariants as tree
use Rattle.vb_syntax.specs.declared.expression.VariableInitializer.TheVariants as init
use Rattle.vb_syntax.specs.declared.declarator.VariableModifier.TheVariants as modifier
use Rattle.vb_syntax.specs.declared.declarator.Declarator.TheVariants as declarator
use Rattle.vb_syntax.specs.declared.statement.LocalModifier.TheVariants as local
use Rattle.vb_syntax.specs.declared.statement.StatementForm.TheVariants as form
use Rattle.vb_syntax.specs.declared.declaration.MemberForm.TheVariants as member
use Rattle.vb_syntax.specs.declared.declaration.TypeForm.TheVariants as type_form
use Rattle.vb_bound.specs.{declared.tree.{LocalId.LocalId, Operand.{Operand, TheVariants.{Local, Number}}, Operator.{Operator, TheVariants.{Add, Sub, Mul}}, Relation.{Relation, TheVariants.{Equal, NotEqual, Less, LessOrEqual, Greater, GreaterOrEqual}}, Expr.{Expr, TheVariants.{One, Two}}, Condition.Condition, Statement.{Statement, TheVariants.{Assign, WriteLine}}}, Tree.{Block, lines_of, AreLines}}
use Rattle.vb_bind.specs.{declared.names.KnownNames.KnownNames, Grammar.{IsBlockOf, AreDistinctNames, AreMixedLines, AreFitLines}}

-- goes on with what was read
abbrev pub and_then : {A B : Type 0} → Option A → (A → Option B) → Option B
and_then None go = None
and_then (Some x) go = go x

-- PARTS OF TREES

abbrev pub same_name : Name → Name → Bool
same_name n m = n.index == m.index

-- one level of an expression, as `out-Expr` opens it
abbrev pub Layer : Type 0
Layer = Expr-F SyntaxExpr VariableInitializer

-- one level of a statement's form, as `out-StatementForm` opens it
abbrev pub FormLayer : Type 0
FormLayer = StatementForm-F StatementForm BlockClause CaseClause CatchClause ElseIfClause SyntaxStatement

-- the name that an expression is
abbrev pub named : SyntaxExpr → Option Name
named (tree.SimpleName n []) = Some n
named x = None

abbrev pub is_name_tree : SyntaxExpr → Name → Bool
is_name_tree (tree.SimpleName n []) m = same_name n m
is_name_tree x m = false

-- the number, where it fits an Integer
abbrev pub as_integer : ℤ → Option ℤ
as_integer (pos n) = if nat_lt n (2 ^ 31) then Some (pos n) else None
as_integer (negsuc n) = if nat_lt n (2 ^ 31) then Some (negsuc n) else None

abbrev pub integer_of : IntegerType → ℤ → Option ℤ
integer_of kind.Integer v = as_integer v
integer_of k v = None

abbrev pub number_read : SyntaxExpr → Option ℤ
number_read (tree.Integer n) = integer_of n.kind n.value
number_read x = None

-- NAMES

-- whether a name is one of them
abbrev pub is_one_of : Name → List Name → Bool
is_one_of n names = list_any (λ r. same_name r n) names

abbrev pub is_free : KnownNames → Name → Bool
is_free known n = not (is_one_of n (known.system ∷ known.console ∷ known.main ∷ []))

-- the name, where a local or the module may have it
abbrev pub name_read : KnownNames → Name → Option Name
name_read known n = if is_free known n then Some n else None

-- a name that is new beside the module's and the locals'
abbrev pub is_new : Name → List Name → Name → Bool
is_new m names n = not (is_one_of n (m ∷ names))

-- the number of a name
abbrev pub local_from : ℕ → List Name → Name → Option LocalId
local_from i [] name = None
local_from i (n ∷ ns) name = if same_name n name then Some (record { 0 = i }) else local_from (i + 1) ns name

-- OPERANDS AND EXPRESSIONS

abbrev pub local_read : List Name → SyntaxExpr → Option LocalId
local_read names x = and_then (named x) (λ n. local_from 0 names n)

abbrev pub operand_read : List Name → SyntaxExpr → Option Operand
operand_read names (tree.SimpleName n []) = and_then (local_from 0 names n) (λ x. Some (Local x))
operand_read names x = and_then (number_read x) (λ v. Some (Number v))

abbrev pub operator_read : BinaryOperator → Option Operator
operator_read binary.Add = Some Add
operator_read binary.Subtract = Some Sub
operator_read binary.Multiply = Some Mul
operator_read o = None

abbrev pub relation_from : RelationalOperator → Relation
relation_from relational.Equal = Equal
relation_from relational.NotEqual = NotEqual
relation_from relational.Less = Less
relation_from relational.LessOrEqual = LessOrEqual
relation_from relational.Greater = Greater
relation_from relational.GreaterOrEqual = GreaterOrEqual

abbrev pub relation_read : BinaryOperator → Option Relation
relation_read (binary.Relational r) = Some (relation_from r)
relation_read o = None

abbrev pub are_mixed : Operand → Operand → Bool
are_mixed (Number v) (Number w) = false
are_mixed (Number v) (Local x) = true
are_mixed (Local x) q = true

abbrev pub two_operands : Operand → Operator → Operand → Option Expr
two_operands a o b = if are_mixed a b then Some (Two a o b) else None

abbrev pub condition_operands : Operand → Relation → Operand → Option Condition
condition_operands a r b = if are_mixed a b then Some (record { left = a; relation = r; right = b }) else None

abbrev pub two_read : List Name → SyntaxExpr → BinaryOperator → SyntaxExpr → Option Expr
two_read names p o q = and_then (operand_read names p) (λ a. and_then (operator_read o) (λ f. and_then (operand_read names q) (λ b. two_operands a f b)))

abbrev pub condition_read : List Name → SyntaxExpr → BinaryOperator → SyntaxExpr → Option Condition
condition_read names p o q = and_then (operand_read names p) (λ a. and_then (relation_read o) (λ f. and_then (operand_read names q) (λ b. condition_operands a f b)))

abbrev pub expr_at : List Name → SyntaxExpr → Layer → Option Expr
expr_at names x (Expr-F.Binary o p q) = two_read names p o q
expr_at names x l = and_then (operand_read names x) (λ a. Some (One a))

abbrev pub expr_read : List Name → SyntaxExpr → Option Expr
expr_read names x = expr_at names x (out-Expr x)

-- STATEMENTS

abbrev pub assign_read : List Name → SyntaxExpr → SyntaxExpr → Option Statement
assign_read names a x = and_then (local_read names a) (λ y. and_then (expr_read names x) (λ e. Some (Assign y e)))

abbrev pub is_write_line_at : KnownNames → Layer → Bool
is_write_line_at known (Expr-F.MemberAccess x n []) = is_name_tree x known.console && same_name n known.write_line
is_write_line_at known l = false

-- whether it is the method that writes a line
abbrev pub is_write_line : KnownNames → SyntaxExpr → Bool
is_write_line known x = is_write_line_at known (out-Expr x)

-- the one argument of a call
abbrev pub argument_read : List Name → List SyntaxExpr → Option Expr
argument_read names (x ∷ []) = expr_read names x
argument_read names xs = None

abbrev pub write_at : KnownNames → List Name → Layer → Option Statement
write_at known names (Expr-F.Invocation f xs) = if is_write_line known f then and_then (argument_read names xs) (λ e. Some (WriteLine e)) else None
write_at known names l = None

abbrev pub write_read : KnownNames → List Name → SyntaxExpr → Option Statement
write_read known names x = write_at known names (out-Expr x)

-- a statement without a block
abbrev pub statement_read : KnownNames → List Name → StatementForm → Option Statement
statement_read known names (form.Assignment a x) = assign_read names a x
statement_read known names (form.Invocation x) = write_read known names x
statement_read known names f = None

abbrev pub test_at : List Name → Layer → Option Condition
test_at names (Expr-F.Binary o p q) = condition_read names p o q
test_at names l = None

-- the test of a loop
abbrev pub test_read : List Name → SyntaxExpr → Option Condition
test_read names x = test_at names (out-Expr x)

-- The statements are this block, whose names and numbers are right where these are the locals.
pub record IsGoodBlock (known : KnownNames) (names : List Name) (ss : List SyntaxStatement) (b : Block) : Type 0 where
  pub is_block : IsBlockOf known names ss b
  pub bound : AreLines (length names) (lines_of b)
  pub mixed : AreMixedLines (lines_of b)
  pub fit : AreFitLines (lines_of b)

-- they are no such block, where the names are different
abbrev pub IsNoBlock : KnownNames → List Name → List SyntaxStatement → Type 0
IsNoBlock known names ss = AreDistinctNames known names → (b : Block) → IsGoodBlock known names ss b → ⊥

-- DECLARATIONS

abbrev pub initial_read : List Name → Option VariableInitializer → Option (Option Operand)
initial_read names None = Some None
initial_read names (Some (init.Expression x)) = and_then (operand_read names x) (λ p. Some (Some p))
initial_read names (Some i) = None

abbrev pub is_integer_built_in : BuiltInTypeName → Bool
is_integer_built_in (built_in.Primitive p) = sameb primitives p primitive.Integer
is_integer_built_in built_in.Object = false

abbrev pub is_integer_simple : SimpleTypeName → Bool
is_integer_simple (simple.BuiltIn b) = is_integer_built_in b
is_integer_simple s = false

-- whether it is the type Integer
abbrev pub is_integer_type : TypeName → Bool
is_integer_type (type_name.Simple s) = is_integer_simple s
is_integer_type (type_name.Array s) = false

abbrev pub is_plain : VariableModifier → Bool
is_plain modifier.Plain = true
is_plain m = false

-- the name of the one variable
abbrev pub variable_read : KnownNames → List VariableIdentifier → Option Name
variable_read known (v ∷ []) = if is_plain v.modifier then name_read known v.name else None
variable_read known vs = None

abbrev pub declarator_read : KnownNames → List Name → Declarator → Option (Name × Option Operand)
declarator_read known names (declarator.As vs t i) = if is_integer_type t then and_then (variable_read known vs) (λ s. and_then (initial_read names i) (λ d. Some (s, d))) else None
declarator_read known names d = None

-- of one declarator
abbrev pub declared_read : KnownNames → List Name → List Declarator → Option (Name × Option Operand)
declared_read known names (d ∷ []) = declarator_read known names d
declared_read known names ds = None

abbrev pub dim_read : KnownNames → List Name → StatementForm → Option (Name × Option Operand)
dim_read known names (form.LocalDeclaration local.Dim ds) = declared_read known names ds
dim_read known names f = None

-- What the front of Main declares, and the statements behind that.
pub record Front : Type 0 where
  pub names : List Name
  pub locals : List (Option Operand)
  pub behind : List SyntaxStatement

abbrev pub front : List Name → List (Option Operand) → List SyntaxStatement → Front
front names locals behind = record { names = names; locals = locals; behind = behind }

abbrev pub dim_or : Option (Name × Option Operand) → Option Front → (Name → Option Operand → Option Front) → Option Front
dim_or None stop go = stop
dim_or (Some d) stop go = go d.0 d.1

-- the declarations, behind those of these names
abbrev pub front_read : KnownNames → Name → List Name → List (Option Operand) → List SyntaxStatement → Option Front
front_read known m names locals [] = Some (front names locals [])
front_read known m names locals (s ∷ ss) = dim_or (dim_read known names s.form) (Some (front names locals (s ∷ ss))) (λ n d. if is_new m names n then front_read known m (names ++ n ∷ []) (locals ++ d ∷ []) ss else None)

-- THE FILE

-- the one element
abbrev pub only : {X : Type 0} → List X → Option X
only (x ∷ []) = Some x
only xs = None

abbrev pub is_empty : {X : Type 0} → List X → Bool
is_empty [] = true
is_empty (x ∷ xs) = false

-- whether the names between the dots are the one of the namespace
abbrev pub is_system : KnownNames → List (List Name) → Bool
is_system known ((n ∷ []) ∷ []) = same_name n known.system
is_system known ns = false

abbrev pub members_at : Option Access → TypeForm → Option (List Member)
members_at None (type_form.Module ms) = Some ms
members_at a f = None

-- the members of a module without an access
abbrev pub members_read : TypeDeclaration → Option (List Member)
members_read d = members_at d.access d.form

-- whether it is Main, and nothing else
abbrev pub is_main_signature : KnownNames → MethodSignature → Bool
is_main_signature known g = same_name g.name known.main && (is_empty g.type_parameters && is_empty g.parameters)

abbrev pub main_at : KnownNames → List Modifier → MemberForm → Option (List SyntaxStatement)
main_at known [] (member.Sub g [] (Some body)) = if is_main_signature known g then Some body else None
main_at known ms f = None

-- the statements of Main
abbrev pub main_read : KnownNames → Member → Option (List SyntaxStatement)
main_read known x = main_at known x.modifiers x.form

-- the module's name and the statements of Main
abbrev pub file_read : KnownNames → SourceFile → Option (Name × List SyntaxStatement)
file_read known file = if is_empty file.options then and_then (only file.imports) (λ i. if is_system known i.namespaces then and_then (only file.types) (λ d. and_then (name_read known d.name) (λ m. and_then (members_read d) (λ ms. and_then (only ms) (λ x. and_then (main_read known x) (λ body. Some (m, body)))))) else None) else None

-- FORMS: the same tests, whatever the names and the numbers are (but that a number is an Integer)

abbrev pub is_some : {A : Type 0} → Option A → Bool
is_some None = false
is_some (Some x) = true

abbrev pub is_operand_form : SyntaxExpr → Bool
is_operand_form (tree.SimpleName n []) = true
is_operand_form x = is_some (number_read x)

abbrev pub is_two_form : SyntaxExpr → BinaryOperator → SyntaxExpr → Bool
is_two_form p o q = is_some (operator_read o) && (is_operand_form p && is_operand_form q)

abbrev pub is_expr_form_at : SyntaxExpr → Layer → Bool
is_expr_form_at x (Expr-F.Binary o p q) = is_two_form p o q
is_expr_form_at x l = is_operand_form x

abbrev pub is_expr_form : SyntaxExpr → Bool
is_expr_form x = is_expr_form_at x (out-Expr x)

abbrev pub is_assign_form : SyntaxExpr → SyntaxExpr → Bool
is_assign_form a x = is_some (named a) && is_expr_form x

abbrev pub is_argument_form : List SyntaxExpr → Bool
is_argument_form (x ∷ []) = is_expr_form x
is_argument_form xs = false

abbrev pub is_write_form_at : KnownNames → Layer → Bool
is_write_form_at known (Expr-F.Invocation f xs) = is_write_line known f && is_argument_form xs
is_write_form_at known l = false

abbrev pub is_write_form : KnownNames → SyntaxExpr → Bool
is_write_form known x = is_write_form_at known (out-Expr x)

abbrev pub is_test_form_at : Layer → Bool
is_test_form_at (Expr-F.Binary o p q) = is_some (relation_read o) && (is_operand_form p && is_operand_form q)
is_test_form_at l = false

abbrev pub is_test_form : SyntaxExpr → Bool
is_test_form x = is_test_form_at (out-Expr x)

abbrev pub is_initial_form : Option VariableInitializer → Bool
is_initial_form None = true
is_initial_form (Some (init.Expression x)) = is_operand_form x
is_initial_form (Some i) = false

abbrev pub is_variable_form : List VariableIdentifier → Bool
is_variable_form (v ∷ []) = is_plain v.modifier
is_variable_form vs = false

abbrev pub is_declarator_form : Declarator → Bool
is_declarator_form (declarator.As vs t i) = is_integer_type t && (is_variable_form vs && is_initial_form i)
is_declarator_form d = false

abbrev pub is_dim_form : List Declarator → Bool
is_dim_form (d ∷ []) = is_declarator_form d
is_dim_form ds = false

abbrev pub is_form_at : KnownNames → FormLayer → Bool
is_form_at known (StatementForm-F.LocalDeclaration local.Dim ds) = is_dim_form ds
is_form_at known (StatementForm-F.Assignment a x) = is_assign_form a x
is_form_at known (StatementForm-F.Invocation x) = is_write_form known x
is_form_at known (StatementForm-F.While test body) = is_test_form test
is_form_at known f = false

abbrev pub is_form : KnownNames → StatementForm → Bool
is_form known f = is_form_at known (out-StatementForm f)
