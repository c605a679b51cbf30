-- Which syntax trees of files are a program, and which lines have a form that none has.
use Rattle.std.specs.Prelude.{◌≡◌, ◌⊎◌, ℕ, FitsSigned, if◌then◌else◌, nat_le, List, [], ◌∷◌, ◌++◌, length, Option, Some, None, slice_get, unwrap_or, codes}
use Rattle.std.specs.Int.{w32}
use Rattle.vb_text.specs.{Names.{IsNameOf, with_name}, declared.names.Name.Name}
use Rattle.vb_syntax.specs.declared.tokens.IntegerType.TheVariants as kind
use Rattle.vb_syntax.specs.declared.{tokens.Line.Line as TokenLine, expression.{RelationalOperator.RelationalOperator, BinaryOperator.BinaryOperator, Expr.Expr as SyntaxExpr, VariableInitializer.VariableInitializer}, statement.{Statement.Statement as SyntaxStatement, StatementForm.StatementForm}, declaration.{OptionStatement.OptionStatement, ImportsStatement.ImportsStatement, Member.Member, TypeDeclaration.TypeDeclaration, SourceFile.SourceFile}}
use Rattle.vb_syntax.specs.declared.types.PrimitiveTypeName.TheVariants as primitive
use Rattle.vb_syntax.specs.declared.types.BuiltInTypeName.TheVariants as built_in
use Rattle.vb_syntax.specs.declared.types.SimpleTypeName.TheVariants as simple
use Rattle.vb_syntax.specs.declared.types.TypeName.TheVariants as type_name
use Rattle.vb_syntax.specs.declared.expression.RelationalOperator.TheVariants as relational
use Rattle.vb_syntax.specs.declared.expression.BinaryOperator.TheVariants as binary
use Rattle.vb_syntax.specs.declared.expression.Expr.TheVariants as tree
use Rattle.vb_syntax.specs.declared.expression.VariableInitializer.TheVariants as init
use Rattle.vb_syntax.specs.declared.declarator.VariableModifier.TheVariants as modifier
use Rattle.vb_syntax.specs.declared.declarator.Declarator.TheVariants as declarator
use Rattle.vb_syntax.specs.declared.statement.LocalModifier.TheVariants as local
use Rattle.vb_syntax.specs.declared.statement.StatementForm.TheVariants as form
use Rattle.vb_syntax.specs.declared.declaration.MemberForm.TheVariants as member
use Rattle.vb_syntax.specs.declared.declaration.TypeForm.TheVariants as type_form
use Rattle.vb_bound.specs.{declared.tree.{LocalId.LocalId, Operand.{Operand, TheVariants.{Local, Number}}, Operator.{Operator, TheVariants.{Add, Sub, Mul}}, Relation.{Relation, TheVariants.{Equal, NotEqual, Less, LessOrEqual, Greater, GreaterOrEqual}}, Expr.{Expr, TheVariants.{One, Two}}, Condition.Condition, Statement.{Statement, TheVariants.{Assign, WriteLine}}, Line.{Line, TheVariants.{Does, While, EndWhile}}}, Tree.{Block, Done, Then, Loop, Tree, lines_of, outline, IsBound}}
use Rattle.vb_bind.specs.declared.names.KnownNames.{KnownNames}

-- The table has the names that the grammar uses.
abbrev pub AreKnown : List (List ℕ) → KnownNames → Type 0
AreKnown table known = IsNameOf table (codes "System") known.system × IsNameOf table (codes "Console") known.console × IsNameOf table (codes "WriteLine") known.write_line × IsNameOf table (codes "Main") known.main

-- a table with those names
abbrev pub with_known : List (List ℕ) → List (List ℕ)
with_known table = with_name (with_name (with_name (with_name table (codes "System")) (codes "Console")) (codes "WriteLine")) (codes "Main")

-- EXPRESSIONS AND STATEMENTS

-- the name of a local; each local of a program has one
abbrev pub name_at : List Name → LocalId → Name
name_at names x = unwrap_or (slice_get names x.0) (record { index = 0 })

-- the operand: a name, or a literal that is an Integer (Visual Basic Language Specification 11.0, 11.4.4 and 11.4.1)
abbrev pub operand_tree : List Name → Operand → SyntaxExpr
operand_tree names (Local x) = tree.SimpleName (name_at names x) []
operand_tree names (Number v) = tree.Integer (record { kind = kind.Integer; value = v })

-- (Visual Basic Language Specification 11.0, 11.13)
abbrev pub binary_of : Operator → BinaryOperator
binary_of Add = binary.Add
binary_of Sub = binary.Subtract
binary_of Mul = binary.Multiply

-- (Visual Basic Language Specification 11.0, 11.14)
abbrev pub relation_of : Relation → RelationalOperator
relation_of Equal = relational.Equal
relation_of NotEqual = relational.NotEqual
relation_of Less = relational.Less
relation_of LessOrEqual = relational.LessOrEqual
relation_of Greater = relational.Greater
relation_of GreaterOrEqual = relational.GreaterOrEqual

-- an operand, or an operator between two (Visual Basic Language Specification 11.0, 11.12)
abbrev pub expr_tree : List Name → Expr → SyntaxExpr
expr_tree names (One p) = operand_tree names p
expr_tree names (Two p o q) = tree.Binary (binary_of o) (operand_tree names p) (operand_tree names q)

-- the statement, whose names are these (Visual Basic Language Specification 11.0, 10.6.1 and 10.7)
abbrev pub statement_form : KnownNames → List Name → Statement → StatementForm
statement_form known names (Assign x e) = form.Assignment (tree.SimpleName (name_at names x) []) (expr_tree names e)
statement_form known names (WriteLine e) = form.Invocation (tree.Invocation (tree.MemberAccess (tree.SimpleName known.console []) known.write_line []) (expr_tree names e ∷ []))

-- the test of a While (Visual Basic Language Specification 11.0, 10.9.1)
abbrev pub test_tree : List Name → Condition → SyntaxExpr
test_tree names test = tree.Binary (binary.Relational (relation_of test.relation)) (operand_tree names test.left) (operand_tree names test.right)

-- the value that a declaration gives, if it gives one (Visual Basic Language Specification 11.0, 10.2)
abbrev pub initial_tree : List Name → Option Operand → Option VariableInitializer
initial_tree names None = None
initial_tree names (Some p) = Some (init.Expression (operand_tree names p))

-- the declaration of one Integer of this name, where all names are these (Visual Basic Language Specification 11.0, 10.2)
abbrev pub dim_form : List Name → Name → Option Operand → StatementForm
dim_form all n d = form.LocalDeclaration local.Dim (declarator.As (record { name = n; modifier = modifier.Plain } ∷ []) (type_name.Simple (simple.BuiltIn (built_in.Primitive primitive.Integer))) (initial_tree all d) ∷ [])

-- the statements declare the names that are left, of all names, one after the other
abbrev pub AreDims : List Name → List Name → List (Option Operand) → List SyntaxStatement → Type 0
AreDims all [] [] [] = Unit {0}
AreDims all (n ∷ ns) (d ∷ ds) (s ∷ ss) = (s.form ≡ dim_form all n d) × AreDims all ns ds ss
AreDims all ns ds ss = ⊥

-- The statements are those of the block, one beside the other, and inside each While those of the loop's body
-- (Visual Basic Language Specification 11.0, 10.1 and 10.9.1).
abbrev pub IsBlockOf : KnownNames → List Name → List SyntaxStatement → Block → Type 0
IsBlockOf known names ss Done = ss ≡ []
IsBlockOf known names ss (Then b rest) = (s : SyntaxStatement) × (behind : List SyntaxStatement) × (ss ≡ s ∷ behind)
    × (s.form ≡ statement_form known names b) × IsBlockOf known names behind rest
IsBlockOf known names ss (Loop test body rest) = (s : SyntaxStatement) × (inner behind : List SyntaxStatement) × (ss ≡ s ∷ behind)
    × (s.form ≡ form.While (test_tree names test) inner) × IsBlockOf known names inner body × IsBlockOf known names behind rest

-- THE FILE

-- It imports System alone (Visual Basic Language Specification 11.0, 6.3.2).
abbrev pub IsImportsOf : KnownNames → ImportsStatement → Type 0
IsImportsOf known i = i.namespaces ≡ (known.system ∷ []) ∷ []

-- It is a module of these members, without an access (Visual Basic Language Specification 11.0, 7.7).
pub record IsModuleOf (d : TypeDeclaration) (members : List Member) : Type 0 where
  pub access : d.access ≡ None
  pub is_form : d.form ≡ type_form.Module members

-- It is `Sub Main()` of these statements, without any modifier (Visual Basic Language Specification 11.0, 9.2.1).
pub record IsMainOf (known : KnownNames) (x : Member) (body : List SyntaxStatement) : Type 0 where
  pub modifiers : x.modifiers ≡ []
  pub is_form : x.form ≡ member.Sub (record { name = known.main; type_parameters = []; parameters = [] }) [] (Some body)

-- The file has no options, one Imports, of System, and one type, the module m, whose one member is Main of these statements
-- (Visual Basic Language Specification 11.0, 6).
pub record IsFileOf (known : KnownNames) (file : SourceFile) (m : Name) (body : List SyntaxStatement) : Type 0 where
  pub imports : ImportsStatement
  pub declared : TypeDeclaration
  pub main : Member
  pub no_options : file.options ≡ []
  pub one_imports : file.imports ≡ imports ∷ []
  pub is_imports : IsImportsOf known imports
  pub one_type : file.types ≡ declared ∷ []
  pub named : declared.name ≡ m
  pub is_module : IsModuleOf declared (main ∷ [])
  pub is_main : IsMainOf known main body

-- NAMES (Visual Basic Language Specification 11.0, 2.2)

-- it is one of them
abbrev pub IsIn : Name → List Name → Type 0
IsIn x [] = ⊥
IsIn x (y ∷ ys) = (x ≡ y) ⊎ IsIn x ys

-- A local or the module may have the name: it is none that a program uses without declaring it.
abbrev pub IsName : KnownNames → Name → Type 0
IsName known name = IsIn name (known.system ∷ known.console ∷ known.main ∷ []) → ⊥

-- each is a name, and no two are the same
abbrev pub AreDistinctNames : KnownNames → List Name → Type 0
AreDistinctNames known [] = Unit {0}
AreDistinctNames known (n ∷ ns) = IsName known n × (IsIn n ns → ⊥) × AreDistinctNames known ns

-- NUMBERS (Visual Basic Language Specification 11.0, 2.4.2)

-- not both are numbers
abbrev pub AreMixed : Operand → Operand → Type 0
AreMixed (Number v) (Number w) = ⊥
AreMixed (Number v) (Local x) = Unit {0}
AreMixed (Local x) q = Unit {0}

abbrev pub IsMixedExpr : Expr → Type 0
IsMixedExpr (One p) = Unit {0}
IsMixedExpr (Two p o q) = AreMixed p q

-- no operator and no relation of the line has two numbers
abbrev pub IsMixedLine : Line → Type 0
IsMixedLine (Does (Assign x e)) = IsMixedExpr e
IsMixedLine (Does (WriteLine e)) = IsMixedExpr e
IsMixedLine (While test) = AreMixed test.left test.right
IsMixedLine EndWhile = Unit {0}

abbrev pub AreMixedLines : List Line → Type 0
AreMixedLines [] = Unit {0}
AreMixedLines (l ∷ ls) = IsMixedLine l × AreMixedLines ls

-- a number is an Integer
abbrev pub IsFit : Operand → Type 0
IsFit (Local x) = Unit {0}
IsFit (Number v) = FitsSigned w32 v

abbrev pub IsFitExpr : Expr → Type 0
IsFitExpr (One p) = IsFit p
IsFitExpr (Two p o q) = IsFit p × IsFit q

-- each number of the line is an Integer
abbrev pub IsFitLine : Line → Type 0
IsFitLine (Does (Assign x e)) = IsFitExpr e
IsFitLine (Does (WriteLine e)) = IsFitExpr e
IsFitLine (While test) = IsFit test.left × IsFit test.right
IsFitLine EndWhile = Unit {0}

abbrev pub AreFitLines : List Line → Type 0
AreFitLines [] = Unit {0}
AreFitLines (l ∷ ls) = IsFitLine l × AreFitLines ls

abbrev pub IsFitInitial : Option Operand → Type 0
IsFitInitial None = Unit {0}
IsFitInitial (Some p) = IsFit p

abbrev pub AreFitInitials : List (Option Operand) → Type 0
AreFitInitials [] = Unit {0}
AreFitInitials (d ∷ ds) = IsFitInitial d × AreFitInitials ds

-- THE PROGRAM

-- The file is that of the module m, whose Main declares these locals and has this body behind them.
pub record IsProgramOf (known : KnownNames) (file : SourceFile) (t : Tree) : Type 0 where
  pub m : Name
  pub names : List Name
  pub dims : List SyntaxStatement
  pub statements : List SyntaxStatement
  pub is_file : IsFileOf known file m (dims ++ statements)
  pub are_dims : AreDims names names t.locals dims
  pub is_block : IsBlockOf known names statements t.body
  pub distinct : AreDistinctNames known (m ∷ names)
  pub bound : IsBound (outline t.locals (lines_of t.body))
  pub mixed : AreMixedLines (lines_of t.body)
  pub fit : AreFitInitials t.locals × AreFitLines (lines_of t.body)

-- FORMS THAT NO PROGRAM HAS

-- The form is one of a program's statements, whatever the names and the numbers are (but that each number is an Integer).
pub data IsBuiltForm (known : KnownNames) : StatementForm → Type 0 where
  dim : (names : List Name) (n : Name) (d : Option Operand) → IsFitInitial d → IsBuiltForm known (dim_form names n d)
  statement : (names : List Name) (b : Statement) → IsFitLine (Does b) → IsBuiltForm known (statement_form known names b)
  loop : (names : List Name) (test : Condition) (body : List SyntaxStatement) → IsFitLine (While test) → IsBuiltForm known (form.While (test_tree names test) body)

-- One of the statements stands on line n and is of no such form, or one inside a While of such a form.
pub data HasUnbuiltStatement (known : KnownNames) (n : ℕ) : List SyntaxStatement → Type 0 where
  itself : (s : SyntaxStatement) (ss : List SyntaxStatement) → s.line ≡ n → (IsBuiltForm known s.form → ⊥) → HasUnbuiltStatement known n (s ∷ ss)
  inside : (s : SyntaxStatement) (ss : List SyntaxStatement) (test : SyntaxExpr) (body : List SyntaxStatement) → s.form ≡ form.While test body
      → IsBuiltForm known s.form → HasUnbuiltStatement known n body → HasUnbuiltStatement known n (s ∷ ss)
  behind : (s : SyntaxStatement) (ss : List SyntaxStatement) → HasUnbuiltStatement known n ss → HasUnbuiltStatement known n (s ∷ ss)

-- one of them is so
abbrev pub HasOne : {X : Type 0} → (X → Type 0) → List X → Type 0
HasOne Is [] = ⊥
HasOne Is (x ∷ xs) = Is x ⊎ HasOne Is xs

-- an Imports of something else, on line n
abbrev pub IsUnbuiltImports : KnownNames → ℕ → ImportsStatement → Type 0
IsUnbuiltImports known n i = (i.line ≡ n) × (IsImportsOf known i → ⊥)

-- The member is no Main, and its header is line n; or it is, and has such a statement.
pub data HasUnbuiltMember (known : KnownNames) (n : ℕ) (x : Member) : Type 0 where
  no_main : x.line ≡ n → ((body : List SyntaxStatement) → IsMainOf known x body → ⊥) → HasUnbuiltMember known n x
  in_main : (body : List SyntaxStatement) → IsMainOf known x body → HasUnbuiltStatement known n body → HasUnbuiltMember known n x

-- The type is no module without an access, and its header is line n; or it is, and has such a member.
pub data HasUnbuiltType (known : KnownNames) (n : ℕ) (d : TypeDeclaration) : Type 0 where
  no_module : d.line ≡ n → ((members : List Member) → IsModuleOf d members → ⊥) → HasUnbuiltType known n d
  in_module : (members : List Member) → IsModuleOf d members → HasOne (HasUnbuiltMember known n) members → HasUnbuiltType known n d

-- Line n has a form that no program has, whatever the names and the numbers are: an Option, an Imports that isn't of System
-- alone, a type that is no module, a member that is no Main, a statement. What stands inside such a form isn't looked at.
abbrev pub HasUnbuiltForm : KnownNames → SourceFile → ℕ → Type 0
HasUnbuiltForm known file n = HasOne (λ (o : OptionStatement). o.line ≡ n) file.options
    ⊎ (HasOne (IsUnbuiltImports known n) file.imports ⊎ HasOne (HasUnbuiltType known n) file.types)

-- THE WIDEST LINE OF A FILE

-- the greater
abbrev pub greater : ℕ → ℕ → ℕ
greater a b = if nat_le a b then b else a

-- the greatest number of tokens of a line, 0 for no line
abbrev pub widest : List TokenLine → ℕ
widest [] = 0
widest (l ∷ ls) = greater (length l.tokens) (widest ls)
