-- The code of a tree.
use Rattle.std.specs.Prelude.{ℕ, ◌+◌, List, [], ◌∷◌, ◌++◌, map, length, Option, Some, None, codes}
use Rattle.vb_num.specs.declared.kinds.Kind.TheVariants.{Integer}
use Rattle.vb_value.specs.declared.value.Shape.{Shape, TheVariants.Num}
use Rattle.vb_bound.specs.{declared.tree.{Operand.{Operand, TheVariants.{Local, Number}}, Operator.{Operator, TheVariants.{Add, Sub, Mul}}, Relation.{Relation, TheVariants.{Equal, NotEqual, Less, LessOrEqual, Greater, GreaterOrEqual}}, Expr.{Expr, TheVariants.{One, Two}}, Condition.Condition, Statement.{Statement, TheVariants.{Assign, WriteLine}}}, Tree.{Block, Done, Then, Loop, Tree}}
use Rattle.vb_code.specs.{declared.{instr.{Constant.TheVariants.Integer as IntegerConstant, Arithmetic.{Arithmetic, TheVariants.{Add as Adds, Sub as Subtracts, Mul as Multiplies}}, Comparison.{Comparison, TheVariants.{Equal as IsEqual, NotEqual as IsNotEqual, Less as IsLess, LessOrEqual as IsLessOrEqual, Greater as IsGreater, GreaterOrEqual as IsGreaterOrEqual}}, Silent.TheVariants.TextOf, Mark.TheVariants.Always, Instr.{Instr, TheVariants.{Push, PushText, LoadLocal, StoreLocal, Arith, Compare, Concat, Intrinsic, Jump, JumpIf, Write, Return}}, Step.Step}, code.Class.Class}, Code.{Code, code_with, procedure_of}}

abbrev pub step : ℕ → Instr → Step
step begins instr = record { begins = begins; instr = instr }

-- what pushes an operand
abbrev pub instr_of : Operand → Instr
instr_of (Local x) = LoadLocal x.0
instr_of (Number v) = Push (IntegerConstant v)

abbrev pub arithmetic_of : Operator → Arithmetic
arithmetic_of Add = Adds
arithmetic_of Sub = Subtracts
arithmetic_of Mul = Multiplies

abbrev pub comparison_of : Relation → Comparison
comparison_of Equal = IsEqual
comparison_of NotEqual = IsNotEqual
comparison_of Less = IsLess
comparison_of LessOrEqual = IsLessOrEqual
comparison_of Greater = IsGreater
comparison_of GreaterOrEqual = IsGreaterOrEqual

-- the value of a statement's expression; the statement begins with it
abbrev pub expr_code : Expr → List Step
expr_code (One p) = step 1 (instr_of p) ∷ []
expr_code (Two p o q) = step 1 (instr_of p) ∷ step 0 (instr_of q) ∷ step 0 (Arith (arithmetic_of o) Integer) ∷ []

-- writes the number on the stack as a line: its text, then text 0, which is the line end
abbrev pub line_code : List Step
line_code = step 0 (Intrinsic TextOf) ∷ step 0 (PushText 0) ∷ step 0 Concat ∷ step 0 (Write Always) ∷ []

abbrev pub statement_code : Statement → List Step
statement_code (Assign x e) = expr_code e ++ step 0 (StoreLocal x.0) ∷ []
statement_code (WriteLine e) = expr_code e ++ line_code

-- the declaration of local x, at this place
abbrev pub local_code : ℕ → ℕ → Option Operand → List Step
local_code place x None = step 1 (Jump (place + 1)) ∷ []
local_code place x (Some p) = step 2 (instr_of p) ∷ step 0 (StoreLocal x) ∷ []

-- the declarations from local x on, from this place on
abbrev pub locals_code : ℕ → ℕ → List (Option Operand) → List Step
locals_code place x [] = []
locals_code place x (d ∷ ds) = local_code place x d ++ locals_code (place + length (local_code place x d)) (x + 1) ds

-- the test of a loop, behind its body, which begins at this place
abbrev pub test_code : ℕ → Condition → List Step
test_code body test = step 1 (instr_of test.left) ∷ step 0 (instr_of test.right) ∷ step 0 (Compare (comparison_of test.relation)) ∷ step 0 (JumpIf body) ∷ []

-- statements, from this place on. A loop jumps to its test, which stands behind its body
abbrev pub block_code : ℕ → Block → List Step
block_code place Done = []
block_code place (Then s rest) = statement_code s ++ block_code (place + length (statement_code s)) rest
block_code place (Loop test body rest) =
    step 1 (Jump (place + 1 + length (block_code (place + 1) body)))
    ∷ (block_code (place + 1) body ++ (test_code (place + 1) test ++ block_code (place + 1 + length (block_code (place + 1) body) + 4) rest))

-- the declarations of Main, which begin at place 1 behind the call of Main
abbrev pub front_code : List (Option Operand) → List Step
front_code locals = step 1 (Jump 1) ∷ locals_code 1 0 locals

-- the instructions of Main without the Return
abbrev pub body_code : Tree → List Step
body_code t = front_code t.locals ++ block_code (length (front_code t.locals)) t.body

abbrev pub main_code : Tree → List Step
main_code t = body_code t ++ step 0 Return ∷ []

-- the line end, the names of the classes, and the name of Main
abbrev pub texts : List (List ℕ)
texts = (10 ∷ []) ∷ codes "System.Exception" ∷ codes "System.OverflowException" ∷ codes "System.OutOfMemoryException" ∷ codes "Main" ∷ []

-- the class of these names and bases; each object has the units of an exception
abbrev pub class : ℕ → Option ℕ → Class
class name base = record { name = name; base = base; units = 2 }

-- System.Exception, and the two classes under it that instructions throw
abbrev pub classes : List Class
classes = class 1 None ∷ class 2 (Some 0) ∷ class 3 (Some 0) ∷ []

-- the code with Main of these instructions and so many locals
abbrev pub code_from : List Shape → List Step → Code
code_from locals steps = code_with texts classes (procedure_of 4 locals steps ∷ []) 0

-- each local is an Integer
abbrev pub integers : {X : Type 0} → List X → List Shape
integers locals = map (λ d. Num Integer) locals

abbrev pub code_of : Tree → Code
code_of t = code_from (integers t.locals) (main_code t)
