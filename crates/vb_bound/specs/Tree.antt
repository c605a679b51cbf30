-- Bound programs as trees, and the lines in which they are kept.
use Rattle.std.specs.Prelude.{◌≡◌, ℕ, ◌+◌, ◌<◌, List, [], ◌∷◌, ◌++◌, length, Option, Some, None}
use Rattle.vb_bound.specs.declared.tree.{Operand.{Operand, TheVariants.{Local, Number}}, Expr.{Expr, TheVariants.{One, Two}}, Condition.Condition, Statement.{Statement, TheVariants.{Assign, WriteLine}}, Line.{Line, TheVariants.{Does, While, EndWhile}}}

-- Statements in order (Visual Basic Language Specification 11.0, 10.1): none, one and then others, or a loop and then others.
pub data Block : Type 0 where
  Done : Block
  Then : (statement : Statement) (rest : Block) → Block
  Loop : (test : Condition) (body rest : Block) → Block

-- The body of Main: the locals in order, each with its value if its declaration gives one, and the statements behind them.
pub record Tree : Type 0 where
  pub locals : List (Option Operand)
  pub body : Block

-- the lines of a block: those of a loop's body stand between its two
abbrev pub lines_of : Block → List Line
lines_of Done = []
lines_of (Then s rest) = Does s ∷ lines_of rest
lines_of (Loop test body rest) = While test ∷ (lines_of body ++ EndWhile ∷ lines_of rest)

-- A body of Main as it is kept.
pub record Outline : Type 0 where
  pub locals : List (Option Operand)
  pub lines : List Line

abbrev pub outline : List (Option Operand) → List Line → Outline
outline locals lines = record { locals = locals; lines = lines }

-- the lines are those of some block: the two lines of each loop match as brackets
abbrev pub HasBlock : List Line → Type 0
HasBlock lines = (body : Block) × (lines ≡ lines_of body)

-- what is kept is this tree
pub record IsOutlineOf (kept : Outline) (tree : Tree) : Type 0 where
  pub locals : kept.locals ≡ tree.locals
  pub lines : kept.lines ≡ lines_of tree.body

-- it names one of the first n locals
abbrev pub IsOperandOf : ℕ → Operand → Type 0
IsOperandOf n (Local x) = x.0 < n
IsOperandOf n (Number v) = Unit {0}

abbrev pub IsExprOf : ℕ → Expr → Type 0
IsExprOf n (One p) = IsOperandOf n p
IsExprOf n (Two p o q) = IsOperandOf n p × IsOperandOf n q

abbrev pub IsStatementOf : ℕ → Statement → Type 0
IsStatementOf n (Assign x e) = (x.0 < n) × IsExprOf n e
IsStatementOf n (WriteLine e) = IsExprOf n e

abbrev pub IsLineOf : ℕ → Line → Type 0
IsLineOf n (Does s) = IsStatementOf n s
IsLineOf n (While test) = IsOperandOf n test.left × IsOperandOf n test.right
IsLineOf n EndWhile = Unit {0}

abbrev pub IsInitialOf : ℕ → Option Operand → Type 0
IsInitialOf n None = Unit {0}
IsInitialOf n (Some p) = IsOperandOf n p

-- each declaration names locals above it
abbrev pub AreLocals : ℕ → List (Option Operand) → Type 0
AreLocals n [] = Unit {0}
AreLocals n (d ∷ ds) = IsInitialOf n d × AreLocals (n + 1) ds

abbrev pub AreLines : ℕ → List Line → Type 0
AreLines n [] = Unit {0}
AreLines n (l ∷ ls) = IsLineOf n l × AreLines n ls

-- Each use names a local that is declared above it.
pub record IsBound (kept : Outline) : Type 0 where
  pub locals : AreLocals 0 kept.locals
  pub lines : AreLines (length kept.locals) kept.lines
