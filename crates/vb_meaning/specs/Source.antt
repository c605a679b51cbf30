-- What a program means: a thread is a stack of what is still to be done, with the variables of its call
-- (Visual Basic Language Specification 11.0, 10).
use Rattle.std.specs.Prelude.{ℕ, ◌+◌, Bool, true, false, not, ◌&&◌, nat_le, List, [], ◌∷◌, ◌++◌, length, ℤ, pos, ◌+ℤ◌, ◌-ℤ◌, ◌*ℤ◌, int_le, Option, Some, None, slice_set, slice_index_or, replicate, if◌then◌else◌, codes}
use Rattle.std.specs.Fmt.{signed_decimal}
use Rattle.vb_num.specs.{declared.kinds.Kind.TheVariants.Integer, Kind.in_kind}
use Rattle.vb_text.specs.Units.{most_units}
use Rattle.vb_threads.specs.Machine.{Over, Ended, Threw, Next, Silent, Asks, Rests, Machine}
use Rattle.vb_value.specs.Store.{Places, Calls, Store, Ask, New, Write, End, Reply, store_rows, opened}
use Rattle.vb_bound.specs.{declared.tree.{Operand.{Operand, TheVariants.{Local, Number}}, Operator.{Operator, TheVariants.{Add, Sub, Mul}}, Relation.{Relation, TheVariants.{Equal, NotEqual, Less, LessOrEqual, Greater, GreaterOrEqual}}, Expr.{Expr, TheVariants.{One, Two}}, Condition.Condition, Statement.{Statement, TheVariants.{Assign, WriteLine}}}, Tree.{Block, Done, Then, Loop, Tree}}

-- the full names of the classes that statements throw by themselves, and the heap units of an exception
abbrev pub overflow : List ℕ
overflow = codes "System.OverflowException"

abbrev pub out_of_memory : List ℕ
out_of_memory = codes "System.OutOfMemoryException"

abbrev pub exception_units : ℕ
exception_units = 2

-- the value of an operand (Visual Basic Language Specification 11.0, 11.4)
abbrev pub operand_value : List ℤ → Operand → ℤ
operand_value vars (Local x) = slice_index_or vars x.0 (pos 0)
operand_value vars (Number v) = v

-- the result of an operator on two Integers, where it is one (Visual Basic Language Specification 11.0, 11.13)
abbrev pub arithmetic : Operator → ℤ → ℤ → Option ℤ
arithmetic Add x y = in_kind Integer (x +ℤ y)
arithmetic Sub x y = in_kind Integer (x -ℤ y)
arithmetic Mul x y = in_kind Integer (x *ℤ y)

-- the value, or none where it overflows
abbrev pub value_of : List ℤ → Expr → Option ℤ
value_of vars (One p) = Some (operand_value vars p)
value_of vars (Two p o q) = arithmetic o (operand_value vars p) (operand_value vars q)

-- Visual Basic Language Specification 11.0, 11.14
abbrev pub related : Relation → ℤ → ℤ → Bool
related Equal x y = int_le x y && int_le y x
related NotEqual x y = not (int_le x y && int_le y x)
related Less x y = not (int_le y x)
related LessOrEqual x y = int_le x y
related Greater x y = not (int_le x y)
related GreaterOrEqual x y = int_le y x

abbrev pub holds : List ℤ → Condition → Bool
holds vars test = related test.relation (operand_value vars test.left) (operand_value vars test.right)

-- what WriteLine writes of a number (.NET documentation: Console.WriteLine)
abbrev pub line_text : ℤ → List ℕ
line_text v = signed_decimal v ++ 10 ∷ []

-- What is still to be done.
pub data Pending : Type 0 where
  Calls-main : Pending  -- Main is to be called
  Declares : (first : ℕ) (locals : List (Option Operand)) → Pending  -- declarations that aren't begun, from this local on
  Gives : (local : ℕ) (value : Operand) → Pending  -- a declaration that is begun gives its local a value
  Does : (block : Block) → Pending  -- statements that aren't begun
  Acts : (statement : Statement) → Pending  -- a statement that is begun
  Tests : (test : Condition) (body : Block) → Pending  -- a loop before its next test
  Decides : (test : Condition) (body : Block) → Pending  -- a loop whose test is begun

-- A thread: what is pending, the topmost first, and its variables; or it rests.
pub data SourceThread : Type 0 where
  Going : (vars : List ℤ) (pending : List Pending) → SourceThread
  Gone : (over : Over) → SourceThread

abbrev pub SourceNext : Type 0
SourceNext = Next SourceThread Ask Reply

-- an exception of the class is made and thrown, and nothing catches it (Visual Basic Language Specification 11.0, 10.10)
abbrev pub throws : List ℕ → SourceNext
throws class = Asks (New class exception_units) (λ r. true) (λ r. Gone (Threw class))

-- goes on with a value, or throws that it overflows
abbrev pub or_overflows : Option ℤ → (ℤ → SourceNext) → SourceNext
or_overflows None go = throws overflow
or_overflows (Some v) go = go v

-- a text of at most 1,048,576 units is written, and none above
abbrev pub writes : List ℕ → SourceThread → SourceNext
writes text after = if nat_le (length text) most_units then Asks (Write text) (λ r. true) (λ r. after) else throws out_of_memory

-- how many beginnings a declaration has: its own, and its local's where it gives it a value
abbrev pub beginnings : Option Operand → ℕ
beginnings None = 1
beginnings (Some p) = 2

abbrev pub given : ℕ → Option Operand → List Pending → List Pending
given x None rest = rest
given x (Some p) rest = Gives x p ∷ rest

abbrev pub declares : ℕ → List (Option Operand) → List ℤ → List Pending → SourceNext
declares x [] vars rest = Silent 0 (Going vars rest)
declares x (d ∷ ds) vars rest = Silent (beginnings d) (Going vars (given x d (Declares (x + 1) ds ∷ rest)))

abbrev pub does : Block → List ℤ → List Pending → SourceNext
does Done vars rest = Silent 0 (Going vars rest)
does (Then s more) vars rest = Silent 1 (Going vars (Acts s ∷ Does more ∷ rest))
does (Loop test body more) vars rest = Silent 1 (Going vars (Tests test body ∷ Does more ∷ rest))

abbrev pub acts : Statement → List ℤ → List Pending → SourceNext
acts (Assign x e) vars rest = or_overflows (value_of vars e) (λ v. Silent 0 (Going (slice_set vars x.0 v) rest))
acts (WriteLine e) vars rest = or_overflows (value_of vars e) (λ v. writes (line_text v) (Going vars rest))

-- the body and then the next test, or what is behind the loop
abbrev pub decided : Bool → Condition → Block → List Pending → List Pending
decided true test body rest = Does body ∷ Tests test body ∷ rest
decided false test body rest = rest

-- the topmost is done; with nothing left the thread ends
abbrev pub goes_on : Tree → List ℤ → List Pending → SourceNext
goes_on t vars [] = Asks End (λ r. true) (λ r. Gone Ended)
goes_on t vars (Calls-main ∷ rest) = Silent 1 (Going (replicate (length t.locals) (pos 0)) (Declares 0 t.locals ∷ Does t.body ∷ rest))
goes_on t vars (Declares x ds ∷ rest) = declares x ds vars rest
goes_on t vars (Gives x p ∷ rest) = Silent 0 (Going (slice_set vars x (operand_value vars p)) rest)
goes_on t vars (Does block ∷ rest) = does block vars rest
goes_on t vars (Acts s ∷ rest) = acts s vars rest
goes_on t vars (Tests test body ∷ rest) = Silent 1 (Going vars (Decides test body ∷ rest))
goes_on t vars (Decides test body ∷ rest) = Silent 0 (Going vars (decided (holds vars test) test body rest))

abbrev pub source_next : Tree → SourceThread → SourceNext
source_next t (Going vars pending) = goes_on t vars pending
source_next t (Gone over) = Rests over

-- The program as threads: thread 0 calls Main, and a thread that is started with no call ends at once.
abbrev pub source_machine : Tree → Machine Calls Places SourceThread Ask Reply Store
source_machine t = record {
  main = Going [] (Calls-main ∷ []);
  started = λ calls. Going [] [];
  next = source_next t;
  opening = opened;
  rows = store_rows;
}
