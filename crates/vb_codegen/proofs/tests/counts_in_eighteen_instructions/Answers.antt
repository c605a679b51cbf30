use Rattle.std.proofs.Common.{pos}
use Rattle.vb_bound.specs.{declared.tree.{Operand.{Operand, TheVariants.{Local, Number}}, Operator.TheVariants.Add, Relation.TheVariants.LessOrEqual, Expr.TheVariants.{One, Two}, Statement.TheVariants.{Assign, WriteLine}}, Tree.{Block, Done, Then, Loop}}
use Rattle.vb_codegen.proofs.tests.counts_in_eighteen_instructions.Goals as goal

-- the program as a tree
abbrev block : Block
block =
    let x : Operand = Local (record { 0 = 0 }) in
    Loop (record { left = x; relation = LessOrEqual; right = Number (pos 2) }) (Then (Assign (record { 0 = 0 }) (Two x Add (Number (pos 1)))) Done)
    (Then (WriteLine (One x)) Done)

pub new-requires-clause-matched : goal.new-requires-clause-matched
new-requires-clause-matched c = λ d. (block, d.in_ok-lines.ensures.items)
