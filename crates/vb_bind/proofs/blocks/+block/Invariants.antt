use Rattle.std.proofs.Common.{◌≡◌, ◌++◌, take}
use Rattle.vb_bound.specs.Tree.{Block as BoundBlock, lines_of}
use Rattle.vb_bind.specs.Parsing.{IsGoodBlock}
use Rattle.vb_bind.proofs.blocks.+block.Given as goal

abbrev pub invariant-push_block-loop-statement : goal.invariant-push_block-loop-statement
invariant-push_block-loop-statement l = (b : BoundBlock) × IsGoodBlock l.known l.names (take l.statement-index l.block) b × (l.lines.items ≡ l.initial.lines.items ++ lines_of b)
