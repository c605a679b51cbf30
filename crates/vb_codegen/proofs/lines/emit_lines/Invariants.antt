use Rattle.std.proofs.Common.{◌≡◌, ◌++◌, length, drop}
use Rattle.vb_bound.specs.Tree.{Block, lines_of}
use Rattle.vb_codegen.specs.{Emitted.block_code, Emission.Completes}
use Rattle.vb_codegen.proofs.lines.emit_lines.Given as goal

abbrev pub invariant-loop-line : goal.invariant-loop-line
invariant-loop-line l = (block : Block) → l.fn.lines ≡ lines_of block → Completes l.steps.items l.loops.items (drop l.line-index l.lines) (l.fn.steps.items ++ block_code (length l.fn.steps.items) block)
