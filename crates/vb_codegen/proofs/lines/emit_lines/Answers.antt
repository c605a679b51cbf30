use Rattle.std.proofs.Common.{refl}
use Rattle.vb_codegen.specs.Emission.{last}
use Rattle.vb_codegen.proofs.Emission.{next_done, can_go, all_done}
use Rattle.vb_codegen.proofs.lines.emit_lines.Goals as goal

pub loop-line-init : goal.loop-line-init
loop-line-init c = λ block e. last block c.new-loops.ensures.items e refl

pub loop-line-preserved : goal.loop-line-preserved
loop-line-preserved c = λ block e. next_done c.args.lines.now c.loop-line.line-index _ _ _ _ _ _ c.loop-line-test.true c.in_ok-emit_line.ensures (c.loop-line.invariant block e)

pub emit_line-requires : goal.emit_line-requires
emit_line-requires c = can_go c.args.lines.now c.loop-line.line-index _ _ _ _ c.loop-line-test.true (c.loop-line.invariant c.requires.0 c.requires.1)

pub returns : goal.returns
returns c = λ block e. all_done c.args.lines.now c.loop-line.line-index _ _ _ c.loop-line-test.false (c.loop-line.invariant block e)
