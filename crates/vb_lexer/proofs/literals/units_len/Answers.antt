use Rattle.std.proofs.Common.{arith}
use Rattle.vb_lexer.proofs.Quotes.{lens_on, lens_all, step_size}
use Rattle.vb_lexer.proofs.literals.units_len.Goals as goal

pub loop-i-preserved : goal.loop-i-preserved
loop-i-preserved c =
    let size = step_size c.is_at.result c.step_by-i.result c.step_by-i.ensures in
    record {
      left = lens_on c.args.content.now c.loop-i.i c.step_by-i.result c.char_at.result c.is_at.result c.loop-i.count c.len_utf16-count.result _ c.loop-i-test.true c.char_at.ensures c.is_at.ensures c.step_by-i.ensures c.len_utf16-count.ensures.len c.loop-i.invariant.left;
      small = omega (arith, size.0, c.len_utf16-count.ensures.small, c.loop-i.invariant.small);
    }

pub returns : goal.returns
returns c = lens_all c.args.content.now c.loop-i.i c.loop-i.count _ c.loop-i-test.false c.loop-i.invariant.left
