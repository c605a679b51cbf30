use Rattle.vb_lexer.proofs.Quotes.{units_on, units_all}
use Rattle.vb_lexer.proofs.literals.units_of.Goals as goal

pub loop-i-preserved : goal.loop-i-preserved
loop-i-preserved c =
    let pushed = c.in_ok-push_units.ensures in
    units_on c.args.content.now c.loop-i.i c.step_by-i.result c.char_at.result c.is_at.result c.loop-i.units.items c.push_units.new.units.items c.loop-i-test.true c.char_at.ensures c.is_at.ensures c.step_by-i.ensures pushed c.loop-i.invariant

pub returns : goal.returns
returns c = units_all c.args.content.now c.loop-i.i c.loop-i.units.items c.loop-i-test.false c.loop-i.invariant
