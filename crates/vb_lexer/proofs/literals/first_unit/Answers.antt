use Rattle.std.proofs.Common.{◌∙◌, ap, sym, get_or}
use Rattle.vb_lexer.proofs.Quotes.{first_is, none_skipped, units_end}
use Rattle.vb_lexer.proofs.literals.first_unit.Goals as goal

pub returns-in-Some : goal.returns-in-Some
returns-in-Some c =
    c.lead_unit.ensures
    ∙ sym (ap (λ l. get_or l 0 0) c.loop-character.invariant ∙ first_is c.args.content.now c.loop-character.character-index c.in-Some.c c.loop-character-test.true c.in-Some.is)

pub loop-character-preserved : goal.loop-character-preserved
loop-character-preserved c =
    c.loop-character.invariant ∙ none_skipped c.args.content.now c.loop-character.character-index c.loop-character-test.true c.in-None.is

pub returns : goal.returns
returns c =
    sym (ap (λ l. get_or l 0 0) (c.loop-character.invariant ∙ units_end c.args.content.now c.loop-character.character-index c.loop-character-test.false))
