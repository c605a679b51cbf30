use Rattle.std.proofs.Common.{Option, subst}
use Rattle.vb_syntax.specs.declared.item.BlockWord.{BlockWord}
use Rattle.vb_blocks.specs.Steps.{Gives, word_of, accessor_end, accessor_turn}
use Rattle.vb_blocks.proofs.Parts.{turn_as, accessor_ends}
use Rattle.vb_blocks.proofs.accessors.accessor_turn.Goals as goal

pub returns : goal.returns
returns c =
    let ended = subst (λ (w : Option BlockWord). Gives (λ t. t) c.accessor_end.result (accessor_end c.args.header c.args.body w)) c.word_of.ensures c.accessor_end.ensures in
    turn_as c.accessor_end.result (accessor_end c.args.header c.args.body (word_of c.args.item)) (accessor_turn c.args.header c.args.body c.args.item)
    (accessor_ends c.args.header c.args.body c.args.item) ended
