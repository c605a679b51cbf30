use Rattle.std.proofs.Common.{Option, sym, subst}
use Rattle.vb_syntax.specs.declared.item.{BlockWord.BlockWord, DeclarationLine.DeclarationLine, Item.Item}
use Rattle.vb_syntax.specs.declared.item.Item.TheVariants as item
use Rattle.vb_blocks.specs.{Trees.procedure, Steps.{Gives, word_of, procedure_end, procedure_whole}}
use Rattle.vb_blocks.proofs.Parts.{turn_as, procedure_ends}
use Rattle.vb_blocks.proofs.procedure_ends.procedure.Goals as goal

pub returns-in-Declares : goal.returns-in-Declares
returns-in-Declares c =
    let r = c.procedure_end.result in
    let l = c.args.start in
    let ss = c.args.body in
    let d = c.in-Declares.declaration in
    let said = subst (λ (w : Option BlockWord). Gives (λ t. t) r (procedure_end l c.into_inner.result ss w)) c.word_of.ensures c.procedure_end.ensures in
    let ended = subst (λ (y : DeclarationLine). Gives (λ t. t) r (procedure_end l y ss (word_of c.args.item))) c.into_inner.ensures said in
    let is = turn_as r (procedure_end l d ss (word_of c.args.item)) (procedure_whole l (procedure (item.Declares d) ss c.args.item)) (procedure_ends l d ss c.args.item) ended in
    subst (λ (x : Item). Gives (λ t. t) r (procedure_whole l (procedure x ss c.args.item))) (sym c.in-Declares.is) is
