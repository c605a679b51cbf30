use Rattle.std.proofs.Common.{ℕ, List, reverse, subst}
use Rattle.vb_syntax.specs.declared.item.Row.{Row}
use Rattle.vb_blocks.specs.{Trees.IsMisplaced, Steps.step}
use Rattle.vb_tree.proofs.{Reaching.{Reaches, reaches_more, reaches_misplaced}, Finishing.stopped_there}
use Rattle.vb_tree.proofs.tree.stand.Goals as goal

pub loop-row-preserved : goal.loop-row-preserved
loop-row-preserved c =
    let here = c.loop-row in
    let reaches = subst (λ (xs : List Row). Reaches (reverse c.args.rows) xs here.top (reverse here.below)) c.in-Some.ensures here.invariant in
    reaches_more (reverse c.args.rows) c.pop.new.self c.in-Some.row here.top c.in-Ok-step.next (reverse here.below) (reverse c.step.new.below) reaches c.in-Ok-step.ensures

pub returns-in-Err-clause-misplaced : goal.returns-in-Err-clause-misplaced
returns-in-Err-clause-misplaced c = λ line told.
    let here = c.loop-row in
    let row = c.in-Some.row in
    let reaches = subst (λ (xs : List Row). Reaches (reverse c.args.rows) xs here.top (reverse here.below)) c.in-Some.ensures here.invariant in
    let there = stopped_there c.in-Err.fault row.line line (step here.top (reverse here.below) row) c.stopped.result c.stopped.ensures told c.in-Err.ensures in
    subst (λ (n : ℕ). IsMisplaced (reverse c.args.rows) n) there.1 (reaches_misplaced (reverse c.args.rows) c.pop.new.self row here.top (reverse here.below) reaches there.0)
