use Rattle.std.proofs.Common.{◌≡◌, reverse, Some, Result, Err}
use Rattle.vb_blocks.specs.declared.frame.Frame.{Frame}
use Rattle.vb_tree.specs.declared.tree.BuildErr.{BuildErr}
use Rattle.vb_tree.specs.declared.tree.BuildErr.TheVariants as error
use Rattle.vb_tree.proofs.{Placed.one_misplaced, Finishing.{tree_is, tree_placed, none_misplaced, no_tree_is, block_is_open, led_by, misplaced_by}}
use Rattle.vb_tree.proofs.tree.build.Goals as goal

pub returns-in-Ok-stand-clause-tree : goal.returns-in-Ok-stand-clause-tree
returns-in-Ok-stand-clause-tree c =
    let top = c.in-Ok-stand.top in
    let below = c.stand.new.below in
    let led = led_by c.args.rows c.in-Ok.rest (Some (top, reverse below)) c.in-Ok.ensures c.in-Ok-stand.ensures.stands in
    tree_is c.args.file c.args.rows top c.is_empty.result below led c.finish.result c.finish.ensures c.is_empty.ensures.0

pub returns-in-Ok-stand-clause-placed : goal.returns-in-Ok-stand-clause-placed
returns-in-Ok-stand-clause-placed c =
    let top = c.in-Ok-stand.top in
    let below = c.stand.new.below in
    let led = led_by c.args.rows c.in-Ok.rest (Some (top, reverse below)) c.in-Ok.ensures c.in-Ok-stand.ensures.stands in
    tree_placed c.args.file c.args.rows top c.is_empty.result below led c.finish.result

pub returns-in-Ok-stand-clause-no_tree : goal.returns-in-Ok-stand-clause-no_tree
returns-in-Ok-stand-clause-no_tree c =
    let top = c.in-Ok-stand.top in
    let below = c.stand.new.below in
    let led = led_by c.args.rows c.in-Ok.rest (Some (top, reverse below)) c.in-Ok.ensures c.in-Ok-stand.ensures.stands in
    no_tree_is c.args.file c.args.rows top c.is_empty.result below led c.finish.result c.finish.ensures c.is_empty.ensures.1

pub returns-in-Ok-stand-clause-unended : goal.returns-in-Ok-stand-clause-unended
returns-in-Ok-stand-clause-unended c = λ told.
    let top = c.in-Ok-stand.top in
    let below = c.stand.new.below in
    let led = led_by c.args.rows c.in-Ok.rest (Some (top, reverse below)) c.in-Ok.ensures c.in-Ok-stand.ensures.stands in
    none_misplaced c.args.file c.args.rows top c.is_empty.result below led

pub returns-in-Ok-stand-clause-open_block : goal.returns-in-Ok-stand-clause-open_block
returns-in-Ok-stand-clause-open_block c =
    let top = c.in-Ok-stand.top in
    let below = c.stand.new.below in
    let led = led_by c.args.rows c.in-Ok.rest (Some (top, reverse below)) c.in-Ok.ensures c.in-Ok-stand.ensures.stands in
    block_is_open c.args.file c.args.rows top c.is_empty.result below led c.finish.result c.finish.ensures c.is_empty.ensures.1

pub returns-clause-alone : goal.returns-clause-alone
returns-clause-alone c = λ line other told is.
    let stopped : ◌≡◌ {A = Result Frame BuildErr} (Err c.in-Err.error) (Err (error.Misplaced line)) = cc in
    one_misplaced c.args.rows line other (misplaced_by c.args.rows c.in-Ok.rest line c.in-Ok.ensures (c.in-Err.ensures.misplaced line stopped)) is
