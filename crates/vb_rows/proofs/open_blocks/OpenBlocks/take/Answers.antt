use Rattle.vb_rows.proofs.Tracked.{item_taken}
use Rattle.vb_rows.proofs.open_blocks.OpenBlocks.take.Goals as goal

pub returns : goal.returns
returns c = λ before t.
    item_taken c.args.item.now before c.args.self.now _ c.settle.new.self.stack c.is_innermost-inside.result c.is_iterator.result c.item_role-role.result
    c.in_ok-settle.ensures c.is_innermost-inside.ensures c.item_role-role.ensures c.is_iterator.ensures c.in_ok-step.ensures c.waits-self.ensures t
