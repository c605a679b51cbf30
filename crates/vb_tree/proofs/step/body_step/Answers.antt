use Rattle.std.proofs.Common.{reverse}
use Rattle.vb_tree.proofs.Frames.{by_no_statement}
use Rattle.vb_tree.proofs.step.body_step.Goals as goal

pub returns-in-Err : goal.returns-in-Err
returns-in-Err c =
    by_no_statement _ c.no_statement.result c.args.scope c.args.body (reverse c.args.below.now) c.args.line c.args.item c.in-Err.item c.args.behind
    c.in-Err.ensures.0 c.in-Err.ensures.1 c.no_statement.ensures
