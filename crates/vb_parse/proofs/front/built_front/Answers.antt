use Rattle.vb_parse.proofs.UpTo.{never_built}
use Rattle.vb_parse.proofs.front.built_front.Goals as goal

pub returns-in-Ok : goal.returns-in-Ok
returns-in-Ok c = record {
  front = c.in-Ok.front;
  is_front = c.in-Ok.ensures;
  is_built = record {
    tree = c.build.ensures.tree;
    placed = c.build.ensures.placed;
    misplaced = c.build.ensures.misplaced;
    alone = c.build.ensures.alone;
    unended = c.build.ensures.unended;
    open_block = c.build.ensures.open_block;
  };
}

pub returns-in-Err : goal.returns-in-Err
returns-in-Err c = never_built c.args.file c.args.rows c.args.broken.now
