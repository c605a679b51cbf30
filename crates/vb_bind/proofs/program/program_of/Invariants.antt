use Rattle.std.proofs.Common.{◌≡◌, [], length}
use Rattle.vb_bound.specs.Tree.{AreLocals}
use Rattle.vb_bind.specs.Parsing.{front_read}
use Rattle.vb_bind.proofs.program.program_of.Given as goal

abbrev pub invariant-loop-rest : goal.invariant-loop-rest
invariant-loop-rest l = record {
  read : front_read l.known l.own_name l.names.items l.locals.items l.rest ≡ front_read l.known l.own_name [] [] l.body;
  bound : AreLocals 0 l.locals.items;
  same : length l.locals.items ≡ length l.names.items;
}

abbrev pub decreases-loop-rest : goal.decreases-loop-rest
decreases-loop-rest l = length l.rest
