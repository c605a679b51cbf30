use Rattle.std.proofs.Common.{◌≤◌, ◌-◌}
use Rattle.vb_turns.specs.Stage.{GoesOn}
use Rattle.vb_turns.proofs.alone.run_on.Given as goal

abbrev pub invariant-loop-stop : goal.invariant-loop-stop
invariant-loop-stop g l = record {
  goes : GoesOn l.code l.limits l.initial.running l.running (g.O.Sink.written l.initial.out) (g.O.Sink.written l.out);
  later : g.O.Sink.faults l.initial.out ≤ g.O.Sink.faults l.out;
}

abbrev pub decreases-loop-stop : goal.decreases-loop-stop
decreases-loop-stop g l = l.limits.turns - l.running.turns
