use Rattle.std.proofs.Common.{◌≡◌, ◌+◌, ◌*◌, ◌≤◌}
use Rattle.vb_code.specs.{declared.local.Position.TheVariants.Ended, Local.thread_of, Shapes.IsState}
use Rattle.vb_frames.specs.Frames.{RunsOn}
use Rattle.vb_frames.proofs.run.run_local.Given as goal

abbrev pub invariant-loop-spent : goal.invariant-loop-spent
invariant-loop-spent l = record {
  state : IsState l.code (thread_of l.code l.local);
  going : l.local.position ≡ Ended → ⊥;
  runs : RunsOn l.code l.initial.local l.local l.spent;
  room : l.local.begun ≤ l.initial.local.begun + 4294967296 * l.spent;
}
