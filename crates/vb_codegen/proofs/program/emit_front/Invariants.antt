use Rattle.std.proofs.Common.{◌≡◌, ◌++◌, length, drop}
use Rattle.vb_codegen.specs.Emitted.{locals_code, front_code}
use Rattle.vb_codegen.proofs.program.emit_front.Given as goal

abbrev pub invariant-loop-local : goal.invariant-loop-local
invariant-loop-local l = l.steps.items ++ locals_code (length l.steps.items) l.local (drop l.local l.locals) ≡ front_code l.locals
