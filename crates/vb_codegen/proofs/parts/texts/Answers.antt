use Rattle.std.proofs.Common.{refl}
use Rattle.std.specs.Prelude.{codes}
use Rattle.vb_codegen.proofs.Texts.{all_ascii}
use Rattle.vb_codegen.proofs.parts.texts.Goals as goal

pub text-requires-4-clause-ascii : goal.text-requires-4-clause-ascii
text-requires-4-clause-ascii c = all_ascii (codes "System.OutOfMemoryException") refl
