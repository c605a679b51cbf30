use Rattle.std.proofs.Common.{◌≡◌, drop}
use Rattle.vb_parse_decl.specs.DeclarationLines.{has_read_only}
use Rattle.vb_parse_decl.proofs.modifiers.has_read_only.Given as goal

abbrev pub invariant-loop-modifier : goal.invariant-loop-modifier
invariant-loop-modifier l = has_read_only (drop l.modifier-index l.modifiers) ≡ has_read_only l.modifiers
