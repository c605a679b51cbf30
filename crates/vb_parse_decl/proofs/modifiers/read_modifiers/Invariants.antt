use Rattle.std.proofs.Common.{◌≡◌, ◌-◌, [], length}
use Rattle.vb_parse_decl.specs.ModifierReading as spec
use Rattle.vb_parse_decl.proofs.modifiers.read_modifiers.Given as goal

abbrev pub invariant-loop-turn : goal.invariant-loop-turn
invariant-loop-turn l =
    spec.modifiers_from (length l.tokens) [] l.tokens ≡ spec.modifiers_from (l._turn-end - l._turn) l.found l.rest
