use Rattle.std.proofs.Common.{◌≡◌, ◌-◌, [], length}
use Rattle.vb_parse_decl.specs.DeclarationReading as spec
use Rattle.vb_parse_decl.proofs.lists.read_list.Given as goal

abbrev pub invariant-loop-turn : goal.invariant-loop-turn
invariant-loop-turn g l =
    spec.listed g.T.Listed.reading (length l.tokens) [] l.tokens ≡ spec.listed g.T.Listed.reading (l._turn-end - l._turn) l.found l.rest
