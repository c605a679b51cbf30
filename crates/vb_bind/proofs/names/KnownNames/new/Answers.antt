use Rattle.std.specs.Prelude.{codes}
use Rattle.vb_bind.proofs.names.KnownNames.new.Goals as goal

-- each name stays while the later ones come
pub returns-clause-known : goal.returns-clause-known
returns-clause-known c =
    let stay = c.names_stay.ensures in
    let one = c.intern.new.self in
    let two = c.intern-2.new.self in
    let three = c.intern-3.new.self in
    let four = c.intern-4.new.self in
    let system = c.in_ok-system.system in
    let console = c.in_ok-console.console in
    let write_line = c.in_ok-write_line.write_line in (
      stay three four (codes "System") system (stay two three (codes "System") system (stay one two (codes "System") system c.in_ok-system.ensures.named c.intern-2.ensures.extends) c.intern-3.ensures.extends) c.intern-4.ensures.extends,
      stay three four (codes "Console") console (stay two three (codes "Console") console c.in_ok-console.ensures.named c.intern-3.ensures.extends) c.intern-4.ensures.extends,
      stay three four (codes "WriteLine") write_line c.in_ok-write_line.ensures.named c.intern-4.ensures.extends,
      c.in_ok-main.ensures.named,
    )
