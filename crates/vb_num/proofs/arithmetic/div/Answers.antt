use Rattle.std.proofs.Common.{rules}
use Rattle.vb_num.proofs.Division.{quotient_given}
use Rattle.vb_num.proofs.arithmetic.div.Goals as goal

pub returns-in-Some : goal.returns-in-Some
returns-in-Some c =
    quotient_given c.args.a.kind c.args.a.value c.args.b.value c.number.result c.if-b-eq0.false (search rules)
