use Rattle.std.proofs.Common.{rules}
use Rattle.vb_num.proofs.{Division.remainder_given, Ranges.rem_in}
use Rattle.vb_num.proofs.arithmetic.rem.Goals as goal

pub returns : goal.returns
returns c =
    remainder_given c.args.a.kind c.args.a.value c.args.b.value c.number.result c.if-b-eq0.false (rem_in c.args.a.kind c.args.a.value c.args.b.value c.args.a.in_range) (search rules)
