use Rattle.std.proofs.Common.{refl}
use Rattle.vb_members.proofs.Others.{other_member}
use Rattle.vb_members.proofs.members.declares.Goals as goal

pub returns-in_default : goal.returns-in_default
returns-in_default c =
    other_member c.args.kind c.args.members c.args.line c.args.declaration c.in_default.not-Inherits c.in_default.not-Implements c.in_default.not-Variables c.in_default.not-Constants
    c.in_default.not-Property c.in_default.not-Event c.in_default.not-CustomEvent c.header.result c.args.declaration c.header.ensures refl
