use Rattle.vb_parse_stmt.proofs.BranchRefusals.{line_told}
use Rattle.vb_parse_stmt.proofs.branches.if_or_call.Goals as goal

pub returns-in-Err-Refused : goal.returns-in-Err-Refused
returns-in-Err-Refused c =
    let told = rw c.in-Err-Refused.field-0-is at c.in-Err-Refused.ensures in
    line_told c.args.context.now c.args.line.now c.requires told.0 c.primary_line.result c.primary_line.ensures
