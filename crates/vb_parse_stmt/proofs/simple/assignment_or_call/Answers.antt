use Rattle.vb_parse_stmt.specs.declared.front.Front.TheVariants as front
use Rattle.vb_parse_stmt.specs.{Reading.IsItemFrom, SimpleLines.IsPrimaryLine}
use Rattle.vb_parse_stmt.proofs.{SimpleRefusals.told_so, SimpleFirsts.{is_other, other_is}}
use Rattle.vb_parse_stmt.proofs.simple.assignment_or_call.Goals as goal

pub returns : goal.returns
returns c =
    told_so IsPrimaryLine (IsItemFrom c.args.context.now front.Other) c.args.line.now c.args.line.now.tokens
    (is_other c.args.context.now c.args.line.now.tokens c.requires) (other_is c.args.context.now c.args.line.now.tokens c.requires)
    c.primary_line.result c.primary_line.ensures
