use Rattle.std.proofs.Common.{refl}
use Rattle.vb_parse_stmt.proofs.FileOptions.{option_item}
use Rattle.vb_parse_stmt.proofs.file.option.Goals as goal

pub returns-in-Some : goal.returns-in-Some
returns-in-Some c = (refl, option_item c.args.context.now c.args.line.now.tokens c.in-Some.setting c.requires (cc c.in-Some.ensures))
