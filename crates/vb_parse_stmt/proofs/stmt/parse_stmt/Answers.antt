use Rattle.std.proofs.Common.{subst, Err}
use Rattle.vb_parse_expr.specs.declared.error.ParseErr.{ParseErr, TheVariants.Refused}
use Rattle.vb_parse_decl.specs.{Answers.Tells, DeclarationLines.IsDeclarationLine}
use Rattle.vb_parse_stmt.proofs.Declares.{other_tells}
use Rattle.vb_parse_stmt.proofs.stmt.parse_stmt.Goals as goal

pub returns-in-Err-Refused : goal.returns-in-Err-Refused
returns-in-Err-Refused c =
    let context = c.args.context.now in
    let line = c.args.line.now in
    let told : Tells (IsDeclarationLine context.words) line line.tokens (Err (Refused c.in-Err-Refused.field-0-0)) =
    subst (λ (e : ParseErr). Tells (IsDeclarationLine context.words) line line.tokens (Err e)) c.in-Err-Refused.field-0-is c.in-Err-Refused.ensures in
    other_tells context line line.tokens c.other_item.result told.0 c.other_item.ensures
