use Rattle.std.proofs.Common.{refl, sym, ◌∙◌}
use Rattle.vb_syntax.specs.declared.keyword.Keyword.TheVariants as word
use Rattle.vb_parse_stmt.specs.declared.front.Front.TheVariants as front
use Rattle.vb_parse_stmt.proofs.{SimpleFirsts.starts, JumpShapes.action_stands}
use Rattle.vb_parse_stmt.proofs.jumps.on_error.Goals as goal

pub returns-in-Some : goal.returns-in-Some
returns-in-Some c = (
  refl,
  (
    _,
    starts c.args.context.now front.On word.On refl c.args.line.now.tokens c.requires,
    action_stands c.args.line.now.tokens c.in-Some.action (sym c.action.ensures ∙ c.in-Some.is),
  ),
)
