use Rattle.std.proofs.Common.{◌∙◌, ap, Some, Option}
use Rattle.vb_diag.specs.{declared.refusal.Refusal.Refusal, Broken.{lesser, broken_at}}
use Rattle.vb_lexer.proofs.reader.with_broken.Goals as goal

pub returns : goal.returns
returns c =
    c.lesser.ensures ∙ ap (λ (r : Option Refusal). lesser c.args.least r) (c.broken_at.ensures ∙ ap (λ k. broken_at c.args.file k (Some c.args.line)) c.rule_of.ensures)
