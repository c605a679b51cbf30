use Rattle.std.proofs.Common.{rules, ◌≡◌, Err, arith}
use Rattle.vb_parse_stmt.specs.declared.front.Front.TheVariants as front
use Rattle.vb_parse_decl.specs.Parts.{IsPrimary}
use Rattle.vb_parse_stmt.specs.Reading.{IsItemFrom}
use Rattle.vb_parse_decl.proofs.Refusals.{passed_on}
use Rattle.vb_parse_stmt.proofs.SimpleForms.{no_raise, other_raised}
use Rattle.vb_parse_stmt.proofs.simple.raise_event.Goals as goal

pub returns-in_err-raised : goal.returns-in_err-raised
returns-in_err-raised c =
    let same : c.from_residual.result ≡ Err c.in_err-raised.field-0.0 = search (rules, c.from_residual.ensures) in
    passed_on IsPrimary (IsItemFrom c.args.context.now front.RaiseEvent) c.args.line.now _ _ c.in_err-raised.field-0.0 c.from_residual.result same
    (λ none. no_raise c.args.context.now c.args.line.now.tokens (λ x p n xs names. none x p)) c.in_err-raised.ensures

pub returns-in-None : goal.returns-in-None
returns-in-None c =
    let none = rw c.in-None.is at c.event_of.ensures in (
      no_raise c.args.context.now c.args.line.now.tokens
          (other_raised c.one_reading.ensures.primaries c.args.line.now.tokens c.in_ok-raised.raised (omega arith) c.in_ok-raised.ensures none),
      c.refusal.ensures,
    )
