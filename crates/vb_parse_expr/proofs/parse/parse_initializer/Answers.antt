use Rattle.std.proofs.Common.{[], subst}
use Rattle.vb_parse_expr.specs.declared.pending.Goal.TheVariants as for
use Rattle.vb_parse_expr.specs.declared.machine.State.TheVariants as at
use Rattle.vb_parse_expr.specs.{Fronts.IsInitializerFront, TypeReading.{Gives, most_turns}, MachineReading.run}
use Rattle.vb_parse_expr.proofs.Wiring.{answers, rest_within, reads_initializer}
use Rattle.vb_parse_expr.proofs.parse.parse_initializer.Goals as goal

pub placed-requires : goal.placed-requires
placed-requires c =
    let reads = reads_initializer c.args.line.now.tokens c.args.from c.tokens_from-tokens.ensures.within in
    let gives = subst (λ ts. Gives (λ p. (p.0, p.1.now)) c.run.result (run for.Initializer most_turns [] at.Want ts))
    c.tokens_from-tokens.ensures.tokens c.run.ensures in
    rest_within IsInitializerFront (λ ts. ts.now) c.args.line.now c.args.from _ c.run.result reads gives

pub returns : goal.returns
returns c =
    let reads = reads_initializer c.args.line.now.tokens c.args.from c.tokens_from-tokens.ensures.within in
    let gives = subst (λ ts. Gives (λ p. (p.0, p.1.now)) c.run.result (run for.Initializer most_turns [] at.Want ts))
    c.tokens_from-tokens.ensures.tokens c.run.ensures in
    answers IsInitializerFront (λ ts. ts.now) c.args.line.now c.args.from _ c.run.result c.placed.result reads gives c.placed.ensures
