use Rattle.std.proofs.Common.{[], subst}
use Rattle.vb_parse_expr.specs.declared.pending.Goal.TheVariants as for
use Rattle.vb_parse_expr.specs.declared.machine.State.TheVariants as at
use Rattle.vb_parse_expr.specs.{Fronts.IsFront, TypeReading.{Gives, most_turns}, MachineReading.run, Placing.expression_of}
use Rattle.vb_parse_expr.proofs.Wiring.{answers, rest_within, reads_expression}
use Rattle.vb_parse_expr.proofs.parse.parse_expr.Goals as goal

pub placed-requires : goal.placed-requires
placed-requires c =
    let reads = reads_expression c.args.line.now.tokens c.args.from c.tokens_from-tokens.ensures.within in
    let gives = subst (λ ts. Gives (λ p. (p.0, p.1.now)) c.read_goal.result (expression_of (run for.Expression most_turns [] at.Want ts)))
    c.tokens_from-tokens.ensures.tokens c.read_goal.ensures in
    rest_within IsFront (λ ts. ts.now) c.args.line.now c.args.from _ c.read_goal.result reads gives

pub returns : goal.returns
returns c =
    let reads = reads_expression c.args.line.now.tokens c.args.from c.tokens_from-tokens.ensures.within in
    let gives = subst (λ ts. Gives (λ p. (p.0, p.1.now)) c.read_goal.result (expression_of (run for.Expression most_turns [] at.Want ts)))
    c.tokens_from-tokens.ensures.tokens c.read_goal.ensures in
    answers IsFront (λ ts. ts.now) c.args.line.now c.args.from _ c.read_goal.result c.placed.result reads gives c.placed.ensures
