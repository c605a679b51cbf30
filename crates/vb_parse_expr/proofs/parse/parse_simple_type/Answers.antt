use Rattle.std.proofs.Common.{subst}
use Rattle.vb_parse_expr.specs.{Types.IsSimpleTypeFront, TypeReading.{Gives, read_simple_type}}
use Rattle.vb_parse_expr.proofs.Wiring.{answers, rest_within, reads_simple_type}
use Rattle.vb_parse_expr.proofs.parse.parse_simple_type.Goals as goal

pub placed-requires : goal.placed-requires
placed-requires c =
    let reads = reads_simple_type c.args.line.now.tokens c.args.from c.tokens_from-tokens.ensures.within in
    let gives = subst (λ ts. Gives (λ p. (p.0, p.1.now)) c.read_simple_type.result (read_simple_type ts))
    c.tokens_from-tokens.ensures.tokens c.read_simple_type.ensures in
    rest_within IsSimpleTypeFront (λ ts. ts.now) c.args.line.now c.args.from _ c.read_simple_type.result reads gives

pub returns : goal.returns
returns c =
    let reads = reads_simple_type c.args.line.now.tokens c.args.from c.tokens_from-tokens.ensures.within in
    let gives = subst (λ ts. Gives (λ p. (p.0, p.1.now)) c.read_simple_type.result (read_simple_type ts))
    c.tokens_from-tokens.ensures.tokens c.read_simple_type.ensures in
    answers IsSimpleTypeFront (λ ts. ts.now) c.args.line.now c.args.from _ c.read_simple_type.result c.placed.result reads gives c.placed.ensures
