use Rattle.std.proofs.Common.{◌∙◌, ◌-◌, refl, sym, take, drop, length, Some, None}
use Rattle.std.proofs.lemmas.List.{take_rest}
use Rattle.vb_lexer.proofs.Values.{number_found, number_missing}
use Rattle.vb_lexer.proofs.numbers.number_at.Goals as goal

pub returns-then-n-eq0 : goal.returns-then-n-eq0
returns-then-n-eq0 c =
    c.broken.ensures
    ∙ number_missing c.args.base c.args.mark c.run_len-n.result c.args.text.now _ (take_rest c.args.text.now c.args.mark) c.run_len-n.ensures.count c.if-n-eq0.true

pub returns-in-Some : goal.returns-in-Some
returns-in-Some c =
    c.make_found.ensures
    ∙ number_found c.args.base c.args.mark c.run_len-n.result c.suffix_of-kind.result.1 c.suffix_of-kind.result.0 (Some c.in-Some.literal) c.args.text.now _ _ _
    (take_rest c.args.text.now c.args.mark) refl (take_rest (take (length c.args.text.now - c.args.mark) (drop c.args.mark c.args.text.now)) c.run_len-n.result)
    c.run_len-n.ensures.count c.if-n-eq0.false c.suffix_of-kind.ensures.kind c.suffix_of-kind.ensures.len (sym c.in-Some.is ∙ c.literal_in.ensures)

pub returns-in-None : goal.returns-in-None
returns-in-None c =
    c.broken-in-None.ensures
    ∙ number_found c.args.base c.args.mark c.run_len-n.result c.suffix_of-kind.result.1 c.suffix_of-kind.result.0 None c.args.text.now _ _ _
    (take_rest c.args.text.now c.args.mark) refl (take_rest (take (length c.args.text.now - c.args.mark) (drop c.args.mark c.args.text.now)) c.run_len-n.result)
    c.run_len-n.ensures.count c.if-n-eq0.false c.suffix_of-kind.ensures.kind c.suffix_of-kind.ensures.len (sym c.in-None.is ∙ c.literal_in.ensures)
