use Rattle.std.proofs.Common.{◌∙◌, ◌<◌, ◌+◌, length, sym, take, refl, subst, length-take-le, arith}
use Rattle.std.specs.Prelude.{IfSome}
use Rattle.std.proofs.lemmas.List.{take_rest}
use Rattle.vb_lexer.proofs.Quotes.{char_stands, text_stands}
use Rattle.vb_lexer.proofs.literals.quoted_at.Goals as goal

pub returns-then-starts : goal.returns-then-starts
returns-then-starts c =
    let inside : c.in-Some.n < length c.behind-rest.result.now = subst (λ o. IfSome o (λ n. n < length c.behind-rest.result.now)) c.in-Some.is c.content_len.ensures.within in
    c.char_of.ensures
    ∙ char_stands c.args.text.now c.behind-rest.result.now (take c.in-Some.n c.behind-rest.result.now) _ c.in-Some.n c.behind-rest.ensures (sym c.content_len.ensures.len ∙ c.in-Some.is) refl
    (length-take-le c.in-Some.n c.behind-rest.result.now (omega arith)) (take_rest c.behind-rest.result.now (c.in-Some.n + 1)) (sym c.starts.ensures.found ∙ c.if-starts.true)

pub returns-else-starts : goal.returns-else-starts
returns-else-starts c =
    let inside : c.in-Some.n < length c.behind-rest.result.now = subst (λ o. IfSome o (λ n. n < length c.behind-rest.result.now)) c.in-Some.is c.content_len.ensures.within in
    c.text_of.ensures
    ∙ text_stands c.args.text.now c.behind-rest.result.now (take c.in-Some.n c.behind-rest.result.now) _ c.in-Some.n c.behind-rest.ensures (sym c.content_len.ensures.len ∙ c.in-Some.is) refl
    (length-take-le c.in-Some.n c.behind-rest.result.now (omega arith)) (take_rest c.behind-rest.result.now (c.in-Some.n + 1)) (sym c.starts.ensures.found ∙ c.if-starts.false)
