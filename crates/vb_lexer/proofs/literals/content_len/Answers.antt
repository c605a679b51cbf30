use Rattle.std.proofs.Common.{◌≡◌, ◌∙◌, ap, sym, true, false, ◌+◌, Some, arith}
use Rattle.vb_lexer.specs.{Tokens.{char_at, plus_some, content_len}, Characters.{is_char, is_line_end}}
use Rattle.vb_lexer.proofs.{Quotes.{content_stops, content_ends, content_on, content_within, content_past}, literals.content_len.Goals.{else-quote-via-then-quote+else-not-is_at, else-quote-via-else-quote}}
use Rattle.vb_lexer.proofs.literals.content_len.Goals as goal

pub returns-then-is_line_end-clause-len : goal.returns-then-is_line_end-clause-len
returns-then-is_line_end-clause-len c =
    let ends : is_line_end (char_at c.args.text.now c.loop-i.i) ≡ true = cc in
    sym (c.loop-i.invariant.left ∙ ap (λ o. plus_some c.loop-i.i o) (content_stops c.args.text.now c.loop-i.i c.loop-i-test.true ends))

pub returns-then-not-is_at-clause-len : goal.returns-then-not-is_at-clause-len
returns-then-not-is_at-clause-len c =
    let inside : is_line_end (char_at c.args.text.now c.loop-i.i) ≡ false = cc in
    let is : is_char (char_at c.args.text.now c.loop-i.i) 34 ≡ true = cc in
    let single : is_char (char_at c.args.text.now (c.loop-i.i + 1)) 34 ≡ false = cc in
    let len : content_len c.args.text.now ≡ plus_some c.loop-i.i (Some 0) =
    c.loop-i.invariant.left ∙ ap (λ o. plus_some c.loop-i.i o) (content_ends c.args.text.now c.loop-i.i c.loop-i-test.true inside is single) in
    let sum : c.loop-i.i ≡ c.loop-i.i + 0 = omega arith in
    ap (λ n. Some n) sum ∙ sym len

pub loop-i-preserved : goal.loop-i-preserved
loop-i-preserved c =
    let inside : is_line_end (char_at c.args.text.now c.loop-i.i) ≡ false = cc in
    let double : c.is_at-quote.result ≡ true → is_char (char_at c.args.text.now (c.loop-i.i + 1)) 34 ≡ true = elim c.else-quote.branch [
      | else-quote-via-then-quote+else-not-is_at w ↦ λ is. sym w.is_at.ensures ∙ w.if-not-is_at.false
      | else-quote-via-else-quote w ↦ λ is. let never : true ≡ false = sym is ∙ w.if-quote.false in absurd (cc)
    ] in
    record {
      left = content_on c.args.text.now c.loop-i.i c.step_by-i.result c.is_at-quote.result c.loop-i-test.true inside c.is_at-quote.ensures double c.step_by-i.ensures c.loop-i.invariant.left;
      within = content_within c.args.text.now c.loop-i.i c.step_by-i.result c.is_at-quote.result c.loop-i-test.true double c.step_by-i.ensures;
    }

pub returns-clause-len : goal.returns-clause-len
returns-clause-len c =
    sym (c.loop-i.invariant.left ∙ ap (λ o. plus_some c.loop-i.i o) (content_past c.args.text.now c.loop-i.i c.loop-i-test.false))
