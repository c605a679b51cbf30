use Rattle.std.proofs.Common.{◌≡◌, ◌∙◌, sym, add-one, Some}
use Rattle.vb_lexer.specs.Tokens.{char_at}
use Rattle.vb_lexer.proofs.Values.{place_within, starts_on, starts_not, starts_none}
use Rattle.vb_lexer.proofs.numbers.starts.Goals as goal

pub returns-in_default-clause-found : goal.returns-in_default-clause-found
returns-in_default-clause-found c =
    let at : char_at c.args.text.now c.loop-i.i ≡ Some c.in-Some.c = sym c.char_at.ensures ∙ c.in-Some.is in
    sym (c.loop-i.invariant.left ∙ starts_not c.args.word.now c.args.text.now c.loop-i.i c.in-Some.c c.loop-i-test.true at (λ e. c.if-to_ascii_lowercase-from.false (c.to_ascii_lowercase.ensures.value ∙ e ∙ sym c.from.ensures)))

pub returns-in_default-2-clause-found : goal.returns-in_default-2-clause-found
returns-in_default-2-clause-found c =
    sym (c.loop-i.invariant.left ∙ starts_none c.args.word.now c.args.text.now c.loop-i.i c.loop-i-test.true (sym c.char_at.ensures ∙ c.in_default.is))

pub loop-i-preserved : goal.loop-i-preserved
loop-i-preserved c =
    let at : char_at c.args.text.now c.loop-i.i ≡ Some c.in-Some.c = sym c.char_at.ensures ∙ c.in-Some.is in
    record {
      left = rw add-one (c.loop-i.invariant.left ∙ starts_on c.args.word.now c.args.text.now c.loop-i.i c.in-Some.c c.loop-i-test.true at (sym c.to_ascii_lowercase.ensures.value ∙ c.if-to_ascii_lowercase-from.true ∙ c.from.ensures));
      within = place_within c.args.text.now c.loop-i.i c.in-Some.c at;
    }
