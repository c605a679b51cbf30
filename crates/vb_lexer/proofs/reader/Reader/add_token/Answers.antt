use Rattle.std.proofs.Common.{refl, ap, sym, ◌∙◌}
use Rattle.vb_lexer.specs.Lines.{item, goes_on, closes}
use Rattle.vb_lexer.proofs.Reading.{reads_token}
use Rattle.vb_lexer.proofs.reader.Reader.add_token.Goals as goal

pub returns-clause-reads : goal.returns-clause-reads
returns-clause-reads c = λ table items p same is reads.
    reads_token table c.args.self.now c.begin_item.new.self _ items (item p c.args.self.now.line c.args.self.now.breaks) c.args.token c.closes-closes.result reads refl refl
    (ap (λ q. closes q) same ∙ sym c.closes-closes.ensures)
    (record { lines = c.in_ok-begin_item.ensures.lines; least = c.in_ok-begin_item.ensures.least; tokens = c.in_ok-begin_item.ensures.tokens; fresh = c.in_ok-begin_item.ensures.fresh; start = c.in_ok-begin_item.ensures.start; file = c.in_ok-begin_item.ensures.file })
    is c.in_ok-push.ensures.ok (ap (λ q. goes_on q) same ∙ sym c.goes_on-goes_on.ensures) refl refl refl refl
