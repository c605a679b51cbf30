use Rattle.std.proofs.Common.{refl, ap, ◌∙◌}
use Rattle.vb_lexer.specs.{Lines.item, Reader.closed_least}
use Rattle.vb_lexer.proofs.Reading.{reads_fault}
use Rattle.vb_lexer.proofs.reader.Reader.add_fault.Goals as goal

pub returns-clause-reads : goal.returns-clause-reads
returns-clause-reads c = λ table items p same reads.
    reads_fault table c.args.self.now c.begin_item.new.self _ items (item p c.args.self.now.line c.args.self.now.breaks) c.args.fault reads refl refl
    (record { lines = c.in_ok-begin_item.ensures.lines; least = c.in_ok-begin_item.ensures.least; tokens = c.in_ok-begin_item.ensures.tokens; fresh = c.in_ok-begin_item.ensures.fresh; start = c.in_ok-begin_item.ensures.start; file = c.in_ok-begin_item.ensures.file })
    same c.in_ok-close.ensures.tokens c.in_ok-close.ensures.file
    (c.in_ok-close.ensures.least ∙ ap (λ b. closed_least b c.begin_item.new.self.file c.begin_item.new.self.start c.begin_item.new.self.tokens) c.with_broken-self.ensures)
