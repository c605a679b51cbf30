use Rattle.std.proofs.Common.{◌≡◌, Option, Some, None, sym, ap, ◌∙◌, subst}
use Rattle.vb_diag.specs.{declared.refusal.Refusal.Refusal, Broken.{IsLeast, InFile, lesser, broken_at}}
use Rattle.vb_lexer.specs.{Lines.{AreLines, grouped}, Progress.FileBreaks}
use Rattle.vb_lexer.proofs.{Reading.whole_lines, Finishing.{least_file, none_least}}
use Rattle.vb_lexer.proofs.lines.Progress.finish.Goals as goal

pub returns-in-Some : goal.returns-in-Some
returns-in-Some c = λ table items marks reads tracks.
    let w = whole_lines table c.args.self.reader c.close.new.self items reads c.in_ok-close.ensures.file c.in_ok-close.ensures.lines c.in_ok-close.ensures.least in
    let least = least_file c.close.new.self.file items marks c.close.new.self.least c.broken.result w.least (c.broken.ensures marks tracks) in
    let here : lesser c.close.new.self.least (broken_at c.close.new.self.file 9 c.broken.result) ≡ Some c.in-Some.refusal =
    ap (λ (r : Option Refusal). lesser c.close.new.self.least r) (sym (c.broken_at-region.ensures ∙ ap (λ k. broken_at c.close.new.self.file k c.broken.result) c.rule_of.ensures)) ∙ sym c.lesser.ensures ∙ c.in-Some.is in
    subst (λ f. IsLeast (InFile f (FileBreaks items marks)) (Some c.in-Some.refusal)) c.in_ok-close.ensures.file (subst (λ r. IsLeast (InFile c.close.new.self.file (FileBreaks items marks)) r) here least)

pub returns : goal.returns
returns c = λ table items marks reads tracks.
    let w = whole_lines table c.args.self.reader c.close.new.self items reads c.in_ok-close.ensures.file c.in_ok-close.ensures.lines c.in_ok-close.ensures.least in
    let least = least_file c.close.new.self.file items marks c.close.new.self.least c.broken.result w.least (c.broken.ensures marks tracks) in
    let here : lesser c.close.new.self.least (broken_at c.close.new.self.file 9 c.broken.result) ≡ None =
    ap (λ (r : Option Refusal). lesser c.close.new.self.least r) (sym (c.broken_at-region.ensures ∙ ap (λ k. broken_at c.close.new.self.file k c.broken.result) c.rule_of.ensures)) ∙ sym c.lesser.ensures ∙ c.in-None.is in (
      subst (λ f. AreLines table f (grouped items) c.close.new.self.lines) c.in_ok-close.ensures.file (w.lines (none_least c.close.new.self.least _ here)),
      subst (λ f. IsLeast (InFile f (FileBreaks items marks)) None) c.in_ok-close.ensures.file (subst (λ r. IsLeast (InFile c.close.new.self.file (FileBreaks items marks)) r) here least),
    )
