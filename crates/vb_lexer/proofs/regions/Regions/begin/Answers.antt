use Rattle.std.proofs.Common.{arith}
use Rattle.vb_lexer.proofs.Marks.{tracks_begin_outer, tracks_begin_inner}
use Rattle.vb_lexer.proofs.regions.Regions.begin.Goals as goal

pub returns-then-self-eq0 : goal.returns-then-self-eq0
returns-then-self-eq0 c = λ marks t before. tracks_begin_outer marks c.args.self.now c.args.line c.if-self-eq0.true t before

pub returns-else-self-eq0 : goal.returns-else-self-eq0
returns-else-self-eq0 c = λ marks t before.
    tracks_begin_inner marks c.args.self.now c.args.line c.saturating_add-self.result c.if-self-eq0.false (omega (arith, c.ranges.line.fits)) c.saturating_add-self.ensures t before
