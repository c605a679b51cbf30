use Rattle.std.proofs.Common.{arith}
use Rattle.vb_lexer.proofs.Marks.{tracks_end, tracks_unopened, tracks_kept}
use Rattle.vb_lexer.proofs.regions.Regions.end.Goals as goal

pub returns-then-self-gt0 : goal.returns-then-self-gt0
returns-then-self-gt0 c = λ marks t before. tracks_end marks c.args.self.now c.args.line c.if-self-gt0.true t before

pub returns-in-Some : goal.returns-in-Some
returns-in-Some c = λ marks t before. tracks_kept marks c.args.self.now c.args.line _ (omega (arith, c.if-self-gt0.false)) c.in-Some.is t before

pub returns-in-None : goal.returns-in-None
returns-in-None c = λ marks t before. tracks_unopened marks c.args.self.now c.args.line (omega (arith, c.if-self-gt0.false)) c.in-None.is t before
