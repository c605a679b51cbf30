use Rattle.std.proofs.Common.{arith}
use Rattle.vb_lexer.proofs.Marks.{first_unopened, first_open, first_none}
use Rattle.vb_lexer.proofs.regions.Regions.broken.Goals as goal

pub returns-in-Some : goal.returns-in-Some
returns-in-Some c = λ marks t. first_unopened marks c.args.self.now c.in-Some.line c.in-Some.is t

pub returns-in-None : goal.returns-in-None
returns-in-None c = λ marks t. first_open marks c.args.self.now c.in-None.is c.if-self-gt0.true t

pub returns-in-None-2 : goal.returns-in-None-2
returns-in-None-2 c = λ marks t. first_none marks c.args.self.now c.in-None-2.is (omega (arith, c.if-self-gt0.false)) t
