use Rattle.std.proofs.Common.{◌≡◌, Some, ap, rules, subst}
use Rattle.vb_bound.specs.Tree.{Block, Tree, Outline, IsBound}
use Rattle.vb_bind.specs.Parsing.{file_read}
use Rattle.vb_bind.proofs.Files.{parsed, no_front, both_ok}
use Rattle.vb_bind.proofs.program.read_program.Goals as goal

pub returns-in-Some-clause-read : goal.returns-in-Some-clause-read
returns-in-Some-clause-read c =
    let known = c.args.known.now in
    let file = c.args.file.now in
    let read : file_read known file ≡ Some (c.in-Some.own_name, c.in-Some.body.now) = search rules in
    both_ok c.program_of.result _ _ _ c.program_of.ensures.read c.program_of.ensures.bound
    (λ p r bound.
    let b : Block = r.1 in
    let t : Tree = record { locals = r.0.locals; body = b } in
    (t, parsed known file c.in-Some.own_name c.in-Some.body.now r.0 b read r.2 r.3 (subst (λ (x : Outline). IsBound x) r.4 bound), record { locals = ap (λ (x : Outline). x.locals) r.4; lines = ap (λ (x : Outline). x.lines) r.4 }))

pub returns-in-Some-clause-refused : goal.returns-in-Some-clause-refused
returns-in-Some-clause-refused c =
    let known = c.args.known.now in
    let file = c.args.file.now in
    let read : file_read known file ≡ Some (c.in-Some.own_name, c.in-Some.body.now) = search rules in
    λ e. no_front known file c.in-Some.own_name c.in-Some.body.now read (c.program_of.ensures.refused e)
