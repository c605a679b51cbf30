use Rattle.std.proofs.Common.{◌≡◌, sym, ◌∙◌, refl, subst}
use Rattle.vb_bound.specs.Tree.{Tree, IsOutlineOf}
use Rattle.vb_code.specs.{Code.Code, Machine.code_machine, Shapes.IsChecked}
use Rattle.vb_meaning.specs.Source.{source_machine}
use Rattle.vb_threads.specs.Stands.{StandsFor}
use Rattle.vb_codegen.specs.Emitted.{code_of}
use Rattle.vb_codegen.proofs.{Standing.{IsPacedCode, stands, paced}, Shaped.is_checked}
use Rattle.vb_codegen.proofs.program.generate.Goals as goal

pub new-requires : goal.new-requires
new-requires c =
    let block = c.in_ok-code.ensures.some in
    let t : Tree = record { locals = c.args.program.now.locals; body = block.0 } in
    let is : IsOutlineOf c.args.program.now t = record { locals = refl; lines = block.1 } in
    subst IsChecked (sym (c.in_ok-code.ensures.each t is)) (is_checked t c.args.program.now is c.in_ok-code.ensures.bound)

pub returns : goal.returns
returns c =
    let block = c.in_ok-code.ensures.some in
    let t : Tree = record { locals = c.args.program.now.locals; body = block.0 } in
    let is : IsOutlineOf c.args.program.now t = record { locals = refl; lines = block.1 } in
    let same : c.new.result ≡ code_of t = c.new.ensures ∙ c.in_ok-code.ensures.each t is in
    record {
      checked = subst IsChecked (sym same) (is_checked t c.args.program.now is c.in_ok-code.ensures.bound);
      stands = λ t o. let e : c.new.result ≡ code_of t = c.new.ensures ∙ c.in_ok-code.ensures.each t o in subst (λ (k : Code). StandsFor (code_machine k) (source_machine t)) (sym e) (stands t);
      paced = subst IsPacedCode (sym same) (paced t);
    }
