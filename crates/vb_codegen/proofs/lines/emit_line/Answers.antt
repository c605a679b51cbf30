use Rattle.std.proofs.Common.{◌≡◌, ◌++◌, ◌∷◌, [], ◌-◌, take, vec_len, sym, ap, ◌∙◌, subst, arith}
use Rattle.std.proofs.lemmas.Result.{on_ok_weaker}
use Rattle.vb_bound.specs.declared.tree.Line.{Line, TheVariants.EndWhile}
use Rattle.vb_codegen.specs.Emission.{CanComplete, Goes}
use Rattle.vb_codegen.proofs.Emission.{does_goes, while_goes, end_goes, is_open, none_ends, on_ok_both}
use Rattle.vb_codegen.proofs.lines.emit_line.Goals as goal

pub unreachable-requires : goal.unreachable-requires
unreachable-requires c =
    let can = subst (λ (l : Line). CanComplete c.args.steps.now.items c.args.loops.now.items (l ∷ c.requires.0)) c.in-EndWhile.is c.requires.1 in
    let zero : vec_len c.args.loops.now - 1 ≡ 0 = omega (arith, c.in-None.ensures.cases.0) in
    let none : c.args.loops.now.items ≡ [] = c.in-None.ensures.items ∙ ap (λ l. l ++ []) (c.in-None.ensures.rest ∙ ap (λ n. take n c.args.loops.now.items) zero) in
    none_ends c.args.steps.now.items c.requires.0 (subst (λ o. CanComplete c.args.steps.now.items o (EndWhile ∷ c.requires.0)) none can)

pub close_loop-requires : goal.close_loop-requires
close_loop-requires c =
    let can = subst (λ (l : Line). CanComplete c.args.steps.now.items c.args.loops.now.items (l ∷ c.requires.0)) c.in-EndWhile.is c.requires.1 in
    is_open c.args.steps.now.items c.args.loops.now.items c.pop.new.self.items c.in-Some.innermost c.requires.0 c.in-Some.ensures.items can

pub returns-in-Does : goal.returns-in-Does
returns-in-Does c = on_ok_weaker c.emit_statement.result
    (λ e. subst (λ (l : Line). Goes l c.args.steps.now.items c.args.loops.now.items c.emit_statement.new.steps.items c.args.loops.now.items) (sym c.in-Does.is) (does_goes c.in-Does.statement c.args.steps.now.items c.emit_statement.new.steps.items c.args.loops.now.items e))
    c.emit_statement.ensures

pub returns-in-While : goal.returns-in-While
returns-in-While c = on_ok_both c.open_loop.result
    (λ e f. subst (λ (l : Line). Goes l c.args.steps.now.items c.args.loops.now.items c.open_loop.new.steps.items c.open_loop.new.loops.items) (sym c.in-While.is) (while_goes c.in-While.test c.args.steps.now.items c.open_loop.new.steps.items c.args.loops.now.items c.open_loop.new.loops.items e f))
    c.open_loop.ensures.steps c.open_loop.ensures.loops

pub returns-in-Some : goal.returns-in-Some
returns-in-Some c = on_ok_weaker c.close_loop.result
    (λ e. subst (λ (l : Line). Goes l c.args.steps.now.items c.args.loops.now.items c.close_loop.new.steps.items c.pop.new.self.items) (sym c.in-EndWhile.is) (end_goes c.args.steps.now.items c.close_loop.new.steps.items c.args.loops.now.items c.pop.new.self.items c.in-Some.innermost c.in-Some.ensures.items e))
    c.close_loop.ensures
