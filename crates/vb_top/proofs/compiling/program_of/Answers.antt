use Rattle.std.proofs.Common.{◌≡◌, ap, subst, ◌∙◌}
use Rattle.std.specs.Prelude.{Err}
use Rattle.vb_diag.specs.declared.refusal.Refusal.{Refusal}
use Rattle.vb_bound.specs.Tree.{Tree}
use Rattle.vb_bind.specs.{declared.program.ReadErr.ReadErr, Grammar.IsProgramOf}
use Rattle.vb_top.specs.Programs.{IsFirstUnbuilt}
use Rattle.vb_top.proofs.compiling.program_of.Goals as goal

pub returns-in-Err-Refused-clause-refused : goal.returns-in-Err-Refused-clause-refused
returns-in-Err-Refused-clause-refused c = λ refusal e.
    let known = c.args.known.now in
    let tree = c.args.tree.now in
    let none = c.in-Err-Refused.ensures.refused (ap (λ (r : ReadErr). Err r) c.in-Err-Refused.field-0-is) in
    let same : c.unbuilt.result ≡ refusal = cc in
    subst (λ (r : Refusal). (r.rule ≡ 999) × ((t : Tree) → IsProgramOf known tree t → ⊥) × IsFirstUnbuilt known tree r.line) same
    (c.unbuilt.ensures.rule, none, (c.first_unbuilt.result, c.first_unbuilt.ensures, c.unbuilt.ensures.line ∙ c.unwrap_or-line.ensures))
