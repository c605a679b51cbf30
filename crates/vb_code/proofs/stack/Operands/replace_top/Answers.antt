use Rattle.std.proofs.Common.{◌≤◌, ◌∷◌, drop, length, ap, ◌∙◌, arith}
use Rattle.vb_value.specs.Datum.{datum_of}
use Rattle.vb_code.proofs.Tops.{seen-set, seen_long}
use Rattle.vb_code.proofs.stack.Operands.replace_top.Goals as goal

pub returns : goal.returns
returns c =
    let values = c.self.inside.values in
    let long = seen_long datum_of values.items in
    let le : 1 ≤ length values.items = omega (arith, c.requires, long, ap length c.self.view_is) in
    seen-set datum_of values.items c.len-last.result c.args.value (c.len-last.ensures ∙ values.ok.0) le
    ∙ ap (λ s. datum_of c.args.value ∷ drop 1 s) c.self.view_is
