use Rattle.std.proofs.Common.{◌≤◌, ◌<◌, ◌∷◌, ◌-◌, get_or, length, drop, reverse, map, ap, subst, sym, ◌∙◌, arith}
use Rattle.std.specs.Prelude.{vec_len}
use Rattle.vb_value.specs.Datum.{datum_of}
use Rattle.vb_code.proofs.Tops.{seen-set_popped, seen_long}
use Rattle.vb_code.proofs.stack.Operands.replace_two.Goals as goal

pub returns : goal.returns
returns c =
    let old = c.self.inside.values in
    let new = c.pop-top.new.self in
    let two : 2 ≤ length (reverse (map datum_of old.items)) = subst (λ s. 2 ≤ length s) (sym c.self.view_is) c.requires in
    let some : 0 < vec_len old = omega (arith, two, seen_long datum_of old.items, old.ok.0) in
    seen-set_popped datum_of old.items new.items c.pop-top.result (get_or old.items (vec_len old - 1) c.args.value) c.len-last.result c.args.value c.pop-top.ensures.items (c.pop-top.ensures.value c.args.value some) two (c.len-last.ensures ∙ new.ok.0)
    ∙ ap (λ s. datum_of c.args.value ∷ drop 2 s) c.self.view_is
