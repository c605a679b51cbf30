use Rattle.std.proofs.Common.{List, Option, sym, ap, ◌∙◌}
use Rattle.vb_syntax.specs.declared.declaration.Member.{Member}
use Rattle.vb_blocks.specs.declared.frame.PropertyParts.{PropertyParts}
use Rattle.vb_tree.proofs.Frames.{last_taken}
use Rattle.vb_tree.proofs.step.last_property.Goals as goal

pub returns : goal.returns
returns c =
    let P : Option PropertyParts → List Member × Option PropertyParts = λ o. (c.pop.new.self, o) in
    ap P c.automatic.ensures ∙ sym (last_taken c.args.members.now c.pop.new.self c.in_ok-pop.field-0 c.in_ok-pop.ensures)
