use Rattle.std.proofs.Common.{◌≡◌, take}
use Rattle.vb_syntax.specs.declared.declaration.OptionStatement.{OptionStatement}
use Rattle.vb_diag.specs.Broken.{IsLeastLine}
use Rattle.vb_bind.specs.Grammar.{HasOne}
use Rattle.vb_bind.proofs.unbuilt.first_option.Given as goal

abbrev pub invariant-loop-option : goal.invariant-loop-option
invariant-loop-option l = IsLeastLine (λ n. HasOne (λ (o : OptionStatement). o.line ≡ n) (take l.option-index l.options)) l.first
