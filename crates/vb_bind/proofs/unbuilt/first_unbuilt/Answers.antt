use Rattle.std.proofs.Common.{ap, ◌∙◌}
use Rattle.vb_diag.specs.Broken.{lesser_line}
use Rattle.vb_bind.proofs.Least.{least_file}
use Rattle.vb_bind.proofs.unbuilt.first_unbuilt.Goals as goal

pub returns : goal.returns
returns c =
    least_file c.args.known.now c.args.file.now c.as_slice.result.now c.as_slice-2.result.now c.as_slice-3.result.now c.first_option-options.result c.first_imports-imports.result c.first_in_types-types.result c.lesser-2.result
    c.as_slice.ensures c.as_slice-2.ensures c.as_slice-3.ensures (c.lesser-2.ensures ∙ ap (λ o. lesser_line c.first_option-options.result o) c.lesser.ensures)
    c.first_option-options.ensures c.first_imports-imports.ensures c.first_in_types-types.ensures
