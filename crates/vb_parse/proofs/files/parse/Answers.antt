use Rattle.std.proofs.Common.{◌≡◌, Err}
use Rattle.vb_parse_expr.specs.declared.error.ParseErr.TheVariants as failure
use Rattle.vb_tree.specs.declared.tree.BuildErr.TheVariants as build
use Rattle.vb_diag.specs.Broken.{InFile, IsLeast}
use Rattle.vb_parse.specs.Rules.{BreaksLines}
use Rattle.vb_parse.proofs.Told.{least_judged, least_of_lines, only_memory, is_tree, is_alone, accepted, told_first}
use Rattle.vb_parse.proofs.files.parse.Goals as goal

pub unless_broken-requires : goal.unless_broken-requires
unless_broken-requires c =
    let words = c.args.words.now in
    let lines = c.args.lines.now in
    let found = c.in_ok-rows.field-0 in
    let facts = c.in_ok-rows.ensures in
    let built = c.built_front-built.result in
    let front = c.built_front-built.ensures.front in
    let cut = c.built_front-built.ensures.is_front in
    let is_built = c.built_front-built.ensures.is_built in
    let judged = least_judged c.args.file words lines found.rows found.depths facts.rows facts.alone facts.depths
    found.refusal c.in_ok-judged.judged c.lesser-judged.result c.as_slice.result.now c.as_slice-2.result.now
    facts.refusal c.as_slice.ensures c.as_slice-2.ensures c.in_ok-judged.ensures c.lesser-judged.ensures in
    let least : (built ≡ Err build.Memory → ⊥) → IsLeast (InFile c.args.file (BreaksLines words lines)) c.lesser-least.result =
    least_of_lines c.args.file words lines found.rows found.depths facts.rows facts.alone facts.depths front built is_built c.lesser-judged.result judged cut
    c.misplaced_in.result c.broken.result c.lesser-least.result c.misplaced_in.ensures c.broken.ensures c.lesser-least.ensures in
    only_memory c.args.file words lines found.rows found.depths facts.rows facts.alone facts.depths front built is_built c.lesser-judged.result judged cut
    c.open_blocks_break.ensures c.lesser-least.result least

pub returns : goal.returns
returns c =
    let words = c.args.words.now in
    let lines = c.args.lines.now in
    let found = c.in_ok-rows.field-0 in
    let facts = c.in_ok-rows.ensures in
    let built = c.built_front-built.result in
    let front = c.built_front-built.ensures.front in
    let cut = c.built_front-built.ensures.is_front in
    let is_built = c.built_front-built.ensures.is_built in
    let kept = c.unless_broken.ensures in
    let judged = least_judged c.args.file words lines found.rows found.depths facts.rows facts.alone facts.depths
    found.refusal c.in_ok-judged.judged c.lesser-judged.result c.as_slice.result.now c.as_slice-2.result.now
    facts.refusal c.as_slice.ensures c.as_slice-2.ensures c.in_ok-judged.ensures c.lesser-judged.ensures in
    let least : (built ≡ Err build.Memory → ⊥) → IsLeast (InFile c.args.file (BreaksLines words lines)) c.lesser-least.result =
    least_of_lines c.args.file words lines found.rows found.depths facts.rows facts.alone facts.depths front built is_built c.lesser-judged.result judged cut
    c.misplaced_in.result c.broken.result c.lesser-least.result c.misplaced_in.ensures c.broken.ensures c.lesser-least.ensures in
    let tree = is_tree c.args.file words lines found.rows found.depths facts.rows facts.alone facts.depths front built is_built c.lesser-judged.result judged cut
    c.lesser-least.result c.unless_broken.result least kept.kept in
    record {
      tree = tree;
      alone = is_alone c.args.file words lines found.rows found.depths facts.rows facts.alone facts.depths front built is_built c.lesser-judged.result judged cut c.unless_broken.result c.one_tree.ensures tree;
      sound = accepted c.args.file words lines c.lesser-least.result built c.unless_broken.result least kept.kept;
      refused = λ r is.
          let differ : failure.Refused r ≡ failure.Memory → ⊥ = λ e. cc in
          told_first c.args.file words lines c.lesser-least.result built failure.Memory (failure.Refused r) c.unless_broken.result r least kept.memory is differ (kept.refused r is);
    }
