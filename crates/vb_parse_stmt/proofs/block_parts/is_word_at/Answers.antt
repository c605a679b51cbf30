use Rattle.std.proofs.Common.{rules, ◌≡◌, Some, slice_get, true, sym, ap, ◌∙◌}
use Rattle.vb_syntax.specs.{declared.keyword.Keyword.Keyword, contracts.keyword.Keyword.the_type}
use denote.Enum.Bare.{same_true, true_same}
use Rattle.vb_parse_decl.specs.Parts.{reserved}
use Rattle.vb_parse_stmt.proofs.block_parts.is_word_at.Goals as goal

pub returns-in-Some-Keyword-clause-answer : goal.returns-in-Some-Keyword-clause-answer
returns-in-Some-Keyword-clause-answer c =
    let found = c.in-Some-Keyword.found in
    let at = c.in-Some-Keyword.ensures in
    let w = c.get.ensures in
    let here : slice_get c.args.line.now.tokens c.args.at ≡ Some (reserved found) = search rules in (
      λ told. let is : c.eq.result ≡ true = search (rules, told) in
          let same : found ≡ c.args.word = same_true the_type (search rules) _ _ (sym c.eq.ensures ∙ is) in
          here ∙ ap (λ (k : Keyword). Some (reserved k)) same,
      λ there. let same : found ≡ c.args.word = cc in
          let is : c.eq.result ≡ true = c.eq.ensures ∙ true_same the_type found c.args.word same in
          search (rules, is),
    )
