use Rattle.std.proofs.Common.{ℕ, reverse, None}
use Rattle.vb_diag.specs.Broken.{InFile, OfRule, IsLeast}
use Rattle.vb_ends.specs.{Enders.BreaksBackwards, Roles.marks_of, Depth.IsTooDeep}
use Rattle.vb_parse.specs.{Options.HasUnsupportedOption, Modifiers.HasModifiersAtOdds}
use Rattle.vb_parse.proofs.Orders.{Either, one_rule, one_rule_more}
use Rattle.vb_parse.proofs.files.judge.Goals as goal

pub returns : goal.returns
returns c =
    let file = c.args.file in
    let rows = c.args.rows.now in
    let depths = c.args.depths.now in
    let Unended : ℕ → Type 0 = λ line. BreaksBackwards (marks_of None (reverse rows)) line in
    let TooDeep : ℕ → Type 0 = λ line. IsTooDeep (reverse rows) (reverse depths) line in
    let of_36 : ℕ → ℕ → Type 0 = OfRule 36 (HasModifiersAtOdds rows) in
    let of_35 : ℕ → ℕ → Type 0 = Either (OfRule 35 (HasUnsupportedOption rows)) of_36 in
    let of_33 : ℕ → ℕ → Type 0 = Either (OfRule 33 TooDeep) of_35 in
    let from_36 : IsLeast (InFile file of_36) c.broken-least.result = one_rule file _ 36 _ _ c.first_breaking-at_odds.ensures c.broken-least.ensures in
    let from_35 : IsLeast (InFile file of_35) c.lesser-least.result = one_rule_more file _ 35 of_36 _ _ _ _ c.first_breaking-unsupported.ensures c.broken.ensures c.lesser-least.ensures from_36 in
    let from_33 : IsLeast (InFile file of_33) c.lesser-least-2.result = one_rule_more file _ 33 of_35 _ _ _ _ c.in_ok-too_deep.ensures c.broken-2.ensures c.lesser-least-2.ensures from_35 in
    one_rule_more file Unended 31 of_33 _ _ _ _ c.in_ok-unended.ensures c.broken-3.ensures c.lesser.ensures from_33
