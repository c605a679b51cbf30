use Rattle.std.proofs.Common.{◌≡◌, ◌+◌, ◌<◌, ℕ, List, [], ◌∷◌, ◌++◌, take, take_all, length, ◌≤◌, Option, sym, ap, subst, ◌∙◌, arith, true, false}
use Rattle.std.proofs.lemmas.List.{take_more}
use Rattle.vb_syntax.specs.declared.item.Row.{Row}
use Rattle.vb_diag.specs.Broken.{IsLeastLine}
use Rattle.vb_parse.specs.{Where.HasRow, RowRules.Breaks}
use Rattle.vb_parse.proofs.{Orders.{takes_one, leaves_one}, row_rules.first_breaking.Goals.{then-breaks, else-breaks}}
use Rattle.vb_parse.proofs.row_rules.first_breaking.Goals as goal

pub loop-row-preserved : goal.loop-row-preserved
loop-row-preserved c =
    let rows = c.args.rows.now in
    let at = c.loop-row.row-index in
    let r = c.row-item.result in
    let inside : at < length rows = omega arith in
    let grown : take (at + 1) rows ≡ take at rows ++ r ∷ [] = take_more rows at r inside ∙ ap (λ x. take at rows ++ x ∷ []) (sym c.row-item.is) in
    elim c.if-breaks.branch [
      | then-breaks w ↦ subst (λ (o : Option ℕ). IsLeastLine (HasRow (Breaks c.args.rule) (take (at + 1) rows)) o) (sym w.first-is)
          (subst (λ (xs : List Row). IsLeastLine (HasRow (Breaks c.args.rule) xs) w.lesser-first.result) (sym grown)
          (takes_one (Breaks c.args.rule) (take at rows) r c.loop-row.first w.lesser-first.result c.loop-row.invariant (sym c.breaks.ensures ∙ w.if-breaks.true) w.lesser-first.ensures))
      | else-breaks w ↦ subst (λ (o : Option ℕ). IsLeastLine (HasRow (Breaks c.args.rule) (take (at + 1) rows)) o) (sym w.first-is)
          (subst (λ (xs : List Row). IsLeastLine (HasRow (Breaks c.args.rule) xs) c.loop-row.first) (sym grown)
          (leaves_one (Breaks c.args.rule) (take at rows) r c.loop-row.first c.loop-row.invariant (λ is. let no : true ≡ false = sym is ∙ sym c.breaks.ensures ∙ w.if-breaks.false in absurd cc)))
    ]

pub returns : goal.returns
returns c =
    let rows = c.args.rows.now in
    let past : length rows ≤ c.loop-row.row-index = omega arith in
    subst (λ (xs : List Row). IsLeastLine (HasRow (Breaks c.args.rule) xs) c.loop-row.first) (take_all c.loop-row.row-index rows past) c.loop-row.invariant
