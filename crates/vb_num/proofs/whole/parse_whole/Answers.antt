use Rattle.std.proofs.Common.{◌∙◌, sym, ap, subst, List, ℕ, ◌<◌, length, rules}
use Rattle.std.specs.Prelude.{IsTrue}
use Rattle.std.specs.List.{AllByRecursion as Each}
use Rattle.std.specs.Str.Parse.{digits_value}
use Rattle.vb_num.specs.{Kind.in_kind}
use Rattle.vb_num.specs.WholeReading as spec
use Rattle.vb_num.proofs.{Runs.run_passes, Digits.as_digits, Wholes.{found, digits_read, left_read, sign_read, no_digits, some_left, is_nothing, is_something}, Parsed.{capped_in, parsed}}
use Rattle.vb_num.proofs.whole.parse_whole.Goals as goal
use Rattle.vb_num.proofs.whole.parse_whole.Goals.{then-is_empty-via-then-is_empty, then-is_empty-via-else-is_empty+then-not-is_empty}

pub returns-then-is_empty : goal.returns-then-is_empty
returns-then-is_empty c value w =
    let units = c.args.units.now in
    let digits = digits_read units c.behind_run-text.result.now c.behind_sign.result.now c.digits_of.result.0.now c.behind_run-text.ensures c.behind_sign.ensures c.digits_of.ensures.digits in
    elim c.then-is_empty.branch [
      | then-is_empty-via-then-is_empty p ↦ no_digits units c.digits_of.result.0.now digits (sym c.is_empty.ensures ∙ p.if-is_empty.true) value w
      | then-is_empty-via-else-is_empty+then-not-is_empty p ↦
          some_left units p.behind_run.result.now
          (left_read units c.behind_run-text.result.now c.behind_sign.result.now c.digits_of.result.1.now p.behind_run.result.now c.behind_run-text.ensures c.behind_sign.ensures c.digits_of.ensures.after p.behind_run.ensures)
          (sym p.is_empty-else-is_empty.ensures ∙ p.if-not-is_empty.true) value w
    ]

pub capped_value-requires : goal.capped_value-requires
capped_value-requires c =
    as_digits c.digits_of.result.0.now (subst (λ us. Each (λ u. IsTrue (spec.is_digit u)) us) (sym c.digits_of.ensures.digits) (run_passes spec.is_digit c.behind_sign.result.now))

pub returns : goal.returns
returns c =
    let units = c.args.units.now in
    let digits = digits_read units c.behind_run-text.result.now c.behind_sign.result.now c.digits_of.result.0.now c.behind_run-text.ensures c.behind_sign.ensures c.digits_of.ensures.digits in
    let left = left_read units c.behind_run-text.result.now c.behind_sign.result.now c.digits_of.result.1.now c.behind_run.result.now c.behind_run-text.ensures c.behind_sign.ensures c.digits_of.ensures.after c.behind_run.ensures in
    let some = is_something c.digits_of.result.0.now (sym c.is_empty.ensures ∙ c.if-is_empty.false) in
    let none = is_nothing c.behind_run.result.now (sym c.is_empty-else-is_empty.ensures ∙ c.if-not-is_empty.false) in
    let whole = found units (subst (λ (us : List ℕ). 0 < length us) digits some) (sym left ∙ none) in
    let size = c.capped_value.ensures ∙ ap spec.capped_value digits in
    let read =
    c.with_sign.ensures ∙ ap (λ b. spec.with_sign b c.capped_value.result) (c.is_minus.ensures ∙ ap spec.is_minus c.behind_run-text.ensures)
    ∙ ap (spec.with_sign (spec.is_minus (spec.text_of units))) size ∙ sign_read (spec.text_of units) (spec.capped_value (spec.digits_of units)) in
    let same = ap (in_kind c.args.kind) read ∙ capped_in c.args.kind (spec.sign_at (spec.text_of units)) (digits_value 10 (spec.digits_of units)) in
    parsed units c.args.kind c.with_sign.result c.number.result whole same (search rules)
