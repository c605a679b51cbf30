-- The reading of expressions finds what is spelled at the front, wherever it is.
use Rattle.std.proofs.Common.{◌≡◌, ℕ, ◌*◌, ◌<◌, ◌≤◌, true, false, List, [], ◌++◌, length, Some, refl, ap, ◌∙◌, arith}
use Rattle.vb_syntax.specs.declared.{tokens.Token.Token, expression.{Expr.Expr, VariableInitializer.VariableInitializer}}
use Rattle.vb_syntax.specs.declared.expression.VariableInitializer.TheVariants as init
use Rattle.vb_parse_expr.specs.{declared.pending.Goal.Goal, Expressions.{Edge, Spells, SpellsPrimary, SpellsInitializer}, Fronts.{goes_on, goes_on_primary, goes_on_initializer}, TypeReading.{most_turns, most_tokens, popped}, MachineReading.{wants_primary, wants_element, behind_primary, closed_off, run}}
use Rattle.vb_parse_expr.specs.declared.pending.Goal.TheVariants as for
use Rattle.vb_parse_expr.specs.declared.machine.State.TheVariants as at
use Rattle.vb_parse_expr.proofs.{Reaches.ends, Behind.{over_step, operand_behind, operand_over, primary_over, operator_ends, close_none, braces_none}, Holding.{holds_nothing, last_ending}, Edges.over_end, AllReadings.{expression_reads, primary_reads, elements_read}}

-- there are turns enough for all tokens of a slice
enough : (ts : List Token) → length ts ≤ most_tokens → 2 * length ts < most_turns
enough ts within = omega arith

-- a primary alone is done
primary_done : (x : Expr) (ts : List Token) → behind_primary for.Primary x ts [] ≡ Some ([], at.Done (init.Expression x), ts)
unfolding behind_primary popped
primary_done x ts = refl

pub primary_read : {front : List Token} {x : Expr} {edge : Edge} (rest : List Token) → SpellsPrimary edge front x
    → goes_on_primary rest ≡ false → length (front ++ rest) ≤ most_tokens → run for.Primary most_turns [] at.Want (front ++ rest) ≡ Some (init.Expression x, rest)
primary_read {front = front} {x = x} rest s over within =
    let p = primary_reads for.Primary s in
    ends most_turns (p.reads [] rest (over_end rest over) within) (over_step for.Primary [] x rest over ∙ primary_done x rest)
    (enough (front ++ rest) within)

-- an expression with nothing that waits before it, at a goal that takes one
whole : {front : List Token} {x : Expr} {h w : ℕ} (goal : Goal) (rest : List Token) → wants_primary goal [] ≡ false → Spells h w front x
    → goes_on rest ≡ false → length (front ++ rest) ≤ most_tokens → run goal most_turns [] at.Want (front ++ rest) ≡ Some (init.Expression x, rest)
whole {front = front} {x = x} {h = h} goal rest stands s over within =
    let p = expression_reads goal s in
    let none = primary_over rest over in
    let inner = p.ends [] rest stands (holds_nothing h) none within in
    let stays = holds_nothing 13 in
    ends most_turns inner.reaches
    (over_step goal inner.stack inner.last rest none
    ∙ operand_behind goal inner.stack inner.last rest inner.stands
    ∙ operand_over inner.stack inner.last rest (operator_ends rest over)
    ∙ ap (closed_off rest) (inner.settles 13 last_ending p.strong p.weak ∙ stays.stays 13 x (omega arith))
    ∙ close_none x rest)
    (enough (front ++ rest) within)

expression_stands : wants_primary for.Expression [] ≡ false
unfolding wants_primary popped
expression_stands = refl

initializer_stands : wants_primary for.Initializer [] ≡ false
unfolding wants_primary popped
initializer_stands = refl

element_stands : wants_element for.Initializer [] ≡ true
unfolding wants_element popped
element_stands = refl

pub expression_read : {front : List Token} {x : Expr} {h w : ℕ} (rest : List Token) → Spells h w front x
    → goes_on rest ≡ false → length (front ++ rest) ≤ most_tokens → run for.Expression most_turns [] at.Want (front ++ rest) ≡ Some (init.Expression x, rest)
expression_read rest s over within = whole for.Expression rest expression_stands s over within

pub initializer_read : {front : List Token} {i : VariableInitializer} (rest : List Token) → SpellsInitializer front i
    → goes_on_initializer i rest ≡ false → length (front ++ rest) ≤ most_tokens → run for.Initializer most_turns [] at.Want (front ++ rest) ≡ Some (i, rest)
initializer_read rest (SpellsInitializer.expression s) over within = whole for.Initializer rest initializer_stands s over within
initializer_read rest (SpellsInitializer.elements {ts = ts} {is = is} l) over within =
    let p = elements_read for.Initializer l in
    ends most_turns (p.reads [] rest element_stands within) (braces_none for.Initializer is rest) (enough (ts ++ rest) within)
