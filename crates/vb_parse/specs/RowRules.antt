-- The rules that a row breaks by what stands in it alone.
use Rattle.std.specs.Prelude.{◌≡◌, Bool, true, Option}
use Rattle.vb_syntax.specs.declared.item.{Item.Item, Row.Row}
use Rattle.vb_parse.specs.{declared.row_rules.RowRule.{RowRule, TheVariants.{UnsupportedOption, ModifiersAtOdds}}, Modifiers.item_at_odds, Options.is_unsupported}

abbrev pub breaks : RowRule → Option Item → Bool
breaks UnsupportedOption i = is_unsupported i
breaks ModifiersAtOdds i = item_at_odds i

abbrev pub Breaks : RowRule → Row → Type 0
Breaks rule r = breaks rule r.item ≡ true
