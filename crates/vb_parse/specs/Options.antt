-- Which settings of options aren't supported (Visual Basic Language Specification 11.0, 6.2): the options hold always, and texts are compared by their units.
use Rattle.std.specs.Prelude.{◌≡◌, ℕ, Bool, true, false, List, Option, Some}
use Rattle.vb_syntax.specs.declared.declaration.OptionSetting.TheVariants as setting
use Rattle.vb_syntax.specs.declared.declaration.OptionSwitch.TheVariants as switch
use Rattle.vb_syntax.specs.declared.item.{Item.Item, Row.Row}
use Rattle.vb_syntax.specs.declared.item.Item.TheVariants as item
use Rattle.vb_parse.specs.Where.{HasRow}

abbrev pub is_unsupported : Option Item → Bool
is_unsupported (Some (item.Option (setting.Strict switch.Off))) = true
is_unsupported (Some (item.Option (setting.Explicit switch.Off))) = true
is_unsupported (Some (item.Option (setting.Infer switch.Off))) = true
is_unsupported (Some (item.Option setting.CompareText)) = true
is_unsupported i = false

-- a row has such a setting
abbrev pub IsUnsupported : Row → Type 0
IsUnsupported r = is_unsupported r.item ≡ true

abbrev pub HasUnsupportedOption : List Row → ℕ → Type 0
HasUnsupportedOption rows line = HasRow IsUnsupported rows line
