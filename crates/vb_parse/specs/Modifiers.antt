-- Which modifiers of a member are repeated or exclude each other (Visual Basic Language Specification 11.0, 4.3, 4.6, 9.2 and 9.7).
use Rattle.std.specs.Prelude.{◌≡◌, ℕ, Bool, true, false, ◌||◌, List, [], ◌∷◌, Option, Some}
use Rattle.std.specs.List.{list_any}
use Rattle.vb_syntax.specs.declared.declaration.Access.TheVariants as access
use Rattle.vb_syntax.specs.declared.{declaration.{Modifier.Modifier, PropertyKind.PropertyKind}, item.{DeclarationLine.DeclarationLine, Item.Item, Row.Row}}
use Rattle.vb_syntax.specs.declared.declaration.Modifier.TheVariants as modifier
use Rattle.vb_syntax.specs.declared.declaration.PropertyKind.TheVariants as property
use Rattle.vb_syntax.specs.declared.item.DeclarationLine.TheVariants as line
use Rattle.vb_syntax.specs.declared.item.Item.TheVariants as item
use Rattle.vb_parse.specs.Where.{HasRow}

-- the first and the second are the same, or two of access; `Protected Friend` in this order is one modifier
abbrev pub repeats : Modifier → Modifier → Bool
repeats (modifier.Access a) (modifier.Access b) = true
repeats modifier.Shared modifier.Shared = true
repeats modifier.Overridable modifier.Overridable = true
repeats modifier.Overrides modifier.Overrides = true
repeats modifier.MustOverride modifier.MustOverride = true
repeats modifier.NotOverridable modifier.NotOverridable = true
repeats modifier.Overloads modifier.Overloads = true
repeats modifier.Shadows modifier.Shadows = true
repeats modifier.ReadOnly modifier.ReadOnly = true
repeats m n = false

-- the two exclude each other, in this order of the table
abbrev pub excludes : Modifier → Modifier → Bool
excludes modifier.Overridable modifier.MustOverride = true
excludes modifier.Overridable modifier.NotOverridable = true
excludes modifier.MustOverride modifier.NotOverridable = true
excludes modifier.Overridable modifier.Overrides = true
excludes modifier.Shared modifier.Overridable = true
excludes modifier.Shared modifier.MustOverride = true
excludes modifier.Shared modifier.NotOverridable = true
excludes modifier.Shared modifier.Overrides = true
excludes modifier.Overloads modifier.Shadows = true
excludes modifier.Overrides modifier.Shadows = true
excludes (modifier.Access access.Private) modifier.Overridable = true
excludes (modifier.Access access.Private) modifier.MustOverride = true
excludes m n = false

abbrev pub clashes : Modifier → Modifier → Bool
clashes m n = repeats m n || (excludes m n || excludes n m)

abbrev pub clashes_with_one : Modifier → List Modifier → Bool
clashes_with_one m ns = list_any (λ n. clashes m n) ns

-- some two of them clash
abbrev pub are_at_odds : List Modifier → Bool
are_at_odds [] = false
are_at_odds (m ∷ ms) = clashes_with_one m ms || are_at_odds ms

abbrev pub is_read_only : Modifier → Bool
is_read_only modifier.ReadOnly = true
is_read_only m = false

abbrev pub has_read_only : List Modifier → Bool
has_read_only ms = list_any is_read_only ms

-- `ReadOnly` or `WriteOnly` before `Property` is like a modifier; `WriteOnly` and `ReadOnly` exclude each other
abbrev pub property_at_odds : List Modifier → PropertyKind → Bool
property_at_odds ms property.ReadWrite = are_at_odds ms
property_at_odds ms property.ReadOnly = has_read_only ms || are_at_odds ms
property_at_odds ms property.WriteOnly = has_read_only ms || are_at_odds ms

abbrev pub line_at_odds : DeclarationLine → Bool
line_at_odds (line.Variables ms ds) = are_at_odds ms
line_at_odds (line.Constants ms ds) = are_at_odds ms
line_at_odds (line.Sub ms s is) = are_at_odds ms
line_at_odds (line.Constructor ms ps is) = are_at_odds ms
line_at_odds (line.Function ms k s t is) = are_at_odds ms
line_at_odds (line.Property ms h) = property_at_odds ms h.kind
line_at_odds (line.Event ms n h is) = are_at_odds ms
line_at_odds (line.CustomEvent ms n t) = are_at_odds ms
line_at_odds d = false

abbrev pub item_at_odds : Option Item → Bool
item_at_odds (Some (item.Declares d)) = line_at_odds d
item_at_odds i = false

-- a row has modifiers that are repeated or exclude each other
abbrev pub IsAtOdds : Row → Type 0
IsAtOdds r = item_at_odds r.item ≡ true

abbrev pub HasModifiersAtOdds : List Row → ℕ → Type 0
HasModifiersAtOdds rows line = HasRow IsAtOdds rows line
