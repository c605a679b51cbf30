-- The last name of a type: a private function, which the code equals.
use Rattle.std.specs.Prelude.{List, [], ◌∷◌, Option, Some, None}
use Rattle.vb_text.specs.declared.names.Name.{Name}
use Rattle.vb_syntax.specs.declared.types.{TypeName.TypeName, SimpleTypeName.{SimpleTypeName, out-SimpleTypeName, TheOpen.SimpleTypeName-F}}
use Rattle.vb_syntax.specs.declared.types.TypeName.TheVariants as type_name
use Rattle.vb_parse_expr.specs.{Types.qualified_by, TypeReading.popped}

abbrev pub named_before : List Name → Name → Option (TypeName × Name)
named_before [] n = None
named_before (m ∷ ms) n = Some (type_name.Simple (qualified_by (m ∷ ms) []), n)

-- the last name, and the type that the names before it are
abbrev pub last_name : List TypeName → Option (List Name × Name) → Option (TypeName × Name)
last_name [] (Some p) = named_before p.0 p.1
last_name xs ns = None

abbrev pub member_of_simple : SimpleTypeName → Option (TypeName × Name)
member_of_simple x = elim (out-SimpleTypeName x) [
  | SimpleTypeName-F.BuiltIn b ↦ None
  | SimpleTypeName-F.Qualified q ↦ last_name q.arguments (popped q.parts)
]

unfoldable pub member_of : TypeName → Option (TypeName × Name)
member_of (type_name.Simple x) = member_of_simple x
member_of (type_name.Array x) = None
