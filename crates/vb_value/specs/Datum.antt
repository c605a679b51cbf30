-- What values mean.
use Rattle.std.specs.Prelude.{ℕ, ℤ, pos, Bool, false, List, [], Option, Some, None}
use Rattle.vb_num.specs.declared.kinds.Kind.{Kind}
use Rattle.vb_value.specs.declared.value.{Ref.Ref, Value.{Value, TheVariants.{Num as OfNum, Bool as OfBool, Text as OfText, Ref as OfRef}}, Shape.{Shape, TheVariants.{Num as NumShape, Bool as BoolShape, Text as TextShape, Ref as RefShape}}}

-- A whole number of a kind, a Boolean, a text as its UTF-16 units, or an object by its number. The last two may be Nothing.
-- (Visual Basic Language Specification 11.0, 7.3 and 7.4)
pub data Datum : Type 0 where
  Number : (kind : Kind) (value : ℤ) → Datum
  Truth : (holds : Bool) → Datum
  Letters : (units : Option (List ℕ)) → Datum
  Object : (number : Option ℕ) → Datum

abbrev pub object_of : Option Ref → Option ℕ
object_of None = None
object_of (Some r) = Some r.id

abbrev pub datum_of : Value → Datum
datum_of (OfNum n) = Number n.kind n.value
datum_of (OfBool b) = Truth b
datum_of (OfText t) = Letters t
datum_of (OfRef r) = Object (object_of r)

abbrev pub shape_of : Datum → Shape
shape_of (Number kind value) = NumShape kind
shape_of (Truth holds) = BoolShape
shape_of (Letters units) = TextShape
shape_of (Object number) = RefShape

-- what a local holds before a value is stored there
abbrev pub default_of : Shape → Datum
default_of (NumShape kind) = Number kind (pos 0)
default_of BoolShape = Truth false
default_of TextShape = Letters None
default_of RefShape = Object None

-- Nothing as a text is empty (Visual Basic Language Specification 11.0, 11.15)
abbrev pub units_of : Option (List ℕ) → List ℕ
units_of None = []
units_of (Some units) = units
