-- Code as it is seen.
use Rattle.std.specs.Prelude.{ℕ, zero, suc, ◌+◌, Bool, false, ◌||◌, ◌==◌, List, [], ◌∷◌, map, length, Option, Some, None, unwrap_or, slice_get, if◌then◌else◌, codes, bytes_eq}
use Rattle.vb_value.specs.declared.value.Shape.{Shape}
use Rattle.vb_code.specs.declared.{instr.{Instr.Instr, Step.Step}, code.Class.Class}

-- A procedure: its name's text, its locals' shapes, its instructions, and at which places how many statements begin.
pub record Procedure : Type 0 where
  pub name : ℕ
  pub locals : List Shape
  pub body : List Instr
  pub begins : List (ℕ × ℕ)

pub record Code : Type 0 where
  pub texts : List (List ℕ)
  pub classes : List Class
  pub procs : List Procedure
  pub main : ℕ

-- the places from i on at which statements begin, each with their number
abbrev pub begins_from : ℕ → List Step → List (ℕ × ℕ)
begins_from i [] = []
begins_from i (s ∷ ss) = if s.begins == 0 then begins_from (i + 1) ss else (i, s.begins) ∷ begins_from (i + 1) ss

-- how many statements begin at a place
abbrev pub begins_at : List (ℕ × ℕ) → ℕ → ℕ
begins_at [] place = 0
begins_at (b ∷ bs) place = if b.0 == place then b.1 else begins_at bs place

abbrev pub procedure_of : ℕ → List Shape → List Step → Procedure
procedure_of name locals steps = record { name = name; locals = locals; body = map (λ s. s.instr) steps; begins = begins_from 0 steps }

abbrev pub code_with : List (List ℕ) → List Class → List Procedure → ℕ → Code
code_with texts classes procs main = record { texts = texts; classes = classes; procs = procs; main = main }

-- Main, where there is one
abbrev pub main_of : Code → Option Procedure
main_of c = slice_get c.procs c.main

abbrev pub body_in : Option Procedure → List Instr
body_in None = []
body_in (Some p) = p.body

abbrev pub begins_in : Option Procedure → List (ℕ × ℕ)
begins_in None = []
begins_in (Some p) = p.begins

abbrev pub locals_in : Option Procedure → List Shape
locals_in None = []
locals_in (Some p) = p.locals

-- Main's instructions, where its statements begin, and the shapes of its locals
abbrev pub body_of : Code → List Instr
body_of c = body_in (main_of c)

abbrev pub begins_of : Code → List (ℕ × ℕ)
begins_of c = begins_in (main_of c)

abbrev pub locals_of : Code → List Shape
locals_of c = locals_in (main_of c)

abbrev pub text_at : List (List ℕ) → ℕ → List ℕ
text_at texts i = unwrap_or (slice_get texts i) []

-- the number of the first class of a name
abbrev pub class_from : ℕ → List Class → List (List ℕ) → List ℕ → Option ℕ
class_from i [] texts name = None
class_from i (k ∷ ks) texts name = if bytes_eq (text_at texts k.name) name then Some i else class_from (i + 1) ks texts name

abbrev pub class_named : Code → List ℕ → Option ℕ
class_named c name = class_from 0 c.classes c.texts name

abbrev pub name_in : List (List ℕ) → Option Class → List ℕ
name_in texts None = []
name_in texts (Some k) = text_at texts k.name

abbrev pub units_in : Option Class → ℕ
units_in None = 0
units_in (Some k) = k.units

-- the full name of a class, and the heap units of one of its objects
abbrev pub class_name : Code → ℕ → List ℕ
class_name c k = name_in c.texts (slice_get c.classes k)

abbrev pub class_units : Code → ℕ → ℕ
class_units c k = units_in (slice_get c.classes k)

-- the classes that instructions throw by themselves
abbrev pub overflow : List ℕ
overflow = codes "System.OverflowException"

abbrev pub out_of_memory : List ℕ
out_of_memory = codes "System.OutOfMemoryException"

abbrev pub exception : List ℕ
exception = codes "System.Exception"

abbrev pub base_in : Option Class → Option ℕ
base_in None = None
base_in (Some k) = k.base

-- the class, or one that it inherits within n steps, is System.Exception
abbrev pub inherits : Code → ℕ → Option ℕ → Bool
inherits c zero k = false
inherits c (suc n) None = false
inherits c (suc n) (Some k) = bytes_eq (class_name c k) exception || inherits c n (base_in (slice_get c.classes k))

-- the class of a name that can be thrown: the first of that name, where it is under System.Exception
abbrev pub throwable : Code → List ℕ → Option ℕ
throwable c name = if inherits c (length c.classes) (class_named c name) then class_named c name else None
