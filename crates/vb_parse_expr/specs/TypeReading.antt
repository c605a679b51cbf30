-- How the names of types are read: private steps on lists, which the code equals.
use Rattle.std.specs.Prelude.{◌≡◌, ℕ, zero, suc, List, [], ◌∷◌, ◌++◌, length, Option, Some, None, Result, Ok, Err}
use Rattle.vb_text.specs.declared.names.Name.{Name}
use Rattle.vb_syntax.specs.declared.{tokens.Token.Token, types.{BuiltInTypeName.BuiltInTypeName, SimpleTypeName.SimpleTypeName, TypeName.TypeName}}
use Rattle.vb_syntax.specs.declared.types.SimpleTypeName.TheVariants as simple
use Rattle.vb_syntax.specs.declared.types.TypeName.TheVariants as type_name
use Rattle.vb_parse_expr.specs.{declared.{fault.Fault.{Fault, TheVariants.{Memory, Grammar}}, types.{OpenName.OpenName, TypeState.TypeState}}, Words.{name_of, type_of}, Types.qualified_by, Reading.{after_opening, after_closing, after_comma, after_dot, after_of}}
use Rattle.vb_parse_expr.specs.declared.types.TypeState.TheVariants as at

abbrev pub Read : Type 0 → Type 0
Read A = Option (A × List Token)

abbrev pub and_then : {A B : Type 0} → Read A → (A → List Token → Option B) → Option B
and_then None f = None
and_then (Some p) f = f p.0 p.1

abbrev pub behind : {B : Type 0} → Option (List Token) → (List Token → Option B) → Option B
behind None f = None
behind (Some ts) f = f ts

-- what a function of the code returned, unless memory ran out
abbrev pub Fails : {B : Type 0} → Fault → Option B → Type 0
Fails Memory read = Unit {0}
Fails Grammar read = read ≡ None

abbrev pub Gives : {X B : Type 0} → (X → B) → Result X Fault → Option B → Type 0
Gives view (Ok x) read = read ≡ Some (view x)
Gives view (Err f) read = Fails f read

-- the last of a list, and those before it
abbrev pub popped_behind : {A : Type 0} → A → Option (List A × A) → Option (List A × A)
popped_behind x None = Some ([], x)
popped_behind x (Some p) = Some (x ∷ p.0, p.1)

unfoldable pub popped : {A : Type 0} → List A → Option (List A × A)
popped [] = None
popped (x ∷ xs) = popped_behind x (popped xs)

abbrev pub name_at : List Token → Option Name → Read Name
name_at ts None = None
name_at ts (Some n) = Some (n, ts)

unfoldable pub read_name : List Token → Read Name
read_name [] = None
read_name (t ∷ ts) = name_at ts (name_of t)

-- names with dots between them; the loop makes at most so many turns
abbrev pub names_at : (List Name → List Token → Read (List Name)) → List Name → List Token → Option (List Token) → Read (List Name)
names_at go ns ts None = Some (ns, ts)
names_at go ns ts (Some rest) = go ns rest

unfoldable pub names : ℕ → List Name → List Token → Read (List Name)
names zero ns ts = None
names (suc k) ns ts = and_then (read_name ts) (λ n rest. names_at (names k) (ns ++ n ∷ []) rest (after_dot rest))

unfoldable pub after_opening_of : List Token → Option (List Token)
after_opening_of ts = behind (after_opening ts) after_of

abbrev pub with_array_at : SimpleTypeName → List Token → Option (List Token) → TypeName × List Token
with_array_at x ts None = (type_name.Simple x, ts)
with_array_at x ts (Some rest) = (type_name.Array x, rest)

unfoldable pub with_array : SimpleTypeName → List Token → TypeName × List Token
with_array x ts = with_array_at x ts (behind (after_opening ts) after_closing)

-- STEPS: the names whose arguments are being read, the outer before the inner; then where the reading is, and what is left
abbrev pub TypeStep : Type 0
TypeStep = Option (List OpenName × TypeState × List Token)

abbrev pub open_name : List Name → List TypeName → OpenName
open_name ns xs = record { parts = ns; arguments = xs }

abbrev pub arguments_or_none : List OpenName → List Name → List Token → Option (List Token) → TypeStep
arguments_or_none ws ns ts None = Some (ws, at.Have (qualified_by ns []), ts)
arguments_or_none ws ns ts (Some inner) = Some (ws ++ open_name ns [] ∷ [], at.Want, inner)

abbrev pub word_or_names : List OpenName → Token → List Token → Option BuiltInTypeName → TypeStep
word_or_names ws t ts (Some b) = Some (ws, at.Have (simple.BuiltIn b), ts)
word_or_names ws t ts None = and_then (names (suc (length ts)) [] (t ∷ ts)) (λ ns rest. arguments_or_none ws ns rest (after_opening_of rest))

unfoldable pub want_type : List OpenName → List Token → TypeStep
want_type ws [] = None
want_type ws (t ∷ ts) = word_or_names ws t ts (type_of t)

abbrev pub more_or_closed : List OpenName → OpenName → List TypeName → Option (List Token) → Option (List Token) → TypeStep
more_or_closed ws o xs (Some next) close = Some (ws ++ open_name o.parts xs ∷ [], at.Want, next)
more_or_closed ws o xs None (Some rest) = Some (ws, at.Have (qualified_by o.parts xs), rest)
more_or_closed ws o xs None None = None

abbrev pub argument_read : List OpenName → OpenName → TypeName × List Token → TypeStep
argument_read ws o p = more_or_closed ws o (o.arguments ++ p.0 ∷ []) (after_comma p.1) (after_closing p.1)

unfoldable pub have_type : SimpleTypeName → List Token → OpenName → List OpenName → TypeStep
have_type x ts o ws = argument_read ws o (with_array x ts)

abbrev pub have_at : SimpleTypeName → List Token → List OpenName → Option (List OpenName × OpenName) → TypeStep
have_at x ts ws None = Some (ws, at.Done x, ts)
have_at x ts ws (Some p) = have_type x ts p.1 p.0

unfoldable pub type_step : List OpenName → TypeState → List Token → TypeStep
type_step ws at.Want ts = want_type ws ts
type_step ws (at.Have x) ts = have_at x ts ws (popped ws)
type_step ws (at.Done x) ts = Some (ws, at.Done x, ts)

-- the type that is wanted, or the state before it
abbrev pub finished : TypeState → Result SimpleTypeName TypeState
finished (at.Done x) = Ok x
finished at.Want = Err at.Want
finished (at.Have x) = Err (at.Have x)

abbrev pub TypeRun : Type 0
TypeRun = List OpenName → TypeState → List Token → Read SimpleTypeName

abbrev pub turn_ends : TypeRun → List OpenName → List Token → Result SimpleTypeName TypeState → Read SimpleTypeName
turn_ends go ws ts (Ok x) = Some (x, ts)
turn_ends go ws ts (Err s) = go ws s ts

abbrev pub step_ends : TypeRun → TypeStep → Read SimpleTypeName
step_ends go None = None
step_ends go (Some p) = turn_ends go p.0 p.2 (finished p.1)

unfoldable pub run_types : ℕ → List OpenName → TypeState → List Token → Read SimpleTypeName
run_types zero ws s ts = None
run_types (suc n) ws s ts = step_ends (run_types n) (type_step ws s ts)

-- as many turns as a count of 128 bits has, which is more than there are tokens
abbrev pub most_turns : ℕ
most_turns = 340282366920938463463374607431768211455

-- as many tokens as a slice has at most
abbrev pub most_tokens : ℕ
most_tokens = 18446744073709551615

unfoldable pub read_simple_type : List Token → Read SimpleTypeName
read_simple_type ts = run_types most_turns [] at.Want ts

unfoldable pub read_type : List Token → Read TypeName
read_type ts = and_then (read_simple_type ts) (λ x rest. Some (with_array x rest))

-- the rest of a list of types, up to the parenthesis that closes
abbrev pub listed : (List TypeName → List Token → Read (List TypeName)) → List TypeName → Option (List Token) → Option (List Token) → Read (List TypeName)
listed go xs (Some rest) close = go xs rest
listed go xs None (Some rest) = Some (xs, rest)
listed go xs None None = None

unfoldable pub type_list : ℕ → List TypeName → List Token → Read (List TypeName)
type_list zero xs ts = None
type_list (suc n) xs ts = and_then (read_type ts) (λ x rest. listed (type_list n) (xs ++ x ∷ []) (after_comma rest) (after_closing rest))

abbrev pub list_or_none : List Token → Option (List Token) → Read (List TypeName)
list_or_none ts None = Some ([], ts)
list_or_none ts (Some rest) = type_list (length rest) [] rest

unfoldable pub read_type_arguments : List Token → Read (List TypeName)
read_type_arguments ts = list_or_none ts (after_opening_of ts)
