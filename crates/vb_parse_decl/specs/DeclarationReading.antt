-- How the parts of declarations are read from left to right: private steps on lists, which the code equals.
use Rattle.std.specs.Prelude.{ℕ, zero, suc, List, [], ◌∷◌, ◌++◌, length, Option, Some, None}
use Rattle.vb_text.specs.declared.names.Name.{Name}
use Rattle.vb_syntax.specs.declared.keyword.Keyword.TheVariants as word
use Rattle.vb_syntax.specs.declared.symbol.Symbol.TheVariants as sign
use Rattle.vb_syntax.specs.declared.{tokens.Token.Token, types.{TypeName.TypeName, TypeParameter.TypeParameter, TypeConstraint.TypeConstraint}, declaration.{NameModifier.NameModifier, PassedBy.PassedBy, Parameter.Parameter, MethodSignature.MethodSignature}}
use Rattle.vb_syntax.specs.declared.tokens.Token.TheVariants as token
use Rattle.vb_syntax.specs.declared.types.TypeConstraint.TheVariants as constraint
use Rattle.vb_syntax.specs.declared.declaration.NameModifier.TheVariants as name_modifier
use Rattle.vb_syntax.specs.declared.declaration.PassedBy.TheVariants as passed
use Rattle.vb_parse_expr.specs.{Reading.{after_opening, after_closing, after_opening_brace, after_closing_brace, after_comma}, TypeReading.{Read, and_then, behind, after_opening_of, read_name, read_type}}

-- what stands behind a token, where it comes first
unfoldable pub after_as : List Token → Option (List Token)
after_as [] = None
after_as (token.Keyword word.As ∷ ts) = Some ts
after_as (t ∷ ts) = None

unfoldable pub after_implements : List Token → Option (List Token)
after_implements [] = None
after_implements (token.Keyword word.Implements ∷ ts) = Some ts
after_implements (t ∷ ts) = None

unfoldable pub after_equal : List Token → Option (List Token)
after_equal [] = None
after_equal (token.Symbol sign.Equal ∷ ts) = Some ts
after_equal (t ∷ ts) = None

-- LISTS

-- a comma, and more parts; or the list ends
abbrev pub listed_on : {X : Type 0} → (List X → List Token → Read (List X)) → List X → List Token → Option (List Token) → Read (List X)
listed_on go xs ts None = Some (xs, ts)
listed_on go xs ts (Some next) = go xs next

-- the loop makes at most so many turns
unfoldable pub listed : {X : Type 0} → (List Token → Read X) → ℕ → List X → List Token → Read (List X)
listed read zero xs ts = None
listed read (suc n) xs ts = and_then (read ts) (λ x rest. listed_on (listed read n) (xs ++ x ∷ []) rest (after_comma rest))

unfoldable pub read_list : {X : Type 0} → (List Token → Read X) → List Token → Read (List X)
read_list read ts = listed read (length ts) [] ts

-- what was read, with a token behind it
abbrev pub closed : {X : Type 0} → (List Token → Option (List Token)) → Read X → Read X
closed after read = and_then read (λ x rest. behind (after rest) (λ us. Some (x, us)))

-- TYPE PARAMETERS

unfoldable pub constraint_word : List Token → Read TypeConstraint
constraint_word [] = None
constraint_word (token.Keyword word.Class ∷ ts) = Some (constraint.Class, ts)
constraint_word (token.Keyword word.New ∷ ts) = Some (constraint.New, ts)
constraint_word (t ∷ ts) = None

abbrev pub word_or_type : List Token → Read TypeConstraint → Read TypeConstraint
word_or_type ts (Some p) = Some p
word_or_type ts None = and_then (read_type ts) (λ a rest. Some (constraint.Type a, rest))

unfoldable pub read_constraint : List Token → Read TypeConstraint
read_constraint ts = word_or_type ts (constraint_word ts)

abbrev pub one_or_braced : List Token → Option (List Token) → Read (List TypeConstraint)
one_or_braced ts None = and_then (read_constraint ts) (λ c rest. Some (c ∷ [], rest))
one_or_braced ts (Some us) = closed after_closing_brace (read_list read_constraint us)

unfoldable pub read_constraints : List Token → Read (List TypeConstraint)
read_constraints ts = one_or_braced ts (after_opening_brace ts)

abbrev pub constraints_behind : List Token → Option (List Token) → Read (List TypeConstraint)
constraints_behind ts None = Some ([], ts)
constraints_behind ts (Some us) = read_constraints us

abbrev pub type_parameter : Name → List TypeConstraint → TypeParameter
type_parameter n cs = record { name = n; constraints = cs }

unfoldable pub read_type_parameter : List Token → Read TypeParameter
read_type_parameter ts = and_then (read_name ts) (λ n us. and_then (constraints_behind us (after_as us)) (λ cs rest. Some (type_parameter n cs, rest)))

abbrev pub type_parameters_behind : List Token → Option (List Token) → Read (List TypeParameter)
type_parameters_behind ts None = Some ([], ts)
type_parameters_behind ts (Some us) = closed after_closing (read_list read_type_parameter us)

unfoldable pub read_type_parameters : List Token → Read (List TypeParameter)
read_type_parameters ts = type_parameters_behind ts (after_opening_of ts)

-- PARAMETERS

unfoldable pub passed_by : List Token → PassedBy × List Token
passed_by [] = (passed.Value, [])
passed_by (token.Keyword word.ByVal ∷ ts) = (passed.Value, ts)
passed_by (token.Keyword word.ByRef ∷ ts) = (passed.Reference, ts)
passed_by (t ∷ ts) = (passed.Value, t ∷ ts)

abbrev pub array_or_plain : List Token → Option (List Token) → NameModifier × List Token
array_or_plain ts None = (name_modifier.Plain, ts)
array_or_plain ts (Some rest) = (name_modifier.Array, rest)

unfoldable pub name_modifier_of : List Token → NameModifier × List Token
name_modifier_of ts = array_or_plain ts (behind (after_opening ts) after_closing)

unfoldable pub read_declared : List Token → Read TypeName
read_declared ts = behind (after_as ts) read_type

abbrev pub parameter : PassedBy → Name → NameModifier → TypeName → Parameter
parameter by n m a = record { passed = by; name = n; modifier = m; declared = a }

abbrev pub parameter_named : PassedBy → Name → NameModifier × List Token → Read Parameter
parameter_named by n m = and_then (read_declared m.1) (λ a rest. Some (parameter by n m.0 a, rest))

abbrev pub parameter_passed : PassedBy × List Token → Read Parameter
parameter_passed p = and_then (read_name p.1) (λ n us. parameter_named p.0 n (name_modifier_of us))

unfoldable pub read_parameter : List Token → Read Parameter
read_parameter ts = parameter_passed (passed_by ts)

-- what stands behind the parenthesis that opens
abbrev pub none_or_listed : List Token → Option (List Token) → Read (List Parameter)
none_or_listed ts None = closed after_closing (read_list read_parameter ts)
none_or_listed ts (Some rest) = Some ([], rest)

unfoldable pub read_opened : List Token → Read (List Parameter)
read_opened ts = none_or_listed ts (after_closing ts)

unfoldable pub read_written : List Token → Read (List Parameter)
read_written ts = behind (after_opening ts) read_opened

abbrev pub parameters_behind : List Token → Option (List Token) → Read (List Parameter)
parameters_behind ts None = Some ([], ts)
parameters_behind ts (Some us) = read_opened us

unfoldable pub read_parameters : List Token → Read (List Parameter)
read_parameters ts = parameters_behind ts (after_opening ts)

-- SIGNATURES

abbrev pub signature : Name → List TypeParameter → List Parameter → MethodSignature
signature n qs ps = record { name = n; type_parameters = qs; parameters = ps }

unfoldable pub read_signature : List Token → Read MethodSignature
read_signature ts = and_then (read_name ts) (λ n us. and_then (read_type_parameters us) (λ qs vs. and_then (read_parameters vs) (λ ps rest. Some (signature n qs ps, rest))))

abbrev pub result_behind : List Token → Option (List Token) → Read (Option TypeName)
result_behind ts None = Some (None, ts)
result_behind ts (Some us) = and_then (read_type us) (λ a rest. Some (Some a, rest))

unfoldable pub read_result : List Token → Read (Option TypeName)
read_result ts = result_behind ts (after_as ts)
