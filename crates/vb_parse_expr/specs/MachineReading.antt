-- How an expression is read: private steps on lists, which the code equals.
use Rattle.std.specs.Prelude.{◌≡◌, ℕ, zero, suc, Bool, true, false, List, [], ◌∷◌, ◌++◌, length, Option, Some, None, if◌then◌else◌, Result, Ok, Err, nat_lt}
use Rattle.vb_text.specs.declared.names.Name.{Name}
use Rattle.vb_syntax.specs.{declared.{keyword.Keyword.Keyword, symbol.Symbol.Symbol, tokens.Token.Token, types.{BuiltInTypeName.BuiltInTypeName, PrimitiveTypeName.PrimitiveTypeName, SimpleTypeName.SimpleTypeName}, expression.{UnaryOperator.UnaryOperator, BinaryOperator.BinaryOperator, CastOperator.CastOperator, Expr.Expr, VariableInitializer.VariableInitializer}}, Literals.integer}
use Rattle.vb_syntax.specs.declared.keyword.Keyword.TheVariants as word
use Rattle.vb_syntax.specs.declared.symbol.Symbol.TheVariants as sign
use Rattle.vb_syntax.specs.declared.tokens.Token.TheVariants as token
use Rattle.vb_syntax.specs.declared.expression.Expr.TheVariants as e
use Rattle.vb_syntax.specs.declared.expression.VariableInitializer.TheVariants as init
use Rattle.vb_parse_expr.specs.{declared.{pending.{Pending.Pending, Goal.Goal}, fault.Fault.{Fault, TheVariants.Memory}, machine.State.State, operators.Settlement.{Settlement, TheVariants.{Whole, Waits}}}, Words.{type_of, primitive_cast, cast_operator, prefix_of, operator_of}, Reading.{after_opening, after_closing, after_opening_brace, after_closing_brace, after_comma, after_dot, after_is}, TypeReading.{Read, and_then, behind, popped, read_name, read_type_arguments, read_simple_type, read_type}}
use Rattle.vb_parse_expr.specs.declared.pending.Pending.TheVariants as wait
use Rattle.vb_parse_expr.specs.declared.pending.Goal.TheVariants as for
use Rattle.vb_parse_expr.specs.declared.machine.State.TheVariants as at

-- what waits, the outer before the inner; then where the reading is, and what is left
abbrev pub Step : Type 0
Step = Option (List Pending × State × List Token)

-- WHERE AN OPERAND IS TO COME

-- only a primary may stand here
abbrev pub last_wants_primary : Goal → Option (List Pending × Pending) → Bool
last_wants_primary for.Primary None = true
last_wants_primary goal None = false
last_wants_primary goal (Some (ws, wait.AddressOf)) = true
last_wants_primary goal (Some (ws, wait.TypeOf)) = true
last_wants_primary goal (Some p) = false

unfoldable pub wants_primary : Goal → List Pending → Bool
wants_primary goal ws = last_wants_primary goal (popped ws)

-- braces may stand here
abbrev pub last_wants_element : Goal → Option (List Pending × Pending) → Bool
last_wants_element for.Initializer None = true
last_wants_element goal None = false
last_wants_element goal (Some (ws, wait.Array a b is)) = true
last_wants_element goal (Some (ws, wait.Elements is)) = true
last_wants_element goal (Some p) = false

unfoldable pub wants_element : Goal → List Pending → Bool
wants_element goal ws = last_wants_element goal (popped ws)

abbrev pub elements_at : List Pending → List Token → Option (List Token) → Step
elements_at ws ts (Some rest) = Some (ws, at.Braces [], rest)
elements_at ws ts None = Some (ws ++ wait.Elements [] ∷ [], at.Want, ts)

unfoldable pub elements : List Pending → List Token → Step
elements ws ts = elements_at ws ts (after_closing_brace ts)

-- a new object, or a new array where a brace stands behind the parentheses
abbrev pub array_at : List Pending → SimpleTypeName → Option Expr → List Token → Option (List Token) → Step
array_at ws a b ts (Some rest) = Some (ws, at.Primary (e.ArrayCreation a b []), rest)
array_at ws a b ts None = Some (ws ++ wait.Array a b [] ∷ [], at.Want, ts)

-- the bound of a new array: at most one expression
abbrev pub bound_of : List Expr → Option (Option Expr)
bound_of [] = Some None
bound_of (x ∷ []) = Some (Some x)
bound_of (x ∷ y ∷ xs) = None

abbrev pub array_or_not : List Pending → SimpleTypeName → List Token → Option (Option Expr) → Step
array_or_not ws a ts None = None
array_or_not ws a ts (Some b) = array_at ws a b ts (after_closing_brace ts)

abbrev pub bounded : List Pending → SimpleTypeName → List Expr → List Token → Step
bounded ws a xs ts = array_or_not ws a ts (bound_of xs)

abbrev pub created_at : List Pending → SimpleTypeName → List Expr → List Token → Option (List Token) → Step
created_at ws a xs ts None = Some (ws, at.Primary (e.ObjectCreation a xs), ts)
created_at ws a xs ts (Some inner) = bounded ws a xs inner

unfoldable pub created : List Pending → SimpleTypeName → List Expr → List Token → Step
created ws a xs ts = created_at ws a xs ts (after_opening_brace ts)

abbrev pub arguments_or_created : List Pending → SimpleTypeName → List Token → Option (List Token) → Step
arguments_or_created ws a inner (Some rest) = created ws a [] rest
arguments_or_created ws a inner None = Some (ws ++ wait.Creation a [] ∷ [], at.Want, inner)

abbrev pub creation_at : List Pending → SimpleTypeName → List Token → Option (List Token) → Step
creation_at ws a ts None = Some (ws, at.Primary (e.ObjectCreation a []), ts)
creation_at ws a ts (Some inner) = arguments_or_created ws a inner (after_closing inner)

unfoldable pub creation : List Pending → List Token → Step
creation ws ts = and_then (read_simple_type ts) (λ a rest. creation_at ws a rest (after_opening rest))

-- a cast, `If`, or the member of a type that has a reserved word
abbrev pub conditional_word : Token → Option Pending
conditional_word (token.Keyword word.If) = Some wait.Test
conditional_word t = None

abbrev pub call_at : Token → Option PrimitiveTypeName → Option CastOperator → Option Pending
call_at t (Some a) o = Some (wait.Conversion a)
call_at t None (Some o) = Some (wait.Cast o)
call_at t None None = conditional_word t

unfoldable pub call_of : Token → Option Pending
call_of t = call_at t (primitive_cast t) (cast_operator t)

abbrev pub call_begun : List Pending → Option Pending → List Token → Step
call_begun ws None inner = None
call_begun ws (Some p) inner = Some (ws ++ p ∷ [], at.Want, inner)

abbrev pub word_at : List Pending → Token → List Token → Option BuiltInTypeName → Step
word_at ws t ts (Some b) = behind (after_dot ts) (λ rest. and_then (read_name rest) (λ n rest'. Some (ws, at.Primary (e.BuiltInMemberAccess b n), rest')))
word_at ws t ts None = behind (after_opening ts) (λ inner. call_begun ws (call_of t) inner)

unfoldable pub begin_word : List Pending → Token → List Token → Step
begin_word ws t ts = word_at ws t ts (type_of t)

unfoldable pub begin_sign : List Pending → Symbol → List Token → Step
begin_sign ws sign.OpenParenthesis ts = Some (ws ++ wait.Parenthesis ∷ [], at.Want, ts)
begin_sign ws sign.Dot ts = and_then (read_name ts) (λ n rest. Some (ws, at.Primary (e.WithMemberAccess n), rest))
begin_sign ws s ts = None

abbrev pub named : List Pending → Name → List Token → Step
named ws n ts = and_then (read_type_arguments ts) (λ args rest. Some (ws, at.Primary (e.SimpleName n args), rest))

unfoldable pub begin : List Pending → Token → List Token → Step
begin ws (token.Name n) ts = named ws n ts
begin ws (token.EscapedName n) ts = named ws n ts
begin ws (token.Integer l) ts = Some (ws, at.Primary (e.Integer (integer l)), ts)
begin ws (token.Text t) ts = Some (ws, at.Primary (e.Text t), ts)
begin ws (token.Char u) ts = Some (ws, at.Primary (e.Char u), ts)
begin ws (token.Symbol s) ts = begin_sign ws s ts
begin ws (token.Keyword word.True) ts = Some (ws, at.Primary e.True, ts)
begin ws (token.Keyword word.False) ts = Some (ws, at.Primary e.False, ts)
begin ws (token.Keyword word.Nothing) ts = Some (ws, at.Primary e.Nothing, ts)
begin ws (token.Keyword word.Me) ts = Some (ws, at.Primary e.Me, ts)
begin ws (token.Keyword word.MyBase) ts = Some (ws, at.Primary e.MyBase, ts)
begin ws (token.Keyword word.AddressOf) ts = Some (ws ++ wait.AddressOf ∷ [], at.Want, ts)
begin ws (token.Keyword word.TypeOf) ts = Some (ws ++ wait.TypeOf ∷ [], at.Want, ts)
begin ws (token.Keyword word.New) ts = creation ws ts
begin ws (token.Keyword w) ts = begin_word ws (token.Keyword w) ts

abbrev pub braces_or_begin : Goal → List Pending → Token → List Token → Option (List Token) → Step
braces_or_begin goal ws t ts (Some inner) = if wants_element goal ws then elements ws inner else None
braces_or_begin goal ws t ts None = begin ws t ts

abbrev pub prefix_or_begin : Goal → List Pending → Token → List Token → Option (UnaryOperator × ℕ) → Step
prefix_or_begin goal ws t ts (Some p) = if wants_primary goal ws then None else Some (ws ++ wait.Before p.0 p.1 ∷ [], at.Want, ts)
prefix_or_begin goal ws t ts None = braces_or_begin goal ws t ts (after_opening_brace (t ∷ ts))

unfoldable pub want : Goal → List Pending → List Token → Step
want goal ws [] = None
want goal ws (t ∷ ts) = prefix_or_begin goal ws t ts (prefix_of t)

-- BEHIND AN OPERAND

-- the operators that an operator of strength s ends take their operand, the last one first; the loop makes at most so many turns
module _ (s : ℕ) where
  abbrev pub settled_at : (List Pending → Expr → List Pending × Expr) → List Pending → Expr → Option (List Pending × Pending) → List Pending × Expr
  settled_at go all x (Some (ws, wait.Before o own)) = if nat_lt own s then go ws (e.Unary o x) else (all, x)
  settled_at go all x (Some (ws, wait.Between y o own)) = if nat_lt own (suc s) then go ws (e.Binary o y x) else (all, x)
  settled_at go all x p = (all, x)

  -- one operator took its operand, or it waits on with what there is
  abbrev pub Settles : Pending → Expr → Result Settlement Fault → Type 0
  Settles p x (Ok (Whole y)) = (go : List Pending → Expr → List Pending × Expr) (all ws : List Pending) → settled_at go all x (Some (ws, p)) ≡ go ws y
  Settles p x (Ok (Waits q y)) =
      (q ≡ p) × (y ≡ x) × ((go : List Pending → Expr → List Pending × Expr) (all ws : List Pending) → settled_at go all x (Some (ws, p)) ≡ (all, x))
  Settles p x (Err f) = f ≡ Memory

  unfoldable pub settled : ℕ → List Pending → Expr → List Pending × Expr
  settled zero ws x = (ws, x)
  settled (suc n) ws x = settled_at (settled n) ws x (popped ws)

-- BEHIND AN ELEMENT

abbrev pub array_more : List Pending → SimpleTypeName → Option Expr → List VariableInitializer → Option (List Token) → Option (List Token) → Step
array_more ws a b is (Some next) end = Some (ws ++ wait.Array a b is ∷ [], at.Want, next)
array_more ws a b is None (Some rest) = Some (ws, at.Primary (e.ArrayCreation a b is), rest)
array_more ws a b is None None = None

abbrev pub elements_more : List Pending → List VariableInitializer → Option (List Token) → Option (List Token) → Step
elements_more ws is (Some next) end = Some (ws ++ wait.Elements is ∷ [], at.Want, next)
elements_more ws is None (Some rest) = Some (ws, at.Braces is, rest)
elements_more ws is None None = None

unfoldable pub element : VariableInitializer → List Token → Pending → List Pending → Step
element i ts (wait.Array a b is) ws = array_more ws a b (is ++ i ∷ []) (after_comma ts) (after_closing_brace ts)
element i ts (wait.Elements is) ws = elements_more ws (is ++ i ∷ []) (after_comma ts) (after_closing_brace ts)
element i ts p ws = None

abbrev pub braces_at : List VariableInitializer → List Token → List Pending → Option (List Pending × Pending) → Step
braces_at is ts ws None = Some (ws, at.Done (init.Elements is), ts)
braces_at is ts ws (Some p) = element (init.Elements is) ts p.1 p.0

unfoldable pub braces : List VariableInitializer → List Token → List Pending → Step
braces is ts ws = braces_at is ts ws (popped ws)

-- BEHIND AN EXPRESSION

abbrev pub call_more : List Pending → Expr → List Expr → Option (List Token) → Option (List Token) → Step
call_more ws f xs (Some next) end = Some (ws ++ wait.Arguments f xs ∷ [], at.Want, next)
call_more ws f xs None (Some rest) = Some (ws, at.Primary (e.Invocation f xs), rest)
call_more ws f xs None None = None

abbrev pub creation_more : List Pending → SimpleTypeName → List Expr → Option (List Token) → Option (List Token) → Step
creation_more ws a xs (Some next) end = Some (ws ++ wait.Creation a xs ∷ [], at.Want, next)
creation_more ws a xs None (Some rest) = created ws a xs rest
creation_more ws a xs None None = None

abbrev pub closed_as : List Pending → Expr → Option (List Token) → Step
closed_as ws x None = None
closed_as ws x (Some rest) = Some (ws, at.Primary x, rest)

abbrev pub next_part : List Pending → Pending → Option (List Token) → Step
next_part ws p None = None
next_part ws p (Some next) = Some (ws ++ p ∷ [], at.Want, next)

abbrev pub close_with : Expr → List Token → List Pending → Pending → Step
close_with x ts ws wait.Parenthesis = closed_as ws (e.Parenthesized x) (after_closing ts)
close_with x ts ws (wait.Arguments f xs) = call_more ws f (xs ++ x ∷ []) (after_comma ts) (after_closing ts)
close_with x ts ws (wait.Creation a xs) = creation_more ws a (xs ++ x ∷ []) (after_comma ts) (after_closing ts)
close_with x ts ws (wait.Array a b is) = element (init.Expression x) ts (wait.Array a b is) ws
close_with x ts ws (wait.Elements is) = element (init.Expression x) ts (wait.Elements is) ws
close_with x ts ws (wait.Conversion a) = closed_as ws (e.PrimitiveCast a x) (after_closing ts)
close_with x ts ws (wait.Cast o) = behind (after_comma ts) (λ rest. and_then (read_type rest) (λ a rest'. closed_as ws (e.Cast o x a) (after_closing rest')))
close_with x ts ws wait.Test = next_part ws (wait.Then x) (after_comma ts)
close_with x ts ws (wait.Then y) = next_part ws (wait.Else y x) (after_comma ts)
close_with x ts ws (wait.Else y z) = closed_as ws (e.Conditional y z x) (after_closing ts)
close_with x ts ws p = None

abbrev pub close_at : Expr → List Token → List Pending → Option (List Pending × Pending) → Step
close_at x ts ws None = Some (ws, at.Done (init.Expression x), ts)
close_at x ts ws (Some p) = close_with x ts p.0 p.1

unfoldable pub close : Expr → List Token → List Pending → Step
close x ts ws = close_at x ts ws (popped ws)

-- BEHIND A PRIMARY

abbrev pub weakest : ℕ
weakest = 13

abbrev pub operator_at : List Token → Option (BinaryOperator × ℕ) → Option (BinaryOperator × ℕ × List Token)
operator_at ts None = None
operator_at ts (Some p) = Some (p.0, p.1, ts)

unfoldable pub operator_first : List Token → Option (BinaryOperator × ℕ × List Token)
operator_first [] = None
operator_first (t ∷ ts) = operator_at ts (operator_of t)

abbrev pub joined : BinaryOperator → ℕ → List Token → List Pending × Expr → Step
joined o s rest p = Some (p.0 ++ wait.Between p.1 o s ∷ [], at.Want, rest)

abbrev pub closed_off : List Token → List Pending × Expr → Step
closed_off ts p = close p.1 ts p.0

abbrev pub operand_at : Expr → List Token → List Pending → Option (BinaryOperator × ℕ × List Token) → Step
operand_at x ts ws (Some p) = joined p.0 p.1 p.2 (settled p.1 (length ws) ws x)
operand_at x ts ws None = closed_off ts (settled weakest (length ws) ws x)

unfoldable pub operand : Expr → List Token → List Pending → Step
operand x ts ws = operand_at x ts ws (operator_first ts)

abbrev pub behind_at : Goal → Expr → List Token → List Pending → Option (List Pending × Pending) → Step
behind_at goal x ts ws (Some (vs, wait.AddressOf)) = Some (vs, at.Primary (e.AddressOf x), ts)
behind_at goal x ts ws (Some (vs, wait.TypeOf)) = behind (after_is ts) (λ rest. and_then (read_type rest) (λ a rest'. Some (vs, at.Primary (e.TypeOf x a), rest')))
behind_at goal x ts ws (Some p) = operand x ts ws
behind_at for.Primary x ts ws None = Some (ws, at.Done (init.Expression x), ts)
behind_at goal x ts ws None = operand x ts ws

unfoldable pub behind_primary : Goal → Expr → List Token → List Pending → Step
behind_primary goal x ts ws = behind_at goal x ts ws (popped ws)

abbrev pub brace_behind : Goal → Expr → List Token → List Pending → Option (List Token) → Step
brace_behind goal x ts ws (Some rest) = None
brace_behind goal x ts ws None = behind_primary goal x ts ws

abbrev pub called : List Pending → Expr → List Token → Option (List Token) → Step
called ws x inner (Some rest) = Some (ws, at.Primary (e.Invocation x []), rest)
called ws x inner None = Some (ws ++ wait.Arguments x [] ∷ [], at.Want, inner)

abbrev pub call_behind : Goal → Expr → List Token → List Pending → Option (List Token) → Step
call_behind goal x ts ws (Some inner) = called ws x inner (after_closing inner)
call_behind goal x ts ws None = brace_behind goal x ts ws (after_opening_brace ts)

abbrev pub member_behind : Goal → Expr → List Token → List Pending → Option (List Token) → Step
member_behind goal x ts ws (Some rest) =
    and_then (read_name rest) (λ n after. and_then (read_type_arguments after) (λ args rest'. Some (ws, at.Primary (e.MemberAccess x n args), rest')))
member_behind goal x ts ws None = call_behind goal x ts ws (after_opening ts)

unfoldable pub primary : Goal → Expr → List Token → List Pending → Step
primary goal x ts ws = member_behind goal x ts ws (after_dot ts)

-- ALL STEPS

unfoldable pub step : Goal → List Pending → State → List Token → Step
step goal ws at.Want ts = want goal ws ts
step goal ws (at.Primary x) ts = primary goal x ts ws
step goal ws (at.Braces is) ts = braces is ts ws
step goal ws (at.Done i) ts = Some (ws, at.Done i, ts)

-- what has been read, or the state before that
abbrev pub finished : State → Result VariableInitializer State
finished (at.Done i) = Ok i
finished at.Want = Err at.Want
finished (at.Primary x) = Err (at.Primary x)
finished (at.Braces is) = Err (at.Braces is)

abbrev pub Run : Type 0
Run = List Pending → State → List Token → Read VariableInitializer

abbrev pub turn_ends : Run → List Pending → List Token → Result VariableInitializer State → Read VariableInitializer
turn_ends go ws ts (Ok i) = Some (i, ts)
turn_ends go ws ts (Err s) = go ws s ts

abbrev pub step_ends : Run → Step → Read VariableInitializer
step_ends go None = None
step_ends go (Some p) = turn_ends go p.0 p.2 (finished p.1)

unfoldable pub run : Goal → ℕ → List Pending → State → List Token → Read VariableInitializer
run goal zero ws s ts = None
run goal (suc n) ws s ts = step_ends (run goal n) (step goal ws s ts)
