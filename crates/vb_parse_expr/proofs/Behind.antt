-- What a step of the reading does behind an operand, and behind elements in braces.
use Rattle.std.proofs.Common.{◌≡◌, ℕ, Bool, true, false, ◌||◌, List, [], ◌∷◌, ◌++◌, length, Option, Some, None, is_some, refl, ap, ◌∙◌}
use Rattle.vb_text.specs.declared.names.Name.{Name}
use Rattle.vb_syntax.specs.declared.{keyword.Keyword.Keyword, symbol.Symbol.Symbol, tokens.Token.Token, types.TypeName.TypeName, expression.{BinaryOperator.BinaryOperator, Expr.Expr, VariableInitializer.VariableInitializer}}
use Rattle.vb_syntax.specs.declared.keyword.Keyword.TheVariants as word
use Rattle.vb_syntax.specs.declared.symbol.Symbol.TheVariants as sign
use Rattle.vb_syntax.specs.declared.tokens.Token.TheVariants as token
use Rattle.vb_syntax.specs.declared.expression.Expr.TheVariants as expr
use Rattle.vb_syntax.specs.declared.expression.VariableInitializer.TheVariants as init
use Rattle.vb_parse_expr.specs.{declared.pending.{Pending.Pending, Goal.Goal}, Words.{opening, closing, dot, name_of, sign_between, operator_of}, Fronts.{goes_on_primary, goes_on_operator, goes_on}, Reading.{after_opening, after_closing, after_opening_brace, after_dot, after_is}, TypeReading.{and_then, popped, name_at, read_name, read_type_arguments, read_type}, MachineReading.{last_wants_primary, wants_primary, called, primary, behind_at, behind_primary, operator_at, operator_first, operand_at, operand, joined, closed_off, settled, weakest, close_at, close, close_with, braces_at, braces, element, step}}
use Rattle.vb_parse_expr.specs.declared.pending.Pending.TheVariants as wait
use Rattle.vb_parse_expr.specs.declared.pending.Goal.TheVariants as for
use Rattle.vb_parse_expr.specs.declared.machine.State.TheVariants as at
use Rattle.vb_parse_expr.proofs.Lists.{popped_append}

-- what is left of an operand when an operator of strength s ends those before it
abbrev pub settle : ℕ → List Pending → Expr → List Pending × Expr
settle s ws x = settled s (length ws) ws x

left_false : (a b : Bool) → (a || b) ≡ false → a ≡ false
left_false true b e = e
left_false false b e = refl

right_false : (a b : Bool) → (a || b) ≡ false → b ≡ false
right_false true b e = absurd cc
right_false false b e = e

operand_at_none : (goal : Goal) (ws : List Pending) (x : Expr) (ts : List Token) → last_wants_primary goal None ≡ false
    → behind_at goal x ts ws None ≡ operand x ts ws
operand_at_none for.Primary ws x ts stands = absurd cc
operand_at_none goal ws x ts stands = refl

module _ (goal : Goal) (ws : List Pending) (x : Expr) where
  pub member_behind_step : {n : Name} {args : List TypeName} {rest : List Token} (t : Token) (us : List Token) → name_of t ≡ Some n
      → read_type_arguments us ≡ Some (args, rest)
      → step goal ws (at.Primary x) (dot ∷ t ∷ us) ≡ Some (ws, at.Primary (expr.MemberAccess x n args), rest)
  unfolding step primary after_dot read_name
  member_behind_step {n = n} t us e read =
      ap (λ n. and_then (name_at us n) (λ n after. and_then (read_type_arguments after) (λ args rest'. Some (ws, at.Primary (expr.MemberAccess x n args), rest')))) e
      ∙ ap (λ r. and_then r (λ args rest'. Some (ws, at.Primary (expr.MemberAccess x n args), rest'))) read

  pub empty_call_step : (ts : List Token) → step goal ws (at.Primary x) (opening ∷ closing ∷ ts) ≡ Some (ws, at.Primary (expr.Invocation x []), ts)
  unfolding step primary after_dot after_opening after_closing
  empty_call_step ts = refl

  pub call_step : (ts : List Token) → after_closing ts ≡ None
      → step goal ws (at.Primary x) (opening ∷ ts) ≡ Some (ws ++ wait.Arguments x [] ∷ [], at.Want, ts)
  unfolding step primary after_dot after_opening
  call_step ts e = ap (called ws x ts) e

  -- nothing goes on with the primary
  over_at_sign : (s : Symbol) (ts : List Token) → goes_on_primary (token.Symbol s ∷ ts) ≡ false
      → step goal ws (at.Primary x) (token.Symbol s ∷ ts) ≡ behind_primary goal x (token.Symbol s ∷ ts) ws
  unfolding step primary after_dot after_opening after_opening_brace
  over_at_sign sign.Dot ts over = absurd cc
  over_at_sign sign.OpenParenthesis ts over = absurd cc
  over_at_sign sign.OpenBrace ts over = absurd cc
  over_at_sign s ts over = refl

  pub over_step : (ts : List Token) → goes_on_primary ts ≡ false → step goal ws (at.Primary x) ts ≡ behind_primary goal x ts ws
  unfolding step primary after_dot after_opening after_opening_brace
  over_step [] over = refl
  over_step (token.Symbol s ∷ ts) over = over_at_sign s ts over
  over_step (t ∷ ts) over = refl

  pub test_behind : {a : TypeName} {rest : List Token} (us : List Token) → read_type us ≡ Some (a, rest)
      → step goal (ws ++ wait.TypeOf ∷ []) (at.Primary x) (token.Keyword word.Is ∷ us) ≡ Some (ws, at.Primary (expr.TypeOf x a), rest)
  unfolding step primary after_dot after_opening after_opening_brace behind_primary after_is
  test_behind us read =
      ap (behind_at goal x (token.Keyword word.Is ∷ us) (ws ++ wait.TypeOf ∷ [])) (popped_append ws wait.TypeOf)
      ∙ ap (λ r. and_then r (λ a rest'. Some (ws, at.Primary (expr.TypeOf x a), rest'))) read

  operand_at_last : (ts : List Token) (last : Option (List Pending × Pending)) → last_wants_primary goal last ≡ false
      → behind_at goal x ts ws last ≡ operand x ts ws
  operand_at_last ts None stands = operand_at_none goal ws x ts stands
  operand_at_last ts (Some (vs, wait.AddressOf)) stands = absurd cc
  operand_at_last ts (Some (vs, wait.TypeOf)) stands = absurd cc
  operand_at_last ts (Some (vs, p)) stands = refl

  pub operand_behind : (ts : List Token) → wants_primary goal ws ≡ false → behind_primary goal x ts ws ≡ operand x ts ws
  unfolding behind_primary wants_primary
  operand_behind ts stands = operand_at_last ts (popped ws) stands

  pub operator_behind : {o : BinaryOperator} {s : ℕ} (t : Token) (ts : List Token) → operator_of t ≡ Some (o, s)
      → operand x (t ∷ ts) ws ≡ joined o s ts (settle s ws x)
  unfolding operand operator_first
  operator_behind t ts e = ap (λ o. operand_at x (t ∷ ts) ws (operator_at ts o)) e

pub address_behind : (goal : Goal) (ws : List Pending) (x : Expr) (ts : List Token) → goes_on_primary ts ≡ false
    → step goal (ws ++ wait.AddressOf ∷ []) (at.Primary x) ts ≡ Some (ws, at.Primary (expr.AddressOf x), ts)
unfolding behind_primary
address_behind goal ws x ts over =
    over_step goal (ws ++ wait.AddressOf ∷ []) x ts over
    ∙ ap (behind_at goal x ts (ws ++ wait.AddressOf ∷ [])) (popped_append ws wait.AddressOf)

no_operator : (o : Option (BinaryOperator × ℕ)) (ts : List Token) → is_some o ≡ false → operator_at ts o ≡ None
no_operator None ts over = refl
no_operator (Some p) ts over = absurd cc

no_operator_first : (ts : List Token) → goes_on_operator ts ≡ false → operator_first ts ≡ None
unfolding operator_first
no_operator_first [] over = refl
no_operator_first (t ∷ ts) over = no_operator (operator_of t) ts over

pub operand_over : (ws : List Pending) (x : Expr) (ts : List Token) → goes_on_operator ts ≡ false → operand x ts ws ≡ closed_off ts (settle weakest ws x)
unfolding operand
operand_over ws x ts over = ap (operand_at x ts ws) (no_operator_first ts over)

-- an operator doesn't go on with a primary
operator_sign : {p : BinaryOperator × ℕ} (s : Symbol) (ts : List Token) → sign_between s ≡ Some p → goes_on_primary (token.Symbol s ∷ ts) ≡ false
operator_sign sign.Dot ts e = absurd cc
operator_sign sign.OpenParenthesis ts e = absurd cc
operator_sign sign.OpenBrace ts e = absurd cc
operator_sign s ts e = refl

pub operator_over : {p : BinaryOperator × ℕ} (t : Token) (ts : List Token) → operator_of t ≡ Some p → goes_on_primary (t ∷ ts) ≡ false
operator_over (token.Symbol s) ts e = operator_sign s ts e
operator_over t ts e = refl

pub primary_over : (ts : List Token) → goes_on ts ≡ false → goes_on_primary ts ≡ false
primary_over ts over = left_false (goes_on_primary ts) (goes_on_operator ts) over

pub operator_ends : (ts : List Token) → goes_on ts ≡ false → goes_on_operator ts ≡ false
operator_ends ts over = right_false (goes_on_primary ts) (goes_on_operator ts) over

-- what waits takes the expression
pub close_last : (ws : List Pending) (p : Pending) (x : Expr) (ts : List Token) → close x ts (ws ++ p ∷ []) ≡ close_with x ts ws p
unfolding close
close_last ws p x ts = ap (close_at x ts (ws ++ p ∷ [])) (popped_append ws p)

pub close_none : (x : Expr) (ts : List Token) → close x ts [] ≡ Some ([], at.Done (init.Expression x), ts)
unfolding close popped
close_none x ts = refl

pub braces_last : (goal : Goal) (ws : List Pending) (p : Pending) (is : List VariableInitializer) (ts : List Token)
    → step goal (ws ++ p ∷ []) (at.Braces is) ts ≡ element (init.Elements is) ts p ws
unfolding step braces
braces_last goal ws p is ts = ap (braces_at is ts (ws ++ p ∷ [])) (popped_append ws p)

pub braces_none : (goal : Goal) (is : List VariableInitializer) (ts : List Token) → step goal [] (at.Braces is) ts ≡ Some ([], at.Done (init.Elements is), ts)
unfolding step braces popped
braces_none goal is ts = refl
