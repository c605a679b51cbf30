-- What the private parts of the public calls return, which the code equals.
use Rattle.std.specs.Prelude.{◌≡◌, ℕ, ◌-◌, List, [], length, Some, None, Result, Ok, Err}
use Rattle.vb_syntax.specs.declared.{tokens.{Token.Token, Line.Line}, expression.{Expr.Expr, VariableInitializer.VariableInitializer}}
use Rattle.vb_syntax.specs.declared.expression.VariableInitializer.TheVariants as init
use Rattle.vb_parse_expr.specs.{declared.{error.ParseErr.{ParseErr, TheVariants.{Refused, Memory}}, fault.Fault.Fault}, Fronts.IsRefusalOf, TypeReading.{Read, most_turns}, MachineReading.run}
use Rattle.vb_parse_expr.specs.declared.fault.Fault.TheVariants as fault
use Rattle.vb_parse_expr.specs.declared.pending.Goal.TheVariants as for
use Rattle.vb_parse_expr.specs.declared.machine.State.TheVariants as at

-- the expression that was read, where it wasn't elements in braces
abbrev pub expression_at : List Token → VariableInitializer → Read Expr
expression_at rest (init.Expression x) = Some (x, rest)
expression_at rest i = None

abbrev pub expression_of : Read VariableInitializer → Read Expr
expression_of None = None
expression_of (Some p) = expression_at p.1 p.0

-- what was found with the place behind it in the line, or the refusal of the line
module _ {X R : Type 0} (view : R → List Token) (line : Line) where
  abbrev pub Places : Result (X × R) Fault → Result (X × ℕ) ParseErr → Type 0
  Places (Ok p) (Ok q) = q ≡ (p.0, length line.tokens - length (view p.1))
  Places (Ok p) (Err e) = ⊥
  Places (Err f) (Ok q) = ⊥
  Places (Err fault.Memory) (Err Memory) = Unit {0}
  Places (Err fault.Memory) (Err (Refused r)) = ⊥
  Places (Err fault.Grammar) (Err Memory) = ⊥
  Places (Err fault.Grammar) (Err (Refused r)) = IsRefusalOf line r

-- the expression at the front of tokens, and the tokens behind it
unfoldable pub read_expression : List Token → Read Expr
read_expression ts = expression_of (run for.Expression most_turns [] at.Want ts)
