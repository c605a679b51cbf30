-- What is said of the tokens of a line: what they spell, or the rule against a line that isn't of the grammar.
use Rattle.std.specs.Prelude.{List, Result, Ok, Err}
use Rattle.vb_syntax.specs.declared.tokens.{Token.Token, Line.Line}
use Rattle.vb_parse_expr.specs.{declared.error.ParseErr.{ParseErr, TheVariants.{Refused, Memory}}, Fronts.IsRefusalOf}

-- what these tokens of the line spell, or that they spell nothing
module _ {X : Type 0} (IsSpelled : List Token → X → Type 0) (line : Line) (ts : List Token) where
  abbrev pub Tells : Result X ParseErr → Type 0
  Tells (Ok x) = IsSpelled ts x
  Tells (Err (Refused r)) = ((x : X) → IsSpelled ts x → ⊥) × IsRefusalOf line r
  Tells (Err Memory) = Unit {0}
