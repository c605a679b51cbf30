-- What stands at the front of a logical line, and what is said where nothing does.
use Rattle.std.specs.Prelude.{◌≡◌, ℕ, ◌-◌, ◌≤◌, Bool, true, false, ◌||◌, List, [], ◌∷◌, length, take, drop, is_some, Result, Ok, Err, if◌then◌else◌}
use Rattle.vb_syntax.specs.declared.keyword.Keyword.TheVariants as word
use Rattle.vb_syntax.specs.declared.symbol.Symbol.TheVariants as sign
use Rattle.vb_syntax.specs.declared.{tokens.{Token.Token, Line.Line}, expression.{Expr.Expr, VariableInitializer.VariableInitializer}}
use Rattle.vb_syntax.specs.declared.tokens.Token.TheVariants as token
use Rattle.vb_syntax.specs.declared.expression.VariableInitializer.TheVariants as init
use Rattle.vb_diag.specs.declared.refusal.Refusal.{Refusal}
use Rattle.vb_parse_expr.specs.{declared.error.ParseErr.{ParseErr, TheVariants.{Refused, Memory}}, Words.{name_of, type_of, alone_of, primitive_cast, cast_operator, operator_of, has_unused}, Expressions.{Edge, Spells, SpellsPrimary, SpellsInitializer}}

-- AS MANY TOKENS AS CAN BE

-- A dot and a bracket that opens always go on with a primary: no form of a line has them behind an expression.
abbrev pub goes_on_primary : List Token → Bool
goes_on_primary (token.Symbol sign.Dot ∷ ts) = true
goes_on_primary (token.Symbol sign.OpenParenthesis ∷ ts) = true
goes_on_primary (token.Symbol sign.OpenBrace ∷ ts) = true
goes_on_primary ts = false

-- the tokens that a primary begins with
abbrev pub begins_otherwise : Token → Bool
begins_otherwise (token.Symbol sign.OpenParenthesis) = true
begins_otherwise (token.Symbol sign.Dot) = true
begins_otherwise (token.Keyword word.AddressOf) = true
begins_otherwise (token.Keyword word.TypeOf) = true
begins_otherwise (token.Keyword word.New) = true
begins_otherwise (token.Keyword word.If) = true
begins_otherwise t = false

abbrev pub begins_primary : Token → Bool
begins_primary t = is_some (name_of t) || (is_some (alone_of t) || (is_some (type_of t) || (is_some (primitive_cast t) || (is_some (cast_operator t) || begins_otherwise t))))

-- an operator goes on with an expression
abbrev pub goes_on_operator : List Token → Bool
goes_on_operator [] = false
goes_on_operator (t ∷ ts) = is_some (operator_of t)

abbrev pub goes_on : List Token → Bool
goes_on ts = goes_on_primary ts || goes_on_operator ts

-- The first n tokens spell the expression, and what stands behind them doesn't go on with it.
pub record IsFront (ts : List Token) (x : Expr) (n : ℕ) : Type 0 where
  pub within : n ≤ length ts
  pub strength : ℕ
  pub weakest : ℕ
  pub spells : Spells strength weakest (take n ts) x
  pub over : goes_on (drop n ts) ≡ false

-- a primary, as the target of an assignment and a call are
pub record IsPrimaryFront (ts : List Token) (x : Expr) (n : ℕ) : Type 0 where
  pub within : n ≤ length ts
  pub edge : Edge
  pub spells : SpellsPrimary edge (take n ts) x
  pub over : goes_on_primary (drop n ts) ≡ false

-- nothing goes on with braces
abbrev pub goes_on_initializer : VariableInitializer → List Token → Bool
goes_on_initializer (init.Expression x) ts = goes_on ts
goes_on_initializer i ts = false

pub record IsInitializerFront (ts : List Token) (i : VariableInitializer) (n : ℕ) : Type 0 where
  pub within : n ≤ length ts
  pub spells : SpellsInitializer (take n ts) i
  pub over : goes_on_initializer i (drop n ts) ≡ false

-- ANSWERS: what is found, with the place behind it in the line, or the refusal

-- the rule against a line that isn't of the grammar: 32 where it holds a reserved word that the grammar doesn't use
abbrev pub line_rule : List Token → ℕ
line_rule ts = if has_unused ts then 32 else 30

-- the line is refused at its number
abbrev pub IsRefusalOf : Line → Refusal → Type 0
IsRefusalOf line r = (r.rule ≡ line_rule line.tokens) × (r.file ≡ line.file) × (r.line ≡ line.number)

module _ {X : Type 0} (IsAtFront : List Token → X → ℕ → Type 0) where
  abbrev pub Answers : Line → ℕ → Result (X × ℕ) ParseErr → Type 0
  Answers line from (Ok found) = (from ≤ found.1) × IsAtFront (drop from line.tokens) found.0 (found.1 - from)
  Answers line from (Err (Refused r)) = ((x : X) (n : ℕ) → IsAtFront (drop from line.tokens) x n → ⊥) × IsRefusalOf line r
  Answers line from (Err Memory) = Unit {0}
