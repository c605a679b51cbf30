-- Parts of the lines of blocks: private definitions, for the clauses of the code's own functions.
use Rattle.std.specs.Prelude.{◌≡◌, ◌⊎◌, ℕ, ◌+◌, ◌-◌, ◌≤◌, Bool, true, false, List, ◌∷◌, length, Option, Some, None, slice_get}
use Rattle.vb_text.specs.declared.names.Name.{Name}
use Rattle.vb_syntax.specs.declared.keyword.Keyword.TheVariants as word
use Rattle.vb_syntax.specs.declared.{tokens.Token.Token, types.{TypeName.TypeName, SimpleTypeName.SimpleTypeName}, expression.Expr.Expr, statement.{LoopControlVariable.LoopControlVariable, CatchVariable.CatchVariable}}
use Rattle.vb_syntax.specs.declared.tokens.Token.TheVariants as token
use Rattle.vb_syntax.specs.declared.expression.Expr.TheVariants as e
use Rattle.vb_parse_expr.specs.{Words.name_of, Types.IsTypeFront}
use Rattle.vb_parse_decl.specs.Parts.{reserved, equal, IsExpression, IsType, Begins, Names, IsParted}
use Rattle.vb_parse_stmt.specs.Statements.{IsVariable, IsRange, IsCaught}

-- the line ends at the place, or only `Then` stands from it on
abbrev pub EndsTest : List Token → ℕ → Type 0
EndsTest tokens at = (at ≡ length tokens) ⊎ ((slice_get tokens at ≡ Some (reserved word.Then)) × (length tokens ≡ at + 1))

-- a part stands at the front of the tokens, which begin at the place `from`, and ends before the second of the pair
abbrev pub StandsFrom : {X : Type 0} → (List Token → X → ℕ → Type 0) → ℕ → List Token → X × ℕ → Type 0
StandsFrom F from ts p = (from ≤ p.1) × F ts p.0 (p.1 - from)

-- the name that the token is, if there is one
abbrev pub found_name : Option Token → Option Name
found_name None = None
found_name (Some t) = name_of t

abbrev pub begins_as : List Token → Bool
begins_as (token.Keyword word.As ∷ ts) = true
begins_as ts = false

-- what stands behind the name of a variable of n tokens: no `As`, or `As` and a type
abbrev pub DeclaredFront : Option TypeName → ℕ → List Token → Type 0
DeclaredFront None n ts = (n ≡ 1) × (begins_as ts ≡ false)
DeclaredFront (Some a) n ts = Begins word.As (λ us. (2 ≤ n) × IsTypeFront us a (n - 2)) ts

abbrev pub IsVariableFront : List Token → LoopControlVariable → ℕ → Type 0
IsVariableFront ts v n = Names v.name (DeclaredFront v.declared n) ts

abbrev pub IsCatchVariableFront : List Token → CatchVariable → ℕ → Type 0
IsCatchVariableFront ts v n = Names v.name (DeclaredFront (Some v.declared) n) ts

-- what stands behind `For`, and behind `For Each`
abbrev pub IsCounted : List Token → LoopControlVariable × (Expr × (Expr × Option Expr)) → Type 0
IsCounted ts p = IsParted equal IsVariable IsRange ts p.0 p.1

abbrev pub IsEach : List Token → LoopControlVariable × Expr → Type 0
IsEach ts p = IsParted (reserved word.In) IsVariable IsExpression ts p.0 p.1

-- what stands behind `Catch`
abbrev pub IsCaughtPair : List Token → Option CatchVariable × Option Expr → Type 0
IsCaughtPair ts p = IsCaught ts p.0 p.1

-- no name with `As` behind it stands at the second token
abbrev pub IsUndeclared : List Token → Type 0
IsUndeclared tokens = (n : Name) → found_name (slice_get tokens 1) ≡ Some n → slice_get tokens 2 ≡ Some (reserved word.As) → ⊥

-- a type, `=` and a value
abbrev pub IsTypedValue : List Token → TypeName × Expr → Type 0
IsTypedValue ts p = IsParted equal IsType IsExpression ts p.0 p.1

-- the expression makes a new object of the class with the arguments
abbrev pub Makes : Expr → List Token → SimpleTypeName × List Expr → Type 0
Makes x ts p = x ≡ e.ObjectCreation p.0 p.1
