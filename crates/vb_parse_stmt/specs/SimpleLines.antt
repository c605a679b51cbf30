-- The lines of statements without a block.
use Rattle.std.specs.Prelude.{◌≡◌, ◌⊎◌, List, [], Option, Some, None}
use Rattle.vb_text.specs.declared.names.Name.{Name}
use Rattle.vb_syntax.specs.declared.symbol.Symbol.TheVariants as sign
use Rattle.vb_syntax.specs.declared.{tokens.Token.Token, expression.Expr.Expr, statement.CompoundOperator.CompoundOperator, item.Item.Item}
use Rattle.vb_syntax.specs.declared.tokens.Token.TheVariants as token
use Rattle.vb_syntax.specs.declared.expression.Expr.TheVariants as e
use Rattle.vb_syntax.specs.declared.statement.CompoundOperator.TheVariants as compound
use Rattle.vb_syntax.specs.declared.item.Item.TheVariants as item
use Rattle.vb_parse_expr.specs.Words.{comma}
use Rattle.vb_parse_decl.specs.Parts.{equal, IsExpression, IsPrimary, IsParted}
use Rattle.vb_parse_stmt.specs.Statements.{compound_sign}

-- an assignment, a compound assignment, or a call without `Call`
abbrev pub IsPrimaryLine : List Token → Item → Type 0
IsPrimaryLine ts (item.Assignment x y) = IsParted equal IsPrimary IsExpression ts x y
IsPrimaryLine ts (item.CompoundAssignment o x y) = IsParted (token.Symbol (compound_sign o)) IsPrimary IsExpression ts x y
IsPrimaryLine ts (item.Invocation x) = IsPrimary ts x
IsPrimaryLine ts x = ⊥

-- two expressions with a comma between them
abbrev pub IsTwo : List Token → Expr × Expr → Type 0
IsTwo ts p = IsParted comma IsExpression IsExpression ts p.0 p.1

-- the operator of a compound assignment that a token is
abbrev pub compound_of : Token → Option CompoundOperator
compound_of (token.Symbol sign.PlusEqual) = Some compound.Add
compound_of (token.Symbol sign.MinusEqual) = Some compound.Subtract
compound_of (token.Symbol sign.TimesEqual) = Some compound.Multiply
compound_of (token.Symbol sign.BackslashEqual) = Some compound.IntegerDivide
compound_of (token.Symbol sign.AmpersandEqual) = Some compound.Concatenate
compound_of (token.Symbol sign.ShiftLeftEqual) = Some compound.ShiftLeft
compound_of (token.Symbol sign.ShiftRightEqual) = Some compound.ShiftRight
compound_of t = None

-- of the token at a place, if there is one
abbrev pub compound_there : Option Token → Option CompoundOperator
compound_there (Some t) = compound_of t
compound_there None = None

-- the name that an expression is, without type arguments, if it is one
abbrev pub IsPlainName : Expr → Option Name → Type 0
IsPlainName x (Some n) = x ≡ e.SimpleName n []
IsPlainName x None = (n : Name) → x ≡ e.SimpleName n [] → ⊥

-- an event and its arguments, none also where it has no parentheses
abbrev pub NamesEvent : Expr → Name → List Expr → Type 0
NamesEvent x n ys = (x ≡ e.Invocation (e.SimpleName n []) ys) ⊎ ((x ≡ e.SimpleName n []) × (ys ≡ []))

-- the event that a primary names, if it names one
abbrev pub IsEvent : Expr → Option (Name × List Expr) → Type 0
IsEvent x (Some p) = NamesEvent x p.0 p.1
IsEvent x None = (n : Name) (ys : List Expr) → NamesEvent x n ys → ⊥
