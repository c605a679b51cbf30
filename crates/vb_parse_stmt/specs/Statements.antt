-- The parts of statements.
use Rattle.std.specs.Prelude.{◌≡◌, ◌⊎◌, pos, true, List, [], ◌∷◌, ◌++◌, Option, Some, None}
use Rattle.vb_text.specs.declared.names.Name.{Name}
use Rattle.vb_syntax.specs.declared.{keyword.Keyword.Keyword, symbol.Symbol.Symbol, tokens.{IntegerLiteral.IntegerLiteral, Token.Token}, expression.{RelationalOperator.RelationalOperator, Expr.Expr}, declaration.{OptionSetting.OptionSetting, OptionSwitch.OptionSwitch}, statement.{LocalModifier.LocalModifier, CompoundOperator.CompoundOperator, ExitKind.ExitKind, ContinueKind.ContinueKind, OnErrorAction.OnErrorAction, ResumePlace.ResumePlace, LoopCondition.LoopCondition, LoopControlVariable.LoopControlVariable, CaseItem.CaseItem, CatchVariable.CatchVariable, UsingResource.UsingResource}, words.ContextualWords.ContextualWords}
use Rattle.vb_syntax.specs.declared.keyword.Keyword.TheVariants as word
use Rattle.vb_syntax.specs.declared.symbol.Symbol.TheVariants as sign
use Rattle.vb_syntax.specs.declared.tokens.Token.TheVariants as token
use Rattle.vb_syntax.specs.declared.expression.RelationalOperator.TheVariants as relation
use Rattle.vb_syntax.specs.declared.expression.Expr.TheVariants as e
use Rattle.vb_syntax.specs.declared.declaration.OptionSetting.TheVariants as setting
use Rattle.vb_syntax.specs.declared.declaration.OptionSwitch.TheVariants as switch
use Rattle.vb_syntax.specs.declared.statement.LocalModifier.TheVariants as local
use Rattle.vb_syntax.specs.declared.statement.CompoundOperator.TheVariants as compound
use Rattle.vb_syntax.specs.declared.statement.ExitKind.TheVariants as exit
use Rattle.vb_syntax.specs.declared.statement.ContinueKind.TheVariants as continue
use Rattle.vb_syntax.specs.declared.statement.OnErrorAction.TheVariants as action
use Rattle.vb_syntax.specs.declared.statement.ResumePlace.TheVariants as place
use Rattle.vb_syntax.specs.declared.statement.LoopCondition.TheVariants as condition
use Rattle.vb_syntax.specs.declared.statement.CaseItem.TheVariants as case_item
use Rattle.vb_syntax.specs.declared.statement.UsingResource.TheVariants as resource
use Rattle.vb_parse_decl.specs.{Declarators.IsNew, Parts.{reserved, equal, IsExpression, IsPrimary, IsType, IsNamed, After, Begins, Names, IsOptional, IsParted}}

-- OPTIONS (6.2)

abbrev pub switch_words : ContextualWords → OptionSwitch → List Token → Type 0
switch_words words switch.On ts = (ts ≡ []) ⊎ (ts ≡ reserved word.On ∷ [])
switch_words words switch.Off ts = ts ≡ token.Name words.off ∷ []

abbrev pub IsSetting : ContextualWords → List Token → OptionSetting → Type 0
IsSetting words ts (setting.Strict on) = After (token.Name words.strict) (switch_words words on) ts
IsSetting words ts (setting.Explicit on) = After (token.Name words.explicit) (switch_words words on) ts
IsSetting words ts (setting.Infer on) = After (token.Name words.infer) (switch_words words on) ts
IsSetting words ts setting.CompareBinary = ts ≡ token.Name words.compare ∷ token.Name words.binary ∷ []
IsSetting words ts setting.CompareText = ts ≡ token.Name words.compare ∷ token.Name words.text ∷ []

-- LOCAL DECLARATIONS (10.2)

abbrev pub local_word : LocalModifier → Keyword
local_word local.Dim = word.Dim
local_word local.Const = word.Const
local_word local.Static = word.Static

-- SIMPLE STATEMENTS (10.5 to 10.7, 10.10.2 and 10.11)

abbrev pub compound_sign : CompoundOperator → Symbol
compound_sign compound.Add = sign.PlusEqual
compound_sign compound.Subtract = sign.MinusEqual
compound_sign compound.Multiply = sign.TimesEqual
compound_sign compound.IntegerDivide = sign.BackslashEqual
compound_sign compound.Concatenate = sign.AmpersandEqual
compound_sign compound.ShiftLeft = sign.ShiftLeftEqual
compound_sign compound.ShiftRight = sign.ShiftRightEqual

abbrev pub exit_word : ExitKind → Keyword
exit_word exit.Sub = word.Sub
exit_word exit.Function = word.Function
exit_word exit.Property = word.Property
exit_word exit.Do = word.Do
exit_word exit.For = word.For
exit_word exit.While = word.While
exit_word exit.Select = word.Select
exit_word exit.Try = word.Try

abbrev pub continue_word : ContinueKind → Keyword
continue_word continue.Do = word.Do
continue_word continue.For = word.For
continue_word continue.While = word.While

-- what stands behind `On Error`
abbrev pub IsAction : List Token → OnErrorAction → Type 0
IsAction ts (action.GoTo n) = Begins word.GoTo (IsNamed n) ts
IsAction ts action.GoToZero = (l : IntegerLiteral) × (l.value ≡ pos 0) × (l.is_digit ≡ true) × (ts ≡ reserved word.GoTo ∷ token.Integer l ∷ [])
IsAction ts action.GoToMinusOne = (l : IntegerLiteral) × (l.value ≡ pos 1) × (l.is_digit ≡ true) × (ts ≡ reserved word.GoTo ∷ token.Symbol sign.Minus ∷ token.Integer l ∷ [])
IsAction ts action.ResumeNext = ts ≡ reserved word.Resume ∷ reserved word.Next ∷ []

-- what stands behind `Resume`
abbrev pub IsPlace : List Token → ResumePlace → Type 0
IsPlace ts place.Same = ts ≡ []
IsPlace ts place.Next = ts ≡ reserved word.Next ∷ []
IsPlace ts (place.Label n) = IsNamed n ts

-- an event, with arguments or without
abbrev pub IsRaised : List Token → Name → List Expr → Type 0
IsRaised ts n xs = IsPrimary ts (e.Invocation (e.SimpleName n []) xs) ⊎ (IsPrimary ts (e.SimpleName n []) × (xs ≡ []))

-- BLOCKS (10.3, 10.4, 10.8 to 10.10 and 10.13)

-- a test, with `Then` behind it or without
abbrev pub IsTest : List Token → Expr → Type 0
IsTest ts x = IsExpression ts x ⊎ ((us : List Token) × (ts ≡ us ++ reserved word.Then ∷ []) × IsExpression us x)

-- `While` or `Until` and a test
abbrev pub IsCondition : ContextualWords → List Token → LoopCondition → Type 0
IsCondition words ts (condition.While x) = Begins word.While (λ us. IsExpression us x) ts
IsCondition words ts (condition.Until x) = After (token.Name words.until) (λ us. IsExpression us x) ts

-- a name, and `As` and a type if they are written
abbrev pub IsVariable : List Token → LoopControlVariable → Type 0
IsVariable ts v = Names v.name (λ us. IsOptional (λ vs a. Begins word.As (λ ws. IsType ws a) vs) us v.declared) ts

-- a limit, and `Step` and a step if they are written
abbrev pub IsLimit : List Token → Expr × Option Expr → Type 0
IsLimit ts (x, None) = IsExpression ts x
IsLimit ts (x, Some step) = IsParted (reserved word.Step) IsExpression IsExpression ts x step

-- the start, `To` and the limit
abbrev pub IsRange : List Token → Expr × (Expr × Option Expr) → Type 0
IsRange ts p = IsParted (reserved word.To) IsExpression IsLimit ts p.0 p.1

abbrev pub relation_sign : RelationalOperator → Symbol
relation_sign relation.Equal = sign.Equal
relation_sign relation.NotEqual = sign.NotEqual
relation_sign relation.Less = sign.Less
relation_sign relation.LessOrEqual = sign.LessOrEqual
relation_sign relation.Greater = sign.Greater
relation_sign relation.GreaterOrEqual = sign.GreaterOrEqual

abbrev pub IsRelation : RelationalOperator → Expr → List Token → Type 0
IsRelation r x ts = After (token.Symbol (relation_sign r)) (λ us. IsExpression us x) ts

abbrev pub IsCaseItem : List Token → CaseItem → Type 0
IsCaseItem ts (case_item.Value x) = IsExpression ts x
IsCaseItem ts (case_item.Range x y) = IsParted (reserved word.To) IsExpression IsExpression ts x y
IsCaseItem ts (case_item.Relation r x) = IsRelation r x ts ⊎ Begins word.Is (IsRelation r x) ts

abbrev pub IsCatchVariable : List Token → CatchVariable → Type 0
IsCatchVariable ts v = Names v.name (Begins word.As (λ us. IsType us v.declared)) ts

-- what stands behind `Catch`
abbrev pub IsCaught : List Token → Option CatchVariable → Option Expr → Type 0
IsCaught ts v None = IsOptional IsCatchVariable ts v
IsCaught ts None (Some x) = Begins word.When (λ us. IsExpression us x) ts
IsCaught ts (Some v) (Some x) = IsParted (reserved word.When) IsCatchVariable IsExpression ts v x

abbrev pub IsResource : List Token → UsingResource → Type 0
IsResource ts (resource.AsNew n a xs) = Names n (Begins word.As (λ us. IsNew us (a, xs))) ts
IsResource ts (resource.As n a x) = Names n (Begins word.As (λ us. IsParted equal IsType IsExpression us a x)) ts
IsResource ts (resource.Value x) = IsExpression ts x
