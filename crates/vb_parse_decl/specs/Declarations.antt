-- The parts of declarations (Visual Basic Language Specification 11.0, at each part).
use Rattle.std.specs.Prelude.{◌≡◌, ◌⊎◌, List, [], ◌∷◌, ◌++◌, Option, Some}
use Rattle.vb_text.specs.declared.names.Name.{Name}
use Rattle.vb_syntax.specs.declared.{keyword.Keyword.Keyword, tokens.Token.Token, types.{TypeName.TypeName, TypeParameter.TypeParameter, TypeConstraint.TypeConstraint}, expression.Expr.Expr, declaration.{Access.Access, Modifier.Modifier, NameModifier.NameModifier, PassedBy.PassedBy, Parameter.Parameter, EventHandler.EventHandler, ImplementedMember.ImplementedMember}}
use Rattle.vb_syntax.specs.declared.keyword.Keyword.TheVariants as word
use Rattle.vb_syntax.specs.declared.types.TypeConstraint.TheVariants as constraint
use Rattle.vb_syntax.specs.declared.declaration.Access.TheVariants as access
use Rattle.vb_syntax.specs.declared.declaration.Modifier.TheVariants as modifier
use Rattle.vb_syntax.specs.declared.declaration.NameModifier.TheVariants as name_modifier
use Rattle.vb_syntax.specs.declared.declaration.PassedBy.TheVariants as passed
use Rattle.vb_syntax.specs.declared.declaration.EventHandler.TheVariants as handler
use Rattle.vb_parse_expr.specs.Words.{opening, closing, opening_brace, closing_brace, dot, name_of}
use Rattle.vb_parse_decl.specs.Parts.{reserved, equal, IsExpression, IsType, After, Begins, Names, Words, Part, IsOptional, AreListed}

-- MODIFIERS (4.6 and 9)

abbrev pub access_words : Access → List Keyword
access_words access.Public = word.Public ∷ []
access_words access.Private = word.Private ∷ []
access_words access.Protected = word.Protected ∷ []
access_words access.Friend = word.Friend ∷ []
access_words access.ProtectedFriend = word.Protected ∷ word.Friend ∷ []

abbrev pub modifier_words : Modifier → List Keyword
modifier_words (modifier.Access a) = access_words a
modifier_words modifier.Shared = word.Shared ∷ []
modifier_words modifier.Overridable = word.Overridable ∷ []
modifier_words modifier.Overrides = word.Overrides ∷ []
modifier_words modifier.MustOverride = word.MustOverride ∷ []
modifier_words modifier.NotOverridable = word.NotOverridable ∷ []
modifier_words modifier.Overloads = word.Overloads ∷ []
modifier_words modifier.Shadows = word.Shadows ∷ []
modifier_words modifier.ReadOnly = word.ReadOnly ∷ []

-- `Protected` and `Friend` as two modifiers: where they stand in this order they are one
abbrev pub PartsPair : List Modifier → Type 0
PartsPair (modifier.Access access.Protected ∷ modifier.Access access.Friend ∷ ms) = Unit {0}
PartsPair ms = ⊥

-- modifiers one behind the other, in the order of the text, and tokens of this kind behind them
abbrev pub Modified : List Modifier → (List Token → Type 0) → List Token → Type 0
Modified [] Behind ts = Behind ts
Modified (m ∷ ms) Behind ts = (PartsPair (m ∷ ms) → ⊥) × Words (modifier_words m) (Modified ms Behind) ts

-- TYPES BEHIND `As` (7)

abbrev pub IsDeclared : List Token → TypeName → Type 0
IsDeclared ts a = Begins word.As (λ us. IsType us a) ts

-- TYPE PARAMETERS (4.9)

abbrev pub IsConstraint : List Token → TypeConstraint → Type 0
IsConstraint ts constraint.Class = ts ≡ reserved word.Class ∷ []
IsConstraint ts constraint.New = ts ≡ reserved word.New ∷ []
IsConstraint ts (constraint.Type a) = IsType ts a

-- one constraint, or several in braces
abbrev pub AreConstraints : List Token → List TypeConstraint → Type 0
AreConstraints ts cs = ((c : TypeConstraint) × (cs ≡ c ∷ []) × IsConstraint ts c)
    ⊎ ((us : List Token) × (ts ≡ opening_brace ∷ (us ++ closing_brace ∷ [])) × AreListed IsConstraint us cs)

-- a name; `As` and constraints, or nothing
abbrev pub IsTypeParameter : List Token → TypeParameter → Type 0
IsTypeParameter ts p = Names p.name (λ us. ((us ≡ []) × (p.constraints ≡ [])) ⊎ Begins word.As (λ vs. AreConstraints vs p.constraints) us) ts

-- `(Of ..)`, or nothing
abbrev pub AreTypeParameters : List Token → List TypeParameter → Type 0
AreTypeParameters ts ps = ((ts ≡ []) × (ps ≡ []))
    ⊎ ((us : List Token) × (ts ≡ opening ∷ reserved word.Of ∷ (us ++ closing ∷ [])) × AreListed IsTypeParameter us ps)

-- PARAMETERS (9.2.5)

abbrev pub Passed : PassedBy → (List Token → Type 0) → List Token → Type 0
Passed passed.Value Behind ts = Behind ts ⊎ Begins word.ByVal Behind ts
Passed passed.Reference Behind ts = Begins word.ByRef Behind ts

-- `()`, or nothing
abbrev pub IsNameModifier : List Token → NameModifier → Type 0
IsNameModifier ts name_modifier.Plain = ts ≡ []
IsNameModifier ts name_modifier.Array = ts ≡ opening ∷ closing ∷ []

abbrev pub IsParameter : List Token → Parameter → Type 0
IsParameter ts p = Passed p.passed (Names p.name (Part IsNameModifier p.modifier (λ us. IsDeclared us p.declared))) ts

-- parameters in parentheses, between which nothing may stand
abbrev pub AreWritten : List Token → List Parameter → Type 0
AreWritten ts ps = (us : List Token) × (ts ≡ opening ∷ (us ++ closing ∷ [])) × (((us ≡ []) × (ps ≡ [])) ⊎ AreListed IsParameter us ps)

-- where there are none the parentheses may be left out
abbrev pub AreParameters : List Token → List Parameter → Type 0
AreParameters ts ps = ((ts ≡ []) × (ps ≡ [])) ⊎ AreWritten ts ps

-- SIGNATURES (9.2)

-- a name, type parameters and parameters, and tokens of this kind behind them
abbrev pub Signed : Name → List TypeParameter → List Parameter → (List Token → Type 0) → List Token → Type 0
Signed n ts ps Behind us = Names n (Part AreTypeParameters ts (Part AreParameters ps Behind)) us

-- `As` and the type of the result, or nothing
abbrev pub IsResult : List Token → Option TypeName → Type 0
IsResult ts r = IsOptional IsDeclared ts r

-- what stands behind the name of an event (9.4)
abbrev pub IsHandler : List Token → EventHandler → Type 0
IsHandler ts (handler.Parameters ps) = AreWritten ts ps
IsHandler ts (handler.Delegate a) = IsDeclared ts a

-- `=` and a first value, or nothing (9.7)
abbrev pub IsInitial : List Token → Option Expr → Type 0
IsInitial ts i = IsOptional (λ us x. After equal (λ vs. IsExpression vs x) us) ts i

-- IMPLEMENTED MEMBERS (9.1)

-- a type, a dot and the name of its member, which is the last name
abbrev pub IsImplemented : List Token → ImplementedMember → Type 0
IsImplemented ts m = (us : List Token) × (t : Token) × (ts ≡ us ++ dot ∷ t ∷ []) × IsType us m.interface × (name_of t ≡ Some m.member)

-- `Implements` and members, or nothing
abbrev pub AreImplemented : List Token → List ImplementedMember → Type 0
AreImplemented ts ms = ((ts ≡ []) × (ms ≡ [])) ⊎ Begins word.Implements (λ us. AreListed IsImplemented us ms) ts
