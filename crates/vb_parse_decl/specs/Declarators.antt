-- Declarators (9.5, 9.6 and 10.2).
use Rattle.std.specs.Prelude.{◌≡◌, List, [], ◌∷◌, ◌++◌, Some, None}
use Rattle.vb_syntax.specs.declared.keyword.Keyword.TheVariants as word
use Rattle.vb_syntax.specs.declared.{tokens.Token.Token, types.{SimpleTypeName.SimpleTypeName, TypeName.TypeName}, expression.{Expr.Expr, VariableInitializer.VariableInitializer}, declarator.{Declarator.Declarator, VariableIdentifier.VariableIdentifier, VariableModifier.VariableModifier}}
use Rattle.vb_syntax.specs.declared.expression.Expr.TheVariants as e
use Rattle.vb_syntax.specs.declared.declarator.Declarator.TheVariants as declarator
use Rattle.vb_syntax.specs.declared.declarator.VariableModifier.TheVariants as modifier
use Rattle.vb_parse_expr.specs.{Words.{opening, closing}, Expressions.SpellsInitializer}
use Rattle.vb_parse_decl.specs.Parts.{reserved, equal, IsExpression, IsPrimary, IsType, After, Names, IsParted, AreListed}

-- a bound in parentheses
abbrev pub IsBound : List Token → Expr → Type 0
IsBound ts x = (us : List Token) × (ts ≡ opening ∷ (us ++ closing ∷ [])) × IsExpression us x

abbrev pub IsModified : VariableModifier → List Token → Type 0
IsModified modifier.Plain ts = ts ≡ []
IsModified modifier.Array ts = ts ≡ opening ∷ closing ∷ []
IsModified (modifier.Bound x) ts = IsBound ts x

abbrev pub IsIdentifier : List Token → VariableIdentifier → Type 0
IsIdentifier ts v = Names v.name (IsModified v.modifier) ts

-- a type, `=` and a first value (9.6.3)
abbrev pub IsInitialized : List Token → TypeName × VariableInitializer → Type 0
IsInitialized ts p = IsParted equal IsType SpellsInitializer ts p.0 p.1

-- a new object
abbrev pub IsNew : List Token → SimpleTypeName × List Expr → Type 0
IsNew ts p = IsPrimary ts (e.ObjectCreation p.0 p.1)

abbrev pub IsDeclarator : List Token → Declarator → Type 0
IsDeclarator ts (declarator.As vs a None) = IsParted (reserved word.As) (AreListed IsIdentifier) IsType ts vs a
IsDeclarator ts (declarator.As vs a (Some i)) = IsParted (reserved word.As) (AreListed IsIdentifier) IsInitialized ts vs (a, i)
IsDeclarator ts (declarator.AsNew vs a xs) = IsParted (reserved word.As) (AreListed IsIdentifier) IsNew ts vs (a, xs)
IsDeclarator ts (declarator.Inferred n x) = Names n (After equal (λ us. IsExpression us x)) ts
