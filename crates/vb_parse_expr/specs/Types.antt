-- Which tokens spell which name of a type (Visual Basic Language Specification 11.0, 4.7, 7 and 7.12).
use Rattle.std.specs.Prelude.{◌≡◌, ℕ, ◌≤◌, Bool, true, false, ◌&&◌, ◌||◌, List, [], ◌∷◌, ◌++◌, length, take, drop, Option, Some, None}
use Rattle.vb_text.specs.declared.names.Name.{Name}
use Rattle.vb_syntax.specs.declared.keyword.Keyword.TheVariants as word
use Rattle.vb_syntax.specs.declared.symbol.Symbol.TheVariants as sign
use Rattle.vb_syntax.specs.declared.{tokens.Token.Token, types.{BuiltInTypeName.BuiltInTypeName, QualifiedTypeName.QualifiedTypeName, SimpleTypeName.SimpleTypeName, TypeName.TypeName}}
use Rattle.vb_syntax.specs.declared.tokens.Token.TheVariants as token
use Rattle.vb_syntax.specs.declared.types.SimpleTypeName.TheVariants as simple
use Rattle.vb_syntax.specs.declared.types.TypeName.TheVariants as type_name
use Rattle.vb_parse_expr.specs.Words.{opening, closing, comma, dot, name_of, type_of}

-- one name or several with dots between them
pub data SpellsNames : List Token → List Name → Type 0 where
  one : {n : Name} (t : Token) → name_of t ≡ Some n → SpellsNames (t ∷ []) (n ∷ [])
  more : {n : Name} {ns : List Name} {ts : List Token} (t : Token) → name_of t ≡ Some n → SpellsNames ts ns
      → SpellsNames (t ∷ dot ∷ ts) (n ∷ ns)

abbrev pub qualified_by : List Name → List TypeName → SimpleTypeName
qualified_by ns xs = simple.Qualified (record { parts = ns; arguments = xs })

-- The tokens spell the name of a type. What it could still take is told too: `dotted`, that it ends in a name without type
-- arguments and so takes `.Name` and `(Of`; `opened`, that it is no array and so takes `()`.
mutual
  pub data SpellsType : Bool → Bool → List Token → TypeName → Type 0 where
    plain : {dotted : Bool} {ts : List Token} {x : SimpleTypeName} → SpellsSimpleType dotted ts x → SpellsType dotted true ts (type_name.Simple x)
    array : {dotted : Bool} {ts : List Token} {x : SimpleTypeName} → SpellsSimpleType dotted ts x
        → SpellsType false false (ts ++ opening ∷ closing ∷ []) (type_name.Array x)

  -- the name of a type that is no array
  pub data SpellsSimpleType : Bool → List Token → SimpleTypeName → Type 0 where
    built_in : {b : BuiltInTypeName} (t : Token) → type_of t ≡ Some b → SpellsSimpleType false (t ∷ []) (simple.BuiltIn b)
    qualified : {dotted : Bool} {ts us : List Token} {ns : List Name} {xs : List TypeName} → SpellsNames ts ns → SpellsTypeArguments dotted us xs
        → SpellsSimpleType dotted (ts ++ us) (qualified_by ns xs)

  -- type arguments in parentheses behind `Of`, or nothing, which leaves the name before it bare
  pub data SpellsTypeArguments : Bool → List Token → List TypeName → Type 0 where
    none : SpellsTypeArguments true [] []
    some : {ts : List Token} {xs : List TypeName} → SpellsTypes ts xs
        → SpellsTypeArguments false (opening ∷ token.Keyword word.Of ∷ (ts ++ closing ∷ [])) xs

  -- one type or several with commas between them
  pub data SpellsTypes : List Token → List TypeName → Type 0 where
    one : {dotted opened : Bool} {ts : List Token} {x : TypeName} → SpellsType dotted opened ts x → SpellsTypes ts (x ∷ [])
    more : {dotted opened : Bool} {ts us : List Token} {x : TypeName} {xs : List TypeName} → SpellsType dotted opened ts x → SpellsTypes us xs
        → SpellsTypes (ts ++ comma ∷ us) (x ∷ xs)

-- WHAT GOES ON WITH A TYPE

-- tokens that go on with a name: a dot, or `(Of`
abbrev pub goes_on_name : List Token → Bool
goes_on_name (token.Symbol sign.Dot ∷ ts) = true
goes_on_name (token.Symbol sign.OpenParenthesis ∷ token.Keyword word.Of ∷ ts) = true
goes_on_name ts = false

-- tokens that make a type an array
abbrev pub goes_on_array : List Token → Bool
goes_on_array (token.Symbol sign.OpenParenthesis ∷ token.Symbol sign.CloseParenthesis ∷ ts) = true
goes_on_array ts = false

abbrev pub goes_on_type : Bool → Bool → List Token → Bool
goes_on_type dotted opened ts = (dotted && goes_on_name ts) || (opened && goes_on_array ts)

-- The first n tokens spell the type, and what stands behind them doesn't go on with it.
pub record IsTypeFront (ts : List Token) (x : TypeName) (n : ℕ) : Type 0 where
  pub within : n ≤ length ts
  pub dotted : Bool
  pub opened : Bool
  pub spells : SpellsType dotted opened (take n ts) x
  pub over : goes_on_type dotted opened (drop n ts) ≡ false

pub record IsSimpleTypeFront (ts : List Token) (x : SimpleTypeName) (n : ℕ) : Type 0 where
  pub within : n ≤ length ts
  pub dotted : Bool
  pub spells : SpellsSimpleType dotted (take n ts) x
  pub over : goes_on_type dotted false (drop n ts) ≡ false
