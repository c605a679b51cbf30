-- The parts of lines, and how parts stand one behind the other.
use Rattle.std.specs.Prelude.{◌≡◌, ℕ, Bool, List, [], ◌∷◌, ◌++◌, Option, Some, None}
use Rattle.vb_text.specs.declared.names.Name.{Name}
use Rattle.vb_syntax.specs.declared.{keyword.Keyword.Keyword, tokens.Token.Token, types.TypeName.TypeName, expression.Expr.Expr}
use Rattle.vb_syntax.specs.declared.symbol.Symbol.TheVariants as sign
use Rattle.vb_syntax.specs.declared.tokens.Token.TheVariants as token
use Rattle.vb_parse_expr.specs.{Words.{comma, name_of}, Types.SpellsType, Expressions.{Edge, Spells, SpellsPrimary}}

abbrev pub reserved : Keyword → Token
reserved w = token.Keyword w

abbrev pub equal : Token
equal = token.Symbol sign.Equal

-- WHAT ALL OF THE TOKENS ARE

pub record IsExpression (ts : List Token) (x : Expr) : Type 0 where
  pub strength : ℕ
  pub weakest : ℕ
  pub spells : Spells strength weakest ts x

pub record IsPrimary (ts : List Token) (x : Expr) : Type 0 where
  pub edge : Edge
  pub spells : SpellsPrimary edge ts x

pub record IsType (ts : List Token) (a : TypeName) : Type 0 where
  pub dotted : Bool
  pub opened : Bool
  pub spells : SpellsType dotted opened ts a

-- one token, which is the name
abbrev pub IsNamed : Name → List Token → Type 0
IsNamed n ts = (t : Token) × (ts ≡ t ∷ []) × (name_of t ≡ Some n)

-- PARTS ONE BEHIND THE OTHER

-- a token, and tokens of this kind behind it
abbrev pub After : Token → (List Token → Type 0) → List Token → Type 0
After t Behind ts = (us : List Token) × (ts ≡ t ∷ us) × Behind us

-- a reserved word, and tokens of this kind behind it
abbrev pub Begins : Keyword → (List Token → Type 0) → List Token → Type 0
Begins w Behind ts = After (reserved w) Behind ts

-- a name, and tokens of this kind behind it
abbrev pub Names : Name → (List Token → Type 0) → List Token → Type 0
Names n Behind ts = (t : Token) × (us : List Token) × (ts ≡ t ∷ us) × (name_of t ≡ Some n) × Behind us

-- reserved words one behind the other, and tokens of this kind behind them
abbrev pub Words : List Keyword → (List Token → Type 0) → List Token → Type 0
Words [] Behind ts = Behind ts
Words (w ∷ ws) Behind ts = Begins w (Words ws Behind) ts

-- a part, and tokens of this kind behind it
abbrev pub Part : {X : Type 0} → (List Token → X → Type 0) → X → (List Token → Type 0) → List Token → Type 0
Part IsPart x Behind ts = (us : List Token) × (vs : List Token) × (ts ≡ us ++ vs) × IsPart us x × Behind vs

-- tokens of this kind, and a token behind them
abbrev pub Before : Token → (List Token → Type 0) → List Token → Type 0
Before t Front ts = (us : List Token) × (ts ≡ us ++ t ∷ []) × Front us

-- nothing, or a part
abbrev pub IsOptional : {X : Type 0} → (List Token → X → Type 0) → List Token → Option X → Type 0
IsOptional IsPart ts None = ts ≡ []
IsOptional IsPart ts (Some x) = IsPart ts x

-- one part, a token between, and another part
pub record IsParted {X Y : Type 0} (between : Token) (IsLeft : List Token → X → Type 0) (IsRight : List Token → Y → Type 0) (ts : List Token) (x : X) (y : Y) : Type 0 where
  pub left : List Token
  pub right : List Token
  pub split : ts ≡ left ++ between ∷ right
  pub is_left : IsLeft left x
  pub is_right : IsRight right y

-- one part or several with commas between them
pub data AreListed {X : Type 0} (IsPart : List Token → X → Type 0) : List Token → List X → Type 0 where
  one : {ts : List Token} {x : X} → IsPart ts x → AreListed IsPart ts (x ∷ [])
  more : {ts us : List Token} {x : X} {xs : List X} → IsPart ts x → AreListed IsPart us xs → AreListed IsPart (ts ++ comma ∷ us) (x ∷ xs)
