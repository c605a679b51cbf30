-- Which tokens spell which expression (Visual Basic Language Specification 11.0, 11). Where a text would fit in two ways,
-- a part takes what it can, and nothing else is built on that.
use Rattle.std.specs.Prelude.{◌≡◌, ℕ, ◌≤◌, ◌<◌, max, Bool, true, false, List, [], ◌∷◌, ◌++◌, Option, Some, None}
use Rattle.vb_text.specs.declared.names.Name.{Name}
use Rattle.vb_syntax.specs.declared.keyword.Keyword.TheVariants as word
use Rattle.vb_syntax.specs.declared.{tokens.Token.Token, types.{PrimitiveTypeName.PrimitiveTypeName, BuiltInTypeName.BuiltInTypeName, SimpleTypeName.SimpleTypeName, TypeName.TypeName}, expression.{UnaryOperator.UnaryOperator, BinaryOperator.BinaryOperator, CastOperator.CastOperator, Expr.Expr, VariableInitializer.VariableInitializer}}
use Rattle.vb_syntax.specs.declared.tokens.Token.TheVariants as token
use Rattle.vb_syntax.specs.declared.expression.Expr.TheVariants as e
use Rattle.vb_syntax.specs.declared.expression.VariableInitializer.TheVariants as init
use Rattle.vb_parse_expr.specs.{Words.{opening, closing, opening_brace, closing_brace, comma, dot, name_of, type_of, alone_of, primitive_cast, cast_operator, prefix_of, operator_of}, Types.{SpellsType, SpellsSimpleType, SpellsTypeArguments}}

-- What the last part of a primary may still take.
pub data Edge : Type 0 where
  closed : Edge  -- nothing
  operand : Edge  -- the operand of AddressOf: a member and arguments
  created : Bool → Edge  -- New and a type: arguments, and a member where the type is dotted
  tested : Bool → Bool → Edge  -- TypeOf and a type: a member where that is dotted, and `()` where it is opened

abbrev pub takes_member : Edge → Bool
takes_member closed = false
takes_member operand = true
takes_member (created dotted) = dotted
takes_member (tested dotted opened) = dotted

abbrev pub takes_arguments : Edge → List Expr → Bool
takes_arguments closed xs = false
takes_arguments operand xs = true
takes_arguments (created dotted) xs = true
takes_arguments (tested dotted opened) [] = opened
takes_arguments (tested dotted opened) (x ∷ xs) = false

mutual
  -- The tokens spell the expression with operators, of those outside brackets, of strength h and stronger (11.12 to 11.17).
  -- A prefix operator stands before any operand and takes all that is stronger than it: w is the weakest that stands before
  -- the last operand, 0 where there is none, and an operator stronger than w can't stand behind.
  pub data Spells : ℕ → ℕ → List Token → Expr → Type 0 where
    primary : {edge : Edge} {ts : List Token} {x : Expr} → SpellsPrimary edge ts x → Spells 0 0 ts x
    prefix : {h w s : ℕ} {o : UnaryOperator} {ts : List Token} {x : Expr} (t : Token) → prefix_of t ≡ Some (o, s)
        → Spells h w ts x → h ≤ s → Spells 0 (max s w) (t ∷ ts) (e.Unary o x)
    binary : {h w h' w' s : ℕ} {o : BinaryOperator} {ts us : List Token} {x y : Expr} (t : Token) → operator_of t ≡ Some (o, s)
        → Spells h w ts x → h ≤ s → w ≤ s → Spells h' w' us y → h' < s → Spells s w' (ts ++ t ∷ us) (e.Binary o x y)

  pub data SpellsPrimary : Edge → List Token → Expr → Type 0 where
    -- 11.4.1, 11.4.3: a literal, True, False, Nothing, Me, MyBase
    alone : {x : Expr} (t : Token) → alone_of t ≡ Some x → SpellsPrimary closed (t ∷ []) x
    -- 11.4.2
    parenthesized : {h w : ℕ} {ts : List Token} {x : Expr} → Spells h w ts x
        → SpellsPrimary closed (opening ∷ (ts ++ closing ∷ [])) (e.Parenthesized x)
    -- 11.4.4
    name : {n : Name} {bare : Bool} {us : List Token} {args : List TypeName} (t : Token) → name_of t ≡ Some n → SpellsTypeArguments bare us args
        → SpellsPrimary closed (t ∷ us) (e.SimpleName n args)
    -- 11.4.5
    address : {edge : Edge} {ts : List Token} {x : Expr} → SpellsPrimary edge ts x
        → SpellsPrimary operand (token.Keyword word.AddressOf ∷ ts) (e.AddressOf x)
    -- 11.5.2
    type_test : {edge : Edge} {dotted opened : Bool} {ts us : List Token} {x : Expr} {a : TypeName} → SpellsPrimary edge ts x → SpellsType dotted opened us a
        → SpellsPrimary (tested dotted opened) (token.Keyword word.TypeOf ∷ (ts ++ token.Keyword word.Is ∷ us)) (e.TypeOf x a)
    -- 11.6
    member : {edge : Edge} {n : Name} {ts us : List Token} {x : Expr} {bare : Bool} {args : List TypeName} (t : Token) → SpellsPrimary edge ts x
        → takes_member edge ≡ false → name_of t ≡ Some n → SpellsTypeArguments bare us args
        → SpellsPrimary closed (ts ++ dot ∷ t ∷ us) (e.MemberAccess x n args)
    type_member : {b : BuiltInTypeName} {n : Name} (t u : Token) → type_of t ≡ Some b → name_of u ≡ Some n
        → SpellsPrimary closed (t ∷ dot ∷ u ∷ []) (e.BuiltInMemberAccess b n)
    with_member : {n : Name} (t : Token) → name_of t ≡ Some n → SpellsPrimary closed (dot ∷ t ∷ []) (e.WithMemberAccess n)
    -- 11.8 and 11.9
    invocation : {edge : Edge} {ts us : List Token} {x : Expr} {ys : List Expr} → SpellsPrimary edge ts x → SpellsArguments us ys
        → takes_arguments edge ys ≡ false → SpellsPrimary closed (ts ++ us) (e.Invocation x ys)
    -- 11.10.1
    creation : {dotted : Bool} {ts : List Token} {a : SimpleTypeName} → SpellsSimpleType dotted ts a
        → SpellsPrimary (created dotted) (token.Keyword word.New ∷ ts) (e.ObjectCreation a [])
    creation_with : {dotted : Bool} {ts us : List Token} {a : SimpleTypeName} {xs : List Expr} → SpellsSimpleType dotted ts a → SpellsArguments us xs
        → SpellsPrimary closed (token.Keyword word.New ∷ (ts ++ us)) (e.ObjectCreation a xs)
    -- 11.10.2
    array : {dotted : Bool} {ts us : List Token} {a : SimpleTypeName} {is : List VariableInitializer} → SpellsSimpleType dotted ts a → SpellsElements us is
        → SpellsPrimary closed (token.Keyword word.New ∷ (ts ++ opening ∷ closing ∷ us)) (e.ArrayCreation a None is)
    bounded_array : {h w : ℕ} {dotted : Bool} {ts bs us : List Token} {a : SimpleTypeName} {b : Expr} {is : List VariableInitializer}
        → SpellsSimpleType dotted ts a → Spells h w bs b → SpellsElements us is
        → SpellsPrimary closed (token.Keyword word.New ∷ (ts ++ opening ∷ (bs ++ closing ∷ us))) (e.ArrayCreation a (Some b) is)
    -- 11.11
    conversion : {h w : ℕ} {a : PrimitiveTypeName} {ts : List Token} {x : Expr} (t : Token) → primitive_cast t ≡ Some a
        → Spells h w ts x → SpellsPrimary closed (t ∷ opening ∷ (ts ++ closing ∷ [])) (e.PrimitiveCast a x)
    cast : {h w : ℕ} {dotted opened : Bool} {o : CastOperator} {ts us : List Token} {x : Expr} {a : TypeName} (t : Token) → cast_operator t ≡ Some o
        → Spells h w ts x → SpellsType dotted opened us a
        → SpellsPrimary closed (t ∷ opening ∷ (ts ++ comma ∷ (us ++ closing ∷ []))) (e.Cast o x a)
    -- 11.22
    conditional : {h w h' w' h″ w″ : ℕ} {ts us vs : List Token} {x y z : Expr} → Spells h w ts x → Spells h' w' us y → Spells h″ w″ vs z
        → SpellsPrimary closed (token.Keyword word.If ∷ opening ∷ (ts ++ comma ∷ (us ++ comma ∷ (vs ++ closing ∷ [])))) (e.Conditional x y z)

  -- arguments in parentheses (11.8), which may be none
  pub data SpellsArguments : List Token → List Expr → Type 0 where
    no_arguments : SpellsArguments (opening ∷ closing ∷ []) []
    arguments : {ts : List Token} {xs : List Expr} → SpellsList ts xs → SpellsArguments (opening ∷ (ts ++ closing ∷ [])) xs

  -- one expression or several with commas between them
  pub data SpellsList : List Token → List Expr → Type 0 where
    one : {h w : ℕ} {ts : List Token} {x : Expr} → Spells h w ts x → SpellsList ts (x ∷ [])
    more : {h w : ℕ} {ts us : List Token} {x : Expr} {xs : List Expr} → Spells h w ts x → SpellsList us xs
        → SpellsList (ts ++ comma ∷ us) (x ∷ xs)

  -- the first value of a variable or of an element (9.6.3)
  pub data SpellsInitializer : List Token → VariableInitializer → Type 0 where
    expression : {h w : ℕ} {ts : List Token} {x : Expr} → Spells h w ts x → SpellsInitializer ts (init.Expression x)
    elements : {ts : List Token} {is : List VariableInitializer} → SpellsElements ts is → SpellsInitializer ts (init.Elements is)

  -- the elements of an array in braces (11.10.2), which may be none
  pub data SpellsElements : List Token → List VariableInitializer → Type 0 where
    no_elements : SpellsElements (opening_brace ∷ closing_brace ∷ []) []
    braces : {ts : List Token} {is : List VariableInitializer} → SpellsInitializers ts is
        → SpellsElements (opening_brace ∷ (ts ++ closing_brace ∷ [])) is

  -- one element or several with commas between them
  pub data SpellsInitializers : List Token → List VariableInitializer → Type 0 where
    one_initializer : {ts : List Token} {i : VariableInitializer} → SpellsInitializer ts i → SpellsInitializers ts (i ∷ [])
    more_initializers : {ts us : List Token} {i : VariableInitializer} {is : List VariableInitializer} → SpellsInitializer ts i → SpellsInitializers us is
        → SpellsInitializers (ts ++ comma ∷ us) (i ∷ is)
