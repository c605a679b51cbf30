-- What has been begun and waits, and the tokens that it was read from.
use Rattle.std.proofs.Common.{◌≡◌, ℕ, ◌≤◌, ◌<◌, Bool, true, false, List, [], ◌∷◌, ◌++◌, Option, Some, None}
use Rattle.vb_syntax.specs.declared.keyword.Keyword.TheVariants as word
use Rattle.vb_syntax.specs.declared.{tokens.Token.Token, types.SimpleTypeName.SimpleTypeName, expression.{BinaryOperator.BinaryOperator, Expr.Expr, VariableInitializer.VariableInitializer}}
use Rattle.vb_syntax.specs.declared.tokens.Token.TheVariants as token
use Rattle.vb_syntax.specs.declared.expression.Expr.TheVariants as e
use Rattle.vb_syntax.specs.declared.expression.VariableInitializer.TheVariants as init
use Rattle.vb_parse_expr.specs.{declared.{pending.{Pending.Pending, Goal.Goal}, machine.State.State}, Words.{opening, opening_brace, comma, prefix_of, operator_of, primitive_cast, cast_operator}, Types.SpellsSimpleType, Expressions.{Edge, takes_member, takes_arguments, Spells, SpellsPrimary, SpellsList, SpellsElements, SpellsInitializers}, Fronts.{goes_on, goes_on_primary}, Reading.{after_opening, after_closing, after_dot}, TypeReading.popped, MachineReading.{Step, wants_primary, wants_element}}
use Rattle.vb_parse_expr.specs.declared.pending.Pending.TheVariants as wait
use Rattle.vb_parse_expr.specs.declared.pending.Goal.TheVariants as for
use Rattle.vb_parse_expr.specs.declared.machine.State.TheVariants as at

-- LISTS THAT HAVE BEEN BEGUN

-- expressions with a comma behind each
pub record ListBegun (ts : List Token) (xs : List Expr) : Type 0 where
  pub goes_on : {us : List Token} {ys : List Expr} → SpellsList us ys → SpellsList (ts ++ us) (xs ++ ys)

-- elements with a comma behind each
pub record ElementsBegun (ts : List Token) (is : List VariableInitializer) : Type 0 where
  pub goes_on : {us : List Token} {js : List VariableInitializer} → SpellsInitializers us js → SpellsInitializers (ts ++ us) (is ++ js)

-- a new array up to its elements
pub record ArrayBegun (ts : List Token) (a : SimpleTypeName) (b : Option Expr) : Type 0 where
  pub goes_on : {us : List Token} {is : List VariableInitializer} → SpellsElements us is
      → SpellsPrimary Edge.closed (ts ++ us) (e.ArrayCreation a b is)

-- THE TOKENS OF WHAT WAITS

pub record LeftOperand (y : Expr) (o : BinaryOperator) (s : ℕ) (ts : List Token) : Type 0 where
  pub strength : ℕ
  pub weakest : ℕ
  pub left : List Token
  pub operator : Token
  pub split : ts ≡ left ++ operator ∷ []
  pub is : operator_of operator ≡ Some (o, s)
  pub spells : Spells strength weakest left y
  pub strong : strength ≤ s
  pub covered : weakest ≤ s

pub record CallBegun (f : Expr) (xs : List Expr) (ts : List Token) : Type 0 where
  pub edge : Edge
  pub callee : List Token
  pub read : List Token
  pub split : ts ≡ callee ++ opening ∷ read
  pub spells : SpellsPrimary edge callee f
  pub ready : (y : Expr) (ys : List Expr) → takes_arguments edge (y ∷ ys) ≡ false
  pub begun : ListBegun read xs

pub record CreationBegun (a : SimpleTypeName) (xs : List Expr) (ts : List Token) : Type 0 where
  pub dotted : Bool
  pub front : List Token
  pub read : List Token
  pub split : ts ≡ token.Keyword word.New ∷ (front ++ opening ∷ read)
  pub spells : SpellsSimpleType dotted front a
  pub begun : ListBegun read xs

pub record ThenBegun (x : Expr) (ts : List Token) : Type 0 where
  pub strength : ℕ
  pub weakest : ℕ
  pub test : List Token
  pub split : ts ≡ token.Keyword word.If ∷ opening ∷ (test ++ comma ∷ [])
  pub spells : Spells strength weakest test x

pub record ElseBegun (x y : Expr) (ts : List Token) : Type 0 where
  pub strength : ℕ
  pub weakest : ℕ
  pub strength' : ℕ
  pub weakest' : ℕ
  pub test : List Token
  pub first : List Token
  pub split : ts ≡ token.Keyword word.If ∷ opening ∷ (test ++ comma ∷ (first ++ comma ∷ []))
  pub spells : Spells strength weakest test x
  pub spells_first : Spells strength' weakest' first y

pub record NewElementsBegun (a : SimpleTypeName) (b : Option Expr) (is : List VariableInitializer) (ts : List Token) : Type 0 where
  pub head : List Token
  pub read : List Token
  pub split : ts ≡ head ++ opening_brace ∷ read
  pub array : ArrayBegun head a b
  pub begun : ElementsBegun read is

pub record BracesBegun (is : List VariableInitializer) (ts : List Token) : Type 0 where
  pub read : List Token
  pub split : ts ≡ opening_brace ∷ read
  pub begun : ElementsBegun read is

abbrev pub IsReadFrom : Pending → List Token → Type 0
IsReadFrom (wait.Before o s) ts = (t : Token) × (ts ≡ t ∷ []) × (prefix_of t ≡ Some (o, s))
IsReadFrom (wait.Between y o s) ts = LeftOperand y o s ts
IsReadFrom wait.AddressOf ts = ts ≡ token.Keyword word.AddressOf ∷ []
IsReadFrom wait.TypeOf ts = ts ≡ token.Keyword word.TypeOf ∷ []
IsReadFrom wait.Parenthesis ts = ts ≡ opening ∷ []
IsReadFrom (wait.Arguments f xs) ts = CallBegun f xs ts
IsReadFrom (wait.Creation a xs) ts = CreationBegun a xs ts
IsReadFrom (wait.Conversion a) ts = (t : Token) × (ts ≡ t ∷ opening ∷ []) × (primitive_cast t ≡ Some a)
IsReadFrom (wait.Cast o) ts = (t : Token) × (ts ≡ t ∷ opening ∷ []) × (cast_operator t ≡ Some o)
IsReadFrom wait.Test ts = ts ≡ token.Keyword word.If ∷ opening ∷ []
IsReadFrom (wait.Then x) ts = ThenBegun x ts
IsReadFrom (wait.Else x y) ts = ElseBegun x y ts
IsReadFrom (wait.Array a b is) ts = NewElementsBegun a b is ts
IsReadFrom (wait.Elements is) ts = BracesBegun is ts

-- WHERE IT MAY WAIT

-- an operand of strength h may stand behind the last: nothing there takes a part of it
abbrev pub last_holds : ℕ → Option (List Pending × Pending) → Type 0
last_holds h (Some (vs, wait.Before o own)) = h ≤ own
last_holds h (Some (vs, wait.Between y o own)) = h < own
last_holds h p = Unit {0}

abbrev pub IsPlaced : Goal → List Pending → Pending → Type 0
IsPlaced goal vs (wait.Before o s) = wants_primary goal vs ≡ false
IsPlaced goal vs (wait.Between y o s) = (wants_primary goal vs ≡ false) × last_holds s (popped vs)
IsPlaced goal vs (wait.Elements is) = wants_element goal vs ≡ true
IsPlaced goal vs p = Unit {0}

-- what waits was read from these tokens
pub data Waits (goal : Goal) : List Pending → List Token → Type 0 where
  nothing : (ws : List Pending) → popped ws ≡ None → Waits goal ws []
  more : (ws vs : List Pending) (p : Pending) (before part : List Token) → popped ws ≡ Some (vs, p) → Waits goal vs before
      → IsPlaced goal vs p → IsReadFrom p part → Waits goal ws (before ++ part)

-- the last of what waits
pub record Last (goal : Goal) (vs : List Pending) (p : Pending) (used : List Token) : Type 0 where
  pub before : List Token
  pub part : List Token
  pub split : used ≡ before ++ part
  pub waits : Waits goal vs before
  pub placed : IsPlaced goal vs p
  pub read : IsReadFrom p part

-- STATES

-- what stands first doesn't go on with the last part of the primary, unless that is over
pub record Ready (edge : Edge) (ts : List Token) : Type 0 where
  pub member : (rest : List Token) → after_dot ts ≡ Some rest → takes_member edge ≡ false
  pub no_arguments : (inner rest : List Token) → after_opening ts ≡ Some inner → after_closing inner ≡ Some rest
      → takes_arguments edge [] ≡ false
  pub arguments : (inner : List Token) → after_opening ts ≡ Some inner → (y : Expr) (ys : List Expr) → takes_arguments edge (y ∷ ys) ≡ false

pub record Wanting (goal : Goal) (all : List Token) (ws : List Pending) (ts : List Token) : Type 0 where
  pub used : List Token
  pub split : all ≡ used ++ ts
  pub waits : Waits goal ws used

pub record HasPrimary (goal : Goal) (all : List Token) (ws : List Pending) (x : Expr) (ts : List Token) : Type 0 where
  pub used : List Token
  pub part : List Token
  pub edge : Edge
  pub split : all ≡ used ++ (part ++ ts)
  pub waits : Waits goal ws used
  pub spells : SpellsPrimary edge part x
  pub ready : Ready edge ts

pub record HasBraces (goal : Goal) (all : List Token) (ws : List Pending) (is : List VariableInitializer) (ts : List Token) : Type 0 where
  pub used : List Token
  pub part : List Token
  pub split : all ≡ used ++ (part ++ ts)
  pub waits : Waits goal ws used
  pub spells : SpellsElements part is
  pub placed : wants_element goal ws ≡ true

abbrev pub is_for_primary : Goal → Bool
is_for_primary for.Primary = true
is_for_primary for.Expression = false
is_for_primary for.Initializer = false

pub data EndsWith : Goal → VariableInitializer → List Token → List Token → Type 0 where
  primary_ends : {edge : Edge} {front ts : List Token} {x : Expr} → SpellsPrimary edge front x → goes_on_primary ts ≡ false
      → EndsWith for.Primary (init.Expression x) front ts
  expression_ends : {h w : ℕ} {front ts : List Token} {x : Expr} (goal : Goal) → is_for_primary goal ≡ false → Spells h w front x
      → goes_on ts ≡ false
      → EndsWith goal (init.Expression x) front ts
  elements_end : {front ts : List Token} {is : List VariableInitializer} → SpellsElements front is
      → EndsWith for.Initializer (init.Elements is) front ts

pub record Ended (goal : Goal) (all : List Token) (i : VariableInitializer) (ts : List Token) : Type 0 where
  pub front : List Token
  pub split : all ≡ front ++ ts
  pub ends : EndsWith goal i front ts

abbrev pub Holds : Goal → List Token → List Pending → State → List Token → Type 0
Holds goal all ws at.Want ts = Wanting goal all ws ts
Holds goal all ws (at.Primary x) ts = HasPrimary goal all ws x ts
Holds goal all ws (at.Braces is) ts = HasBraces goal all ws is ts
Holds goal all ws (at.Done i) ts = Ended goal all i ts

-- what a step leaves
abbrev pub Keeps : Goal → List Token → Step → Type 0
Keeps goal all None = Unit {0}
Keeps goal all (Some p) = Holds goal all p.0 p.1 p.2
