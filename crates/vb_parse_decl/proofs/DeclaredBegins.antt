-- With which tokens expressions, types and new objects begin.
use Rattle.std.proofs.Common.{◌≡◌, ◌⊎◌, inl, inr, ℕ, Bool, true, false, List, [], ◌∷◌, ◌++◌, length, take, drop, Some, refl, sym, ap, ◌∙◌}
use Rattle.std.specs.Option.{is_some}
use Rattle.std.proofs.lemmas.List.{take-append-drop}
use Rattle.vb_text.specs.declared.names.Name.{Name}
use Rattle.vb_syntax.specs.{declared.{keyword.Keyword.Keyword, tokens.Token.Token, types.{SimpleTypeName.SimpleTypeName, TypeName.TypeName}, expression.Expr.{Expr, ObjectCreation'}}, Literals.integer}
use Rattle.vb_syntax.specs.declared.keyword.Keyword.TheVariants as word
use Rattle.vb_syntax.specs.declared.symbol.Symbol.TheVariants as sign
use Rattle.vb_syntax.specs.declared.tokens.Token.TheVariants as token
use Rattle.vb_syntax.specs.declared.expression.Expr.TheVariants as e
use Rattle.vb_parse_expr.specs.{Words.{opening, closing, name_of, type_of, word_alone, alone_of, prefix_of}, Types.{SpellsNames, SpellsType, SpellsSimpleType}, Expressions.{Edge, Spells, SpellsPrimary}, Fronts.{IsPrimaryFront, begins_primary}}
use Rattle.vb_parse_decl.specs.{Parts.{IsPrimary, IsType}, Declarators.IsBound, DeclaredReading.{IsPartAt, anything, begins_array, begins_new}}
use Rattle.vb_parse_decl.proofs.{Wholes.primary_front, DeclaredParts.bound_split}

-- each primary begins with a token of those
abbrev pub PrimaryBegins : Type 0
PrimaryBegins = (ts : List Token) (x : Expr) (n : ℕ) → IsPrimaryFront ts x n → (t : Token) × (us : List Token) × (ts ≡ t ∷ us) × (begins_primary t ≡ true)

-- EXPRESSIONS

abbrev BeginsSo : List Token → Type 0
BeginsSo ts = (t : Token) × (us : List Token) × (ts ≡ t ∷ us) × ((begins_primary t ≡ true) ⊎ (is_some (prefix_of t) ≡ true))

expression_begins : PrimaryBegins → {h w : ℕ} {ts : List Token} {x : Expr} → Spells h w ts x → BeginsSo ts
expression_begins begins (Spells.primary {edge = edge} {ts = ts} {x = x} p) =
    let first = begins ts x (length ts) (primary_front ts x (record { edge = edge; spells = p })) in
    (first.0, first.1, first.2, inl first.3)
expression_begins begins (Spells.prefix {ts = ts} t is p stronger) = (t, ts, refl, inr (ap is_some is))
expression_begins begins (Spells.binary {us = us} t is p left right q stronger) =
    let first = expression_begins begins p in
    (first.0, first.1 ++ t ∷ us, ap (λ (vs : List Token). vs ++ t ∷ us) first.2, first.3)

not_closing : (t : Token) → (begins_primary t ≡ true) ⊎ (is_some (prefix_of t) ≡ true) → t ≡ closing → ⊥
not_closing t (inl p) same = let here : begins_primary closing ≡ true = ap begins_primary (sym same) ∙ p in absurd cc
not_closing t (inr p) same = let here : is_some (prefix_of closing) ≡ true = ap (λ (u : Token). is_some (prefix_of u)) (sym same) ∙ p in absurd cc

array_closes : (t : Token) (ts : List Token) → begins_array (opening ∷ t ∷ ts) ≡ true → t ≡ closing
array_closes (token.Symbol sign.CloseParenthesis) ts e = refl
array_closes t ts e = absurd cc

-- nothing stands in the parentheses behind the name of an array
pub no_array_bound : PrimaryBegins → (ts : List Token) (x : Expr) (n : ℕ) → begins_array ts ≡ true → IsPartAt anything IsBound ts x n → ⊥
no_array_bound begins ts x n e p =
    let us : List Token = p.part.0 in
    let whole : ts ≡ opening ∷ (us ++ closing ∷ drop n ts) = sym (take-append-drop n ts) ∙ bound_split (take n ts) (drop n ts) us p.part.1 in
    let first = expression_begins begins p.part.2.spells in
    let there : ts ≡ opening ∷ first.0 ∷ (first.1 ++ closing ∷ drop n ts) =
    whole ∙ ap (λ (vs : List Token). opening ∷ (vs ++ closing ∷ drop n ts)) first.2 in
    not_closing first.0 first.3 (array_closes first.0 (first.1 ++ closing ∷ drop n ts) (ap begins_array (sym there) ∙ e))

-- TYPES

names_begin : {ts : List Token} {ns : List Name} → SpellsNames ts ns → (t : Token) × (us : List Token) × (ts ≡ t ∷ us) × (is_some (name_of t) ≡ true)
names_begin (SpellsNames.one t is) = (t, [], refl, ap is_some is)
names_begin (SpellsNames.more {ts = ts} t is p) = (t, _, refl, ap is_some is)

abbrev BeginsType : List Token → Type 0
BeginsType ts = (t : Token) × (us : List Token) × (ts ≡ t ∷ us) × ((is_some (name_of t) ≡ true) ⊎ (is_some (type_of t) ≡ true))

simple_begins : {dotted : Bool} {ts : List Token} {a : SimpleTypeName} → SpellsSimpleType dotted ts a → BeginsType ts
simple_begins (SpellsSimpleType.built_in t is) = (t, [], refl, inr (ap is_some is))
simple_begins (SpellsSimpleType.qualified {us = us} p q) =
    let first = names_begin p in
    (first.0, first.1 ++ us, ap (λ (vs : List Token). vs ++ us) first.2, inl first.3)

type_begins : {dotted opened : Bool} {ts : List Token} {a : TypeName} → SpellsType dotted opened ts a → BeginsType ts
type_begins (SpellsType.plain p) = simple_begins p
type_begins (SpellsType.array p) =
    let first = simple_begins p in
    (first.0, first.1 ++ opening ∷ closing ∷ [], ap (λ (vs : List Token). vs ++ opening ∷ closing ∷ []) first.2, first.3)

not_new : (t : Token) (us : List Token) → (is_some (name_of t) ≡ true) ⊎ (is_some (type_of t) ≡ true) → begins_new (t ∷ us) ≡ true → ⊥
not_new (token.Keyword word.New) us (inl p) e = absurd cc
not_new (token.Keyword word.New) us (inr p) e = absurd cc
not_new t us p e = absurd cc

-- a type doesn't begin with `New`
pub no_new_type : (ts rest : List Token) (a : TypeName) → IsType ts a → begins_new (ts ++ rest) ≡ true → ⊥
no_new_type ts rest a p e =
    let first = type_begins p.spells in
    let same : ts ++ rest ≡ first.0 ∷ (first.1 ++ rest) = ap (λ (vs : List Token). vs ++ rest) first.2 in
    not_new first.0 (first.1 ++ rest) first.3 (ap begins_new (sym same) ∙ e)

-- NEW OBJECTS

is_creation : Expr → Bool
is_creation (ObjectCreation' a shape all) = true
is_creation x = false

created_word : (w : Keyword) (x : Expr) → word_alone w ≡ Some x → is_creation x ≡ true → ⊥
unfolding is_creation
created_word word.True x is p = let made : e.True ≡ x = cc in let same : is_creation e.True ≡ true = ap is_creation made ∙ p in absurd cc
created_word word.False x is p = let made : e.False ≡ x = cc in let same : is_creation e.False ≡ true = ap is_creation made ∙ p in absurd cc
created_word word.Nothing x is p = let made : e.Nothing ≡ x = cc in let same : is_creation e.Nothing ≡ true = ap is_creation made ∙ p in absurd cc
created_word word.Me x is p = let made : e.Me ≡ x = cc in let same : is_creation e.Me ≡ true = ap is_creation made ∙ p in absurd cc
created_word word.MyBase x is p = let made : e.MyBase ≡ x = cc in let same : is_creation e.MyBase ≡ true = ap is_creation made ∙ p in absurd cc
created_word w x is p = absurd cc

created_alone : (t : Token) (x : Expr) → alone_of t ≡ Some x → is_creation x ≡ true → ⊥
unfolding is_creation
created_alone (token.Integer l) x is p = let made : e.Integer (integer l) ≡ x = cc in let same : is_creation (e.Integer (integer l)) ≡ true = ap is_creation made ∙ p in absurd cc
created_alone (token.Text l) x is p = let made : (e.Text l) ≡ x = cc in let same : is_creation (e.Text l) ≡ true = ap is_creation made ∙ p in absurd cc
created_alone (token.Char l) x is p = let made : (e.Char l) ≡ x = cc in let same : is_creation (e.Char l) ≡ true = ap is_creation made ∙ p in absurd cc
created_alone (token.Keyword w) x is p = created_word w x is p
created_alone t x is p = absurd cc

creation_begins : {edge : Edge} {ts : List Token} {x : Expr} → SpellsPrimary edge ts x → is_creation x ≡ true → (us : List Token) × (ts ≡ token.Keyword word.New ∷ us)
unfolding is_creation
creation_begins (SpellsPrimary.alone {x = x} t is) p = absurd (created_alone t x is p)
creation_begins (SpellsPrimary.creation {ts = ts} q) p = (ts, refl)
creation_begins (SpellsPrimary.creation_with {ts = ts} {us = us} q r) p = (ts ++ us, refl)
creation_begins q p = absurd cc

-- a new object begins with `New`
pub new_begins : (ts rest : List Token) (a : SimpleTypeName) (xs : List Expr) → IsPrimary ts (e.ObjectCreation a xs) → begins_new (ts ++ rest) ≡ true
unfolding is_creation
new_begins ts rest a xs p = let first = creation_begins p.spells refl in ap (λ (vs : List Token). begins_new (vs ++ rest)) first.1
