-- What a `Using` disposes of.
use Rattle.std.proofs.Common.{◌≡◌, ◌⊎◌, inl, inr, ℕ, ◌+◌, ◌-◌, ◌≤◌, Bool, true, false, List, [], ◌∷◌, ◌++◌, length, take, drop, Some, Result, Ok, Err, refl, sym, ap, subst, ◌∙◌, arith, length-drop}
use Rattle.std.proofs.Math.Seq.{take-length}
use Rattle.std.specs.List.{slice_get}
use Rattle.std.specs.Option.{is_some}
use Rattle.vb_text.specs.declared.names.Name.{Name}
use Rattle.vb_syntax.specs.{declared.{keyword.Keyword.Keyword, tokens.{Token.Token, Line.Line}, types.{SimpleTypeName.SimpleTypeName, TypeName.TypeName}, expression.{Expr.{Expr, ObjectCreation', out-Expr, out-roll-Expr, TheOpen.Expr-F, TheVariants.rolls-ObjectCreation}, VariableInitializer.VariableInitializer}, statement.UsingResource.UsingResource, item.Item.Item, words.Context.Context}, Literals.integer}
use Rattle.vb_syntax.specs.declared.keyword.Keyword.TheVariants as word
use Rattle.vb_syntax.specs.declared.tokens.Token.TheVariants as token
use Rattle.vb_syntax.specs.declared.expression.Expr.TheVariants as e
use Rattle.vb_syntax.specs.declared.statement.UsingResource.TheVariants as resource
use Rattle.vb_syntax.specs.declared.item.Item.TheVariants as item
use Rattle.vb_parse_stmt.specs.declared.front.Front.TheVariants as front
use Rattle.vb_parse_expr.specs.{Words.{opening, closing, name_of, type_of, word_alone, alone_of}, Types.{SpellsNames, SpellsType, SpellsSimpleType, SpellsTypeArguments, IsTypeFront}, Expressions.{Edge, Spells, SpellsPrimary}, Fronts.{IsFront, IsPrimaryFront}, TypeReading.most_tokens, declared.error.ParseErr.{ParseErr, TheVariants.{Refused, Memory}}}
use Rattle.vb_parse_decl.specs.{Parts.{reserved, equal, IsExpression, IsPrimary, IsType, Begins, Names, IsParted}, Declarators.IsNew, Answers.Tells}
use Rattle.vb_parse_stmt.specs.{Statements.IsResource, Reading.IsItemFrom, BlockParts.{StandsFrom, IsTypedValue, IsUndeclared, Makes, found_name}, Items.IsOtherItem}
use Rattle.vb_parse_decl.proofs.{Wholes.{expression_front, primary_front}, Parted.{type_before, parted_at, first_dropped, rest_dropped}, Refusals.OneFront}
use Rattle.vb_parse_stmt.proofs.{BlockParted.{EndedBy, OneWhole, no_left, no_parted, not_whole, parted_same, dropped_at}, LoopVariables.{name_found, name_same}, LoopRefusals.type_over_equal, BlockSame.{expression_same, behind_same, pair_same}}

-- A TYPE DOESN'T BEGIN WITH `New`

abbrev BeginsType : List Token → Type 0
BeginsType ts = (t : Token) × (us : List Token) × (ts ≡ t ∷ us) × ((is_some (name_of t) ≡ true) ⊎ (is_some (type_of t) ≡ true))

names_begin : {ts : List Token} {ns : List Name} → SpellsNames ts ns → (t : Token) × (us : List Token) × (ts ≡ t ∷ us) × (is_some (name_of t) ≡ true)
names_begin (SpellsNames.one t is) = (t, [], refl, ap is_some is)
names_begin (SpellsNames.more {ts = ts} t is p) = (t, _, refl, ap is_some is)

simple_begins : {dotted : Bool} {ts : List Token} {a : SimpleTypeName} → SpellsSimpleType dotted ts a → BeginsType ts
simple_begins (SpellsSimpleType.built_in t is) = (t, [], refl, inr (ap is_some is))
simple_begins (SpellsSimpleType.qualified {us = us} p q) =
    let first = names_begin p in (first.0, first.1 ++ us, ap (λ (vs : List Token). vs ++ us) first.2, inl first.3)

type_begins : {dotted opened : Bool} {ts : List Token} {a : TypeName} → SpellsType dotted opened ts a → BeginsType ts
type_begins (SpellsType.plain p) = simple_begins p
type_begins (SpellsType.array p) =
    let first = simple_begins p in
    (first.0, first.1 ++ opening ∷ closing ∷ [], ap (λ (vs : List Token). vs ++ opening ∷ closing ∷ []) first.2, first.3)

not_new : (t : Token) → t ≡ reserved word.New → (is_some (name_of t) ≡ true) ⊎ (is_some (type_of t) ≡ true) → ⊥
not_new t same (inl p) = let told : is_some (name_of t) ≡ false = ap (λ (u : Token). is_some (name_of u)) same in cc
not_new t same (inr p) = let told : is_some (type_of t) ≡ false = ap (λ (u : Token). is_some (type_of u)) same in cc

no_new_typed : (ts us : List Token) (a : TypeName) (x : Expr) → ts ≡ reserved word.New ∷ us → IsParted equal IsType IsExpression ts a x → ⊥
no_new_typed ts us a x here p =
    let left = p.is_left in
    let first = type_begins left.spells in
    let whole : ts ≡ first.0 ∷ (first.1 ++ equal ∷ p.right) = p.split ∙ ap (λ (vs : List Token). vs ++ equal ∷ p.right) first.2 in
    not_new first.0 (cc (whole, here)) first.3

-- A NEW OBJECT BEGINS WITH `New`

is_creation : Expr → Bool
is_creation (ObjectCreation' a shape all) = true
is_creation x = false

created_word : (w : Keyword) (x : Expr) → word_alone w ≡ Some x → is_creation x ≡ true → ⊥
unfolding is_creation
created_word word.True x is p = let made : e.True ≡ x = cc in let same : is_creation e.True ≡ true = ap is_creation made ∙ p in absurd cc
created_word word.False x is p = let made : e.False ≡ x = cc in let same : is_creation e.False ≡ true = ap is_creation made ∙ p in absurd cc
created_word word.Nothing x is p = let made : e.Nothing ≡ x = cc in let same : is_creation e.Nothing ≡ true = ap is_creation made ∙ p in absurd cc
created_word word.Me x is p = let made : e.Me ≡ x = cc in let same : is_creation e.Me ≡ true = ap is_creation made ∙ p in absurd cc
created_word word.MyBase x is p = let made : e.MyBase ≡ x = cc in let same : is_creation e.MyBase ≡ true = ap is_creation made ∙ p in absurd cc
created_word w x is p = absurd cc

created_alone : (t : Token) (x : Expr) → alone_of t ≡ Some x → is_creation x ≡ true → ⊥
unfolding is_creation
created_alone (token.Integer l) x is p = let made : e.Integer (integer l) ≡ x = cc in let same : is_creation (e.Integer (integer l)) ≡ true = ap is_creation made ∙ p in absurd cc
created_alone (token.Text l) x is p = let made : e.Text l ≡ x = cc in let same : is_creation (e.Text l) ≡ true = ap is_creation made ∙ p in absurd cc
created_alone (token.Char l) x is p = let made : e.Char l ≡ x = cc in let same : is_creation (e.Char l) ≡ true = ap is_creation made ∙ p in absurd cc
created_alone (token.Keyword w) x is p = created_word w x is p
created_alone t x is p = absurd cc

creation_begins : {edge : Edge} {ts : List Token} {x : Expr} → SpellsPrimary edge ts x → is_creation x ≡ true → (us : List Token) × (ts ≡ token.Keyword word.New ∷ us)
unfolding is_creation
creation_begins (SpellsPrimary.alone {x = x} t is) p = absurd (created_alone t x is p)
creation_begins (SpellsPrimary.creation {ts = ts} q) p = (ts, refl)
creation_begins (SpellsPrimary.creation_with {ts = ts} {us = us} q r) p = (ts ++ us, refl)
creation_begins q p = absurd cc

new_begins : (ts : List Token) (a : SimpleTypeName) (xs : List Expr) → IsPrimary ts (e.ObjectCreation a xs) → (us : List Token) × (ts ≡ reserved word.New ∷ us)
unfolding is_creation
new_begins ts a xs p = creation_begins p.spells refl

-- A NAME AND `As` BEGIN NO EXPRESSION

no_declared_value : OneFront IsFront → (ts us : List Token) (t : Token) (n : Name) (x : Expr) → length ts ≤ most_tokens → ts ≡ t ∷ reserved word.As ∷ us → name_of t ≡ Some n
    → IsExpression ts x → ⊥
no_declared_value one ts us t n x few split named p =
    let name : IsFront (t ∷ reserved word.As ∷ us) (e.SimpleName n []) 1 = record {
      within = omega arith;
      strength = 0;
      weakest = 0;
      spells = Spells.primary (SpellsPrimary.name t named SpellsTypeArguments.none);
      over = refl;
    } in
    let there = subst (λ (vs : List Token). IsFront vs (e.SimpleName n []) 1) (sym split) name in
    let same = one ts (e.SimpleName n []) x 1 (length ts) few there (expression_front ts x p) in
    omega (arith, same.1, ap length split)

-- READINGS

third : (tokens us vs : List Token) (t : Token) → drop 1 tokens ≡ t ∷ us → us ≡ reserved word.As ∷ vs → drop 3 tokens ≡ vs
third tokens us vs t split split' =
    rest_dropped tokens vs 2 (reserved word.As) (rest_dropped tokens us 1 t split ∙ split')

value_at_name : OneFront IsFront → (tokens : List Token) (n : Name) (x : Expr) → length tokens ≤ most_tokens → found_name (slice_get tokens 1) ≡ Some n
    → slice_get tokens 2 ≡ Some (reserved word.As) → IsExpression (drop 1 tokens) x → ⊥
value_at_name one tokens n x few named typed p =
    let found = name_found tokens 1 n named in
    no_declared_value one (drop 1 tokens) (drop 3 tokens) found.0 n x (omega (arith, few, length-drop 1 tokens))
    (found.1 ∙ ap (λ (us : List Token). found.0 ∷ us) (dropped_at tokens 2 (reserved word.As) typed)) found.2 p

pub no_new_resource : OneFront IsFront → (tokens : List Token) (n : Name) → length tokens ≤ most_tokens → found_name (slice_get tokens 1) ≡ Some n
    → slice_get tokens 2 ≡ Some (reserved word.As) → slice_get tokens 3 ≡ Some (reserved word.New)
    → ((q : SimpleTypeName × List Expr) → IsNew (drop 3 tokens) q → ⊥) → (r : UsingResource) → IsResource (drop 1 tokens) r → ⊥
no_new_resource one tokens n few named typed new none (resource.AsNew m a xs) (t, us, split, named', (vs, split', p)) =
    none (a, xs) (subst (λ (ws : List Token). IsNew ws (a, xs)) (sym (third tokens us vs t split split')) p)
no_new_resource one tokens n few named typed new none (resource.As m a x) (t, us, split, named', (vs, split', p)) =
    no_new_typed vs (drop 4 tokens) a x (sym (third tokens us vs t split split') ∙ dropped_at tokens 3 (reserved word.New) new) p
no_new_resource one tokens n few named typed new none (resource.Value x) p = value_at_name one tokens n x few named typed p

pub no_typed_resource : OneFront IsFront → (tokens : List Token) (n : Name) → length tokens ≤ most_tokens → found_name (slice_get tokens 1) ≡ Some n
    → slice_get tokens 2 ≡ Some (reserved word.As) → (slice_get tokens 3 ≡ Some (reserved word.New) → ⊥)
    → ((q : TypeName × Expr) → IsTypedValue (drop 3 tokens) q → ⊥) → (r : UsingResource) → IsResource (drop 1 tokens) r → ⊥
no_typed_resource one tokens n few named typed other none (resource.AsNew m a xs) (t, us, split, named', (vs, split', p)) =
    let first = new_begins vs a xs p in
    other (first_dropped tokens first.0 3 (reserved word.New) (third tokens us vs t split split' ∙ first.1))
no_typed_resource one tokens n few named typed other none (resource.As m a x) (t, us, split, named', (vs, split', p)) =
    none (a, x) (subst (λ (ws : List Token). IsTypedValue ws (a, x)) (sym (third tokens us vs t split split')) p)
no_typed_resource one tokens n few named typed other none (resource.Value x) p = value_at_name one tokens n x few named typed p

declared_there : (tokens us vs : List Token) (t : Token) (n : Name) → IsUndeclared tokens → drop 1 tokens ≡ t ∷ us → name_of t ≡ Some n → us ≡ reserved word.As ∷ vs → ⊥
declared_there tokens us vs t n other split named split' =
    other n (ap found_name (first_dropped tokens us 1 t split) ∙ named)
    (first_dropped tokens vs 2 (reserved word.As) (rest_dropped tokens us 1 t split ∙ split'))

pub no_value_resource : (tokens : List Token) → IsUndeclared tokens → ((x : Expr) → IsExpression (drop 1 tokens) x → ⊥) → (r : UsingResource)
    → IsResource (drop 1 tokens) r → ⊥
no_value_resource tokens other none (resource.AsNew m a xs) (t, us, split, named, (vs, split', p)) = declared_there tokens us vs t m other split named split'
no_value_resource tokens other none (resource.As m a x) (t, us, split, named, (vs, split', p)) = declared_there tokens us vs t m other split named split'
no_value_resource tokens other none (resource.Value x) p = none x p

pub no_using : (c : Context) (ts : List Token) → ((r : UsingResource) → IsResource (drop 1 ts) r → ⊥) → (x : Item) → IsItemFrom c front.Using ts x → ⊥
no_using c ts none (item.Using r) (e, (us, split, p)) =
    let rest : us ≡ drop 1 ts = sym (ap (λ (ws : List Token). drop 1 ws) split) in
    none r (subst (λ (ws : List Token). IsResource ws r) rest p)
no_using c ts none x (e, p) = absurd cc

pub named_as : (tokens : List Token) (n : Name) (P : List Token → Type 0) → found_name (slice_get tokens 1) ≡ Some n → slice_get tokens 2 ≡ Some (reserved word.As)
    → P (drop 3 tokens) → Names n (Begins word.As P) (drop 1 tokens)
named_as tokens n P named typed p =
    let found = name_found tokens 1 n named in (
      found.0,
      drop 2 tokens,
      found.1,
      found.2,
      (drop 3 tokens, dropped_at tokens 2 (reserved word.As) typed, p),
    )

-- A TYPE AND A VALUE

pub type_equal : EndedBy equal IsType IsTypeFront
type_equal left right a p = type_before equal type_over_equal left right a p

pub no_typed_value : (from : ℕ) (ts : List Token) → ((p : TypeName × ℕ) → StandsFrom IsTypeFront from ts p → ⊥) → (q : TypeName × Expr) → IsTypedValue ts q → ⊥
no_typed_value from ts none q p = no_left equal IsType IsExpression IsTypeFront type_equal from ts none q.0 q.1 p

pub other_typed_value : OneFront IsTypeFront → (tokens : List Token) (from behind : ℕ) (a : TypeName) → length tokens ≤ most_tokens
    → StandsFrom IsTypeFront from (drop from tokens) (a, behind)
    → ((x : Expr) → slice_get tokens behind ≡ Some equal → IsExpression (drop (behind + 1) tokens) x → ⊥)
    → (q : TypeName × Expr) → IsTypedValue (drop from tokens) q → ⊥
other_typed_value one tokens from behind a few (under, found) none q p =
    no_parted equal IsType IsExpression IsTypeFront type_equal one tokens from behind a few under found none q.0 q.1 p

pub typed_value_found : (tokens : List Token) (from behind : ℕ) (a : TypeName) (x : Expr) → StandsFrom IsTypeFront from (drop from tokens) (a, behind)
    → slice_get tokens behind ≡ Some equal → IsExpression (drop (behind + 1) tokens) x → IsTypedValue (drop from tokens) (a, x)
typed_value_found tokens from behind a x (under, found) at p =
    parted_at equal IsType IsExpression tokens from behind a x under at (record { dotted = found.dotted; opened = found.opened; spells = found.spells }) p

-- NEW OBJECTS

pub no_new : (ts : List Token) → ((x : Expr) (n : ℕ) → IsPrimaryFront ts x n → ⊥) → (q : SimpleTypeName × List Expr) → IsNew ts q → ⊥
no_new ts none q p = none (e.ObjectCreation q.0 q.1) (length ts) (primary_front ts (e.ObjectCreation q.0 q.1) p)

pub short_new : OneFront IsPrimaryFront → (tokens : List Token) (from behind : ℕ) (x : Expr) → length tokens ≤ most_tokens → from ≤ length tokens → from ≤ behind
    → IsPrimaryFront (drop from tokens) x (behind - from) → (behind ≡ length tokens → ⊥) → (q : SimpleTypeName × List Expr) → IsNew (drop from tokens) q → ⊥
short_new one tokens from behind x few inside under found short q p =
    not_whole IsPrimaryFront one tokens from behind x few inside under found short (e.ObjectCreation q.0 q.1) (primary_front (drop from tokens) (e.ObjectCreation q.0 q.1) p)

pub other_new : OneFront IsPrimaryFront → (tokens : List Token) (from behind : ℕ) (x : Expr) → length tokens ≤ most_tokens
    → IsPrimaryFront (drop from tokens) x (behind - from) → ((a : SimpleTypeName) (xs : List Expr) → x ≡ e.ObjectCreation a xs → ⊥)
    → (q : SimpleTypeName × List Expr) → IsNew (drop from tokens) q → ⊥
other_new one tokens from behind x few found other q p =
    let ts = drop from tokens in
    other q.0 q.1 (one ts x (e.ObjectCreation q.0 q.1) (behind - from) (length ts) (omega (arith, few, length-drop from tokens)) found
    (primary_front ts (e.ObjectCreation q.0 q.1) p)).0

pub new_told : OneFront IsPrimaryFront → (line : Line) (from behind : ℕ) (x : Expr) → length line.tokens ≤ most_tokens → from ≤ behind
    → IsPrimaryFront (drop from line.tokens) x (behind - from) → behind ≡ length line.tokens → (ts : List Token) (r : Result (SimpleTypeName × List Expr) ParseErr)
    → Tells (Makes x) line ts r → Tells IsNew line (drop from line.tokens) r
new_told one line from behind x few under found ends ts (Ok q) made =
    let us = drop from line.tokens in
    let all : take (behind - from) us ≡ us = ap (λ (n : ℕ). take n us) (omega (arith, ends, length-drop from line.tokens)) ∙ take-length us in
    let whole : IsPrimary us x = record { edge = found.edge; spells = subst (λ (ws : List Token). SpellsPrimary found.edge ws x) all found.spells } in
    subst (λ (y : Expr). IsPrimary us y) made whole
new_told one line from behind x few under found ends ts (Err (Refused r)) told =
    (other_new one line.tokens from behind x few found (λ a xs same. told.0 (a, xs) same), told.1)
new_told one line from behind x few under found ends ts (Err Memory) told = tt

-- TWO READINGS

arguments_at : Expr-F Expr VariableInitializer → List Expr
arguments_at (Expr-F.ObjectCreation a xs) = xs
arguments_at x = []

arguments_of : Expr → List Expr
arguments_of x = arguments_at (out-Expr x)

arguments_are : (a : SimpleTypeName) (xs : List Expr) → arguments_of (e.ObjectCreation a xs) ≡ xs
unfolding arguments_of arguments_at
arguments_are a xs = ap arguments_of (sym (rolls-ObjectCreation a xs)) ∙ ap arguments_at (out-roll-Expr (Expr-F.ObjectCreation a xs))

creation_parts : (a b : SimpleTypeName) (xs ys : List Expr) → e.ObjectCreation a xs ≡ e.ObjectCreation b ys → (a ≡ b) × (xs ≡ ys)
creation_parts a b xs ys same = (cc, sym (arguments_are a xs) ∙ ap arguments_of same ∙ arguments_are b ys)

new_same : OneFront IsPrimaryFront → OneWhole IsNew
new_same one ts q r few p p' =
    pair_same q r (creation_parts q.0 r.0 q.1 r.1
    (one ts (e.ObjectCreation q.0 q.1) (e.ObjectCreation r.0 r.1) (length ts) (length ts) few (primary_front ts _ p) (primary_front ts _ p')).0)

typed_value_same : OneFront IsTypeFront → OneFront IsFront → OneWhole IsTypedValue
typed_value_same types one ts q r few p p' =
    pair_same q r (parted_same equal IsType IsExpression IsTypeFront type_equal types (expression_same one) ts q.0 r.0 q.1 r.1 few p p')

-- behind a name and `As`, two readings of one kind are the same
named_as_same : {X : Type 0} (P : List Token → X → Type 0) → OneWhole P → (ts : List Token) (n m : Name) (x y : X) → length ts ≤ most_tokens
    → Names n (Begins word.As (λ us. P us x)) ts → Names m (Begins word.As (λ us. P us y)) ts → (n ≡ m) × (x ≡ y)
named_as_same {X} P one ts n m x y few (t, us, split, named, (vs, split', p)) (t', us', split″, named', (vs', split‴, q)) =
    let first : t ≡ t' = cc in
    let rest : vs ≡ vs' = cc in (
      name_same t t' n m first named named',
      one vs' x y (omega (arith, few, ap length split″, ap length split‴)) (subst (λ (ws : List Token). P ws x) rest p) q,
    )

new_not_typed : (ts : List Token) (n m : Name) (a : SimpleTypeName) (b : TypeName) (xs : List Expr) (x : Expr) → IsResource ts (resource.AsNew n a xs)
    → IsResource ts (resource.As m b x) → ⊥
new_not_typed ts n m a b xs x (t, us, split, named, (vs, split', p)) (t', us', split″, named', (vs', split‴, q)) =
    let first = new_begins vs a xs p in
    let rest : vs ≡ vs' = cc in
    no_new_typed vs' first.0 b x (sym rest ∙ first.1) q

named_not_value : OneFront IsFront → (ts : List Token) (n : Name) (P : List Token → Type 0) (x : Expr) → length ts ≤ most_tokens → Names n (Begins word.As P) ts
    → IsExpression ts x → ⊥
named_not_value one ts n P x few (t, us, split, named, (vs, split', p)) q =
    no_declared_value one ts vs t n x few (split ∙ ap (λ (ws : List Token). t ∷ ws) split') named q

resource_same : OneFront IsFront → OneFront IsPrimaryFront → OneFront IsTypeFront → OneWhole IsResource
resource_same one primaries types ts (resource.AsNew n a xs) (resource.AsNew m b ys) few p q =
    let same = named_as_same IsNew (new_same primaries) ts n m (a, xs) (b, ys) few p q in
    let class : a ≡ b = ap (λ (z : SimpleTypeName × List Expr). z.0) same.1 in
    let arguments : xs ≡ ys = ap (λ (z : SimpleTypeName × List Expr). z.1) same.1 in cc (same.0, class, arguments)
resource_same one primaries types ts (resource.As n a x) (resource.As m b y) few p q =
    let same = named_as_same IsTypedValue (typed_value_same types one) ts n m (a, x) (b, y) few p q in
    let declared : a ≡ b = ap (λ (z : TypeName × Expr). z.0) same.1 in
    let value : x ≡ y = ap (λ (z : TypeName × Expr). z.1) same.1 in cc (same.0, declared, value)
resource_same one primaries types ts (resource.Value x) (resource.Value y) few p q = ap (λ (z : Expr). resource.Value z) (expression_same one ts x y few p q)
resource_same one primaries types ts (resource.AsNew n a xs) (resource.As m b y) few p q = absurd (new_not_typed ts n m a b xs y p q)
resource_same one primaries types ts (resource.As m b y) (resource.AsNew n a xs) few p q = absurd (new_not_typed ts n m a b xs y q p)
resource_same one primaries types ts (resource.AsNew n a xs) (resource.Value x) few p q =
    absurd (named_not_value one ts n (λ us. IsNew us (a, xs)) x few p q)
resource_same one primaries types ts (resource.Value x) (resource.AsNew n a xs) few p q =
    absurd (named_not_value one ts n (λ us. IsNew us (a, xs)) x few q p)
resource_same one primaries types ts (resource.As n a y) (resource.Value x) few p q =
    absurd (named_not_value one ts n (λ us. IsTypedValue us (a, y)) x few p q)
resource_same one primaries types ts (resource.Value x) (resource.As n a y) few p q =
    absurd (named_not_value one ts n (λ us. IsTypedValue us (a, y)) x few q p)

pub using_same : OneFront IsFront → OneFront IsPrimaryFront → OneFront IsTypeFront → (c : Context) (ts : List Token) (r s : UsingResource)
    → length ts ≤ most_tokens → IsOtherItem c ts (item.Using r) → IsOtherItem c ts (item.Using s) → r ≡ s
using_same one primaries types c ts r s few p q = behind_same word.Using IsResource (resource_same one primaries types) ts r s few p q
