-- The variable of a loop or of a `Catch` stands at the front, in one way at most.
use Rattle.std.proofs.Common.{◌≡◌, ℕ, suc, ◌+◌, ◌-◌, ◌≤◌, true, false, List, ◌∷◌, ◌++◌, length, take, drop, Option, Some, None, refl, sym, ap, subst, ◌∙◌, arith}
use Rattle.std.specs.List.{slice_get}
use Rattle.vb_text.specs.declared.names.Name.{Name}
use Rattle.vb_syntax.specs.declared.keyword.Keyword.TheVariants as word
use Rattle.vb_syntax.specs.declared.{tokens.Token.Token, types.TypeName.TypeName, statement.{LoopControlVariable.LoopControlVariable, CatchVariable.CatchVariable}}
use Rattle.vb_syntax.specs.declared.tokens.Token.TheVariants as token
use Rattle.vb_parse_expr.specs.{Words.name_of, Types.IsTypeFront, TypeReading.most_tokens}
use Rattle.vb_parse_decl.specs.Parts.{reserved, IsType, IsOptional, Begins}
use Rattle.vb_parse_stmt.specs.{Statements.{IsVariable, IsCatchVariable}, BlockParts.{StandsFrom, DeclaredFront, IsVariableFront, IsCatchVariableFront, begins_as, found_name}}
use Rattle.vb_parse_decl.proofs.{Parted.{EndsType, type_before, first_dropped, rest_dropped}, Refusals.OneFront}
use Rattle.vb_parse_stmt.proofs.BlockParted.{EndedBy, dropped_at}

-- `As` and a type, or nothing
abbrev pub IsDeclared : List Token → Option TypeName → Type 0
IsDeclared ts a = IsOptional (λ us b. Begins word.As (λ vs. IsType vs b) us) ts a

-- WHERE IT ENDS

abbrev pub EndsName : Token → Type 0
EndsName t = (ts : List Token) → begins_as (t ∷ ts) ≡ false

declared_ended : (t : Token) → EndsType t → EndsName t → (us right : List Token) (n : ℕ) (a : Option TypeName) → n ≡ length us + 1 → IsDeclared us a
    → DeclaredFront a n (us ++ t ∷ right)
declared_ended t ends other us right n None size p =
    (omega (arith, size, ap length p), ap (λ (ws : List Token). begins_as (ws ++ t ∷ right)) p ∙ other right)
declared_ended t ends other us right n (Some a) size (ws, split, p) =
    let long : length us ≡ length ws + 1 = omega (arith, ap length split) in
    let shorter : length ws ≡ n - 2 = omega (arith, size, long) in (
      ws ++ t ∷ right,
      ap (λ (xs : List Token). xs ++ t ∷ right) split,
      (omega (arith, size, long), subst (λ (k : ℕ). IsTypeFront (ws ++ t ∷ right) a k) shorter (type_before t ends ws right a p)),
    )

pub variable_ended : (t : Token) → EndsType t → EndsName t → EndedBy t IsVariable IsVariableFront
variable_ended t ends other left right v (u, us, split, named, p) = (
  u,
  us ++ t ∷ right,
  ap (λ (ws : List Token). ws ++ t ∷ right) split,
  named,
  declared_ended t ends other us right (length left) v.declared (omega (arith, ap length split)) p,
)

pub catch_variable_ended : (t : Token) → EndsType t → EndsName t → EndedBy t IsCatchVariable IsCatchVariableFront
catch_variable_ended t ends other left right v (u, us, split, named, p) = (
  u,
  us ++ t ∷ right,
  ap (λ (ws : List Token). ws ++ t ∷ right) split,
  named,
  declared_ended t ends other us right (length left) (Some v.declared) (omega (arith, ap length split)) p,
)

-- WHAT IS TAKEN

declared_taken : (us : List Token) (n : ℕ) (a : Option TypeName) → DeclaredFront a n us → (k : ℕ) × (n ≡ suc k) × IsDeclared (take k us) a
declared_taken us n None (e, other) = (0, e, refl)
declared_taken us n (Some a) (ws, split, (two, f)) = (
  suc (n - 2),
  omega (arith, two),
  (take (n - 2) ws, ap (λ (xs : List Token). take (suc (n - 2)) xs) split, record { dotted = f.dotted; opened = f.opened; spells = f.spells }),
)

pub variable_taken : (ts : List Token) (v : LoopControlVariable) (n : ℕ) → IsVariableFront ts v n → IsVariable (take n ts) v
variable_taken ts v n (t, us, split, named, p) =
    let taken = declared_taken us n v.declared p in
    let first : take n ts ≡ t ∷ take taken.0 us = ap (λ (k : ℕ). take k ts) taken.1 ∙ ap (λ (xs : List Token). take (suc taken.0) xs) split in
    (t, take taken.0 us, first, named, taken.2)

pub catch_variable_taken : (ts : List Token) (v : CatchVariable) (n : ℕ) → IsCatchVariableFront ts v n → IsCatchVariable (take n ts) v
catch_variable_taken ts v n (t, us, split, named, p) =
    let taken = declared_taken us n (Some v.declared) p in
    let first : take n ts ≡ t ∷ take taken.0 us = ap (λ (k : ℕ). take k ts) taken.1 ∙ ap (λ (xs : List Token). take (suc taken.0) xs) split in
    (t, take taken.0 us, first, named, taken.2)

-- ONE WAY AT MOST

pub name_same : (t u : Token) (n m : Name) → t ≡ u → name_of t ≡ Some n → name_of u ≡ Some m → n ≡ m
name_same t u n m e p q = let same : name_of t ≡ name_of u = ap name_of e in cc

declared_one : OneFront IsTypeFront → (us : List Token) (a b : Option TypeName) (n m : ℕ) → length us ≤ most_tokens → DeclaredFront a n us → DeclaredFront b m us
    → (a ≡ b) × (n ≡ m)
declared_one one us None None n m few (e, p) (e', q) = (refl, e ∙ sym e')
declared_one one us None (Some b) n m few (e, p) (ws, split, q) = let told : begins_as us ≡ true = ap begins_as split in absurd cc
declared_one one us (Some a) None n m few (ws, split, q) (e, p) = let told : begins_as us ≡ true = ap begins_as split in absurd cc
declared_one one us (Some a) (Some b) n m few (ws, split, (two, f)) (ws', split', (two', f')) =
    let rest : ws ≡ ws' = cc in
    let small : length ws' ≤ most_tokens = omega (arith, few, ap length split') in
    let same = one ws' a b (n - 2) (m - 2) small (subst (λ (xs : List Token). IsTypeFront xs a (n - 2)) rest f) f' in
    (ap (λ (x : TypeName). Some x) same.0, omega (arith, same.1, two, two'))

variable_same : (v w : LoopControlVariable) → v.name ≡ w.name → v.declared ≡ w.declared → v ≡ w
variable_same v w e f = λ i. record { name = e i; declared = f i }

catch_variable_same : (v w : CatchVariable) → v.name ≡ w.name → v.declared ≡ w.declared → v ≡ w
catch_variable_same v w e f = λ i. record { name = e i; declared = f i }

some_same : (a b : TypeName) → Some a ≡ Some b → a ≡ b
some_same a b e = cc

pub variable_one : OneFront IsTypeFront → OneFront IsVariableFront
variable_one one ts v w n m few (t, us, split, named, p) (t', us', split', named', q) =
    let first : t ≡ t' = cc in
    let rest : us ≡ us' = cc in
    let there = subst (λ (xs : List Token). DeclaredFront v.declared n xs) rest p in
    let same = declared_one one us' v.declared w.declared n m (omega (arith, few, ap length split')) there q in
    (variable_same v w (name_same t t' v.name w.name first named named') same.0, same.1)

pub catch_variable_one : OneFront IsTypeFront → OneFront IsCatchVariableFront
catch_variable_one one ts v w n m few (t, us, split, named, p) (t', us', split', named', q) =
    let first : t ≡ t' = cc in
    let rest : us ≡ us' = cc in
    let there = subst (λ (xs : List Token). DeclaredFront (Some v.declared) n xs) rest p in
    let same = declared_one one us' (Some v.declared) (Some w.declared) n m (omega (arith, few, ap length split')) there q in
    (catch_variable_same v w (name_same t t' v.name w.name first named named') (some_same v.declared w.declared same.0), same.1)

-- HOW IT IS FOUND

named_at : (tokens : List Token) (at : ℕ) (n : Name) (o : Option Token) → slice_get tokens at ≡ o → found_name o ≡ Some n
    → (t : Token) × (drop at tokens ≡ t ∷ drop (at + 1) tokens) × (name_of t ≡ Some n)
named_at tokens at n None here e = absurd cc
named_at tokens at n (Some t) here e = (t, dropped_at tokens at t here, e)

pub name_found : (tokens : List Token) (at : ℕ) (n : Name) → found_name (slice_get tokens at) ≡ Some n
    → (t : Token) × (drop at tokens ≡ t ∷ drop (at + 1) tokens) × (name_of t ≡ Some n)
name_found tokens at n e = named_at tokens at n (slice_get tokens at) refl e

not_as : (ts : List Token) → ((us : List Token) → ts ≡ reserved word.As ∷ us → ⊥) → begins_as ts ≡ false
not_as (token.Keyword word.As ∷ ts) other = absurd (other ts refl)
not_as ts other = refl

pub variable_alone : (tokens : List Token) (from : ℕ) (n : Name) → found_name (slice_get tokens from) ≡ Some n
    → (slice_get tokens (from + 1) ≡ Some (reserved word.As) → ⊥)
    → StandsFrom IsVariableFront from (drop from tokens) (record { name = n; declared = None }, from + 1)
variable_alone tokens from n e other =
    let found = name_found tokens from n e in (
      omega arith,
      (
        found.0,
        drop (from + 1) tokens,
        found.1,
        found.2,
        (omega arith, not_as (drop (from + 1) tokens) (λ us split. other (first_dropped tokens us (from + 1) (reserved word.As) split))),
      ),
    )

declared_found : (tokens : List Token) (from behind : ℕ) (a : TypeName) → slice_get tokens (from + 1) ≡ Some (reserved word.As)
    → StandsFrom IsTypeFront (from + 2) (drop (from + 2) tokens) (a, behind) → DeclaredFront (Some a) (behind - from) (drop (from + 1) tokens)
declared_found tokens from behind a at (under, f) =
    let place : (from + 1) + 1 ≡ from + 2 = omega arith in
    let size : behind - (from + 2) ≡ (behind - from) - 2 = omega arith in (
      drop (from + 2) tokens,
      dropped_at tokens (from + 1) (reserved word.As) at ∙ ap (λ (k : ℕ). reserved word.As ∷ drop k tokens) place,
      (omega (arith, under), subst (λ (k : ℕ). IsTypeFront (drop (from + 2) tokens) a k) size f),
    )

pub variable_declared : (tokens : List Token) (from behind : ℕ) (n : Name) (a : TypeName) → found_name (slice_get tokens from) ≡ Some n
    → slice_get tokens (from + 1) ≡ Some (reserved word.As) → StandsFrom IsTypeFront (from + 2) (drop (from + 2) tokens) (a, behind)
    → StandsFrom IsVariableFront from (drop from tokens) (record { name = n; declared = Some a }, behind)
variable_declared tokens from behind n a e at told =
    let found = name_found tokens from n e in
    (omega (arith, told.0), (found.0, drop (from + 1) tokens, found.1, found.2, declared_found tokens from behind a at told))

pub catch_variable_declared : (tokens : List Token) (from behind : ℕ) (n : Name) (a : TypeName) → found_name (slice_get tokens from) ≡ Some n
    → slice_get tokens (from + 1) ≡ Some (reserved word.As) → StandsFrom IsTypeFront (from + 2) (drop (from + 2) tokens) (a, behind)
    → StandsFrom IsCatchVariableFront from (drop from tokens) (record { name = n; declared = a }, behind)
catch_variable_declared tokens from behind n a e at told =
    let found = name_found tokens from n e in
    (omega (arith, told.0), (found.0, drop (from + 1) tokens, found.1, found.2, declared_found tokens from behind a at told))

-- NONE

no_name : (tokens us : List Token) (from : ℕ) (t : Token) (n : Name) → found_name (slice_get tokens from) ≡ None → drop from tokens ≡ t ∷ us → name_of t ≡ Some n → ⊥
no_name tokens us from t n e split named =
    let at : found_name (slice_get tokens from) ≡ name_of t = ap found_name (first_dropped tokens us from t split) in absurd cc

pub no_variable_name : (tokens : List Token) (from : ℕ) → found_name (slice_get tokens from) ≡ None
    → (p : LoopControlVariable × ℕ) → StandsFrom IsVariableFront from (drop from tokens) p → ⊥
no_variable_name tokens from e p (under, (t, us, split, named, q)) = no_name tokens us from t p.0.name e split named

pub no_catch_variable_name : (tokens : List Token) (from : ℕ) → found_name (slice_get tokens from) ≡ None
    → (p : CatchVariable × ℕ) → StandsFrom IsCatchVariableFront from (drop from tokens) p → ⊥
no_catch_variable_name tokens from e p (under, (t, us, split, named, q)) = no_name tokens us from t p.0.name e split named

no_declared : (tokens us : List Token) (from n : ℕ) (a : TypeName) (t : Token) → drop from tokens ≡ t ∷ us
    → ((p : TypeName × ℕ) → StandsFrom IsTypeFront (from + 2) (drop (from + 2) tokens) p → ⊥) → DeclaredFront (Some a) n us → ⊥
no_declared tokens us from n a t split none (ws, split', (two, f)) =
    let second : drop (from + 1) tokens ≡ reserved word.As ∷ ws = rest_dropped tokens us from t split ∙ split' in
    let place : (from + 1) + 1 ≡ from + 2 = omega arith in
    let third : drop (from + 2) tokens ≡ ws = ap (λ (k : ℕ). drop k tokens) (sym place) ∙ rest_dropped tokens ws (from + 1) (reserved word.As) second in
    let size : n - 2 ≡ ((from + 2) + (n - 2)) - (from + 2) = omega arith in
    let there = subst (λ (xs : List Token). IsTypeFront xs a (n - 2)) (sym third) f in
    none (a, (from + 2) + (n - 2)) (omega arith, subst (λ (k : ℕ). IsTypeFront (drop (from + 2) tokens) a k) size there)

not_declared : (tokens us : List Token) (from n : ℕ) (a : TypeName) (t : Token) → drop from tokens ≡ t ∷ us
    → (slice_get tokens (from + 1) ≡ Some (reserved word.As) → ⊥) → DeclaredFront (Some a) n us → ⊥
not_declared tokens us from n a t split other (ws, split', q) =
    other (first_dropped tokens ws (from + 1) (reserved word.As) (rest_dropped tokens us from t split ∙ split'))

no_variable_of : (tokens us : List Token) (from n : ℕ) (a : Option TypeName) (t : Token) → drop from tokens ≡ t ∷ us
    → slice_get tokens (from + 1) ≡ Some (reserved word.As)
    → ((p : TypeName × ℕ) → StandsFrom IsTypeFront (from + 2) (drop (from + 2) tokens) p → ⊥) → DeclaredFront a n us → ⊥
no_variable_of tokens us from n None t split at none (e, other) =
    let there : us ≡ reserved word.As ∷ drop ((from + 1) + 1) tokens = sym (rest_dropped tokens us from t split) ∙ dropped_at tokens (from + 1) (reserved word.As) at in
    let told : begins_as us ≡ true = ap begins_as there in absurd cc
no_variable_of tokens us from n (Some a) t split at none q = no_declared tokens us from n a t split none q

pub no_variable_type : (tokens : List Token) (from : ℕ) → slice_get tokens (from + 1) ≡ Some (reserved word.As)
    → ((p : TypeName × ℕ) → StandsFrom IsTypeFront (from + 2) (drop (from + 2) tokens) p → ⊥)
    → (p : LoopControlVariable × ℕ) → StandsFrom IsVariableFront from (drop from tokens) p → ⊥
no_variable_type tokens from at none p (under, (t, us, split, named, q)) = no_variable_of tokens us from (p.1 - from) p.0.declared t split at none q

pub no_catch_variable_type : (tokens : List Token) (from : ℕ) → ((p : TypeName × ℕ) → StandsFrom IsTypeFront (from + 2) (drop (from + 2) tokens) p → ⊥)
    → (p : CatchVariable × ℕ) → StandsFrom IsCatchVariableFront from (drop from tokens) p → ⊥
no_catch_variable_type tokens from none p (under, (t, us, split, named, q)) = no_declared tokens us from (p.1 - from) p.0.declared t split none q

pub no_catch_variable_as : (tokens : List Token) (from : ℕ) → (slice_get tokens (from + 1) ≡ Some (reserved word.As) → ⊥)
    → (p : CatchVariable × ℕ) → StandsFrom IsCatchVariableFront from (drop from tokens) p → ⊥
no_catch_variable_as tokens from other p (under, (t, us, split, named, q)) = not_declared tokens us from (p.1 - from) p.0.declared t split other q
