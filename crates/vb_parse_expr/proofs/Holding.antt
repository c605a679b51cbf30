-- Which operators that wait take the operand behind them.
use Rattle.std.proofs.Common.{◌≡◌, ℕ, suc, ◌<◌, ◌≤◌, nat_lt, ◌==◌, not, ◌&&◌, Bool, true, false, List, [], ◌∷◌, ◌++◌, length, Option, Some, None, if◌then◌else◌, refl, ap, sym, ◌∙◌, arith, length-append}
use Rattle.std.proofs.lemmas.Bool.Decides.{nat_tests}
use Rattle.vb_syntax.specs.declared.{keyword.Keyword.Keyword, symbol.Symbol.Symbol, tokens.Token.Token, expression.{UnaryOperator.UnaryOperator, BinaryOperator.BinaryOperator, Expr.Expr}}
use Rattle.vb_syntax.specs.declared.keyword.Keyword.TheVariants as word
use Rattle.vb_syntax.specs.declared.symbol.Symbol.TheVariants as sign
use Rattle.vb_syntax.specs.declared.tokens.Token.TheVariants as token
use Rattle.vb_syntax.specs.declared.expression.Expr.TheVariants as expr
use Rattle.vb_parse_expr.specs.{declared.pending.{Pending.Pending, Goal.Goal}, Words.{prefix_of, sign_between, word_between, operator_of}, MachineReading.{last_wants_primary, wants_primary, settled_at, settled}}
use Rattle.vb_parse_expr.specs.declared.pending.Pending.TheVariants as wait
use Rattle.vb_parse_expr.proofs.{Lists.popped_append, Steps.{nothing_is_some, same_some}, Behind.settle}

settle_last : (s : ℕ) (ws : List Pending) (p : Pending) (x : Expr)
    → settle s (ws ++ p ∷ []) x ≡ settled_at s (settled s (length ws)) (ws ++ p ∷ []) x (Some (ws, p))
unfolding settled
settle_last s ws p x =
    let longer : length (ws ++ p ∷ []) ≡ suc (length ws) = omega (arith, length-append ws (p ∷ [])) in
    ap (λ n. settled s n (ws ++ p ∷ []) x) longer
    ∙ ap (settled_at s (settled s (length ws)) (ws ++ p ∷ []) x) (popped_append ws p)

pub settle_before : (s own : ℕ) (ws : List Pending) (o : UnaryOperator) (x : Expr) → own < s
    → settle s (ws ++ wait.Before o own ∷ []) x ≡ settle s ws (expr.Unary o x)
settle_before s own ws o x less =
    let test : nat_lt own s ≡ true = grind (arith, nat_tests) in
    settle_last s ws (wait.Before o own) x
    ∙ ap (λ b. if b then settle s ws (expr.Unary o x) else (ws ++ wait.Before o own ∷ [], x)) test

pub settle_between : (s own : ℕ) (ws : List Pending) (y : Expr) (o : BinaryOperator) (x : Expr) → own ≤ s
    → settle s (ws ++ wait.Between y o own ∷ []) x ≡ settle s ws (expr.Binary o y x)
settle_between s own ws y o x less =
    let test : nat_lt own (suc s) ≡ true = grind (arith, nat_tests) in
    settle_last s ws (wait.Between y o own) x
    ∙ ap (λ b. if b then settle s ws (expr.Binary o y x) else (ws ++ wait.Between y o own ∷ [], x)) test

-- No operator of strength h, and none that is stronger, ends what waits last.
pub record Holds (h : ℕ) (ws : List Pending) : Type 0 where
  pub stays : (s : ℕ) (x : Expr) → s ≤ h → settle s ws x ≡ (ws, x)

pub holds_weaker : (h k : ℕ) (ws : List Pending) → h ≤ k → Holds k ws → Holds h ws
holds_weaker h k ws less holds = record { stays = λ s x below. holds.stays s x (omega arith) }

pub holds_before : (h own : ℕ) (ws : List Pending) (o : UnaryOperator) → h ≤ own → Holds h (ws ++ wait.Before o own ∷ [])
holds_before h own ws o less = record {
  stays = λ s x below.
      let test : nat_lt own s ≡ false = grind (arith, nat_tests) in
      settle_last s ws (wait.Before o own) x
      ∙ ap (λ b. if b then settle s ws (expr.Unary o x) else (ws ++ wait.Before o own ∷ [], x)) test;
}

pub holds_between : (h own : ℕ) (ws : List Pending) (y : Expr) (o : BinaryOperator) → h < own → Holds h (ws ++ wait.Between y o own ∷ [])
holds_between h own ws y o less = record {
  stays = λ s x below.
      let test : nat_lt own (suc s) ≡ false = grind (arith, nat_tests) in
      settle_last s ws (wait.Between y o own) x
      ∙ ap (λ b. if b then settle s ws (expr.Binary o y x) else (ws ++ wait.Between y o own ∷ [], x)) test;
}

-- what waits for an expression with operators, as brackets do
abbrev pub is_bracket : Pending → Bool
is_bracket (wait.Before o s) = false
is_bracket (wait.Between x o s) = false
is_bracket wait.AddressOf = false
is_bracket wait.TypeOf = false
is_bracket p = true

bracket_stays : (s : ℕ) (go : List Pending → Expr → List Pending × Expr) (all ws : List Pending) (p : Pending) (x : Expr) → is_bracket p ≡ true
    → settled_at s go all x (Some (ws, p)) ≡ (all, x)
bracket_stays s go all ws (wait.Before o own) x is = absurd cc
bracket_stays s go all ws (wait.Between y o own) x is = absurd cc
bracket_stays s go all ws p x is = refl

pub holds_bracket : (h : ℕ) (ws : List Pending) (p : Pending) → is_bracket p ≡ true → Holds h (ws ++ p ∷ [])
holds_bracket h ws p is = record {
  stays = λ s x below. settle_last s ws p x ∙ bracket_stays s (settled s (length ws)) (ws ++ p ∷ []) ws p x is;
}

pub holds_nothing : (h : ℕ) → Holds h []
unfolding settled
holds_nothing h = record { stays = λ s x below. refl }

bracket_wants : (goal : Goal) (ws : List Pending) (p : Pending) → is_bracket p ≡ true → last_wants_primary goal (Some (ws, p)) ≡ false
bracket_wants goal ws wait.AddressOf is = absurd cc
bracket_wants goal ws wait.TypeOf is = absurd cc
bracket_wants goal ws p is = refl

-- where an expression with operators may stand
pub bracket_open : (goal : Goal) (ws : List Pending) (p : Pending) → is_bracket p ≡ true → wants_primary goal (ws ++ p ∷ []) ≡ false
unfolding wants_primary
bracket_open goal ws p is = ap (last_wants_primary goal) (popped_append ws p) ∙ bracket_wants goal ws p is

pub before_open : (goal : Goal) (ws : List Pending) (o : UnaryOperator) (s : ℕ) → wants_primary goal (ws ++ wait.Before o s ∷ []) ≡ false
unfolding wants_primary
before_open goal ws o s = ap (last_wants_primary goal) (popped_append ws (wait.Before o s))

pub between_open : (goal : Goal) (ws : List Pending) (y : Expr) (o : BinaryOperator) (s : ℕ) → wants_primary goal (ws ++ wait.Between y o s ∷ []) ≡ false
unfolding wants_primary
between_open goal ws y o s = ap (last_wants_primary goal) (popped_append ws (wait.Between y o s))

-- THE STRENGTHS OF OPERATORS

-- an operator between operands, or the end of the expression: neither is as strong as an operator that stands before
pub record IsEnding (s : ℕ) : Type 0 where
  pub no_sign : s ≡ 1 → ⊥
  pub no_not : s ≡ 9 → ⊥

-- an operator before an operand has strength 1 or 9
before_sign : {o : UnaryOperator} {s : ℕ} (g : Symbol) → prefix_of (token.Symbol g) ≡ Some (o, s) → s ≡ 1
before_sign sign.Plus e = sym (same_some (λ p. p.1) e)
before_sign sign.Minus e = sym (same_some (λ p. p.1) e)
before_sign g e = nothing_is_some _ e

before_word : {o : UnaryOperator} {s : ℕ} (w : Keyword) → prefix_of (token.Keyword w) ≡ Some (o, s) → s ≡ 9
before_word word.Not e = sym (same_some (λ p. p.1) e)
before_word w e = nothing_is_some _ e

pub below_ending : {o : UnaryOperator} {s : ℕ} (k : ℕ) (t : Token) → prefix_of t ≡ Some (o, s) → s ≤ k → IsEnding k → s < k
below_ending k (token.Symbol g) e less ending = let f = before_sign g e in let no = ending.no_sign in omega (arith, no)
below_ending k (token.Keyword w) e less ending = let f = before_word w e in let no = ending.no_not in omega (arith, no)
below_ending k (token.Name n) e less ending = nothing_is_some _ e
below_ending k (token.EscapedName n) e less ending = nothing_is_some _ e
below_ending k (token.Integer l) e less ending = nothing_is_some _ e
below_ending k (token.Text l) e less ending = nothing_is_some _ e
below_ending k (token.Char l) e less ending = nothing_is_some _ e

pub prefix_strength : {o : UnaryOperator} {s : ℕ} (t : Token) → prefix_of t ≡ Some (o, s) → s ≤ 13
prefix_strength (token.Symbol g) e = omega (arith, before_sign g e)
prefix_strength (token.Keyword w) e = omega (arith, before_word w e)
prefix_strength (token.Name n) e = nothing_is_some _ e
prefix_strength (token.EscapedName n) e = nothing_is_some _ e
prefix_strength (token.Integer l) e = nothing_is_some _ e
prefix_strength (token.Text l) e = nothing_is_some _ e
prefix_strength (token.Char l) e = nothing_is_some _ e

-- an operator between operands, or the end
abbrev pub is_ending : ℕ → Bool
is_ending s = nat_lt s 14 && (not (s == 1) && not (s == 9))

-- the strength that is given there passes the test
abbrev all_ending : Option (BinaryOperator × ℕ) → Bool
all_ending None = true
all_ending (Some p) = is_ending p.1

sign_ending : (g : Symbol) → all_ending (sign_between g) ≡ true
sign_ending sign.Times = refl
sign_ending g = refl

word_ending : (w : Keyword) → all_ending (word_between w) ≡ true
word_ending word.Mod = refl
word_ending w = refl

token_ending : (t : Token) → all_ending (operator_of t) ≡ true
token_ending (token.Symbol g) = sign_ending g
token_ending (token.Keyword w) = word_ending w
token_ending t = refl

test_ending : (s : ℕ) → is_ending s ≡ true → IsEnding s × (s ≤ 13)
test_ending s test =
    let less : s < 14 = grind (arith, nat_tests) in
    (record { no_sign = λ e. let no : is_ending s ≡ false = ap is_ending e in cc; no_not = λ e. let no : is_ending s ≡ false = ap is_ending e in cc }, omega arith)

pub operator_ending : {o : BinaryOperator} {s : ℕ} (t : Token) → operator_of t ≡ Some (o, s) → IsEnding s × (s ≤ 13)
operator_ending {s = s} t e = test_ending s (sym (ap all_ending e) ∙ token_ending t)

pub last_ending : IsEnding 13
last_ending = record { no_sign = λ e. omega arith; no_not = λ e. omega arith }
