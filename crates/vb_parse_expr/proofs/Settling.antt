-- The operators that have both operands are joined to what they spell.
use Rattle.std.proofs.Common.{◌≡◌, ℕ, zero, suc, ◌≤◌, ◌<◌, max, nat_lt, cond, Bool, true, false, List, [], ◌∷◌, ◌++◌, length, Option, Some, None, refl, ap, sym, subst, ◌∙◌, append_assoc, arith}
use Rattle.std.proofs.lemmas.Bool.{ltb-true, ltb-false}
use Rattle.vb_syntax.specs.declared.{keyword.Keyword.Keyword, symbol.Symbol.Symbol, tokens.Token.Token, expression.{BinaryOperator.BinaryOperator, UnaryOperator.UnaryOperator, Expr.Expr}}
use Rattle.vb_syntax.specs.declared.keyword.Keyword.TheVariants as word
use Rattle.vb_syntax.specs.declared.symbol.Symbol.TheVariants as sign
use Rattle.vb_syntax.specs.declared.tokens.Token.TheVariants as token
use Rattle.vb_syntax.specs.declared.expression.Expr.TheVariants as e
use Rattle.vb_parse_expr.specs.{declared.pending.{Pending.Pending, Goal.Goal}, Words.{operator_of, sign_between, word_between}, Expressions.{Spells, prefix, binary}, TypeReading.{popped, popped_behind}, MachineReading.{wants_primary, settled, settled_at}}
use Rattle.vb_parse_expr.specs.declared.pending.Pending.TheVariants as wait
use Rattle.vb_parse_expr.proofs.{Lists.popped_append, Waiting.{IsReadFrom, IsPlaced, Waits, nothing, more, Last, last_holds}}

-- THE LAST OF WHAT WAITS

pub some_of : {X : Type 0} (p q : X) → Some p ≡ Some q → p ≡ q
some_of p q e = cc

pub last_waits : {goal : Goal} {used : List Token} (ws vs : List Pending) (p : Pending) → Waits goal ws used → popped ws ≡ Some (vs, p)
    → Last goal vs p used
last_waits ws vs p (nothing _ none) e = cc
last_waits {goal} ws vs p (more _ vs' p' before part some w placed read) e =
    let same : ◌≡◌ {A = List Pending × Pending} (vs', p') (vs, p) = cc in
    subst (λ (q : List Pending × Pending). Last goal q.0 q.1 (before ++ part)) same
    (record { before = before; part = part; split = refl; waits = w; placed = placed; read = read })

pub none_waits : {goal : Goal} {ws : List Pending} {used : List Token} → Waits goal ws used → popped ws ≡ None → used ≡ []
none_waits (nothing ws none) e = refl
none_waits (more ws vs' p' before part some w placed read) e = cc

pub one_more_waits : {goal : Goal} {vs : List Pending} {used : List Token} (p : Pending) (part : List Token) → Waits goal vs used
    → IsPlaced goal vs p
    → IsReadFrom p part → Waits goal (vs ++ p ∷ []) (used ++ part)
one_more_waits {goal} {vs} {used} p part w placed read = more (vs ++ p ∷ []) vs p used part (popped_append vs p) w placed read

behind_some : (x : Pending) (o : Option (List Pending × Pending)) → popped_behind x o ≡ None → ⊥
behind_some x None e = cc
behind_some x (Some q) e = cc

pub none_popped : (ws : List Pending) → popped ws ≡ None → ws ≡ []
unfolding popped
none_popped [] e = refl
none_popped (x ∷ xs) e = absurd (behind_some x (popped xs) e)

shorter_at : (x : Pending) (xs vs : List Pending) (p : Pending) (o : Option (List Pending × Pending)) → popped xs ≡ o
    → popped_behind x o ≡ Some (vs, p) → ((vs' : List Pending) (p' : Pending) → popped xs ≡ Some (vs', p') → length xs ≡ suc (length vs'))
    → length (x ∷ xs) ≡ suc (length vs)
shorter_at x xs vs p None was e again =
    let same : ◌≡◌ {A = List Pending × Pending} ([], x) (vs, p) = cc in
    let front = ap (λ (q : List Pending × Pending). length q.0) same in
    ap (λ (us : List Pending). suc (length us)) (none_popped xs was) ∙ ap (λ k. suc k) front
shorter_at x xs vs p (Some q) was e again =
    let same : ◌≡◌ {A = List Pending × Pending} (x ∷ q.0, q.1) (vs, p) = cc in
    let front = ap (λ (q : List Pending × Pending). length q.0) same in
    ap (λ k. suc k) (again q.0 q.1 was ∙ front)

pub popped_shorter : (ws vs : List Pending) (p : Pending) → popped ws ≡ Some (vs, p) → length ws ≡ suc (length vs)
unfolding popped
popped_shorter [] vs p e = cc
popped_shorter (x ∷ xs) vs p e = shorter_at x xs vs p (popped xs) refl e (λ vs' p' e'. popped_shorter xs vs' p' e')

-- STRENGTHS OF OPERATORS

abbrev pub IsStrength : Option (BinaryOperator × ℕ) → Type 0
IsStrength None = Unit {0}
IsStrength (Some p) = (0 < p.1) × (p.1 < 13)

sign_strength : (s : Symbol) → IsStrength (sign_between s)
sign_strength sign.Times = (omega arith, omega arith)
sign_strength sign.Backslash = (omega arith, omega arith)
sign_strength sign.Plus = (omega arith, omega arith)
sign_strength sign.Minus = (omega arith, omega arith)
sign_strength sign.Ampersand = (omega arith, omega arith)
sign_strength sign.ShiftLeft = (omega arith, omega arith)
sign_strength sign.ShiftRight = (omega arith, omega arith)
sign_strength sign.Equal = (omega arith, omega arith)
sign_strength sign.NotEqual = (omega arith, omega arith)
sign_strength sign.Less = (omega arith, omega arith)
sign_strength sign.LessOrEqual = (omega arith, omega arith)
sign_strength sign.Greater = (omega arith, omega arith)
sign_strength sign.GreaterOrEqual = (omega arith, omega arith)
sign_strength _ = tt

word_strength : (w : Keyword) → IsStrength (word_between w)
word_strength word.Mod = (omega arith, omega arith)
word_strength word.Is = (omega arith, omega arith)
word_strength word.IsNot = (omega arith, omega arith)
word_strength word.And = (omega arith, omega arith)
word_strength word.AndAlso = (omega arith, omega arith)
word_strength word.Or = (omega arith, omega arith)
word_strength word.OrElse = (omega arith, omega arith)
word_strength word.Xor = (omega arith, omega arith)
word_strength _ = tt

token_strength : (t : Token) → IsStrength (operator_of t)
token_strength (token.Symbol s) = sign_strength s
token_strength (token.Keyword w) = word_strength w
token_strength _ = tt

pub operator_strength : (t : Token) (o : BinaryOperator) (s : ℕ) → operator_of t ≡ Some (o, s) → (0 < s) × (s < 13)
operator_strength t o s e = subst (λ (p : Option (BinaryOperator × ℕ)). IsStrength p) e (token_strength t)

-- OPERANDS

-- an operand with operators up to strength s, behind what waits
pub record HasOperand (goal : Goal) (all : List Token) (s : ℕ) (ws : List Pending) (x : Expr) (ts : List Token) : Type 0 where
  pub used : List Token
  pub part : List Token
  pub strength : ℕ
  pub weakest : ℕ
  pub split : all ≡ used ++ (part ++ ts)
  pub waits : Waits goal ws used
  pub spells : Spells strength weakest part x
  pub strong : strength ≤ s
  pub covered : weakest ≤ s
  pub held : last_holds strength (popped ws)
  pub free : wants_primary goal ws ≡ false

-- no operator that waits behind a list is to be settled by one of strength s
pub record Settled (goal : Goal) (all : List Token) (s : ℕ) (p : List Pending × Expr) (ts : List Token) : Type 0 where
  pub operand : HasOperand goal all s p.0 p.1 ts
  pub held : last_holds s (popped p.0)

-- tokens that were taken off again
pub regroup : (all used rest before part mid : List Token) → all ≡ used ++ rest → used ≡ before ++ part → part ≡ mid
    → all ≡ before ++ (mid ++ rest)
regroup all used rest before part mid e f g =
    e ∙ ap (λ us. us ++ rest) (f ∙ ap (λ us. before ++ us) g) ∙ append_assoc before mid rest

zero_holds_at : (goal : Goal) (ws : List Pending) (used : List Token) (o : Option (List Pending × Pending)) → popped ws ≡ o
    → Waits goal ws used → last_holds 0 o
zero_holds_at goal ws used (Some (vs, wait.Before o own)) was w = omega arith
zero_holds_at goal ws used (Some (vs, wait.Between y o own)) was w =
    let last = last_waits ws vs (wait.Between y o own) w was in
    (operator_strength last.read.operator o own last.read.is).0
zero_holds_at goal ws used _ was w = tt

-- an operand with no operators may stand behind anything
pub zero_holds : {goal : Goal} (ws : List Pending) (used : List Token) → Waits goal ws used → last_holds 0 (popped ws)
zero_holds {goal} ws used w = zero_holds_at goal ws used (popped ws) refl w

-- x is joined to the operator before it
before_joins : (goal : Goal) (all : List Token) (s : ℕ) (ws vs : List Pending) (o : UnaryOperator) (own : ℕ) (x : Expr) (ts : List Token)
    → HasOperand goal all s ws x ts → popped ws ≡ Some (vs, wait.Before o own) → own < s → HasOperand goal all s vs (e.Unary o x) ts
before_joins goal all s ws vs o own x ts h was below =
    let last = last_waits ws vs (wait.Before o own) h.waits was in
    let holds : h.strength ≤ own = subst (λ q. last_holds h.strength q) was h.held in
    record {
      used = last.before;
      part = last.read.0 ∷ h.part;
      strength = 0;
      weakest = max own h.weakest;
      split = regroup all h.used (h.part ++ ts) last.before last.part (last.read.0 ∷ []) h.split last.split last.read.1;
      waits = last.waits;
      spells = prefix last.read.0 last.read.2 h.spells holds;
      strong = omega arith;
      covered = let c = h.covered in omega arith;
      held = zero_holds vs last.before last.waits;
      free = last.placed;
    }

-- x is joined to the operator between it and the operand before that
between_joins : (goal : Goal) (all : List Token) (s : ℕ) (ws vs : List Pending) (y : Expr) (o : BinaryOperator) (own : ℕ) (x : Expr) (ts : List Token)
    → HasOperand goal all s ws x ts → popped ws ≡ Some (vs, wait.Between y o own) → own ≤ s → HasOperand goal all s vs (e.Binary o y x) ts
between_joins goal all s ws vs y o own x ts h was below =
    let last = last_waits ws vs (wait.Between y o own) h.waits was in
    let holds : h.strength < own = subst (λ q. last_holds h.strength q) was h.held in
    let l = last.read in
    let grouped = regroup all h.used (h.part ++ ts) last.before last.part (l.left ++ l.operator ∷ []) h.split last.split l.split in
    record {
      used = last.before;
      part = l.left ++ l.operator ∷ h.part;
      strength = own;
      weakest = h.weakest;
      split = simp append_assoc (simp append_assoc at grouped);
      waits = last.waits;
      spells = binary l.operator l.is l.spells l.strong l.covered h.spells holds;
      strong = below;
      covered = h.covered;
      held = last.placed.1;
      free = last.placed.0;
    }

abbrev Settles : Goal → List Token → ℕ → ℕ → List Token → Type 0
Settles goal all s n ts = (ws : List Pending) (x : Expr) → HasOperand goal all s ws x ts → length ws ≤ n → Settled goal all s (settled s n ws x) ts

before_settles : (goal : Goal) (all : List Token) (s n : ℕ) (ws vs : List Pending) (o : UnaryOperator) (own : ℕ) (x : Expr) (ts : List Token)
    → HasOperand goal all s ws x ts → length vs ≤ n → popped ws ≡ Some (vs, wait.Before o own) → Settles goal all s n ts
    → (b : Bool) → nat_lt own s ≡ b → Settled goal all s (cond b (settled s n vs (e.Unary o x)) (ws, x)) ts
before_settles goal all s n ws vs o own x ts h most was again true test =
    again vs (e.Unary o x) (before_joins goal all s ws vs o own x ts h was (ltb-true own s test)) most
before_settles goal all s n ws vs o own x ts h most was again false test =
    let above : last_holds s (Some (vs, wait.Before o own)) = ltb-false own s test in
    record { operand = h; held = subst (λ q. last_holds s q) (sym was) above }

between_settles : (goal : Goal) (all : List Token) (s n : ℕ) (ws vs : List Pending) (y : Expr) (o : BinaryOperator) (own : ℕ) (x : Expr) (ts : List Token)
    → HasOperand goal all s ws x ts → length vs ≤ n → popped ws ≡ Some (vs, wait.Between y o own) → Settles goal all s n ts
    → (b : Bool) → nat_lt own (suc s) ≡ b → Settled goal all s (cond b (settled s n vs (e.Binary o y x)) (ws, x)) ts
between_settles goal all s n ws vs y o own x ts h most was again true test =
    let below = ltb-true own (suc s) test in
    again vs (e.Binary o y x) (between_joins goal all s ws vs y o own x ts h was (omega arith)) most
between_settles goal all s n ws vs y o own x ts h most was again false test =
    let above = ltb-false own (suc s) test in
    let apart : last_holds s (Some (vs, wait.Between y o own)) = omega arith in
    record { operand = h; held = subst (λ q. last_holds s q) (sym was) apart }

stays_settled : (goal : Goal) (all : List Token) (s : ℕ) (ws : List Pending) (x : Expr) (ts : List Token) (o : Option (List Pending × Pending))
    → HasOperand goal all s ws x ts → popped ws ≡ o → last_holds s o → Settled goal all s (ws, x) ts
stays_settled goal all s ws x ts o h was held = record { operand = h; held = subst (λ q. last_holds s q) (sym was) held }

settles_at : (goal : Goal) (all : List Token) (s n : ℕ) (ws : List Pending) (x : Expr) (ts : List Token) (o : Option (List Pending × Pending))
    → HasOperand goal all s ws x ts → length ws ≤ suc n → popped ws ≡ o → Settles goal all s n ts
    → Settled goal all s (settled_at s (settled s n) ws x o) ts
settles_at goal all s n ws x ts (Some (vs, wait.Before o own)) h most was again =
    let less = popped_shorter ws vs (wait.Before o own) was in
    before_settles goal all s n ws vs o own x ts h (omega arith) was again (nat_lt own s) refl
settles_at goal all s n ws x ts (Some (vs, wait.Between y o own)) h most was again =
    let less = popped_shorter ws vs (wait.Between y o own) was in
    between_settles goal all s n ws vs y o own x ts h (omega arith) was again (nat_lt own (suc s)) refl
settles_at goal all s n ws x ts None h most was again = stays_settled goal all s ws x ts _ h was tt
settles_at goal all s n ws x ts (Some p) h most was again = stays_settled goal all s ws x ts _ h was tt

none_left : (ws : List Pending) → length ws ≤ zero → popped ws ≡ None
unfolding popped
none_left [] most = refl
none_left (w ∷ ws) most = absurd (omega arith)

pub settles : (goal : Goal) (all : List Token) (s n : ℕ) (ts : List Token) → Settles goal all s n ts
unfolding settled
settles goal all s zero ts ws x h most = stays_settled goal all s ws x ts None h (none_left ws most) tt
settles goal all s (suc n) ts ws x h most =
    settles_at goal all s n ws x ts (popped ws) h most refl (λ vs y h' less. settles goal all s n ts vs y h' less)
