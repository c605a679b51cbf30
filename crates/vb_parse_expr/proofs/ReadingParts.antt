-- What it means that the reading takes the tokens of an expression, or of a part of one, whatever waits for it.
use Rattle.std.proofs.Common.{◌≡◌, ℕ, ◌<◌, ◌≤◌, max, Bool, true, false, List, [], ◌∷◌, ◌++◌, length, Option, Some, None, Err, refl, ap, sym, ◌∙◌, subst, arith, append_assoc, length-append}
use Rattle.vb_syntax.specs.declared.{tokens.Token.Token, types.SimpleTypeName.SimpleTypeName, expression.{UnaryOperator.UnaryOperator, BinaryOperator.BinaryOperator, Expr.Expr, VariableInitializer.VariableInitializer}}
use Rattle.vb_syntax.specs.declared.expression.Expr.TheVariants as expr
use Rattle.vb_parse_expr.specs.{declared.{pending.{Pending.Pending, Goal.Goal}, machine.State.State}, Words.{closing, closing_brace, prefix_of, operator_of}, Types.goes_on_type, Expressions.{Edge, takes_arguments}, Fronts.{goes_on_primary, goes_on}, Reading.{after_opening, after_opening_brace}, TypeReading.most_tokens, MachineReading.{Step, wants_primary, wants_element, bound_of, created, creation_at, joined, closed_off, close_with, element, finished, step}}
use Rattle.vb_parse_expr.specs.declared.pending.Pending.TheVariants as wait
use Rattle.vb_parse_expr.specs.declared.machine.State.TheVariants as at
use Rattle.vb_parse_expr.proofs.{Reaches.{Reaches, then, one_step}, Steps.prefix_step, Behind.{settle, over_step, operand_behind, operator_behind, operand_over, operator_over, primary_over, operator_ends, close_last}, Holding.{Holds, holds_before, holds_between, holds_weaker, holds_bracket, is_bracket, bracket_open, before_open, between_open, IsEnding, operator_ending, below_ending, prefix_strength, last_ending, settle_before, settle_between}, Edges.{Over, over_end}}

pub from_same : {goal : Goal} {ws ws' : List Pending} {s s' : State} {ts us ts' : List Token} → us ≡ ts
    → Reaches goal ws s ts ws' s' ts' → Reaches goal ws s us ws' s' ts'
from_same {goal = goal} {ws = ws} {ws' = ws'} {s = s} {s' = s'} {ts' = ts'} e reaches = subst (λ us. Reaches goal ws s us ws' s' ts') (sym e) reaches

-- a step that the reading then goes on from
pub record Leads (goal : Goal) (taken : Step) (ts : List Token) (ws' : List Pending) (s' : State) (ts' : List Token) : Type 0 where
  pub stack : List Pending
  pub state : State
  pub left : List Token
  pub is : taken ≡ Some (stack, state, left)
  pub going : finished state ≡ Err state
  pub fewer : length left ≤ length ts
  pub reaches : Reaches goal stack state left ws' s' ts'

pub leads : {goal : Goal} {taken : Step} {ts us ts' : List Token} {ws' : List Pending} {s' : State} (ws : List Pending) (s : State)
    → Leads goal taken ts ws' s' ts' → step goal ws s us ≡ taken → length ts < length us → Reaches goal ws s us ws' s' ts'
leads {us = us} ws s l e shorter =
    then (one_step ws s us l.stack l.state l.left (e ∙ l.is) l.going (omega (arith, l.fewer))) l.reaches

-- behind the last primary of an expression that begins where ws wait
pub record Ends (goal : Goal) (ws : List Pending) (ts : List Token) (h w : ℕ) (x : Expr) (rest : List Token) : Type 0 where
  pub stack : List Pending
  pub last : Expr
  pub reaches : Reaches goal ws at.Want ts stack (at.Primary last) rest
  pub stands : wants_primary goal stack ≡ false
  pub settles : (s : ℕ) → IsEnding s → h ≤ s → w ≤ s → settle s stack last ≡ settle s ws x

pub record ReadsExpression (goal : Goal) (h w : ℕ) (ts : List Token) (x : Expr) : Type 0 where
  pub strong : h ≤ 13
  pub weak : w ≤ 13
  pub ends : (ws : List Pending) (rest : List Token) → wants_primary goal ws ≡ false → Holds h ws → goes_on_primary rest ≡ false
      → length (ts ++ rest) ≤ most_tokens → Ends goal ws (ts ++ rest) h w x rest

pub record ReadsPrimary (goal : Goal) (edge : Edge) (ts : List Token) (x : Expr) : Type 0 where
  pub reads : (ws : List Pending) (rest : List Token) → Over edge rest → length (ts ++ rest) ≤ most_tokens
      → Reaches goal ws at.Want (ts ++ rest) ws (at.Primary x) rest

-- what arguments are for
pub data Listing : Type 0 where
  call : Expr → Listing
  new : SimpleTypeName → Listing

abbrev pub waiting : Listing → List Expr → Pending
waiting (call f) xs = wait.Arguments f xs
waiting (new a) xs = wait.Creation a xs

abbrev pub listed : Listing → List Pending → List Expr → List Token → Step
listed (call f) ws xs rest = Some (ws, at.Primary (expr.Invocation f xs), rest)
listed (new a) ws xs rest = created ws a xs rest

pub record ReadsList (goal : Goal) (ts : List Token) (xs : List Expr) : Type 0 where
  pub reads : (l : Listing) (before : List Expr) (ws : List Pending) (rest : List Token) (ws' : List Pending) (s' : State) (ts' : List Token)
      → length (ts ++ closing ∷ rest) ≤ most_tokens → Leads goal (listed l ws (before ++ xs) rest) rest ws' s' ts'
      → Reaches goal (ws ++ waiting l before ∷ []) at.Want (ts ++ closing ∷ rest) ws' s' ts'

pub record ReadsArguments (goal : Goal) (us : List Token) (ys : List Expr) : Type 0 where
  pub called : (ws : List Pending) (x : Expr) (rest : List Token) → length (us ++ rest) ≤ most_tokens
      → Reaches goal ws (at.Primary x) (us ++ rest) ws (at.Primary (expr.Invocation x ys)) rest
  pub made : (ws : List Pending) (a : SimpleTypeName) (rest : List Token) → after_opening_brace rest ≡ None → length (us ++ rest) ≤ most_tokens
      → Leads goal (creation_at ws a (us ++ rest) (after_opening (us ++ rest))) (us ++ rest) ws (at.Primary (expr.ObjectCreation a ys)) rest
  pub over : (edge : Edge) (rest : List Token) → takes_arguments edge ys ≡ false → Over edge (us ++ rest)
  pub over_type : (dotted : Bool) (rest : List Token) → goes_on_type dotted false (us ++ rest) ≡ false

-- what elements are of
pub data Braced : Type 0 where
  array : SimpleTypeName → Option Expr → Braced
  nested : Braced

abbrev pub held : Braced → List VariableInitializer → Pending
held (array a b) is = wait.Array a b is
held nested is = wait.Elements is

abbrev pub braced : Braced → List VariableInitializer → State
braced (array a b) is = at.Primary (expr.ArrayCreation a b is)
braced nested is = at.Braces is

pub record ReadsInitializer (goal : Goal) (ts : List Token) (i : VariableInitializer) : Type 0 where
  pub reads : (b : Braced) (before : List VariableInitializer) (ws : List Pending) (rest : List Token) (ws' : List Pending) (s' : State) (ts' : List Token)
      → goes_on rest ≡ false → length (ts ++ rest) ≤ most_tokens
      → element i rest (held b before) ws ≡ Some (ws', s', ts') → finished s' ≡ Err s' → length ts' < length rest
      → Reaches goal (ws ++ held b before ∷ []) at.Want (ts ++ rest) ws' s' ts'

pub record ReadsInitializers (goal : Goal) (ts : List Token) (is : List VariableInitializer) : Type 0 where
  pub reads : (b : Braced) (before : List VariableInitializer) (ws : List Pending) (rest : List Token)
      → length (ts ++ closing_brace ∷ rest) ≤ most_tokens
      → Reaches goal (ws ++ held b before ∷ []) at.Want (ts ++ closing_brace ∷ rest) ws (braced b (before ++ is)) rest

pub record ReadsElements (goal : Goal) (ts : List Token) (is : List VariableInitializer) : Type 0 where
  pub reads : (ws : List Pending) (rest : List Token) → wants_element goal ws ≡ true → length (ts ++ rest) ≤ most_tokens
      → Reaches goal ws at.Want (ts ++ rest) ws (at.Braces is) rest
  pub made : (ws : List Pending) (a : SimpleTypeName) (xs : List Expr) (b : Option Expr) (rest : List Token) → bound_of xs ≡ Some b
      → length (ts ++ rest) ≤ most_tokens
      → Leads goal (created ws a xs (ts ++ rest)) (ts ++ rest) ws (at.Primary (expr.ArrayCreation a b is)) rest

-- OPERATORS

pub primary_expression : {goal : Goal} {edge : Edge} {ts : List Token} {x : Expr} → ReadsPrimary goal edge ts x → ReadsExpression goal 0 0 ts x
primary_expression {x = x} p = record {
  strong = omega arith;
  weak = omega arith;
  ends = λ ws rest stands holds over within. record {
    stack = ws;
    last = x;
    reaches = p.reads ws rest (over_end rest over) within;
    stands = stands;
    settles = λ s ending strong weak. refl;
  };
}

prefix_ends : {goal : Goal} {h w s : ℕ} {o : UnaryOperator} {ts : List Token} {x : Expr} (t : Token) → prefix_of t ≡ Some (o, s) → h ≤ s
    → ReadsExpression goal h w ts x → (ws : List Pending) (rest : List Token) → wants_primary goal ws ≡ false → goes_on_primary rest ≡ false
    → length (t ∷ (ts ++ rest)) ≤ most_tokens → Ends goal ws (t ∷ (ts ++ rest)) 0 (max s w) (expr.Unary o x) rest
prefix_ends {goal = goal} {h = h} {w = w} {s = s} {o = o} {ts = ts} {x = x} t op less p ws rest stands over within =
    let inner = p.ends (ws ++ wait.Before o s ∷ []) rest (before_open goal ws o s) (holds_before h s ws o less) over (omega arith) in
    record {
      stack = inner.stack;
      last = inner.last;
      reaches = then (one_step ws at.Want (t ∷ (ts ++ rest)) (ws ++ wait.Before o s ∷ []) at.Want (ts ++ rest)
          (prefix_step goal ws t (ts ++ rest) op stands) refl (omega arith)) inner.reaches;
      stands = inner.stands;
      settles = λ k ending strong weak.
          inner.settles k ending (omega arith) (omega arith)
          ∙ settle_before k s ws o x (below_ending k t op (omega arith) ending);
    }

pub prefix_expression : {goal : Goal} {h w s : ℕ} {o : UnaryOperator} {ts : List Token} {x : Expr} (t : Token) → prefix_of t ≡ Some (o, s) → h ≤ s
    → ReadsExpression goal h w ts x → ReadsExpression goal 0 (max s w) (t ∷ ts) (expr.Unary o x)
prefix_expression {w = w} t op less p = record {
  strong = omega arith;
  weak = omega (arith, prefix_strength t op, p.weak);
  ends = λ ws rest stands holds over within. prefix_ends t op less p ws rest stands over within;
}

-- the step from a left operand over the operator behind it
operator_step : {goal : Goal} {h w s : ℕ} {o : BinaryOperator} {us vs : List Token} {x : Expr} (t : Token) → operator_of t ≡ Some (o, s) → h ≤ s → w ≤ s
    → (ws : List Pending) → Holds s ws → (left : Ends goal ws us h w x (t ∷ vs))
    → step goal left.stack (at.Primary left.last) (t ∷ vs) ≡ Some (ws ++ wait.Between x o s ∷ [], at.Want, vs)
operator_step {goal = goal} {s = s} {o = o} {vs = vs} {x = x} t op strong weak ws holds left =
    let ending = operator_ending t op in
    over_step goal left.stack left.last (t ∷ vs) (operator_over t vs op)
    ∙ operand_behind goal left.stack left.last (t ∷ vs) left.stands
    ∙ operator_behind goal left.stack left.last t vs op
    ∙ ap (joined o s vs) (left.settles s ending.0 strong weak ∙ holds.stays s x (omega arith))

binary_ends : {goal : Goal} {h w h' w' s : ℕ} {o : BinaryOperator} {ts us : List Token} {x y : Expr} (t : Token) → operator_of t ≡ Some (o, s)
    → h ≤ s → w ≤ s → h' < s → ReadsExpression goal h w ts x → ReadsExpression goal h' w' us y
    → (ws : List Pending) (rest : List Token) → wants_primary goal ws ≡ false → Holds s ws → goes_on_primary rest ≡ false
    → length (ts ++ t ∷ (us ++ rest)) ≤ most_tokens → Ends goal ws (ts ++ t ∷ (us ++ rest)) s w' (expr.Binary o x y) rest
binary_ends {goal = goal} {h = h} {h' = h'} {s = s} {o = o} {ts = ts} {us = us} {x = x} {y = y} t op strong weak less p q ws rest stands holds over within =
    let left = p.ends ws (t ∷ (us ++ rest)) stands (holds_weaker h s ws strong holds) (operator_over t (us ++ rest) op) within in
    let right = q.ends (ws ++ wait.Between x o s ∷ []) rest (between_open goal ws x o s) (holds_between h' s ws x o less) over
    (omega (arith, within, length-append ts (t ∷ (us ++ rest)))) in
    record {
      stack = right.stack;
      last = right.last;
      reaches = then left.reaches (then (one_step left.stack (at.Primary left.last) (t ∷ (us ++ rest)) (ws ++ wait.Between x o s ∷ []) at.Want (us ++ rest)
          (operator_step t op strong weak ws holds left) refl (omega arith)) right.reaches);
      stands = right.stands;
      settles = λ k ending above weaker. right.settles k ending (omega arith) weaker ∙ settle_between k s ws x o y above;
    }

ends_from : {goal : Goal} {ws : List Pending} {ts us : List Token} {h w : ℕ} {x : Expr} {rest : List Token} → us ≡ ts
    → Ends goal ws ts h w x rest → Ends goal ws us h w x rest
ends_from {goal = goal} {ws = ws} {h = h} {w = w} {x = x} {rest = rest} e ends = subst (λ us. Ends goal ws us h w x rest) (sym e) ends

pub binary_expression : {goal : Goal} {h w h' w' s : ℕ} {o : BinaryOperator} {ts us : List Token} {x y : Expr} (t : Token) → operator_of t ≡ Some (o, s)
    → h ≤ s → w ≤ s → h' < s → ReadsExpression goal h w ts x → ReadsExpression goal h' w' us y
    → ReadsExpression goal s w' (ts ++ t ∷ us) (expr.Binary o x y)
binary_expression {ts = ts} {us = us} t op strong weak less p q = record {
  strong = (operator_ending t op).1;
  weak = q.weak;
  ends = λ ws rest stands holds over within.
      let same = append_assoc ts (t ∷ us) rest in
      ends_from same (binary_ends t op strong weak less p q ws rest stands holds over
      (subst (λ (us : List Token). length us ≤ most_tokens) same within));
}

-- an expression in brackets, where what waits takes it
pub bracketed : {goal : Goal} {h w : ℕ} {ts : List Token} {x : Expr} (p : Pending) (ws : List Pending) (rest : List Token)
    (ws' : List Pending) (s' : State) (ts' : List Token) → is_bracket p ≡ true → ReadsExpression goal h w ts x → goes_on rest ≡ false
    → length (ts ++ rest) ≤ most_tokens → close_with x rest ws p ≡ Some (ws', s', ts') → finished s' ≡ Err s' → length ts' < length rest
    → Reaches goal (ws ++ p ∷ []) at.Want (ts ++ rest) ws' s' ts'
bracketed {goal = goal} {h = h} {x = x} p ws rest ws' s' ts' bracket q over within closes going shorter =
    let inner = q.ends (ws ++ p ∷ []) rest (bracket_open goal ws p bracket) (holds_bracket h ws p bracket) (primary_over rest over) within in
    let stays = holds_bracket 13 ws p bracket in
    then inner.reaches (one_step inner.stack (at.Primary inner.last) rest ws' s' ts'
    (over_step goal inner.stack inner.last rest (primary_over rest over)
    ∙ operand_behind goal inner.stack inner.last rest inner.stands
    ∙ operand_over inner.stack inner.last rest (operator_ends rest over)
    ∙ ap (closed_off rest) (inner.settles 13 last_ending q.strong q.weak ∙ stays.stays 13 x (omega arith))
    ∙ close_last ws p x rest ∙ closes) going shorter)
