-- Behind a primary.
use Rattle.std.proofs.Common.{◌≡◌, ℕ, false, List, [], ◌∷◌, ◌++◌, length, Option, Some, None, refl, ap, sym, subst, ◌∙◌, append_assoc, arith}
use Rattle.vb_text.specs.declared.names.Name.{Name}
use Rattle.vb_syntax.specs.declared.keyword.Keyword.TheVariants as word
use Rattle.vb_syntax.specs.declared.{tokens.Token.Token, types.TypeName.TypeName, expression.{BinaryOperator.BinaryOperator, Expr.Expr}}
use Rattle.vb_syntax.specs.declared.tokens.Token.TheVariants as token
use Rattle.vb_syntax.specs.declared.expression.Expr.TheVariants as e
use Rattle.vb_syntax.specs.declared.expression.VariableInitializer.TheVariants as init
use Rattle.vb_parse_expr.specs.{declared.pending.{Pending.Pending, Goal.Goal}, Words.{opening, closing, dot}, Expressions.{operand, primary, address, type_test, member, invocation, no_arguments}, Fronts.goes_on_primary, Reading.{after_opening, after_closing, after_opening_brace, after_dot, after_is}, TypeReading.{Read, and_then, behind, popped, read_name, read_type, read_type_arguments}}
use Rattle.vb_parse_expr.specs.declared.pending.Pending.TheVariants as wait
use Rattle.vb_parse_expr.specs.declared.pending.Goal.TheVariants as for
use Rattle.vb_parse_expr.specs.declared.machine.State.TheVariants as at
use Rattle.vb_parse_expr.specs.MachineReading as machine
use Rattle.vb_parse_expr.proofs.{FirstTokens.{opening_first, closing_first, dot_first, is_first, name_first, operator_found, no_operator, over_primary, over_both}, TypeFronts.{FoundType, type_found, FoundArguments, arguments_found}, Waiting.{Wanting, HasPrimary, Ended, primary_ends, Keeps}, Settling.{none_waits, zero_holds, HasOperand, Settled, settles}, States.{closed_ready, operand_ready, tested_ready, list_empty, back, waiting_from, primary_from}, Closes.close_keeps}

-- an operator may stand behind an operand there
abbrev IsOperatorPlace : Pending → Type 0
IsOperatorPlace wait.AddressOf = ⊥
IsOperatorPlace wait.TypeOf = ⊥
IsOperatorPlace p = Unit {0}

last_free : (g : Goal) (vs : List Pending) (p : Pending) → IsOperatorPlace p → machine.last_wants_primary g (Some (vs, p)) ≡ false
last_free for.Primary vs wait.AddressOf place = absurd place
last_free for.Primary vs wait.TypeOf place = absurd place
last_free for.Primary vs p place = refl
last_free for.Expression vs wait.AddressOf place = absurd place
last_free for.Expression vs wait.TypeOf place = absurd place
last_free for.Expression vs p place = refl
last_free for.Initializer vs wait.AddressOf place = absurd place
last_free for.Initializer vs wait.TypeOf place = absurd place
last_free for.Initializer vs p place = refl

free_from : (g : Goal) (ws : List Pending) (o : Option (List Pending × Pending)) → popped ws ≡ o → machine.last_wants_primary g o ≡ false
    → machine.wants_primary g ws ≡ false
unfolding machine.wants_primary
free_from g ws o was free = ap (machine.last_wants_primary g) was ∙ free

module _ (goal : Goal) (all : List Token) where
  -- the tokens of the primary are to be read again
  unread : (ws : List Pending) (x : Expr) (ts : List Token) (h : HasPrimary goal all ws x ts) → Wanting goal all ws (h.part ++ ts)
  unread ws x ts h = record { used = h.used; split = h.split; waits = h.waits }

  -- OPERATORS

  as_operand : (s : ℕ) (ws : List Pending) (x : Expr) (ts : List Token) → HasPrimary goal all ws x ts
      → machine.wants_primary goal ws ≡ false
      → HasOperand goal all s ws x ts
  as_operand s ws x ts h free = record {
    used = h.used;
    part = h.part;
    strength = 0;
    weakest = 0;
    split = h.split;
    waits = h.waits;
    spells = primary h.spells;
    strong = omega arith;
    covered = omega arith;
    held = zero_holds ws h.used h.waits;
    free = free;
  }

  joined_keeps : (ts : List Token) (p : BinaryOperator × ℕ × List Token) (q : List Pending × Expr) → machine.operator_first ts ≡ Some p
      → Settled goal all p.1 q ts → Keeps goal all (machine.joined p.0 p.1 p.2 q)
  joined_keeps ts p q was t =
      let h = t.operand in
      let f = operator_found ts p was in
      waiting_from goal all q.0 (h.part ++ ts) (wait.Between q.1 p.0 p.1) (h.part ++ f.first ∷ []) p.2
      (record { used = h.used; split = h.split; waits = h.waits })
      (ap (λ us. h.part ++ us) f.split ∙ sym (append_assoc h.part (f.first ∷ []) p.2)) (h.free, t.held) (record {
        strength = h.strength;
        weakest = h.weakest;
        left = h.part;
        operator = f.first;
        split = refl;
        is = f.is;
        spells = h.spells;
        strong = h.strong;
        covered = h.covered;
      })

  operand_at_keeps : (ws : List Pending) (x : Expr) (ts : List Token) (o : Option (BinaryOperator × ℕ × List Token))
      → HasPrimary goal all ws x ts
      → machine.wants_primary goal ws ≡ false → goes_on_primary ts ≡ false → machine.operator_first ts ≡ o
      → Keeps goal all (machine.operand_at x ts ws o)
  operand_at_keeps ws x ts (Some p) h free over was =
      joined_keeps ts p (machine.settled p.1 (length ws) ws x) was (settles goal all p.1 (length ws) ts ws x (as_operand p.1 ws x ts h free) (omega arith))
  operand_at_keeps ws x ts None h free over was =
      let t = settles goal all machine.weakest (length ws) ts ws x (as_operand machine.weakest ws x ts h free) (omega arith) in
      let q = machine.settled machine.weakest (length ws) ws x in
      close_keeps goal all machine.weakest q.0 q.1 ts t.operand (over_both ts over (no_operator ts was))

  operand_keeps : (ws : List Pending) (x : Expr) (ts : List Token) → HasPrimary goal all ws x ts → machine.wants_primary goal ws ≡ false
      → goes_on_primary ts ≡ false → Keeps goal all (machine.operand x ts ws)
  unfolding machine.operand
  operand_keeps ws x ts h free over = operand_at_keeps ws x ts (machine.operator_first ts) h free over refl

  -- BEHIND THE WHOLE PRIMARY

  tested_keeps : (ws vs : List Pending) (x : Expr) (ts rest : List Token) (r : Read TypeName) → HasPrimary goal all ws x ts
      → popped ws ≡ Some (vs, wait.TypeOf) → after_is ts ≡ Some rest → read_type rest ≡ r
      → Keeps goal all (and_then r (λ a rest'. Some (vs, at.Primary (e.TypeOf x a), rest')))
  tested_keeps ws vs x ts rest None h was first read = tt
  tested_keeps ws vs x ts rest (Some p) h was first read =
      let r = back goal all ws vs wait.TypeOf (h.part ++ ts) (unread ws x ts h) was in
      let f : FoundType rest p.0 p.1 = type_found read in
      let whole = token.Keyword word.TypeOf ∷ (h.part ++ token.Keyword word.Is ∷ f.front) in
      let same : r.part ++ (h.part ++ ts) ≡ whole ++ p.1 =
      ap (λ us. us ++ (h.part ++ ts)) r.read
      ∙ ap (λ us. token.Keyword word.TypeOf ∷ (h.part ++ us)) (is_first ts rest first ∙ ap (λ us. token.Keyword word.Is ∷ us) f.split)
      ∙ ap (λ us. token.Keyword word.TypeOf ∷ us) (sym (append_assoc h.part (token.Keyword word.Is ∷ f.front) p.1)) in
      primary_from goal all vs (r.part ++ (h.part ++ ts)) (e.TypeOf x p.0) whole p.1 r.wanting same (type_test h.spells f.spells)
      (tested_ready f.dotted f.opened p.1 f.over)

  type_test_keeps : (ws vs : List Pending) (x : Expr) (ts : List Token) (o : Option (List Token)) → HasPrimary goal all ws x ts
      → popped ws ≡ Some (vs, wait.TypeOf) → after_is ts ≡ o
      → Keeps goal all (behind o (λ rest. and_then (read_type rest) (λ a rest'. Some (vs, at.Primary (e.TypeOf x a), rest'))))
  type_test_keeps ws vs x ts None h was first = tt
  type_test_keeps ws vs x ts (Some rest) h was first = tested_keeps ws vs x ts rest (read_type rest) h was first refl

  address_keeps : (ws vs : List Pending) (x : Expr) (ts : List Token) → HasPrimary goal all ws x ts → popped ws ≡ Some (vs, wait.AddressOf)
      → after_dot ts ≡ None → after_opening ts ≡ None → HasPrimary goal all vs (e.AddressOf x) ts
  address_keeps ws vs x ts h was no_dot no_opening =
      let r = back goal all ws vs wait.AddressOf (h.part ++ ts) (unread ws x ts h) was in
      primary_from goal all vs (r.part ++ (h.part ++ ts)) (e.AddressOf x) (token.Keyword word.AddressOf ∷ h.part) ts r.wanting
      (ap (λ us. us ++ (h.part ++ ts)) r.read) (address h.spells) (operand_ready ts no_dot no_opening)

  behind_none : (g : Goal) (ws : List Pending) (x : Expr) (ts : List Token) → goal ≡ g → HasPrimary goal all ws x ts → popped ws ≡ None
      → goes_on_primary ts ≡ false → Keeps goal all (machine.behind_at g x ts ws None)
  behind_none for.Primary ws x ts same h was over =
      let ended : Ended for.Primary all (init.Expression x) ts = record {
        front = h.part;
        split = h.split ∙ ap (λ us. us ++ (h.part ++ ts)) (none_waits h.waits was);
        ends = primary_ends h.spells over;
      } in
      subst (λ (g : Goal). Ended g all (init.Expression x) ts) (sym same) ended
  behind_none for.Expression ws x ts same h was over =
      operand_keeps ws x ts h (subst (λ (g : Goal). machine.wants_primary g ws ≡ false) (sym same) (free_from for.Expression ws None was refl)) over
  behind_none for.Initializer ws x ts same h was over =
      operand_keeps ws x ts h (subst (λ (g : Goal). machine.wants_primary g ws ≡ false) (sym same) (free_from for.Initializer ws None was refl)) over

  behind_keeps : (ws : List Pending) (x : Expr) (ts : List Token) (o : Option (List Pending × Pending)) → HasPrimary goal all ws x ts
      → popped ws ≡ o
      → after_dot ts ≡ None → after_opening ts ≡ None → goes_on_primary ts ≡ false → Keeps goal all (machine.behind_at goal x ts ws o)
  behind_keeps ws x ts (Some (vs, wait.AddressOf)) h was no_dot no_opening over = address_keeps ws vs x ts h was no_dot no_opening
  behind_keeps ws x ts (Some (vs, wait.TypeOf)) h was no_dot no_opening over = type_test_keeps ws vs x ts (after_is ts) h was refl
  behind_keeps ws x ts (Some (vs, p)) h was no_dot no_opening over =
      operand_keeps ws x ts h (free_from goal ws (Some (vs, p)) was (last_free goal vs p tt)) over
  behind_keeps ws x ts None h was no_dot no_opening over = behind_none goal ws x ts refl h was over

  behind_primary_keeps : (ws : List Pending) (x : Expr) (ts : List Token) → HasPrimary goal all ws x ts → after_dot ts ≡ None
      → after_opening ts ≡ None
      → goes_on_primary ts ≡ false → Keeps goal all (machine.behind_primary goal x ts ws)
  unfolding machine.behind_primary
  behind_primary_keeps ws x ts h no_dot no_opening over = behind_keeps ws x ts (popped ws) h refl no_dot no_opening over

  -- MEMBERS AND CALLS

  brace_keeps : (ws : List Pending) (x : Expr) (ts : List Token) (o : Option (List Token)) → HasPrimary goal all ws x ts
      → after_dot ts ≡ None
      → after_opening ts ≡ None → after_opening_brace ts ≡ o → Keeps goal all (machine.brace_behind goal x ts ws o)
  brace_keeps ws x ts (Some rest) h no_dot no_opening was = tt
  brace_keeps ws x ts None h no_dot no_opening was = behind_primary_keeps ws x ts h no_dot no_opening (over_primary ts no_dot no_opening was)

  called_keeps : (ws : List Pending) (x : Expr) (ts inner : List Token) (o : Option (List Token)) → HasPrimary goal all ws x ts
      → after_opening ts ≡ Some inner → after_closing inner ≡ o → Keeps goal all (machine.called ws x inner o)
  called_keeps ws x ts inner (Some rest) h opened was =
      let same : h.part ++ ts ≡ (h.part ++ opening ∷ closing ∷ []) ++ rest =
      ap (λ us. h.part ++ us) (opening_first ts inner opened ∙ ap (λ us. opening ∷ us) (closing_first inner rest was))
      ∙ sym (append_assoc h.part (opening ∷ closing ∷ []) rest) in
      primary_from goal all ws (h.part ++ ts) (e.Invocation x []) (h.part ++ opening ∷ closing ∷ []) rest (unread ws x ts h) same
      (invocation h.spells no_arguments (h.ready.no_arguments inner rest opened was)) (closed_ready rest)
  called_keeps ws x ts inner None h opened was =
      let same : h.part ++ ts ≡ (h.part ++ opening ∷ []) ++ inner =
      ap (λ us. h.part ++ us) (opening_first ts inner opened) ∙ sym (append_assoc h.part (opening ∷ []) inner) in
      waiting_from goal all ws (h.part ++ ts) (wait.Arguments x []) (h.part ++ opening ∷ []) inner (unread ws x ts h) same tt (record {
        edge = h.edge;
        callee = h.part;
        read = [];
        split = refl;
        spells = h.spells;
        ready = h.ready.arguments inner opened;
        begun = list_empty;
      })

  call_keeps : (ws : List Pending) (x : Expr) (ts : List Token) (o : Option (List Token)) → HasPrimary goal all ws x ts
      → after_dot ts ≡ None
      → after_opening ts ≡ o → Keeps goal all (machine.call_behind goal x ts ws o)
  call_keeps ws x ts (Some inner) h no_dot was = called_keeps ws x ts inner (after_closing inner) h was refl
  call_keeps ws x ts None h no_dot was = brace_keeps ws x ts (after_opening_brace ts) h no_dot was refl

  member_arguments_keep : (ws : List Pending) (x : Expr) (ts rest after : List Token) (n : Name) (r : Read (List TypeName))
      → HasPrimary goal all ws x ts
      → after_dot ts ≡ Some rest → read_name rest ≡ Some (n, after) → read_type_arguments after ≡ r
      → Keeps goal all (and_then r (λ args rest'. Some (ws, at.Primary (e.MemberAccess x n args), rest')))
  member_arguments_keep ws x ts rest after n None h dotted named was = tt
  member_arguments_keep ws x ts rest after n (Some p) h dotted named was =
      let t = name_first rest after n named in
      let f : FoundArguments after p.0 p.1 = arguments_found was in
      let whole = h.part ++ dot ∷ t.first ∷ f.front in
      let same : h.part ++ ts ≡ whole ++ p.1 =
      ap (λ us. h.part ++ us) (dot_first ts rest dotted ∙ ap (λ us. dot ∷ us) (t.split ∙ ap (λ us. t.first ∷ us) f.split))
      ∙ sym (append_assoc h.part (dot ∷ t.first ∷ f.front) p.1) in
      primary_from goal all ws (h.part ++ ts) (e.MemberAccess x n p.0) whole p.1 (unread ws x ts h) same
      (member t.first h.spells (h.ready.member rest dotted) t.is f.spells) (closed_ready p.1)

  member_name_keeps : (ws : List Pending) (x : Expr) (ts rest : List Token) (r : Read Name) → HasPrimary goal all ws x ts
      → after_dot ts ≡ Some rest
      → read_name rest ≡ r
      → Keeps goal all (and_then r (λ n after. and_then (read_type_arguments after) (λ args rest'. Some (ws, at.Primary (e.MemberAccess x n args), rest'))))
  member_name_keeps ws x ts rest None h dotted was = tt
  member_name_keeps ws x ts rest (Some p) h dotted was = member_arguments_keep ws x ts rest p.1 p.0 (read_type_arguments p.1) h dotted was refl

  member_keeps : (ws : List Pending) (x : Expr) (ts : List Token) (o : Option (List Token)) → HasPrimary goal all ws x ts → after_dot ts ≡ o
      → Keeps goal all (machine.member_behind goal x ts ws o)
  member_keeps ws x ts (Some rest) h was = member_name_keeps ws x ts rest (read_name rest) h was refl
  member_keeps ws x ts None h was = call_keeps ws x ts (after_opening ts) h was refl

  pub primary_keeps : (ws : List Pending) (x : Expr) (ts : List Token) → HasPrimary goal all ws x ts
      → Keeps goal all (machine.primary goal x ts ws)
  unfolding machine.primary
  primary_keeps ws x ts h = member_keeps ws x ts (after_dot ts) h refl
