-- Behind an element, and behind an expression that is over.
use Rattle.std.proofs.Common.{◌≡◌, ℕ, true, false, List, [], ◌∷◌, ◌++◌, Option, Some, None, refl, ap, sym, subst, ◌∙◌, append_assoc}
use Rattle.vb_syntax.specs.declared.keyword.Keyword.TheVariants as word
use Rattle.vb_syntax.specs.declared.{tokens.Token.Token, types.{SimpleTypeName.SimpleTypeName, TypeName.TypeName}, expression.{CastOperator.CastOperator, Expr.Expr, VariableInitializer.VariableInitializer}}
use Rattle.vb_syntax.specs.declared.tokens.Token.TheVariants as token
use Rattle.vb_syntax.specs.declared.expression.Expr.TheVariants as e
use Rattle.vb_syntax.specs.declared.expression.VariableInitializer.TheVariants as init
use Rattle.vb_parse_expr.specs.{declared.pending.{Pending.Pending, Goal.Goal}, Words.{opening, closing, opening_brace, closing_brace, comma, cast_operator}, Expressions.{closed, takes_arguments, Spells, SpellsPrimary, parenthesized, invocation, conversion, cast, conditional, arguments, SpellsInitializer, expression, elements, SpellsElements, braces}, Fronts.goes_on, Reading.{after_closing, after_closing_brace, after_comma}, TypeReading.{Read, and_then, behind, popped, read_type}}
use Rattle.vb_parse_expr.specs.declared.pending.Pending.TheVariants as wait
use Rattle.vb_parse_expr.specs.declared.pending.Goal.TheVariants as for
use Rattle.vb_parse_expr.specs.MachineReading as machine
use Rattle.vb_parse_expr.proofs.{FirstTokens.{closing_first, closing_brace_first, comma_first}, TypeFronts.{FoundType, type_found}, Waiting.{IsReadFrom, IsPlaced, Wanting, HasBraces, Ended, expression_ends, elements_end, Keeps, CallBegun, CreationBegun, ThenBegun, ElseBegun, NewElementsBegun, BracesBegun, is_for_primary}, Settling.{none_waits, HasOperand}, States.{closed_ready, list_longer, list_whole, elements_longer, elements_whole, back, waiting_from, primary_from, braces_from}, Creations.created_keeps}

-- tokens that were taken off again, before a part and what stands behind it
pub again : {taken front ts us : List Token} (part : List Token) → taken ≡ front → ts ≡ us → taken ++ (part ++ ts) ≡ front ++ (part ++ us)
again {taken} {front} {ts} {us} part e f = ap (λ vs. vs ++ (part ++ ts)) e ∙ ap (λ vs. front ++ (part ++ vs)) f

module _ (goal : Goal) (all : List Token) where
  -- BEHIND AN ELEMENT

  array_more_keeps : (ws : List Pending) (a : SimpleTypeName) (b : Option Expr) (is : List VariableInitializer) (i : VariableInitializer)
      (taken part ts : List Token) (comma_is end_is : Option (List Token)) → Wanting goal all ws (taken ++ (part ++ ts)) → NewElementsBegun a b is taken
      → SpellsInitializer part i → after_comma ts ≡ comma_is → after_closing_brace ts ≡ end_is
      → Keeps goal all (machine.array_more ws a b (is ++ i ∷ []) comma_is end_is)
  array_more_keeps ws a b is i taken part ts (Some next) end_is w n s was was' =
      let same = again part n.split (comma_first ts next was) in
      let grouped : (n.head ++ opening_brace ∷ n.read) ++ (part ++ comma ∷ next) ≡ (n.head ++ opening_brace ∷ (n.read ++ (part ++ comma ∷ []))) ++ next =
      simp append_assoc in
      waiting_from goal all ws (taken ++ (part ++ ts)) (wait.Array a b (is ++ i ∷ [])) (n.head ++ opening_brace ∷ (n.read ++ (part ++ comma ∷ []))) next w
      (same ∙ grouped) tt
      (record { head = n.head; read = n.read ++ (part ++ comma ∷ []); split = refl; array = n.array; begun = elements_longer n.begun s })
  array_more_keeps ws a b is i taken part ts None (Some rest) w n s was was' =
      let same = again part n.split (closing_brace_first ts rest was') in
      let grouped : (n.head ++ opening_brace ∷ n.read) ++ (part ++ closing_brace ∷ rest)
      ≡ (n.head ++ opening_brace ∷ ((n.read ++ part) ++ closing_brace ∷ [])) ++ rest = simp append_assoc in
      primary_from goal all ws (taken ++ (part ++ ts)) (e.ArrayCreation a b (is ++ i ∷ []))
      (n.head ++ opening_brace ∷ ((n.read ++ part) ++ closing_brace ∷ [])) rest
      w (same ∙ grouped) (n.array.goes_on (braces (elements_whole n.begun s))) (closed_ready rest)
  array_more_keeps ws a b is i taken part ts None None w n s was was' = tt

  elements_more_keep : (ws : List Pending) (is : List VariableInitializer) (i : VariableInitializer)
      (taken part ts : List Token) (comma_is end_is : Option (List Token)) → Wanting goal all ws (taken ++ (part ++ ts)) → machine.wants_element goal ws ≡ true
      → BracesBegun is taken → SpellsInitializer part i → after_comma ts ≡ comma_is → after_closing_brace ts ≡ end_is
      → Keeps goal all (machine.elements_more ws (is ++ i ∷ []) comma_is end_is)
  elements_more_keep ws is i taken part ts (Some next) end_is w placed n s was was' =
      let same = again part n.split (comma_first ts next was) in
      let grouped : (opening_brace ∷ n.read) ++ (part ++ comma ∷ next) ≡ (opening_brace ∷ (n.read ++ (part ++ comma ∷ []))) ++ next = simp append_assoc in
      waiting_from goal all ws (taken ++ (part ++ ts)) (wait.Elements (is ++ i ∷ [])) (opening_brace ∷ (n.read ++ (part ++ comma ∷ []))) next w
      (same ∙ grouped) placed (record { read = n.read ++ (part ++ comma ∷ []); split = refl; begun = elements_longer n.begun s })
  elements_more_keep ws is i taken part ts None (Some rest) w placed n s was was' =
      let same = again part n.split (closing_brace_first ts rest was') in
      let grouped : (opening_brace ∷ n.read) ++ (part ++ closing_brace ∷ rest) ≡ (opening_brace ∷ ((n.read ++ part) ++ closing_brace ∷ [])) ++ rest =
      simp append_assoc in
      braces_from goal all ws (taken ++ (part ++ ts)) (is ++ i ∷ []) (opening_brace ∷ ((n.read ++ part) ++ closing_brace ∷ [])) rest w (same ∙ grouped)
      (braces (elements_whole n.begun s)) placed
  elements_more_keep ws is i taken part ts None None w placed n s was was' = tt

  element_keeps : (ws vs : List Pending) (p : Pending) (i : VariableInitializer) (part ts : List Token) → Wanting goal all ws (part ++ ts)
      → SpellsInitializer part i → popped ws ≡ Some (vs, p) → Keeps goal all (machine.element i ts p vs)
  unfolding machine.element
  element_keeps ws vs (wait.Array a b is) i part ts w s was =
      let r = back goal all ws vs (wait.Array a b is) (part ++ ts) w was in
      array_more_keeps vs a b is i r.part part ts (after_comma ts) (after_closing_brace ts) r.wanting r.read s refl refl
  element_keeps ws vs (wait.Elements is) i part ts w s was =
      let r = back goal all ws vs (wait.Elements is) (part ++ ts) w was in
      elements_more_keep vs is i r.part part ts (after_comma ts) (after_closing_brace ts) r.wanting r.placed r.read s refl refl
  element_keeps ws vs p i part ts w s was = tt

  elements_end_at : (g : Goal) (ws : List Pending) (is : List VariableInitializer) (part ts : List Token) → all ≡ part ++ ts
      → machine.last_wants_element g None ≡ true → SpellsElements part is → Ended g all (init.Elements is) ts
  elements_end_at for.Initializer ws is part ts e placed s = record { front = part; split = e; ends = elements_end s }
  elements_end_at for.Expression ws is part ts e placed s = cc
  elements_end_at for.Primary ws is part ts e placed s = cc

  elements_done : (ws : List Pending) (is : List VariableInitializer) (ts : List Token) → HasBraces goal all ws is ts → popped ws ≡ None
      → Ended goal all (init.Elements is) ts
  unfolding machine.wants_element
  elements_done ws is ts h was =
      let split : all ≡ h.part ++ ts = h.split ∙ ap (λ us. us ++ (h.part ++ ts)) (none_waits h.waits was) in
      elements_end_at goal ws is h.part ts split (subst (λ o. machine.last_wants_element goal o ≡ true) was h.placed) h.spells

  braces_at_keep : (ws : List Pending) (is : List VariableInitializer) (ts : List Token) (o : Option (List Pending × Pending))
      → HasBraces goal all ws is ts
      → popped ws ≡ o → Keeps goal all (machine.braces_at is ts ws o)
  braces_at_keep ws is ts None h was = elements_done ws is ts h was
  braces_at_keep ws is ts (Some p) h was =
      element_keeps ws p.0 p.1 (init.Elements is) h.part ts (record { used = h.used; split = h.split; waits = h.waits }) (elements h.spells) was

  pub braces_keep : (ws : List Pending) (is : List VariableInitializer) (ts : List Token) → HasBraces goal all ws is ts
      → Keeps goal all (machine.braces is ts ws)
  unfolding machine.braces
  braces_keep ws is ts h = braces_at_keep ws is ts (popped ws) h refl

  -- BEHIND AN EXPRESSION

  closed_as_keeps : (ws : List Pending) (x : Expr) (before ts : List Token) (o : Option (List Token)) → Wanting goal all ws (before ++ ts)
      → SpellsPrimary closed (before ++ closing ∷ []) x → after_closing ts ≡ o → Keeps goal all (machine.closed_as ws x o)
  closed_as_keeps ws x before ts None w s was = tt
  closed_as_keeps ws x before ts (Some rest) w s was =
      primary_from goal all ws (before ++ ts) x (before ++ closing ∷ []) rest w
      (ap (λ us. before ++ us) (closing_first ts rest was) ∙ sym (append_assoc before (closing ∷ []) rest)) s (closed_ready rest)

  next_part_keeps : (ws : List Pending) (p : Pending) (before ts : List Token) (o : Option (List Token))
      → Wanting goal all ws (before ++ ts)
      → IsPlaced goal ws p → IsReadFrom p (before ++ comma ∷ []) → after_comma ts ≡ o → Keeps goal all (machine.next_part ws p o)
  next_part_keeps ws p before ts None w placed read was = tt
  next_part_keeps ws p before ts (Some next) w placed read was =
      waiting_from goal all ws (before ++ ts) p (before ++ comma ∷ []) next w
      (ap (λ us. before ++ us) (comma_first ts next was) ∙ sym (append_assoc before (comma ∷ []) next)) placed read

  -- there is a last argument
  ready_last : {f : Expr} {xs : List Expr} {taken : List Token} (c : CallBegun f xs taken) (ys : List Expr) (x : Expr)
      → takes_arguments c.edge (ys ++ x ∷ []) ≡ false
  ready_last c [] x = c.ready x []
  ready_last c (y ∷ ys) x = c.ready y (ys ++ x ∷ [])

  call_more_keeps : {h k : ℕ} (ws : List Pending) (f : Expr) (xs : List Expr) (x : Expr) (taken part ts : List Token) (comma_is end_is : Option (List Token))
      → Wanting goal all ws (taken ++ (part ++ ts)) → CallBegun f xs taken → Spells h k part x → after_comma ts ≡ comma_is
      → after_closing ts ≡ end_is
      → Keeps goal all (machine.call_more ws f (xs ++ x ∷ []) comma_is end_is)
  call_more_keeps ws f xs x taken part ts (Some next) end_is w c s was was' =
      let same = again part c.split (comma_first ts next was) in
      let grouped : (c.callee ++ opening ∷ c.read) ++ (part ++ comma ∷ next) ≡ (c.callee ++ opening ∷ (c.read ++ (part ++ comma ∷ []))) ++ next =
      simp append_assoc in
      waiting_from goal all ws (taken ++ (part ++ ts)) (wait.Arguments f (xs ++ x ∷ [])) (c.callee ++ opening ∷ (c.read ++ (part ++ comma ∷ []))) next w
      (same ∙ grouped) tt
      (record {
        edge = c.edge;
        callee = c.callee;
        read = c.read ++ (part ++ comma ∷ []);
        split = refl;
        spells = c.spells;
        ready = c.ready;
        begun = list_longer c.begun s;
      })
  call_more_keeps ws f xs x taken part ts None (Some rest) w c s was was' =
      let same = again part c.split (closing_first ts rest was') in
      let grouped : (c.callee ++ opening ∷ c.read) ++ (part ++ closing ∷ rest) ≡ (c.callee ++ opening ∷ ((c.read ++ part) ++ closing ∷ [])) ++ rest =
      simp append_assoc in
      primary_from goal all ws (taken ++ (part ++ ts)) (e.Invocation f (xs ++ x ∷ [])) (c.callee ++ opening ∷ ((c.read ++ part) ++ closing ∷ [])) rest w
      (same ∙ grouped) (invocation c.spells (arguments (list_whole c.begun s)) (ready_last c xs x)) (closed_ready rest)
  call_more_keeps ws f xs x taken part ts None None w c s was was' = tt

  creation_more_keeps : {h k : ℕ} (ws : List Pending) (a : SimpleTypeName) (xs : List Expr) (x : Expr) (taken part ts : List Token)
      (comma_is end_is : Option (List Token)) → Wanting goal all ws (taken ++ (part ++ ts)) → CreationBegun a xs taken → Spells h k part x
      → after_comma ts ≡ comma_is → after_closing ts ≡ end_is → Keeps goal all (machine.creation_more ws a (xs ++ x ∷ []) comma_is end_is)
  creation_more_keeps ws a xs x taken part ts (Some next) end_is w c s was was' =
      let same = again part c.split (comma_first ts next was) in
      let grouped : (token.Keyword word.New ∷ (c.front ++ opening ∷ c.read)) ++ (part ++ comma ∷ next)
      ≡ (token.Keyword word.New ∷ (c.front ++ opening ∷ (c.read ++ (part ++ comma ∷ [])))) ++ next = simp append_assoc in
      waiting_from goal all ws (taken ++ (part ++ ts)) (wait.Creation a (xs ++ x ∷ []))
      (token.Keyword word.New ∷ (c.front ++ opening ∷ (c.read ++ (part ++ comma ∷ [])))) next w (same ∙ grouped) tt
      (record { dotted = c.dotted; front = c.front; read = c.read ++ (part ++ comma ∷ []); split = refl; spells = c.spells; begun = list_longer c.begun s })
  creation_more_keeps ws a xs x taken part ts None (Some rest) w c s was was' =
      let same = again part c.split (closing_first ts rest was') in
      let whole = token.Keyword word.New ∷ (c.front ++ opening ∷ ((c.read ++ part) ++ closing ∷ [])) in
      let grouped : (token.Keyword word.New ∷ (c.front ++ opening ∷ c.read)) ++ (part ++ closing ∷ rest) ≡ whole ++ rest = simp append_assoc in
      created_keeps goal all ws a (xs ++ x ∷ []) whole rest (subst (λ us. Wanting goal all ws us) (same ∙ grouped) w) (record {
        dotted = c.dotted;
        front = c.front;
        back = opening ∷ ((c.read ++ part) ++ closing ∷ []);
        split = refl;
        spells = c.spells;
        arguments = arguments (list_whole c.begun s);
      })
  creation_more_keeps ws a xs x taken part ts None None w c s was was' = tt

  cast_type_keeps : {h k : ℕ} (ws : List Pending) (t : Token) (o : CastOperator) (x : Expr) (part rest : List Token) (r : Read TypeName)
      → Wanting goal all ws (t ∷ opening ∷ (part ++ comma ∷ rest)) → cast_operator t ≡ Some o → Spells h k part x → read_type rest ≡ r
      → Keeps goal all (and_then r (λ a rest'. machine.closed_as ws (e.Cast o x a) (after_closing rest')))
  cast_type_keeps ws t o x part rest None w is s was = tt
  cast_type_keeps ws t o x part rest (Some p) w is s was =
      let f : FoundType rest p.0 p.1 = type_found was in
      let before = t ∷ opening ∷ (part ++ comma ∷ f.front) in
      let same : t ∷ opening ∷ (part ++ comma ∷ rest) ≡ before ++ p.1 =
      ap (λ us. t ∷ opening ∷ (part ++ comma ∷ us)) f.split ∙ ap (λ us. t ∷ opening ∷ us) (sym (append_assoc part (comma ∷ f.front) p.1)) in
      closed_as_keeps ws (e.Cast o x p.0) before p.1 (after_closing p.1) (subst (λ us. Wanting goal all ws us) same w)
      (simp append_assoc (cast t is s f.spells)) refl

  cast_comma_keeps : {h k : ℕ} (ws : List Pending) (t : Token) (o : CastOperator) (x : Expr) (part ts : List Token) (c : Option (List Token))
      → Wanting goal all ws (t ∷ opening ∷ (part ++ ts)) → cast_operator t ≡ Some o → Spells h k part x → after_comma ts ≡ c
      → Keeps goal all (behind c (λ rest. and_then (read_type rest) (λ a rest'. machine.closed_as ws (e.Cast o x a) (after_closing rest'))))
  cast_comma_keeps ws t o x part ts None w is s was = tt
  cast_comma_keeps ws t o x part ts (Some rest) w is s was =
      let same = ap (λ us. t ∷ opening ∷ (part ++ us)) (comma_first ts rest was) in
      cast_type_keeps ws t o x part rest (read_type rest) (subst (λ us. Wanting goal all ws us) same w) is s refl

  conditional_keeps : {h k : ℕ} (ws : List Pending) (y z x : Expr) (taken part ts : List Token)
      → Wanting goal all ws (taken ++ (part ++ ts))
      → ElseBegun y z taken → Spells h k part x → Keeps goal all (machine.closed_as ws (e.Conditional y z x) (after_closing ts))
  conditional_keeps ws y z x taken part ts w c s =
      let before = token.Keyword word.If ∷ opening ∷ (c.test ++ comma ∷ (c.first ++ comma ∷ part)) in
      let grouped : (token.Keyword word.If ∷ opening ∷ (c.test ++ comma ∷ (c.first ++ comma ∷ []))) ++ (part ++ ts) ≡ before ++ ts = simp append_assoc in
      closed_as_keeps ws (e.Conditional y z x) before ts (after_closing ts)
      (subst (λ us. Wanting goal all ws us) (ap (λ us. us ++ (part ++ ts)) c.split ∙ grouped) w)
      (simp append_assoc (conditional c.spells c.spells_first s)) refl

  then_keeps : {h k : ℕ} (ws : List Pending) (y x : Expr) (taken part ts : List Token) → Wanting goal all ws (taken ++ (part ++ ts))
      → ThenBegun y taken → Spells h k part x → Keeps goal all (machine.next_part ws (wait.Else y x) (after_comma ts))
  then_keeps {h} {k} ws y x taken part ts w c s =
      let before = token.Keyword word.If ∷ opening ∷ (c.test ++ comma ∷ part) in
      let grouped : (token.Keyword word.If ∷ opening ∷ (c.test ++ comma ∷ [])) ++ (part ++ ts) ≡ before ++ ts = simp append_assoc in
      next_part_keeps ws (wait.Else y x) before ts (after_comma ts)
      (subst (λ us. Wanting goal all ws us) (ap (λ us. us ++ (part ++ ts)) c.split ∙ grouped) w) tt
      (record {
        strength = c.strength;
        weakest = c.weakest;
        strength' = h;
        weakest' = k;
        test = c.test;
        first = part;
        split = simp append_assoc;
        spells = c.spells;
        spells_first = s;
      }) refl

  close_with_keeps : {h k : ℕ} (ws vs : List Pending) (p : Pending) (x : Expr) (part ts : List Token) → Wanting goal all ws (part ++ ts)
      → Spells h k part x → popped ws ≡ Some (vs, p) → Keeps goal all (machine.close_with x ts vs p)
  close_with_keeps ws vs wait.Parenthesis x part ts w s was =
      let r = back goal all ws vs wait.Parenthesis (part ++ ts) w was in
      closed_as_keeps vs (e.Parenthesized x) (opening ∷ part) ts (after_closing ts) (subst (λ us. Wanting goal all vs (us ++ (part ++ ts))) r.read r.wanting)
      (parenthesized s) refl
  close_with_keeps ws vs (wait.Arguments f xs) x part ts w s was =
      let r = back goal all ws vs (wait.Arguments f xs) (part ++ ts) w was in
      call_more_keeps vs f xs x r.part part ts (after_comma ts) (after_closing ts) r.wanting r.read s refl refl
  close_with_keeps ws vs (wait.Creation a xs) x part ts w s was =
      let r = back goal all ws vs (wait.Creation a xs) (part ++ ts) w was in
      creation_more_keeps vs a xs x r.part part ts (after_comma ts) (after_closing ts) r.wanting r.read s refl refl
  close_with_keeps ws vs (wait.Array a b is) x part ts w s was = element_keeps ws vs (wait.Array a b is) (init.Expression x) part ts w (expression s) was
  close_with_keeps ws vs (wait.Elements is) x part ts w s was = element_keeps ws vs (wait.Elements is) (init.Expression x) part ts w (expression s) was
  close_with_keeps ws vs (wait.Conversion a) x part ts w s was =
      let r = back goal all ws vs (wait.Conversion a) (part ++ ts) w was in
      closed_as_keeps vs (e.PrimitiveCast a x) (r.read.0 ∷ opening ∷ part) ts (after_closing ts)
      (subst (λ us. Wanting goal all vs (us ++ (part ++ ts))) r.read.1 r.wanting) (conversion r.read.0 r.read.2 s) refl
  close_with_keeps ws vs (wait.Cast o) x part ts w s was =
      let r = back goal all ws vs (wait.Cast o) (part ++ ts) w was in
      cast_comma_keeps vs r.read.0 o x part ts (after_comma ts) (subst (λ us. Wanting goal all vs (us ++ (part ++ ts))) r.read.1 r.wanting) r.read.2 s refl
  close_with_keeps {h} {k} ws vs wait.Test x part ts w s was =
      let r = back goal all ws vs wait.Test (part ++ ts) w was in
      next_part_keeps vs (wait.Then x) (token.Keyword word.If ∷ opening ∷ part) ts (after_comma ts)
      (subst (λ us. Wanting goal all vs (us ++ (part ++ ts))) r.read r.wanting) tt
      (record { strength = h; weakest = k; test = part; split = refl; spells = s }) refl
  close_with_keeps ws vs (wait.Then y) x part ts w s was =
      let r = back goal all ws vs (wait.Then y) (part ++ ts) w was in then_keeps vs y x r.part part ts r.wanting r.read s
  close_with_keeps ws vs (wait.Else y z) x part ts w s was =
      let r = back goal all ws vs (wait.Else y z) (part ++ ts) w was in conditional_keeps vs y z x r.part part ts r.wanting r.read s
  close_with_keeps ws vs p x part ts w s was = tt

  -- with nothing that waits the goal isn't a primary, behind which no operator is read
  not_for_primary : (g : Goal) → machine.last_wants_primary g None ≡ false → is_for_primary g ≡ false
  not_for_primary for.Primary e = cc
  not_for_primary for.Expression e = refl
  not_for_primary for.Initializer e = refl

  expression_done : (s : ℕ) (ws : List Pending) (x : Expr) (ts : List Token) → HasOperand goal all s ws x ts → goes_on ts ≡ false
      → popped ws ≡ None
      → Ended goal all (init.Expression x) ts
  unfolding machine.wants_primary
  expression_done s ws x ts h over was = record {
    front = h.part;
    split = h.split ∙ ap (λ us. us ++ (h.part ++ ts)) (none_waits h.waits was);
    ends = expression_ends goal (not_for_primary goal (subst (λ o. machine.last_wants_primary goal o ≡ false) was h.free)) h.spells over;
  }

  close_at_keeps : (s : ℕ) (ws : List Pending) (x : Expr) (ts : List Token) (o : Option (List Pending × Pending))
      → HasOperand goal all s ws x ts
      → goes_on ts ≡ false → popped ws ≡ o → Keeps goal all (machine.close_at x ts ws o)
  close_at_keeps s ws x ts None h over was = expression_done s ws x ts h over was
  close_at_keeps s ws x ts (Some p) h over was =
      close_with_keeps ws p.0 p.1 x h.part ts (record { used = h.used; split = h.split; waits = h.waits }) h.spells was

  pub close_keeps : (s : ℕ) (ws : List Pending) (x : Expr) (ts : List Token) → HasOperand goal all s ws x ts → goes_on ts ≡ false
      → Keeps goal all (machine.close x ts ws)
  unfolding machine.close
  close_keeps s ws x ts h over = close_at_keeps s ws x ts (popped ws) h over refl
