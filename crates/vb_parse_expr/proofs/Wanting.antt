-- Where an operand is to come.
use Rattle.std.proofs.Common.{◌≡◌, ℕ, cond, Bool, true, false, List, [], ◌∷◌, ◌++◌, Option, Some, None, refl, ap, subst, ◌∙◌}
use Rattle.vb_text.specs.declared.names.Name.{Name}
use Rattle.vb_syntax.specs.{declared.{keyword.Keyword.Keyword, symbol.Symbol.Symbol, tokens.Token.Token, types.{BuiltInTypeName.BuiltInTypeName, PrimitiveTypeName.PrimitiveTypeName, TypeName.TypeName}, expression.{UnaryOperator.UnaryOperator, CastOperator.CastOperator, Expr.Expr}}, Literals.integer}
use Rattle.vb_syntax.specs.declared.keyword.Keyword.TheVariants as word
use Rattle.vb_syntax.specs.declared.symbol.Symbol.TheVariants as sign
use Rattle.vb_syntax.specs.declared.tokens.Token.TheVariants as token
use Rattle.vb_syntax.specs.declared.expression.Expr.TheVariants as e
use Rattle.vb_parse_expr.specs.{declared.pending.{Pending.Pending, Goal.Goal}, Words.{opening, opening_brace, closing_brace, dot, name_of, type_of, alone_of, primitive_cast, cast_operator, prefix_of}, Expressions.{alone, name, type_member, with_member, no_elements}, Reading.{after_opening, after_dot, after_opening_brace, after_closing_brace}, TypeReading.{Read, and_then, behind, read_name, read_type_arguments}}
use Rattle.vb_parse_expr.specs.declared.pending.Pending.TheVariants as wait
use Rattle.vb_parse_expr.specs.declared.machine.State.TheVariants as at
use Rattle.vb_parse_expr.specs.MachineReading as machine
use Rattle.vb_parse_expr.proofs.{FirstTokens.{opening_first, dot_first, opening_brace_first, closing_brace_first, name_first}, TypeFronts.{FoundArguments, arguments_found}, Waiting.{IsReadFrom, IsPlaced, Wanting, HasPrimary, Keeps}, Settling.some_of, States.{closed_ready, elements_empty, waiting_from, primary_from, braces_from}, Creations.creation_keeps}

module _ (goal : Goal) (all : List Token) where
  alone_keeps : (ws : List Pending) (t : Token) (ts : List Token) (x : Expr) → Wanting goal all ws (t ∷ ts) → alone_of t ≡ Some x
      → HasPrimary goal all ws x ts
  alone_keeps ws t ts x w is = primary_from goal all ws (t ∷ ts) x (t ∷ []) ts w refl (alone t is) (closed_ready ts)

  -- A NAME, WITH TYPE ARGUMENTS OR WITHOUT

  named_by : (ws : List Pending) (t : Token) (ts : List Token) (n : Name) (r : Read (List TypeName)) → Wanting goal all ws (t ∷ ts)
      → name_of t ≡ Some n
      → read_type_arguments ts ≡ r → Keeps goal all (and_then r (λ args rest. Some (ws, at.Primary (e.SimpleName n args), rest)))
  named_by ws t ts n None w is was = tt
  named_by ws t ts n (Some p) w is was =
      let f : FoundArguments ts p.0 p.1 = arguments_found was in
      primary_from goal all ws (t ∷ ts) (e.SimpleName n p.0) (t ∷ f.front) p.1 w (ap (λ us. t ∷ us) f.split) (name t is f.spells) (closed_ready p.1)

  named_keeps : (ws : List Pending) (t : Token) (ts : List Token) (n : Name) → Wanting goal all ws (t ∷ ts) → name_of t ≡ Some n
      → Keeps goal all (machine.named ws n ts)
  named_keeps ws t ts n w is = named_by ws t ts n (read_type_arguments ts) w is refl

  -- A WORD OF A TYPE OR OF A CAST, AND IF

  type_member_keeps : (ws : List Pending) (t : Token) (ts rest : List Token) (b : BuiltInTypeName) (r : Read Name)
      → Wanting goal all ws (t ∷ ts)
      → type_of t ≡ Some b → after_dot ts ≡ Some rest → read_name rest ≡ r
      → Keeps goal all (and_then r (λ n rest'. Some (ws, at.Primary (e.BuiltInMemberAccess b n), rest')))
  type_member_keeps ws t ts rest b None w is dotted was = tt
  type_member_keeps ws t ts rest b (Some p) w is dotted was =
      let f = name_first rest p.1 p.0 was in
      let same : t ∷ ts ≡ t ∷ dot ∷ f.first ∷ p.1 = ap (λ us. t ∷ us) (dot_first ts rest dotted ∙ ap (λ us. dot ∷ us) f.split) in
      primary_from goal all ws (t ∷ ts) (e.BuiltInMemberAccess b p.0) (t ∷ dot ∷ f.first ∷ []) p.1 w same (type_member t f.first is f.is) (closed_ready p.1)

  type_dot_keeps : (ws : List Pending) (t : Token) (ts : List Token) (b : BuiltInTypeName) (o : Option (List Token))
      → Wanting goal all ws (t ∷ ts)
      → type_of t ≡ Some b → after_dot ts ≡ o
      → Keeps goal all (behind o (λ rest. and_then (read_name rest) (λ n rest'. Some (ws, at.Primary (e.BuiltInMemberAccess b n), rest'))))
  type_dot_keeps ws t ts b None w is was = tt
  type_dot_keeps ws t ts b (Some rest) w is was = type_member_keeps ws t ts rest b (read_name rest) w is was refl

  if_is : (ws : List Pending) (t : Token) (p : Pending) → machine.conditional_word t ≡ Some p
      → IsPlaced goal ws p × IsReadFrom p (t ∷ opening ∷ [])
  if_is ws (token.Keyword word.If) p e =
      subst (λ (q : Pending). IsPlaced goal ws q × IsReadFrom q (token.Keyword word.If ∷ opening ∷ [])) (some_of wait.Test p e) (tt, refl)
  if_is ws t p e = cc

  call_is : (ws : List Pending) (t : Token) (a : Option PrimitiveTypeName) (o : Option CastOperator) (p : Pending) → primitive_cast t ≡ a
      → cast_operator t ≡ o → machine.call_at t a o ≡ Some p → IsPlaced goal ws p × IsReadFrom p (t ∷ opening ∷ [])
  call_is ws t (Some a) o p was was' e =
      subst (λ (q : Pending). IsPlaced goal ws q × IsReadFrom q (t ∷ opening ∷ [])) (some_of (wait.Conversion a) p e) (tt, (t, refl, was))
  call_is ws t None (Some o) p was was' e =
      subst (λ (q : Pending). IsPlaced goal ws q × IsReadFrom q (t ∷ opening ∷ [])) (some_of (wait.Cast o) p e) (tt, (t, refl, was'))
  call_is ws t None None p was was' e = if_is ws t p e

  call_begun_keeps : (ws : List Pending) (t : Token) (ts inner : List Token) (p : Option Pending) → Wanting goal all ws (t ∷ ts)
      → after_opening ts ≡ Some inner → machine.call_of t ≡ p → Keeps goal all (machine.call_begun ws p inner)
  unfolding machine.call_of
  call_begun_keeps ws t ts inner None w opened is = tt
  call_begun_keeps ws t ts inner (Some p) w opened is =
      let c = call_is ws t (primitive_cast t) (cast_operator t) p refl refl is in
      waiting_from goal all ws (t ∷ ts) p (t ∷ opening ∷ []) inner w (ap (λ us. t ∷ us) (opening_first ts inner opened)) c.0 c.1

  call_keeps : (ws : List Pending) (t : Token) (ts : List Token) (o : Option (List Token)) → Wanting goal all ws (t ∷ ts)
      → after_opening ts ≡ o
      → Keeps goal all (behind o (λ inner. machine.call_begun ws (machine.call_of t) inner))
  call_keeps ws t ts None w was = tt
  call_keeps ws t ts (Some inner) w was = call_begun_keeps ws t ts inner (machine.call_of t) w was refl

  word_keeps : (ws : List Pending) (t : Token) (ts : List Token) (b : Option BuiltInTypeName) → Wanting goal all ws (t ∷ ts) → type_of t ≡ b
      → Keeps goal all (machine.word_at ws t ts b)
  word_keeps ws t ts (Some b) w is = type_dot_keeps ws t ts b (after_dot ts) w is refl
  word_keeps ws t ts None w is = call_keeps ws t ts (after_opening ts) w refl

  begin_word_keeps : (ws : List Pending) (t : Token) (ts : List Token) → Wanting goal all ws (t ∷ ts)
      → Keeps goal all (machine.begin_word ws t ts)
  unfolding machine.begin_word
  begin_word_keeps ws t ts w = word_keeps ws t ts (type_of t) w refl

  -- A SIGN

  with_member_keeps : (ws : List Pending) (ts : List Token) (r : Read Name) → Wanting goal all ws (dot ∷ ts) → read_name ts ≡ r
      → Keeps goal all (and_then r (λ n rest. Some (ws, at.Primary (e.WithMemberAccess n), rest)))
  with_member_keeps ws ts None w was = tt
  with_member_keeps ws ts (Some p) w was =
      let f = name_first ts p.1 p.0 was in
      primary_from goal all ws (dot ∷ ts) (e.WithMemberAccess p.0) (dot ∷ f.first ∷ []) p.1 w (ap (λ us. dot ∷ us) f.split) (with_member f.first f.is)
      (closed_ready p.1)

  begin_sign_keeps : (ws : List Pending) (s : Symbol) (ts : List Token) → Wanting goal all ws (token.Symbol s ∷ ts)
      → Keeps goal all (machine.begin_sign ws s ts)
  unfolding machine.begin_sign
  begin_sign_keeps ws sign.OpenParenthesis ts w = waiting_from goal all ws (opening ∷ ts) wait.Parenthesis (opening ∷ []) ts w refl tt refl
  begin_sign_keeps ws sign.Dot ts w = with_member_keeps ws ts (read_name ts) w refl
  begin_sign_keeps ws s ts w = tt

  -- ANY TOKEN

  begin_keeps : (ws : List Pending) (t : Token) (ts : List Token) → Wanting goal all ws (t ∷ ts) → Keeps goal all (machine.begin ws t ts)
  unfolding machine.begin
  begin_keeps ws (token.Name n) ts w = named_keeps ws (token.Name n) ts n w refl
  begin_keeps ws (token.EscapedName n) ts w = named_keeps ws (token.EscapedName n) ts n w refl
  begin_keeps ws (token.Integer l) ts w = alone_keeps ws (token.Integer l) ts (e.Integer (integer l)) w refl
  begin_keeps ws (token.Text t) ts w = alone_keeps ws (token.Text t) ts (e.Text t) w refl
  begin_keeps ws (token.Char u) ts w = alone_keeps ws (token.Char u) ts (e.Char u) w refl
  begin_keeps ws (token.Symbol s) ts w = begin_sign_keeps ws s ts w
  begin_keeps ws (token.Keyword word.True) ts w = alone_keeps ws (token.Keyword word.True) ts e.True w refl
  begin_keeps ws (token.Keyword word.False) ts w = alone_keeps ws (token.Keyword word.False) ts e.False w refl
  begin_keeps ws (token.Keyword word.Nothing) ts w = alone_keeps ws (token.Keyword word.Nothing) ts e.Nothing w refl
  begin_keeps ws (token.Keyword word.Me) ts w = alone_keeps ws (token.Keyword word.Me) ts e.Me w refl
  begin_keeps ws (token.Keyword word.MyBase) ts w = alone_keeps ws (token.Keyword word.MyBase) ts e.MyBase w refl
  begin_keeps ws (token.Keyword word.AddressOf) ts w =
      waiting_from goal all ws (token.Keyword word.AddressOf ∷ ts) wait.AddressOf (token.Keyword word.AddressOf ∷ []) ts w refl tt refl
  begin_keeps ws (token.Keyword word.TypeOf) ts w =
      waiting_from goal all ws (token.Keyword word.TypeOf ∷ ts) wait.TypeOf (token.Keyword word.TypeOf ∷ []) ts w refl tt refl
  begin_keeps ws (token.Keyword word.New) ts w = creation_keeps goal all ws ts w
  begin_keeps ws (token.Keyword k) ts w = begin_word_keeps ws (token.Keyword k) ts w

  -- BRACES AND OPERATORS

  elements_by : (ws : List Pending) (ts : List Token) (o : Option (List Token)) → Wanting goal all ws (opening_brace ∷ ts)
      → machine.wants_element goal ws ≡ true → after_closing_brace ts ≡ o → Keeps goal all (machine.elements_at ws ts o)
  elements_by ws ts (Some rest) w placed was =
      braces_from goal all ws (opening_brace ∷ ts) [] (opening_brace ∷ closing_brace ∷ []) rest w
      (ap (λ us. opening_brace ∷ us) (closing_brace_first ts rest was)) no_elements placed
  elements_by ws ts None w placed was =
      waiting_from goal all ws (opening_brace ∷ ts) (wait.Elements []) (opening_brace ∷ []) ts w refl placed
      (record { read = []; split = refl; begun = elements_empty })

  elements_keep : (ws : List Pending) (ts : List Token) → Wanting goal all ws (opening_brace ∷ ts) → machine.wants_element goal ws ≡ true
      → Keeps goal all (machine.elements ws ts)
  unfolding machine.elements
  elements_keep ws ts w placed = elements_by ws ts (after_closing_brace ts) w placed refl

  elements_if : (ws : List Pending) (ts : List Token) (b : Bool) → Wanting goal all ws (opening_brace ∷ ts)
      → machine.wants_element goal ws ≡ b
      → Keeps goal all (cond b (machine.elements ws ts) None)
  elements_if ws ts true w placed = elements_keep ws ts w placed
  elements_if ws ts false w placed = tt

  braces_or_begin_keeps : (ws : List Pending) (t : Token) (ts : List Token) (o : Option (List Token)) → Wanting goal all ws (t ∷ ts)
      → after_opening_brace (t ∷ ts) ≡ o → Keeps goal all (machine.braces_or_begin goal ws t ts o)
  braces_or_begin_keeps ws t ts (Some inner) w was =
      elements_if ws inner (machine.wants_element goal ws) (subst (λ us. Wanting goal all ws us) (opening_brace_first (t ∷ ts) inner was) w) refl
  braces_or_begin_keeps ws t ts None w was = begin_keeps ws t ts w

  prefix_if : (ws : List Pending) (t : Token) (ts : List Token) (p : UnaryOperator × ℕ) (b : Bool) → Wanting goal all ws (t ∷ ts)
      → prefix_of t ≡ Some p
      → machine.wants_primary goal ws ≡ b → Keeps goal all (cond b None (Some (ws ++ wait.Before p.0 p.1 ∷ [], at.Want, ts)))
  prefix_if ws t ts p true w is placed = tt
  prefix_if ws t ts p false w is placed =
      waiting_from goal all ws (t ∷ ts) (wait.Before p.0 p.1) (t ∷ []) ts w refl placed (t, refl, is)

  prefix_or_begin_keeps : (ws : List Pending) (t : Token) (ts : List Token) (p : Option (UnaryOperator × ℕ)) → Wanting goal all ws (t ∷ ts)
      → prefix_of t ≡ p → Keeps goal all (machine.prefix_or_begin goal ws t ts p)
  prefix_or_begin_keeps ws t ts (Some p) w is = prefix_if ws t ts p (machine.wants_primary goal ws) w is refl
  prefix_or_begin_keeps ws t ts None w is = braces_or_begin_keeps ws t ts (after_opening_brace (t ∷ ts)) w refl

  pub want_keeps : (ws : List Pending) (ts : List Token) → Wanting goal all ws ts → Keeps goal all (machine.want goal ws ts)
  unfolding machine.want
  want_keeps ws [] w = tt
  want_keeps ws (t ∷ ts) w = prefix_or_begin_keeps ws t ts (prefix_of t) w refl
