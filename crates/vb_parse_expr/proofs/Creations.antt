-- New objects and new arrays.
use Rattle.std.proofs.Common.{◌≡◌, ℕ, Bool, false, List, [], ◌∷◌, ◌++◌, Option, Some, None, refl, ap, sym, subst, ◌∙◌, append_assoc}
use Rattle.vb_syntax.specs.declared.keyword.Keyword.TheVariants as word
use Rattle.vb_syntax.specs.declared.{tokens.Token.Token, types.SimpleTypeName.SimpleTypeName, expression.Expr.Expr}
use Rattle.vb_syntax.specs.declared.tokens.Token.TheVariants as token
use Rattle.vb_syntax.specs.declared.expression.Expr.TheVariants as e
use Rattle.vb_parse_expr.specs.{declared.pending.{Pending.Pending, Goal.Goal}, Words.{opening, closing, opening_brace, closing_brace}, Types.{SpellsSimpleType, goes_on_type}, Expressions.{closed, created, Spells, SpellsPrimary, creation, creation_with, array, bounded_array, SpellsArguments, no_arguments, arguments, SpellsList, one, more, no_elements}, Reading.{after_opening, after_closing, after_opening_brace, after_closing_brace}, TypeReading.{Read, and_then, read_simple_type}}
use Rattle.vb_parse_expr.specs.declared.pending.Pending.TheVariants as wait
use Rattle.vb_parse_expr.specs.MachineReading as machine
use Rattle.vb_parse_expr.proofs.{FirstTokens.{opening_first, closing_first, opening_brace_first, closing_brace_first}, TypeFronts.{FoundSimpleType, simple_type_found}, Waiting.{Wanting, Keeps, ArrayBegun}, States.{closed_ready, created_ready, list_empty, elements_empty, waiting_from, primary_from}}

-- `New`, a type and arguments in parentheses
pub record Called (a : SimpleTypeName) (xs : List Expr) (ts : List Token) : Type 0 where
  pub dotted : Bool
  pub front : List Token
  pub back : List Token
  pub split : ts ≡ token.Keyword word.New ∷ (front ++ back)
  pub spells : SpellsSimpleType dotted front a
  pub arguments : SpellsArguments back xs

-- NO ARGUMENT, OR ONE

list_some : {ts : List Token} {xs : List Expr} → SpellsList ts xs → xs ≡ [] → ⊥
list_some (one s) e = cc
list_some (more s l) e = cc

no_tokens : {ts : List Token} {xs : List Expr} → SpellsArguments ts xs → xs ≡ [] → ts ≡ opening ∷ closing ∷ []
no_tokens no_arguments e = refl
no_tokens (arguments l) e = absurd (list_some l e)

record OneSpelled (ts : List Token) (x : Expr) : Type 0 where
  pub strength : ℕ
  pub weakest : ℕ
  pub spells : Spells strength weakest ts x

one_spelled : {ts : List Token} {xs : List Expr} (x : Expr) → SpellsList ts xs → xs ≡ x ∷ [] → OneSpelled ts x
one_spelled x (one {h} {w} {ts} {x = y} s) e =
    let same : y ≡ x = cc in
    subst (λ z. OneSpelled ts z) same (record { strength = h; weakest = w; spells = s })
one_spelled x (more {xs} s l) e = let none : xs ≡ [] = cc in absurd (list_some l none)

record BoundSpelled (ts : List Token) (x : Expr) : Type 0 where
  pub inner : List Token
  pub split : ts ≡ opening ∷ (inner ++ closing ∷ [])
  pub bound : OneSpelled inner x

bound_spelled : {ts : List Token} {xs : List Expr} (x : Expr) → SpellsArguments ts xs → xs ≡ x ∷ [] → BoundSpelled ts x
bound_spelled x no_arguments e = cc
bound_spelled x (arguments {ts} l) e = record { inner = ts; split = refl; bound = one_spelled x l e }

unbounded : {a : SimpleTypeName} {ts : List Token} → Called a [] ts → ArrayBegun ts a None
unbounded {a} {ts} c =
    let back = no_tokens c.arguments refl in
    let whole : ts ≡ token.Keyword word.New ∷ (c.front ++ opening ∷ closing ∷ []) = c.split ∙ ap (λ us. token.Keyword word.New ∷ (c.front ++ us)) back in
    record {
      goes_on = λ {us} {is} s. subst (λ vs. SpellsPrimary closed (vs ++ us) (e.ArrayCreation a None is)) (sym whole) (simp append_assoc (array c.spells s));
    }

bounded_by : {a : SimpleTypeName} {x : Expr} {ts : List Token} → Called a (x ∷ []) ts → ArrayBegun ts a (Some x)
bounded_by {a} {x} {ts} c =
    let b = bound_spelled x c.arguments refl in
    let whole : ts ≡ token.Keyword word.New ∷ (c.front ++ opening ∷ (b.inner ++ closing ∷ [])) =
    c.split ∙ ap (λ us. token.Keyword word.New ∷ (c.front ++ us)) b.split in
    record {
      goes_on = λ {us} {is} s. subst (λ vs. SpellsPrimary closed (vs ++ us) (e.ArrayCreation a (Some x) is)) (sym whole)
          (simp append_assoc (bounded_array c.spells b.bound.spells s));
    }

module _ (goal : Goal) (all : List Token) where
  -- NEW ARRAYS

  array_keeps : (ws : List Pending) (a : SimpleTypeName) (b : Option Expr) (part ts : List Token) (o : Option (List Token))
      → Wanting goal all ws (part ++ opening_brace ∷ ts) → ArrayBegun part a b → after_closing_brace ts ≡ o
      → Keeps goal all (machine.array_at ws a b ts o)
  array_keeps ws a b part ts (Some rest) w begun was =
      let same : part ++ opening_brace ∷ ts ≡ (part ++ opening_brace ∷ closing_brace ∷ []) ++ rest =
      ap (λ us. part ++ opening_brace ∷ us) (closing_brace_first ts rest was) ∙ sym (append_assoc part (opening_brace ∷ closing_brace ∷ []) rest) in
      primary_from goal all ws (part ++ opening_brace ∷ ts) (e.ArrayCreation a b []) (part ++ opening_brace ∷ closing_brace ∷ []) rest w same
      (begun.goes_on no_elements) (closed_ready rest)
  array_keeps ws a b part ts None w begun was =
      waiting_from goal all ws (part ++ opening_brace ∷ ts) (wait.Array a b []) (part ++ opening_brace ∷ []) ts w
      (sym (append_assoc part (opening_brace ∷ []) ts)) tt
      (record { head = part; read = []; split = refl; array = begun; begun = elements_empty })

  bounded_keeps : (ws : List Pending) (a : SimpleTypeName) (xs : List Expr) (part ts : List Token)
      → Wanting goal all ws (part ++ opening_brace ∷ ts) → Called a xs part → Keeps goal all (machine.bounded ws a xs ts)
  bounded_keeps ws a [] part ts w c = array_keeps ws a None part ts (after_closing_brace ts) w (unbounded c) refl
  bounded_keeps ws a (x ∷ []) part ts w c = array_keeps ws a (Some x) part ts (after_closing_brace ts) w (bounded_by c) refl
  bounded_keeps ws a (x ∷ y ∷ xs) part ts w c = tt

  -- NEW OBJECTS WITH ARGUMENTS

  called_spells : (a : SimpleTypeName) (xs : List Expr) (part : List Token) → Called a xs part
      → SpellsPrimary closed part (e.ObjectCreation a xs)
  called_spells a xs part c = subst (λ us. SpellsPrimary closed us (e.ObjectCreation a xs)) (sym c.split) (creation_with c.spells c.arguments)

  created_at_keeps : (ws : List Pending) (a : SimpleTypeName) (xs : List Expr) (part ts : List Token) (o : Option (List Token))
      → Wanting goal all ws (part ++ ts) → Called a xs part → after_opening_brace ts ≡ o → Keeps goal all (machine.created_at ws a xs ts o)
  created_at_keeps ws a xs part ts None w c was =
      primary_from goal all ws (part ++ ts) (e.ObjectCreation a xs) part ts w refl (called_spells a xs part c) (closed_ready ts)
  created_at_keeps ws a xs part ts (Some inner) w c was =
      bounded_keeps ws a xs part inner (subst (λ us. Wanting goal all ws (part ++ us)) (opening_brace_first ts inner was) w) c

  pub created_keeps : (ws : List Pending) (a : SimpleTypeName) (xs : List Expr) (part ts : List Token) → Wanting goal all ws (part ++ ts)
      → Called a xs part
      → Keeps goal all (machine.created ws a xs ts)
  unfolding machine.created
  created_keeps ws a xs part ts w c = created_at_keeps ws a xs part ts (after_opening_brace ts) w c refl

  -- NEW

  arguments_keep : (ws : List Pending) (a : SimpleTypeName) (dotted : Bool) (front inner : List Token) (o : Option (List Token))
      → Wanting goal all ws (token.Keyword word.New ∷ (front ++ opening ∷ inner)) → SpellsSimpleType dotted front a
      → after_closing inner ≡ o
      → Keeps goal all (machine.arguments_or_created ws a inner o)
  arguments_keep ws a dotted front inner (Some rest) w spells was =
      let part = token.Keyword word.New ∷ (front ++ opening ∷ closing ∷ []) in
      let same : token.Keyword word.New ∷ (front ++ opening ∷ inner) ≡ part ++ rest =
      ap (λ us. token.Keyword word.New ∷ (front ++ opening ∷ us)) (closing_first inner rest was)
      ∙ ap (λ us. token.Keyword word.New ∷ us) (sym (append_assoc front (opening ∷ closing ∷ []) rest)) in
      created_keeps ws a [] part rest (subst (λ us. Wanting goal all ws us) same w)
      (record { dotted = dotted; front = front; back = opening ∷ closing ∷ []; split = refl; spells = spells; arguments = no_arguments })
  arguments_keep ws a dotted front inner None w spells was =
      waiting_from goal all ws (token.Keyword word.New ∷ (front ++ opening ∷ inner)) (wait.Creation a [])
      (token.Keyword word.New ∷ (front ++ opening ∷ [])) inner
      w (ap (λ us. token.Keyword word.New ∷ us) (sym (append_assoc front (opening ∷ []) inner))) tt
      (record { dotted = dotted; front = front; read = []; split = refl; spells = spells; begun = list_empty })

  creation_at_keeps : (ws : List Pending) (a : SimpleTypeName) (dotted : Bool) (front ts : List Token) (o : Option (List Token))
      → Wanting goal all ws (token.Keyword word.New ∷ (front ++ ts)) → SpellsSimpleType dotted front a
      → goes_on_type dotted false ts ≡ false → after_opening ts ≡ o → Keeps goal all (machine.creation_at ws a ts o)
  creation_at_keeps ws a dotted front ts None w spells over was =
      primary_from goal all ws (token.Keyword word.New ∷ (front ++ ts)) (e.ObjectCreation a []) (token.Keyword word.New ∷ front) ts w refl
      (creation spells) (created_ready dotted ts over was)
  creation_at_keeps ws a dotted front ts (Some inner) w spells over was =
      let same = ap (λ us. token.Keyword word.New ∷ (front ++ us)) (opening_first ts inner was) in
      arguments_keep ws a dotted front inner (after_closing inner) (subst (λ us. Wanting goal all ws us) same w) spells refl

  creation_read_keeps : (ws : List Pending) (ts : List Token) (r : Read SimpleTypeName) → Wanting goal all ws (token.Keyword word.New ∷ ts)
      → read_simple_type ts ≡ r → Keeps goal all (and_then r (λ a rest. machine.creation_at ws a rest (after_opening rest)))
  creation_read_keeps ws ts None w was = tt
  creation_read_keeps ws ts (Some p) w was =
      let f : FoundSimpleType ts p.0 p.1 = simple_type_found was in
      let same = ap (λ us. token.Keyword word.New ∷ us) f.split in
      creation_at_keeps ws p.0 f.dotted f.front p.1 (after_opening p.1) (subst (λ us. Wanting goal all ws us) same w) f.spells f.over refl

  pub creation_keeps : (ws : List Pending) (ts : List Token) → Wanting goal all ws (token.Keyword word.New ∷ ts)
      → Keeps goal all (machine.creation ws ts)
  unfolding machine.creation
  creation_keeps ws ts w = creation_read_keeps ws ts (read_simple_type ts) w refl
