-- Arguments in parentheses and elements in braces are read.
use Rattle.std.proofs.Common.{◌≡◌, ℕ, ◌≤◌, true, false, List, [], ◌∷◌, ◌++◌, length, Option, Some, None, Err, refl, ap, sym, ◌∙◌, subst, arith, append_assoc, length-append}
use Rattle.vb_syntax.specs.declared.{tokens.Token.Token, types.SimpleTypeName.SimpleTypeName, expression.{Expr.Expr, VariableInitializer.VariableInitializer}}
use Rattle.vb_syntax.specs.declared.expression.Expr.TheVariants as expr
use Rattle.vb_syntax.specs.declared.expression.VariableInitializer.TheVariants as init
use Rattle.vb_parse_expr.specs.{declared.pending.{Pending.Pending, Goal.Goal}, Words.{opening, closing, opening_brace, closing_brace, comma}, Expressions.{Edge, takes_arguments, SpellsList}, Reading.{after_opening, after_closing, after_opening_brace, after_closing_brace, after_comma}, TypeReading.most_tokens, MachineReading.{last_wants_element, wants_element, elements_at, elements, array_at, array_or_not, bound_of, created_at, created, arguments_or_created, creation_at, close_with, element, finished}}
use Rattle.vb_parse_expr.specs.declared.pending.Pending.TheVariants as wait
use Rattle.vb_parse_expr.specs.declared.machine.State.TheVariants as at
use Rattle.vb_parse_expr.proofs.{Lists.popped_append, Reaches.{Reaches, nothing, then, one_step}, Steps.brace_step, Behind.{empty_call_step, call_step, braces_last}, Holding.is_bracket, Firsts.{Begins, begins_behind, no_closing, no_closing_brace, list_begins}, Edges.{Over, over_empty, over_list, opening_over_type, empty_over_type}, ReadingParts.{from_same, Leads, ReadsExpression, Listing, call, new, waiting, listed, ReadsList, ReadsArguments, Braced, array, nested, held, braced, ReadsInitializer, ReadsInitializers, ReadsElements, bracketed}}

-- ARGUMENTS

waiting_bracket : (l : Listing) (xs : List Expr) → is_bracket (waiting l xs) ≡ true
waiting_bracket (call f) xs = refl
waiting_bracket (new a) xs = refl

last_listed : (l : Listing) (before : List Expr) (x : Expr) (ws : List Pending) (rest : List Token)
    → close_with x (closing ∷ rest) ws (waiting l before) ≡ listed l ws (before ++ x ∷ []) rest
unfolding after_comma after_closing
last_listed (call f) before x ws rest = refl
last_listed (new a) before x ws rest = refl

next_listed : (l : Listing) (before : List Expr) (x : Expr) (ws : List Pending) (rest : List Token)
    → close_with x (comma ∷ rest) ws (waiting l before) ≡ Some (ws ++ waiting l (before ++ x ∷ []) ∷ [], at.Want, rest)
unfolding after_comma
next_listed (call f) before x ws rest = refl
next_listed (new a) before x ws rest = refl

pub one_list : {goal : Goal} {h w : ℕ} {ts : List Token} {x : Expr} → ReadsExpression goal h w ts x → ReadsList goal ts (x ∷ [])
one_list {x = x} q = record {
  reads = λ l before ws rest ws' s' ts' within lead.
      then (bracketed (waiting l before) ws (closing ∷ rest) lead.stack lead.state lead.left (waiting_bracket l before) q refl within
      (last_listed l before x ws rest ∙ lead.is) lead.going (omega (arith, lead.fewer))) lead.reaches;
}

pub more_list : {goal : Goal} {h w : ℕ} {ts us : List Token} {x : Expr} {xs : List Expr} → ReadsExpression goal h w ts x → ReadsList goal us xs
    → ReadsList goal (ts ++ comma ∷ us) (x ∷ xs)
more_list {goal = goal} {ts = ts} {us = us} {x = x} {xs = xs} q r = record {
  reads = λ l before ws rest ws' s' ts' within lead.
      let same = append_assoc ts (comma ∷ us) (closing ∷ rest) in
      let inside = subst (λ (us : List Token). length us ≤ most_tokens) same within in
      from_same same
      (then (bracketed (waiting l before) ws (comma ∷ (us ++ closing ∷ rest)) (ws ++ waiting l (before ++ x ∷ []) ∷ []) at.Want (us ++ closing ∷ rest)
      (waiting_bracket l before) q refl inside (next_listed l before x ws (us ++ closing ∷ rest)) refl (omega arith))
      (r.reads l (before ++ x ∷ []) ws rest ws' s' ts' (omega (arith, inside, length-append ts (comma ∷ (us ++ closing ∷ rest))))
      (subst (λ (ys : List Expr). Leads goal (listed l ws ys rest) rest ws' s' ts') (sym (append_assoc before (x ∷ []) xs)) lead)));
}

over_arguments : {edge : Edge} {ts us : List Token} {xs : List Expr} → SpellsList ts xs → takes_arguments edge xs ≡ false → Begins us
    → Over edge (opening ∷ us)
over_arguments {us = us} (SpellsList.one {x = x} s) e begins = over_list x [] us e begins
over_arguments {us = us} (SpellsList.more {x = x} {xs = xs} s l) e begins = over_list x xs us e begins

object_created : (ws : List Pending) (a : SimpleTypeName) (xs : List Expr) (rest : List Token) → after_opening_brace rest ≡ None
    → created ws a xs rest ≡ Some (ws, at.Primary (expr.ObjectCreation a xs), rest)
unfolding created
object_created ws a xs rest e = ap (created_at ws a xs rest) e

object_leads : {goal : Goal} (ws : List Pending) (a : SimpleTypeName) (xs : List Expr) (rest : List Token) → after_opening_brace rest ≡ None
    → Leads goal (created ws a xs rest) rest ws (at.Primary (expr.ObjectCreation a xs)) rest
object_leads ws a xs rest e = record {
  stack = ws;
  state = at.Primary (expr.ObjectCreation a xs);
  left = rest;
  is = object_created ws a xs rest e;
  going = refl;
  fewer = omega arith;
  reaches = nothing ws (at.Primary (expr.ObjectCreation a xs)) rest;
}

empty_created : (ws : List Pending) (a : SimpleTypeName) (rest : List Token) → after_opening_brace rest ≡ None
    → creation_at ws a (opening ∷ closing ∷ rest) (after_opening (opening ∷ closing ∷ rest)) ≡ Some (ws, at.Primary (expr.ObjectCreation a []), rest)
unfolding after_opening after_closing
empty_created ws a rest e = object_created ws a [] rest e

pub empty_arguments : {goal : Goal} → ReadsArguments goal (opening ∷ closing ∷ []) []
empty_arguments {goal = goal} = record {
  called = λ ws x rest within.
      one_step ws (at.Primary x) (opening ∷ closing ∷ rest) ws (at.Primary (expr.Invocation x [])) rest (empty_call_step goal ws x rest) refl (omega arith);
  made = λ ws a rest no_brace within. record {
    stack = ws;
    state = at.Primary (expr.ObjectCreation a []);
    left = rest;
    is = empty_created ws a rest no_brace;
    going = refl;
    fewer = omega arith;
    reaches = nothing ws (at.Primary (expr.ObjectCreation a [])) rest;
  };
  over = λ edge rest e. over_empty rest e;
  over_type = λ dotted rest. empty_over_type dotted rest;
}

call_listed : {goal : Goal} (f : Expr) (ws : List Pending) (xs : List Expr) (rest : List Token)
    → Leads goal (listed (call f) ws xs rest) rest ws (at.Primary (expr.Invocation f xs)) rest
call_listed f ws xs rest = record {
  stack = ws;
  state = at.Primary (expr.Invocation f xs);
  left = rest;
  is = refl;
  going = refl;
  fewer = omega arith;
  reaches = nothing ws (at.Primary (expr.Invocation f xs)) rest;
}

pub creation_begun : (ws : List Pending) (a : SimpleTypeName) (inner : List Token) → after_closing inner ≡ None
    → creation_at ws a (opening ∷ inner) (after_opening (opening ∷ inner)) ≡ Some (ws ++ wait.Creation a [] ∷ [], at.Want, inner)
unfolding after_opening
creation_begun ws a inner e = ap (arguments_or_created ws a inner) e

-- the tokens of a list with its bracket, before the rest
pub ended : (ts : List Token) (t : Token) (rest : List Token) → (ts ++ t ∷ []) ++ rest ≡ ts ++ t ∷ rest
ended ts t rest = append_assoc ts (t ∷ []) rest

pub some_arguments : {goal : Goal} {ts : List Token} {xs : List Expr} → SpellsList ts xs → ReadsList goal ts xs
    → ReadsArguments goal (opening ∷ (ts ++ closing ∷ [])) xs
some_arguments {goal = goal} {ts = ts} {xs = xs} spells q =
    let begins = λ (rest : List Token). begins_behind rest (begins_behind (closing ∷ []) (list_begins spells)) in
    record {
      called = λ ws x rest within.
          then (one_step ws (at.Primary x) (opening ∷ ((ts ++ closing ∷ []) ++ rest)) (ws ++ wait.Arguments x [] ∷ []) at.Want ((ts ++ closing ∷ []) ++ rest)
          (call_step goal ws x ((ts ++ closing ∷ []) ++ rest) (no_closing (begins rest))) refl (omega arith))
          (from_same (ended ts closing rest)
          (q.reads (call x) [] ws rest ws (at.Primary (expr.Invocation x xs)) rest
          (omega (arith, within, ap length (ended ts closing rest))) (call_listed x ws xs rest)));
      made = λ ws a rest no_brace within. record {
        stack = ws ++ wait.Creation a [] ∷ [];
        state = at.Want;
        left = (ts ++ closing ∷ []) ++ rest;
        is = creation_begun ws a ((ts ++ closing ∷ []) ++ rest) (no_closing (begins rest));
        going = refl;
        fewer = omega arith;
        reaches = from_same (ended ts closing rest)
            (q.reads (new a) [] ws rest ws (at.Primary (expr.ObjectCreation a xs)) rest
            (omega (arith, within, ap length (ended ts closing rest))) (object_leads ws a xs rest no_brace));
      };
      over = λ edge rest e. over_arguments spells e (begins rest);
      over_type = λ dotted rest. opening_over_type dotted (begins rest);
    }

-- ELEMENTS

held_bracket : (b : Braced) (is : List VariableInitializer) → is_bracket (held b is) ≡ true
held_bracket (array a b) is = refl
held_bracket nested is = refl

last_held : (b : Braced) (before : List VariableInitializer) (i : VariableInitializer) (ws : List Pending) (rest : List Token)
    → element i (closing_brace ∷ rest) (held b before) ws ≡ Some (ws, braced b (before ++ i ∷ []), rest)
unfolding element after_comma after_closing_brace
last_held (array a b) before i ws rest = refl
last_held nested before i ws rest = refl

next_held : (b : Braced) (before : List VariableInitializer) (i : VariableInitializer) (ws : List Pending) (rest : List Token)
    → element i (comma ∷ rest) (held b before) ws ≡ Some (ws ++ held b (before ++ i ∷ []) ∷ [], at.Want, rest)
unfolding element after_comma
next_held (array a b) before i ws rest = refl
next_held nested before i ws rest = refl

braced_goes : (b : Braced) (is : List VariableInitializer) → finished (braced b is) ≡ Err (braced b is)
braced_goes (array a b) is = refl
braced_goes nested is = refl

held_closes : (b : Braced) (before : List VariableInitializer) (x : Expr) (ws : List Pending) (rest : List Token)
    → close_with x rest ws (held b before) ≡ element (init.Expression x) rest (held b before) ws
held_closes (array a b) before x ws rest = refl
held_closes nested before x ws rest = refl

held_wants : (goal : Goal) (b : Braced) (before : List VariableInitializer) (ws : List Pending) → last_wants_element goal (Some (ws, held b before)) ≡ true
held_wants goal (array a b) before ws = refl
held_wants goal nested before ws = refl

element_wanted : (goal : Goal) (b : Braced) (before : List VariableInitializer) (ws : List Pending) → wants_element goal (ws ++ held b before ∷ []) ≡ true
unfolding wants_element
element_wanted goal b before ws = ap (last_wants_element goal) (popped_append ws (held b before)) ∙ held_wants goal b before ws

pub expression_initializer : {goal : Goal} {h w : ℕ} {ts : List Token} {x : Expr} → ReadsExpression goal h w ts x → ReadsInitializer goal ts (init.Expression x)
expression_initializer {x = x} q = record {
  reads = λ b before ws rest ws' s' ts' over within e going shorter.
      bracketed (held b before) ws rest ws' s' ts' (held_bracket b before) q over within (held_closes b before x ws rest ∙ e) going shorter;
}

pub elements_initializer : {goal : Goal} {ts : List Token} {is : List VariableInitializer} → ReadsElements goal ts is → ReadsInitializer goal ts (init.Elements is)
elements_initializer {goal = goal} {is = is} q = record {
  reads = λ b before ws rest ws' s' ts' over within e going shorter.
      then (q.reads (ws ++ held b before ∷ []) rest (element_wanted goal b before ws) within)
      (one_step (ws ++ held b before ∷ []) (at.Braces is) rest ws' s' ts' (braces_last goal ws (held b before) is rest ∙ e) going shorter);
}

pub one_element : {goal : Goal} {ts : List Token} {i : VariableInitializer} → ReadsInitializer goal ts i → ReadsInitializers goal ts (i ∷ [])
one_element {i = i} q = record {
  reads = λ b before ws rest within.
      q.reads b before ws (closing_brace ∷ rest) ws (braced b (before ++ i ∷ [])) rest refl within (last_held b before i ws rest)
      (braced_goes b (before ++ i ∷ [])) (omega arith);
}

pub more_elements : {goal : Goal} {ts us : List Token} {i : VariableInitializer} {is : List VariableInitializer} → ReadsInitializer goal ts i
    → ReadsInitializers goal us is → ReadsInitializers goal (ts ++ comma ∷ us) (i ∷ is)
more_elements {goal = goal} {ts = ts} {us = us} {i = i} {is = is} q r = record {
  reads = λ b before ws rest within.
      let same = append_assoc ts (comma ∷ us) (closing_brace ∷ rest) in
      let inside = subst (λ (us : List Token). length us ≤ most_tokens) same within in
      from_same same
      (then (q.reads b before ws (comma ∷ (us ++ closing_brace ∷ rest)) (ws ++ held b (before ++ i ∷ []) ∷ []) at.Want (us ++ closing_brace ∷ rest) refl inside
      (next_held b before i ws (us ++ closing_brace ∷ rest)) refl (omega arith))
      (subst (λ (js : List VariableInitializer). Reaches goal (ws ++ held b (before ++ i ∷ []) ∷ []) at.Want (us ++ closing_brace ∷ rest) ws (braced b js) rest)
      (append_assoc before (i ∷ []) is)
      (r.reads b (before ++ i ∷ []) ws rest (omega (arith, inside, length-append ts (comma ∷ (us ++ closing_brace ∷ rest)))))));
}

empty_step : (ws : List Pending) (rest : List Token) → elements ws (closing_brace ∷ rest) ≡ Some (ws, at.Braces [], rest)
unfolding elements after_closing_brace
empty_step ws rest = refl

array_created : (ws : List Pending) (a : SimpleTypeName) (xs : List Expr) (b : Option Expr) (inner : List Token) → bound_of xs ≡ Some b
    → created ws a xs (opening_brace ∷ inner) ≡ array_at ws a b inner (after_closing_brace inner)
unfolding created after_opening_brace
array_created ws a xs b inner e = ap (array_or_not ws a inner) e

empty_array : (ws : List Pending) (a : SimpleTypeName) (b : Option Expr) (rest : List Token)
    → array_at ws a b (closing_brace ∷ rest) (after_closing_brace (closing_brace ∷ rest)) ≡ Some (ws, at.Primary (expr.ArrayCreation a b []), rest)
unfolding after_closing_brace
empty_array ws a b rest = refl

pub empty_elements : {goal : Goal} → ReadsElements goal (opening_brace ∷ closing_brace ∷ []) []
empty_elements {goal = goal} = record {
  reads = λ ws rest wanted within.
      one_step ws at.Want (opening_brace ∷ closing_brace ∷ rest) ws (at.Braces []) rest
      (brace_step goal ws (closing_brace ∷ rest) wanted ∙ empty_step ws rest) refl (omega arith);
  made = λ ws a xs b rest bound within. record {
    stack = ws;
    state = at.Primary (expr.ArrayCreation a b []);
    left = rest;
    is = array_created ws a xs b (closing_brace ∷ rest) bound ∙ empty_array ws a b rest;
    going = refl;
    fewer = omega arith;
    reaches = nothing ws (at.Primary (expr.ArrayCreation a b [])) rest;
  };
}

elements_step : (ws : List Pending) (inner : List Token) → after_closing_brace inner ≡ None
    → elements ws inner ≡ Some (ws ++ wait.Elements [] ∷ [], at.Want, inner)
unfolding elements
elements_step ws inner e = ap (elements_at ws inner) e

pub some_elements : {goal : Goal} {ts : List Token} {is : List VariableInitializer} → Begins ts → ReadsInitializers goal ts is
    → ReadsElements goal (opening_brace ∷ (ts ++ closing_brace ∷ [])) is
some_elements {goal = goal} {ts = ts} {is = is} first q =
    let begins = λ (rest : List Token). begins_behind rest (begins_behind (closing_brace ∷ []) first) in
    record {
      reads = λ ws rest wanted within.
          then (one_step ws at.Want (opening_brace ∷ ((ts ++ closing_brace ∷ []) ++ rest)) (ws ++ wait.Elements [] ∷ []) at.Want ((ts ++ closing_brace ∷ []) ++ rest)
          (brace_step goal ws ((ts ++ closing_brace ∷ []) ++ rest) wanted ∙ elements_step ws ((ts ++ closing_brace ∷ []) ++ rest) (no_closing_brace (begins rest)))
          refl (omega arith))
          (from_same (ended ts closing_brace rest)
          (q.reads nested [] ws rest (omega (arith, within, ap length (ended ts closing_brace rest)))));
      made = λ ws a xs b rest bound within. record {
        stack = ws ++ wait.Array a b [] ∷ [];
        state = at.Want;
        left = (ts ++ closing_brace ∷ []) ++ rest;
        is = array_created ws a xs b ((ts ++ closing_brace ∷ []) ++ rest) bound
            ∙ ap (array_at ws a b ((ts ++ closing_brace ∷ []) ++ rest)) (no_closing_brace (begins rest));
        going = refl;
        fewer = omega arith;
        reaches = from_same (ended ts closing_brace rest)
            (q.reads (array a b) [] ws rest (omega (arith, within, ap length (ended ts closing_brace rest))));
      };
    }
