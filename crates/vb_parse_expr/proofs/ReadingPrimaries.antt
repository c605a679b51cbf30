-- Each form of a primary is read, where its parts are.
use Rattle.std.proofs.Common.{◌≡◌, ℕ, ◌≤◌, Bool, false, List, [], ◌∷◌, ◌++◌, length, Some, None, refl, ap, ◌∙◌, arith, append_assoc, length-append}
use Rattle.vb_text.specs.declared.names.Name.{Name}
use Rattle.vb_syntax.specs.declared.keyword.Keyword.TheVariants as word
use Rattle.vb_syntax.specs.declared.{tokens.Token.Token, types.{PrimitiveTypeName.PrimitiveTypeName, BuiltInTypeName.BuiltInTypeName, SimpleTypeName.SimpleTypeName, TypeName.TypeName}, expression.{CastOperator.CastOperator, Expr.Expr, VariableInitializer.VariableInitializer}}
use Rattle.vb_syntax.specs.declared.tokens.Token.TheVariants as token
use Rattle.vb_syntax.specs.declared.expression.Expr.TheVariants as expr
use Rattle.vb_parse_expr.specs.{declared.{pending.{Pending.Pending, Goal.Goal}, machine.State.State}, Words.{opening, closing, comma, dot, name_of, type_of, alone_of, primitive_cast, cast_operator}, Types.{SpellsType, SpellsSimpleType, SpellsTypeArguments, goes_on_type}, Expressions.{Edge, closed, operand, created, tested, takes_member, takes_arguments}, Reading.{after_opening, after_closing, after_comma}, TypeReading.{and_then, most_tokens, read_type}, MachineReading.{created as spec_created, creation_at, closed_as, close_with}}
use Rattle.vb_parse_expr.specs.declared.pending.Pending.TheVariants as wait
use Rattle.vb_parse_expr.specs.declared.machine.State.TheVariants as at
use Rattle.vb_parse_expr.proofs.{TypeFronts.{type_read, simple_type_read, arguments_read}, Reaches.{Reaches, then, one_step, around}, Steps.{alone_step, opening_step, name_step, address_step, test_step, member_step, new_step, type_member_step, conversion_step, cast_step, if_step}, Behind.{member_behind_step, address_behind, test_behind}, Firsts.{Begins, begins_behind, no_closing}, Edges.{over_dot, over_end, over_type, over_created_type, over_created, over_operand, over_arguments, either_false, opening_over_type, empty_over_type}, ReadingParts.{from_same, Leads, leads, ReadsExpression, ReadsPrimary, new, ReadsArguments, ReadsElements, bracketed}, ReadingLists.{ended, creation_begun, one_list}}

pub alone_primary : {goal : Goal} {x : Expr} (t : Token) → alone_of t ≡ Some x → ReadsPrimary goal closed (t ∷ []) x
alone_primary {goal = goal} {x = x} t is = record {
  reads = λ ws rest over within. one_step ws at.Want (t ∷ rest) ws (at.Primary x) rest (alone_step goal ws t rest is) refl (omega arith);
}

pub name_primary : {goal : Goal} {n : Name} {bare : Bool} {us : List Token} {args : List TypeName} (t : Token) → name_of t ≡ Some n
    → SpellsTypeArguments bare us args → ReadsPrimary goal closed (t ∷ us) (expr.SimpleName n args)
name_primary {goal = goal} {n = n} {bare = bare} {us = us} {args = args} t is spells = record {
  reads = λ ws rest over within.
      one_step ws at.Want (t ∷ (us ++ rest)) ws (at.Primary (expr.SimpleName n args)) rest
      (name_step goal ws t (us ++ rest) is (arguments_read rest spells (over_arguments bare over) (omega arith))) refl
      (omega (arith, length-append us rest));
}

pub address_primary : {goal : Goal} {edge : Edge} {ts : List Token} {x : Expr} → ReadsPrimary goal edge ts x
    → ReadsPrimary goal operand (token.Keyword word.AddressOf ∷ ts) (expr.AddressOf x)
address_primary {goal = goal} {ts = ts} {x = x} p = record {
  reads = λ ws rest over within.
      let none = over_operand over in
      around ws at.Want (token.Keyword word.AddressOf ∷ (ts ++ rest)) (ws ++ wait.AddressOf ∷ []) at.Want (ts ++ rest)
      (ws ++ wait.AddressOf ∷ []) (at.Primary x) rest ws (at.Primary (expr.AddressOf x))
      (address_step goal ws (ts ++ rest)) refl (omega arith)
      (p.reads (ws ++ wait.AddressOf ∷ []) rest (over_end rest none) (omega arith))
      (address_behind goal ws x rest none) refl;
}

pub test_primary : {goal : Goal} {edge : Edge} {dotted opened : Bool} {ts us : List Token} {x : Expr} {a : TypeName} → ReadsPrimary goal edge ts x
    → SpellsType dotted opened us a
    → ReadsPrimary goal (tested dotted opened) (token.Keyword word.TypeOf ∷ (ts ++ token.Keyword word.Is ∷ us)) (expr.TypeOf x a)
test_primary {goal = goal} {ts = ts} {us = us} {x = x} {a = a} p spells = record {
  reads = λ ws rest over within.
      let behind = token.Keyword word.Is ∷ (us ++ rest) in
      let same = append_assoc ts (token.Keyword word.Is ∷ us) rest in
      let longer = ap length same in
      let all = length-append ts behind in
      then (one_step ws at.Want (token.Keyword word.TypeOf ∷ ((ts ++ token.Keyword word.Is ∷ us) ++ rest)) (ws ++ wait.TypeOf ∷ []) at.Want
      ((ts ++ token.Keyword word.Is ∷ us) ++ rest) (test_step goal ws ((ts ++ token.Keyword word.Is ∷ us) ++ rest)) refl (omega arith))
      (from_same same
      (then (p.reads (ws ++ wait.TypeOf ∷ []) behind (over_end behind refl) (omega arith))
      (one_step (ws ++ wait.TypeOf ∷ []) (at.Primary x) behind ws (at.Primary (expr.TypeOf x a)) rest
      (test_behind goal ws x (us ++ rest) (type_read rest spells (over_type over) (omega arith))) refl
      (omega (arith, length-append us rest)))));
}

pub member_primary : {goal : Goal} {edge : Edge} {n : Name} {ts us : List Token} {x : Expr} {bare : Bool} {args : List TypeName} (t : Token)
    → ReadsPrimary goal edge ts x → takes_member edge ≡ false → name_of t ≡ Some n → SpellsTypeArguments bare us args
    → ReadsPrimary goal closed (ts ++ dot ∷ t ∷ us) (expr.MemberAccess x n args)
member_primary {goal = goal} {n = n} {ts = ts} {us = us} {x = x} {bare = bare} {args = args} t p takes is spells = record {
  reads = λ ws rest over within.
      let behind = dot ∷ t ∷ (us ++ rest) in
      let same = append_assoc ts (dot ∷ t ∷ us) rest in
      let longer = ap length same in
      let all = length-append ts behind in
      from_same same
      (then (p.reads ws behind (over_dot (t ∷ (us ++ rest)) takes) (omega arith))
      (one_step ws (at.Primary x) behind ws (at.Primary (expr.MemberAccess x n args)) rest
      (member_behind_step goal ws x t (us ++ rest) is (arguments_read rest spells (over_arguments bare over) (omega arith))) refl
      (omega (arith, length-append us rest))));
}

pub type_member_primary : {goal : Goal} {b : BuiltInTypeName} {n : Name} (t u : Token) → type_of t ≡ Some b → name_of u ≡ Some n
    → ReadsPrimary goal closed (t ∷ dot ∷ u ∷ []) (expr.BuiltInMemberAccess b n)
type_member_primary {goal = goal} {b = b} {n = n} t u is named = record {
  reads = λ ws rest over within.
      one_step ws at.Want (t ∷ dot ∷ u ∷ rest) ws (at.Primary (expr.BuiltInMemberAccess b n)) rest (type_member_step goal ws t u rest is named) refl (omega arith);
}

pub with_member_primary : {goal : Goal} {n : Name} (t : Token) → name_of t ≡ Some n → ReadsPrimary goal closed (dot ∷ t ∷ []) (expr.WithMemberAccess n)
with_member_primary {goal = goal} {n = n} t is = record {
  reads = λ ws rest over within.
      one_step ws at.Want (dot ∷ t ∷ rest) ws (at.Primary (expr.WithMemberAccess n)) rest (member_step goal ws t rest is) refl (omega arith);
}

pub invocation_primary : {goal : Goal} {edge : Edge} {ts us : List Token} {x : Expr} {ys : List Expr} → ReadsPrimary goal edge ts x
    → ReadsArguments goal us ys → takes_arguments edge ys ≡ false → ReadsPrimary goal closed (ts ++ us) (expr.Invocation x ys)
invocation_primary {edge = edge} {ts = ts} {us = us} {x = x} p q takes = record {
  reads = λ ws rest over within.
      let same = append_assoc ts us rest in
      let longer = ap length same in
      from_same same
      (then (p.reads ws (us ++ rest) (q.over edge rest takes) (omega arith)) (q.called ws x rest (omega (arith, length-append ts (us ++ rest)))));
}

-- NEW OBJECTS AND ARRAYS

pub creation_primary : {goal : Goal} {dotted : Bool} {ts : List Token} {a : SimpleTypeName} → SpellsSimpleType dotted ts a
    → ReadsPrimary goal (created dotted) (token.Keyword word.New ∷ ts) (expr.ObjectCreation a [])
creation_primary {goal = goal} {ts = ts} {a = a} spells = record {
  reads = λ ws rest over within.
      one_step ws at.Want (token.Keyword word.New ∷ (ts ++ rest)) ws (at.Primary (expr.ObjectCreation a [])) rest
      (new_step goal ws (ts ++ rest) (simple_type_read rest spells (over_created_type over) (omega arith))
      ∙ ap (creation_at ws a rest) (over_created over)) refl (omega (arith, length-append ts rest));
}

-- from New on, over the type
new_reached : {goal : Goal} {dotted : Bool} {ts us rest : List Token} {a : SimpleTypeName} {x : Expr} (ws : List Pending) (behind : List Token)
    → SpellsSimpleType dotted ts a → goes_on_type dotted false behind ≡ false → us ≡ ts ++ behind → length us ≤ most_tokens
    → Leads goal (creation_at ws a behind (after_opening behind)) behind ws (at.Primary x) rest
    → Reaches goal ws at.Want (token.Keyword word.New ∷ us) ws (at.Primary x) rest
new_reached {goal = goal} {ts = ts} ws behind spells ends same within lead =
    let longer = ap length same in
    let all = length-append ts behind in
    from_same (ap (λ us. token.Keyword word.New ∷ us) same)
    (leads ws at.Want lead (new_step goal ws (ts ++ behind) (simple_type_read behind spells ends (omega arith))) (omega arith))

pub creation_with_primary : {goal : Goal} {dotted : Bool} {ts us : List Token} {a : SimpleTypeName} {xs : List Expr} → SpellsSimpleType dotted ts a
    → ReadsArguments goal us xs → ReadsPrimary goal closed (token.Keyword word.New ∷ (ts ++ us)) (expr.ObjectCreation a xs)
creation_with_primary {dotted = dotted} {ts = ts} {us = us} {a = a} spells q = record {
  reads = λ ws rest over within.
      let same = append_assoc ts us rest in
      let longer = ap length same in
      let all = length-append ts (us ++ rest) in
      new_reached ws (us ++ rest) spells (q.over_type dotted rest) same (omega arith) (q.made ws a rest over.no_brace (omega arith));
}

-- empty parentheses behind the type
empty_bound : {goal : Goal} {vs : List Token} {s : State} (ws : List Pending) (a : SimpleTypeName) (inner : List Token)
    → Leads goal (spec_created ws a [] inner) inner ws s vs
    → Leads goal (creation_at ws a (opening ∷ closing ∷ inner) (after_opening (opening ∷ closing ∷ inner))) (opening ∷ closing ∷ inner) ws s vs
unfolding after_opening after_closing
empty_bound ws a inner l = record {
  stack = l.stack;
  state = l.state;
  left = l.left;
  is = l.is;
  going = l.going;
  fewer = omega (arith, l.fewer);
  reaches = l.reaches;
}

pub array_primary : {goal : Goal} {dotted : Bool} {ts us : List Token} {a : SimpleTypeName} {is : List VariableInitializer} → SpellsSimpleType dotted ts a
    → ReadsElements goal us is → ReadsPrimary goal closed (token.Keyword word.New ∷ (ts ++ opening ∷ closing ∷ us)) (expr.ArrayCreation a None is)
array_primary {dotted = dotted} {ts = ts} {us = us} {a = a} spells q = record {
  reads = λ ws rest over within.
      let same = append_assoc ts (opening ∷ closing ∷ us) rest in
      let longer = ap length same in
      let all = length-append ts (opening ∷ closing ∷ (us ++ rest)) in
      new_reached ws (opening ∷ closing ∷ (us ++ rest)) spells (empty_over_type dotted (us ++ rest)) same (omega arith)
      (empty_bound ws a (us ++ rest) (q.made ws a [] None rest refl (omega arith)));
}

pub bounded_array_primary : {goal : Goal} {h w : ℕ} {dotted : Bool} {ts bs us : List Token} {a : SimpleTypeName} {b : Expr} {is : List VariableInitializer}
    → SpellsSimpleType dotted ts a → Begins bs → ReadsExpression goal h w bs b → ReadsElements goal us is
    → ReadsPrimary goal closed (token.Keyword word.New ∷ (ts ++ opening ∷ (bs ++ closing ∷ us))) (expr.ArrayCreation a (Some b) is)
bounded_array_primary {goal = goal} {dotted = dotted} {ts = ts} {bs = bs} {us = us} {a = a} {b = b} {is = is} spells begins q r = record {
  reads = λ ws rest over within.
      let inner = bs ++ closing ∷ (us ++ rest) in
      let same : (ts ++ opening ∷ (bs ++ closing ∷ us)) ++ rest ≡ ts ++ opening ∷ inner =
      append_assoc ts (opening ∷ (bs ++ closing ∷ us)) rest ∙ ap (λ vs. ts ++ opening ∷ vs) (append_assoc bs (closing ∷ us) rest) in
      let longer = ap length same in
      let all = length-append ts (opening ∷ inner) in
      let bound = length-append bs (closing ∷ (us ++ rest)) in
      let first = begins_behind (closing ∷ (us ++ rest)) begins in
      let list = one_list q in
      new_reached ws (opening ∷ inner) spells (opening_over_type dotted first) same (omega arith)
      (record {
        stack = ws ++ wait.Creation a [] ∷ [];
        state = at.Want;
        left = inner;
        is = creation_begun ws a inner (no_closing first);
        going = refl;
        fewer = omega arith;
        reaches = list.reads (new a) [] ws (us ++ rest) ws (at.Primary (expr.ArrayCreation a (Some b) is)) rest (omega arith) (r.made ws a (b ∷ []) (Some b) rest refl (omega arith));
      });
}

-- IN PARENTHESES

parenthesized_closes : (x : Expr) (ws : List Pending) (rest : List Token)
    → close_with x (closing ∷ rest) ws wait.Parenthesis ≡ Some (ws, at.Primary (expr.Parenthesized x), rest)
unfolding after_closing
parenthesized_closes x ws rest = refl

pub parenthesized_primary : {goal : Goal} {h w : ℕ} {ts : List Token} {x : Expr} → ReadsExpression goal h w ts x
    → ReadsPrimary goal closed (opening ∷ (ts ++ closing ∷ [])) (expr.Parenthesized x)
parenthesized_primary {goal = goal} {ts = ts} {x = x} q = record {
  reads = λ ws rest over within.
      let same = ended ts closing rest in
      let longer = ap length same in
      then (one_step ws at.Want (opening ∷ ((ts ++ closing ∷ []) ++ rest)) (ws ++ wait.Parenthesis ∷ []) at.Want ((ts ++ closing ∷ []) ++ rest)
      (opening_step goal ws ((ts ++ closing ∷ []) ++ rest)) refl (omega arith))
      (from_same same (bracketed wait.Parenthesis ws (closing ∷ rest) ws (at.Primary (expr.Parenthesized x)) rest refl q refl (omega arith)
      (parenthesized_closes x ws rest) refl (omega arith)));
}

conversion_closes : (a : PrimitiveTypeName) (x : Expr) (ws : List Pending) (rest : List Token)
    → close_with x (closing ∷ rest) ws (wait.Conversion a) ≡ Some (ws, at.Primary (expr.PrimitiveCast a x), rest)
unfolding after_closing
conversion_closes a x ws rest = refl

pub conversion_primary : {goal : Goal} {h w : ℕ} {a : PrimitiveTypeName} {ts : List Token} {x : Expr} (t : Token) → primitive_cast t ≡ Some a
    → ReadsExpression goal h w ts x → ReadsPrimary goal closed (t ∷ opening ∷ (ts ++ closing ∷ [])) (expr.PrimitiveCast a x)
conversion_primary {goal = goal} {a = a} {ts = ts} {x = x} t is q = record {
  reads = λ ws rest over within.
      let same = ended ts closing rest in
      let longer = ap length same in
      then (one_step ws at.Want (t ∷ opening ∷ ((ts ++ closing ∷ []) ++ rest)) (ws ++ wait.Conversion a ∷ []) at.Want ((ts ++ closing ∷ []) ++ rest)
      (conversion_step goal ws t ((ts ++ closing ∷ []) ++ rest) is) refl (omega arith))
      (from_same same (bracketed (wait.Conversion a) ws (closing ∷ rest) ws (at.Primary (expr.PrimitiveCast a x)) rest refl q refl (omega arith)
      (conversion_closes a x ws rest) refl (omega arith)));
}

cast_closes : (o : CastOperator) (x : Expr) (a : TypeName) (ws : List Pending) (us rest : List Token) → read_type us ≡ Some (a, closing ∷ rest)
    → close_with x (comma ∷ us) ws (wait.Cast o) ≡ Some (ws, at.Primary (expr.Cast o x a), rest)
unfolding after_comma after_closing
cast_closes o x a ws us rest read = ap (λ r. and_then r (λ a rest'. closed_as ws (expr.Cast o x a) (after_closing rest'))) read

pub cast_primary : {goal : Goal} {h w : ℕ} {dotted opened : Bool} {o : CastOperator} {ts us : List Token} {x : Expr} {a : TypeName} (t : Token)
    → cast_operator t ≡ Some o → ReadsExpression goal h w ts x → SpellsType dotted opened us a
    → ReadsPrimary goal closed (t ∷ opening ∷ (ts ++ comma ∷ (us ++ closing ∷ []))) (expr.Cast o x a)
cast_primary {goal = goal} {dotted = dotted} {opened = opened} {o = o} {ts = ts} {us = us} {x = x} {a = a} t is q spells = record {
  reads = λ ws rest over within.
      let inner = (ts ++ comma ∷ (us ++ closing ∷ [])) ++ rest in
      let behind = us ++ closing ∷ rest in
      let same : inner ≡ ts ++ comma ∷ behind = append_assoc ts (comma ∷ (us ++ closing ∷ [])) rest ∙ ap (λ vs. ts ++ comma ∷ vs) (ended us closing rest) in
      let longer = ap length same in
      let all = length-append ts (comma ∷ behind) in
      let part = length-append us (closing ∷ rest) in
      then (one_step ws at.Want (t ∷ opening ∷ inner) (ws ++ wait.Cast o ∷ []) at.Want inner (cast_step goal ws t inner is) refl (omega arith))
      (from_same same (bracketed (wait.Cast o) ws (comma ∷ behind) ws (at.Primary (expr.Cast o x a)) rest refl q refl (omega arith)
      (cast_closes o x a ws behind rest (type_read (closing ∷ rest) spells (either_false dotted false opened false refl refl) (omega arith))) refl (omega arith)));
}

test_closes : (x : Expr) (ws : List Pending) (us : List Token) → close_with x (comma ∷ us) ws wait.Test ≡ Some (ws ++ wait.Then x ∷ [], at.Want, us)
unfolding after_comma
test_closes x ws us = refl

then_closes : (x y : Expr) (ws : List Pending) (us : List Token) → close_with y (comma ∷ us) ws (wait.Then x) ≡ Some (ws ++ wait.Else x y ∷ [], at.Want, us)
unfolding after_comma
then_closes x y ws us = refl

else_closes : (x y z : Expr) (ws : List Pending) (rest : List Token)
    → close_with z (closing ∷ rest) ws (wait.Else x y) ≡ Some (ws, at.Primary (expr.Conditional x y z), rest)
unfolding after_closing
else_closes x y z ws rest = refl

pub conditional_primary : {goal : Goal} {h w h' w' h″ w″ : ℕ} {ts us vs : List Token} {x y z : Expr} → ReadsExpression goal h w ts x
    → ReadsExpression goal h' w' us y → ReadsExpression goal h″ w″ vs z
    → ReadsPrimary goal closed (token.Keyword word.If ∷ opening ∷ (ts ++ comma ∷ (us ++ comma ∷ (vs ++ closing ∷ [])))) (expr.Conditional x y z)
conditional_primary {goal = goal} {ts = ts} {us = us} {vs = vs} {x = x} {y = y} {z = z} p q r = record {
  reads = λ ws rest over within.
      let inner = (ts ++ comma ∷ (us ++ comma ∷ (vs ++ closing ∷ []))) ++ rest in
      let last = vs ++ closing ∷ rest in
      let second = us ++ comma ∷ last in
      let same : inner ≡ ts ++ comma ∷ second =
      append_assoc ts (comma ∷ (us ++ comma ∷ (vs ++ closing ∷ []))) rest
      ∙ ap (λ ps. ts ++ comma ∷ ps) (append_assoc us (comma ∷ (vs ++ closing ∷ [])) rest ∙ ap (λ ps. us ++ comma ∷ ps) (ended vs closing rest)) in
      let longer = ap length same in
      let all = length-append ts (comma ∷ second) in
      let part = length-append us (comma ∷ last) in
      then (one_step ws at.Want (token.Keyword word.If ∷ opening ∷ inner) (ws ++ wait.Test ∷ []) at.Want inner (if_step goal ws inner) refl (omega arith))
      (from_same same
      (then (bracketed wait.Test ws (comma ∷ second) (ws ++ wait.Then x ∷ []) at.Want second refl p refl (omega arith) (test_closes x ws second) refl (omega arith))
      (then (bracketed (wait.Then x) ws (comma ∷ last) (ws ++ wait.Else x y ∷ []) at.Want last refl q refl (omega arith) (then_closes x y ws last) refl (omega arith))
      (bracketed (wait.Else x y) ws (closing ∷ rest) ws (at.Primary (expr.Conditional x y z)) rest refl r refl (omega arith)
      (else_closes x y z ws rest) refl (omega arith)))));
}
