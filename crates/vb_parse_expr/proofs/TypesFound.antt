-- What the machine for types finds is spelled at the front.
use Rattle.std.proofs.Common.{◌≡◌, ℕ, zero, suc, ◌<◌, ◌≤◌, Bool, true, false, List, [], ◌∷◌, ◌++◌, length, Option, Some, None, refl, ap, sym, ◌∙◌, subst, append_assoc, append-nil, arith}
use Rattle.vb_text.specs.declared.names.Name.{Name}
use Rattle.vb_syntax.specs.declared.keyword.Keyword.TheVariants as word
use Rattle.vb_syntax.specs.declared.{tokens.Token.Token, types.{BuiltInTypeName.BuiltInTypeName, SimpleTypeName.SimpleTypeName, TypeName.TypeName}}
use Rattle.vb_syntax.specs.declared.tokens.Token.TheVariants as token
use Rattle.vb_syntax.specs.declared.types.SimpleTypeName.TheVariants as simple
use Rattle.vb_parse_expr.specs.{declared.types.{OpenName.OpenName, TypeState.TypeState}, Words.{opening, closing, comma, type_of}, Types.{SpellsNames, SpellsSimpleType, SpellsTypes, qualified_by, goes_on_type, plain, array, built_in, qualified, none, some, one, more}, Reading.{after_opening, after_closing, after_comma}, TypeReading.{behind, after_opening_of, with_array, with_array_at, TypeStep, TypeRun, open_name, names, arguments_or_none, word_or_names, want_type, more_or_closed, argument_read, have_type, have_at, type_step, finished, turn_ends, step_ends, run_types, popped}}
use Rattle.vb_parse_expr.specs.declared.types.TypeState.TheVariants as at
use Rattle.vb_parse_expr.proofs.{Lists.popped_append, FoundTypes.{FoundType, FoundSimpleType}, TypeAhead.{closing_first, comma_first, opening_of_first, array_first, over_name, over_array, over_type, type_over}, TypeNames.{then_some, parts_of, FoundNames, names_found}}

-- AN ARRAY

array_at : (y : SimpleTypeName) (front us : List Token) {dotted : Bool} (o : Option (List Token)) → SpellsSimpleType dotted front y
    → goes_on_type dotted false us ≡ false → behind (after_opening us) after_closing ≡ o
    → FoundType (front ++ us) (with_array_at y us o).0 (with_array_at y us o).1
array_at y front us {dotted} None s over was = record {
  front = front;
  dotted = dotted;
  opened = true;
  split = refl;
  spells = plain s;
  over = over_type dotted true us (type_over dotted false us over).0 (over_array us was);
}
array_at y front us (Some rest) s over was = record {
  front = front ++ opening ∷ closing ∷ [];
  dotted = false;
  opened = false;
  split = ap (λ vs. front ++ vs) (array_first us was) ∙ sym (append_assoc front (opening ∷ closing ∷ []) rest);
  spells = array s;
  over = refl;
}

-- a type that is no array may become one by what stands behind it
pub array_found : (y : SimpleTypeName) (front us : List Token) {dotted : Bool} → SpellsSimpleType dotted front y
    → goes_on_type dotted false us ≡ false
    → FoundType (front ++ us) (with_array y us).0 (with_array y us).1
unfolding with_array
array_found y front us s over = array_at y front us (behind (after_opening us) after_closing) s over refl

-- A STEP WHERE A TYPE IS WANTED: it reads one without arguments, or begins the arguments of one

data WantStep (ws : List OpenName) (ts : List Token) : (List OpenName × TypeState × List Token) → Type 0 where
  ready : {dotted : Bool} {y : SimpleTypeName} (front rest : List Token) → ts ≡ front ++ rest → SpellsSimpleType dotted front y
      → goes_on_type dotted false rest ≡ false → WantStep ws ts (ws, at.Have y, rest)
  inside : {ns : List Name} (front rest : List Token) → ts ≡ front ++ opening ∷ token.Keyword word.Of ∷ rest → SpellsNames front ns
      → WantStep ws ts (ws ++ open_name ns [] ∷ [], at.Want, rest)

some_step : (p q : List OpenName × TypeState × List Token) → Some p ≡ Some q → p ≡ q
some_step p q e = cc

arguments_step : (ws : List OpenName) (ts : List Token) (ns : List Name) (us : List Token) (o : Option (List Token))
    (p : List OpenName × TypeState × List Token)
    → FoundNames [] ts ns us → after_opening_of us ≡ o → arguments_or_none ws ns us o ≡ Some p → WantStep ws ts p
arguments_step ws ts ns us None p f was e =
    subst (λ q. WantStep ws ts q) (some_step (ws, at.Have (qualified_by ns []), us) p e)
    (ready (f.front ++ []) us (f.split ∙ ap (λ vs. vs ++ us) (sym (append-nil f.front)))
    (qualified (subst (λ ms. SpellsNames f.front ms) (sym f.whole) f.spells) none) (over_type true false us (over_name us f.over was) refl))
arguments_step ws ts ns us (Some rest) p f was e =
    subst (λ q. WantStep ws ts q) (some_step (ws ++ open_name ns [] ∷ [], at.Want, rest) p e)
    (inside f.front rest (f.split ∙ ap (λ vs. f.front ++ vs) (opening_of_first us was)) (subst (λ ms. SpellsNames f.front ms) (sym f.whole) f.spells))

word_step : (ws : List OpenName) (t : Token) (ts : List Token) (o : Option BuiltInTypeName) (p : List OpenName × TypeState × List Token)
    → type_of t ≡ o → word_or_names ws t ts o ≡ Some p → WantStep ws (t ∷ ts) p
word_step ws t ts (Some b) p was e =
    subst (λ q. WantStep ws (t ∷ ts) q) (some_step (ws, at.Have (simple.BuiltIn b), ts) p e) (ready (t ∷ []) ts refl (built_in t was) refl)
word_step ws t ts None p was e =
    let b = then_some (names (suc (length ts)) [] (t ∷ ts)) (λ ns rest. arguments_or_none ws ns rest (after_opening_of rest)) e in
    arguments_step ws (t ∷ ts) b.0.0 b.0.1 (after_opening_of b.0.1) p (names_found (suc (length ts)) [] (t ∷ ts) b.0.0 b.0.1 b.1) refl b.2

want_step : (ws : List OpenName) (ts : List Token) (p : List OpenName × TypeState × List Token) → want_type ws ts ≡ Some p → WantStep ws ts p
unfolding want_type
want_step ws [] p e = cc
want_step ws (t ∷ ts) p e = word_step ws t ts (type_of t) p refl e

-- A TURN

step_some : (go : TypeRun) (r : TypeStep) (y : SimpleTypeName × List Token) → step_ends go r ≡ Some y
    → (p : List OpenName × TypeState × List Token) × (r ≡ Some p) × (turn_ends go p.0 p.2 (finished p.1) ≡ Some y)
step_some go None y e = cc
step_some go (Some p) y e = (p, refl, e)

no_turns : (ws : List OpenName) (s : TypeState) (ts : List Token) (y : SimpleTypeName × List Token) → run_types 0 ws s ts ≡ Some y → ⊥
unfolding run_types
no_turns ws s ts y e = cc

want_turn : (n : ℕ) (ws : List OpenName) (ts : List Token) (y : SimpleTypeName × List Token) → run_types (suc n) ws at.Want ts ≡ Some y
    → (p : List OpenName × TypeState × List Token) × WantStep ws ts p × (turn_ends (run_types n) p.0 p.2 (finished p.1) ≡ Some y)
unfolding run_types type_step
want_turn n ws ts y e = let b = step_some (run_types n) (want_type ws ts) y e in (b.0, want_step ws ts b.0 b.1, b.2)

-- where a type was read, inside the arguments of a name
pub have_turn : (n : ℕ) (ws : List OpenName) (o : OpenName) (y : SimpleTypeName) (us : List Token)
    → run_types (suc n) (ws ++ o ∷ []) (at.Have y) us ≡ step_ends (run_types n) (argument_read ws o (with_array y us))
unfolding run_types type_step have_type
have_turn n ws o y us = ap (λ q. step_ends (run_types n) (have_at y us (ws ++ o ∷ []) q)) (popped_append ws o)

-- where a type was read, inside none
pub last_turn : (n : ℕ) (y : SimpleTypeName) (us : List Token) → run_types (suc n) [] (at.Have y) us ≡ Some (y, us)
unfolding run_types type_step popped
last_turn n y us = refl

-- A TYPE THAT WAS WANTED, AND TYPES UP TO THE PARENTHESIS THAT CLOSES

pub record FoundHave (ws : List OpenName) (ts : List Token) (n : ℕ) (x : SimpleTypeName) (rest : List Token) : Type 0 where
  pub y : SimpleTypeName
  pub front : List Token
  pub later : List Token
  pub dotted : Bool
  pub turns : ℕ
  pub fewer : turns < n
  pub split : ts ≡ front ++ later
  pub spells : SpellsSimpleType dotted front y
  pub over : goes_on_type dotted false later ≡ false
  pub goes : run_types turns ws (at.Have y) later ≡ Some (x, rest)

pub record FoundList (ws : List OpenName) (ns : List Name) (xs : List TypeName) (ts : List Token) (n : ℕ) (x : SimpleTypeName) (rest : List Token) : Type 0 where
  pub ys : List TypeName
  pub front : List Token
  pub later : List Token
  pub turns : ℕ
  pub fewer : turns < n
  pub split : ts ≡ front ++ closing ∷ later
  pub spells : SpellsTypes front ys
  pub goes : run_types turns ws (at.Have (qualified_by ns (xs ++ ys))) later ≡ Some (x, rest)

abbrev Wanted : ℕ → Type 0
Wanted b = (n : ℕ) → n ≤ b → (ws : List OpenName) (ts : List Token) (x : SimpleTypeName) (rest : List Token)
    → run_types n ws at.Want ts ≡ Some (x, rest) → FoundHave ws ts n x rest

list_more : (n : ℕ) (ws : List OpenName) (ns : List Name) (xs : List TypeName) (ts : List Token) (z : TypeName) (us : List Token)
    (next close : Option (List Token))
    (x : SimpleTypeName) (rest : List Token) → FoundType ts z us → after_comma us ≡ next → after_closing us ≡ close
    → step_ends (run_types n) (more_or_closed ws (open_name ns xs) (xs ++ z ∷ []) next close) ≡ Some (x, rest)
    → ((vs : List Token) → run_types n (ws ++ open_name ns (xs ++ z ∷ []) ∷ []) at.Want vs ≡ Some (x, rest) → FoundList ws ns (xs ++ z ∷ []) vs n x rest)
    → FoundList ws ns xs ts (suc n) x rest
list_more n ws ns xs ts z us (Some vs) close x rest f comma_was close_was e again =
    let g = again vs e in
    record {
      ys = z ∷ g.ys;
      front = f.front ++ comma ∷ g.front;
      later = g.later;
      turns = g.turns;
      fewer = omega (arith, g.fewer);
      split = f.split ∙ ap (λ qs. f.front ++ qs) (comma_first us comma_was ∙ ap (λ qs. comma ∷ qs) g.split)
          ∙ sym (append_assoc f.front (comma ∷ g.front) (closing ∷ g.later));
      spells = more f.spells g.spells;
      goes = ap (λ qs. run_types g.turns ws (at.Have (qualified_by ns qs)) g.later) (sym (append_assoc xs (z ∷ []) g.ys)) ∙ g.goes;
    }
list_more n ws ns xs ts z us None (Some vs) x rest f comma_was close_was e again = record {
  ys = z ∷ [];
  front = f.front;
  later = vs;
  turns = n;
  fewer = omega arith;
  split = f.split ∙ ap (λ qs. f.front ++ qs) (closing_first us close_was);
  spells = one f.spells;
  goes = e;
}
list_more n ws ns xs ts z us None None x rest f comma_was close_was e again = cc

pub moved : {ts us : List Token} {z : TypeName} {rest : List Token} → ts ≡ us → FoundType us z rest → FoundType ts z rest
moved same f = record { front = f.front; dotted = f.dotted; opened = f.opened; split = same ∙ f.split; spells = f.spells; over = f.over }

list_turn : (n : ℕ) (ws : List OpenName) (ns : List Name) (xs : List TypeName) (ts front us : List Token) (y : SimpleTypeName) {dotted : Bool}
    (x : SimpleTypeName) (rest : List Token) → ts ≡ front ++ us → SpellsSimpleType dotted front y → goes_on_type dotted false us ≡ false
    → run_types n (ws ++ open_name ns xs ∷ []) (at.Have y) us ≡ Some (x, rest)
    → ((m : ℕ) → m < n → (zs : List TypeName) (vs : List Token) → run_types m (ws ++ open_name ns zs ∷ []) at.Want vs ≡ Some (x, rest)
    → FoundList ws ns zs vs m x rest)
    → FoundList ws ns xs ts n x rest
list_turn zero ws ns xs ts front us y x rest split s over e again = absurd (no_turns (ws ++ open_name ns xs ∷ []) (at.Have y) us (x, rest) e)
list_turn (suc n) ws ns xs ts front us y x rest split s over e again =
    let p = with_array y us in
    list_more n ws ns xs ts p.0 p.1 (after_comma p.1) (after_closing p.1) x rest (moved split (array_found y front us s over)) refl refl
    (sym (have_turn n ws (open_name ns xs) y us) ∙ e) (λ vs e'. again n (omega arith) (xs ++ p.0 ∷ []) vs e')

more_turns : {ws : List OpenName} {ns : List Name} {xs : List TypeName} {ts : List Token} {x : SimpleTypeName} {rest : List Token} (n m : ℕ)
    → n ≤ m
    → FoundList ws ns xs ts n x rest → FoundList ws ns xs ts m x rest
more_turns n m most f = record {
  ys = f.ys;
  front = f.front;
  later = f.later;
  turns = f.turns;
  fewer = omega (arith, f.fewer, most);
  split = f.split;
  spells = f.spells;
  goes = f.goes;
}

list_found : (b : ℕ) → Wanted b → (c n : ℕ) → n ≤ c → c ≤ b
    → (ws : List OpenName) (ns : List Name) (xs : List TypeName) (ts : List Token) (x : SimpleTypeName) (rest : List Token)
    → run_types n (ws ++ open_name ns xs ∷ []) at.Want ts ≡ Some (x, rest) → FoundList ws ns xs ts n x rest
list_found b wanted zero n few most ws ns xs ts x rest e =
    let h = wanted n (omega (arith, few)) (ws ++ open_name ns xs ∷ []) ts x rest e in absurd (omega (arith, h.fewer, few))
list_found b wanted (suc c) n few most ws ns xs ts x rest e =
    let h = wanted n (omega (arith, few, most)) (ws ++ open_name ns xs ∷ []) ts x rest e in
    let fewer = h.fewer in
    more_turns h.turns n (omega (arith, fewer))
    (list_turn h.turns ws ns xs ts h.front h.later h.y x rest h.split h.spells h.over h.goes
    (λ m below zs vs e'. list_found b wanted c m (omega (arith, below, fewer, few)) (omega (arith, most)) ws ns zs vs x rest e'))

qualified_found : (ws : List OpenName) (ns : List Name) (ts front us : List Token) (n : ℕ) (x : SimpleTypeName) (rest : List Token)
    → ts ≡ front ++ opening ∷ token.Keyword word.Of ∷ us → SpellsNames front ns → FoundList ws ns [] us n x rest → FoundHave ws ts (suc n) x rest
qualified_found ws ns ts front us n x rest split s f = record {
  y = qualified_by ns f.ys;
  front = front ++ opening ∷ token.Keyword word.Of ∷ (f.front ++ closing ∷ []);
  later = f.later;
  dotted = false;
  turns = f.turns;
  fewer = omega (arith, f.fewer);
  split = split ∙ ap (λ qs. front ++ opening ∷ token.Keyword word.Of ∷ qs) (f.split ∙ sym (append_assoc f.front (closing ∷ []) f.later))
      ∙ sym (append_assoc front (opening ∷ token.Keyword word.Of ∷ (f.front ++ closing ∷ [])) f.later);
  spells = qualified s (some f.spells);
  over = refl;
  goes = f.goes;
}

wanted_more : (b : ℕ) → Wanted b → (n : ℕ) → n ≤ b
    → (ws : List OpenName) (ts : List Token) (p : List OpenName × TypeState × List Token) (x : SimpleTypeName) (rest : List Token)
    → WantStep ws ts p → turn_ends (run_types n) p.0 p.2 (finished p.1) ≡ Some (x, rest) → FoundHave ws ts (suc n) x rest
wanted_more b wanted n few ws ts p x rest (ready {dotted = dotted} {y = y} front us split s over) e = record {
  y = y;
  front = front;
  later = us;
  dotted = dotted;
  turns = n;
  fewer = omega arith;
  split = split;
  spells = s;
  over = over;
  goes = e;
}
wanted_more b wanted n few ws ts p x rest (inside {ns = ns} front us split s) e =
    qualified_found ws ns ts front us n x rest split s (list_found b wanted b n few (omega arith) ws ns [] us x rest e)

wanted_found : (b : ℕ) → Wanted b
wanted_found b zero few ws ts x rest e = absurd (no_turns ws at.Want ts (x, rest) e)
wanted_found zero (suc n) few ws ts x rest e = absurd (omega (arith, few))
wanted_found (suc b) (suc n) few ws ts x rest e =
    let t = want_turn n ws ts (x, rest) e in wanted_more b (wanted_found b) n (omega (arith, few)) ws ts t.0 x rest t.1 t.2

ended : (n : ℕ) (ts : List Token) (x : SimpleTypeName) (rest : List Token) (y : SimpleTypeName) (front us : List Token) {dotted : Bool}
    → ts ≡ front ++ us
    → SpellsSimpleType dotted front y → goes_on_type dotted false us ≡ false → run_types n [] (at.Have y) us ≡ Some (x, rest)
    → FoundSimpleType ts x rest
ended zero ts x rest y front us split s over e = absurd (no_turns [] (at.Have y) us (x, rest) e)
ended (suc n) ts x rest y front us {dotted} split s over e =
    let p = parts_of y x us rest (sym (last_turn n y us) ∙ e) in
    record {
      front = front;
      dotted = dotted;
      split = split ∙ ap (λ qs. front ++ qs) p.1;
      spells = subst (λ z. SpellsSimpleType dotted front z) p.0 s;
      over = subst (λ qs. goes_on_type dotted false qs ≡ false) p.1 over;
    }

pub run_found : (n : ℕ) (ts : List Token) (x : SimpleTypeName) (rest : List Token) → run_types n [] at.Want ts ≡ Some (x, rest)
    → FoundSimpleType ts x rest
run_found n ts x rest e =
    let h = wanted_found n n (omega arith) [] ts x rest e in ended h.turns ts x rest h.y h.front h.later h.split h.spells h.over h.goes
