-- The machine for types reads what is spelled at the front, where nothing goes on with it.
use Rattle.std.proofs.Common.{◌≡◌, ℕ, suc, ◌+◌, ◌-◌, ◌<◌, ◌≤◌, Bool, true, false, List, [], ◌∷◌, ◌++◌, length, Some, None, refl, ap, ◌∙◌, subst, append_assoc, append-nil, length-append, arith}
use Rattle.vb_text.specs.declared.names.Name.{Name}
use Rattle.vb_syntax.specs.declared.keyword.Keyword.TheVariants as word
use Rattle.vb_syntax.specs.declared.{tokens.Token.Token, types.{BuiltInTypeName.BuiltInTypeName, SimpleTypeName.SimpleTypeName, TypeName.TypeName}}
use Rattle.vb_syntax.specs.declared.tokens.Token.TheVariants as token
use Rattle.vb_syntax.specs.declared.types.SimpleTypeName.TheVariants as simple
use Rattle.vb_syntax.specs.declared.types.TypeName.TheVariants as type_name
use Rattle.vb_parse_expr.specs.{declared.types.{OpenName.OpenName, TypeState.TypeState}, Words.{opening, closing, comma, dot, type_of}, Types.{SpellsNames, SpellsType, SpellsSimpleType, SpellsTypeArguments, SpellsTypes, qualified_by, goes_on_type, goes_on_array, plain, array, built_in, qualified, none, some, one, more}, Reading.{after_opening, after_closing, after_comma, after_dot}, TypeReading.{Read, and_then, after_opening_of, with_array, with_array_at, open_name, names, arguments_or_none, word_or_names, want_type, argument_read, type_step, step_ends, run_types}}
use Rattle.vb_parse_expr.specs.declared.types.TypeState.TheVariants as at
use Rattle.vb_parse_expr.proofs.{TypeAhead.{opening_of_stands, name_over, array_over, type_over, over_type, comma_over, parentheses_over, closing_over, name_no_word}, TypeNames.names_read, TypeBegins.some_names, TypesFound.{have_turn, last_turn}}

-- SO MANY TURNS AT MOST LEAD FROM ONE PLACE OF THE READING TO ANOTHER

record Leads (most : ℕ) (ws : List OpenName) (s : TypeState) (ts : List Token) (vs : List OpenName) (t : TypeState) (us : List Token) : Type 0 where
  pub turns : ℕ
  pub few : turns ≤ most
  pub goes : (n : ℕ) → run_types (turns + n) ws s ts ≡ run_types n vs t us

after : (f : ℕ → Read SimpleTypeName) (a b n : ℕ) → f (a + b + n) ≡ f (a + (b + n))
after f a b n = let e : a + b + n ≡ a + (b + n) = omega arith in ap f e

then : {a b : ℕ} {ws vs qs : List OpenName} {s t q : TypeState} {ts us ps : List Token} → Leads a ws s ts vs t us → Leads b vs t us qs q ps
    → Leads (a + b) ws s ts qs q ps
then {ws = ws} {s = s} {ts = ts} l r = record {
  turns = l.turns + r.turns;
  few = omega (arith, l.few, r.few);
  goes = λ n. after (λ m. run_types m ws s ts) l.turns r.turns n ∙ l.goes (r.turns + n) ∙ r.goes n;
}

one_turn : (ws : List OpenName) (s : TypeState) (ts : List Token) (vs : List OpenName) (t : TypeState) (us : List Token)
    → ((n : ℕ) → run_types (suc n) ws s ts ≡ run_types n vs t us) → Leads 1 ws s ts vs t us
one_turn ws s ts vs t us e = record {
  turns = 1;
  few = omega arith;
  goes = λ n. let same : 1 + n ≡ suc n = omega arith in ap (λ m. run_types m ws s ts) same ∙ e n;
}

at_most : {a b : ℕ} {ws vs : List OpenName} {s t : TypeState} {ts us : List Token} → a ≤ b → Leads a ws s ts vs t us → Leads b ws s ts vs t us
at_most below l = record { turns = l.turns; few = omega (arith, l.few, below); goes = l.goes }

from : {a : ℕ} {ws vs : List OpenName} {s t : TypeState} {ts qs us : List Token} → ts ≡ qs → Leads a ws s qs vs t us → Leads a ws s ts vs t us
from {ws = ws} {s = s} same l = record { turns = l.turns; few = l.few; goes = λ n. ap (λ ps. run_types (l.turns + n) ws s ps) same ∙ l.goes n }

-- WHERE A TYPE IS WANTED

word_turn : (ws : List OpenName) (t : Token) (b : BuiltInTypeName) (rest : List Token) → type_of t ≡ Some b
    → Leads 1 ws at.Want (t ∷ rest) ws (at.Have (simple.BuiltIn b)) rest
unfolding run_types type_step want_type
word_turn ws t b rest e =
    one_turn ws at.Want (t ∷ rest) ws (at.Have (simple.BuiltIn b)) rest (λ n. ap (λ o. step_ends (run_types n) (word_or_names ws t rest o)) e)

first_names : (ws : List OpenName) (t : Token) (us : List Token) (ns : List Name) (rest : List Token) → type_of t ≡ None
    → names (suc (length us)) [] (t ∷ us) ≡ Some (ns, rest) → want_type ws (t ∷ us) ≡ arguments_or_none ws ns rest (after_opening_of rest)
unfolding want_type
first_names ws t us ns rest no_word e =
    ap (λ o. word_or_names ws t us o) no_word ∙ ap (λ r. and_then r (λ ms qs. arguments_or_none ws ms qs (after_opening_of qs))) e

names_wanted : (ws : List OpenName) {front : List Token} {ns : List Name} (rest : List Token) → SpellsNames front ns → after_dot rest ≡ None
    → want_type ws (front ++ rest) ≡ arguments_or_none ws ns rest (after_opening_of rest)
names_wanted ws rest (one {n = n} t e) over =
    first_names ws t rest (n ∷ []) rest (name_no_word t e) (names_read (one t e) (suc (length rest)) [] rest over (omega arith))
names_wanted ws rest (more {n = n} {ns = ns} {ts = ts} t e inner) over =
    first_names ws t (dot ∷ (ts ++ rest)) (n ∷ ns) rest (name_no_word t e)
    (names_read (more t e inner) (suc (length (dot ∷ (ts ++ rest)))) [] rest over (omega (arith, length-append ts rest)))

bare_turn : (ws : List OpenName) {front : List Token} {ns : List Name} (rest : List Token) → SpellsNames front ns → after_dot rest ≡ None
    → after_opening_of rest ≡ None → Leads 1 ws at.Want (front ++ rest) ws (at.Have (qualified_by ns [])) rest
unfolding run_types type_step
bare_turn ws {front} {ns} rest s over bare =
    one_turn ws at.Want (front ++ rest) ws (at.Have (qualified_by ns [])) rest
    (λ n. ap (λ p. step_ends (run_types n) p) (names_wanted ws rest s over ∙ ap (λ o. arguments_or_none ws ns rest o) bare))

no_dot : (rest : List Token) → after_dot (opening ∷ rest) ≡ None
unfolding after_dot
no_dot rest = refl

begun_turn : (ws : List OpenName) {front : List Token} {ns : List Name} (rest : List Token) → SpellsNames front ns
    → Leads 1 ws at.Want (front ++ opening ∷ token.Keyword word.Of ∷ rest) (ws ++ open_name ns [] ∷ []) at.Want rest
unfolding run_types type_step
begun_turn ws {front} {ns} rest s =
    let us = opening ∷ token.Keyword word.Of ∷ rest in
    one_turn ws at.Want (front ++ us) (ws ++ open_name ns [] ∷ []) at.Want rest
    (λ n. ap (λ p. step_ends (run_types n) p) (names_wanted ws us s (no_dot (token.Keyword word.Of ∷ rest)) ∙ ap (λ o. arguments_or_none ws ns us o) (opening_of_stands rest)))

-- WHERE A TYPE WAS READ

pub plain_stands : (x : SimpleTypeName) (rest : List Token) → goes_on_array rest ≡ false → with_array x rest ≡ (type_name.Simple x, rest)
unfolding with_array
plain_stands x rest over = ap (λ o. with_array_at x rest o) (array_over rest over)

pub array_stands : (x : SimpleTypeName) (rest : List Token) → with_array x (opening ∷ closing ∷ rest) ≡ (type_name.Array x, rest)
unfolding with_array after_opening after_closing
array_stands x rest = refl

-- behind the argument stands a comma, or the parenthesis that closes
comma_turn : (ws : List OpenName) (ns : List Name) (xs : List TypeName) (y : SimpleTypeName) (z : TypeName) (us rest : List Token)
    → with_array y us ≡ (z, comma ∷ rest)
    → Leads 1 (ws ++ open_name ns xs ∷ []) (at.Have y) us (ws ++ open_name ns (xs ++ z ∷ []) ∷ []) at.Want rest
unfolding after_comma
comma_turn ws ns xs y z us rest e =
    one_turn (ws ++ open_name ns xs ∷ []) (at.Have y) us (ws ++ open_name ns (xs ++ z ∷ []) ∷ []) at.Want rest
    (λ n. have_turn n ws (open_name ns xs) y us ∙ ap (λ p. step_ends (run_types n) (argument_read ws (open_name ns xs) p)) e)

closing_turn : (ws : List OpenName) (ns : List Name) (xs : List TypeName) (y : SimpleTypeName) (z : TypeName) (us rest : List Token)
    → with_array y us ≡ (z, closing ∷ rest)
    → Leads 1 (ws ++ open_name ns xs ∷ []) (at.Have y) us ws (at.Have (qualified_by ns (xs ++ z ∷ []))) rest
unfolding after_comma after_closing
closing_turn ws ns xs y z us rest e =
    one_turn (ws ++ open_name ns xs ∷ []) (at.Have y) us ws (at.Have (qualified_by ns (xs ++ z ∷ []))) rest
    (λ n. have_turn n ws (open_name ns xs) y us ∙ ap (λ p. step_ends (run_types n) (argument_read ws (open_name ns xs) p)) e)

-- WHAT IS SPELLED

-- the name of a type as it was read, and what stands behind it, of which `with_array` makes the whole
record LeadsType (ws : List OpenName) (ts : List Token) (z : TypeName) (rest : List Token) : Type 0 where
  pub y : SimpleTypeName
  pub us : List Token
  pub leads : Leads (length ts) ws at.Want (ts ++ rest) ws (at.Have y) us
  pub made : with_array y us ≡ (z, rest)

bare_read : (ws : List OpenName) {ts : List Token} {ns : List Name} (rest : List Token) → SpellsNames ts ns
    → goes_on_type true false rest ≡ false
    → Leads (length (ts ++ [])) ws at.Want ((ts ++ []) ++ rest) ws (at.Have (qualified_by ns [])) rest
bare_read ws {ts} {ns} rest s over =
    let o = name_over rest (type_over true false rest over).0 in
    from (ap (λ qs. qs ++ rest) (append-nil ts))
    (at_most (omega (arith, some_names s, length-append ts [])) (bare_turn ws rest s o.0 o.1))

arguments_begun : (ws : List OpenName) {ts : List Token} {ns : List Name} (us : List Token) (xs : List TypeName) (rest : List Token)
    → SpellsNames ts ns
    → Leads (length us + 1) (ws ++ open_name ns [] ∷ []) at.Want (us ++ closing ∷ rest) ws (at.Have (qualified_by ns xs)) rest
    → Leads (length (ts ++ opening ∷ token.Keyword word.Of ∷ (us ++ closing ∷ []))) ws at.Want
    ((ts ++ opening ∷ token.Keyword word.Of ∷ (us ++ closing ∷ [])) ++ rest)
    ws (at.Have (qualified_by ns xs)) rest
arguments_begun ws {ts} {ns} us xs rest s inner =
    from (append_assoc ts (opening ∷ token.Keyword word.Of ∷ (us ++ closing ∷ [])) rest
    ∙ ap (λ qs. ts ++ opening ∷ token.Keyword word.Of ∷ qs) (append_assoc us (closing ∷ []) rest))
    (at_most (omega (arith, length-append ts (opening ∷ token.Keyword word.Of ∷ (us ++ closing ∷ [])), length-append us (closing ∷ [])))
    (then (begun_turn ws (us ++ closing ∷ rest) s) inner))

one_argument : (ws : List OpenName) (ns : List Name) (xs : List TypeName) {ts : List Token} {z : TypeName} (rest : List Token)
    → LeadsType (ws ++ open_name ns xs ∷ []) ts z (closing ∷ rest)
    → Leads (length ts + 1) (ws ++ open_name ns xs ∷ []) at.Want (ts ++ closing ∷ rest) ws (at.Have (qualified_by ns (xs ++ z ∷ []))) rest
one_argument ws ns xs {z = z} rest l = then l.leads (closing_turn ws ns xs l.y z l.us rest l.made)

more_arguments : (ws : List OpenName) (ns : List Name) (xs : List TypeName) {ts : List Token} (us : List Token) {z : TypeName}
    (zs : List TypeName) (rest : List Token)
    → LeadsType (ws ++ open_name ns xs ∷ []) ts z (comma ∷ (us ++ closing ∷ rest))
    → Leads (length us + 1) (ws ++ open_name ns (xs ++ z ∷ []) ∷ []) at.Want (us ++ closing ∷ rest) ws
    (at.Have (qualified_by ns ((xs ++ z ∷ []) ++ zs))) rest
    → Leads (length (ts ++ comma ∷ us) + 1) (ws ++ open_name ns xs ∷ []) at.Want ((ts ++ comma ∷ us) ++ closing ∷ rest) ws
    (at.Have (qualified_by ns (xs ++ z ∷ zs))) rest
more_arguments ws ns xs {ts} us {z} zs rest l inner =
    subst (λ qs. Leads (length (ts ++ comma ∷ us) + 1) (ws ++ open_name ns xs ∷ []) at.Want ((ts ++ comma ∷ us) ++ closing ∷ rest) ws (at.Have (qualified_by ns qs)) rest)
    (append_assoc xs (z ∷ []) zs)
    (from (append_assoc ts (comma ∷ us) (closing ∷ rest))
    (at_most (omega (arith, length-append ts (comma ∷ us)))
    (then l.leads (then (comma_turn ws ns xs l.y z l.us (us ++ closing ∷ rest) l.made) inner))))

plain_read : (ws : List OpenName) (dotted : Bool) {ts : List Token} {x : SimpleTypeName} (rest : List Token)
    → goes_on_type dotted true rest ≡ false
    → (goes_on_type dotted false rest ≡ false → Leads (length ts) ws at.Want (ts ++ rest) ws (at.Have x) rest)
    → LeadsType ws ts (type_name.Simple x) rest
plain_read ws dotted {x = x} rest over inner =
    let o = type_over dotted true rest over in
    record { y = x; us = rest; leads = inner (over_type dotted false rest o.0 refl); made = plain_stands x rest o.1 }

array_read : (ws : List OpenName) (dotted : Bool) (ts : List Token) {x : SimpleTypeName} (rest : List Token)
    → (goes_on_type dotted false (opening ∷ closing ∷ rest) ≡ false
    → Leads (length ts) ws at.Want (ts ++ opening ∷ closing ∷ rest) ws (at.Have x) (opening ∷ closing ∷ rest))
    → LeadsType ws (ts ++ opening ∷ closing ∷ []) (type_name.Array x) rest
array_read ws dotted ts {x} rest inner = record {
  y = x;
  us = opening ∷ closing ∷ rest;
  leads = from (append_assoc ts (opening ∷ closing ∷ []) rest)
      (at_most (omega (arith, length-append ts (opening ∷ closing ∷ []))) (inner (parentheses_over dotted rest)));
  made = array_stands x rest;
}

mutual
  type_leads : {dotted opened : Bool} {ts : List Token} {z : TypeName} → SpellsType dotted opened ts z → (ws : List OpenName) (rest : List Token)
      → goes_on_type dotted opened rest ≡ false → LeadsType ws ts z rest
  type_leads (plain {dotted = dotted} s) ws rest over = plain_read ws dotted rest over (λ o. simple_leads s ws rest o)
  type_leads (array {dotted = dotted} {ts = ts} s) ws rest over =
      array_read ws dotted ts rest (λ o. simple_leads s ws (opening ∷ closing ∷ rest) o)

  simple_leads : {dotted : Bool} {ts : List Token} {x : SimpleTypeName} → SpellsSimpleType dotted ts x → (ws : List OpenName) (rest : List Token)
      → goes_on_type dotted false rest ≡ false → Leads (length ts) ws at.Want (ts ++ rest) ws (at.Have x) rest
  simple_leads (built_in {b = b} t e) ws rest over = word_turn ws t b rest e
  simple_leads (qualified s a) ws rest over = arguments_lead a s ws rest over

  arguments_lead : {dotted : Bool} {us : List Token} {xs : List TypeName} → SpellsTypeArguments dotted us xs
      → {ts : List Token} {ns : List Name} → SpellsNames ts ns
      → (ws : List OpenName) (rest : List Token) → goes_on_type dotted false rest ≡ false
      → Leads (length (ts ++ us)) ws at.Want ((ts ++ us) ++ rest) ws (at.Have (qualified_by ns xs)) rest
  arguments_lead none s ws rest over = bare_read ws rest s over
  arguments_lead (some {ts = us} {xs = xs} inner) {ns = ns} s ws rest over = arguments_begun ws us xs rest s (types_lead inner ws ns [] rest)

  types_lead : {ts : List Token} {xs : List TypeName} → SpellsTypes ts xs
      → (ws : List OpenName) (ns : List Name) (before : List TypeName) (rest : List Token)
      → Leads (length ts + 1) (ws ++ open_name ns before ∷ []) at.Want (ts ++ closing ∷ rest) ws (at.Have (qualified_by ns (before ++ xs))) rest
  types_lead (one {dotted = dotted} {opened = opened} s) ws ns before rest =
      one_argument ws ns before rest (type_leads s (ws ++ open_name ns before ∷ []) (closing ∷ rest) (closing_over dotted opened rest))
  types_lead (more {dotted = dotted} {opened = opened} {us = us} {x = x} {xs = xs} s later) ws ns before rest =
      more_arguments ws ns before us xs rest
      (type_leads s (ws ++ open_name ns before ∷ []) (comma ∷ (us ++ closing ∷ rest)) (comma_over dotted opened (us ++ closing ∷ rest)))
      (types_lead later ws ns (before ++ x ∷ []) rest)

-- enough turns read the type
leads_enough : (k m : ℕ) (ts us : List Token) (x : SimpleTypeName) → Leads k [] at.Want ts [] (at.Have x) us → k < m
    → run_types m [] at.Want ts ≡ Some (x, us)
leads_enough k m ts us x l enough =
    let same : m ≡ l.turns + suc (m - suc l.turns) = omega (arith, l.few, enough) in
    ap (λ n. run_types n [] at.Want ts) same ∙ l.goes (suc (m - suc l.turns)) ∙ last_turn (m - suc l.turns) x us

pub run_read : {dotted : Bool} {front : List Token} {x : SimpleTypeName} (m : ℕ) (rest : List Token) → SpellsSimpleType dotted front x
    → goes_on_type dotted false rest ≡ false → length front < m → run_types m [] at.Want (front ++ rest) ≡ Some (x, rest)
run_read {front = front} {x = x} m rest s over enough = leads_enough (length front) m (front ++ rest) rest x (simple_leads s [] rest over) enough
