-- Signatures, results, handlers and first values are read as they are spelled.
use Rattle.std.proofs.Common.{◌≡◌, inl, inr, ◌≤◌, true, false, List, [], ◌∷◌, ◌++◌, length, Option, Some, None, refl, sym, ap, subst, ◌∙◌, arith}
use Rattle.vb_text.specs.declared.names.Name.{Name}
use Rattle.vb_syntax.specs.declared.{keyword.Keyword.Keyword, tokens.Token.Token, types.{TypeName.TypeName, TypeParameter.TypeParameter}, expression.Expr.Expr, declaration.{EventHandler.EventHandler, ImplementedMember.ImplementedMember, MethodSignature.MethodSignature, Parameter.Parameter}}
use Rattle.vb_syntax.specs.declared.keyword.Keyword.TheVariants as word
use Rattle.vb_syntax.specs.declared.symbol.Symbol.TheVariants as sign
use Rattle.vb_syntax.specs.declared.tokens.Token.TheVariants as token
use Rattle.vb_syntax.specs.declared.declaration.EventHandler.TheVariants as handler
use Rattle.vb_parse_expr.specs.{Reading.after_opening, TypeReading.{Read, and_then, read_name, read_type, most_tokens}, Placing.read_expression, Words.{opening, closing}, Fronts.goes_on}
use Rattle.vb_parse_expr.proofs.TypeNames.{then_some, parts_of}
use Rattle.vb_parse_decl.specs.{Parts.{reserved, equal, IsType, Part}, Declarations.{AreTypeParameters, IsDeclared, AreParameters, Signed, IsResult, IsHandler, IsInitial, AreImplemented}, DeclarationReading.{after_as, after_equal, read_declared, read_written, read_parameters, read_type_parameters, signature, read_signature, result_behind, read_result}, LineReading.{handler_behind, read_handler, initial_behind, read_initial}}
use Rattle.vb_parse_decl.proofs.{Readers.{Reads, Found, then_is, part_read, read_part, name_read, read_names}, ReadersTypes.{stops, Stops, type_reads, expression_read}, ReadersParameters.{NoTypeParameters, NoParameters, type_parameters_reads, declared_reads, written_reads, parameters_reads, parameters_no_of, as_first, as_stands, opening_stands}, ReadersMembers.{whole_reads, whole_found}}

-- WHAT STANDS BEHIND

pub word_no_opening : (w : Keyword) (ts : List Token) → after_opening (reserved w ∷ ts) ≡ None
unfolding after_opening
word_no_opening w ts = refl

pub nothing_no_opening : after_opening [] ≡ None
unfolding after_opening
nothing_no_opening = refl

word_stops : (w : Keyword) (ts : List Token) → stops (reserved w ∷ ts) ≡ true
unfolding stops
word_stops w ts = refl

equal_stops : (ts : List Token) → stops (equal ∷ ts) ≡ true
unfolding stops
equal_stops ts = refl

pub nothing_stops : stops [] ≡ true
unfolding stops
nothing_stops = refl

pub implements_no_parameters : (ms : List ImplementedMember) (us : List Token) → AreImplemented us ms → NoParameters us
implements_no_parameters ms us (inl (none, empty)) = ap after_opening none ∙ nothing_no_opening
implements_no_parameters ms us (inr (vs, is, p)) = ap after_opening is ∙ word_no_opening word.Implements vs

pub implements_stops : (ms : List ImplementedMember) (us : List Token) → AreImplemented us ms → Stops us
implements_stops ms us (inl (none, empty)) = ap stops none ∙ nothing_stops
implements_stops ms us (inr (vs, is, p)) = ap stops is ∙ word_stops word.Implements vs

pub declared_no_parameters : (Behind : List Token → Type 0) (a : TypeName) (us : List Token) → Part IsDeclared a Behind us → NoParameters us
declared_no_parameters Behind a us (vs, rest, split, (ws, is, p), q) =
    ap after_opening (split ∙ ap (λ xs. xs ++ rest) is) ∙ word_no_opening word.As (ws ++ rest)

-- SIGNATURES

made_as : (Behind : List Token → Type 0) (ts rest more : List Token) (s r : MethodSignature) → ◌≡◌ {A = Read MethodSignature} (Some (r, more)) (Some (s, rest)) → Behind rest
    → ((us : List Token) → us ≡ more → Behind us → Signed r.name r.type_parameters r.parameters Behind ts) → Signed s.name s.type_parameters s.parameters Behind ts
made_as Behind ts rest more s r e q made =
    let same = parts_of r s more rest e in
    subst (λ (x : MethodSignature). Signed x.name x.type_parameters x.parameters Behind ts) same.0 (made rest (sym same.1) q)

pub signed_found : (Behind : List Token → Type 0) (ts rest : List Token) (s : MethodSignature) → read_signature ts ≡ Some (s, rest) → Behind rest
    → Signed s.name s.type_parameters s.parameters Behind ts
unfolding read_signature
signed_found Behind ts rest s e q =
    let a = then_some (read_name ts) (λ n us. and_then (read_type_parameters us) (λ qs vs. and_then (read_parameters vs) (λ ps ws. Some (signature n qs ps, ws)))) e in
    let b = then_some (read_type_parameters a.0.1) (λ qs vs. and_then (read_parameters vs) (λ ps ws. Some (signature a.0.0 qs ps, ws))) a.2 in
    let c = then_some (read_parameters b.0.1) (λ ps ws. Some (signature a.0.0 b.0.0 ps, ws)) b.2 in
    made_as Behind ts rest c.0.1 s (signature a.0.0 b.0.0 c.0.0) c.2 q
    (λ us at p. read_names (Part AreTypeParameters b.0.0 (Part AreParameters c.0.0 Behind)) ts a.0.1 a.0.0 a.1
    (read_part AreTypeParameters NoTypeParameters read_type_parameters type_parameters_reads (Part AreParameters c.0.0 Behind) a.0.1 b.0.1 b.0.0 b.1
    (read_part AreParameters NoParameters read_parameters parameters_reads Behind b.0.1 us c.0.0 (c.1 ∙ ap (λ ws. Some (c.0.0, ws)) (sym at)) p)))

signature_is : (ts us vs rest : List Token) (n : Name) (qs : List TypeParameter) (ps : List Parameter) → read_name ts ≡ Some (n, us) → read_type_parameters us ≡ Some (qs, vs)
    → read_parameters vs ≡ Some (ps, rest) → read_signature ts ≡ Some (signature n qs ps, rest)
unfolding read_signature
signature_is ts us vs rest n qs ps a b c =
    then_is (read_name ts) (λ m ws. and_then (read_type_parameters ws) (λ q xs. and_then (read_parameters xs) (λ p ys. Some (signature m q p, ys)))) n us a
    ∙ then_is (read_type_parameters us) (λ q xs. and_then (read_parameters xs) (λ p ys. Some (signature n q p, ys))) qs vs b
    ∙ then_is (read_parameters vs) (λ p ys. Some (signature n qs p, ys)) ps rest c

pub signed_read : (Behind : List Token → Type 0) (ts : List Token) (s : MethodSignature) → ((us : List Token) → Behind us → NoParameters us) → length ts ≤ most_tokens
    → Signed s.name s.type_parameters s.parameters Behind ts → Found read_signature Behind ts s
signed_read Behind ts s none few p =
    let a = name_read (Part AreTypeParameters s.type_parameters (Part AreParameters s.parameters Behind)) ts s.name few p in
    let b = part_read AreTypeParameters NoTypeParameters read_type_parameters type_parameters_reads (Part AreParameters s.parameters Behind) a.rest s.type_parameters
    (λ us q. parameters_no_of Behind us s.parameters none q) a.few a.behind in
    let c = part_read AreParameters NoParameters read_parameters parameters_reads Behind b.rest s.parameters none b.few b.behind in
    record {
      rest = c.rest;
      reads = signature_is ts a.rest b.rest c.rest s.name s.type_parameters s.parameters a.reads b.reads c.reads;
      behind = c.behind;
      few = c.few;
    }

-- RESULTS, UP TO THE END OF THE LINE

no_as : after_as [] ≡ None
unfolding after_as
no_as = refl

result_behind_found : (ts rest : List Token) (r : Option TypeName) (o : Option (List Token)) → after_as ts ≡ o → result_behind ts o ≡ Some (r, rest) → rest ≡ [] → IsResult ts r
result_behind_found ts rest r None was e empty =
    let same = parts_of None r ts rest e in
    subst (λ (x : Option TypeName). IsResult ts x) same.0 (same.1 ∙ empty)
result_behind_found ts rest r (Some us) was e empty =
    let b = then_some (read_type us) (λ a vs. Some (Some a, vs)) e in
    let same = parts_of (Some b.0.0) r b.0.1 rest b.2 in
    subst (λ (x : Option TypeName). IsResult ts x) same.0
    (us, as_first ts us was, whole_found IsType Stops read_type type_reads us b.0.1 b.0.0 b.1 (same.1 ∙ empty))

pub result_found : (ts rest : List Token) (r : Option TypeName) → read_result ts ≡ Some (r, rest) → rest ≡ [] → IsResult ts r
unfolding read_result
result_found ts rest r e empty = result_behind_found ts rest r (after_as ts) refl e empty

pub result_read : (ts : List Token) (r : Option TypeName) → length ts ≤ most_tokens → IsResult ts r → read_result ts ≡ Some (r, [])
unfolding read_result
result_read ts None few p = ap (λ us. result_behind us (after_as us)) p ∙ ap (result_behind []) no_as
result_read ts (Some a) few (us, is, p) =
    ap (λ vs. result_behind vs (after_as vs)) is ∙ ap (result_behind (reserved word.As ∷ us)) (as_stands us)
    ∙ then_is (read_type us) (λ b vs. Some (Some b, vs)) a [] (whole_reads IsType Stops read_type type_reads nothing_stops us a (omega (arith, few, ap length is)) p)

pub result_no_parameters : (r : Option TypeName) (us : List Token) → IsResult us r → NoParameters us
result_no_parameters None us p = ap after_opening p ∙ nothing_no_opening
result_no_parameters (Some a) us (vs, is, p) = ap after_opening is ∙ word_no_opening word.As vs

-- HANDLERS

record FoundHandler (ts : List Token) (h : EventHandler) (rest : List Token) : Type 0 where
  us : List Token
  split : ts ≡ us ++ rest
  part : IsHandler us h

handler_as : (us ts rest more : List Token) (g h : EventHandler) → ts ≡ us ++ more → IsHandler us g → ◌≡◌ {A = Read EventHandler} (Some (g, more)) (Some (h, rest))
    → FoundHandler ts h rest
handler_as us ts rest more g h split p e =
    let same = parts_of g h more rest e in
    record { us = us; split = split ∙ ap (λ vs. us ++ vs) same.1; part = subst (λ (x : EventHandler). IsHandler us x) same.0 p }

handler_behind_found : (ts rest : List Token) (h : EventHandler) (o : Option (List Token)) → handler_behind ts o ≡ Some (h, rest) → FoundHandler ts h rest
handler_behind_found ts rest h None e =
    let b = then_some (read_declared ts) (λ a us. Some (handler.Delegate a, us)) e in
    let f = declared_reads.found ts b.0.1 b.0.0 b.1 in
    handler_as f.0 ts rest b.0.1 (handler.Delegate b.0.0) h f.1 f.2 b.2
handler_behind_found ts rest h (Some vs) e =
    let b = then_some (read_written ts) (λ ps us. Some (handler.Parameters ps, us)) e in
    let f = written_reads.found ts b.0.1 b.0.0 b.1 in
    handler_as f.0 ts rest b.0.1 (handler.Parameters b.0.0) h f.1 f.2 b.2

handler_found : (ts rest : List Token) (h : EventHandler) → read_handler ts ≡ Some (h, rest) → FoundHandler ts h rest
unfolding read_handler
handler_found ts rest h e = handler_behind_found ts rest h (after_opening ts) e

handler_finds : (us rest : List Token) (h : EventHandler) → length (us ++ rest) ≤ most_tokens → Stops rest → IsHandler us h → read_handler (us ++ rest) ≡ Some (h, rest)
unfolding read_handler
handler_finds us rest (handler.Parameters ps) few ends p =
    let whole : us ++ rest ≡ opening ∷ ((p.0 ++ closing ∷ []) ++ rest) = ap (λ ws. ws ++ rest) p.1 in
    ap (handler_behind (us ++ rest)) (ap after_opening whole ∙ opening_stands ((p.0 ++ closing ∷ []) ++ rest))
    ∙ then_is (read_written (us ++ rest)) (λ qs vs. Some (handler.Parameters qs, vs)) ps rest (written_reads.finds us rest ps few tt p)
handler_finds us rest (handler.Delegate a) few ends p =
    let whole : us ++ rest ≡ reserved word.As ∷ (p.0 ++ rest) = ap (λ ws. ws ++ rest) p.1 in
    ap (handler_behind (us ++ rest)) (ap after_opening whole ∙ word_no_opening word.As (p.0 ++ rest))
    ∙ then_is (read_declared (us ++ rest)) (λ b vs. Some (handler.Delegate b, vs)) a rest (declared_reads.finds us rest a few ends p)

pub handler_reads : Reads IsHandler Stops read_handler
handler_reads = record {
  found = λ ts rest h e. let f = handler_found ts rest h e in (f.us, f.split, f.part);
  finds = handler_finds;
}

-- FIRST VALUES

pub record EndsInitial (ts : List Token) : Type 0 where
  pub over : goes_on ts ≡ false
  pub none : after_equal ts ≡ None

equal_first : (ts rest : List Token) → after_equal ts ≡ Some rest → ts ≡ equal ∷ rest
unfolding after_equal
equal_first [] rest e = absurd cc
equal_first (token.Symbol sign.Equal ∷ ts) rest e = cc
equal_first (t ∷ ts) rest e = absurd cc

equal_stands : (ts : List Token) → after_equal (equal ∷ ts) ≡ Some ts
unfolding after_equal
equal_stands ts = refl

nothing_ends : EndsInitial []
unfolding after_equal
nothing_ends = record { over = refl; none = refl }

implements_end : (ts : List Token) → EndsInitial (reserved word.Implements ∷ ts)
unfolding after_equal
implements_end ts = record { over = refl; none = refl }

pub implements_ends : (ms : List ImplementedMember) (us : List Token) → AreImplemented us ms → EndsInitial us
implements_ends ms us (inl (none, empty)) = subst EndsInitial (sym none) nothing_ends
implements_ends ms us (inr (vs, is, p)) = subst EndsInitial (sym is) (implements_end vs)

record FoundInitial (ts : List Token) (i : Option Expr) (rest : List Token) : Type 0 where
  us : List Token
  split : ts ≡ us ++ rest
  part : IsInitial us i

initial_as : (us ts rest more : List Token) (g i : Option Expr) → ts ≡ us ++ more → IsInitial us g → ◌≡◌ {A = Read (Option Expr)} (Some (g, more)) (Some (i, rest))
    → FoundInitial ts i rest
initial_as us ts rest more g i split p e =
    let same = parts_of g i more rest e in
    record { us = us; split = split ∙ ap (λ vs. us ++ vs) same.1; part = subst (λ (x : Option Expr). IsInitial us x) same.0 p }

initial_behind_found : (ts rest : List Token) (i : Option Expr) (o : Option (List Token)) → after_equal ts ≡ o → initial_behind ts o ≡ Some (i, rest) → FoundInitial ts i rest
initial_behind_found ts rest i None was e = initial_as [] ts rest ts None i refl refl e
initial_behind_found ts rest i (Some us) was e =
    let b = then_some (read_expression us) (λ x vs. Some (Some x, vs)) e in
    let f = expression_read.found us b.0.1 b.0.0 b.1 in
    initial_as (equal ∷ f.0) ts rest b.0.1 (Some b.0.0) i (equal_first ts us was ∙ ap (λ vs. equal ∷ vs) f.1) (f.0, refl, f.2) b.2

initial_found : (ts rest : List Token) (i : Option Expr) → read_initial ts ≡ Some (i, rest) → FoundInitial ts i rest
unfolding read_initial
initial_found ts rest i e = initial_behind_found ts rest i (after_equal ts) refl e

initial_finds : (us rest : List Token) (i : Option Expr) → length (us ++ rest) ≤ most_tokens → EndsInitial rest → IsInitial us i → read_initial (us ++ rest) ≡ Some (i, rest)
unfolding read_initial
initial_finds us rest None few ends p =
    ap (λ vs. initial_behind (vs ++ rest) (after_equal (vs ++ rest))) p ∙ ap (initial_behind rest) ends.none
initial_finds us rest (Some x) few ends (vs, is, p) =
    let whole : us ++ rest ≡ equal ∷ (vs ++ rest) = ap (λ ws. ws ++ rest) is in
    ap (λ ws. initial_behind ws (after_equal ws)) whole ∙ ap (initial_behind (equal ∷ (vs ++ rest))) (equal_stands (vs ++ rest))
    ∙ then_is (read_expression (vs ++ rest)) (λ y ws. Some (Some y, ws)) x rest (expression_read.finds vs rest x (omega (arith, few, ap length whole)) ends.over p)

pub initial_reads : Reads IsInitial EndsInitial read_initial
initial_reads = record {
  found = λ ts rest i e. let f = initial_found ts rest i e in (f.us, f.split, f.part);
  finds = initial_finds;
}

pub initial_stops : (ms : List ImplementedMember) (i : Option Expr) (us : List Token) → Part IsInitial i (λ vs. AreImplemented vs ms) us → Stops us
initial_stops ms None us (vs, rest, split, p, q) = ap stops (split ∙ ap (λ ws. ws ++ rest) p) ∙ implements_stops ms rest q
initial_stops ms (Some x) us (vs, rest, split, (ws, is, p), q) = ap stops (split ∙ ap (λ xs. xs ++ rest) is) ∙ equal_stops (ws ++ rest)
