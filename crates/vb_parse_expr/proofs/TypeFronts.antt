-- The reading of the names of types finds what is spelled at the front, and finds it wherever it is.
use Rattle.std.proofs.Common.{◌≡◌, ℕ, zero, suc, ◌≤◌, Bool, true, false, ◌&&◌, List, [], ◌∷◌, ◌++◌, length, Option, Some, None, refl, ap, sym, ◌∙◌, subst, append_assoc, length-append, arith}
use Rattle.vb_syntax.specs.declared.keyword.Keyword.TheVariants as word
use Rattle.vb_syntax.specs.declared.{tokens.Token.Token, types.{SimpleTypeName.SimpleTypeName, TypeName.TypeName}}
use Rattle.vb_syntax.specs.declared.tokens.Token.TheVariants as token
use Rattle.vb_parse_expr.specs.{Words.{opening, closing, comma}, Types.{SpellsType, SpellsSimpleType, SpellsTypeArguments, SpellsTypes, goes_on_type, plain, array, none, some, one, more}, Reading.{after_closing, after_comma}, TypeReading.{Read, and_then, after_opening_of, with_array, listed, type_list, list_or_none, read_simple_type, read_type, read_type_arguments, most_tokens, most_turns}}
pub use Rattle.vb_parse_expr.proofs.FoundTypes.{begins_arguments, FoundType, FoundSimpleType, FoundArguments}
use Rattle.vb_parse_expr.proofs.{TypeAhead.{closing_first, comma_first, opening_of_first, opening_of_stands, over_arguments, arguments_over, over_type, type_over, comma_over, closing_over, parentheses_over}, TypeNames.{then_some, parts_of}, TypesFound.{array_found, moved, run_found}, TypesRead.{plain_stands, array_stands, run_read}}

-- FOUND: what is read stands at the front, and nothing goes on with it

pub simple_type_found : {ts rest : List Token} {x : SimpleTypeName} → read_simple_type ts ≡ Some (x, rest) → FoundSimpleType ts x rest
unfolding read_simple_type
simple_type_found {ts} {rest} {x} e = run_found most_turns ts x rest e

same_type : {ts us rest : List Token} {x z : TypeName} → ◌≡◌ {A = Read TypeName} (Some (z, us)) (Some (x, rest)) → FoundType ts z us
    → FoundType ts x rest
same_type {ts} {us} {rest} {x} {z} e f =
    let p = parts_of z x us rest e in subst (λ vs. FoundType ts x vs) p.1 (subst (λ y. FoundType ts y us) p.0 f)

pub type_found : {ts rest : List Token} {x : TypeName} → read_type ts ≡ Some (x, rest) → FoundType ts x rest
unfolding read_type
type_found {ts} {rest} {x} e =
    let b = then_some (read_simple_type ts) (λ y us. Some (with_array y us)) e in
    let s = simple_type_found b.1 in
    same_type b.2 (moved s.split (array_found b.0.0 s.front b.0.1 s.spells s.over))

-- types up to the parenthesis that closes, behind those that were read before
record FoundSeveral (before : List TypeName) (ts : List Token) (xs : List TypeName) (rest : List Token) : Type 0 where
  pub front : List Token
  pub later : List TypeName
  pub whole : xs ≡ before ++ later
  pub split : ts ≡ front ++ closing ∷ rest
  pub spells : SpellsTypes front later

types_more : (n : ℕ) (before : List TypeName) (ts : List Token) (z : TypeName) (us : List Token) (next close : Option (List Token))
    (xs : List TypeName) (rest : List Token)
    → FoundType ts z us → after_comma us ≡ next → after_closing us ≡ close → listed (type_list n) (before ++ z ∷ []) next close ≡ Some (xs, rest)
    → ((vs : List Token) → type_list n (before ++ z ∷ []) vs ≡ Some (xs, rest) → FoundSeveral (before ++ z ∷ []) vs xs rest)
    → FoundSeveral before ts xs rest
types_more n before ts z us (Some vs) close xs rest f comma_was close_was e again =
    let g = again vs e in
    record {
      front = f.front ++ comma ∷ g.front;
      later = z ∷ g.later;
      whole = g.whole ∙ append_assoc before (z ∷ []) g.later;
      split = f.split ∙ ap (λ qs. f.front ++ qs) (comma_first us comma_was ∙ ap (λ qs. comma ∷ qs) g.split)
          ∙ sym (append_assoc f.front (comma ∷ g.front) (closing ∷ rest));
      spells = more f.spells g.spells;
    }
types_more n before ts z us None (Some vs) xs rest f comma_was close_was e again =
    let p = parts_of (before ++ z ∷ []) xs vs rest e in
    record {
      front = f.front;
      later = z ∷ [];
      whole = sym p.0;
      split = f.split ∙ ap (λ qs. f.front ++ qs) (closing_first us close_was ∙ ap (λ qs. closing ∷ qs) p.1);
      spells = one f.spells;
    }
types_more n before ts z us None None xs rest f comma_was close_was e again = cc

types_found : (n : ℕ) (before : List TypeName) (ts : List Token) (xs : List TypeName) (rest : List Token)
    → type_list n before ts ≡ Some (xs, rest)
    → FoundSeveral before ts xs rest
unfolding type_list
types_found zero before ts xs rest e = cc
types_found (suc n) before ts xs rest e =
    let b = then_some (read_type ts) (λ z us. listed (type_list n) (before ++ z ∷ []) (after_comma us) (after_closing us)) e in
    types_more n before ts b.0.0 b.0.1 (after_comma b.0.1) (after_closing b.0.1) xs rest (type_found b.1) refl refl b.2
    (λ vs e'. types_found n (before ++ b.0.0 ∷ []) vs xs rest e')

arguments_at : (ts : List Token) (o : Option (List Token)) (xs : List TypeName) (rest : List Token) → after_opening_of ts ≡ o
    → list_or_none ts o ≡ Some (xs, rest)
    → FoundArguments ts xs rest
arguments_at ts None xs rest was e =
    let p = parts_of [] xs ts rest e in
    record {
      front = [];
      bare = true;
      split = p.1;
      spells = subst (λ ys. SpellsTypeArguments true [] ys) p.0 none;
      over = over_arguments rest (ap after_opening_of (sym p.1) ∙ was);
    }
arguments_at ts (Some us) xs rest was e =
    let f = types_found (length us) [] us xs rest e in
    record {
      front = opening ∷ token.Keyword word.Of ∷ (f.front ++ closing ∷ []);
      bare = false;
      split = opening_of_first ts was
          ∙ ap (λ qs. opening ∷ token.Keyword word.Of ∷ qs) (f.split ∙ sym (append_assoc f.front (closing ∷ []) rest));
      spells = some (subst (λ ys. SpellsTypes f.front ys) (sym f.whole) f.spells);
      over = refl;
    }

pub arguments_found : {ts rest : List Token} {xs : List TypeName} → read_type_arguments ts ≡ Some (xs, rest) → FoundArguments ts xs rest
unfolding read_type_arguments
arguments_found {ts} {rest} {xs} e = arguments_at ts (after_opening_of ts) xs rest refl e

-- READ: what stands at the front is read, where nothing goes on with it

pub simple_type_read : {front : List Token} {x : SimpleTypeName} {dotted : Bool} (rest : List Token) → SpellsSimpleType dotted front x
    → goes_on_type dotted false rest ≡ false → length (front ++ rest) ≤ most_tokens → read_simple_type (front ++ rest) ≡ Some (x, rest)
unfolding read_simple_type
simple_type_read {front} rest s over within = run_read most_turns rest s over (omega (arith, length-append front rest, within))

with_array_read : (ts us : List Token) (y : SimpleTypeName) → read_simple_type ts ≡ Some (y, us) → read_type ts ≡ Some (with_array y us)
unfolding read_type
with_array_read ts us y e = ap (λ r. and_then r (λ z vs. Some (with_array z vs))) e

pub type_read : {front : List Token} {x : TypeName} {dotted opened : Bool} (rest : List Token) → SpellsType dotted opened front x
    → goes_on_type dotted opened rest ≡ false → length (front ++ rest) ≤ most_tokens → read_type (front ++ rest) ≡ Some (x, rest)
type_read rest (plain {dotted = dotted} {ts = ts} {x = y} s) over within =
    let o = type_over dotted true rest over in
    with_array_read (ts ++ rest) rest y (simple_type_read rest s (over_type dotted false rest o.0 refl) within)
    ∙ ap (λ p. Some p) (plain_stands y rest o.1)
type_read rest (array {dotted = dotted} {ts = ts} {x = y} s) over within =
    let same = append_assoc ts (opening ∷ closing ∷ []) rest in
    ap (λ qs. read_type qs) same
    ∙ with_array_read (ts ++ opening ∷ closing ∷ rest) (opening ∷ closing ∷ rest) y
    (simple_type_read (opening ∷ closing ∷ rest) s (parentheses_over dotted rest) (subst (λ qs. length qs ≤ most_tokens) same within))
    ∙ ap (λ p. Some p) (array_stands y rest)

list_turn : (n : ℕ) (before : List TypeName) (ts us : List Token) (z : TypeName) → read_type ts ≡ Some (z, us)
    → type_list (suc n) before ts ≡ listed (type_list n) (before ++ z ∷ []) (after_comma us) (after_closing us)
unfolding type_list
list_turn n before ts us z e = ap (λ r. and_then r (λ y vs. listed (type_list n) (before ++ y ∷ []) (after_comma vs) (after_closing vs))) e

closing_behind : (go : List TypeName → List Token → Read (List TypeName)) (xs : List TypeName) (rest : List Token)
    → listed go xs (after_comma (closing ∷ rest)) (after_closing (closing ∷ rest)) ≡ Some (xs, rest)
unfolding after_comma after_closing
closing_behind go xs rest = refl

comma_behind : (go : List TypeName → List Token → Read (List TypeName)) (xs : List TypeName) (rest : List Token)
    → listed go xs (after_comma (comma ∷ rest)) (after_closing (comma ∷ rest)) ≡ go xs rest
unfolding after_comma
comma_behind go xs rest = refl

one_read : (n : ℕ) (before : List TypeName) (ts rest : List Token) (z : TypeName) → length (ts ++ closing ∷ rest) ≤ n
    → read_type (ts ++ closing ∷ rest) ≡ Some (z, closing ∷ rest) → type_list n before (ts ++ closing ∷ rest) ≡ Some (before ++ z ∷ [], rest)
one_read zero before ts rest z enough e = absurd (omega (arith, enough, length-append ts (closing ∷ rest)))
one_read (suc n) before ts rest z enough e =
    list_turn n before (ts ++ closing ∷ rest) (closing ∷ rest) z e ∙ closing_behind (type_list n) (before ++ z ∷ []) rest

more_read : (n : ℕ) (before : List TypeName) (ts us rest : List Token) (z : TypeName) (zs : List TypeName)
    → length (ts ++ comma ∷ (us ++ closing ∷ rest)) ≤ n
    → read_type (ts ++ comma ∷ (us ++ closing ∷ rest)) ≡ Some (z, comma ∷ (us ++ closing ∷ rest))
    → ((m : ℕ) → length (us ++ closing ∷ rest) ≤ m → type_list m (before ++ z ∷ []) (us ++ closing ∷ rest) ≡ Some ((before ++ z ∷ []) ++ zs, rest))
    → type_list n before (ts ++ comma ∷ (us ++ closing ∷ rest)) ≡ Some (before ++ z ∷ zs, rest)
more_read zero before ts us rest z zs enough e again = absurd (omega (arith, enough, length-append ts (comma ∷ (us ++ closing ∷ rest))))
more_read (suc n) before ts us rest z zs enough e again =
    list_turn n before (ts ++ comma ∷ (us ++ closing ∷ rest)) (comma ∷ (us ++ closing ∷ rest)) z e
    ∙ comma_behind (type_list n) (before ++ z ∷ []) (us ++ closing ∷ rest)
    ∙ again n (omega (arith, enough, length-append ts (comma ∷ (us ++ closing ∷ rest))))
    ∙ ap (λ ys. Some (ys, rest)) (append_assoc before (z ∷ []) zs)

types_read : {ts : List Token} {xs : List TypeName} → SpellsTypes ts xs → (n : ℕ) (before : List TypeName) (rest : List Token)
    → length (ts ++ closing ∷ rest) ≤ n
    → length (ts ++ closing ∷ rest) ≤ most_tokens → type_list n before (ts ++ closing ∷ rest) ≡ Some (before ++ xs, rest)
types_read (one {dotted = dotted} {opened = opened} {ts = ts} {x = x} s) n before rest enough within =
    one_read n before ts rest x enough (type_read (closing ∷ rest) s (closing_over dotted opened rest) within)
types_read (more {dotted = dotted} {opened = opened} {ts = ts} {us = us} {x = x} {xs = xs} s later) n before rest enough within =
    let same = append_assoc ts (comma ∷ us) (closing ∷ rest) in
    let short = subst (λ qs. length qs ≤ most_tokens) same within in
    ap (λ qs. type_list n before qs) same
    ∙ more_read n before ts us rest x xs (subst (λ qs. length qs ≤ n) same enough)
    (type_read (comma ∷ (us ++ closing ∷ rest)) s (comma_over dotted opened (us ++ closing ∷ rest)) short)
    (λ m much. types_read later m (before ++ x ∷ []) rest much (omega (arith, short, length-append ts (comma ∷ (us ++ closing ∷ rest)))))

list_stands : (ts us : List Token) → after_opening_of ts ≡ Some us → read_type_arguments ts ≡ type_list (length us) [] us
unfolding read_type_arguments
list_stands ts us e = ap (λ o. list_or_none ts o) e

no_list : (ts : List Token) → after_opening_of ts ≡ None → read_type_arguments ts ≡ Some ([], ts)
unfolding read_type_arguments
no_list ts e = ap (λ o. list_or_none ts o) e

pub arguments_read : {front : List Token} {xs : List TypeName} {bare : Bool} (rest : List Token) → SpellsTypeArguments bare front xs
    → (bare && begins_arguments rest) ≡ false → length (front ++ rest) ≤ most_tokens → read_type_arguments (front ++ rest) ≡ Some (xs, rest)
arguments_read rest none over within = no_list rest (arguments_over rest over)
arguments_read rest (some {ts = ts} inner) over within =
    let same = append_assoc ts (closing ∷ []) rest in
    ap (λ qs. read_type_arguments (opening ∷ token.Keyword word.Of ∷ qs)) same
    ∙ list_stands (opening ∷ token.Keyword word.Of ∷ (ts ++ closing ∷ rest)) (ts ++ closing ∷ rest) (opening_of_stands (ts ++ closing ∷ rest))
    ∙ types_read inner (length (ts ++ closing ∷ rest)) [] rest (omega arith) (omega (arith, within, ap (λ qs. length qs) same))
