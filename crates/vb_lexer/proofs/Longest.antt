-- A piece that is a token is the longest token that stands at its place.
use Rattle.std.proofs.Common.{◌≡◌, ◌↔◌, pos, ℕ, zero, suc, ◌+◌, ◌<◌, ◌≤◌, Bool, true, false, not, ◌&&◌, ◌==◌, nat_lt, slice_index, List, [], ◌∷◌, ◌++◌, length, take, drop, Option, None, Some, refl, sym, ap, ap₂, ◌∙◌, subst, arith, if◌then◌else◌, append_assoc, length-append, length-take-le, take-append-drop, ltb-false}
use Rattle.std.proofs.Math.Seq.{take-add, drop-append_seam, drop-append-add}
use Rattle.std.proofs.lemmas.Bool.{and_parts, both_ways, eq-eqb, eqb-true, eqb-false, leb-true, ltb-true, le-leb}
use Rattle.std.proofs.lemmas.List.{drop-drop}
use Rattle.std.specs.Prelude.{codes}
use Rattle.std.specs.List.{list_all}
use Rattle.std.specs.Char.{to_ascii_lowercase}
use Rattle.vb_text.specs.Units.{most_units}
use Rattle.vb_syntax.specs.{Texts.symbol_text, declared.{keyword.Keyword.Keyword, symbol.Symbol.Symbol, tokens.{IntegerType.{IntegerType, TheVariants.{Integer, Long}}, IntegerLiteral.IntegerLiteral}}}
use Rattle.vb_syntax.specs.declared.symbol.Symbol.TheVariants as sign
use Rattle.vb_lexer.specs.{declared.{piece.{Piece.Piece, Found.Found, Before.Before, Base.{Base, TheVariants.{Decimal, Hexadecimal, Octal}}}, characters.Class.Class}, Characters.{Character, is_char, is_name_part, is_readable, run_len, class_of, is_remark, is_space}, Tables.{keywords, symbols}, Tokens.{char_at, found, fault, longest_name, name_len, lowered, is_rem, keyword_in, keyword_or_name, word_of, connected_of, begins_name, bracketed_of, is_digit, digits_len, base_number, value_from, literal, literal_of, decimal_bound, bits_bound, bits_value, bits_literal, suffixes, suffix_in, suffix_type, suffix_len, starts, integer_or_fault, number_of, number_at, symbol_in, symbol_or_fault, symbol_at, ampersand_at, content_len, char_literal, text_literal, quoted_or_fault, quoted_at, units_of}, Pieces.{Part, Falls, ends_line, is_rest, behind_space, is_word_at, space_of, region_start, region_named, region_start_of, region_end_of, region_at, piece_of, piece_at}, Lines.is_token, Longest.{AreWord, IsIdentifier, IsReserved, IsOneDigit, IsInteger, IsQuoted, IsSuffix, Spells, IsLongest, base_mark}}
use Rattle.vb_lexer.specs.declared.piece.Piece.TheVariants as piece
use Rattle.vb_lexer.specs.declared.piece.Fault.TheVariants as broken
use Rattle.vb_lexer.specs.declared.characters.Class.TheVariants as class
use Rattle.vb_lexer.proofs.{Runs.name_readable, SymbolTables.{symbol_stands, symbol_longest}, TokenBounds.{run_le, run_some, name_part_of}, Bounds.piece_bounds, Spelling.{run_covers, run_passes, word_at_front, word_starts, word_len, integer_covers, suffix_at_front, char_code, content_covers, IsContent, content_is}, Beginnings.{first_class, sort_begins, begins_sort, reserved_first, not_reserved, keyword_found, base_class, number_begins, number_text, quote_code, bracket_code}}

-- no token of more than n characters stands at the front
abbrev NoLonger : Bool → List Character → ℕ → Type 0
NoLonger dot text n = (other : Piece) (front back : List Character) → text ≡ front ++ back → Spells dot other front → length front ≤ n

-- what was found is spelled by its characters, and no longer token stands there
record Longest (dot : Bool) (text : List Character) (f : Found) : Type 0 where
  spelled : Spells dot f.piece (take f.length text)
  longest : NoLonger dot text f.length

abbrev IfToken : Bool → List Character → Found → Type 0
IfToken dot text f = is_token f.piece ≡ true → Longest dot text f

token_if : (b : Bool) (dot : Bool) (text : List Character) (x y : Found) → (b ≡ true → IfToken dot text x) → (b ≡ false → IfToken dot text y) → IfToken dot text (if b then x else y)
token_if true dot text x y f g = f refl
token_if false dot text x y f g = g refl

-- THE FRONT OF A TEXT

take_first : (n : ℕ) (text : List Character) → 0 < n → char_at (take n text) 0 ≡ char_at text 0
take_first zero text some = absurd (omega (arith, some))
take_first (suc n) [] some = refl
take_first (suc n) (c ∷ cs) some = refl

take_next : (n x : ℕ) (text : List Character) → is_char (char_at text n) x ≡ true → take (suc n) text ≡ take n text ++ (Some x ∷ [])
take_next n x [] e = cc
take_next zero x (c ∷ cs) e = ap (λ d. d ∷ []) (char_code c x e)
take_next (suc n) x (c ∷ cs) e = ap (λ l. c ∷ l) (take_next n x cs e)

pub char_behind : (text : List Character) (i : ℕ) → char_at text (suc i) ≡ char_at (drop 1 text) i
char_behind [] i = refl
char_behind (c ∷ cs) i = refl

-- a text that begins with the code
front_is : (text : List Character) (x : ℕ) → char_at text 0 ≡ Some x → text ≡ Some x ∷ drop 1 text
front_is [] x e = cc
front_is (c ∷ cs) x e = ap (λ d. d ∷ cs) e

-- WORDS

pub word_covers : (text front back : List Character) → text ≡ front ++ back → IsIdentifier front → length front ≤ name_len text
word_covers text front back e id =
    subst (λ l. length front ≤ run_len is_name_part l) (sym e) (run_covers is_name_part front back id.1)

letter_by : (dot : Bool) (other : Piece) (text front back : List Character) → sort_begins other class.Letter ≡ true → text ≡ front ++ back → Spells dot other front → length front ≤ name_len text
letter_by dot piece.Name text front back b e s = word_covers text front back e s.0
letter_by dot (piece.Keyword k) text front back b e s = word_covers text front back e s.0
letter_by dot _ text front back b e s = cc

connector_by : (dot : Bool) (other : Piece) (text front back : List Character) → sort_begins other class.Connector ≡ true → text ≡ front ++ back → Spells dot other front → length front ≤ name_len text
connector_by dot piece.Name text front back b e s = word_covers text front back e s.0
connector_by dot (piece.Keyword k) text front back b e s = word_covers text front back e s.0
connector_by dot _ text front back b e s = cc

-- the run of a name is an identifier
identifier_is : (text : List Character) (k : Class) → first_class text ≡ k → begins_name k (name_len text) ≡ true → 0 < name_len text → nat_lt longest_name (name_len text) ≡ false → IsIdentifier (take (name_len text) text)
identifier_is text k was begins some short =
    let n = name_len text in
    let count : length (take n text) ≡ n = length-take-le n text (run_le is_name_part text) in
    let first : class_of (char_at (take n text) 0) ≡ k = ap class_of (take_first n text some) ∙ was in
    (ap₂ (λ c m. begins_name c m) first count ∙ begins, run_passes is_name_part text, omega (arith, count, ltb-false longest_name n short))

keyword_token : (o : Option Keyword) (dot : Bool) (text : List Character) (n : ℕ) → keyword_in keywords (lowered (take n text)) ≡ o → is_readable (take n text) ≡ true → IsIdentifier (take n text) → is_rem (take n text) ≡ false → dot ≡ false → NoLonger dot text n → Longest dot text (found (keyword_or_name o) n)
keyword_token None dot text n e readable id r d longest = record { spelled = (id, λ f. not_reserved (take n text) r e); longest = longest }
keyword_token (Some k) dot text n e readable id r d longest =
    record { spelled = (id, (readable, keyword_found keywords (lowered (take n text)) k e), d); longest = longest }

word_token : (dot : Bool) (text : List Character) → 0 < length text → first_class text ≡ class.Letter → IfToken dot text (word_of dot (name_len text) text)
unfolding word_of
word_token dot text some was =
    let n = name_len text in
    let longest : NoLonger dot text n = λ other front back e s. letter_by dot other text front back (begins_sort dot other text front back class.Letter was e s) e s in
    let begins : 0 < n = run_some is_name_part text some (name_part_of (char_at text 0) was) in
    token_if (nat_lt longest_name n) dot text (fault broken.LongName text) _ (λ l t. cc)
    (λ l.
    let id = identifier_is text class.Letter was refl begins l in
    token_if dot dot text (found piece.Name n) _ (λ d t. record { spelled = (id, λ f. absurd (both_ways dot f d)); longest = longest })
    (λ d. token_if (is_rem (take n text)) dot text (found piece.Comment (n + run_len is_remark (drop n text))) _ (λ r t. cc)
    (λ r t. keyword_token (keyword_in keywords (lowered (take n text))) dot text n refl (name_readable text) id r d longest)))

connected_token : (dot : Bool) (text : List Character) → first_class text ≡ class.Connector → IfToken dot text (connected_of (name_len text) text)
unfolding connected_of
connected_token dot text was =
    let n = name_len text in
    let longest : NoLonger dot text n = λ other front back e s. connector_by dot other text front back (begins_sort dot other text front back class.Connector was e s) e s in
    token_if (nat_lt n 2) dot text _ _ (λ l t. cc)
    (λ two. token_if (nat_lt longest_name n) dot text (fault broken.LongName text) _ (λ l t. cc)
    (λ l t.
    let many = ltb-false n 2 two in
    let id = identifier_is text class.Connector was (le-leb 2 n many) (omega (arith, many)) l in
    let free : IsReserved (take n text) → ⊥ = λ r.
    let never : class.Letter ≡ class.Connector = sym (reserved_first (take n text) r) ∙ ap class_of (take_first n text (omega (arith, many))) ∙ was in cc in
    record { spelled = (id, λ f. free); longest = longest }))

-- NAMES BETWEEN BRACKETS

name_between : (text name back : List Character) → text ≡ (Some 91 ∷ (name ++ (Some 93 ∷ []))) ++ back → IsIdentifier name → length name ≤ name_len (drop 1 text)
name_between text name back e id =
    let rest : drop 1 text ≡ name ++ (Some 93 ∷ back) = ap (λ l. drop 1 l) e ∙ append_assoc name (Some 93 ∷ []) back in
    word_covers (drop 1 text) name (Some 93 ∷ back) rest id

bracket_by : (dot : Bool) (other : Piece) (text front back : List Character) → sort_begins other class.Bracket ≡ true → text ≡ front ++ back → Spells dot other front → length front ≤ name_len (drop 1 text) + 2
bracket_by dot piece.EscapedName text front back b e s =
    let between = name_between text s.0 back (e ∙ ap (λ l. l ++ back) s.2) s.1 in
    omega (arith, between, ap (λ l. length l) s.2, length-append s.0 (Some 93 ∷ []))
bracket_by dot _ text front back b e s = cc

not_false : (b : Bool) → not b ≡ false → b ≡ true
not_false true e = refl
not_false false e = cc

begins_some : (k : Class) (text : List Character) → class_of (char_at text 0) ≡ k → begins_name k (name_len text) ≡ true → 0 < length text → 0 < name_len text
begins_some class.Connector text was e some = omega (arith, leb-true 2 (name_len text) e)
begins_some class.Letter text was e some = run_some is_name_part text some (name_part_of (char_at text 0) was)
begins_some _ text was e some = absurd (cc)

some_there : (k : Class) (n : ℕ) (text : List Character) → class_of (char_at text 0) ≡ k → begins_name k n ≡ true → 0 < length text
some_there k n [] was e = let none : begins_name class.Unreadable n ≡ true = ap (λ c. begins_name c n) was ∙ e in absurd (cc)
some_there k n (c ∷ cs) was e = omega arith

bracketed_stands : (text : List Character) (n : ℕ) → char_at text 0 ≡ Some 91 → is_char (char_at text (n + 1)) 93 ≡ true → take (n + 2) text ≡ Some 91 ∷ (take n (drop 1 text) ++ (Some 93 ∷ []))
bracketed_stands text n first closed =
    let place : n + 2 ≡ suc (suc n) = omega arith in
    let next : n + 1 ≡ suc n = omega arith in
    let after : is_char (char_at (drop 1 text) n) 93 ≡ true = ap (λ c. is_char c 93) (sym (char_behind text n)) ∙ ap (λ k. is_char (char_at text k) 93) (sym next) ∙ closed in
    ap (λ k. take k text) place ∙ ap (λ l. take (suc (suc n)) l) (front_is text 91 first) ∙ ap (λ l. Some 91 ∷ l) (take_next n 93 (drop 1 text) after)

bracketed_token : (dot : Bool) (text : List Character) → first_class text ≡ class.Bracket → IfToken dot text (bracketed_of (name_len (drop 1 text)) text)
unfolding bracketed_of
bracketed_token dot text was =
    let n = name_len (drop 1 text) in
    let second : class_of (char_at text 1) ≡ class_of (char_at (drop 1 text) 0) = ap class_of (char_behind text 0) in
    token_if (not (begins_name (class_of (char_at text 1)) n && is_char (char_at text (n + 1)) 93)) dot text (fault broken.BracketedName text) _ (λ b t. cc)
    (λ b. token_if (nat_lt longest_name n) dot text (fault broken.LongName text) _ (λ l t. cc)
    (λ l t.
    let both = and_parts (begins_name (class_of (char_at text 1)) n) (is_char (char_at text (n + 1)) 93) (not_false _ b) in
    let begins : begins_name (class_of (char_at (drop 1 text) 0)) n ≡ true = ap (λ k. begins_name k n) (sym second) ∙ both.0 in
    let id = identifier_is (drop 1 text) (class_of (char_at (drop 1 text) 0)) refl begins (begins_some (class_of (char_at (drop 1 text) 0)) (drop 1 text) refl begins (some_there (class_of (char_at (drop 1 text) 0)) n (drop 1 text) refl begins)) l in
    record {
      spelled = (take n (drop 1 text), id, bracketed_stands text n (bracket_code (char_at text 0) was) both.1);
      longest = λ other front back e s. bracket_by dot other text front back (begins_sort dot other text front back class.Bracket was e s) e s;
    }))

-- NUMBERS

count_by : (m k ds n : ℕ) (run len : List Character → ℕ) (text rest : List Character) → k ≡ m → n ≡ k + ds → drop m text ≡ rest → ds ≤ run rest + len (drop (run rest) rest) → n ≤ m + run (drop m text) + len (drop (m + run (drop m text)) text)
count_by m k ds n run len text rest marks sum is covers =
    let there : ds ≤ run (drop m text) + len (drop (run (drop m text)) (drop m text)) = subst (λ l. ds ≤ run l + len (drop (run l) l)) (sym is) covers in
    omega (arith, there, ap len (drop-drop (run (drop m text)) m text), marks, sum)

number_by : (base : Base) (kind : Option IntegerType) (mark digits suffix text front back : List Character) → AreWord (base_mark base) mark → list_all (is_digit base) digits ≡ true → IsSuffix kind suffix → front ≡ mark ++ (digits ++ suffix) → text ≡ front ++ back → length front ≤ length (base_mark base) + digits_len base (length (base_mark base)) text + suffix_len (suffix_in suffixes (drop (length (base_mark base) + digits_len base (length (base_mark base)) text) text))
number_by base kind mark digits suffix text front back m all is stands e =
    let marks = word_len (base_mark base) mark m in
    let whole : text ≡ mark ++ (digits ++ (suffix ++ back)) = e ∙ ap (λ l. l ++ back) stands ∙ number_text mark digits suffix back in
    let after : drop (length (base_mark base)) text ≡ digits ++ (suffix ++ back) =
    ap (λ k. drop k text) (sym marks) ∙ ap (λ l. drop (length mark) l) whole ∙ drop-append_seam mark (digits ++ (suffix ++ back)) in
    let sum : length front ≡ length mark + (length digits + length suffix) = ap (λ l. length l) stands ∙ length-append mark (digits ++ suffix) ∙ ap (λ k. length mark + k) (length-append digits suffix) in
    count_by (length (base_mark base)) (length mark) (length digits + length suffix) (length front) (λ l. run_len (is_digit base) l) (λ l. suffix_len (suffix_in suffixes l)) text (digits ++ (suffix ++ back)) marks sum after (integer_covers base kind digits suffix back all is)

-- how many characters the number of the base at the front has
abbrev number_len : Base → List Character → ℕ
number_len base text = length (base_mark base) + digits_len base (length (base_mark base)) text + suffix_len (suffix_in suffixes (drop (length (base_mark base) + digits_len base (length (base_mark base)) text) text))

number_covers : (base : Base) (text front back : List Character) (l : IntegerLiteral) (s : IsInteger l front) → s.base ≡ base → text ≡ front ++ back → length front ≤ number_len base text
number_covers base text front back l s same e =
    number_by base s.kind s.mark s.digits s.suffix text front back (subst (λ b. AreWord (base_mark b) s.mark) same s.marked) (subst (λ b. list_all (is_digit b) s.digits ≡ true) same s.are_digits) s.suffixed s.stands e

number_text_is : (text front back : List Character) (l : IntegerLiteral) (s : IsInteger l front) → text ≡ front ++ back → text ≡ s.mark ++ (s.digits ++ (s.suffix ++ back))
number_text_is text front back l s e = e ∙ ap (λ f. f ++ back) s.stands ∙ number_text s.mark s.digits s.suffix back

pub number_class : (text front back : List Character) (l : IntegerLiteral) (s : IsInteger l front) → text ≡ front ++ back → first_class text ≡ base_class s.base
number_class text front back l s e =
    ap (λ t. first_class t) (number_text_is text front back l s e) ∙ number_begins s.base s.mark s.digits (s.suffix ++ back) s.marked s.some s.are_digits

pub number_starts : (text front back : List Character) (l : IntegerLiteral) (s : IsInteger l front) → text ≡ front ++ back → starts (base_mark s.base) text ≡ true
number_starts text front back l s e =
    ap (λ t. starts (base_mark s.base) t) (number_text_is text front back l s e) ∙ word_starts (base_mark s.base) s.mark (s.digits ++ (s.suffix ++ back)) s.marked

digit_if : (b : Bool) (x y : IntegerLiteral) (rest : Option IntegerLiteral) (d : Bool) → x.is_digit ≡ d → (rest ≡ Some y → y.is_digit ≡ d) → (if b then Some x else rest) ≡ Some y → y.is_digit ≡ d
digit_if true x y rest d e f is = cc
digit_if false x y rest d e f is = f is

-- whether a literal is written as one decimal digit
abbrev is_one : Base → Option IntegerType → ℕ → Bool
is_one Decimal None n = n == 1
is_one _ _ n = false

bits_digit : (kind : Option IntegerType) (v : ℕ) (l : IntegerLiteral) → bits_literal kind v ≡ Some l → l.is_digit ≡ false
bits_digit (Some t) v l = digit_if (nat_lt v (bits_bound t)) (literal t (bits_value t v) false) l None false refl (λ e. cc)
bits_digit None v l =
    digit_if (nat_lt v (bits_bound Integer)) (literal Integer (bits_value Integer v) false) l _ false refl
    (digit_if (nat_lt v (bits_bound Long)) (literal Long (bits_value Long v) false) l None false refl (λ e. cc))

digit_is : (base : Base) (kind : Option IntegerType) (n v : ℕ) (l : IntegerLiteral) → literal_of base kind n v ≡ Some l → l.is_digit ≡ is_one base kind n
unfolding literal_of
digit_is Decimal (Some t) n v l = digit_if (nat_lt v (decimal_bound t)) (literal t (pos v) false) l None false refl (λ e. cc)
digit_is Decimal None n v l =
    digit_if (nat_lt v (decimal_bound Integer)) (literal Integer (pos v) (n == 1)) l _ (n == 1) refl
    (digit_if (nat_lt v (decimal_bound Long)) (literal Long (pos v) (n == 1)) l None (n == 1) refl (λ e. cc))
digit_is Hexadecimal kind n v l = bits_digit kind v l
digit_is Octal kind n v l = bits_digit kind v l

one_is : (base : Base) (kind : Option IntegerType) (n : ℕ) → is_one base kind n ≡ true → (base ≡ Decimal) × (kind ≡ None) × (n ≡ 1)
one_is Decimal None n e = (refl, refl, eqb-true n 1 e)
one_is Decimal (Some t) n e = cc
one_is Hexadecimal kind n e = cc
one_is Octal kind n e = cc

is_one_of : (base : Base) (kind : Option IntegerType) (n : ℕ) → (base ≡ Decimal) × (kind ≡ None) × (n ≡ 1) → is_one base kind n ≡ true
is_one_of Decimal None n e = eq-eqb n 1 e.2
is_one_of Decimal (Some t) n e = cc
is_one_of Hexadecimal kind n e = cc
is_one_of Octal kind n e = cc

one_digit : (base : Base) (kind : Option IntegerType) (n v : ℕ) (digits : List Character) (l : IntegerLiteral) → length digits ≡ n → literal_of base kind n v ≡ Some l → ((l.is_digit ≡ true) ↔ IsOneDigit base kind digits)
one_digit base kind n v digits l few is =
    let same = digit_is base kind n v l is in
    (λ e. let one = one_is base kind n (sym same ∙ e) in (one.0, one.1, few ∙ one.2), λ one. same ∙ is_one_of base kind n (one.0, one.1, sym few ∙ one.2))

-- the number of the base stands there
number_spelled : (base : Base) (m : ℕ) (text : List Character) (l : IntegerLiteral) → AreWord (base_mark base) (take m text) → (digits_len base m text ≡ 0 → ⊥) → literal_of base (suffix_type (suffix_in suffixes (drop (m + digits_len base m text) text))) (digits_len base m text) (value_from (base_number base) 0 (take (digits_len base m text) (drop m text))) ≡ Some l → IsInteger l (take (m + digits_len base m text + suffix_len (suffix_in suffixes (drop (m + digits_len base m text) text))) text)
number_spelled base m text l marked some value =
    let n = digits_len base m text in
    let after = drop (m + n) text in
    let few : length (take n (drop m text)) ≡ n = length-take-le n (drop m text) (run_le (is_digit base) (drop m text)) in
    record {
      base = base;
      mark = take m text;
      digits = take n (drop m text);
      suffix = take (suffix_len (suffix_in suffixes after)) after;
      kind = suffix_type (suffix_in suffixes after);
      stands = take-add (m + n) (suffix_len (suffix_in suffixes after)) text ∙ ap (λ f. f ++ take (suffix_len (suffix_in suffixes after)) after) (take-add m n text) ∙ append_assoc (take m text) (take n (drop m text)) (take (suffix_len (suffix_in suffixes after)) after);
      marked = marked;
      some = omega (arith, few, some);
      are_digits = run_passes (is_digit base) (drop m text);
      suffixed = suffix_at_front after;
      value = ap (λ k. literal_of base (suffix_type (suffix_in suffixes after)) k (value_from (base_number base) 0 (take n (drop m text)))) few ∙ value;
      digit = one_digit base (suffix_type (suffix_in suffixes after)) n (value_from (base_number base) 0 (take n (drop m text))) (take n (drop m text)) l few value;
    }

integer_token : (o : Option IntegerLiteral) (dot : Bool) (text : List Character) (n : ℕ) → ((l : IntegerLiteral) → o ≡ Some l → IsInteger l (take n text)) → NoLonger dot text n → IfToken dot text (integer_or_fault o n text)
integer_token None dot text n f longest = λ t. cc
integer_token (Some l) dot text n f longest = λ t. record { spelled = f l refl; longest = longest }

number_of_token : (dot : Bool) (base : Base) (m : ℕ) (text : List Character) → AreWord (base_mark base) (take m text) → ((digits_len base m text ≡ 0 → ⊥) → NoLonger dot text (m + digits_len base m text + suffix_len (suffix_in suffixes (drop (m + digits_len base m text) text)))) → IfToken dot text (number_at base m text)
unfolding number_of
number_of_token dot base m text marked longest =
    token_if (digits_len base m text == 0) dot text (fault broken.NumberLiteral text) _ (λ e t. cc)
    (λ e.
    let some = eqb-false (digits_len base m text) 0 e in
    integer_token (literal_of base (suffix_type (suffix_in suffixes (drop (m + digits_len base m text) text))) (digits_len base m text) (value_from (base_number base) 0 (take (digits_len base m text) (drop m text)))) dot text _ (λ l v. number_spelled base m text l marked some v) (longest some))

is_decimal : (base : Base) → base_class base ≡ class.Digit → base ≡ Decimal
is_decimal Decimal e = refl
is_decimal Hexadecimal e = cc
is_decimal Octal e = cc

digit_by : (dot : Bool) (other : Piece) (text front back : List Character) → first_class text ≡ class.Digit → sort_begins other class.Digit ≡ true → text ≡ front ++ back → Spells dot other front → length front ≤ number_len Decimal text
digit_by dot (piece.Integer l) text front back was b e s =
    number_covers Decimal text front back l s (is_decimal s.base (sym (number_class text front back l s e) ∙ was)) e
digit_by dot _ text front back was b e s = cc

digit_token : (dot : Bool) (text : List Character) → first_class text ≡ class.Digit → IfToken dot text (number_at Decimal 0 text)
digit_token dot text was =
    number_of_token dot Decimal 0 text (refl, refl) (λ some other front back e s. digit_by dot other text front back was (begins_sort dot other text front back class.Digit was e s) e s)

-- SYMBOLS

symbol_covers : (text front back : List Character) (s o : Symbol) → symbol_in symbols text ≡ Some s → text ≡ front ++ back → AreWord (symbol_text o) front → length front ≤ length (symbol_text s)
symbol_covers text front back s o is e h =
    let stands : starts (symbol_text o) text ≡ true = ap (λ l. starts (symbol_text o) l) e ∙ word_starts (symbol_text o) front back h in
    omega (arith, word_len (symbol_text o) front h, symbol_longest text s o is stands)

symbol_found : (o : Option Symbol) (dot : Bool) (text : List Character) → symbol_in symbols text ≡ o → ((s : Symbol) → symbol_in symbols text ≡ Some s → NoLonger dot text (length (symbol_text s))) → IfToken dot text (symbol_or_fault o text)
symbol_found None dot text e longest = λ t. cc
symbol_found (Some s) dot text e longest = λ t. record { spelled = word_at_front (symbol_text s) text (symbol_stands text s e); longest = longest s e }

other_by : (dot : Bool) (other : Piece) (text front back : List Character) (s : Symbol) → symbol_in symbols text ≡ Some s → sort_begins other class.Other ≡ true → text ≡ front ++ back → Spells dot other front → length front ≤ length (symbol_text s)
other_by dot (piece.Symbol o) text front back s is b e h = symbol_covers text front back s o is e h
other_by dot _ text front back s is b e h = cc

other_token : (dot : Bool) (text : List Character) → first_class text ≡ class.Other → IfToken dot text (symbol_at text)
other_token dot text was =
    symbol_found (symbol_in symbols text) dot text refl (λ s is other front back e h. other_by dot other text front back s is (begins_sort dot other text front back class.Other was e h) e h)

-- NUMBERS BEHIND AN AMPERSAND

next_apart : (text : List Character) → starts (codes "h") text ≡ true → starts (codes "o") text ≡ true → ⊥
next_apart [] h o = cc
next_apart (None ∷ cs) h o = cc
next_apart (Some c ∷ cs) h o =
    let first = eqb-true (to_ascii_lowercase c) 104 (and_parts (to_ascii_lowercase c == 104) true h).0 in
    let other = eqb-true (to_ascii_lowercase c) 111 (and_parts (to_ascii_lowercase c == 111) true o).0 in
    omega arith

marks_apart : (text : List Character) → starts (codes "&h") text ≡ true → starts (codes "&o") text ≡ true → ⊥
marks_apart [] h o = cc
marks_apart (None ∷ cs) h o = cc
marks_apart (Some c ∷ cs) h o =
    next_apart cs (and_parts (to_ascii_lowercase c == 38) (starts (codes "h") cs) h).1 (and_parts (to_ascii_lowercase c == 38) (starts (codes "o") cs) o).1

symbol_short : (s : Symbol) → length (symbol_text s) ≤ 3
symbol_short sign.Plus = omega arith
symbol_short _ = omega arith

-- the base of a number behind an ampersand, where a mark stands or none
is_hexadecimal : (base : Base) (text : List Character) → base_class base ≡ class.Ampersand → starts (base_mark base) text ≡ true → starts (codes "&h") text ≡ true → base ≡ Hexadecimal
is_hexadecimal Decimal text e m h = cc
is_hexadecimal Hexadecimal text e m h = refl
is_hexadecimal Octal text e m h = absurd (marks_apart text h m)

is_octal : (base : Base) (text : List Character) → base_class base ≡ class.Ampersand → starts (base_mark base) text ≡ true → starts (codes "&o") text ≡ true → base ≡ Octal
is_octal Decimal text e m o = cc
is_octal Hexadecimal text e m o = absurd (marks_apart text m o)
is_octal Octal text e m o = refl

pub is_neither : (base : Base) (text : List Character) → base_class base ≡ class.Ampersand → starts (base_mark base) text ≡ true → starts (codes "&h") text ≡ false → starts (codes "&o") text ≡ false → ⊥
is_neither Decimal text e m h o = cc
is_neither Hexadecimal text e m h o = both_ways (starts (codes "&h") text) h m
is_neither Octal text e m h o = both_ways (starts (codes "&o") text) o m

-- of a text that begins with the mark of the base no token is longer than the number
marked_by : (dot : Bool) (other : Piece) (base : Base) (text front back : List Character) → length (base_mark base) ≡ 2 → (digits_len base (length (base_mark base)) text ≡ 0 → ⊥) → ((b : Base) → base_class b ≡ class.Ampersand → starts (base_mark b) text ≡ true → b ≡ base) → first_class text ≡ class.Ampersand → sort_begins other class.Ampersand ≡ true → text ≡ front ++ back → Spells dot other front → length front ≤ number_len base text
marked_by dot (piece.Integer l) base text front back two some is was b e s =
    number_covers base text front back l s (is s.base (sym (number_class text front back l s e) ∙ was) (number_starts text front back l s e)) e
marked_by dot (piece.Symbol x) base text front back two some is was b e s =
    omega (arith, word_len (symbol_text x) front s, symbol_short x, two, some)
marked_by dot _ base text front back two some is was b e s = cc

unmarked_by : (dot : Bool) (other : Piece) (text front back : List Character) (s : Symbol) → symbol_in symbols text ≡ Some s → starts (codes "&h") text ≡ false → starts (codes "&o") text ≡ false → first_class text ≡ class.Ampersand → sort_begins other class.Ampersand ≡ true → text ≡ front ++ back → Spells dot other front → length front ≤ length (symbol_text s)
unmarked_by dot (piece.Integer l) text front back s is h o was b e t =
    absurd (is_neither t.base text (sym (number_class text front back l t e) ∙ was) (number_starts text front back l t e) h o)
unmarked_by dot (piece.Symbol x) text front back s is h o was b e t = symbol_covers text front back s x is e t
unmarked_by dot _ text front back s is h o was b e t = cc

ampersand_token : (dot : Bool) (text : List Character) → first_class text ≡ class.Ampersand → IfToken dot text (ampersand_at text)
unfolding ampersand_at
ampersand_token dot text was =
    token_if (starts (codes "&h") text) dot text (number_at Hexadecimal 2 text) _
    (λ h. number_of_token dot Hexadecimal 2 text (word_at_front (codes "&h") text h) (λ some other front back e s. marked_by dot other Hexadecimal text front back refl some (λ b k m. is_hexadecimal b text k m h) was (begins_sort dot other text front back class.Ampersand was e s) e s))
    (λ h. token_if (starts (codes "&o") text) dot text (number_at Octal 2 text) _
    (λ o. number_of_token dot Octal 2 text (word_at_front (codes "&o") text o) (λ some other front back e s. marked_by dot other Octal text front back refl some (λ b k m. is_octal b text k m o) was (begins_sort dot other text front back class.Ampersand was e s) e s))
    (λ o. symbol_found (symbol_in symbols text) dot text refl (λ x is other front back e s. unmarked_by dot other text front back x is h o was (begins_sort dot other text front back class.Ampersand was e s) e s)))

-- LITERALS

quoted_text : (text content end front back : List Character) → text ≡ front ++ back → front ≡ Some 34 ∷ (content ++ (Some 34 ∷ end)) → text ≡ Some 34 ∷ (content ++ (Some 34 ∷ (end ++ back)))
quoted_text text content end front back e stands = e ∙ ap (λ f. f ++ back) stands ∙ ap (λ l. Some 34 ∷ l) (append_assoc content (Some 34 ∷ end) back)

quoted_covers : (text content end front back : List Character) (m : ℕ) → content_len (drop 1 text) ≡ Some m → text ≡ front ++ back → IsQuoted content end front → (length content ≤ m) × (length front ≡ length content + 2 + length end)
quoted_covers text content end front back m len e q =
    let rest : drop 1 text ≡ content ++ (Some 34 ∷ (end ++ back)) = ap (λ l. drop 1 l) (quoted_text text content end front back e q.stands) in
    (content_covers content (end ++ back) m q.between (ap content_len (sym rest) ∙ len), omega (arith, ap (λ l. length l) q.stands, length-append content (Some 34 ∷ end)))

-- behind a literal of m characters
behind_literal : (text content end front back : List Character) (m : ℕ) → length content ≡ m → text ≡ front ++ back → front ≡ Some 34 ∷ (content ++ (Some 34 ∷ end)) → drop (m + 2) text ≡ end ++ back
behind_literal text content end front back m long e stands =
    let place : m + 2 ≡ length (Some 34 ∷ content) + 1 = omega (arith, long) in
    ap (λ k. drop k text) place ∙ ap (λ l. drop (length (Some 34 ∷ content) + 1) l) (quoted_text text content end front back e stands)
    ∙ drop-append-add (Some 34 ∷ content) (Some 34 ∷ (end ++ back)) 1

char_by : (dot : Bool) (other : Piece) (text front back : List Character) (m : ℕ) → content_len (drop 1 text) ≡ Some m → sort_begins other class.Quote ≡ true → text ≡ front ++ back → Spells dot other front → length front ≤ m + 3
char_by dot piece.Text text front back m len b e s =
    let q = quoted_covers text s.0 [] front back m len e s.1 in omega (arith, q.0, q.1)
char_by dot (piece.Char u) text front back m len b e s =
    let q = quoted_covers text s.0 s.1 front back m len e s.2 in omega (arith, q.0, q.1, word_len (codes "c") s.1 s.3)
char_by dot _ text front back m len b e s = cc

unmarked_char : (below : Bool) (text content end front back : List Character) (m : ℕ) → nat_lt (length content) m ≡ below → content_len (drop 1 text) ≡ Some m → starts (codes "c") (drop (m + 2) text) ≡ false → text ≡ front ++ back → IsQuoted content end front → AreWord (codes "c") end → length front ≤ m + 2
unmarked_char true text content end front back m below len free e q marked =
    let c = quoted_covers text content end front back m len e q in
    omega (arith, c.1, ltb-true (length content) m below, word_len (codes "c") end marked)
unmarked_char false text content end front back m below len free e q marked =
    let c = quoted_covers text content end front back m len e q in
    let same : length content ≡ m = omega (arith, c.0, ltb-false (length content) m below) in
    absurd (both_ways (starts (codes "c") (drop (m + 2) text)) free (ap (λ l. starts (codes "c") l) (behind_literal text content end front back m same e q.stands) ∙ word_starts (codes "c") end back marked))

text_by : (dot : Bool) (other : Piece) (text front back : List Character) (m : ℕ) → content_len (drop 1 text) ≡ Some m → starts (codes "c") (drop (m + 2) text) ≡ false → sort_begins other class.Quote ≡ true → text ≡ front ++ back → Spells dot other front → length front ≤ m + 2
text_by dot piece.Text text front back m len free b e s =
    let q = quoted_covers text s.0 [] front back m len e s.1 in omega (arith, q.0, q.1)
text_by dot (piece.Char u) text front back m len free b e s =
    unmarked_char (nat_lt (length s.0) m) text s.0 s.1 front back m refl len free e s.2 s.3
text_by dot _ text front back m len free b e s = cc

literal_stands : (text : List Character) (m : ℕ) → char_at text 0 ≡ Some 34 → IsContent (drop 1 text) m → take (m + 2) text ≡ Some 34 ∷ (take m (drop 1 text) ++ (Some 34 ∷ []))
literal_stands text m first is =
    let place : m + 2 ≡ suc (suc m) = omega arith in
    ap (λ k. take k text) place ∙ ap (λ l. take (suc (suc m)) l) (front_is text 34 first) ∙ ap (λ l. Some 34 ∷ l) is.closed

marked_stands : (text : List Character) (m : ℕ) → char_at text 0 ≡ Some 34 → IsContent (drop 1 text) m → take (m + 3) text ≡ Some 34 ∷ (take m (drop 1 text) ++ (Some 34 ∷ take 1 (drop (m + 2) text)))
marked_stands text m first is =
    let place : m + 3 ≡ m + 2 + 1 = omega arith in
    ap (λ k. take k text) place ∙ take-add (m + 2) 1 text ∙ ap (λ l. l ++ take 1 (drop (m + 2) text)) (literal_stands text m first is)
    ∙ ap (λ l. Some 34 ∷ l) (append_assoc (take m (drop 1 text)) (Some 34 ∷ []) (take 1 (drop (m + 2) text)))

one_unit : (units : List ℕ) → length units ≡ 1 → units ≡ slice_index units 0 ∷ []
one_unit [] e = absurd (omega (arith, e))
one_unit (u ∷ []) e = refl
one_unit (u ∷ v ∷ us) e = absurd (omega (arith, e))

char_token : (dot : Bool) (m : ℕ) (text : List Character) → first_class text ≡ class.Quote → content_len (drop 1 text) ≡ Some m → starts (codes "c") (drop (m + 2) text) ≡ true → IfToken dot text (char_literal m (units_of (take m (drop 1 text))) text)
unfolding char_literal
char_token dot m text was len marked =
    let units = units_of (take m (drop 1 text)) in
    let is = content_is (drop 1 text) m len in
    token_if (nat_lt 1 (length units)) dot text (fault broken.TextLiteral text) _ (λ e t. cc)
    (λ e. token_if (not (is_readable (take m (drop 1 text)))) dot text (fault broken.NotUtf8 text) _ (λ r t. cc)
    (λ r. token_if (length units == 1) dot text (found (piece.Char (slice_index units 0)) (m + 3)) (fault broken.TextLiteral text)
    (λ u t. record {
      spelled = (take m (drop 1 text), take 1 (drop (m + 2) text), record { between = is.between; readable = not_false _ r; stands = marked_stands text m (quote_code (char_at text 0) was) is }, word_at_front (codes "c") (drop (m + 2) text) marked, one_unit units (eqb-true (length units) 1 u));
      longest = λ other front back e s. char_by dot other text front back m len (begins_sort dot other text front back class.Quote was e s) e s;
    })
    (λ u t. cc)))

text_token : (dot : Bool) (m : ℕ) (text : List Character) → first_class text ≡ class.Quote → content_len (drop 1 text) ≡ Some m → starts (codes "c") (drop (m + 2) text) ≡ false → IfToken dot text (text_literal m (units_of (take m (drop 1 text))) text)
unfolding text_literal
text_token dot m text was len free =
    let units = units_of (take m (drop 1 text)) in
    let is = content_is (drop 1 text) m len in
    token_if (nat_lt most_units (length units)) dot text (fault broken.TextLiteral text) _ (λ e t. cc)
    (λ e. token_if (not (is_readable (take m (drop 1 text)))) dot text (fault broken.NotUtf8 text) _ (λ r t. cc)
    (λ r t. record {
      spelled = (take m (drop 1 text), record { between = is.between; readable = not_false _ r; stands = literal_stands text m (quote_code (char_at text 0) was) is }, ltb-false most_units (length units) e);
      longest = λ other front back e' s. text_by dot other text front back m len free (begins_sort dot other text front back class.Quote was e' s) e' s;
    }))

quoted_token : (o : Option ℕ) (dot : Bool) (text : List Character) → first_class text ≡ class.Quote → content_len (drop 1 text) ≡ o → IfToken dot text (quoted_or_fault o text)
quoted_token None dot text was len = λ t. cc
quoted_token (Some m) dot text was len =
    token_if (starts (codes "c") (drop (m + 2) text)) dot text _ _ (λ c. char_token dot m text was len c) (λ c. text_token dot m text was len c)

-- PIECES

space_token : (dot : Bool) (n : ℕ) (text : List Character) → IfToken dot text (space_of n text)
unfolding space_of
space_token dot n text = token_if (is_char (char_at text 1) 95 && ends_line (drop (n + 2) text)) dot text _ (found piece.Space 1) (λ e t. cc) (λ e t. cc)

-- a region line is no token
region_by : (p : Piece) (n : ℕ) (dot : Bool) (text : List Character) → IfToken dot text (region_start p n text)
region_by piece.Text n dot text = λ t. cc
region_by (piece.Fault broken.NotUtf8) n dot text = λ t. cc
region_by _ n dot text = λ t. cc

named_token : (m : Option ℕ) (n : ℕ) (dot : Bool) (text : List Character) → IfToken dot text (region_named m n text)
named_token None n dot text = λ t. cc
named_token (Some m) n dot text =
    token_if (is_rest (behind_space (drop (n + m + 2) text))) dot text _ (fault broken.NumberSign text)
    (λ e. region_by (quoted_at (drop n text)).piece (n + m + 2 + run_len is_remark (drop (n + m + 2) text)) dot text) (λ e t. cc)

start_token : (n : ℕ) (dot : Bool) (text : List Character) → IfToken dot text (region_start_of n text)
unfolding region_start_of
start_token n dot text =
    token_if (is_char (char_at text (n + 7)) 34) dot text _ (fault broken.NumberSign text) (λ e. named_token (content_len (drop (n + 8) text)) (n + 7) dot text) (λ e t. cc)

end_token : (n : ℕ) (dot : Bool) (text : List Character) → IfToken dot text (region_end_of n text)
unfolding region_end_of
end_token n dot text =
    token_if (is_word_at (codes "region") (drop (n + 4) text) && is_rest (behind_space (drop (n + 10) text))) dot text _ (fault broken.NumberSign text) (λ e t. cc) (λ e t. cc)

region_token : (dot : Bool) (text : List Character) → IfToken dot text (region_at text)
region_token dot text =
    token_if (is_word_at (codes "region") (drop 1 text)) dot text _ _ (λ e. start_token (run_len is_space (drop 7 text)) dot text)
    (λ e. token_if (is_word_at (codes "end") (drop 1 text)) dot text _ (fault broken.NumberSign text) (λ d. end_token (run_len is_space (drop 4 text)) dot text) (λ d t. cc))

token_of : (k : Class) (b : Before) (text : List Character) → 0 < length text → first_class text ≡ k → IfToken b.dot text (piece_of k b text)
unfolding piece_of
token_of class.Unreadable b text some was = λ t. cc
token_of class.LineEnd b text some was = λ t. cc
token_of class.Space b text some was = space_token b.dot (run_len is_space (drop 2 text)) text
token_of class.Letter b text some was = word_token b.dot text some was
token_of class.Connector b text some was = connected_token b.dot text was
token_of class.Digit b text some was = digit_token b.dot text was
token_of class.Quote b text some was = quoted_token (content_len (drop 1 text)) b.dot text was refl
token_of class.Apostrophe b text some was = λ t. cc
token_of class.Bracket b text some was = bracketed_token b.dot text was
token_of class.NumberSign b text some was = token_if b.line_front b.dot text (region_at text) (fault broken.NumberSign text) (λ e. region_token b.dot text) (λ e t. cc)
token_of class.Ampersand b text some was = ampersand_token b.dot text was
token_of class.Other b text some was = other_token b.dot text was

-- the first piece of a text, if it is a token, is the longest that stands there
pub first_longest : (b : Before) (text : List Character) (p : Part) (ps : List Part) → Falls b text (p ∷ ps) → is_token p.piece ≡ true → IsLongest b.dot text p
first_longest b text p ps falls token =
    let f = piece_at b text in
    let l = token_of (first_class text) b text falls.0 refl (ap is_token (sym falls.1) ∙ token) in
    let count : length p.characters ≡ f.length = ap (λ cs. length cs) falls.2 ∙ length-take-le f.length text (piece_bounds b text falls.0).1 in
    record {
      rest = drop f.length text;
      stands = sym (take-append-drop f.length text) ∙ ap (λ cs. cs ++ drop f.length text) (sym falls.2);
      spelled = subst (λ q. Spells b.dot q p.characters) (sym falls.1) (subst (λ cs. Spells b.dot f.piece cs) (sym falls.2) l.spelled);
      longest = λ other front back e s. subst (λ n. length front ≤ n) (sym count) (l.longest other front back e s);
    }
