-- With which character a token of each sort begins.
use Rattle.std.proofs.Common.{◌≡◌, ℕ, suc, ◌+◌, ◌-◌, ◌≤◌, Bool, true, false, ◌&&◌, ◌||◌, ◌==◌, nat_lt, nat_le, cond, List, [], ◌∷◌, ◌++◌, length, None, Some, is_some, refl, sym, ap, ◌∙◌, append_assoc, ⊎_elim, ◌⊎◌, inl, inr, arith, if◌then◌else◌}
use Rattle.std.proofs.lemmas.Bool.{and_parts, eqb-true, ne_eqb, leb-true, both_ways}
use Rattle.std.proofs.lemmas.Slice.Eq.{bytes_eq-Decides}
use Rattle.std.specs.Prelude.{codes, bytes_eq}
use Rattle.std.specs.List.{list_all}
use Rattle.unicode.specs.GeneralCategory.{general_category}
use Rattle.ucd_category.proofs.Computing.{ucd_category}
use Rattle.vb_syntax.specs.{Texts.{keyword_text, symbol_text}, declared.{keyword.Keyword.Keyword, symbol.Symbol.Symbol}}
use Rattle.vb_syntax.specs.declared.keyword.Keyword.TheVariants as word
use Rattle.vb_syntax.specs.declared.symbol.Symbol.TheVariants as sign
use Rattle.vb_lexer.specs.{declared.{piece.{Piece.Piece, Base.{Base, TheVariants.{Decimal, Hexadecimal, Octal}}}, characters.Class.Class}, Characters.{Character, is_line_end_code, is_decimal_digit, is_space_category, is_letter_category, is_connector_category, class_of, class_of_code, class_of_category}, Tables.{keywords_a, keywords_b, keywords_c, keywords_d, keywords_e, keywords_f, keywords_g, keywords_h, keywords_i, keywords_l, keywords_m, keywords_n, keywords_o, keywords_p, keywords_r, keywords_s, keywords_t, keywords_u, keywords_v, keywords_w, keywords_x, keywords}, Tokens.{char_at, begins_name, is_digit, is_rem, keyword_in, lowered}, Longest.{AreWord, IsIdentifier, IsReserved, Spells, base_mark}}
use Rattle.vb_lexer.specs.declared.piece.Piece.TheVariants as piece
use Rattle.vb_lexer.specs.declared.characters.Class.TheVariants as class
use Rattle.vb_lexer.proofs.Spelling.{word_first, no_letter_is}

abbrev pub is_word_class : Class → Bool
is_word_class class.Letter = true
is_word_class class.Connector = true
is_word_class _ = false

abbrev pub is_bracket_class : Class → Bool
is_bracket_class class.Bracket = true
is_bracket_class _ = false

abbrev pub is_number_class : Class → Bool
is_number_class class.Digit = true
is_number_class class.Ampersand = true
is_number_class _ = false

abbrev pub is_quote_class : Class → Bool
is_quote_class class.Quote = true
is_quote_class _ = false

abbrev pub is_symbol_class : Class → Bool
is_symbol_class class.Ampersand = true
is_symbol_class class.Other = true
is_symbol_class _ = false

-- a token of the piece's sort may begin with a character of the class
abbrev pub sort_begins : Piece → Class → Bool
sort_begins piece.Name k = is_word_class k
sort_begins (piece.Keyword w) k = is_word_class k
sort_begins piece.EscapedName k = is_bracket_class k
sort_begins (piece.Integer l) k = is_number_class k
sort_begins piece.Text k = is_quote_class k
sort_begins (piece.Char u) k = is_quote_class k
sort_begins (piece.Symbol s) k = is_symbol_class k
sort_begins p k = false

-- the class of the first character
abbrev pub first_class : List Character → Class
first_class text = class_of (char_at text 0)

-- WORDS

word_class : (k : Class) (n : ℕ) → begins_name k n ≡ true → is_word_class k ≡ true
word_class class.Letter n e = refl
word_class class.Connector n e = refl
word_class _ n e = cc

identifier_begins : (front behind : List Character) → IsIdentifier front → is_word_class (first_class (front ++ behind)) ≡ true
identifier_begins [] behind h = cc
identifier_begins (c ∷ cs) behind h = word_class (class_of c) (suc (length cs)) h.0

-- RESERVED WORDS

abbrev is_letter_class : Class → Bool
is_letter_class class.Letter = true
is_letter_class _ = false

-- a letter of ASCII in lower case stands first, and it and its upper case are letters
abbrev begins_letter : List ℕ → Bool
begins_letter [] = false
begins_letter (x ∷ xs) = is_letter_class (class_of (Some x)) && is_letter_class (class_of (Some (x - 32)))

each_begins : (k : Keyword) → begins_letter (keyword_text k) ≡ true
unfolding ucd_category
each_begins word.And = refl
each_begins _ = refl

rem_begins : begins_letter (codes "rem") ≡ true
unfolding ucd_category
rem_begins = refl

either_case : (low high : Bool) (c x : ℕ) → cond low c (cond high (c + 32) c) ≡ x → (c ≡ x) ⊎ (c ≡ x - 32)
either_case true high c x e = inl e
either_case false true c x e = inr (omega arith)
either_case false false c x e = inl e

letter_of : (k : Class) → is_letter_class k ≡ true → k ≡ class.Letter
letter_of class.Letter e = refl
letter_of _ e = cc

letter_first : (w : List ℕ) (cs : List Character) → begins_letter w ≡ true → AreWord w cs → first_class cs ≡ class.Letter
letter_first [] cs e h = cc
letter_first (x ∷ xs) cs e h =
    let f = word_first x xs cs h in
    let both = and_parts (is_letter_class (class_of (Some x))) (is_letter_class (class_of (Some (x - 32)))) e in
    let is : is_letter_class (class_of (Some f.code)) ≡ true = ⊎_elim (λ s. ap (λ c. is_letter_class (class_of (Some c))) s ∙ both.0) (λ s. ap (λ c. is_letter_class (class_of (Some c))) s ∙ both.1) (either_case (nat_lt f.code 65) (nat_lt f.code 91) f.code x f.lower) in
    ap (λ l. first_class l) f.stands ∙ letter_of (class_of (Some f.code)) is

-- a reserved word begins with a letter
pub reserved_first : (cs : List Character) → IsReserved cs → first_class cs ≡ class.Letter
reserved_first cs h = ⊎_elim (λ r. letter_first (codes "rem") cs rem_begins r) (λ k. letter_first (keyword_text k.0) cs (each_begins k.0) k.1) h

known : (k : Keyword) → is_some (keyword_in keywords (keyword_text k)) ≡ true
unfolding keywords keywords_a keywords_b keywords_c keywords_d keywords_e keywords_f keywords_g keywords_h keywords_i keywords_l keywords_m keywords_n keywords_o keywords_p keywords_r keywords_s keywords_t keywords_u keywords_v keywords_w keywords_x
known word.And = refl
known _ = refl

-- a word that isn't found is not reserved
pub not_reserved : (cs : List Character) → is_rem cs ≡ false → keyword_in keywords (lowered cs) ≡ None → IsReserved cs → ⊥
not_reserved cs r e h =
    ⊎_elim
    (λ w. both_ways (is_rem cs) r ((bytes_eq-Decides (lowered cs) (codes "rem")).1 w.1))
    (λ k. let yes : is_some (keyword_in keywords (lowered cs)) ≡ true = ap (λ t. is_some (keyword_in keywords t)) k.1.1 ∙ known k.0 in
    let missing : is_some (keyword_in keywords (lowered cs)) ≡ false = ap (λ o. is_some o) e in
    both_ways _ missing yes) h

found_by : (b : Bool) (w k : Keyword) (ws : List Keyword) (text : List ℕ) → bytes_eq text (keyword_text w) ≡ b → (keyword_in ws text ≡ Some k → text ≡ keyword_text k) → (if b then Some w else keyword_in ws text) ≡ Some k → text ≡ keyword_text k
found_by true w k ws text is f e = let same : w ≡ k = cc in (bytes_eq-Decides text (keyword_text w)).0 is ∙ ap keyword_text same
found_by false w k ws text is f e = f e

-- the word that is found has this text
pub keyword_found : (ws : List Keyword) (text : List ℕ) (k : Keyword) → keyword_in ws text ≡ Some k → text ≡ keyword_text k
keyword_found [] text k e = cc
keyword_found (w ∷ ws) text k e = found_by (bytes_eq text (keyword_text w)) w k ws text refl (keyword_found ws text k) e

-- NUMBERS

no_line_end : (c : ℕ) → 48 ≤ c → c ≤ 57 → is_line_end_code c ≡ false
no_line_end c low high = rw (ne_eqb c 10 (λ e. omega arith), ne_eqb c 13 (λ e. omega arith), ne_eqb c 0x2028 (λ e. omega arith), ne_eqb c 0x2029 (λ e. omega arith)) refl

digit_class : (c : ℕ) → is_decimal_digit c ≡ true → class_of_code c ≡ class.Digit
digit_class c h =
    let both = and_parts (nat_le 48 c) (nat_le c 57) h in
    let low = leb-true 48 c both.0 in
    let high = leb-true c 57 both.1 in
    rw (no_line_end c low high, ne_eqb c 9 (λ e. omega arith), h) refl

abbrev pub base_class : Base → Class
base_class Decimal = class.Digit
base_class Hexadecimal = class.Ampersand
base_class Octal = class.Ampersand

marked_begins : (w : List ℕ) (mark rest : List Character) → AreWord (38 ∷ w) mark → first_class (mark ++ rest) ≡ class.Ampersand
marked_begins w mark rest h =
    let f = word_first 38 w mark h in
    ap (λ l. first_class (l ++ rest)) f.stands ∙ ap (λ c. class_of (Some c)) (no_letter_is f.code 38 f.lower refl)

digits_begin : (mark digits rest : List Character) → AreWord [] mark → 1 ≤ length digits → list_all (is_digit Decimal) digits ≡ true → first_class (mark ++ (digits ++ rest)) ≡ class.Digit
digits_begin [] [] rest m some all = absurd (omega (arith, some))
digits_begin [] (None ∷ ds) rest m some all = cc
digits_begin [] (Some d ∷ ds) rest m some all = digit_class d (and_parts (is_decimal_digit d) (list_all (is_digit Decimal) ds) all).0
digits_begin (None ∷ ms) digits rest m some all = cc
digits_begin (Some c ∷ ms) digits rest m some all = cc

pub number_begins : (base : Base) (mark digits rest : List Character) → AreWord (base_mark base) mark → 1 ≤ length digits → list_all (is_digit base) digits ≡ true → first_class (mark ++ (digits ++ rest)) ≡ base_class base
number_begins Decimal mark digits rest m some all = digits_begin mark digits rest m some all
number_begins Hexadecimal mark digits rest m some all = marked_begins (codes "h") mark (digits ++ rest) m
number_begins Octal mark digits rest m some all = marked_begins (codes "o") mark (digits ++ rest) m

base_class_is : (base : Base) → is_number_class (base_class base) ≡ true
base_class_is Decimal = refl
base_class_is Hexadecimal = refl
base_class_is Octal = refl

-- SYMBOLS

abbrev begins_symbol : List ℕ → Bool
begins_symbol [] = false
begins_symbol (x ∷ xs) = (nat_lt x 97 || nat_lt 122 x) && is_symbol_class (class_of (Some x))

each_symbol : (s : Symbol) → begins_symbol (symbol_text s) ≡ true
unfolding ucd_category
each_symbol sign.Plus = refl
each_symbol _ = refl

symbol_begins : (w : List ℕ) (front behind : List Character) → begins_symbol w ≡ true → AreWord w front → is_symbol_class (first_class (front ++ behind)) ≡ true
symbol_begins [] front behind e h = cc
symbol_begins (x ∷ xs) front behind e h =
    let both = and_parts (nat_lt x 97 || nat_lt 122 x) (is_symbol_class (class_of (Some x))) e in
    let f = word_first x xs front h in
    ap (λ l. is_symbol_class (first_class (l ++ behind))) f.stands ∙ ap (λ c. is_symbol_class (class_of (Some c))) (no_letter_is f.code x f.lower both.0) ∙ both.1

-- TOKENS

pub number_text : (mark digits suffix behind : List Character) → (mark ++ (digits ++ suffix)) ++ behind ≡ mark ++ (digits ++ (suffix ++ behind))
number_text mark digits suffix behind = simp append_assoc

begins_at : (dot : Bool) (other : Piece) (front behind : List Character) → Spells dot other front → sort_begins other (first_class (front ++ behind)) ≡ true
begins_at dot piece.Name front behind s = identifier_begins front behind s.0
begins_at dot (piece.Keyword k) front behind s = identifier_begins front behind s.0
begins_at dot piece.EscapedName front behind s = ap (λ l. is_bracket_class (first_class (l ++ behind))) s.2
begins_at dot (piece.Integer l) front behind s =
    ap (λ l. is_number_class (first_class (l ++ behind))) s.stands ∙ ap (λ l. is_number_class (first_class l)) (number_text s.mark s.digits s.suffix behind)
    ∙ ap is_number_class (number_begins s.base s.mark s.digits (s.suffix ++ behind) s.marked s.some s.are_digits) ∙ base_class_is s.base
begins_at dot piece.Text front behind s = ap (λ l. is_quote_class (first_class (l ++ behind))) s.1.stands
begins_at dot (piece.Char u) front behind s = ap (λ l. is_quote_class (first_class (l ++ behind))) s.2.stands
begins_at dot (piece.Symbol x) front behind s = symbol_begins (symbol_text x) front behind (each_symbol x) s
begins_at dot _ front behind s = absurd s

-- a token that stands at the front of a text begins with a character of its sort
pub begins_sort : (dot : Bool) (other : Piece) (text front behind : List Character) (k : Class) → first_class text ≡ k → text ≡ front ++ behind → Spells dot other front → sort_begins other k ≡ true
begins_sort dot other text front behind k was e s =
    ap (λ c. sort_begins other c) (sym was ∙ ap (λ l. first_class l) e) ∙ begins_at dot other front behind s

-- CODES

no_quote : (s l k : Bool) → (if s then class.Space else if l then class.Letter else if k then class.Connector else class.Other) ≡ class.Quote → ⊥
no_quote true l k e = cc
no_quote false true k e = cc
no_quote false false true e = cc
no_quote false false false e = cc

no_bracket : (s l k : Bool) → (if s then class.Space else if l then class.Letter else if k then class.Connector else class.Other) ≡ class.Bracket → ⊥
no_bracket true l k e = cc
no_bracket false true k e = cc
no_bracket false false true e = cc
no_bracket false false false e = cc

quote_by : (l s d q a b n m : Bool) (x : Class) → (x ≡ class.Quote → ⊥) → (if l then class.LineEnd else if s then class.Space else if d then class.Digit else if q then class.Quote else if a then class.Apostrophe else if b then class.Bracket else if n then class.NumberSign else if m then class.Ampersand else x) ≡ class.Quote → q ≡ true
quote_by true s d q a b n m x never e = cc
quote_by false true d q a b n m x never e = cc
quote_by false false true q a b n m x never e = cc
quote_by false false false true a b n m x never e = refl
quote_by false false false false true b n m x never e = cc
quote_by false false false false false true n m x never e = cc
quote_by false false false false false false true m x never e = cc
quote_by false false false false false false false true x never e = cc
quote_by false false false false false false false false x never e = absurd (never e)

bracket_by : (l s d q a b n m : Bool) (x : Class) → (x ≡ class.Bracket → ⊥) → (if l then class.LineEnd else if s then class.Space else if d then class.Digit else if q then class.Quote else if a then class.Apostrophe else if b then class.Bracket else if n then class.NumberSign else if m then class.Ampersand else x) ≡ class.Bracket → b ≡ true
bracket_by true s d q a b n m x never e = cc
bracket_by false true d q a b n m x never e = cc
bracket_by false false true q a b n m x never e = cc
bracket_by false false false true a b n m x never e = cc
bracket_by false false false false true b n m x never e = cc
bracket_by false false false false false true n m x never e = refl
bracket_by false false false false false false true m x never e = cc
bracket_by false false false false false false false true x never e = cc
bracket_by false false false false false false false false x never e = absurd (never e)

pub quote_code : (c : Character) → class_of c ≡ class.Quote → c ≡ Some 34
quote_code None e = cc
quote_code (Some c) e =
    let is = quote_by (is_line_end_code c) (c == 9) (is_decimal_digit c) (c == 34) (c == 39) (c == 91) (c == 35) (c == 38) (class_of_category (general_category c))
    (no_quote (is_space_category (general_category c)) (is_letter_category (general_category c)) (is_connector_category (general_category c))) e in
    ap (λ k. Some k) (eqb-true c 34 is)

pub bracket_code : (c : Character) → class_of c ≡ class.Bracket → c ≡ Some 91
bracket_code None e = cc
bracket_code (Some c) e =
    let is = bracket_by (is_line_end_code c) (c == 9) (is_decimal_digit c) (c == 34) (c == 39) (c == 91) (c == 35) (c == 38) (class_of_category (general_category c))
    (no_bracket (is_space_category (general_category c)) (is_letter_category (general_category c)) (is_connector_category (general_category c))) e in
    ap (λ k. Some k) (eqb-true c 91 is)
