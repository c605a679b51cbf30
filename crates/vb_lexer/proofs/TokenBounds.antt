-- Each token takes a character at least, and none past the end of the text.
use Rattle.std.proofs.Common.{◌≡◌, ℕ, suc, ◌+◌, ◌<◌, ◌≤◌, Bool, true, false, ◌&&◌, ◌==◌, not, nat_lt, List, [], ◌∷◌, length, slice_index, take, drop, Option, None, Some, refl, sym, ◌∙◌, subst, arith, if◌then◌else◌, ltb-false, length-drop}
use Rattle.std.proofs.lemmas.Bool.{and_parts, eqb-false}
use Rattle.std.proofs.lemmas.List.{length-map, length-take}
use Rattle.std.proofs.lemmas.Slice.Eq.{bytes_eq-Decides}
use Rattle.std.specs.Prelude.{codes}
use Rattle.std.specs.Char.{to_ascii_lowercase}
use Rattle.unicode.specs.GeneralCategory.{general_category}
use Rattle.ucd_category.specs.declared.GeneralCategory.{GeneralCategory}
use Rattle.ucd_category.specs.declared.GeneralCategory.TheVariants as category
use Rattle.vb_text.specs.Units.{most_units}
use Rattle.vb_syntax.specs.{Texts.symbol_text, declared.{symbol.Symbol.Symbol, tokens.{IntegerType.IntegerType, IntegerLiteral.IntegerLiteral}}}
use Rattle.vb_syntax.specs.declared.symbol.Symbol.TheVariants as sign
use Rattle.vb_lexer.specs.{declared.{piece.{Piece.Piece, Fault.Fault, Found.Found, Base.{Base, TheVariants.{Hexadecimal, Octal}}}, characters.Class.Class}, Characters.{Character, is_char, is_line_end, is_line_end_code, is_in_line, is_name_part, is_name_category, is_letter_category, is_space_category, is_connector_category, is_remark, is_decimal_digit, class_of, class_of_code, class_of_category, run_len, readable, is_readable}, Tables.symbols, Tokens.{char_at, found, fault, longest_name, name_len, lowered, is_rem, word_of, connected_of, bracketed_of, begins_name, is_digit, digits_len, base_number, value_from, literal_of, suffixes, suffix_in, suffix_len, suffix_type, starts, integer_or_fault, number_of, number_at, symbol_in, symbol_or_fault, symbol_at, ampersand_at, content_len, plus_some, char_literal, text_literal, quoted_of, quoted_or_fault, units_of}, Pieces.is_word_at}
use Rattle.vb_lexer.specs.declared.piece.Piece.TheVariants as piece
use Rattle.vb_lexer.specs.declared.piece.Fault.TheVariants as broken
use Rattle.vb_lexer.specs.declared.characters.Class.TheVariants as class
use Rattle.vb_lexer.proofs.{Runs.at_within, SymbolTables.symbol_stands}

-- a character at least, and none past the end
abbrev pub Within : Found → List Character → Type 0
Within f text = (0 < f.length) × (f.length ≤ length text)

pub within_if : (b : Bool) (x y : Found) (text : List Character) → (b ≡ true → Within x text) → (b ≡ false → Within y text) → Within (if b then x else y) text
within_if true x y text f g = f refl
within_if false x y text f g = g refl

-- RUNS

run_le_by : (b : Bool) (n m : ℕ) → n ≤ m → (if b then suc n else 0) ≤ suc m
run_le_by true n m h = omega (arith, h)
run_le_by false n m h = omega arith

-- a run ends within the text
pub run_le : (passes : Character → Bool) (text : List Character) → run_len passes text ≤ length text
unfolding run_len
run_le passes [] = omega arith
run_le passes (c ∷ cs) = run_le_by (passes c) (run_len passes cs) (length cs) (run_le passes cs)

-- a run is not empty whose first character passes
pub run_some : (passes : Character → Bool) (text : List Character) → 0 < length text → passes (char_at text 0) ≡ true → 0 < run_len passes text
unfolding run_len
run_some passes [] some e = absurd (omega (arith, some))
run_some passes (c ∷ cs) some e = rw e (omega arith)

pub run_within : (p : Piece) (passes : Character → Bool) (text : List Character) → 0 < length text → passes (char_at text 0) ≡ true → Within (found p (run_len passes text)) text
run_within p passes text some e = (run_some passes text some e, run_le passes text)

pub fault_within : (f : Fault) (text : List Character) → 0 < length text → is_in_line (char_at text 0) ≡ true → Within (fault f text) text
fault_within f text some e = run_within (piece.Fault f) is_in_line text some e

-- CLASSES

in_line_by : (b : Bool) (x : Class) → ((if b then class.LineEnd else x) ≡ class.LineEnd → ⊥) → (if b then false else true) ≡ true
in_line_by true x never = absurd (never refl)
in_line_by false x never = refl

-- a character that begins no line end stays in its line
pub in_line_of : (c : Character) (k : Class) → class_of c ≡ k → (k ≡ class.LineEnd → ⊥) → is_in_line c ≡ true
in_line_of None k e never = refl
in_line_of (Some c) k e never = in_line_by (is_line_end_code c) _ (λ (h : class_of_code c ≡ class.LineEnd). never (sym e ∙ h))

pub remark_of : (c : Character) → class_of c ≡ class.Apostrophe → is_remark c ≡ true
remark_of None e = cc
remark_of (Some c) e = in_line_of (Some c) class.Apostrophe e (λ h. cc)

not_line_end : (s l k : Bool) → (if s then class.Space else if l then class.Letter else if k then class.Connector else class.Other) ≡ class.LineEnd → ⊥
not_line_end true l k e = cc
not_line_end false true k e = cc
not_line_end false false true e = cc
not_line_end false false false e = cc

line_end_by : (l s d q a b n m : Bool) (x : Class) → (x ≡ class.LineEnd → ⊥) → (if l then class.LineEnd else if s then class.Space else if d then class.Digit else if q then class.Quote else if a then class.Apostrophe else if b then class.Bracket else if n then class.NumberSign else if m then class.Ampersand else x) ≡ class.LineEnd → l ≡ true
line_end_by true s d q a b n m x never e = refl
line_end_by false true d q a b n m x never e = cc
line_end_by false false true q a b n m x never e = cc
line_end_by false false false true a b n m x never e = cc
line_end_by false false false false true b n m x never e = cc
line_end_by false false false false false true n m x never e = cc
line_end_by false false false false false false true m x never e = cc
line_end_by false false false false false false false true x never e = cc
line_end_by false false false false false false false false x never e = absurd (never e)

pub line_end_of : (c : Character) → class_of c ≡ class.LineEnd → is_line_end c ≡ true
line_end_of None e = cc
line_end_of (Some c) e =
    line_end_by (is_line_end_code c) (c == 9) (is_decimal_digit c) (c == 34) (c == 39) (c == 91) (c == 35) (c == 38) (class_of_category (general_category c))
    (not_line_end (is_space_category (general_category c)) (is_letter_category (general_category c)) (is_connector_category (general_category c))) e

letter_by : (l s d q a b n m : Bool) (x : Class) → (if l then class.LineEnd else if s then class.Space else if d then class.Digit else if q then class.Quote else if a then class.Apostrophe else if b then class.Bracket else if n then class.NumberSign else if m then class.Ampersand else x) ≡ class.Letter → x ≡ class.Letter
letter_by true s d q a b n m x e = cc
letter_by false true d q a b n m x e = cc
letter_by false false true q a b n m x e = cc
letter_by false false false true a b n m x e = cc
letter_by false false false false true b n m x e = cc
letter_by false false false false false true n m x e = cc
letter_by false false false false false false true m x e = cc
letter_by false false false false false false false true x e = cc
letter_by false false false false false false false false x e = e

letter_name : (g : GeneralCategory) → class_of_category g ≡ class.Letter → is_name_category g ≡ true
letter_name category.UppercaseLetter e = refl
letter_name category.LowercaseLetter e = refl
letter_name category.TitlecaseLetter e = refl
letter_name category.ModifierLetter e = refl
letter_name category.OtherLetter e = refl
letter_name category.LetterNumber e = refl
letter_name _ e = cc

pub name_part_of : (c : Character) → class_of c ≡ class.Letter → is_name_part c ≡ true
name_part_of None e = cc
name_part_of (Some c) e =
    letter_name (general_category c)
    (letter_by (is_line_end_code c) (c == 9) (is_decimal_digit c) (c == 34) (c == 39) (c == 91) (c == 35) (c == 38) (class_of_category (general_category c)) e)

-- TEXTS THAT STAND AT THE FRONT

starts_le : (s : List ℕ) (text : List Character) → starts s text ≡ true → length s ≤ length text
starts_le [] text e = omega arith
starts_le (x ∷ xs) [] e = cc
starts_le (x ∷ xs) (None ∷ cs) e = cc
starts_le (x ∷ xs) (Some c ∷ cs) e =
    let rest = starts_le xs cs (and_parts (to_ascii_lowercase c == x) (starts xs cs) e).1 in omega (arith, rest)

readable_le : (text : List Character) → length (readable text) ≤ length text
readable_le [] = omega arith
readable_le (None ∷ cs) = omega (arith, readable_le cs)
readable_le (Some c ∷ cs) = omega (arith, readable_le cs)

lowered_le : (n : ℕ) (text : List Character) → length (lowered (take n text)) ≤ length text
lowered_le n text =
    omega (arith, length-map (readable (take n text)) to_ascii_lowercase, readable_le (take n text), length-take n text)

pub word_le : (word : List ℕ) (text : List Character) → is_word_at word text ≡ true → length word ≤ length text
word_le word text e =
    let same = (bytes_eq-Decides (lowered (take (name_len text) text)) word).0 e in
    subst (λ us. length us ≤ length text) same (lowered_le (name_len text) text)

-- WORDS

pub word_within : (dot : Bool) (n : ℕ) (text : List Character) → 0 < n → n ≤ length text → 0 < length text → is_in_line (char_at text 0) ≡ true → Within (word_of dot n text) text
unfolding word_of
word_within dot n text first within some line =
    within_if (nat_lt longest_name n) (fault broken.LongName text) _ text (λ e. fault_within broken.LongName text some line)
    (λ e. within_if dot (found piece.Name n) _ text (λ d. (first, within))
    (λ d. within_if (is_rem (take n text)) (found piece.Comment (n + run_len is_remark (drop n text))) _ text
    (λ r. (omega (arith, first), omega (arith, within, run_le is_remark (drop n text), length-drop n text)))
    (λ r. (first, within))))

pub connected_within : (n : ℕ) (text : List Character) → n ≤ length text → 0 < length text → is_in_line (char_at text 0) ≡ true → Within (connected_of n text) text
unfolding connected_of
connected_within n text within some line =
    within_if (nat_lt n 2) (fault (if is_char (char_at text 0) 95 then broken.Underscore else broken.UnknownCharacter) text) _ text (λ e. fault_within (if is_char (char_at text 0) 95 then broken.Underscore else broken.UnknownCharacter) text some line)
    (λ e. within_if (nat_lt longest_name n) (fault broken.LongName text) _ text (λ l. fault_within broken.LongName text some line)
    (λ l. (omega (arith, ltb-false n 2 e), within)))

not_false : (b : Bool) → not b ≡ false → b ≡ true
not_false true e = refl
not_false false e = cc

pub bracketed_within : (n : ℕ) (text : List Character) → 0 < length text → is_in_line (char_at text 0) ≡ true → Within (bracketed_of n text) text
unfolding bracketed_of
bracketed_within n text some line =
    within_if (not (begins_name (class_of (char_at text 1)) n && is_char (char_at text (n + 1)) 93)) (fault broken.BracketedName text) _ text (λ e. fault_within broken.BracketedName text some line)
    (λ e. within_if (nat_lt longest_name n) (fault broken.LongName text) _ text (λ l. fault_within broken.LongName text some line)
    (λ l.
    let closed = and_parts (begins_name (class_of (char_at text 1)) n) (is_char (char_at text (n + 1)) 93) (not_false _ e) in
    let inside = at_within text (n + 1) 93 closed.1 in
    (omega arith, omega (arith, inside))))

-- NUMBERS

suffix_by : (b : Bool) (s : List ℕ × IntegerType) (rest : Option (List ℕ × IntegerType)) (text : List Character) → starts s.0 text ≡ b → suffix_len rest ≤ length text → suffix_len (if b then Some s else rest) ≤ length text
suffix_by true s rest text e h = starts_le s.0 text e
suffix_by false s rest text e h = h

suffix_le : (ss : List (List ℕ × IntegerType)) (text : List Character) → suffix_len (suffix_in ss text) ≤ length text
suffix_le [] text = omega arith
suffix_le (s ∷ ss) text = suffix_by (starts s.0 text) s (suffix_in ss text) text refl (suffix_le ss text)

integer_within : (l : Option IntegerLiteral) (n : ℕ) (text : List Character) → 0 < n → n ≤ length text → 0 < length text → is_in_line (char_at text 0) ≡ true → Within (integer_or_fault l n text) text
integer_within None n text first within some line = fault_within broken.NumberLiteral text some line
integer_within (Some l) n text first within some line = (first, within)

number_of_within : (base : Base) (mark n : ℕ) (suffix : Option (List ℕ × IntegerType)) (text : List Character) → n ≤ length (drop mark text) → suffix_len suffix ≤ length (drop (mark + n) text) → 0 < length text → is_in_line (char_at text 0) ≡ true → Within (number_of base mark n suffix text) text
unfolding number_of
number_of_within base mark n suffix text digits behind some line =
    within_if (n == 0) (fault broken.NumberLiteral text) _ text (λ e. fault_within broken.NumberLiteral text some line)
    (λ e.
    let first = eqb-false n 0 e in
    integer_within (literal_of base (suffix_type suffix) n (value_from (base_number base) 0 (take n (drop mark text)))) (mark + n + suffix_len suffix) text
    (omega (arith, first)) (omega (arith, first, digits, behind, length-drop mark text, length-drop (mark + n) text)) some line)

pub number_within : (base : Base) (mark : ℕ) (text : List Character) → 0 < length text → is_in_line (char_at text 0) ≡ true → Within (number_at base mark text) text
number_within base mark text some line =
    number_of_within base mark (digits_len base mark text) (suffix_in suffixes (drop (mark + digits_len base mark text) text)) text
    (run_le (is_digit base) (drop mark text)) (suffix_le suffixes (drop (mark + digits_len base mark text) text)) some line

-- SYMBOLS

symbol_some : (s : Symbol) → 0 < length (symbol_text s)
symbol_some sign.Plus = omega arith
symbol_some _ = omega arith

symbol_by : (s : Option Symbol) (text : List Character) → symbol_in symbols text ≡ s → 0 < length text → is_in_line (char_at text 0) ≡ true → Within (symbol_or_fault s text) text
symbol_by None text e some line = fault_within broken.UnknownCharacter text some line
symbol_by (Some s) text e some line = (symbol_some s, starts_le (symbol_text s) text (symbol_stands text s e))

pub symbol_within : (text : List Character) → 0 < length text → is_in_line (char_at text 0) ≡ true → Within (symbol_at text) text
symbol_within text some line = symbol_by (symbol_in symbols text) text refl some line

pub ampersand_within : (text : List Character) → 0 < length text → is_in_line (char_at text 0) ≡ true → Within (ampersand_at text) text
unfolding ampersand_at
ampersand_within text some line =
    within_if (starts (codes "&h") text) (number_at Hexadecimal 2 text) _ text (λ e. number_within Hexadecimal 2 text some line)
    (λ e. within_if (starts (codes "&o") text) (number_at Octal 2 text) _ text (λ o. number_within Octal 2 text some line) (λ o. symbol_within text some line))

-- LITERALS

-- where a count is given, it is below n
abbrev Below : Option ℕ → ℕ → Type 0
Below None n = Unit {0}
Below (Some m) n = m < n

below_if : (b : Bool) (x y : Option ℕ) (n : ℕ) → Below x n → Below y n → Below (if b then x else y) n
below_if true x y n f g = f
below_if false x y n f g = g

below_plus : (k : ℕ) (x : Option ℕ) (n : ℕ) → Below x n → Below (plus_some k x) (k + n)
below_plus k None n h = tt
below_plus k (Some m) n h = omega (arith, h)

below_up : (x : Option ℕ) (n m : ℕ) → Below x n → n ≤ m → Below x m
below_up None n m h l = tt
below_up (Some k) n m h l = omega (arith, h, l)

content_below : (text : List Character) → Below (content_len text) (length text)
unfolding content_len
content_below [] = tt
content_below (c ∷ []) = below_if (is_char c 34) (Some 0) None 1 (omega arith) tt
content_below (c ∷ d ∷ cs) =
    below_if (is_line_end c) None _ (suc (suc (length cs))) tt
    (below_if (is_char c 34) (if is_char d 34 then plus_some 2 (content_len cs) else Some 0) _ (suc (suc (length cs)))
    (below_if (is_char d 34) (plus_some 2 (content_len cs)) (Some 0) (suc (suc (length cs)))
    (below_up (plus_some 2 (content_len cs)) (2 + length cs) (suc (suc (length cs))) (below_plus 2 (content_len cs) (length cs) (content_below cs)) (omega arith)) (omega arith))
    (below_up (plus_some 1 (content_len (d ∷ cs))) (1 + suc (length cs)) (suc (suc (length cs))) (below_plus 1 (content_len (d ∷ cs)) (suc (length cs)) (content_below (d ∷ cs))) (omega arith)))

-- a literal's content ends before the quote behind it
pub content_within : (text : List Character) (m : ℕ) → content_len text ≡ Some m → m < length text
content_within text m e = subst (λ x. Below x (length text)) e (content_below text)

char_within : (m : ℕ) (units : List ℕ) (text : List Character) → m + 3 ≤ length text → 0 < length text → is_in_line (char_at text 0) ≡ true → Within (char_literal m units text) text
unfolding char_literal
char_within m units text closed some line =
    within_if (nat_lt 1 (length units)) (fault broken.TextLiteral text) _ text (λ e. fault_within broken.TextLiteral text some line)
    (λ e. within_if (not (is_readable (take m (drop 1 text)))) (fault broken.NotUtf8 text) _ text (λ r. fault_within broken.NotUtf8 text some line)
    (λ r. within_if (length units == 1) (found (piece.Char (slice_index units 0)) (m + 3)) (fault broken.TextLiteral text) text (λ u. (omega arith, closed)) (λ u. fault_within broken.TextLiteral text some line)))

text_within : (m : ℕ) (units : List ℕ) (text : List Character) → m + 2 ≤ length text → 0 < length text → is_in_line (char_at text 0) ≡ true → Within (text_literal m units text) text
unfolding text_literal
text_within m units text closed some line =
    within_if (nat_lt most_units (length units)) (fault broken.TextLiteral text) _ text (λ e. fault_within broken.TextLiteral text some line)
    (λ e. within_if (not (is_readable (take m (drop 1 text)))) (fault broken.NotUtf8 text) _ text (λ r. fault_within broken.NotUtf8 text some line)
    (λ r. (omega arith, closed)))

quoted_of_within : (m : ℕ) (units : List ℕ) (text : List Character) → m < length (drop 1 text) → 0 < length text → is_in_line (char_at text 0) ≡ true → Within (quoted_of m units text) text
quoted_of_within m units text closed some line =
    within_if (starts (codes "c") (drop (m + 2) text)) _ _ text
    (λ c. char_within m units text (omega (arith, starts_le (codes "c") (drop (m + 2) text) c, closed, length-drop 1 text, length-drop (m + 2) text)) some line)
    (λ c. text_within m units text (omega (arith, closed, length-drop 1 text)) some line)

pub quoted_by : (m : Option ℕ) (text : List Character) → content_len (drop 1 text) ≡ m → 0 < length text → is_in_line (char_at text 0) ≡ true → Within (quoted_or_fault m text) text
quoted_by None text e some line = fault_within broken.TextLiteral text some line
quoted_by (Some m) text e some line = quoted_of_within m (units_of (take m (drop 1 text))) text (content_within (drop 1 text) m e) some line
