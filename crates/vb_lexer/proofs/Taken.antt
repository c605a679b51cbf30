-- Where a token begins, a piece is a token, a comment, or a place that breaks one of a few rules.
use Rattle.std.proofs.Common.{◌≡◌, ℕ, suc, ◌+◌, ◌≤◌, Bool, true, false, not, ◌&&◌, ◌||◌, ◌==◌, nat_lt, slice_index, List, [], ◌∷◌, ◌++◌, length, take, drop, Option, None, Some, is_some, refl, sym, ap, ap₂, ◌∙◌, ⊎_elim, arith, if◌then◌else◌, append_assoc}
use Rattle.std.proofs.lemmas.Bool.{both_ways, leb-true, ltb-true, or_cases}
use Rattle.std.proofs.lemmas.Slice.Eq.{bytes_eq-Decides}
use Rattle.std.specs.Prelude.{codes, bytes_eq}
use Rattle.ucd_category.proofs.Computing.{ucd_category}
use Rattle.vb_text.specs.Units.{most_units}
use Rattle.vb_syntax.specs.{Texts.symbol_text, declared.{keyword.Keyword.Keyword, symbol.Symbol.Symbol, tokens.{IntegerType.IntegerType, IntegerLiteral.IntegerLiteral}}}
use Rattle.vb_lexer.specs.{declared.{piece.{Piece.Piece, Found.Found, Before.Before, Base.{Base, TheVariants.{Decimal, Hexadecimal, Octal}}}, characters.Class.Class}, Characters.{Character, is_char, is_name_part, is_readable, run_len, class_of}, Tables.{keywords, symbols}, Tokens.{char_at, found, fault, longest_name, name_len, lowered, is_rem, keyword_in, keyword_or_name, word_of, connected_of, begins_name, bracketed_of, digits_len, base_number, value_from, literal_of, suffixes, suffix_in, suffix_type, suffix_len, starts, integer_or_fault, number_of, number_at, symbol_in, symbol_or_fault, symbol_at, ampersand_at, content_len, char_literal, text_literal, quoted_or_fault, units_of}, Pieces.{Part, Falls, piece_of}, Lines.is_token, Longest.{AreWord, IsIdentifier, Spells, stands_instead}}
use Rattle.vb_lexer.specs.declared.piece.Piece.TheVariants as piece
use Rattle.vb_lexer.specs.declared.piece.Fault.TheVariants as broken
use Rattle.vb_lexer.specs.declared.characters.Class.TheVariants as class
use Rattle.vb_lexer.proofs.{SymbolTables.{has_text, each_has_text}, Spelling.{run_ends, word_starts}, Beginnings.{first_class, is_word_class, is_bracket_class, is_number_class, is_quote_class, is_symbol_class, sort_begins, begins_sort}, Longest.{char_behind, word_covers, number_class, number_starts, is_neither}}

abbrev Taken : Found → Type 0
Taken f = (is_token f.piece || stands_instead f.piece) ≡ true

taken_if : (b : Bool) (x y : Found) → (b ≡ true → Taken x) → (b ≡ false → Taken y) → Taken (if b then x else y)
taken_if true x y f g = f refl
taken_if false x y f g = g refl

no_sort : (k : Class) (other : Piece) → is_word_class k ≡ false → is_bracket_class k ≡ false → is_number_class k ≡ false → is_quote_class k ≡ false → is_symbol_class k ≡ false → sort_begins other k ≡ true → ⊥
no_sort k piece.Name w b n q s e = both_ways (is_word_class k) w e
no_sort k (piece.Keyword x) w b n q s e = both_ways (is_word_class k) w e
no_sort k piece.EscapedName w b n q s e = both_ways (is_bracket_class k) b e
no_sort k (piece.Integer l) w b n q s e = both_ways (is_number_class k) n e
no_sort k piece.Text w b n q s e = both_ways (is_quote_class k) q e
no_sort k (piece.Char u) w b n q s e = both_ways (is_quote_class k) q e
no_sort k (piece.Symbol x) w b n q s e = both_ways (is_symbol_class k) s e
no_sort k _ w b n q s e = cc

-- WORDS

keyword_taken : (o : Option Keyword) (n : ℕ) → Taken (found (keyword_or_name o) n)
keyword_taken None n = refl
keyword_taken (Some k) n = refl

word_taken : (dot : Bool) (n : ℕ) (text : List Character) → Taken (word_of dot n text)
unfolding word_of
word_taken dot n text =
    taken_if (nat_lt longest_name n) _ _ (λ l. refl)
    (λ l. taken_if dot _ _ (λ d. refl)
    (λ d. taken_if (is_rem (take n text)) _ _ (λ r. refl) (λ r. keyword_taken (keyword_in keywords (lowered (take n text))) n)))

two_there : (front back : List Character) → IsIdentifier front → first_class (front ++ back) ≡ class.Connector → 2 ≤ length front
two_there [] back id was = cc
two_there (c ∷ cs) back id was =
    let begins : begins_name class.Connector (suc (length cs)) ≡ true = ap (λ k. begins_name k (suc (length cs))) (sym was) ∙ id.0 in
    leb-true 2 (suc (length cs)) begins

many_there : (dot : Bool) (other : Piece) (text front back : List Character) → first_class text ≡ class.Connector → sort_begins other class.Connector ≡ true → text ≡ front ++ back → Spells dot other front → 2 ≤ name_len text
many_there dot piece.Name text front back was b e s =
    omega (arith, two_there front back s.0 (ap (λ l. first_class l) (sym e) ∙ was), word_covers text front back e s.0)
many_there dot (piece.Keyword k) text front back was b e s =
    omega (arith, two_there front back s.0 (ap (λ l. first_class l) (sym e) ∙ was), word_covers text front back e s.0)
many_there dot _ text front back was b e s = cc

connected_taken : (n : ℕ) (text : List Character) → 2 ≤ n → Taken (connected_of n text)
unfolding connected_of
connected_taken n text many =
    taken_if (nat_lt n 2) _ _ (λ l. absurd (omega (arith, many, ltb-true n 2 l))) (λ l. taken_if (nat_lt longest_name n) _ _ (λ m. refl) (λ m. refl))

-- NAMES BETWEEN BRACKETS

no_name_part : is_name_part (Some 93) ≡ false
unfolding ucd_category
no_name_part = refl

char_seam : (cs : List Character) (c : Character) (rest : List Character) → char_at (cs ++ (c ∷ rest)) (length cs) ≡ c
char_seam [] c rest = refl
char_seam (d ∷ cs) c rest = char_seam cs c rest

char_first : (name rest : List Character) (n : ℕ) → begins_name (class_of (char_at name 0)) n ≡ true → char_at (name ++ rest) 0 ≡ char_at name 0
char_first [] rest n e = cc
char_first (c ∷ cs) rest n e = refl

closed_there : (text name back : List Character) → IsIdentifier name → drop 1 text ≡ name ++ (Some 93 ∷ back) → (begins_name (class_of (char_at text 1)) (name_len (drop 1 text)) && is_char (char_at text (name_len (drop 1 text) + 1)) 93) ≡ true
closed_there text name back id is =
    let count : name_len (drop 1 text) ≡ length name = ap (λ l. run_len is_name_part l) is ∙ run_ends is_name_part name (Some 93) back id.1 no_name_part in
    let second : char_at text 1 ≡ char_at name 0 = char_behind text 0 ∙ ap (λ l. char_at l 0) is ∙ char_first name (Some 93 ∷ back) (length name) id.0 in
    let place : name_len (drop 1 text) + 1 ≡ suc (length name) = omega (arith, count) in
    let last : char_at text (name_len (drop 1 text) + 1) ≡ Some 93 = ap (λ k. char_at text k) place ∙ char_behind text (length name) ∙ ap (λ l. char_at l (length name)) is ∙ char_seam name (Some 93) back in
    ap₂ (λ x y. x && y) (ap₂ (λ c n. begins_name (class_of c) n) second count ∙ id.0) (ap (λ c. is_char c 93) last)

bracketed_taken : (n : ℕ) (text : List Character) → (begins_name (class_of (char_at text 1)) n && is_char (char_at text (n + 1)) 93) ≡ true → Taken (bracketed_of n text)
unfolding bracketed_of
bracketed_taken n text closed =
    rw closed (taken_if (nat_lt longest_name n) _ _ (λ l. refl) (λ l. refl))

bracket_taken : (dot : Bool) (other : Piece) (text front back : List Character) → sort_begins other class.Bracket ≡ true → text ≡ front ++ back → Spells dot other front → Taken (bracketed_of (name_len (drop 1 text)) text)
bracket_taken dot piece.EscapedName text front back b e s =
    let is : drop 1 text ≡ s.0 ++ (Some 93 ∷ back) = ap (λ l. drop 1 l) (e ∙ ap (λ l. l ++ back) s.2) ∙ append_assoc s.0 (Some 93 ∷ []) back in
    bracketed_taken (name_len (drop 1 text)) text (closed_there text s.0 back s.1 is)
bracket_taken dot _ text front back b e s = cc

-- NUMBERS AND SYMBOLS

integer_taken : (o : Option IntegerLiteral) (n : ℕ) (text : List Character) → Taken (integer_or_fault o n text)
integer_taken None n text = refl
integer_taken (Some l) n text = refl

number_of_taken : (base : Base) (m n : ℕ) (suffix : Option (List ℕ × IntegerType)) (text : List Character) → Taken (number_of base m n suffix text)
unfolding number_of
number_of_taken base m n suffix text =
    taken_if (n == 0) _ _ (λ e. refl) (λ e. integer_taken (literal_of base (suffix_type suffix) n (value_from (base_number base) 0 (take n (drop m text)))) (m + n + suffix_len suffix) text)

number_taken : (base : Base) (m : ℕ) (text : List Character) → Taken (number_at base m text)
number_taken base m text = number_of_taken base m (digits_len base m text) (suffix_in suffixes (drop (m + digits_len base m text) text)) text

some_if : (b : Bool) (x : Symbol) (rest : Option Symbol) → (b ≡ false → is_some rest ≡ true) → is_some (if b then Some x else rest) ≡ true
some_if true x rest f = refl
some_if false x rest f = f refl

symbol_there : (ss : List Symbol) (text : List Character) (t : List ℕ) → has_text t ss ≡ true → starts t text ≡ true → is_some (symbol_in ss text) ≡ true
symbol_there [] text t h st = cc
symbol_there (x ∷ xs) text t h st =
    some_if (starts (symbol_text x) text) x (symbol_in xs text)
    (λ differs. ⊎_elim
    (λ e. absurd (both_ways (starts (symbol_text x) text) differs (ap (λ w. starts w text) (sym ((bytes_eq-Decides t (symbol_text x)).0 e)) ∙ st)))
    (λ k. symbol_there xs text t k st)
    (or_cases (bytes_eq t (symbol_text x)) (has_text t xs) h))

found_taken : (o : Option Symbol) (text : List Character) → is_some o ≡ true → Taken (symbol_or_fault o text)
found_taken None text e = cc
found_taken (Some s) text e = refl

symbol_taken : (x : Symbol) (text front back : List Character) → text ≡ front ++ back → AreWord (symbol_text x) front → Taken (symbol_at text)
symbol_taken x text front back e h =
    found_taken (symbol_in symbols text) text (symbol_there symbols text (symbol_text x) (each_has_text x) (ap (λ l. starts (symbol_text x) l) e ∙ word_starts (symbol_text x) front back h))

other_taken : (dot : Bool) (other : Piece) (text front back : List Character) → sort_begins other class.Other ≡ true → text ≡ front ++ back → Spells dot other front → Taken (symbol_at text)
other_taken dot (piece.Symbol x) text front back b e s = symbol_taken x text front back e s
other_taken dot _ text front back b e s = cc

unmarked_taken : (dot : Bool) (other : Piece) (text front back : List Character) → first_class text ≡ class.Ampersand → starts (codes "&h") text ≡ false → starts (codes "&o") text ≡ false → sort_begins other class.Ampersand ≡ true → text ≡ front ++ back → Spells dot other front → Taken (symbol_at text)
unmarked_taken dot (piece.Integer l) text front back was h o b e s =
    absurd (is_neither s.base text (sym (number_class text front back l s e) ∙ was) (number_starts text front back l s e) h o)
unmarked_taken dot (piece.Symbol x) text front back was h o b e s = symbol_taken x text front back e s
unmarked_taken dot _ text front back was h o b e s = cc

ampersand_taken : (dot : Bool) (other : Piece) (text front back : List Character) → first_class text ≡ class.Ampersand → sort_begins other class.Ampersand ≡ true → text ≡ front ++ back → Spells dot other front → Taken (ampersand_at text)
unfolding ampersand_at
ampersand_taken dot other text front back was b e s =
    taken_if (starts (codes "&h") text) _ _ (λ h. number_taken Hexadecimal 2 text)
    (λ h. taken_if (starts (codes "&o") text) _ _ (λ o. number_taken Octal 2 text) (λ o. unmarked_taken dot other text front back was h o b e s))

-- LITERALS

char_taken : (m : ℕ) (units : List ℕ) (text : List Character) → Taken (char_literal m units text)
unfolding char_literal
char_taken m units text =
    taken_if (nat_lt 1 (length units)) _ _ (λ e. refl) (λ e. taken_if (not (is_readable (take m (drop 1 text)))) _ _ (λ r. refl) (λ r. taken_if (length units == 1) (found (piece.Char (slice_index units 0)) (m + 3)) (fault broken.TextLiteral text) (λ u. refl) (λ u. refl)))

text_taken : (m : ℕ) (units : List ℕ) (text : List Character) → Taken (text_literal m units text)
unfolding text_literal
text_taken m units text =
    taken_if (nat_lt most_units (length units)) _ _ (λ e. refl) (λ e. taken_if (not (is_readable (take m (drop 1 text)))) _ _ (λ r. refl) (λ r. refl))

quoted_taken : (o : Option ℕ) (text : List Character) → Taken (quoted_or_fault o text)
quoted_taken None text = refl
quoted_taken (Some m) text =
    taken_if (starts (codes "c") (drop (m + 2) text)) _ _ (λ c. char_taken m (units_of (take m (drop 1 text))) text) (λ c. text_taken m (units_of (take m (drop 1 text))) text)

-- PIECES

taken_of : (k : Class) (b : Before) (text : List Character) (other : Piece) (front back : List Character) → first_class text ≡ k → sort_begins other k ≡ true → text ≡ front ++ back → Spells b.dot other front → Taken (piece_of k b text)
unfolding piece_of
taken_of class.Unreadable b text other front back was begins e s = absurd (no_sort class.Unreadable other refl refl refl refl refl begins)
taken_of class.LineEnd b text other front back was begins e s = absurd (no_sort class.LineEnd other refl refl refl refl refl begins)
taken_of class.Space b text other front back was begins e s = absurd (no_sort class.Space other refl refl refl refl refl begins)
taken_of class.Letter b text other front back was begins e s = word_taken b.dot (name_len text) text
taken_of class.Connector b text other front back was begins e s = connected_taken (name_len text) text (many_there b.dot other text front back was begins e s)
taken_of class.Digit b text other front back was begins e s = number_taken Decimal 0 text
taken_of class.Quote b text other front back was begins e s = quoted_taken (content_len (drop 1 text)) text
taken_of class.Apostrophe b text other front back was begins e s = absurd (no_sort class.Apostrophe other refl refl refl refl refl begins)
taken_of class.Bracket b text other front back was begins e s = bracket_taken b.dot other text front back begins e s
taken_of class.NumberSign b text other front back was begins e s = absurd (no_sort class.NumberSign other refl refl refl refl refl begins)
taken_of class.Ampersand b text other front back was begins e s = ampersand_taken b.dot other text front back was begins e s
taken_of class.Other b text other front back was begins e s = other_taken b.dot other text front back begins e s

-- where a token stands at the front of a text, the first piece is a token, a comment, or a place that breaks one of a few rules
pub token_is_taken : (b : Before) (text : List Character) (p : Part) (ps : List Part) (other : Piece) (front back : List Character) → Falls b text (p ∷ ps) → text ≡ front ++ back → Spells b.dot other front → (is_token p.piece || stands_instead p.piece) ≡ true
token_is_taken b text p ps other front back falls e s =
    ap (λ q. is_token q || stands_instead q) falls.1 ∙ taken_of (first_class text) b text other front back refl (begins_sort b.dot other text front back (first_class text) refl e s) e s
