-- Each piece takes a character at least, and none past the end of the text.
use Rattle.std.proofs.Common.{◌≡◌, ℕ, suc, ◌+◌, ◌<◌, ◌≤◌, Bool, true, false, ◌&&◌, List, [], ◌∷◌, length, drop, Option, None, Some, refl, ap, arith, if◌then◌else◌, length-drop}
use Rattle.std.proofs.lemmas.Bool.{and_parts}
use Rattle.std.specs.Prelude.{codes}
use Rattle.vb_lexer.specs.{declared.{piece.{Piece.Piece, Before.Before, Base.TheVariants.Decimal}, characters.Class.Class}, Characters.{Character, is_char, is_line_end, is_in_line, is_name_part, is_remark, is_space, class_of, run_len}, Tokens.{char_at, found, fault, name_len, content_len, quoted_at}, Pieces.{line_end_len, ends_line, space_of, is_rest, behind_space, is_word_at, region_start, region_named, region_start_of, region_end_of, region_at, piece_of, piece_at}}
use Rattle.vb_lexer.specs.declared.piece.Piece.TheVariants as piece
use Rattle.vb_lexer.specs.declared.piece.Fault.TheVariants as broken
use Rattle.vb_lexer.specs.declared.characters.Class.TheVariants as class
use Rattle.vb_lexer.proofs.{Runs.at_within, TokenBounds.{Within, within_if, run_le, run_some, run_within, fault_within, in_line_of, remark_of, line_end_of, name_part_of, word_le, word_within, connected_within, bracketed_within, number_within, symbol_within, ampersand_within, content_within, quoted_by}}

-- GAPS

line_end_by_two : (l two : Bool) (cs : List Character) → (two ≡ true → 0 < length cs) → (l ≡ true → 0 < (if l then (if two then 2 else 1) else 0)) × ((if l then (if two then 2 else 1) else 0) ≤ suc (length cs))
line_end_by_two true true cs h = ((λ e. omega arith), omega (arith, h refl))
line_end_by_two true false cs h = ((λ e. omega arith), omega arith)
line_end_by_two false two cs h = ((λ e. cc), omega arith)

line_end_bounds : (c : Character) (cs : List Character) → (is_line_end c ≡ true → 0 < line_end_len (c ∷ cs)) × (line_end_len (c ∷ cs) ≤ suc (length cs))
line_end_bounds c cs =
    line_end_by_two (is_line_end c) (is_char c 13 && is_char (char_at cs 0) 10) cs
    (λ e. at_within cs 0 10 (and_parts (is_char c 13) (is_char (char_at cs 0) 10) e).1)

line_end_le : (text : List Character) → line_end_len text ≤ length text
line_end_le [] = omega arith
line_end_le (c ∷ cs) = (line_end_bounds c cs).1

line_end_within : (text : List Character) → 0 < length text → is_line_end (char_at text 0) ≡ true → Within (found piece.LineEnd (line_end_len text)) text
line_end_within [] some e = absurd (omega (arith, some))
line_end_within (c ∷ cs) some e = let bounds = line_end_bounds c cs in (bounds.0 e, bounds.1)

space_within : (n : ℕ) (text : List Character) → n ≤ length (drop 2 text) → 0 < length text → Within (space_of n text) text
unfolding space_of
space_within n text blank some =
    within_if (is_char (char_at text 1) 95 && ends_line (drop (n + 2) text)) _ (found piece.Space 1) text
    (λ e.
    let second = at_within text 1 95 (and_parts (is_char (char_at text 1) 95) (ends_line (drop (n + 2) text)) e).0 in
    (omega arith, omega (arith, second, blank, length-drop 2 text, line_end_le (drop (n + 2) text), length-drop (n + 2) text)))
    (λ e. (omega arith, some))

-- REGION LINES

start_within : (p : Piece) (n : ℕ) (text : List Character) → 0 < n → n ≤ length text → 0 < length text → is_in_line (char_at text 0) ≡ true → Within (region_start p n text) text
start_within piece.Text n text first within some line = (first, within)
start_within (piece.Fault broken.NotUtf8) n text first within some line = fault_within broken.NotUtf8 text some line
start_within _ n text first within some line = fault_within broken.NumberSign text some line

named_by : (m : Option ℕ) (n : ℕ) (text : List Character) → content_len (drop (n + 1) text) ≡ m → n < length text → 0 < length text → is_in_line (char_at text 0) ≡ true → Within (region_named m n text) text
named_by None n text e before some line = fault_within broken.NumberSign text some line
named_by (Some m) n text e before some line =
    let closed = content_within (drop (n + 1) text) m e in
    let rest = run_len is_remark (drop (n + m + 2) text) in
    let few = run_le is_remark (drop (n + m + 2) text) in
    within_if (is_rest (behind_space (drop (n + m + 2) text))) (region_start (quoted_at (drop n text)).piece (n + m + 2 + rest) text) (fault broken.NumberSign text) text
    (λ r. start_within (quoted_at (drop n text)).piece (n + m + 2 + rest) text (omega arith) (omega (arith, closed, few, length-drop (n + 1) text, length-drop (n + m + 2) text)) some line)
    (λ r. fault_within broken.NumberSign text some line)

start_of_within : (n : ℕ) (text : List Character) → 0 < length text → is_in_line (char_at text 0) ≡ true → Within (region_start_of n text) text
unfolding region_start_of
start_of_within n text some line =
    within_if (is_char (char_at text (n + 7)) 34) _ (fault broken.NumberSign text) text
    (λ e. named_by (content_len (drop (n + 8) text)) (n + 7) text (ap (λ k. content_len (drop k text)) (omega arith)) (at_within text (n + 7) 34 e) some line)
    (λ e. fault_within broken.NumberSign text some line)

end_of_within : (n : ℕ) (text : List Character) → 0 < length text → is_in_line (char_at text 0) ≡ true → Within (region_end_of n text) text
unfolding region_end_of
end_of_within n text some line =
    within_if (is_word_at (codes "region") (drop (n + 4) text) && is_rest (behind_space (drop (n + 10) text))) (found piece.RegionEnd (n + 10 + run_len is_remark (drop (n + 10) text))) (fault broken.NumberSign text) text
    (λ e.
    let word = word_le (codes "region") (drop (n + 4) text) (and_parts (is_word_at (codes "region") (drop (n + 4) text)) (is_rest (behind_space (drop (n + 10) text))) e).0 in
    (omega arith, omega (arith, word, run_le is_remark (drop (n + 10) text), length-drop (n + 4) text, length-drop (n + 10) text)))
    (λ e. fault_within broken.NumberSign text some line)

region_within : (text : List Character) → 0 < length text → is_in_line (char_at text 0) ≡ true → Within (region_at text) text
region_within text some line =
    within_if (is_word_at (codes "region") (drop 1 text)) (region_start_of (run_len is_space (drop 7 text)) text) _ text
    (λ e. start_of_within (run_len is_space (drop 7 text)) text some line)
    (λ e. within_if (is_word_at (codes "end") (drop 1 text)) (region_end_of (run_len is_space (drop 4 text)) text) (fault broken.NumberSign text) text
    (λ d. end_of_within (run_len is_space (drop 4 text)) text some line)
    (λ d. fault_within broken.NumberSign text some line))

-- PIECES

bounds_of : (k : Class) (b : Before) (text : List Character) → 0 < length text → class_of (char_at text 0) ≡ k → Within (piece_of k b text) text
unfolding piece_of
bounds_of class.Unreadable b text some was = fault_within broken.NotUtf8 text some (in_line_of (char_at text 0) class.Unreadable was (λ h. cc))
bounds_of class.LineEnd b text some was = line_end_within text some (line_end_of (char_at text 0) was)
bounds_of class.Space b text some was = space_within (run_len is_space (drop 2 text)) text (run_le is_space (drop 2 text)) some
bounds_of class.Letter b text some was =
    word_within b.dot (name_len text) text (run_some is_name_part text some (name_part_of (char_at text 0) was)) (run_le is_name_part text) some
    (in_line_of (char_at text 0) class.Letter was (λ h. cc))
bounds_of class.Connector b text some was = connected_within (name_len text) text (run_le is_name_part text) some (in_line_of (char_at text 0) class.Connector was (λ h. cc))
bounds_of class.Digit b text some was = number_within Decimal 0 text some (in_line_of (char_at text 0) class.Digit was (λ h. cc))
bounds_of class.Quote b text some was = quoted_by (content_len (drop 1 text)) text refl some (in_line_of (char_at text 0) class.Quote was (λ h. cc))
bounds_of class.Apostrophe b text some was = run_within piece.Comment is_remark text some (remark_of (char_at text 0) was)
bounds_of class.Bracket b text some was = bracketed_within (name_len (drop 1 text)) text some (in_line_of (char_at text 0) class.Bracket was (λ h. cc))
bounds_of class.NumberSign b text some was =
    let line = in_line_of (char_at text 0) class.NumberSign was (λ h. cc) in
    within_if b.line_front (region_at text) (fault broken.NumberSign text) text (λ e. region_within text some line) (λ e. fault_within broken.NumberSign text some line)
bounds_of class.Ampersand b text some was = ampersand_within text some (in_line_of (char_at text 0) class.Ampersand was (λ h. cc))
bounds_of class.Other b text some was = symbol_within text some (in_line_of (char_at text 0) class.Other was (λ h. cc))

-- a piece takes a character at least, and none past the end
pub piece_bounds : (b : Before) (text : List Character) → 0 < length text → (0 < (piece_at b text).length) × ((piece_at b text).length ≤ length text)
piece_bounds b text some = bounds_of (class_of (char_at text 0)) b text some refl
