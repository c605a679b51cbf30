-- The numbers of digits, and texts at the front.
use Rattle.std.proofs.Common.{◌≡◌, ℕ, zero, suc, ◌+◌, ◌-◌, ◌*◌, ◌/◌, ◌^◌, ◌<◌, ◌≤◌, true, false, nat_lt, List, [], ◌∷◌, length, get_or, drop, take, Option, None, Some, refl, ap, ap₂, sym, ◌∙◌, length-take-le, add-one, drop-cons, arith, if◌then◌else◌}
use Rattle.std.specs.Char.{to_ascii_lowercase}
use Rattle.std.proofs.Math.ListN.{drop_of_length-le}
use Rattle.std.proofs.Math.Seq.{drop-nil}
use Rattle.std.proofs.Math.Nat.{le-mul_of_pos_right}
use Rattle.std.proofs.lemmas.Bool.{eq-eqb, ne_eqb}
use Rattle.std.proofs.lemmas.List.{drop-drop}
use Rattle.std.proofs.lemmas.Grind.{common_steps}
use Rattle.vb_syntax.specs.declared.tokens.{IntegerType.{IntegerType, TheVariants.{Short, UShort, Integer, UInteger, Long, ULong}}, IntegerLiteral.IntegerLiteral}
use Rattle.vb_lexer.specs.{declared.piece.Base.{Base, TheVariants.{Decimal, Hexadecimal, Octal}}, Characters.{Character, run_len}, Tokens.{is_digit, suffixes, suffix_in, suffix_type, suffix_len, integer_or_fault, number_of, number_at, fault, char_at, starts, base_number, digit_value, value_from, literal_of, decimal_literal, bits_literal}}
use Rattle.vb_lexer.specs.declared.piece.Fault.TheVariants as broken
use Rattle.vb_lexer.proofs.TokenBounds.{run_le}

pub value_step : (b n : ℕ) (ds : List Character) (i : ℕ) → i < length ds → value_from b n (drop i ds) ≡ value_from b (n * b + digit_value (get_or ds i None)) (drop (i + 1) ds)
unfolding value_from
value_step b n ds i h =
    let same : b * n + digit_value (get_or ds i None) ≡ n * b + digit_value (get_or ds i None) = omega arith in
    rw (add-one, drop-cons ds i None) (ap (λ k. value_from b k (drop (suc i) ds)) same)

pub value_end : (b n : ℕ) (ds : List Character) (i : ℕ) → length ds ≤ i → value_from b n (drop i ds) ≡ n
unfolding value_from
value_end b n ds i h = ap (λ us. value_from b n us) (drop_of_length-le ds h)

pub value_grows : (b n : ℕ) (ds : List Character) → 0 < b → n ≤ value_from b n ds
unfolding value_from
value_grows b n [] some = omega arith
value_grows b n (d ∷ ds) some = omega (arith, value_grows b (b * n + digit_value d) ds some, le-mul_of_pos_right n some)

some_base : (base : Base) → 0 < base_number base
some_base Decimal = omega arith
some_base Hexadecimal = omega arith
some_base Octal = omega arith

passes : (base : Base) (total digit : ℕ) → digit < 2 ^ 32 → (2 ^ 64 - 1 - digit) / base_number base < total → 2 ^ 64 ≤ total * base_number base + digit
passes Decimal total digit small over = omega arith
passes Hexadecimal total digit small over = omega arith
passes Octal total digit small over = omega arith

-- one digit more makes a number of more than 64 bits
pub value_over : (base : Base) (total digit : ℕ) (ds : List Character) (i : ℕ) → i < length ds → digit ≡ digit_value (get_or ds i None) → digit < 2 ^ 32 → (2 ^ 64 - 1 - digit) / base_number base < total → 2 ^ 64 ≤ value_from (base_number base) total (drop i ds)
value_over base total digit ds i below same small over =
    let step = value_step (base_number base) total ds i below in
    let more = value_grows (base_number base) (total * base_number base + digit_value (get_or ds i None)) (drop (i + 1) ds) (some_base base) in
    let large = passes base total digit small over in
    omega arith

pub none_above : (v : ℕ) → 2 ^ 64 ≤ v → None ≡ (if nat_lt v (2 ^ 64) then Some v else None)
none_above v h = grind (arith, common_steps)

pub some_below : (v : ℕ) → v < 2 ^ 64 → Some v ≡ (if nat_lt v (2 ^ 64) then Some v else None)
some_below v h = grind (arith, common_steps)

too_large_decimal : (kind : Option IntegerType) (digits v : ℕ) → 2 ^ 64 ≤ v → decimal_literal kind digits v ≡ None
too_large_decimal None digits v h = grind (arith, common_steps)
too_large_decimal (Some Short) digits v h = grind (arith, common_steps)
too_large_decimal (Some UShort) digits v h = grind (arith, common_steps)
too_large_decimal (Some Integer) digits v h = grind (arith, common_steps)
too_large_decimal (Some UInteger) digits v h = grind (arith, common_steps)
too_large_decimal (Some Long) digits v h = grind (arith, common_steps)
too_large_decimal (Some ULong) digits v h = grind (arith, common_steps)

too_large_bits : (kind : Option IntegerType) (v : ℕ) → 2 ^ 64 ≤ v → bits_literal kind v ≡ None
too_large_bits None v h = grind (arith, common_steps)
too_large_bits (Some Short) v h = grind (arith, common_steps)
too_large_bits (Some UShort) v h = grind (arith, common_steps)
too_large_bits (Some Integer) v h = grind (arith, common_steps)
too_large_bits (Some UInteger) v h = grind (arith, common_steps)
too_large_bits (Some Long) v h = grind (arith, common_steps)
too_large_bits (Some ULong) v h = grind (arith, common_steps)

-- no type has a number of more than 64 bits
pub too_large : (base : Base) (kind : Option IntegerType) (digits v : ℕ) → 2 ^ 64 ≤ v → literal_of base kind digits v ≡ None
unfolding literal_of
too_large Decimal kind digits v h = too_large_decimal kind digits v h
too_large Hexadecimal kind digits v h = too_large_bits kind v h
too_large Octal kind digits v h = too_large_bits kind v h

-- a character stands there, so the place is in the text
pub place_within : (ts : List Character) (i : ℕ) (c : ℕ) → char_at ts i ≡ Some c → i + 1 ≤ length ts
place_within [] i c at = cc
place_within (t ∷ ts) zero c at = omega arith
place_within (t ∷ ts) (suc i) c at = omega (arith, place_within ts i c at)

pub starts_end : (xs : List ℕ) (ts : List Character) (i : ℕ) → length xs ≤ i → starts (drop i xs) (drop i ts) ≡ true
starts_end xs ts i h = ap (λ us. starts us (drop i ts)) (drop_of_length-le xs h)

pub starts_on : (xs : List ℕ) (ts : List Character) (i : ℕ) (c : ℕ) → i < length xs → char_at ts i ≡ Some c → to_ascii_lowercase c ≡ get_or xs i 0 → starts (drop i xs) (drop i ts) ≡ starts (drop (suc i) xs) (drop (suc i) ts)
starts_on [] ts i c below at same = absurd (omega arith)
starts_on (x ∷ xs) [] i c below at same = cc
starts_on (x ∷ xs) (None ∷ ts) zero c below at same = cc
starts_on (x ∷ xs) (Some d ∷ ts) zero c below at same =
    let e : to_ascii_lowercase d ≡ x = cc in rw (eq-eqb _ _ e) refl
starts_on (x ∷ xs) (t ∷ ts) (suc i) c below at same = starts_on xs ts i c (omega arith) at same

pub starts_not : (xs : List ℕ) (ts : List Character) (i : ℕ) (c : ℕ) → i < length xs → char_at ts i ≡ Some c → (to_ascii_lowercase c ≡ get_or xs i 0 → ⊥) → starts (drop i xs) (drop i ts) ≡ false
starts_not [] ts i c below at differs = absurd (omega arith)
starts_not (x ∷ xs) [] i c below at differs = cc
starts_not (x ∷ xs) (None ∷ ts) zero c below at differs = cc
starts_not (x ∷ xs) (Some d ∷ ts) zero c below at differs =
    let same : d ≡ c = cc in rw (ne_eqb _ _ (λ e. differs (ap to_ascii_lowercase (sym same) ∙ e))) refl
starts_not (x ∷ xs) (t ∷ ts) (suc i) c below at differs = starts_not xs ts i c (omega arith) at differs

starts_nothing : (xs : List ℕ) (i : ℕ) → i < length xs → starts (drop i xs) (drop i []) ≡ false
starts_nothing [] i below = absurd (omega arith)
starts_nothing (x ∷ xs) zero below = refl
starts_nothing (x ∷ xs) (suc i) below = rw (drop-nil (suc i)) (let rest = starts_nothing xs i (omega arith) in rw (drop-nil i) at rest)

pub starts_none : (xs : List ℕ) (ts : List Character) (i : ℕ) → i < length xs → char_at ts i ≡ None → starts (drop i xs) (drop i ts) ≡ false
starts_none [] ts i below at = absurd (omega arith)
starts_none (x ∷ xs) [] i below at = starts_nothing (x ∷ xs) i below
starts_none (x ∷ xs) (None ∷ ts) zero below at = refl
starts_none (x ∷ xs) (Some d ∷ ts) zero below at = cc
starts_none (x ∷ xs) (t ∷ ts) (suc i) below at = starts_none xs ts i (omega arith) at

number_by : (base : Base) (mark n len : ℕ) (s : Option (List ℕ × IntegerType)) (kind : Option IntegerType) (o : Option IntegerLiteral) (text : List Character) → (n ≡ 0 → ⊥) → kind ≡ suffix_type s → len ≡ suffix_len s → o ≡ literal_of base kind n (value_from (base_number base) 0 (take n (drop mark text))) → integer_or_fault o (mark + n + len) text ≡ number_of base mark n s text
unfolding number_of
number_by base mark n len s kind o text some kinds lens literals = rw (ne_eqb n 0 some) cc

number_without : (base : Base) (mark n : ℕ) (s : Option (List ℕ × IntegerType)) (text : List Character) → n ≡ 0 → fault broken.NumberLiteral text ≡ number_of base mark n s text
unfolding number_of
number_without base mark n s text none = rw (eq-eqb n 0 none) refl

-- a number of n digits and a suffix
pub number_found : (base : Base) (mark n len : ℕ) (kind : Option IntegerType) (o : Option IntegerLiteral) (text behind digits after : List Character) → behind ≡ drop mark text → digits ≡ take n behind → after ≡ drop n behind → n ≡ run_len (is_digit base) behind → (n ≡ 0 → ⊥) → kind ≡ suffix_type (suffix_in suffixes after) → len ≡ suffix_len (suffix_in suffixes after) → o ≡ literal_of base kind (length digits) (value_from (base_number base) 0 digits) → integer_or_fault o (mark + n + len) text ≡ number_at base mark text
number_found base mark n len kind o text behind digits after is_behind are_digits is_after count some kinds lens literals =
    let taken : digits ≡ take n (drop mark text) = are_digits ∙ ap (λ b. take n b) is_behind in
    let few : length digits ≡ n = ap (λ d. length d) are_digits ∙ length-take-le n behind (omega (arith, count, run_le (is_digit base) behind)) in
    let rest : after ≡ drop (mark + n) text = is_after ∙ ap (λ b. drop n b) is_behind ∙ drop-drop n mark text in
    number_by base mark n len (suffix_in suffixes after) kind o text some kinds lens (literals ∙ ap₂ (λ k d. literal_of base kind k (value_from (base_number base) 0 d)) few taken)
    ∙ ap (λ d. number_of base mark n (suffix_in suffixes d) text) rest
    ∙ ap (λ k. number_of base mark k (suffix_in suffixes (drop (mark + k) text)) text) (count ∙ ap (λ b. run_len (is_digit base) b) is_behind)

-- no digit behind the mark
pub number_missing : (base : Base) (mark n : ℕ) (text behind : List Character) → behind ≡ drop mark text → n ≡ run_len (is_digit base) behind → n ≡ 0 → fault broken.NumberLiteral text ≡ number_at base mark text
number_missing base mark n text behind is_behind count none =
    number_without base mark _ _ text (sym (count ∙ ap (λ b. run_len (is_digit base) b) is_behind) ∙ none)
