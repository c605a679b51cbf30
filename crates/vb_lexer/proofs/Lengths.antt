-- A file has no more characters than bytes.
use Rattle.std.proofs.Common.{ℕ, suc, ◌≤◌, Bool, true, false, List, [], ◌∷◌, length, drop, if◌then◌else◌, slice_index, ap, length-drop, arith}
use Rattle.bstr.specs.Utf8.{decoded}
use Rattle.bstr.proofs.lemmas.PieceLemmas.{size-bounds}
use Rattle.vb_lexer.specs.Characters.{Character, Decodes, IsText, is_char, without_mark}

-- each character takes a byte at least
pub decodes_len : (bytes : List ℕ) (cs : List Character) → Decodes bytes cs → length cs ≤ length bytes
decodes_len bytes [] d = omega arith
decodes_len bytes (c ∷ cs) d =
    let size = size-bounds (length bytes) (slice_index bytes 0) (slice_index bytes 1) (slice_index bytes 2) (slice_index bytes 3) d.0 in
    let rest = decodes_len (drop (decoded bytes).size bytes) cs d.2 in
    omega (arith, size.0, size.2, rest, length-drop (decoded bytes).size bytes)

unmarked_by : (b : Bool) (c : Character) (cs : List Character) → length (if b then cs else c ∷ cs) ≤ suc (length cs)
unmarked_by true c cs = omega arith
unmarked_by false c cs = omega arith

unmarked_len : (all : List Character) → length (without_mark all) ≤ length all
unmarked_len [] = omega arith
unmarked_len (c ∷ cs) = unmarked_by (is_char c 0xFEFF) c cs

pub text_len : (bytes : List ℕ) (text : List Character) → IsText bytes text → length text ≤ length bytes
text_len bytes text t =
    omega (arith, decodes_len bytes t.0 t.1, unmarked_len t.0, ap (λ us. length us) t.2)
