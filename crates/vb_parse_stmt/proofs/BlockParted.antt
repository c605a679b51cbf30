-- Two parts with a token between them, of any kinds whose left one stands at the front in one way at most.
use Rattle.std.proofs.Common.{◌≡◌, ℕ, ◌+◌, ◌-◌, ◌≤◌, ◌<◌, List, [], ◌∷◌, ◌++◌, length, drop, Some, refl, sym, ap, subst, ◌∙◌, arith, length-append, length-drop}
use Rattle.std.specs.List.{slice_get}
use Rattle.std.proofs.Math.Seq.{drop-append_seam}
use Rattle.std.proofs.lemmas.List.{drop_more}
use Rattle.std.proofs.lemmas.Option.{slice_get_within, get_or_from_slice_get}
use Rattle.vb_syntax.specs.declared.tokens.Token.{Token}
use Rattle.vb_parse_expr.specs.TypeReading.{most_tokens}
use Rattle.vb_parse_decl.specs.Parts.{IsParted}
use Rattle.vb_parse_stmt.specs.BlockParts.{StandsFrom}
use Rattle.vb_parse_decl.proofs.{Parted.{cut_place, first_dropped, rest_dropped}, Refusals.OneFront}

-- where the token stands at a place, it is the first from there on
pub dropped_at : (tokens : List Token) (at : ℕ) (t : Token) → slice_get tokens at ≡ Some t → drop at tokens ≡ t ∷ drop (at + 1) tokens
dropped_at tokens at t here =
    drop_more tokens at t (slice_get_within tokens at t here) ∙ ap (λ (u : Token). u ∷ drop (at + 1) tokens) (get_or_from_slice_get tokens at t t here)

pub none_left : (ts : List Token) → length ts ≡ 0 → ts ≡ []
none_left [] e = refl
none_left (t ∷ ts) e = absurd (omega (arith, e))

-- a part that the token ends stands at the front
abbrev pub EndedBy : {X : Type 0} → Token → (List Token → X → Type 0) → (List Token → X → ℕ → Type 0) → Type 0
EndedBy {X} t L F = (left right : List Token) (x : X) → L left x → F (left ++ t ∷ right) x (length left)

pub left_front : {X Y : Type 0} (t : Token) (L : List Token → X → Type 0) (R : List Token → Y → Type 0) (F : List Token → X → ℕ → Type 0) → EndedBy t L F
    → (ts : List Token) (x : X) (y : Y) (p : IsParted t L R ts x y) → F ts x (length p.left)
left_front {X} {Y} t L R F ended ts x y p = subst (λ (us : List Token). F us x (length p.left)) (sym p.split) (ended p.left p.right x p.is_left)

-- where no left part stands from the place on, there are no two parts
pub no_left : {X Y : Type 0} (t : Token) (L : List Token → X → Type 0) (R : List Token → Y → Type 0) (F : List Token → X → ℕ → Type 0) → EndedBy t L F
    → (from : ℕ) (ts : List Token) → ((p : X × ℕ) → StandsFrom F from ts p → ⊥) → (x : X) (y : Y) → IsParted t L R ts x y → ⊥
no_left {X} {Y} t L R F ended from ts none x y p =
    let size : (from + length p.left) - from ≡ length p.left = omega arith in
    none (x, from + length p.left) (omega arith, subst (λ (n : ℕ). F ts x n) (sym size) (left_front t L R F ended ts x y p))

-- where another token stands behind the left part, or no right part behind the token, there are no two parts
pub no_parted : {X Y : Type 0} (t : Token) (L : List Token → X → Type 0) (R : List Token → Y → Type 0) (F : List Token → X → ℕ → Type 0) → EndedBy t L F
    → OneFront F → (tokens : List Token) (from behind : ℕ) (x : X) → length tokens ≤ most_tokens → from ≤ behind → F (drop from tokens) x (behind - from)
    → ((y : Y) → slice_get tokens behind ≡ Some t → R (drop (behind + 1) tokens) y → ⊥) → (x' : X) (y : Y) → IsParted t L R (drop from tokens) x' y → ⊥
no_parted {X} {Y} t L R F ended one tokens from behind x few under found none x' y p =
    let same = one (drop from tokens) x x' (behind - from) (length p.left) (omega (arith, few, length-drop from tokens)) found
    (left_front t L R F ended (drop from tokens) x' y p) in
    let rest = cut_place tokens p.left p.right from behind t under same.1 p.split in
    none y (first_dropped tokens p.right behind t rest) (subst (λ (us : List Token). R us y) (sym (rest_dropped tokens p.right behind t rest)) p.is_right)

-- a part that reaches up to the end can't stand at the front of more tokens
pub not_whole : {X : Type 0} (F : List Token → X → ℕ → Type 0) → OneFront F → (tokens : List Token) (from behind : ℕ) (x : X)
    → length tokens ≤ most_tokens → from ≤ length tokens → from ≤ behind → F (drop from tokens) x (behind - from) → (behind ≡ length tokens → ⊥)
    → (y : X) → F (drop from tokens) y (length (drop from tokens)) → ⊥
not_whole {X} F one tokens from behind x few inside under found short y p =
    let same = one (drop from tokens) x y (behind - from) (length (drop from tokens)) (omega (arith, few, length-drop from tokens)) found p in
    short (omega (arith, same.1, length-drop from tokens))

-- TWO READINGS OF THE SAME TOKENS

behind_same : (t : Token) (left right left' right' : List Token) → left ++ t ∷ right ≡ left' ++ t ∷ right' → length left ≡ length left' → right ≡ right'
behind_same t left right left' right' e size =
    let cut : t ∷ right ≡ t ∷ right' =
    sym (drop-append_seam left (t ∷ right)) ∙ ap (λ (us : List Token). drop (length left) us) e
    ∙ ap (λ (n : ℕ). drop n (left' ++ t ∷ right')) size ∙ drop-append_seam left' (t ∷ right') in
    cc

pub parted_longer : {X Y : Type 0} (t : Token) (L : List Token → X → Type 0) (R : List Token → Y → Type 0) (ts : List Token) (x : X) (y : Y) (p : IsParted t L R ts x y)
    → length p.left + length p.right < length ts
parted_longer {X} {Y} t L R ts x y p = omega (arith, ap length p.split, length-append p.left (t ∷ p.right))

-- there is one of a kind at most that all the tokens are
abbrev pub OneWhole : {X : Type 0} → (List Token → X → Type 0) → Type 0
OneWhole {X} P = (ts : List Token) (x y : X) → length ts ≤ most_tokens → P ts x → P ts y → x ≡ y

pub parted_same : {X Y : Type 0} (t : Token) (L : List Token → X → Type 0) (R : List Token → Y → Type 0) (F : List Token → X → ℕ → Type 0) → EndedBy t L F
    → OneFront F → OneWhole R → (ts : List Token) (x x' : X) (y y' : Y) → length ts ≤ most_tokens → IsParted t L R ts x y → IsParted t L R ts x' y'
    → (x ≡ x') × (y ≡ y')
parted_same {X} {Y} t L R F ended one whole ts x x' y y' few p q =
    let left = one ts x x' (length p.left) (length q.left) few (left_front t L R F ended ts x y p) (left_front t L R F ended ts x' y' q) in
    let right = behind_same t p.left p.right q.left q.right (sym p.split ∙ q.split) left.1 in
    let value = subst (λ (us : List Token). R us y) right p.is_right in
    (left.0, whole q.right y y' (omega (arith, parted_longer t L R ts x' y' q)) value q.is_right)

-- a left part and the token don't stand where a front reaches up to the end
pub no_whole_parted : {X Y : Type 0} (t : Token) (L : List Token → X → Type 0) (R : List Token → Y → Type 0) (F : List Token → X → ℕ → Type 0) → EndedBy t L F
    → OneFront F → (ts : List Token) (x x' : X) (y : Y) → length ts ≤ most_tokens → F ts x (length ts) → IsParted t L R ts x' y → ⊥
no_whole_parted {X} {Y} t L R F ended one ts x x' y few whole p =
    let same = one ts x x' (length ts) (length p.left) few whole (left_front t L R F ended ts x' y p) in
    omega (arith, same.1, parted_longer t L R ts x' y p)
