-- Two parts with a token between them: the left one stands at the front, and what stands behind it tells where it ends.
use Rattle.std.proofs.Common.{◌≡◌, ℕ, suc, ◌+◌, ◌-◌, ◌≤◌, ◌<◌, Bool, false, List, ◌∷◌, ◌++◌, length, take, drop, get_or, Some, sym, ap, subst, ◌∙◌, arith, length-append, length-drop}
use Rattle.std.specs.List.{slice_get}
use Rattle.std.proofs.Math.Seq.{take-append_seam, drop-append_seam}
use Rattle.std.proofs.lemmas.List.{take-append-drop, drop-drop, drop_more, get_or-drop}
use Rattle.std.proofs.lemmas.Option.{slice_get_within, get_or_from_slice_get, slice_get-get_or}
use Rattle.vb_syntax.specs.declared.{tokens.Token.Token, types.TypeName.TypeName, expression.Expr.Expr}
use Rattle.vb_parse_expr.specs.{Types.{SpellsType, goes_on_type, IsTypeFront}, Expressions.{Spells, SpellsPrimary}, Fronts.{goes_on, goes_on_primary, IsFront, IsPrimaryFront}}
use Rattle.vb_parse_decl.specs.Parts.{IsExpression, IsPrimary, IsType, IsParted}

-- WHERE THE LEFT PART ENDS

-- no expression goes on with the token
abbrev pub EndsExpression : Token → Type 0
EndsExpression t = (ts : List Token) → goes_on (t ∷ ts) ≡ false

-- no primary goes on with it
abbrev pub EndsPrimary : Token → Type 0
EndsPrimary t = (ts : List Token) → goes_on_primary (t ∷ ts) ≡ false

-- no type goes on with it
abbrev pub EndsType : Token → Type 0
EndsType t = (dotted opened : Bool) (ts : List Token) → goes_on_type dotted opened (t ∷ ts) ≡ false

pub expression_before : (t : Token) → EndsExpression t → (left right : List Token) (x : Expr) → IsExpression left x → IsFront (left ++ t ∷ right) x (length left)
expression_before t ends left right x p = record {
  within = omega (arith, length-append left (t ∷ right));
  strength = p.strength;
  weakest = p.weakest;
  spells = subst (λ (us : List Token). Spells p.strength p.weakest us x) (sym (take-append_seam left (t ∷ right))) p.spells;
  over = ap goes_on (drop-append_seam left (t ∷ right)) ∙ ends right;
}

pub primary_before : (t : Token) → EndsPrimary t → (left right : List Token) (x : Expr) → IsPrimary left x → IsPrimaryFront (left ++ t ∷ right) x (length left)
primary_before t ends left right x p = record {
  within = omega (arith, length-append left (t ∷ right));
  edge = p.edge;
  spells = subst (λ (us : List Token). SpellsPrimary p.edge us x) (sym (take-append_seam left (t ∷ right))) p.spells;
  over = ap goes_on_primary (drop-append_seam left (t ∷ right)) ∙ ends right;
}

pub type_before : (t : Token) → EndsType t → (left right : List Token) (a : TypeName) → IsType left a → IsTypeFront (left ++ t ∷ right) a (length left)
type_before t ends left right a p = record {
  within = omega (arith, length-append left (t ∷ right));
  dotted = p.dotted;
  opened = p.opened;
  spells = subst (λ (us : List Token). SpellsType p.dotted p.opened us a) (sym (take-append_seam left (t ∷ right))) p.spells;
  over = subst (λ (us : List Token). goes_on_type p.dotted p.opened us ≡ false) (sym (drop-append_seam left (t ∷ right))) (ends p.dotted p.opened right);
}

pub expression_of_parted : {Y : Type 0} (t : Token) → EndsExpression t → (R : List Token → Y → Type 0) (ts : List Token) (x : Expr) (y : Y) (p : IsParted t IsExpression R ts x y) → IsFront ts x (length p.left)
expression_of_parted t ends R ts x y p = subst (λ (us : List Token). IsFront us x (length p.left)) (sym p.split) (expression_before t ends p.left p.right x p.is_left)

pub primary_of_parted : {Y : Type 0} (t : Token) → EndsPrimary t → (R : List Token → Y → Type 0) (ts : List Token) (x : Expr) (y : Y) (p : IsParted t IsPrimary R ts x y) → IsPrimaryFront ts x (length p.left)
primary_of_parted t ends R ts x y p = subst (λ (us : List Token). IsPrimaryFront us x (length p.left)) (sym p.split) (primary_before t ends p.left p.right x p.is_left)

pub type_of_parted : {Y : Type 0} (t : Token) → EndsType t → (R : List Token → Y → Type 0) (ts : List Token) (a : TypeName) (y : Y) (p : IsParted t IsType R ts a y) → IsTypeFront ts a (length p.left)
type_of_parted t ends R ts a y p = subst (λ (us : List Token). IsTypeFront us a (length p.left)) (sym p.split) (type_before t ends p.left p.right a p.is_left)

-- THE PLACE OF THE TOKEN BETWEEN

-- tokens up to a place where t stands, t, and the tokens behind it
pub cut : (tokens : List Token) (from behind : ℕ) (t : Token) → from ≤ behind → slice_get tokens behind ≡ Some t
    → drop from tokens ≡ take (behind - from) (drop from tokens) ++ t ∷ drop (behind + 1) tokens
cut tokens from behind t under at =
    let n : ℕ = behind - from in
    let place : from + n ≡ behind = omega arith in
    let here : drop behind tokens ≡ t ∷ drop (behind + 1) tokens =
    drop_more tokens behind t (slice_get_within tokens behind t at)
    ∙ ap (λ (u : Token). u ∷ drop (behind + 1) tokens) (get_or_from_slice_get tokens behind t t at) in
    let rest : drop n (drop from tokens) ≡ t ∷ drop (behind + 1) tokens =
    drop-drop n from tokens ∙ ap (λ (k : ℕ). drop k tokens) place ∙ here in
    sym (take-append-drop n (drop from tokens)) ∙ ap (λ (us : List Token). take n (drop from tokens) ++ us) rest

-- the two parts found are parted by it
pub parted_at : {X Y : Type 0} (t : Token) (L : List Token → X → Type 0) (R : List Token → Y → Type 0) (tokens : List Token) (from behind : ℕ) (x : X) (y : Y)
    → from ≤ behind → slice_get tokens behind ≡ Some t → L (take (behind - from) (drop from tokens)) x → R (drop (behind + 1) tokens) y
    → IsParted t L R (drop from tokens) x y
parted_at t L R tokens from behind x y under at p q = record {
  left = take (behind - from) (drop from tokens);
  right = drop (behind + 1) tokens;
  split = cut tokens from behind t under at;
  is_left = p;
  is_right = q;
}

-- back: what stands at the place where the left part ends
pub cut_place : (tokens left right : List Token) (from behind : ℕ) (t : Token) → from ≤ behind → behind - from ≡ length left
    → drop from tokens ≡ left ++ t ∷ right → drop behind tokens ≡ t ∷ right
cut_place tokens left right from behind t under size split =
    let place : from + length left ≡ behind = omega arith in
    ap (λ (k : ℕ). drop k tokens) (sym place) ∙ sym (drop-drop (length left) from tokens)
    ∙ ap (λ (us : List Token). drop (length left) us) split ∙ drop-append_seam left (t ∷ right)

pub first_dropped : (tokens right : List Token) (behind : ℕ) (t : Token) → drop behind tokens ≡ t ∷ right → slice_get tokens behind ≡ Some t
first_dropped tokens right behind t e =
    let size : length tokens - behind ≡ suc (length right) = sym (length-drop behind tokens) ∙ ap length e in
    let inside : behind < length tokens = omega arith in
    let at : get_or tokens behind t ≡ t =
    ap (λ (k : ℕ). get_or tokens k t) (omega arith) ∙ sym (get_or-drop behind tokens 0 t) ∙ ap (λ (us : List Token). get_or us 0 t) e in
    slice_get-get_or tokens behind t inside ∙ ap (λ (u : Token). Some u) at

pub rest_dropped : (tokens right : List Token) (behind : ℕ) (t : Token) → drop behind tokens ≡ t ∷ right → drop (behind + 1) tokens ≡ right
rest_dropped tokens right behind t e = sym (drop-drop 1 behind tokens) ∙ ap (λ (us : List Token). drop 1 us) e
