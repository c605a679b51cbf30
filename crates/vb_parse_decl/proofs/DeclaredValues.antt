-- Values, types and new objects that a comma or the line's end stands behind.
use Rattle.std.proofs.Common.{◌≡◌, ℕ, ◌+◌, ◌-◌, ◌≤◌, ◌<◌, Bool, true, false, List, [], ◌∷◌, ◌++◌, length, take, drop, Option, Some, None, refl, sym, ap, subst, ◌∙◌, arith, append_assoc, length-append, length-drop}
use Rattle.std.proofs.Math.Seq.{take-append_seam, drop-append_seam}
use Rattle.std.proofs.lemmas.List.{take-append-drop, length-take-le}
use Rattle.vb_syntax.specs.declared.symbol.Symbol.TheVariants as sign
use Rattle.vb_syntax.specs.declared.{tokens.Token.Token, types.{SimpleTypeName.SimpleTypeName, TypeName.TypeName}, expression.{Expr.{Expr, out-Expr, out-roll-Expr, TheOpen.Expr-F, TheVariants.rolls-ObjectCreation}, VariableInitializer.VariableInitializer}}
use Rattle.vb_syntax.specs.declared.tokens.Token.TheVariants as token
use Rattle.vb_syntax.specs.declared.expression.Expr.TheVariants as e
use Rattle.vb_syntax.specs.declared.expression.VariableInitializer.TheVariants as init
use Rattle.vb_parse_expr.specs.{TypeReading.most_tokens, Types.{SpellsType, goes_on_type, IsTypeFront}, Expressions.SpellsInitializer, Fronts.{goes_on_primary, goes_on_initializer, IsPrimaryFront, IsInitializerFront}}
use Rattle.vb_parse_decl.specs.{Parts.{equal, IsType}, Declarators.IsNew, DeclaredReading.{IsPartAt, IsTyped, is_over, begins_equal}}
use Rattle.vb_parse_decl.proofs.{Refusals.OneFront, DeclaredParts.{EndsExpressions, part_before, dropped_small, dropped_to, not_over, next_dropped, inside}}

pub over_ends : EndsExpressions is_over
over_ends [] e = refl
over_ends (token.Symbol sign.Comma ∷ ts) e = refl
over_ends ts e = absurd cc

-- FIRST VALUES

initializer_over : (i : VariableInitializer) (ts : List Token) → is_over ts ≡ true → goes_on_initializer i ts ≡ false
initializer_over (init.Expression x) ts e = over_ends ts e
initializer_over i ts e = refl

pub initializer_at : (ts : List Token) (i : VariableInitializer) (n : ℕ) → IsPartAt is_over SpellsInitializer ts i n → IsInitializerFront ts i n
initializer_at ts i n p = record { within = p.within; spells = p.part; over = initializer_over i (drop n ts) p.over }

pub no_initializer_at : OneFront IsInitializerFront → (tokens : List Token) (from behind : ℕ) (i : VariableInitializer)
    → length tokens ≤ most_tokens → from ≤ behind → IsInitializerFront (drop from tokens) i (behind - from) → is_over (drop behind tokens) ≡ false
    → (j : VariableInitializer) (n : ℕ) → IsPartAt is_over SpellsInitializer (drop from tokens) j n → ⊥
no_initializer_at one tokens from behind i few under found other j n p =
    let same = one (drop from tokens) i j (behind - from) n (dropped_small tokens from few) found (initializer_at (drop from tokens) j n p) in
    not_over is_over tokens from behind n under (sym same.1) p.over other

one_initializer : OneFront IsInitializerFront → OneFront (IsPartAt is_over SpellsInitializer)
one_initializer one ts i j n m few p q = one ts i j n m few (initializer_at ts i n p) (initializer_at ts j m q)

-- NEW OBJECTS

primary_over : (ts : List Token) → is_over ts ≡ true → goes_on_primary ts ≡ false
primary_over [] e = refl
primary_over (token.Symbol sign.Comma ∷ ts) e = refl
primary_over ts e = absurd cc

pub new_at : (ts : List Token) (p : SimpleTypeName × List Expr) (n : ℕ) → IsPartAt is_over IsNew ts p n → IsPrimaryFront ts (e.ObjectCreation p.0 p.1) n
new_at ts c n p = record { within = p.within; edge = p.part.edge; spells = p.part.spells; over = primary_over (drop n ts) p.over }

-- another primary was found, or it ends elsewhere
pub no_new : OneFront IsPrimaryFront → (tokens : List Token) (from behind : ℕ) (x : Expr)
    → length tokens ≤ most_tokens → from ≤ behind → IsPrimaryFront (drop from tokens) x (behind - from)
    → ((p : SimpleTypeName × List Expr) → x ≡ e.ObjectCreation p.0 p.1 → is_over (drop behind tokens) ≡ true → ⊥)
    → (p : SimpleTypeName × List Expr) (n : ℕ) → IsPartAt is_over IsNew (drop from tokens) p n → ⊥
no_new one tokens from behind x few under found none c n p =
    let same = one (drop from tokens) x (e.ObjectCreation c.0 c.1) (behind - from) n (dropped_small tokens from few) found (new_at (drop from tokens) c n p) in
    none c same.0 (sym (ap is_over (dropped_to tokens from behind n under (sym same.1))) ∙ p.over)

arguments_at : Expr-F Expr VariableInitializer → List Expr
arguments_at (Expr-F.ObjectCreation a xs) = xs
arguments_at x = []

arguments_of : Expr → List Expr
arguments_of x = arguments_at (out-Expr x)

arguments_are : (a : SimpleTypeName) (xs : List Expr) → arguments_of (e.ObjectCreation a xs) ≡ xs
unfolding arguments_of arguments_at
arguments_are a xs = ap arguments_of (sym (rolls-ObjectCreation a xs)) ∙ ap arguments_at (out-roll-Expr (Expr-F.ObjectCreation a xs))

pub one_new : OneFront IsPrimaryFront → OneFront (IsPartAt is_over IsNew)
one_new one ts c d n m few p q =
    let same = one ts (e.ObjectCreation c.0 c.1) (e.ObjectCreation d.0 d.1) n m few (new_at ts c n p) (new_at ts d m q) in
    let class : c.0 ≡ d.0 = cc (same.0) in
    let arguments : c.1 ≡ d.1 = sym (arguments_are c.0 c.1) ∙ ap arguments_of same.0 ∙ arguments_are d.0 d.1 in
    (ap (λ (a : SimpleTypeName). (a, c.1)) class ∙ ap (λ (xs : List Expr). (d.0, xs)) arguments, same.1)

-- TYPES WITH A FIRST VALUE OR WITHOUT

type_over : (dotted opened : Bool) (ts : List Token) → is_over ts ≡ true → goes_on_type dotted opened ts ≡ false
type_over true true [] e = refl
type_over true false [] e = refl
type_over false true [] e = refl
type_over false false [] e = refl
type_over true true (token.Symbol sign.Comma ∷ ts) e = refl
type_over true false (token.Symbol sign.Comma ∷ ts) e = refl
type_over false true (token.Symbol sign.Comma ∷ ts) e = refl
type_over false false (token.Symbol sign.Comma ∷ ts) e = refl
type_over dotted opened ts e = absurd cc

equal_over : (dotted opened : Bool) (ts : List Token) → goes_on_type dotted opened (equal ∷ ts) ≡ false
equal_over true true ts = refl
equal_over true false ts = refl
equal_over false true ts = refl
equal_over false false ts = refl

-- what stands behind the type
abbrev pub ValueAt : List Token → Option VariableInitializer → ℕ → ℕ → Type 0
ValueAt ts None n size = (n ≡ size) × (is_over (drop size ts) ≡ true)
ValueAt ts (Some i) n size = (us : List Token) × (m : ℕ) × (drop size ts ≡ equal ∷ us) × IsPartAt is_over SpellsInitializer us i m × (n ≡ size + 1 + m)

-- the type at the front, and what stands behind it
abbrev pub TypedAt : List Token → TypeName × Option VariableInitializer → ℕ → Type 0
TypedAt ts p n = (size : ℕ) × IsTypeFront ts p.0 size × ValueAt ts p.1 n size

value_split : (ts left right : List Token) (n : ℕ) → take n ts ≡ left ++ equal ∷ right → ts ≡ left ++ equal ∷ (right ++ drop n ts)
value_split ts left right n e =
    sym (take-append-drop n ts) ∙ ap (λ (us : List Token). us ++ drop n ts) e ∙ append_assoc left (equal ∷ right) (drop n ts)

type_part : (ts left rest : List Token) (a : TypeName) → ts ≡ left ++ rest → IsType left a
    → ((dotted opened : Bool) → goes_on_type dotted opened rest ≡ false) → IsTypeFront ts a (length left)
type_part ts left rest a split p over =
    subst (λ (us : List Token). IsTypeFront us a (length left)) (sym split)
    (record {
      within = omega (arith, length-append left rest);
      dotted = p.dotted;
      opened = p.opened;
      spells = subst (λ (us : List Token). SpellsType p.dotted p.opened us a) (sym (take-append_seam left rest)) p.spells;
      over = subst (λ (us : List Token). goes_on_type p.dotted p.opened us ≡ false) (sym (drop-append_seam left rest)) (over p.dotted p.opened);
    })

pub typed_at : (ts : List Token) (p : TypeName × Option VariableInitializer) (n : ℕ) → IsPartAt is_over IsTyped ts p n → TypedAt ts p n
typed_at ts (a, None) n p =
    let size : length (take n ts) ≡ n = length-take-le n ts p.within in
    let front = type_part ts (take n ts) (drop n ts) a (sym (take-append-drop n ts)) p.part (λ dotted opened. type_over dotted opened (drop n ts) p.over) in
    (n, subst (λ (k : ℕ). IsTypeFront ts a k) size front, (refl, p.over))
typed_at ts (a, Some i) n p =
    let left : List Token = p.part.left in
    let right : List Token = p.part.right in
    let whole = value_split ts left right n p.part.split in
    let rest : List Token = right ++ drop n ts in
    let taken : length (take n ts) ≡ length (left ++ equal ∷ right) = ap length p.part.split in
    let far : n ≡ length left + 1 + length right = omega (arith, taken, length-take-le n ts p.within, length-append left (equal ∷ right)) in (
      length left,
      type_part ts left (equal ∷ rest) a whole p.part.is_left (λ dotted opened. equal_over dotted opened rest),
      (
        rest,
        length right,
        ap (λ (us : List Token). drop (length left) us) whole ∙ drop-append_seam left (equal ∷ rest),
        part_before is_over SpellsInitializer right (drop n ts) i p.over p.part.is_right,
        far,
      ),
    )

no_value : (ts us : List Token) → is_over ts ≡ true → ts ≡ equal ∷ us → ⊥
no_value ts us over e = let there : is_over (equal ∷ us) ≡ true = ap is_over (sym e) ∙ over in absurd cc

same_values : OneFront IsInitializerFront → (ts : List Token) (i j : Option VariableInitializer) (n m size : ℕ) → length ts ≤ most_tokens
    → ValueAt ts i n size → ValueAt ts j m size → (i ≡ j) × (n ≡ m)
same_values one ts None None n m size few p q = (refl, p.0 ∙ sym q.0)
same_values one ts None (Some j) n m size few p q = absurd (no_value (drop size ts) q.0 p.1 q.2)
same_values one ts (Some i) None n m size few p q = absurd (no_value (drop size ts) p.0 q.1 p.2)
same_values one ts (Some i) (Some j) n m size few p q =
    let whole : equal ∷ p.0 ≡ equal ∷ q.0 = sym p.2 ∙ q.2 in
    let rest : q.0 ≡ p.0 = cc (whole) in
    let small : length p.0 ≤ most_tokens = omega (arith, few, ap length p.2, length-drop size ts) in
    let there : IsPartAt is_over SpellsInitializer p.0 j q.1 = subst (λ (us : List Token). IsPartAt is_over SpellsInitializer us j q.1) rest q.3 in
    let same = one_initializer one p.0 i j p.1 q.1 small p.3 there in
    (ap (λ (k : VariableInitializer). Some k) same.0, omega (arith, same.1, p.4, q.4))

pub one_typed : OneFront IsTypeFront → OneFront IsInitializerFront → OneFront (IsPartAt is_over IsTyped)
one_typed one_type one_value ts (a, i) (b, j) n m few p q =
    let here = typed_at ts (a, i) n p in
    let there = typed_at ts (b, j) m q in
    let same = one_type ts a b here.0 there.0 few here.1 there.1 in
    let values = same_values one_value ts i j n m here.0 few here.2 (subst (λ (k : ℕ). ValueAt ts j m k) (sym same.1) there.2) in
    (ap (λ (c : TypeName). (c, i)) same.0 ∙ ap (λ (k : Option VariableInitializer). (b, k)) values.0, values.1)

-- no type, no first value behind the type, or other tokens
pub no_typed_at : (ts : List Token) → ((a : TypeName) (n : ℕ) → IsTypeFront ts a n → ⊥)
    → (p : TypeName × Option VariableInitializer) (n : ℕ) → IsPartAt is_over IsTyped ts p n → ⊥
no_typed_at ts none (a, i) n p = let there = typed_at ts (a, i) n p in none a there.0 there.1

by_value : (tokens : List Token) (from behind : ℕ) (i : Option VariableInitializer) (n size : ℕ) → from ≤ behind → size ≡ behind - from
    → is_over (drop behind tokens) ≡ false
    → ((j : VariableInitializer) (m : ℕ) → begins_equal (drop behind tokens) ≡ true → IsPartAt is_over SpellsInitializer (drop (behind + 1) tokens) j m → ⊥)
    → ValueAt (drop from tokens) i n size → ⊥
by_value tokens from behind None n size under far over none (e, p) = not_over is_over tokens from behind size under far p over
by_value tokens from behind (Some i) n size under far over none (us, m, at, p, e) =
    let here : drop behind tokens ≡ equal ∷ us = sym (dropped_to tokens from behind size under far) ∙ at in
    none i m (ap begins_equal here) (subst (λ (vs : List Token). IsPartAt is_over SpellsInitializer vs i m) (sym (next_dropped tokens behind equal us here)) p)

pub other_typed : OneFront IsTypeFront → (tokens : List Token) (from behind : ℕ) (a : TypeName) → length tokens ≤ most_tokens
    → from ≤ behind → IsTypeFront (drop from tokens) a (behind - from) → is_over (drop behind tokens) ≡ false
    → ((j : VariableInitializer) (m : ℕ) → begins_equal (drop behind tokens) ≡ true → IsPartAt is_over SpellsInitializer (drop (behind + 1) tokens) j m → ⊥)
    → (p : TypeName × Option VariableInitializer) (n : ℕ) → IsPartAt is_over IsTyped (drop from tokens) p n → ⊥
other_typed one tokens from behind a few under found over none (b, i) n p =
    let there = typed_at (drop from tokens) (b, i) n p in
    let same = one (drop from tokens) a b (behind - from) there.0 (dropped_small tokens from few) found there.1 in
    by_value tokens from behind i n there.0 under (sym same.1) over none there.2

equal_first : (ts : List Token) → begins_equal ts ≡ true → ts ≡ equal ∷ drop 1 ts
equal_first (token.Symbol sign.Equal ∷ ts) e = refl
equal_first ts e = absurd cc

pub equal_inside : (tokens : List Token) (behind : ℕ) → begins_equal (drop behind tokens) ≡ true → behind < length tokens
equal_inside tokens behind e = inside tokens behind equal (drop 1 (drop behind tokens)) (equal_first (drop behind tokens) e)

pub value_at : (tokens : List Token) (from behind end : ℕ) (a : TypeName) (i : VariableInitializer) → from ≤ behind → behind + 1 ≤ end
    → IsTypeFront (drop from tokens) a (behind - from) → begins_equal (drop behind tokens) ≡ true
    → IsPartAt is_over SpellsInitializer (drop (behind + 1) tokens) i (end - (behind + 1)) → IsPartAt is_over IsTyped (drop from tokens) (a, Some i) (end - from)
value_at tokens from behind end a i under further found e p =
    let k : ℕ = behind - from in
    let m : ℕ = end - (behind + 1) in
    let ts : List Token = drop from tokens in
    let first = equal_first (drop behind tokens) e in
    let next : drop (behind + 1) tokens ≡ drop 1 (drop behind tokens) = next_dropped tokens behind equal (drop 1 (drop behind tokens)) first in
    let us : List Token = drop (behind + 1) tokens in
    let left : List Token = take k ts ++ equal ∷ take m us in
    let here : drop k ts ≡ equal ∷ us = dropped_to tokens from behind k under refl ∙ first ∙ ap (λ (vs : List Token). equal ∷ vs) (sym next) in
    let whole : left ++ drop m us ≡ ts =
    append_assoc (take k ts) (equal ∷ take m us) (drop m us) ∙ ap (λ (vs : List Token). take k ts ++ equal ∷ vs) (take-append-drop m us)
    ∙ ap (λ (vs : List Token). take k ts ++ vs) (sym here) ∙ take-append-drop k ts in
    let parts : IsTyped left (a, Some i) = record {
      left = take k ts;
      right = take m us;
      split = refl;
      is_left = record { dotted = found.dotted; opened = found.opened; spells = found.spells };
      is_right = p.part;
    } in
    let there = part_before is_over IsTyped left (drop m us) (a, Some i) p.over parts in
    let far : length left ≡ end - from =
    omega (arith, length-append (take k ts) (equal ∷ take m us), length-take-le k ts found.within, length-take-le m us p.within) in
    subst (λ (vs : List Token). IsPartAt is_over IsTyped vs (a, Some i) (end - from)) whole
    (subst (λ (n : ℕ). IsPartAt is_over IsTyped (left ++ drop m us) (a, Some i) n) far there)
