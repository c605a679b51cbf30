-- What follows of the least of a set and of the lesser of two.
use Rattle.std.proofs.Common.{◌≡◌, ◌⊎◌, inl, inr, ℕ, ◌<◌, ◌≤◌, Bool, true, false, cond, Option, Some, None, refl, sym, ap, subst, ◌∙◌, arith}
use Rattle.std.proofs.lemmas.Cmp.{ranked}
use Rattle.std.specs.declared.cmp.Ordering.{Ordering}
use Rattle.std.specs.declared.cmp.Ordering.TheVariants.{Less, Equal, Greater}
use Rattle.std.specs.Ordering.{MatchOrdering, nat_cmp, ordering_then, is_lt}
use Rattle.vb_diag.specs.{declared.refusal.Refusal.Refusal, Broken.{IsNotAfter, told_order, IsLeastBy, IsLeast, IsLeastLine, lesser_by, InFile, OfRule, broken_at}}

-- The relation is an order, and the comparison tells it.
pub record IsOrder {X : Type 0} (NotAfter : X → X → Type 0) (order : X → X → Ordering) : Type 0 where
  pub first : (a b : X) → is_lt (order b a) ≡ false → NotAfter a b
  pub second : (a b : X) → is_lt (order b a) ≡ true → NotAfter b a
  pub along : (a b c : X) → NotAfter a b → NotAfter b c → NotAfter a c
  pub one : (a b : X) → NotAfter a b → NotAfter b a → a ≡ b

module _ {X : Type 0} {NotAfter : X → X → Type 0} {order : X → X → Ordering} (o : IsOrder NotAfter order) where
  -- a set with the same members has the same least
  pub least_same : (P Q : X → Type 0) (found : Option X) → IsLeastBy NotAfter P found → ((x : X) → P x → Q x) → ((x : X) → Q x → P x) → IsLeastBy NotAfter Q found
  least_same P Q None least there back = λ x q. least x (back x q)
  least_same P Q (Some f) least there back = (there f least.0, λ x q. least.1 x (back x q))

  self_by : (x : X) (b : Bool) → is_lt (order x x) ≡ b → NotAfter x x
  self_by x true e = o.second x x e
  self_by x false e = o.first x x e

  -- each is not after itself
  pub itself : (x : X) → NotAfter x x
  itself x = self_by x (is_lt (order x x)) refl

  chosen : (P Q : X → Type 0) (x y : X) (b : Bool) → is_lt (order y x) ≡ b → IsLeastBy NotAfter P (Some x) → IsLeastBy NotAfter Q (Some y) → IsLeastBy NotAfter (λ z. P z ⊎ Q z) (Some (cond b y x))
  chosen P Q x y true e p q = (inr q.0, λ z u. elim u [ inl h ↦ o.along y x z (o.second x y e) (p.1 z h) | inr h ↦ q.1 z h ])
  chosen P Q x y false e p q = (inl p.0, λ z u. elim u [ inl h ↦ p.1 z h | inr h ↦ o.along x y z (o.first x y e) (q.1 z h) ])

  -- the least of two sets is the lesser of their leasts
  pub least_of_two : (P Q : X → Type 0) (a b : Option X) → IsLeastBy NotAfter P a → IsLeastBy NotAfter Q b → IsLeastBy NotAfter (λ z. P z ⊎ Q z) (lesser_by order a b)
  least_of_two P Q None None p q = λ z u. elim u [ inl h ↦ p z h | inr h ↦ q z h ]
  least_of_two P Q None (Some y) p q = (inr q.0, λ z u. elim u [ inl h ↦ absurd (p z h) | inr h ↦ q.1 z h ])
  least_of_two P Q (Some x) None p q = (inl p.0, λ z u. elim u [ inl h ↦ p.1 z h | inr h ↦ absurd (q z h) ])
  least_of_two P Q (Some x) (Some y) p q = chosen P Q x y (is_lt (order y x)) refl p q

  -- a set has one least at most
  pub one_least : (P : X → Type 0) (a b : Option X) → IsLeastBy NotAfter P a → IsLeastBy NotAfter P b → a ≡ b
  one_least P None None p q = refl
  one_least P None (Some y) p q = absurd (p y q.0)
  one_least P (Some x) None p q = absurd (q x p.0)
  one_least P (Some x) (Some y) p q = ap (λ z. Some z) (o.one x y (p.1 y q.0) (q.1 x p.0))

  -- the least of one at most
  pub least_itself : (a : Option X) → IsLeastBy NotAfter (λ x. a ≡ Some x) a
  least_itself None = λ x e. cc
  least_itself (Some x) = (refl, λ y e. let same : x ≡ y = cc in subst (NotAfter x) same (itself x))

  pub lesser_least : (a b : Option X) → IsLeastBy NotAfter (λ x. (a ≡ Some x) ⊎ (b ≡ Some x)) (lesser_by order a b)
  lesser_least a b = least_of_two (λ x. a ≡ Some x) (λ x. b ≡ Some x) a b (least_itself a) (least_itself b)

  pub lesser_commutes : (a b : Option X) → lesser_by order a b ≡ lesser_by order b a
  lesser_commutes a b =
      one_least (λ x. (b ≡ Some x) ⊎ (a ≡ Some x)) (lesser_by order a b) (lesser_by order b a)
      (least_same (λ x. (a ≡ Some x) ⊎ (b ≡ Some x)) (λ x. (b ≡ Some x) ⊎ (a ≡ Some x)) (lesser_by order a b) (lesser_least a b)
      (λ x u. elim u [ inl h ↦ inr h | inr h ↦ inl h ]) (λ x u. elim u [ inl h ↦ inr h | inr h ↦ inl h ]))
      (lesser_least b a)

  pub lesser_associates : (a b c : Option X) → lesser_by order (lesser_by order a b) c ≡ lesser_by order a (lesser_by order b c)
  lesser_associates a b c =
      let A : X → Type 0 = λ x. a ≡ Some x in
      let B : X → Type 0 = λ x. b ≡ Some x in
      let C : X → Type 0 = λ x. c ≡ Some x in
      one_least (λ x. A x ⊎ (B x ⊎ C x)) (lesser_by order (lesser_by order a b) c) (lesser_by order a (lesser_by order b c))
      (least_same (λ x. (A x ⊎ B x) ⊎ C x) (λ x. A x ⊎ (B x ⊎ C x)) (lesser_by order (lesser_by order a b) c)
      (least_of_two (λ x. A x ⊎ B x) C (lesser_by order a b) c (lesser_least a b) (least_itself c))
      (λ x u. elim u [ inl v ↦ elim v [ inl h ↦ inl h | inr h ↦ inr (inl h) ] | inr h ↦ inr (inr h) ])
      (λ x u. elim u [ inl h ↦ inl (inl h) | inr v ↦ elim v [ inl h ↦ inl (inr h) | inr h ↦ inr h ] ]))
      (least_of_two A (λ x. B x ⊎ C x) a (lesser_by order b c) (least_itself a) (lesser_least b c))

-- LINES

first_line : (a b : ℕ) (r : Ordering) → MatchOrdering r (b < a) (b ≡ a) (a < b) → is_lt r ≡ false → a ≤ b
first_line a b Less h e = cc
first_line a b Equal h e = omega (arith, h)
first_line a b Greater h e = omega (arith, h)

second_line : (a b : ℕ) (r : Ordering) → MatchOrdering r (b < a) (b ≡ a) (a < b) → is_lt r ≡ true → b ≤ a
second_line a b Less h e = omega (arith, h)
second_line a b Equal h e = cc
second_line a b Greater h e = cc

pub lines_ordered : IsOrder (λ a b. a ≤ b) nat_cmp
lines_ordered = record {
  first = λ a b. first_line a b (nat_cmp b a) (ranked b a (nat_cmp b a) refl);
  second = λ a b. second_line a b (nat_cmp b a) (ranked b a (nat_cmp b a) refl);
  along = λ a b c h k. omega (arith, h, k);
  one = λ a b h k. omega (arith, h, k);
}

-- BROKEN RULES

abbrev Ranks : Ordering → ℕ → ℕ → Type 0
Ranks r a b = MatchOrdering r (a < b) (a ≡ b) (b < a)

first_rule : (a b : Refusal) (f l n : Ordering) → Ranks f b.file a.file → Ranks l b.line a.line → Ranks n b.rule a.rule → is_lt (ordering_then f (ordering_then l n)) ≡ false → IsNotAfter a b
first_rule a b Less l n x y z e = cc
first_rule a b Equal Less n x y z e = cc
first_rule a b Equal Equal n x y z e = inr (sym x, inr (sym y, first_line a.rule b.rule n z e))
first_rule a b Equal Greater n x y z e = inr (sym x, inl y)
first_rule a b Greater l n x y z e = inl x

second_rule : (a b : Refusal) (f l n : Ordering) → Ranks f b.file a.file → Ranks l b.line a.line → Ranks n b.rule a.rule → is_lt (ordering_then f (ordering_then l n)) ≡ true → IsNotAfter b a
second_rule a b Less l n x y z e = inl x
second_rule a b Equal Less n x y z e = inr (x, inl y)
second_rule a b Equal Equal n x y z e = inr (x, inr (y, second_line a.rule b.rule n z e))
second_rule a b Equal Greater n x y z e = cc
second_rule a b Greater l n x y z e = cc

abbrev IsLater : ℕ → ℕ → Type 0 → Type 0
IsLater a b Tie = (a < b) ⊎ ((a ≡ b) × Tie)

later : (a b c : ℕ) (S T U : Type 0) → (S → T → U) → IsLater a b S → IsLater b c T → IsLater a c U
later a b c S T U tie (inl h) (inl k) = inl (omega (arith, h, k))
later a b c S T U tie (inl h) (inr k) = inl (omega (arith, h, k.0))
later a b c S T U tie (inr h) (inl k) = inl (omega (arith, h.0, k))
later a b c S T U tie (inr h) (inr k) = inr (h.0 ∙ k.0, tie h.1 k.1)

both : (a b : ℕ) (S T : Type 0) → IsLater a b S → IsLater b a T → (a ≡ b) × S × T
both a b S T (inl h) (inl k) = absurd (omega (arith, h, k))
both a b S T (inl h) (inr k) = absurd (omega (arith, h, k.0))
both a b S T (inr h) (inl k) = absurd (omega (arith, h.0, k))
both a b S T (inr h) (inr k) = (h.0, h.1, k.1)

along_rules : (a b c : Refusal) → IsNotAfter a b → IsNotAfter b c → IsNotAfter a c
along_rules a b c = later a.file b.file c.file _ _ _ (later a.line b.line c.line _ _ _ (λ h k. omega (arith, h, k)))

one_rule : (a b : Refusal) → IsNotAfter a b → IsNotAfter b a → a ≡ b
one_rule a b h k =
    let files = both a.file b.file _ _ h k in
    let lines = both a.line b.line _ _ files.1 files.2 in
    let rules : a.rule ≡ b.rule = omega (arith, lines.1, lines.2) in
    λ i. record { file = files.0 i; line = lines.0 i; rule = rules i }

pub rules_ordered : IsOrder IsNotAfter told_order
rules_ordered = record {
  first = λ a b. first_rule a b (nat_cmp b.file a.file) (nat_cmp b.line a.line) (nat_cmp b.rule a.rule)
      (ranked b.file a.file (nat_cmp b.file a.file) refl) (ranked b.line a.line (nat_cmp b.line a.line) refl) (ranked b.rule a.rule (nat_cmp b.rule a.rule) refl);
  second = λ a b. second_rule a b (nat_cmp b.file a.file) (nat_cmp b.line a.line) (nat_cmp b.rule a.rule)
      (ranked b.file a.file (nat_cmp b.file a.file) refl) (ranked b.line a.line (nat_cmp b.line a.line) refl) (ranked b.rule a.rule (nat_cmp b.rule a.rule) refl);
  along = along_rules;
  one = one_rule;
}

upto : (a b : ℕ) → a ≤ b → (a < b) ⊎ (a ≡ b)
upto a b le = grind arith

-- the least line, told with the number of the rule and the file
pub least_at : (file number : ℕ) (Broken : ℕ → Type 0) (first : Option ℕ) → IsLeastLine Broken first → IsLeast (InFile file (OfRule number Broken)) (broken_at file number first)
least_at file number Broken None least = λ r h. least r.line h.1.1
least_at file number Broken (Some line) least = ((refl, (refl, least.0)), λ r h. inr (sym h.0, after r.line r.rule (least.1 r.line h.1.1) h.1.0))
  where
    after : (other rule : ℕ) → line ≤ other → rule ≡ number → IsLater line other (number ≤ rule)
    after other rule le e = elim (upto line other le) [ inl h ↦ inl h | inr h ↦ inr (h, omega (arith, e)) ]
