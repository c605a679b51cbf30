-- The least of several broken rules.
use Rattle.std.proofs.Common.{◌≡◌, ◌⊎◌, inl, inr, ℕ, List, [], ◌∷◌, ◌++◌, Option, Some, None, refl, sym, subst, arith}
use Rattle.vb_diag.specs.{declared.refusal.Refusal.Refusal, Broken.{InFile, OfRule, IsLeast, IsLeastLine, lesser, lesser_line, broken_at}}
use Rattle.vb_diag.proofs.Least.{least_same, least_of_two, least_at, lines_ordered, rules_ordered}
use Rattle.vb_syntax.specs.declared.item.Row.{Row}
use Rattle.vb_parse.specs.Where.{HasRow}

-- one of the two is broken
abbrev pub Either : (ℕ → ℕ → Type 0) → (ℕ → ℕ → Type 0) → ℕ → ℕ → Type 0
Either P Q line rule = P line rule ⊎ Q line rule

module _ (file : ℕ) (P Q : ℕ → ℕ → Type 0) where
  -- the lesser of the two is the least of both
  pub either_least : (a b o : Option Refusal) → IsLeast (InFile file P) a → IsLeast (InFile file Q) b → o ≡ lesser a b → IsLeast (InFile file (Either P Q)) o
  either_least a b o p q is =
      subst (λ (x : Option Refusal). IsLeast (InFile file (Either P Q)) x) (sym is)
      (least_same rules_ordered (λ z. InFile file P z ⊎ InFile file Q z) (InFile file (Either P Q)) (lesser a b)
      (least_of_two rules_ordered (InFile file P) (InFile file Q) a b p q)
      (λ z u. elim u [ inl h ↦ (h.0, inl h.1) | inr h ↦ (h.0, inr h.1) ])
      (λ z h. elim h.1 [ inl k ↦ inl (h.0, k) | inr k ↦ inr (h.0, k) ]))

  -- the least of one is the least of another that is broken just where it is
  pub same_least : (o : Option Refusal) → ((l r : ℕ) → P l r → Q l r) → ((l r : ℕ) → Q l r → P l r) → IsLeast (InFile file P) o → IsLeast (InFile file Q) o
  same_least o there back p = least_same rules_ordered (InFile file P) (InFile file Q) o p (λ z h. (h.0, there z.line z.rule h.1)) (λ z h. (h.0, back z.line z.rule h.1))

-- the least line at which a rule is broken, with the number of the rule
pub one_rule : (file : ℕ) (P : ℕ → Type 0) (n : ℕ) (first : Option ℕ) (broken : Option Refusal) → IsLeastLine P first → broken ≡ broken_at file n first → IsLeast (InFile file (OfRule n P)) broken
one_rule file P n first broken p is = subst (λ (o : Option Refusal). IsLeast (InFile file (OfRule n P)) o) (sym is) (least_at file n P first p)

-- the lesser of that and the least of other rules
pub one_rule_more : (file : ℕ) (P : ℕ → Type 0) (n : ℕ) (Q : ℕ → ℕ → Type 0) (first : Option ℕ) (broken least all : Option Refusal) → IsLeastLine P first → broken ≡ broken_at file n first → all ≡ lesser broken least → IsLeast (InFile file Q) least
    → IsLeast (InFile file (Either (OfRule n P) Q)) all
one_rule_more file P n Q first broken least all p is lesser q = either_least file (OfRule n P) Q broken least all (one_rule file P n first broken p is) q lesser

-- THE LEAST LINE OF A LOOP OVER ROWS

module _ (Is : Row → Type 0) where
  behind : (xs : List Row) (r : Row) (n : ℕ) → HasRow Is xs n ⊎ ((n ≡ r.line) × Is r) → HasRow Is (xs ++ r ∷ []) n
  behind [] r n (inl h) = absurd h
  behind [] r n (inr h) = inl h
  behind (x ∷ xs) r n (inl (inl h)) = inl h
  behind (x ∷ xs) r n (inl (inr h)) = inr (behind xs r n (inl h))
  behind (x ∷ xs) r n (inr h) = inr (behind xs r n (inr h))

  before : (xs : List Row) (r : Row) (n : ℕ) → HasRow Is (xs ++ r ∷ []) n → HasRow Is xs n ⊎ ((n ≡ r.line) × Is r)
  before [] r n (inl h) = inr h
  before [] r n (inr h) = absurd h
  before (x ∷ xs) r n (inl h) = inl (inl h)
  before (x ∷ xs) r n (inr h) = elim (before xs r n h) [ inl k ↦ inl (inr k) | inr k ↦ inr k ]

  -- a row of the kind
  pub takes_one : (xs : List Row) (r : Row) (first o : Option ℕ) → IsLeastLine (HasRow Is xs) first → Is r → o ≡ lesser_line first (Some r.line) → IsLeastLine (HasRow Is (xs ++ r ∷ [])) o
  takes_one xs r first o p is l =
      subst (λ (x : Option ℕ). IsLeastLine (HasRow Is (xs ++ r ∷ [])) x) (sym l)
      (least_same lines_ordered (λ n. HasRow Is xs n ⊎ (n ≡ r.line)) (HasRow Is (xs ++ r ∷ [])) (lesser_line first (Some r.line))
      (least_of_two lines_ordered (HasRow Is xs) (λ n. n ≡ r.line) first (Some r.line) p (refl, λ n e. omega (arith, e)))
      (λ n h. behind xs r n (elim h [ inl k ↦ inl k | inr e ↦ inr (e, is) ]))
      (λ n h. elim (before xs r n h) [ inl k ↦ inl k | inr k ↦ inr k.0 ]))

  -- a row of no such kind
  pub leaves_one : (xs : List Row) (r : Row) (first : Option ℕ) → IsLeastLine (HasRow Is xs) first → (Is r → ⊥) → IsLeastLine (HasRow Is (xs ++ r ∷ [])) first
  leaves_one xs r None p not = λ n h. elim (before xs r n h) [ inl k ↦ p n k | inr k ↦ not k.1 ]
  leaves_one xs r (Some first) p not = (behind xs r first (inl p.0), λ n h. elim (before xs r n h) [ inl k ↦ p.1 n k | inr k ↦ absurd (not k.1) ])
