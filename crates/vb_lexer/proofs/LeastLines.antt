-- The least of the rules that logical lines break.
use Rattle.std.proofs.Common.{◌≡◌, ℕ, List, [], ◌∷◌, ◌++◌, Option, Some, refl, sym, subst, ◌⊎◌, inl, inr}
use Rattle.vb_diag.specs.{declared.refusal.Refusal.Refusal, Broken.{IsLeast, InFile}}
use Rattle.vb_diag.proofs.Least.{rules_ordered, least_of_two, least_itself, least_same as same_members}
use Rattle.vb_lexer.specs.{declared.piece.Fault.Fault, Lines.{Item, LineBreaks, SomeLineBreaks, line_number, fault_rule}, Reader.with_broken}

pub some_front : (gs : List (List Item)) (g : List Item) (l r : ℕ) → SomeLineBreaks gs l r → SomeLineBreaks (gs ++ (g ∷ [])) l r
some_front [] g l r h = absurd h
some_front (x ∷ xs) g l r (inl h) = inl h
some_front (x ∷ xs) g l r (inr h) = inr (some_front xs g l r h)

pub some_last : (gs : List (List Item)) (g : List Item) (l r : ℕ) → line_number g ≡ l → LineBreaks g r → SomeLineBreaks (gs ++ (g ∷ [])) l r
some_last [] g l r e h = inl (e, h)
some_last (x ∷ xs) g l r e h = inr (some_last xs g l r e h)

pub some_split : (gs : List (List Item)) (g : List Item) (l r : ℕ) → SomeLineBreaks (gs ++ (g ∷ [])) l r → SomeLineBreaks gs l r ⊎ ((line_number g ≡ l) × LineBreaks g r)
some_split [] g l r (inl h) = inr h
some_split [] g l r (inr h) = absurd h
some_split (x ∷ xs) g l r (inl h) = inl (inl h)
some_split (x ∷ xs) g l r (inr h) = elim (some_split xs g l r h) [ inl a ↦ inl (inr a) | inr b ↦ inr b ]

-- the same rules
pub least_same : (file : ℕ) (B C : ℕ → ℕ → Type 0) (best : Option Refusal) → IsLeast (InFile file B) best → ((l r : ℕ) → B l r → C l r) → ((l r : ℕ) → C l r → B l r) → IsLeast (InFile file C) best
least_same file B C best least there back =
    same_members rules_ordered (InFile file B) (InFile file C) best least (λ x h. (h.0, there x.line x.rule h.1)) (λ x h. (h.0, back x.line x.rule h.1))

refusal_is : (file line rule : ℕ) (x : Refusal) → x.file ≡ file → x.line ≡ line → x.rule ≡ rule → Some (record { file = file; line = line; rule = rule }) ≡ Some x
refusal_is file line rule x f l r = λ i. Some (record { file = sym f i; line = sym l i; rule = sym r i })

-- one rule more
pub least_more : (file : ℕ) (B C : ℕ → ℕ → Type 0) (best : Option Refusal) (line : ℕ) (f : Fault) → IsLeast (InFile file B) best → ((l r : ℕ) → B l r → C l r) → C line (fault_rule f)
    → ((l r : ℕ) → C l r → B l r ⊎ ((l ≡ line) × (r ≡ fault_rule f))) → IsLeast (InFile file C) (with_broken best file line f)
least_more file B C best line f least there here back =
    let new : Refusal = record { file = file; line = line; rule = fault_rule f } in
    same_members rules_ordered (λ x. InFile file B x ⊎ (Some new ≡ Some x)) (InFile file C) (with_broken best file line f)
    (least_of_two rules_ordered (InFile file B) (λ x. Some new ≡ Some x) best (Some new) least (least_itself rules_ordered (Some new)))
    (λ x u. elim u [ inl h ↦ (h.0, there x.line x.rule h.1) | inr e ↦ let same : new ≡ x = cc in subst (λ y. InFile file C y) same (refl, here) ])
    (λ x h. elim (back x.line x.rule h.1) [ inl b ↦ inl (h.0, b) | inr s ↦ inr (refusal_is file line (fault_rule f) x h.0 s.0 s.1) ])
