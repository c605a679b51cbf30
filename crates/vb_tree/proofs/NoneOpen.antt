-- Where each ender closes the innermost open block and none is open at the end, the blocks stand as brackets do.
use Rattle.std.proofs.Common.{◌≡◌, ℕ, List, [], ◌∷◌, ◌++◌, reverse, ap, sym, ◌∙◌, append_assoc, append-nil, subst}
use Rattle.std.proofs.lemmas.List.{reverse-append}
use Rattle.vb_ends.specs.{declared.role.{Sort.Sort, Mark.Mark}, Brackets.{mark_opens, mark_ends, mark_stays, AreBrackets}, Roles.{AreOpenBehind, nothing, opens, ends, stays}}
use Rattle.vb_ends.specs.Brackets as brackets

-- these marks end open blocks of these sorts, the innermost first, and are brackets otherwise
data Closing : List Sort → List Mark → Type 0 where
  outside : {marks : List Mark} → AreBrackets marks → Closing [] marks
  inside : {marks others : List Mark} {ss : List Sort} (s : Sort) (line : ℕ) → AreBrackets marks → Closing ss others → Closing (s ∷ ss) (marks ++ mark_ends s line ∷ others)

with_simple : {ss : List Sort} {marks : List Mark} (line : ℕ) → Closing ss marks → Closing ss (mark_stays line ∷ marks)
with_simple line (outside a) = outside (brackets.simple line a)
with_simple line (inside s end_ a c) = inside s end_ (brackets.simple line a) c

with_block : {ss : List Sort} {within marks : List Mark} (s : Sort) (begin_ end_ : ℕ) → AreBrackets within → Closing ss marks → Closing ss (mark_opens s begin_ ∷ (within ++ mark_ends s end_ ∷ marks))
with_block s begin_ end_ i (outside a) = outside (brackets.block s begin_ end_ i a)
with_block {within = xs} s begin_ end_ i (inside {marks = ys} {others = zs} {ss = ts} t line a c) =
    subst (λ (rs : List Mark). Closing (t ∷ ts) rs) (ap (λ (rs : List Mark). mark_opens s begin_ ∷ rs) (append_assoc xs (mark_ends s end_ ∷ ys) (mark_ends t line ∷ zs)))
    (inside t line (brackets.block s begin_ end_ i a) c)

with_opener : {ss : List Sort} {marks : List Mark} (s : Sort) (line : ℕ) → Closing (s ∷ ss) marks → Closing ss (mark_opens s line ∷ marks)
with_opener s line (inside t end_ a c) = with_block s line end_ a c

all_closed : {marks : List Mark} → Closing [] marks → AreBrackets marks
all_closed (outside a) = a

moved : (x : Mark) (xs ys : List Mark) → reverse (x ∷ xs) ++ ys ≡ reverse xs ++ x ∷ ys
moved x xs ys = ap (λ (rs : List Mark). rs ++ ys) (reverse-append (x ∷ []) xs) ∙ append_assoc (reverse xs) (x ∷ []) ys

closed : {marks : List Mark} {ss : List Sort} → AreOpenBehind marks ss → (behind : List Mark) → Closing ss behind → AreBrackets (reverse marks ++ behind)
closed nothing behind c = all_closed c
closed (opens {marks = ms} s line d) behind c = subst AreBrackets (sym (moved (mark_opens s line) ms behind)) (closed d (mark_opens s line ∷ behind) (with_opener s line c))
closed (ends {marks = ms} s line d) behind c = subst AreBrackets (sym (moved (mark_ends s line) ms behind)) (closed d (mark_ends s line ∷ behind) (inside s line brackets.nothing c))
closed (stays {marks = ms} line d) behind c = subst AreBrackets (sym (moved (mark_stays line) ms behind)) (closed d (mark_stays line ∷ behind) (with_simple line c))

pub none_open : (marks : List Mark) → AreOpenBehind marks [] → AreBrackets (reverse marks)
none_open marks d = subst AreBrackets (append-nil (reverse marks)) (closed d [] (outside brackets.nothing))
