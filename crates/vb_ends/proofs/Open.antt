-- Where each ender closes the innermost block, the blocks that are left open have no end.
use Rattle.std.proofs.Common.{◌≡◌, ℕ, Bool, true, false, if◌then◌else◌, List, [], ◌∷◌, map, Option, Some, None, refl, ◌∙◌, ap, subst}
use Rattle.vb_ends.specs.{declared.{role.{Sort.Sort, Mark.Mark}, stack.Open.Open}, Enders.{BreaksBackwards, is_statement}, Counts.{same_sort, holds}, Roles.{AreOpenBehind, nothing, opens, ends, stays}, Stack.{State, stepped, ended_statement, ended_other, passed, left}}
use Rattle.vb_ends.specs.declared.role.Role.TheVariants as role
use Rattle.std.specs.Ordering.{nat_cmp, ord_min}
use Rattle.vb_diag.specs.Broken.{IsLeastLine, lesser_line}
use Rattle.vb_ends.proofs.{Sorts.same_self, Machine.{run, run_is, state_last}, Nests.pick}

-- the sorts of the blocks that are open
abbrev sorts_of : State → List Sort
sorts_of st = map (λ o. o.sort) st.0

statement_first : (s : Sort) (line : ℕ) (o : Open) (os : List Open) (first : Option ℕ) → o.sort ≡ s → ended_statement s line (o ∷ os) first ≡ (os, first)
unfolding ended_statement
statement_first s line o os first e = pick (same_sort o.sort s) (os, first) _ (same_self o.sort s e)

held_first : (s : Sort) (o : Open) (os : List Open) → o.sort ≡ s → holds s (o ∷ os) ≡ true
unfolding holds
held_first s o os e = pick (same_sort o.sort s) true _ (same_self o.sort s e)

passed_first : (s : Sort) (o : Open) (os : List Open) (first : Option ℕ) → o.sort ≡ s → passed s (o ∷ os) first ≡ (os, first)
unfolding passed
passed_first s o os first e = pick (same_sort o.sort s) (os, first) _ (same_self o.sort s e)

other_first : (s : Sort) (line : ℕ) (o : Open) (os : List Open) (first : Option ℕ) → o.sort ≡ s → ended_other s line (o ∷ os) first ≡ (os, first)
unfolding ended_other
other_first s line o os first e = pick (holds s (o ∷ os)) _ _ (held_first s o os e) ∙ passed_first s o os first e

ended_first : (is : Bool) (s : Sort) (line : ℕ) (o : Open) (os : List Open) (first : Option ℕ) → o.sort ≡ s
    → (if is then ended_statement s line (o ∷ os) first else ended_other s line (o ∷ os) first) ≡ (os, first)
ended_first true s line o os first e = statement_first s line o os first e
ended_first false s line o os first e = other_first s line o os first e

ended_sorts : (s : Sort) (ss : List Sort) (line : ℕ) (stack : List Open) (first : Option ℕ) → sorts_of (stack, first) ≡ s ∷ ss → sorts_of (stepped (role.Ends s) line (stack, first)) ≡ ss
unfolding stepped
ended_sorts s ss line [] first e = cc
ended_sorts s ss line (o ∷ os) first e =
    let here : o.sort ≡ s = cc in
    let behind : sorts_of (os, first) ≡ ss = cc in
    ap sorts_of (ended_first (is_statement s) s line o os first here) ∙ behind

opened_sorts : (s : Sort) (line : ℕ) (st : State) → sorts_of (stepped (role.Opens s) line st) ≡ s ∷ sorts_of st
unfolding stepped
opened_sorts s line st = refl

same_sorts : (line : ℕ) (st : State) → sorts_of (stepped role.Stays line st) ≡ sorts_of st
unfolding stepped
same_sorts line st = refl

open_sorts : {marks : List Mark} {ss : List Sort} → AreOpenBehind marks ss → sorts_of (run marks) ≡ ss
unfolding run
open_sorts nothing = refl
open_sorts (opens {marks = marks} s line a) = opened_sorts s line (run marks) ∙ ap (λ rest. s ∷ rest) (open_sorts a)
open_sorts (ends {marks = marks} {ss = ss} s line a) = ended_sorts s ss line (run marks).0 (run marks).1 (open_sorts a)
open_sorts (stays {marks = marks} line a) = same_sorts line (run marks) ∙ open_sorts a

lesser_some : (first : Option ℕ) (line : ℕ) → (n : ℕ) × (lesser_line first (Some line) ≡ Some n)
lesser_some None line = (line, refl)
lesser_some (Some n) line = (ord_min nat_cmp n line, refl)

left_some : (os : List Open) (first : Option ℕ) (n : ℕ) → first ≡ Some n → (m : ℕ) × (left os first ≡ Some m)
unfolding left
left_some [] first n e = (n, e)
left_some (o ∷ os) first n e = let lesser = lesser_some first o.line in left_some os (lesser_line first (Some o.line)) lesser.0 lesser.1

left_line : (o : Open) (os : List Open) (first : Option ℕ) → (m : ℕ) × (left (o ∷ os) first ≡ Some m)
unfolding left
left_line o os first = let lesser = lesser_some first o.line in left_some os (lesser_line first (Some o.line)) lesser.0 lesser.1

left_open : (s : Sort) (ss : List Sort) (stack : List Open) (first : Option ℕ) → sorts_of (stack, first) ≡ s ∷ ss → (m : ℕ) × (left stack first ≡ Some m)
left_open s ss [] first e = cc
left_open s ss (o ∷ os) first e = left_line o os first

pub open_break : (marks : List Mark) (s : Sort) (ss : List Sort) → AreOpenBehind marks (s ∷ ss) → (line : ℕ) × BreaksBackwards marks line
open_break marks s ss a =
    let some_ = left_open s ss (run marks).0 (run marks).1 (open_sorts a) in
    let least = state_last (run marks) marks (run_is marks) in
    (some_.0, (subst (λ n. IsLeastLine (BreaksBackwards marks) n) some_.1 least).0)
