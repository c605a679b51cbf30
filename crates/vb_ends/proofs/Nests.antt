-- A file breaks the rule nowhere exactly where its blocks stand as brackets do.
use Rattle.std.proofs.Common.{◌≡◌, inl, inr, ℕ, Bool, true, false, if◌then◌else◌, List, [], ◌∷◌, ◌++◌, reverse, length, None, refl, sym, ◌∙◌, ap, subst, append_assoc, append-nil}
use Rattle.std.proofs.lemmas.List.{reverse-append, reverse-reverse}
use Rattle.vb_ends.specs.{declared.{role.{Sort.Sort, Role.Role, Mark.Mark}, stack.Open.Open}, Enders.{Block, is_statement, Closes, IsOpen, IsBroken, BreaksBackwards, IsAmong, AreOpen}, Brackets.{mark_opens, mark_ends, mark_stays, AreBrackets, nothing, simple, block}, Counts.{same_sort, holds}, Stack.{State, stepped, ended_statement, ended_other, passed, left, SomeMarkBreaks}}
use Rattle.vb_ends.specs.declared.role.Role.TheVariants as role
use Rattle.vb_diag.specs.Broken.{IsLeastLine}
use Rattle.vb_ends.proofs.{Sorts.same_self, Nesting.{below, open_more, open_same, open_less}, Partners.{IsDecided, there}, Machine.{run, run_is, decided, state_last}}

-- FROM THE END

data Backwards : List Mark → Type 0 where
  none : Backwards []
  one : {marks : List Mark} (line : ℕ) → Backwards marks → Backwards (mark_stays line ∷ marks)
  pair : {inside before : List Mark} (s : Sort) (begin_ end_ : ℕ) → Backwards inside → Backwards before → Backwards (mark_ends s end_ ∷ (inside ++ mark_opens s begin_ ∷ before))

joined : {xs ys : List Mark} → AreBrackets xs → AreBrackets ys → AreBrackets (xs ++ ys)
joined nothing b = b
joined (simple line a) b = simple line (joined a b)
joined {ys = ys} (block {inside = inside} {marks = marks} s m n i a) b =
    subst (λ rs. AreBrackets (mark_opens s m ∷ rs)) (sym (append_assoc inside (mark_ends s n ∷ marks) ys)) (block s m n i (joined a b))

joined_back : {xs ys : List Mark} → Backwards xs → Backwards ys → Backwards (xs ++ ys)
joined_back none b = b
joined_back (one line a) b = one line (joined_back a b)
joined_back {ys = ys} (pair {inside = inside} {before = before} s m n i a) b =
    subst (λ rs. Backwards (mark_ends s n ∷ rs)) (sym (append_assoc inside (mark_opens s m ∷ before) ys)) (pair s m n i (joined_back a b))

turned_is : (x y : Mark) (xs ys : List Mark) → reverse (x ∷ (xs ++ y ∷ ys)) ≡ reverse ys ++ y ∷ (reverse xs ++ x ∷ [])
turned_is x y xs ys =
    reverse-append (x ∷ []) (xs ++ y ∷ ys)
    ∙ ap (λ rs. rs ++ x ∷ []) (reverse-append xs (y ∷ ys) ∙ ap (λ rs. rs ++ reverse xs) (reverse-append (y ∷ []) ys))
    ∙ append_assoc (reverse ys ++ y ∷ []) (reverse xs) (x ∷ [])
    ∙ append_assoc (reverse ys) (y ∷ []) (reverse xs ++ x ∷ [])

turned : {xs : List Mark} → Backwards xs → AreBrackets (reverse xs)
turned none = nothing
turned (one {marks = marks} line a) = subst (λ rs. AreBrackets rs) (sym (reverse-append (mark_stays line ∷ []) marks)) (joined (turned a) (simple line nothing))
turned (pair {inside = inside} {before = before} s m n i a) =
    subst (λ rs. AreBrackets rs) (sym (turned_is (mark_ends s n) (mark_opens s m) inside before)) (joined (turned a) (block s m n (turned i) nothing))

turned_back : {xs : List Mark} → AreBrackets xs → Backwards (reverse xs)
turned_back nothing = none
turned_back (simple {marks = marks} line a) = subst (λ rs. Backwards rs) (sym (reverse-append (mark_stays line ∷ []) marks)) (joined_back (turned_back a) (one line none))
turned_back (block {inside = inside} {marks = marks} s m n i a) =
    subst (λ rs. Backwards rs) (sym (turned_is (mark_opens s m) (mark_ends s n) inside marks)) (joined_back (turned_back a) (pair s m n (turned_back i) none))

-- NOTHING IS BROKEN

-- the marks stand as brackets do but for the openers of these blocks
abbrev Shape : List Block → List Mark → Type 0
Shape [] marks = Backwards marks
Shape (b ∷ bs) marks = (inside before : List Mark) × (marks ≡ inside ++ mark_opens b.sort b.line ∷ before) × Backwards inside × Shape bs before

with_one : (bs : List Block) (line : ℕ) (marks : List Mark) → Shape bs marks → Shape bs (mark_stays line ∷ marks)
with_one [] line marks h = one line h
with_one (b ∷ bs) line marks h = (mark_stays line ∷ h.0, h.1, ap (λ rs. mark_stays line ∷ rs) h.2, one line h.3, h.4)

with_pair : (bs : List Block) (s : Sort) (m n : ℕ) (marks inside before : List Mark) → marks ≡ inside ++ mark_opens s m ∷ before → Backwards inside → Shape bs before → Shape bs (mark_ends s n ∷ marks)
with_pair [] s m n marks inside before e i h = subst (λ rs. Backwards (mark_ends s n ∷ rs)) (sym e) (pair s m n i h)
with_pair (b ∷ bs) s m n marks inside before e i h = (
  mark_ends s n ∷ (inside ++ mark_opens s m ∷ h.0),
  h.1,
  ap (λ rs. mark_ends s n ∷ rs) (e ∙ ap (λ rs. inside ++ mark_opens s m ∷ rs) h.2 ∙ sym (append_assoc inside (mark_opens s m ∷ h.0) (mark_opens b.sort b.line ∷ h.1))),
  pair s m n i h.3,
  h.4,
)

record Shaped (marks : List Mark) : Type 0 where
  pub blocks : List Block
  pub are_open : AreOpen blocks marks
  pub shape : Shape blocks marks

ended_shape : (bs : List Block) (marks : List Mark) (s : Sort) (here : ℕ) (c : Block) → AreOpen bs marks → Shape bs marks → Closes (IsOpen marks) s c → IsAmong bs c
    → ((line : ℕ) → SomeMarkBreaks (mark_ends s here ∷ marks) line → ⊥) → Shaped (mark_ends s here ∷ marks)
ended_shape [] marks s here c o h k among sound = absurd among
ended_shape (x ∷ bs) marks s here c o h k (inl e) sound =
    let fits : x.sort ≡ s = sym (ap (λ y. y.sort) e) ∙ k.fits in
    record {
      blocks = bs;
      are_open = open_less [] x bs marks s here (record { are_open = o; fits = fits; none_stops = λ b j. absurd j });
      shape = with_pair bs s x.line here marks h.0 h.1 (h.2 ∙ ap (λ t. h.0 ++ mark_opens t x.line ∷ h.1) fits) h.3 h.4;
    }
ended_shape (x ∷ bs) marks s here c o h k (inr among) sound =
    absurd (sound x.line (inl (inr (x, record { is_open = o.none_else x (inl refl); around = c; closes = k; inside = below bs x.place c o.nested.1 among }, refl))))

decided_shape : (marks : List Mark) (s : Sort) (here : ℕ) → IsDecided (IsOpen marks) s → Shaped marks → ((line : ℕ) → SomeMarkBreaks (mark_ends s here ∷ marks) line → ⊥) → Shaped (mark_ends s here ∷ marks)
decided_shape marks s here (inl (c, k)) t sound = ended_shape t.blocks marks s here c t.are_open t.shape k (t.are_open.all c k.is_open) sound
decided_shape marks s here (inr alone) t sound = absurd (sound here (inl (inl (refl, alone))))

mark_shape : (k : Role) (here : ℕ) (marks : List Mark) → Shaped marks → ((line : ℕ) → SomeMarkBreaks (record { role = k; line = here } ∷ marks) line → ⊥) → Shaped (record { role = k; line = here } ∷ marks)
mark_shape (role.Opens s) here marks t sound = record {
  blocks = record { place = length marks; sort = s; line = here } ∷ t.blocks;
  are_open = open_more t.blocks marks s here t.are_open;
  shape = ([], marks, refl, none, t.shape);
}
mark_shape (role.Ends s) here marks t sound = decided_shape marks s here (decided marks s) t sound
mark_shape role.Stays here marks t sound = record { blocks = t.blocks; are_open = open_same t.blocks marks here t.are_open; shape = with_one t.blocks here marks t.shape }

shaped : (marks : List Mark) → ((line : ℕ) → SomeMarkBreaks marks line → ⊥) → Shaped marks
shaped [] sound = record { blocks = []; are_open = record { nested = tt; all = λ b h. h; none_else = λ b h. h }; shape = none }
shaped (r ∷ marks) sound = mark_shape r.role r.line marks (shaped marks (λ line h. sound line (inr h))) sound

all_closed : (bs : List Block) (marks : List Mark) → AreOpen bs marks → Shape bs marks → ((b : Block) → IsOpen marks b → ⊥) → Backwards marks
all_closed [] marks o h closed = h
all_closed (x ∷ bs) marks o h closed = absurd (closed x (o.none_else x (inl refl)))

backwards : (marks : List Mark) → ((line : ℕ) → BreaksBackwards marks line → ⊥) → Backwards marks
backwards marks sound =
    let t = shaped marks (λ line h. sound line (there marks line (inl h))) in
    all_closed t.blocks marks t.are_open t.shape (λ b h. sound b.line (there marks b.line (inr (b, h, refl))))

pub sound_brackets : (marks : List Mark) → ((line : ℕ) → IsBroken marks line → ⊥) → AreBrackets marks
sound_brackets marks sound = subst (λ rs. AreBrackets rs) (reverse-reverse marks) (turned (backwards (reverse marks) sound))

-- BRACKETS BREAK NOTHING

-- by what the tests say
pub pick : {A : Type 0} (b : Bool) (x y : A) → b ≡ true → (if b then x else y) ≡ x
pick true x y e = refl
pick false x y e = cc

statement_pair : (s : Sort) (m n : ℕ) (st : State) → ended_statement s n (record { sort = s; line = m } ∷ st.0) st.1 ≡ st
unfolding ended_statement
statement_pair s m n st = pick (same_sort s s) st _ (same_self s s refl)

passed_pair : (s : Sort) (m : ℕ) (st : State) → passed s (record { sort = s; line = m } ∷ st.0) st.1 ≡ st
unfolding passed
passed_pair s m st = pick (same_sort s s) st _ (same_self s s refl)

held : (s : Sort) (m : ℕ) (stack : List Open) → holds s (record { sort = s; line = m } ∷ stack) ≡ true
unfolding holds
held s m stack = pick (same_sort s s) true _ (same_self s s refl)

other_pair : (s : Sort) (m n : ℕ) (st : State) → ended_other s n (record { sort = s; line = m } ∷ st.0) st.1 ≡ st
unfolding ended_other
other_pair s m n st = pick (holds s (record { sort = s; line = m } ∷ st.0)) _ _ (held s m st.0) ∙ passed_pair s m st

same_by : {A : Type 0} (b : Bool) (x y z : A) → x ≡ z → y ≡ z → (if b then x else y) ≡ z
same_by true x y z e f = e
same_by false x y z e f = f

pair_step : (s : Sort) (m n : ℕ) (st : State) → stepped (role.Ends s) n (stepped (role.Opens s) m st) ≡ st
unfolding stepped
pair_step s m n st = same_by (is_statement s) _ _ st (statement_pair s m n st) (other_pair s m n st)

one_step : (line : ℕ) (st : State) → stepped role.Stays line st ≡ st
unfolding stepped
one_step line st = refl

unchanged : {xs : List Mark} → Backwards xs → (marks : List Mark) → run (xs ++ marks) ≡ run marks
unfolding run
unchanged none marks = refl
unchanged (one {marks = xs} line a) marks = one_step line (run (xs ++ marks)) ∙ unchanged a marks
unchanged (pair {inside = inside} {before = before} s m n i a) marks =
    ap (λ rs. stepped (role.Ends s) n (run rs)) (append_assoc inside (mark_opens s m ∷ before) marks)
    ∙ ap (λ st. stepped (role.Ends s) n st) (unchanged i (mark_opens s m ∷ (before ++ marks)))
    ∙ pair_step s m n (run (before ++ marks)) ∙ unchanged a marks

left_none : (st : State) → st ≡ ([], None) → left st.0 st.1 ≡ None
unfolding left
left_none st e = ap (λ t. left t.0 t.1) e

run_none : run [] ≡ ([], None)
unfolding run
run_none = refl

backwards_sound : (marks : List Mark) → Backwards marks → IsLeastLine (BreaksBackwards marks) None
backwards_sound marks b =
    let same : run marks ≡ ([], None) = ap run (sym (append-nil marks)) ∙ unchanged b [] ∙ run_none in
    subst (λ n. IsLeastLine (BreaksBackwards marks) n) (left_none (run marks) same) (state_last (run marks) marks (run_is marks))

pub brackets_sound : (marks : List Mark) → AreBrackets marks → (line : ℕ) → IsBroken marks line → ⊥
brackets_sound marks b = backwards_sound (reverse marks) (turned_back b)
