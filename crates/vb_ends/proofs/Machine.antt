-- The state behind each mark is that of the blocks.
use Rattle.std.proofs.Common.{◌≡◌, ◌⊎◌, inl, inr, ℕ, Bool, true, false, if◌then◌else◌, List, [], ◌∷◌, ◌++◌, reverse, length, Option, None, Some, Result, Ok, Err, OnOk, refl, sym, ◌∙◌, ap, subst, arith}
use Rattle.std.proofs.lemmas.List.{reverse-append}
use Rattle.vb_ends.specs.{declared.{role.{Sort.Sort, Role.Role, Mark.Mark}, stack.Open.Open}, Enders.{Block, block, is_statement, Stops, IsOpen, BreaksBackwards, IsAmong, AreOpen}, Counts.{same_sort, holds}, Stack.{State, passed, ended_statement, ended_other, stepped, left, IsState, kept, HasNoBlock, SomeMarkBreaks}, Brackets.{mark_opens, mark_ends, mark_stays}}
use Rattle.vb_ends.specs.declared.role.Role.TheVariants as role
use Rattle.vb_diag.specs.Broken.{IsLeastLine, lesser_line}
use Rattle.vb_diag.proofs.Least.{least_same, least_of_two, lines_ordered}
use Rattle.vb_ends.proofs.{Partners.{IsDecided, there, back}, Sorts.{same_is, same_not}, Nesting.{IsLineOf, closes, Found, open_more, open_same, open_less, open_still, breaks_found, found_breaks, breaks_alone, alone_breaks, none_in_none, none_of_statement, none_of_sort}}

-- THE INNERMOST BLOCK IS THE LAST

pub snoc : (xs : List Open) (x : Open) → reverse (xs ++ x ∷ []) ≡ x ∷ reverse xs
snoc xs x = reverse-append xs (x ∷ [])

pub left_next : (xs : List Open) (x : Open) (first : Option ℕ) → left (reverse (xs ++ x ∷ [])) first ≡ left (reverse xs) (lesser_line first (Some x.line))
unfolding left
left_next xs x first = ap (λ os. left os first) (snoc xs x)

pub passed_here : (s : Sort) (xs : List Open) (x : Open) (first : Option ℕ) → same_sort x.sort s ≡ true → passed s (reverse (xs ++ x ∷ [])) first ≡ (reverse xs, first)
unfolding passed
passed_here s xs x first e = ap (λ os. passed s os first) (snoc xs x) ∙ ap (λ b. if b then (reverse xs, first) else passed s (reverse xs) (lesser_line first (Some x.line))) e

pub passed_next : (s : Sort) (xs : List Open) (x : Open) (first : Option ℕ) → same_sort x.sort s ≡ false → passed s (reverse (xs ++ x ∷ [])) first ≡ passed s (reverse xs) (lesser_line first (Some x.line))
unfolding passed
passed_next s xs x first e = ap (λ os. passed s os first) (snoc xs x) ∙ ap (λ b. if b then (reverse xs, first) else passed s (reverse xs) (lesser_line first (Some x.line))) e

pub left_none : (xs : List Open) (first : Option ℕ) → xs ≡ [] → left (reverse xs) first ≡ first
unfolding left
left_none xs first e = ap (λ ys. left (reverse ys) first) e

pub passed_none : (s : Sort) (xs ys : List Open) (first : Option ℕ) → (xs ≡ []) × (ys ≡ []) → (reverse ys, first) ≡ passed s (reverse xs) first
unfolding passed
passed_none s xs ys first e = ap (λ zs. (reverse zs, first)) e.1 ∙ sym (ap (λ zs. passed s (reverse zs) first) e.0)

-- THE LEAST LINE

pub least_one : (B : ℕ → Type 0) (first : Option ℕ) (line : ℕ) → IsLeastLine B first → IsLeastLine (λ l. B l ⊎ (l ≡ line)) (lesser_line first (Some line))
least_one B first line least = least_of_two lines_ordered B (λ l. l ≡ line) first (Some line) least (refl, λ l e. omega (arith, e))

least_lines : (bs : List Block) (B : ℕ → Type 0) (first : Option ℕ) → IsLeastLine B first → IsLeastLine (λ l. B l ⊎ IsLineOf bs l) (left (kept bs) first)
unfolding left
least_lines [] B first least = least_same lines_ordered B (λ l. B l ⊎ IsLineOf [] l) first least (λ l h. inl h) (λ l h. elim h [ inl k ↦ k | inr (b, k, e) ↦ absurd k ])
least_lines (x ∷ xs) B first least =
    least_same lines_ordered (λ l. (B l ⊎ (l ≡ x.line)) ⊎ IsLineOf xs l) (λ l. B l ⊎ IsLineOf (x ∷ xs) l) (left (kept xs) (lesser_line first (Some x.line)))
    (least_lines xs (λ l. B l ⊎ (l ≡ x.line)) (lesser_line first (Some x.line)) (least_one B first x.line least))
    (λ l h. elim h [ inl (inl k) ↦ inl k | inl (inr e) ↦ inr (x, inl refl, e) | inr (b, k, e) ↦ inr (b, inr k, e) ])
    (λ l h. elim h [ inl k ↦ inl (inl k) | inr (b, inl k, e) ↦ inl (inr (e ∙ ap (λ y. y.line) k)) | inr (b, inr k, e) ↦ inr (b, k, e) ])

-- AN ENDER

found : (ps : List Block) (c : Block) (rest : List Block) (marks : List Mark) (s : Sort) (here : ℕ) (first : Option ℕ) → Found ps c rest marks s → IsLeastLine (SomeMarkBreaks marks) first
    → IsState (kept rest, left (kept ps) first) (mark_ends s here ∷ marks)
found ps c rest marks s here first f least = record {
  blocks = rest;
  are_open = open_less ps c rest marks s here f;
  kept_are = refl;
  least = least_same lines_ordered (λ l. SomeMarkBreaks marks l ⊎ IsLineOf ps l) (SomeMarkBreaks (mark_ends s here ∷ marks)) (left (kept ps) first) (least_lines ps (SomeMarkBreaks marks) first least)
      (breaks_found ps c rest marks s here f) (found_breaks ps c rest marks s here f);
}

alone : (bs : List Block) (marks : List Mark) (s : Sort) (here : ℕ) (first : Option ℕ) → AreOpen bs marks → HasNoBlock (IsOpen marks) s → IsLeastLine (SomeMarkBreaks marks) first
    → IsState (kept bs, lesser_line first (Some here)) (mark_ends s here ∷ marks)
alone bs marks s here first o none least = record {
  blocks = bs;
  are_open = open_still bs marks s here o none;
  kept_are = refl;
  least = least_same lines_ordered (λ l. SomeMarkBreaks marks l ⊎ (l ≡ here)) (SomeMarkBreaks (mark_ends s here ∷ marks)) (lesser_line first (Some here)) (least_one (SomeMarkBreaks marks) first here least)
      (breaks_alone marks s here none) (alone_breaks marks s here none);
}

statement_by : (same : Bool) (x : Block) (bs : List Block) (marks : List Mark) (s : Sort) (here : ℕ) (first : Option ℕ) → same_sort x.sort s ≡ same → AreOpen (x ∷ bs) marks
    → is_statement s ≡ true → IsLeastLine (SomeMarkBreaks marks) first → IsState (if same then (kept bs, first) else (kept (x ∷ bs), lesser_line first (Some here))) (mark_ends s here ∷ marks)
unfolding left
statement_by true x bs marks s here first e o statement least = found [] x bs marks s here first (record { are_open = o; fits = same_is x.sort s e; none_stops = λ b h k. absurd h }) least
statement_by false x bs marks s here first e o statement least = alone (x ∷ bs) marks s here first o (none_of_statement x bs marks s o statement (same_not x.sort s e)) least

statement : (bs : List Block) (marks : List Mark) (s : Sort) (here : ℕ) (first : Option ℕ) → AreOpen bs marks → is_statement s ≡ true → IsLeastLine (SomeMarkBreaks marks) first
    → IsState (ended_statement s here (kept bs) first) (mark_ends s here ∷ marks)
unfolding ended_statement
statement [] marks s here first o is least = alone [] marks s here first o (none_in_none marks s o) least
statement (x ∷ bs) marks s here first o is least = statement_by (same_sort x.sort s) x bs marks s here first refl o is least

-- the innermost block of a sort, and those inside it
record Split (s : Sort) (bs : List Block) : Type 0 where
  pub ps : List Block
  pub at : Block
  pub rest : List Block
  pub parts : bs ≡ ps ++ at ∷ rest
  pub fits : at.sort ≡ s
  pub differ : (b : Block) → IsAmong ps b → b.sort ≡ s → ⊥
  pub passed_is : (first : Option ℕ) → passed s (kept bs) first ≡ (kept rest, left (kept ps) first)

split_by : (same : Bool) (s : Sort) (x : Block) (bs : List Block) → same_sort x.sort s ≡ same → (if same then true else holds s (kept bs)) ≡ true
    → (holds s (kept bs) ≡ true → Split s bs) → Split s (x ∷ bs)
unfolding passed left
split_by true s x bs e h again = record {
  ps = [];
  at = x;
  rest = bs;
  parts = refl;
  fits = same_is x.sort s e;
  differ = λ b k. absurd k;
  passed_is = λ first. ap (λ b. if b then (kept bs, first) else passed s (kept bs) (lesser_line first (Some x.line))) e;
}
split_by false s x bs e h again =
    let found_ = again h in
    record {
      ps = x ∷ found_.ps;
      at = found_.at;
      rest = found_.rest;
      parts = ap (λ ys. x ∷ ys) found_.parts;
      fits = found_.fits;
      differ = λ b k fits. elim k [ inl same ↦ same_not x.sort s e (sym (ap (λ y. y.sort) same) ∙ fits) | inr within ↦ found_.differ b within fits ];
      passed_is = λ first. ap (λ b. if b then (kept bs, first) else passed s (kept bs) (lesser_line first (Some x.line))) e ∙ found_.passed_is (lesser_line first (Some x.line));
    }

find : (s : Sort) (bs : List Block) → holds s (kept bs) ≡ true → Split s bs
unfolding holds
find s [] e = cc
find s (x ∷ bs) e = split_by (same_sort x.sort s) s x bs refl e (find s bs)

differs_by : (same : Bool) (s : Sort) (x : Block) (bs : List Block) → same_sort x.sort s ≡ same → (if same then true else holds s (kept bs)) ≡ false
    → (holds s (kept bs) ≡ false → (b : Block) → IsAmong bs b → b.sort ≡ s → ⊥) → (b : Block) → IsAmong (x ∷ bs) b → b.sort ≡ s → ⊥
differs_by true s x bs e h again b k fits = cc
differs_by false s x bs e h again b (inl same) fits = same_not x.sort s e (sym (ap (λ y. y.sort) same) ∙ fits)
differs_by false s x bs e h again b (inr k) fits = again h b k fits

differs : (s : Sort) (bs : List Block) → holds s (kept bs) ≡ false → (b : Block) → IsAmong bs b → b.sort ≡ s → ⊥
unfolding holds
differs s [] e b k fits = absurd k
differs s (x ∷ bs) e b k fits = differs_by (same_sort x.sort s) s x bs refl e (differs s bs) b k fits

stops_by : (s : Sort) (b : Block) → is_statement s ≡ false → (b.sort ≡ s → ⊥) → Stops s b → ⊥
stops_by s b is differs_ (inl h) = cc
stops_by s b is differs_ (inr fits) = differs_ fits

other_by : (held : Bool) (bs : List Block) (marks : List Mark) (s : Sort) (here : ℕ) (first : Option ℕ) → holds s (kept bs) ≡ held → AreOpen bs marks → is_statement s ≡ false
    → IsLeastLine (SomeMarkBreaks marks) first → IsState (if held then passed s (kept bs) first else (kept bs, lesser_line first (Some here))) (mark_ends s here ∷ marks)
other_by true bs marks s here first e o is least =
    let split_ = find s bs e in
    subst (λ st. IsState st (mark_ends s here ∷ marks)) (sym (split_.passed_is first))
    (found split_.ps split_.at split_.rest marks s here first (record {
      are_open = subst (λ ys. AreOpen ys marks) split_.parts o;
      fits = split_.fits;
      none_stops = λ b h. stops_by s b is (split_.differ b h);
    }) least)
other_by false bs marks s here first e o is least = alone bs marks s here first o (none_of_sort bs marks s o (differs s bs e)) least

other : (bs : List Block) (marks : List Mark) (s : Sort) (here : ℕ) (first : Option ℕ) → AreOpen bs marks → is_statement s ≡ false → IsLeastLine (SomeMarkBreaks marks) first
    → IsState (ended_other s here (kept bs) first) (mark_ends s here ∷ marks)
unfolding ended_other
other bs marks s here first o is least = other_by (holds s (kept bs)) bs marks s here first refl o is least

ends_by : (is : Bool) (bs : List Block) (marks : List Mark) (s : Sort) (here : ℕ) (first : Option ℕ) → is_statement s ≡ is → AreOpen bs marks → IsLeastLine (SomeMarkBreaks marks) first
    → IsState (if is then ended_statement s here (kept bs) first else ended_other s here (kept bs) first) (mark_ends s here ∷ marks)
ends_by true bs marks s here first e o least = statement bs marks s here first o e least
ends_by false bs marks s here first e o least = other bs marks s here first o e least

-- A MARK

stays_least : (marks : List Mark) (r : Mark) (first : Option ℕ) → ((l : ℕ) → SomeMarkBreaks (r ∷ marks) l → SomeMarkBreaks marks l) → IsLeastLine (SomeMarkBreaks marks) first → IsLeastLine (SomeMarkBreaks (r ∷ marks)) first
stays_least marks r first back least = least_same lines_ordered (SomeMarkBreaks marks) (SomeMarkBreaks (r ∷ marks)) first least (λ l h. inr h) back

mark_next : (k : Role) (here : ℕ) (bs : List Block) (first : Option ℕ) (marks : List Mark) → AreOpen bs marks → IsLeastLine (SomeMarkBreaks marks) first
    → IsState (stepped k here (kept bs, first)) (record { role = k; line = here } ∷ marks)
unfolding stepped
mark_next (role.Opens s) here bs first marks o least = record {
  blocks = block (length marks) s here ∷ bs;
  are_open = open_more bs marks s here o;
  kept_are = refl;
  least = stays_least marks (mark_opens s here) first (λ l h. elim h [ inl k ↦ absurd k | inr k ↦ k ]) least;
}
mark_next (role.Ends s) here bs first marks o least = ends_by (is_statement s) bs marks s here first refl o least
mark_next role.Stays here bs first marks o least = record {
  blocks = bs;
  are_open = open_same bs marks here o;
  kept_are = refl;
  least = stays_least marks (mark_stays here) first (λ l h. elim h [ inl k ↦ absurd k | inr k ↦ k ]) least;
}

pub state_next : (k : Role) (here : ℕ) (st : State) (marks : List Mark) → IsState st marks → IsState (stepped k here st) (record { role = k; line = here } ∷ marks)
state_next k here st marks t =
    subst (λ stack. IsState (stepped k here (stack, st.1)) (record { role = k; line = here } ∷ marks)) t.kept_are (mark_next k here t.blocks st.1 marks t.are_open t.least)

pub on_ok : {A E : Type 0} (r : Result A E) (P Q : Type 0) → (P → Q) → OnOk r P → OnOk r Q
on_ok (Ok x) P Q f h = f h
on_ok (Err e) P Q f h = tt

-- THE FIRST AND THE LAST STATE

pub state_first : IsState ([], None) []
state_first = record {
  blocks = [];
  are_open = record { nested = tt; all = λ b h. h; none_else = λ b h. h };
  kept_are = refl;
  least = λ l h. h;
}

-- the state behind marks
unfoldable pub run : List Mark → State
run [] = ([], None)
run (r ∷ marks) = stepped r.role r.line (run marks)

pub run_is : (marks : List Mark) → IsState (run marks) marks
unfolding run
run_is [] = state_first
run_is (r ∷ marks) = state_next r.role r.line (run marks) marks (run_is marks)

innermost_decided : (same : Bool) (x : Block) (bs : List Block) (marks : List Mark) (s : Sort) → same_sort x.sort s ≡ same → AreOpen (x ∷ bs) marks → is_statement s ≡ true → IsDecided (IsOpen marks) s
innermost_decided true x bs marks s e o is = inl (x, closes [] x bs marks s (record { are_open = o; fits = same_is x.sort s e; none_stops = λ b h k. absurd h }))
innermost_decided false x bs marks s e o is = inr (none_of_statement x bs marks s o is (same_not x.sort s e))

statement_decided : (bs : List Block) (marks : List Mark) (s : Sort) → AreOpen bs marks → is_statement s ≡ true → IsDecided (IsOpen marks) s
statement_decided [] marks s o is = inr (none_in_none marks s o)
statement_decided (x ∷ bs) marks s o is = innermost_decided (same_sort x.sort s) x bs marks s refl o is

other_decided : (held : Bool) (bs : List Block) (marks : List Mark) (s : Sort) → holds s (kept bs) ≡ held → AreOpen bs marks → is_statement s ≡ false → IsDecided (IsOpen marks) s
other_decided true bs marks s e o is =
    let split_ = find s bs e in
    inl (
      split_.at,
      closes split_.ps split_.at split_.rest marks s (record {
        are_open = subst (λ ys. AreOpen ys marks) split_.parts o;
        fits = split_.fits;
        none_stops = λ b h. stops_by s b is (split_.differ b h);
      }),
    )
other_decided false bs marks s e o is = inr (none_of_sort bs marks s o (differs s bs e))

ender_decided : (is : Bool) (bs : List Block) (marks : List Mark) (s : Sort) → is_statement s ≡ is → AreOpen bs marks → IsDecided (IsOpen marks) s
ender_decided true bs marks s e o = statement_decided bs marks s o e
ender_decided false bs marks s e o = other_decided (holds s (kept bs)) bs marks s refl o e

-- an ender closes a block, or has none
pub decided : (marks : List Mark) (s : Sort) → IsDecided (IsOpen marks) s
decided marks s = let t = run_is marks in ender_decided (is_statement s) t.blocks marks s refl t.are_open

pub state_last : (st : State) (marks : List Mark) → IsState st marks → IsLeastLine (BreaksBackwards marks) (left st.0 st.1)
state_last st marks t =
    subst (λ stack. IsLeastLine (BreaksBackwards marks) (left stack st.1)) t.kept_are
    (least_same lines_ordered (λ l. SomeMarkBreaks marks l ⊎ IsLineOf t.blocks l) (BreaksBackwards marks) (left (kept t.blocks) st.1) (least_lines t.blocks (SomeMarkBreaks marks) st.1 t.least)
    (λ l h. there marks l (elim h [ inl k ↦ inl k | inr (b, k, e) ↦ inr (b, t.are_open.none_else b k, e) ]))
    (λ l h. elim (back decided marks l h) [ inl k ↦ inl k | inr (b, k, e) ↦ inr (b, t.are_open.all b k, e) ]))
