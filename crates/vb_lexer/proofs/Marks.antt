-- Lines that begin and end regions.
use Rattle.std.proofs.Common.{◌≡◌, ◌⊎◌, inl, inr, ℕ, zero, suc, ◌+◌, ◌-◌, ◌^◌, min, ◌<◌, ◌≤◌, Bool, true, false, List, [], ◌∷◌, ◌++◌, Option, None, Some, refl, ap, sym, ◌∙◌, subst, arith, append_assoc, if◌then◌else◌}
use Rattle.vb_diag.specs.Broken.{IsLeastLine}
use Rattle.vb_lexer.specs.{Lines.{begun, ended, IsUnclosed, IsUnopened, RegionBreaks}, declared.regions.Regions.Regions, Regions.{Tracks, AreBefore, IsClosed, IsOpen, IsBalanced, IsState}}

count_yes : (t : Bool) (x y z : ℕ) → x ≡ y + z → (if t then x + 1 else x) ≡ (if t then y + 1 else y) + z
count_yes true x y z e = omega arith
count_yes false x y z e = e

count_no : (t : Bool) (x y z : ℕ) → x ≡ y + z → (if t then x else x + 1) ≡ (if t then y else y + 1) + z
count_no true x y z e = e
count_no false x y z e = omega arith

begun_append : (a b : List (ℕ × Bool)) → begun (a ++ b) ≡ begun a + begun b
begun_append [] b = omega arith
begun_append (m ∷ ms) b = count_yes m.1 _ _ _ (begun_append ms b)

ended_append : (a b : List (ℕ × Bool)) → ended (a ++ b) ≡ ended a + ended b
ended_append [] b = omega arith
ended_append (m ∷ ms) b = count_no m.1 _ _ _ (ended_append ms b)

-- a list that ends with y is x with what stands before and behind it
abbrev SplitsAt : List (ℕ × Bool) → List (ℕ × Bool) → List (ℕ × Bool) → ℕ × Bool → ℕ × Bool → Type 0
SplitsAt front back marks x y =
    ((back ≡ []) × (front ≡ marks) × (x ≡ y)) ⊎ ((rest : List (ℕ × Bool)) × (back ≡ rest ++ (y ∷ [])) × (marks ≡ front ++ (x ∷ rest)))

split_more : (f : ℕ × Bool) (front back marks : List (ℕ × Bool)) (x y : ℕ × Bool) → SplitsAt front back marks x y → SplitsAt (f ∷ front) back (f ∷ marks) x y
split_more f front back marks x y (inl p) = inl (p.0, ap (λ l. f ∷ l) p.1, p.2)
split_more f front back marks x y (inr q) = inr (q.0, q.1, ap (λ l. f ∷ l) q.2)

not_empty : (front back : List (ℕ × Bool)) (x : ℕ × Bool) → front ++ (x ∷ back) ≡ [] → ⊥
not_empty [] back x e = cc
not_empty (f ∷ front) back x e = cc

splits : (front back marks : List (ℕ × Bool)) (x y : ℕ × Bool) → marks ++ (y ∷ []) ≡ front ++ (x ∷ back) → SplitsAt front back marks x y
splits [] back [] x y e = inl (cc, refl, cc)
splits [] back (m ∷ marks) x y e = inr (marks, cc, cc)
splits (f ∷ front) back [] x y e =
    let none : front ++ (x ∷ back) ≡ [] = cc in absurd (not_empty front back x none)
splits (f ∷ front) back (m ∷ marks) x y e =
    let rest : marks ++ (y ∷ []) ≡ front ++ (x ∷ back) = cc in
    let same : f ≡ m = cc in
    subst (λ k. SplitsAt (f ∷ front) back (k ∷ marks) x y) same (split_more f front back marks x y (splits front back marks x y rest))

-- what a list that ends with x begins with
abbrev BeginsWith : List (ℕ × Bool) → List (ℕ × Bool) → ℕ × Bool → Type 0
BeginsWith part marks x = ((rest : List (ℕ × Bool)) × (marks ≡ part ++ rest)) ⊎ (part ≡ marks ++ (x ∷ []))

begins_more : (p : ℕ × Bool) (part marks : List (ℕ × Bool)) (x : ℕ × Bool) → BeginsWith part marks x → BeginsWith (p ∷ part) (p ∷ marks) x
begins_more p part marks x (inl q) = inl (q.0, ap (λ l. p ∷ l) q.1)
begins_more p part marks x (inr e) = inr (ap (λ l. p ∷ l) e)

one_only : (p : ℕ × Bool) (part rest : List (ℕ × Bool)) (x : ℕ × Bool) → x ∷ [] ≡ p ∷ (part ++ rest) → p ∷ part ≡ x ∷ []
one_only p [] rest x e = cc
one_only p (q ∷ part) rest x e = cc

begins : (part rest marks : List (ℕ × Bool)) (x : ℕ × Bool) → marks ++ (x ∷ []) ≡ part ++ rest → BeginsWith part marks x
begins [] rest marks x e = inl (marks, refl)
begins (p ∷ part) rest [] x e = inr (one_only p part rest x e)
begins (p ∷ part) rest (m ∷ marks) x e =
    let more : marks ++ (x ∷ []) ≡ part ++ rest = cc in
    let same : p ≡ m = cc in
    subst (λ k. BeginsWith (p ∷ part) (k ∷ marks) x) same (begins_more p part marks x (begins part rest marks x more))

nil_behind : (l : List (ℕ × Bool)) → l ≡ l ++ []
nil_behind [] = refl
nil_behind (m ∷ l) = ap (λ k. m ∷ k) (nil_behind l)

nothing_within : (part rest : List (ℕ × Bool)) → [] ≡ part ++ rest → ended part ≤ begun part
nothing_within [] rest e = omega arith
nothing_within (p ∷ part) rest e = absurd (cc)

before_end : (marks : List (ℕ × Bool)) (m : ℕ × Bool) (line : ℕ) → AreBefore (marks ++ (m ∷ [])) line → AreBefore marks line
before_end [] m line b = tt
before_end (k ∷ marks) m line b = (b.0, before_end marks m line b.1)

last_before : (marks : List (ℕ × Bool)) (m : ℕ × Bool) (line : ℕ) → AreBefore (marks ++ (m ∷ [])) line → m.0 < line
last_before [] m line b = b.0
last_before (k ∷ marks) m line b = last_before marks m line b.1

inner_before : (front back : List (ℕ × Bool)) (x : ℕ × Bool) (line : ℕ) → AreBefore (front ++ (x ∷ back)) line → x.0 < line
inner_before [] back x line b = b.0
inner_before (f ∷ front) back x line b = inner_before front back x line b.1

unclosed_before : (marks : List (ℕ × Bool)) (line n : ℕ) → IsUnclosed marks line → AreBefore marks n → line < n
unclosed_before marks line n u b = inner_before u.front u.back (line, true) n (subst (λ l. AreBefore l n) u.stands b)

unopened_before : (marks : List (ℕ × Bool)) (line n : ℕ) → IsUnopened marks line → AreBefore marks n → line < n
unopened_before marks line n u b = inner_before u.front u.back (line, false) n (subst (λ l. AreBefore l n) u.stands b)

stands_on : (marks front back : List (ℕ × Bool)) (x m : ℕ × Bool) → marks ≡ front ++ (x ∷ back) → marks ++ (m ∷ []) ≡ front ++ (x ∷ (back ++ (m ∷ [])))
stands_on marks front back x m e = ap (λ l. l ++ (m ∷ [])) e ∙ append_assoc front (x ∷ back) (m ∷ [])

unopened_on : (marks : List (ℕ × Bool)) (m : ℕ × Bool) (line : ℕ) → IsUnopened marks line → IsUnopened (marks ++ (m ∷ [])) line
unopened_on marks m line u = record { front = u.front; back = u.back ++ (m ∷ []); stands = stands_on marks u.front u.back (line, false) m u.stands; alone = u.alone }

stays_on : (back : List (ℕ × Bool)) (m : ℕ × Bool) → ((part rest : List (ℕ × Bool)) → back ≡ part ++ rest → ended part ≤ begun part) → ended (back ++ (m ∷ [])) ≤ begun (back ++ (m ∷ [])) → (part rest : List (ℕ × Bool)) → BeginsWith part back m → ended part ≤ begun part
stays_on back m stays whole part rest (inl q) = stays part q.0 q.1
stays_on back m stays whole part rest (inr e) = rw e whole

abbrev unclosed_on : (marks : List (ℕ × Bool)) (m : ℕ × Bool) (line : ℕ) (u : IsUnclosed marks line) → ended (u.back ++ (m ∷ [])) ≤ begun (u.back ++ (m ∷ [])) → IsUnclosed (marks ++ (m ∷ [])) line
unclosed_on marks m line u whole = record {
  front = u.front;
  back = u.back ++ (m ∷ []);
  stands = stands_on marks u.front u.back (line, true) m u.stands;
  stays = λ part rest e. stays_on u.back m u.stays whole part rest (begins part rest u.back m e);
}

abbrev Is : ℕ × Bool → ℕ × Bool → Type 0
Is a b = a ≡ b

unclosed_split : (marks : List (ℕ × Bool)) (m : ℕ × Bool) (line : ℕ) (u : IsUnclosed (marks ++ (m ∷ [])) line) → SplitsAt u.front u.back marks (line, true) m → Is (line, true) m ⊎ IsUnclosed marks line
unclosed_split marks m line u (inl p) = inl p.2
unclosed_split marks m line u (inr q) = inr (record {
  front = u.front;
  back = q.0;
  stands = q.2;
  stays = λ part rest e. u.stays part (rest ++ (m ∷ [])) (q.1 ∙ ap (λ l. l ++ (m ∷ [])) e ∙ append_assoc part rest (m ∷ []));
})

unclosed_from : (marks : List (ℕ × Bool)) (m : ℕ × Bool) (line : ℕ) → IsUnclosed (marks ++ (m ∷ [])) line → Is (line, true) m ⊎ IsUnclosed marks line
unclosed_from marks m line u = unclosed_split marks m line u (splits u.front u.back marks (line, true) m u.stands)

abbrev EndsAlone : List (ℕ × Bool) → Type 0
EndsAlone marks = (rest part : List (ℕ × Bool)) → marks ≡ rest ++ part → begun part ≤ ended part

unopened_split : (marks : List (ℕ × Bool)) (m : ℕ × Bool) (line : ℕ) (u : IsUnopened (marks ++ (m ∷ [])) line) → SplitsAt u.front u.back marks (line, false) m → (Is (line, false) m × EndsAlone marks) ⊎ IsUnopened marks line
unopened_split marks m line u (inl p) = inl (p.2, λ rest part e. u.alone rest part (p.1 ∙ e))
unopened_split marks m line u (inr q) = inr (record { front = u.front; back = q.0; stands = q.2; alone = u.alone })

unopened_from : (marks : List (ℕ × Bool)) (m : ℕ × Bool) (line : ℕ) → IsUnopened (marks ++ (m ∷ [])) line → (Is (line, false) m × EndsAlone marks) ⊎ IsUnopened marks line
unopened_from marks m line u = unopened_split marks m line u (splits u.front u.back marks (line, false) m u.stands)

true_not_false : {k l : ℕ} → ◌≡◌ {A = ℕ × Bool} (k, true) (l, false) → ⊥
true_not_false e = let same : true ≡ false = ap (λ (p : ℕ × Bool). p.1) e in cc

same_line : (k : ℕ) (t : Bool) (m : ℕ × Bool) → ◌≡◌ {A = ℕ × Bool} (k, t) m → k ≡ m.0
same_line k t m e = ap (λ (p : ℕ × Bool). p.0) e

-- THE FIRST LINE THAT ENDS A REGION WHICH ISN'T OPEN

abbrev IsFirst : List (ℕ × Bool) → ℕ → Type 0
IsFirst marks first = IsUnopened marks first × ((line : ℕ) → RegionBreaks marks line → first ≤ line)

late_unclosed : (marks : List (ℕ × Bool)) (m : ℕ × Bool) (first line : ℕ) → IsFirst marks first → first < m.0 → Is (line, true) m ⊎ IsUnclosed marks line → first ≤ line
late_unclosed marks m first line f after (inl e) = omega (arith, same_line line true m e)
late_unclosed marks m first line f after (inr u) = f.1 line (inl u)

late_unopened : (marks : List (ℕ × Bool)) (m : ℕ × Bool) (first line : ℕ) → IsFirst marks first → first < m.0 → (Is (line, false) m × EndsAlone marks) ⊎ IsUnopened marks line → first ≤ line
late_unopened marks m first line f after (inl e) = omega (arith, same_line line false m e.0)
late_unopened marks m first line f after (inr u) = f.1 line (inr u)

late : (marks : List (ℕ × Bool)) (m : ℕ × Bool) (first line : ℕ) → IsFirst marks first → first < m.0 → RegionBreaks (marks ++ (m ∷ [])) line → first ≤ line
late marks m first line f after (inl u) = late_unclosed marks m first line f after (unclosed_from marks m line u)
late marks m first line f after (inr u) = late_unopened marks m first line f after (unopened_from marks m line u)

first_on : (marks : List (ℕ × Bool)) (m : ℕ × Bool) (first : ℕ) → IsFirst marks first → AreBefore marks m.0 → IsFirst (marks ++ (m ∷ [])) first
first_on marks m first f b = (unopened_on marks m first f.0, λ line breaks. late marks m first line f (unopened_before marks first m.0 f.0 b) breaks)

-- A REGION BEGINS

begin_within : (marks part rest : List (ℕ × Bool)) (n d : ℕ) → IsBalanced marks d → BeginsWith part marks (n, true) → ended part ≤ begun part
begin_within marks part rest n d b (inl q) = b.within part q.0 q.1
begin_within marks part rest n d b (inr e) = rw e (omega (arith, begun_append marks ((n, true) ∷ []), ended_append marks ((n, true) ∷ []), b.count))

begin_no_unopened : (marks : List (ℕ × Bool)) (n d line : ℕ) → IsBalanced marks d → (Is (line, false) (n, true) × EndsAlone marks) ⊎ IsUnopened marks line → ⊥
begin_no_unopened marks n d line b (inl e) = true_not_false (sym e.0)
begin_no_unopened marks n d line b (inr u) = b.no_unopened line u

begin_balanced : (marks : List (ℕ × Bool)) (n d : ℕ) → IsBalanced marks d → IsBalanced (marks ++ ((n, true) ∷ [])) (suc d)
begin_balanced marks n d b = record {
  count = omega (arith, begun_append marks ((n, true) ∷ []), ended_append marks ((n, true) ∷ []), b.count);
  within = λ part rest e. begin_within marks part rest n d b (begins part rest marks (n, true) e);
  no_unopened = λ line u. begin_no_unopened marks n d line b (unopened_from marks (n, true) line u);
}

begin_first : (marks : List (ℕ × Bool)) (n line : ℕ) → IsClosed marks → Is (line, true) (n, true) ⊎ IsUnclosed marks line → n ≤ line
begin_first marks n line closed (inl e) = omega (arith, same_line line true (n, true) e)
begin_first marks n line closed (inr u) = absurd (closed.no_unclosed line u)

begin_outer : (marks : List (ℕ × Bool)) (n : ℕ) → IsBalanced marks 0 → IsClosed marks → IsOpen (marks ++ ((n, true) ∷ [])) n
begin_outer marks n b closed = record {
  unclosed = record { front = marks; back = []; stands = refl; stays = nothing_within };
  outermost = omega (arith, b.count);
  first = λ line u. begin_first marks n line closed (unclosed_from marks (n, true) line u);
}

inner_first : (marks : List (ℕ × Bool)) (n outer line : ℕ) → IsOpen marks outer → outer < n → Is (line, true) (n, true) ⊎ IsUnclosed marks line → outer ≤ line
inner_first marks n outer line o after (inl e) = omega (arith, same_line line true (n, true) e)
inner_first marks n outer line o after (inr u) = o.first line u

begin_inner : (marks : List (ℕ × Bool)) (n outer : ℕ) → IsOpen marks outer → AreBefore marks n → IsOpen (marks ++ ((n, true) ∷ [])) outer
begin_inner marks n outer o before =
    let whole = o.unclosed.stays o.unclosed.back [] (nil_behind _) in
    record {
      unclosed = unclosed_on marks (n, true) outer o.unclosed (omega (arith, whole, begun_append o.unclosed.back ((n, true) ∷ []), ended_append o.unclosed.back ((n, true) ∷ [])));
      outermost = o.outermost;
      first = λ line u. inner_first marks n outer line o (unclosed_before marks outer n o.unclosed before) (unclosed_from marks (n, true) line u);
    }

-- A REGION ENDS

end_within : (marks part rest : List (ℕ × Bool)) (n d : ℕ) → IsBalanced marks (suc d) → BeginsWith part marks (n, false) → ended part ≤ begun part
end_within marks part rest n d b (inl q) = b.within part q.0 q.1
end_within marks part rest n d b (inr e) = rw e (omega (arith, begun_append marks ((n, false) ∷ []), ended_append marks ((n, false) ∷ []), b.count))

end_no_unopened : (marks : List (ℕ × Bool)) (n d line : ℕ) → IsBalanced marks (suc d) → (Is (line, false) (n, false) × EndsAlone marks) ⊎ IsUnopened marks line → ⊥
end_no_unopened marks n d line b (inl e) = let alone = e.1 [] marks refl in omega (arith, alone, b.count)
end_no_unopened marks n d line b (inr u) = b.no_unopened line u

end_balanced : (marks : List (ℕ × Bool)) (n d : ℕ) → IsBalanced marks (suc d) → IsBalanced (marks ++ ((n, false) ∷ [])) d
end_balanced marks n d b = record {
  count = omega (arith, begun_append marks ((n, false) ∷ []), ended_append marks ((n, false) ∷ []), b.count);
  within = λ part rest e. end_within marks part rest n d b (begins part rest marks (n, false) e);
  no_unopened = λ line u. end_no_unopened marks n d line b (unopened_from marks (n, false) line u);
}

end_first : (marks : List (ℕ × Bool)) (n outer line : ℕ) → IsOpen marks outer → Is (line, true) (n, false) ⊎ IsUnclosed marks line → outer ≤ line
end_first marks n outer line o (inl e) = absurd (true_not_false e)
end_first marks n outer line o (inr u) = o.first line u

end_inner : (marks : List (ℕ × Bool)) (n outer d : ℕ) → IsBalanced marks (suc (suc d)) → IsOpen marks outer → IsOpen (marks ++ ((n, false) ∷ [])) outer
end_inner marks n outer d b o =
    let u = o.unclosed in
    let begins_are = ap begun u.stands ∙ begun_append u.front ((outer, true) ∷ u.back) in
    let ends_are = ap ended u.stands ∙ ended_append u.front ((outer, true) ∷ u.back) in
    record {
      unclosed = unclosed_on marks (n, false) outer u (omega (arith, begins_are, ends_are, b.count, o.outermost, begun_append u.back ((n, false) ∷ []), ended_append u.back ((n, false) ∷ [])));
      outermost = o.outermost;
      first = λ line v. end_first marks n outer line o (unclosed_from marks (n, false) line v);
    }

end_split : (marks : List (ℕ × Bool)) (n line : ℕ) → IsBalanced marks 1 → (u : IsUnclosed (marks ++ ((n, false) ∷ [])) line) → SplitsAt u.front u.back marks (line, true) (n, false) → ⊥
end_split marks n line b u (inl p) = true_not_false p.2
end_split marks n line b u (inr q) =
    let whole = u.stays u.back [] (nil_behind _) in
    let begins_are = ap begun q.2 ∙ begun_append u.front ((line, true) ∷ q.0) in
    let ends_are = ap ended q.2 ∙ ended_append u.front ((line, true) ∷ q.0) in
    let back_begins = ap begun q.1 ∙ begun_append q.0 ((n, false) ∷ []) in
    let back_ends = ap ended q.1 ∙ ended_append q.0 ((n, false) ∷ []) in
    let front_within = b.within u.front ((line, true) ∷ q.0) q.2 in
    omega (arith, whole, begins_are, ends_are, back_begins, back_ends, front_within, b.count)

end_closed : (marks : List (ℕ × Bool)) (n : ℕ) → IsBalanced marks 1 → IsClosed (marks ++ ((n, false) ∷ []))
end_closed marks n b = record { no_unclosed = λ line u. end_split marks n line b u (splits u.front u.back marks (line, true) (n, false) u.stands) }

alone_all : (marks : List (ℕ × Bool)) → IsBalanced marks 0 → EndsAlone marks
alone_all marks b rest part e =
    let begins_are = ap begun e ∙ begun_append rest part in
    let ends_are = ap ended e ∙ ended_append rest part in
    omega (arith, begins_are, ends_are, b.count, b.within rest part e)

no_earlier_unclosed : (marks : List (ℕ × Bool)) (n line : ℕ) → IsClosed marks → Is (line, true) (n, false) ⊎ IsUnclosed marks line → n ≤ line
no_earlier_unclosed marks n line closed (inl e) = absurd (true_not_false e)
no_earlier_unclosed marks n line closed (inr u) = absurd (closed.no_unclosed line u)

no_earlier_unopened : (marks : List (ℕ × Bool)) (n line : ℕ) → IsBalanced marks 0 → (Is (line, false) (n, false) × EndsAlone marks) ⊎ IsUnopened marks line → n ≤ line
no_earlier_unopened marks n line b (inl e) = omega (arith, same_line line false (n, false) e.0)
no_earlier_unopened marks n line b (inr u) = absurd (b.no_unopened line u)

unopened_first : (marks : List (ℕ × Bool)) (n line : ℕ) → IsBalanced marks 0 → IsClosed marks → RegionBreaks (marks ++ ((n, false) ∷ [])) line → n ≤ line
unopened_first marks n line b closed (inl u) = no_earlier_unclosed marks n line closed (unclosed_from marks (n, false) line u)
unopened_first marks n line b closed (inr u) = no_earlier_unopened marks n line b (unopened_from marks (n, false) line u)

end_unopened : (marks : List (ℕ × Bool)) (n : ℕ) → IsBalanced marks 0 → IsClosed marks → IsFirst (marks ++ ((n, false) ∷ [])) n
end_unopened marks n b closed =
    (record { front = marks; back = []; stands = refl; alone = alone_all marks b }, λ line breaks. unopened_first marks n line b closed breaks)

-- THE STATES

state_new : (outer : ℕ) → IsState [] 0 outer None
state_new outer = (
  record { count = refl; within = nothing_within; no_unopened = λ line u. not_empty u.front u.back (line, false) (sym u.stands) },
  record { no_unclosed = λ line u. not_empty u.front u.back (line, true) (sym u.stands) },
)

state_begin_outer : (marks : List (ℕ × Bool)) (n outer : ℕ) (unopened : Option ℕ) → AreBefore marks n → IsState marks 0 outer unopened → IsState (marks ++ ((n, true) ∷ [])) 1 n unopened
state_begin_outer marks n outer None before s = (begin_balanced marks n 0 s.0, begin_outer marks n s.0 s.1)
state_begin_outer marks n outer (Some first) before s = first_on marks (n, true) first s before

state_begin_inner : (marks : List (ℕ × Bool)) (n d outer : ℕ) (unopened : Option ℕ) → AreBefore marks n → IsState marks (suc d) outer unopened → IsState (marks ++ ((n, true) ∷ [])) (suc (suc d)) outer unopened
state_begin_inner marks n d outer None before s = (begin_balanced marks n (suc d) s.0, begin_inner marks n outer s.1 before)
state_begin_inner marks n d outer (Some first) before s = first_on marks (n, true) first s before

state_end : (marks : List (ℕ × Bool)) (n d outer : ℕ) (unopened : Option ℕ) → AreBefore marks n → IsState marks (suc d) outer unopened → IsState (marks ++ ((n, false) ∷ [])) d outer unopened
state_end marks n zero outer None before s = (end_balanced marks n 0 s.0, end_closed marks n s.0)
state_end marks n (suc d) outer None before s = (end_balanced marks n (suc d) s.0, end_inner marks n outer d s.0 s.1)
state_end marks n d outer (Some first) before s = first_on marks (n, false) first s before

state_end_unopened : (marks : List (ℕ × Bool)) (n outer : ℕ) → IsState marks 0 outer None → IsState (marks ++ ((n, false) ∷ [])) 0 outer (Some n)
state_end_unopened marks n outer s = end_unopened marks n s.0 s.1

state_keep : (marks : List (ℕ × Bool)) (m : ℕ × Bool) (d e outer : ℕ) (first : ℕ) → AreBefore marks m.0 → IsState marks d outer (Some first) → IsState (marks ++ (m ∷ [])) e outer (Some first)
state_keep marks m d e outer first before s = first_on marks m first s before

-- THE STRUCT

pub tracks_new : Tracks (record { depth = 0; outer = 0; unopened = None }) []
tracks_new = record { depth_within = λ line b. omega arith; state = state_new 0 }

pub tracks_begin_outer : (marks : List (ℕ × Bool)) (r : Regions) (n : ℕ) → r.depth ≡ 0 → Tracks r marks → AreBefore marks n → Tracks (record { depth = 1; outer = n; unopened = r.unopened }) (marks ++ ((n, true) ∷ []))
tracks_begin_outer marks r n none t before = record {
  depth_within = λ line b. omega (arith, last_before marks (n, true) line b);
  state = state_begin_outer marks n r.outer r.unopened before (subst (λ d. IsState marks d r.outer r.unopened) none t.state);
}

begin_state : (marks : List (ℕ × Bool)) (n d outer : ℕ) (unopened : Option ℕ) → (d ≡ 0 → ⊥) → AreBefore marks n → IsState marks d outer unopened → IsState (marks ++ ((n, true) ∷ [])) (suc d) outer unopened
begin_state marks n zero outer unopened some before s = absurd (some refl)
begin_state marks n (suc d) outer unopened some before s = state_begin_inner marks n d outer unopened before s

pub tracks_begin_inner : (marks : List (ℕ × Bool)) (r : Regions) (n e : ℕ) → (r.depth ≡ 0 → ⊥) → n < 2 ^ 32 → e ≡ min (r.depth + 1) (2 ^ 64 - 1) → Tracks r marks → AreBefore marks n → Tracks (record { depth = e; outer = r.outer; unopened = r.unopened }) (marks ++ ((n, true) ∷ []))
tracks_begin_inner marks r n e some small deeper t before =
    let within = t.depth_within n before in
    let next : suc r.depth ≡ e = omega arith in
    record {
      depth_within = λ line b. omega (arith, last_before marks (n, true) line b);
      state = subst (λ d. IsState (marks ++ ((n, true) ∷ [])) d r.outer r.unopened) next (begin_state marks n r.depth r.outer r.unopened some before t.state);
    }

end_state : (marks : List (ℕ × Bool)) (n d e outer : ℕ) (unopened : Option ℕ) → d ≡ suc e → AreBefore marks n → IsState marks d outer unopened → IsState (marks ++ ((n, false) ∷ [])) e outer unopened
end_state marks n d e outer unopened deeper before s = state_end marks n e outer unopened before (subst (λ k. IsState marks k outer unopened) deeper s)

pub tracks_end : (marks : List (ℕ × Bool)) (r : Regions) (n : ℕ) → 0 < r.depth → Tracks r marks → AreBefore marks n → Tracks (record { depth = r.depth - 1; outer = r.outer; unopened = r.unopened }) (marks ++ ((n, false) ∷ []))
tracks_end marks r n some t before = record {
  depth_within = λ line b. omega (arith, t.depth_within line (before_end marks (n, false) line b));
  state = end_state marks n r.depth (r.depth - 1) r.outer r.unopened (omega arith) before t.state;
}

unopened_state : (marks : List (ℕ × Bool)) (n d outer : ℕ) (unopened : Option ℕ) → d ≡ 0 → unopened ≡ None → IsState marks d outer unopened → IsState (marks ++ ((n, false) ∷ [])) d outer (Some n)
unopened_state marks n zero outer None none empty s = state_end_unopened marks n outer s
unopened_state marks n zero outer (Some first) none empty s = absurd (cc)
unopened_state marks n (suc d) outer unopened none empty s = absurd (omega arith)

pub tracks_unopened : (marks : List (ℕ × Bool)) (r : Regions) (n : ℕ) → r.depth ≡ 0 → r.unopened ≡ None → Tracks r marks → AreBefore marks n → Tracks (record { depth = r.depth; outer = r.outer; unopened = Some n }) (marks ++ ((n, false) ∷ []))
tracks_unopened marks r n none empty t before = record {
  depth_within = λ line b. omega arith;
  state = unopened_state marks n r.depth r.outer r.unopened none empty t.state;
}

keep_state : (marks : List (ℕ × Bool)) (n d outer first : ℕ) (unopened : Option ℕ) → unopened ≡ Some first → AreBefore marks n → IsState marks d outer unopened → IsState (marks ++ ((n, false) ∷ [])) d outer unopened
keep_state marks n d outer first None is before s = absurd (cc)
keep_state marks n d outer first (Some k) is before s = state_keep marks (n, false) d d outer k before s

pub tracks_kept : (marks : List (ℕ × Bool)) (r : Regions) (n first : ℕ) → r.depth ≡ 0 → r.unopened ≡ Some first → Tracks r marks → AreBefore marks n → Tracks r (marks ++ ((n, false) ∷ []))
tracks_kept marks r n first none is t before = record {
  depth_within = λ line b. omega arith;
  state = keep_state marks n r.depth r.outer first r.unopened is before t.state;
}

-- THE FIRST LINE THAT BREAKS THE RULE

unopened_breaks : (marks : List (ℕ × Bool)) (d outer first : ℕ) (unopened : Option ℕ) → unopened ≡ Some first → IsState marks d outer unopened → IsLeastLine (RegionBreaks marks) (Some first)
unopened_breaks marks d outer first None is s = absurd (cc)
unopened_breaks marks d outer first (Some k) is s =
    let same : k ≡ first = cc in subst (λ l. IsLeastLine (RegionBreaks marks) (Some l)) same (inr s.0, s.1)

pub first_unopened : (marks : List (ℕ × Bool)) (r : Regions) (first : ℕ) → r.unopened ≡ Some first → Tracks r marks → IsLeastLine (RegionBreaks marks) (Some first)
first_unopened marks r first is t = unopened_breaks marks r.depth r.outer first r.unopened is t.state

open_first : (marks : List (ℕ × Bool)) (d outer line : ℕ) → IsBalanced marks d → IsOpen marks outer → RegionBreaks marks line → outer ≤ line
open_first marks d outer line b o (inl u) = o.first line u
open_first marks d outer line b o (inr u) = absurd (b.no_unopened line u)

open_breaks : (marks : List (ℕ × Bool)) (d outer : ℕ) (unopened : Option ℕ) → unopened ≡ None → 0 < d → IsState marks d outer unopened → IsLeastLine (RegionBreaks marks) (Some outer)
open_breaks marks d outer (Some k) empty some s = absurd (cc)
open_breaks marks zero outer None empty some s = absurd (omega arith)
open_breaks marks (suc d) outer None empty some s = (inl s.1.unclosed, λ line breaks. open_first marks (suc d) outer line s.0 s.1 breaks)

pub first_open : (marks : List (ℕ × Bool)) (r : Regions) → r.unopened ≡ None → 0 < r.depth → Tracks r marks → IsLeastLine (RegionBreaks marks) (Some r.outer)
first_open marks r empty some t = open_breaks marks r.depth r.outer r.unopened empty some t.state

none_breaks : (marks : List (ℕ × Bool)) (d line : ℕ) → IsBalanced marks d → IsClosed marks → RegionBreaks marks line → ⊥
none_breaks marks d line b closed (inl u) = closed.no_unclosed line u
none_breaks marks d line b closed (inr u) = b.no_unopened line u

closed_breaks : (marks : List (ℕ × Bool)) (d outer : ℕ) (unopened : Option ℕ) → unopened ≡ None → d ≡ 0 → IsState marks d outer unopened → IsLeastLine (RegionBreaks marks) None
closed_breaks marks d outer (Some k) empty none s = absurd (cc)
closed_breaks marks (suc d) outer None empty none s = absurd (omega arith)
closed_breaks marks zero outer None empty none s = λ line breaks. none_breaks marks 0 line s.0 s.1 breaks

pub first_none : (marks : List (ℕ × Bool)) (r : Regions) → r.unopened ≡ None → r.depth ≡ 0 → Tracks r marks → IsLeastLine (RegionBreaks marks) None
first_none marks r empty none t = closed_breaks marks r.depth r.outer r.unopened empty none t.state
