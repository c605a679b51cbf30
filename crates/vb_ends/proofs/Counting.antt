-- The counts stay those of the blocks.
use Rattle.std.proofs.Common.{◌≡◌, ℕ, ◌+◌, ◌-◌, ◌<◌, ◌≤◌, nat_lt, Bool, true, false, if◌then◌else◌, List, [], ◌∷◌, ◌++◌, reverse, length, slice_index_or, slice_set, refl, sym, ◌∙◌, ap, subst, arith, length-append}
use Rattle.std.proofs.lemmas.List.{reverse-append, get_or-set_same, get_or-set_other}
use Rattle.std.proofs.lemmas.Grind.{common_steps}
use Rattle.vb_ends.specs.{declared.{role.Sort.Sort, stack.Open.Open}, Counts.{number, same_sort, holds, count, AreCounts}}
use Rattle.vb_ends.specs.declared.role.Sort.TheVariants as sort
use Rattle.vb_ends.proofs.Sorts.{same_is, same_self, number_not}

count_cons : (s : Sort) (x : Open) (xs : List Open) → count s (x ∷ xs) ≡ (if same_sort x.sort s then count s xs + 1 else count s xs)
unfolding count
count_cons s x xs = refl

count_none : (s : Sort) → count s [] ≡ 0
unfolding count
count_none s = refl

-- one more, where it is of the sort
one_more : Bool → ℕ → ℕ
one_more b n = if b then n + 1 else n

more_more : (a b : Bool) (n : ℕ) → one_more a (one_more b n) ≡ one_more b (one_more a n)
unfolding one_more
more_more true true n = refl
more_more true false n = refl
more_more false true n = refl
more_more false false n = refl

count_more : (s : Sort) (x : Open) (xs : List Open) → count s (x ∷ xs) ≡ one_more (same_sort x.sort s) (count s xs)
unfolding count one_more
count_more s x xs = refl

count_snoc : (s : Sort) (xs : List Open) (x : Open) → count s (xs ++ x ∷ []) ≡ one_more (same_sort x.sort s) (count s xs)
unfolding count one_more
count_snoc s [] x = refl
count_snoc s (y ∷ ys) x =
    ap (λ n. one_more (same_sort y.sort s) n) (count_snoc s ys x) ∙ more_more (same_sort y.sort s) (same_sort x.sort s) (count s ys)

pub count_here : (xs : List Open) (x : Open) → count x.sort (xs ++ x ∷ []) ≡ count x.sort xs + 1
unfolding one_more
count_here xs x = count_snoc x.sort xs x ∙ ap (λ b. one_more b (count x.sort xs)) (same_self x.sort x.sort refl)

count_other : (s : Sort) (xs : List Open) (x : Open) → same_sort x.sort s ≡ false → count s (xs ++ x ∷ []) ≡ count s xs
unfolding one_more
count_other s xs x e = count_snoc s xs x ∙ ap (λ b. one_more b (count s xs)) e

count_reverse : (s : Sort) (xs : List Open) → count s (reverse xs) ≡ count s xs
unfolding one_more
count_reverse s [] = refl
count_reverse s (x ∷ xs) =
    ap (λ ys. count s ys) (reverse-append (x ∷ []) xs) ∙ count_snoc s (reverse xs) x ∙ ap (λ n. one_more (same_sort x.sort s) n) (count_reverse s xs) ∙ sym (count_cons s x xs)

holds_by : (b c : Bool) (n : ℕ) → nat_lt 0 n ≡ c → nat_lt 0 (one_more b n) ≡ (if b then true else c)
unfolding one_more
holds_by true c n e = grind (arith, common_steps)
holds_by false c n e = e

holds_count : (s : Sort) (xs : List Open) → nat_lt 0 (count s xs) ≡ holds s xs
unfolding holds
holds_count s [] = ap (λ n. nat_lt 0 n) (count_none s)
holds_count s (x ∷ xs) = ap (λ n. nat_lt 0 n) (count_more s x xs) ∙ holds_by (same_sort x.sort s) (holds s xs) (count s xs) (holds_count s xs)

pub counted_holds : (counts : List ℕ) (xs : List Open) (n : ℕ) (s : Sort) → AreCounts counts xs → n ≡ number s → nat_lt 0 (slice_index_or counts n 0) ≡ holds s (reverse xs)
unfolding AreCounts
counted_holds counts xs n s are e =
    ap (λ k. nat_lt 0 (slice_index_or counts k 0)) e ∙ ap (λ k. nat_lt 0 k) (are s ∙ sym (count_reverse s xs)) ∙ holds_count s (reverse xs)

abbrev zeros : List ℕ
zeros = 0 ∷ 0 ∷ 0 ∷ 0 ∷ 0 ∷ 0 ∷ 0 ∷ 0 ∷ 0 ∷ 0 ∷ 0 ∷ 0 ∷ 0 ∷ 0 ∷ 0 ∷ 0 ∷ 0 ∷ 0 ∷ 0 ∷ 0 ∷ 0 ∷ []

zero_at : (s : Sort) → slice_index_or zeros (number s) 0 ≡ 0
zero_at sort.If = refl
zero_at sort.While = refl
zero_at sort.Do = refl
zero_at sort.For = refl
zero_at sort.Select = refl
zero_at sort.Try = refl
zero_at sort.SyncLock = refl
zero_at sort.With = refl
zero_at sort.Using = refl
zero_at sort.Sub = refl
zero_at sort.Function = refl
zero_at sort.Property = refl
zero_at sort.Get = refl
zero_at sort.Set = refl
zero_at sort.Event = refl
zero_at sort.AddHandler = refl
zero_at sort.RemoveHandler = refl
zero_at sort.RaiseEvent = refl
zero_at sort.Module = refl
zero_at sort.Class = refl
zero_at sort.Interface = refl

-- the first counts
pub counted_none : (xs : List Open) → xs ≡ [] → AreCounts zeros xs
unfolding AreCounts
counted_none xs e s = zero_at s ∙ sym (ap (λ ys. count s ys) e ∙ count_none s)

set_by : (b : Bool) (counts : List ℕ) (xs ys : List Open) (x : Open) (v : ℕ) (s : Sort) → same_sort x.sort s ≡ b → number x.sort < length counts → AreCounts counts xs
    → v ≡ count x.sort ys → (same_sort x.sort s ≡ false → count s xs ≡ count s ys) → slice_index_or (slice_set counts (number x.sort) v) (number s) 0 ≡ count s ys
unfolding AreCounts
set_by true counts xs ys x v s e within are value others =
    let same = same_is x.sort s e in
    subst (λ t. slice_index_or (slice_set counts (number x.sort) v) (number t) 0 ≡ count t ys) same (get_or-set_same counts (number x.sort) v 0 within ∙ value)
set_by false counts xs ys x v s e within are value others = get_or-set_other counts (number x.sort) (number s) v 0 (number_not x.sort s e) ∙ are s ∙ others e

-- a count is changed to that of other blocks, which have the same of each other sort
set_counts : (counts : List ℕ) (xs ys : List Open) (x : Open) (n v : ℕ) → n ≡ number x.sort → n < length counts → AreCounts counts xs
    → v ≡ count x.sort ys → ((s : Sort) → same_sort x.sort s ≡ false → count s xs ≡ count s ys) → AreCounts (slice_set counts n v) ys
unfolding AreCounts
set_counts counts xs ys x n v e within are value others =
    subst (λ k. AreCounts (slice_set counts k v) ys) (sym e)
    (λ s. set_by (same_sort x.sort s) counts xs ys x v s refl (subst (λ k. k < length counts) e within) are value (others s))

pub counted_push : (counts : List ℕ) (xs ys : List Open) (x : Open) (n v : ℕ) → n ≡ number x.sort → n < length counts → v ≡ slice_index_or counts n 0 + 1 → ys ≡ xs ++ x ∷ []
    → AreCounts counts xs → AreCounts (slice_set counts n v) ys
unfolding AreCounts
counted_push counts xs ys x n v e within more pushed are =
    subst (λ zs. AreCounts (slice_set counts n v) zs) (sym pushed)
    (set_counts counts xs (xs ++ x ∷ []) x n v e within are (more ∙ ap (λ k. k + 1) (ap (λ k. slice_index_or counts k 0) e ∙ are x.sort) ∙ sym (count_here xs x))
    (λ s differs. sym (count_other s xs x differs)))

-- the count of the last block's sort
pub counted_last : (counts : List ℕ) (xs ys : List Open) (x : Open) (n : ℕ) → n ≡ number x.sort → xs ≡ ys ++ x ∷ [] → AreCounts counts xs → slice_index_or counts n 0 ≡ count x.sort ys + 1
unfolding AreCounts
counted_last counts xs ys x n e popped are = ap (λ k. slice_index_or counts k 0) e ∙ are x.sort ∙ ap (λ zs. count x.sort zs) popped ∙ count_here ys x

pub counted_pop : (counts : List ℕ) (xs ys : List Open) (x : Open) (n : ℕ) → n ≡ number x.sort → n < length counts → xs ≡ ys ++ x ∷ [] → AreCounts counts xs
    → AreCounts (slice_set counts n (slice_index_or counts n 0 - 1)) ys
counted_pop counts xs ys x n e within popped are =
    let last = counted_last counts xs ys x n e popped are in
    set_counts counts xs ys x n (slice_index_or counts n 0 - 1) e within are (omega (arith, last))
    (λ s differs. ap (λ zs. count s zs) popped ∙ count_other s ys x differs)

more_within : (b : Bool) (n m : ℕ) → n ≤ m → one_more b n ≤ m + 1
unfolding one_more
more_within true n m h = omega (arith, h)
more_within false n m h = omega (arith, h)

count_within : (s : Sort) (xs : List Open) → count s xs ≤ length xs
count_within s [] = let none = count_none s in omega (arith, none)
count_within s (x ∷ xs) =
    let here = count_more s x xs in
    let more = more_within (same_sort x.sort s) (count s xs) (length xs) (count_within s xs) in omega (arith, here, more)

-- a count is less than the length of one block more
pub counted_within : (counts : List ℕ) (xs ys : List Open) (x : Open) (n : ℕ) → n ≡ number x.sort → ys ≡ xs ++ x ∷ [] → AreCounts counts xs → slice_index_or counts n 0 < length ys
unfolding AreCounts
counted_within counts xs ys x n e pushed are =
    let here : slice_index_or counts n 0 ≡ count x.sort xs = ap (λ k. slice_index_or counts k 0) e ∙ are x.sort in
    let within = count_within x.sort xs in
    let longer : length ys ≡ length xs + 1 = ap length pushed ∙ length-append xs (x ∷ []) in
    omega (arith, here, within, longer)
