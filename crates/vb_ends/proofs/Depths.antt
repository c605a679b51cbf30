-- How many blocks are open, and which rows are too deep.
use Rattle.std.proofs.Common.{◌≡◌, ◌⊎◌, inl, inr, ℕ, ◌+◌, ◌<◌, ◌≤◌, List, [], ◌∷◌, reverse, length, take, drop, get_or, Option, Some, refl, sym, ◌∙◌, ap, subst, arith}
use Rattle.std.proofs.lemmas.List.{length-reverse, reverse-append, take_more, drop_more}
use Rattle.vb_syntax.specs.declared.item.Row.{Row}
use Rattle.vb_ends.specs.{declared.{blocks.Blocks.Blocks, role.Mark.Mark}, Depth.{AreSoMany, IsDeep, IsTooDeep}, Enders.{Block, IsAmong, AreNested}, Reading.next_item, Roles.marks_of, Stack.{Tracks, kept}}
use Rattle.vb_diag.specs.Broken.{IsLeastLine, lesser_line}
use Rattle.vb_diag.proofs.Least.{least_same, lines_ordered}
use Rattle.vb_ends.proofs.{Machine.least_one, Nesting.below}

-- HOW MANY

kept_length : (bs : List Block) → length (kept bs) ≡ length bs
kept_length [] = refl
kept_length (b ∷ bs) = let more = kept_length bs in omega (arith, more)

pub so_many : (blocks : Blocks) (n : ℕ) (marks : List Mark) → n ≡ length blocks.stack → Tracks blocks marks → AreSoMany marks n
so_many blocks n marks e t = record {
  blocks = t.blocks;
  are_open = t.are_open;
  counted = sym (kept_length t.blocks) ∙ ap length t.kept_are ∙ length-reverse blocks.stack ∙ sym e;
}

-- the blocks of one list are those of the other
record AreThese (xs ys : List Block) : Type 0 where
  pub there : (b : Block) → IsAmong xs b → IsAmong ys b
  pub back : (b : Block) → IsAmong ys b → IsAmong xs b

-- the innermost of one is the innermost of the other
pub first_by : (x : Block) (xs : List Block) (y : Block) (ys : List Block) (n m : ℕ) → AreNested (x ∷ xs) n → AreNested (y ∷ ys) m → IsAmong (x ∷ xs) y → IsAmong (y ∷ ys) x → x ≡ y
first_by x xs y ys n m nx ny h (inl e) = e
first_by x xs y ys n m nx ny (inl e) (inr k) = sym e
first_by x xs y ys n m nx ny (inr h) (inr k) =
    let one : y.place < x.place = below xs x.place y nx.1 h in
    let other : x.place < y.place = below ys y.place x ny.1 k in absurd (omega (arith, one, other))

-- behind the first
rest_by : (x : Block) (xs : List Block) (y : Block) (ys : List Block) (n : ℕ) → x ≡ y → AreNested (x ∷ xs) n → (b : Block) → IsAmong xs b → IsAmong (y ∷ ys) b → IsAmong ys b
rest_by x xs y ys n same nested b h (inl e) =
    let within : b.place < x.place = below xs x.place b nested.1 h in
    let at : b.place ≡ x.place = ap (λ z. z.place) (e ∙ sym same) in absurd (omega (arith, within, at))
rest_by x xs y ys n same nested b h (inr k) = k

as_many : (xs ys : List Block) (n m : ℕ) → AreNested xs n → AreNested ys m → AreThese xs ys → length xs ≡ length ys
as_many [] [] n m nx ny t = refl
as_many [] (y ∷ ys) n m nx ny t = absurd (t.back y (inl refl))
as_many (x ∷ xs) [] n m nx ny t = absurd (t.there x (inl refl))
as_many (x ∷ xs) (y ∷ ys) n m nx ny t =
    let same = first_by x xs y ys n m nx ny (t.back y (inl refl)) (t.there x (inl refl)) in
    let rest : length xs ≡ length ys = as_many xs ys x.place y.place nx.1 ny.1 (record {
      there = λ b h. rest_by x xs y ys n same nx b h (t.there b (inr h));
      back = λ b h. rest_by y ys x xs m (sym same) ny b h (t.back b (inr h));
    }) in
    omega (arith, rest)

so_many_same : (marks : List Mark) (n m : ℕ) → AreSoMany marks n → AreSoMany marks m → n ≡ m
so_many_same marks n m a b =
    sym a.counted ∙ as_many a.blocks b.blocks (length marks) (length marks) a.are_open.nested b.are_open.nested (record {
      there = λ x h. b.are_open.all x (a.are_open.none_else x h);
      back = λ x h. a.are_open.all x (b.are_open.none_else x h);
    }) ∙ b.counted

-- ONE ROW MORE

pub too_deep : (before : List Row) (r : Row) (bs : List ℕ) (b n : ℕ) (first : Option ℕ) → AreSoMany (marks_of r.item before) n → 100 < n + b → IsLeastLine (IsTooDeep before bs) first
    → IsLeastLine (IsTooDeep (r ∷ before) (b ∷ bs)) (lesser_line first (Some r.line))
too_deep before r bs b n first many past least =
    least_same lines_ordered (λ l. IsTooDeep before bs l ⊎ (l ≡ r.line)) (IsTooDeep (r ∷ before) (b ∷ bs)) (lesser_line first (Some r.line)) (least_one (IsTooDeep before bs) first r.line least)
    (λ l h. elim h [ inl k ↦ inr k | inr e ↦ inl (e, (n, many, past)) ])
    (λ l h. elim h [ inl k ↦ inr k.0 | inr k ↦ inl k ])

flat : (before : List Row) (r : Row) (b n : ℕ) → AreSoMany (marks_of r.item before) n → n + b ≤ 100 → IsDeep before r b → ⊥
flat before r b n many within (m, others, past) = let same = so_many_same (marks_of r.item before) n m many others in omega (arith, same, within, past)

pub not_too_deep : (before : List Row) (r : Row) (bs : List ℕ) (b n : ℕ) (first : Option ℕ) → AreSoMany (marks_of r.item before) n → n + b ≤ 100 → IsLeastLine (IsTooDeep before bs) first
    → IsLeastLine (IsTooDeep (r ∷ before) (b ∷ bs)) first
not_too_deep before r bs b n first many within least =
    least_same lines_ordered (IsTooDeep before bs) (IsTooDeep (r ∷ before) (b ∷ bs)) first least (λ l h. inr h)
    (λ l h. elim h [ inl k ↦ absurd (flat before r b n many within k.1) | inr k ↦ k ])

-- ONE PLACE FURTHER

pub turned_more : {X : Type 0} (xs : List X) (i : ℕ) (x : X) → i < length xs → x ≡ get_or xs i x → reverse (take (i + 1) xs) ≡ x ∷ reverse (take i xs)
turned_more xs i x within at = ap reverse (take_more xs i x within) ∙ reverse-append (take i xs) (get_or xs i x ∷ []) ∙ ap (λ y. y ∷ reverse (take i xs)) (sym at)

pub item_here : (rows : List Row) (i : ℕ) (r : Row) → i < length rows → r ≡ get_or rows i r → next_item (drop i rows) ≡ r.item
item_here rows i r within at = ap next_item (drop_more rows i r within) ∙ ap (λ x. x.item) (sym at)

-- the least line so far, with that of a row
abbrev pub IsNext : Option ℕ → ℕ → ℕ → Option ℕ → Type 0
IsNext first line depth next = ((100 < depth) × (next ≡ lesser_line first (Some line))) ⊎ ((depth ≤ 100) × (next ≡ first))

least_by : (before : List Row) (r : Row) (bs : List ℕ) (b n : ℕ) (first next : Option ℕ) → AreSoMany (marks_of r.item before) n → IsNext first r.line (n + b) next → IsLeastLine (IsTooDeep before bs) first
    → IsLeastLine (IsTooDeep (r ∷ before) (b ∷ bs)) next
least_by before r bs b n first next many (inl (past, e)) least = subst (λ m. IsLeastLine (IsTooDeep (r ∷ before) (b ∷ bs)) m) (sym e) (too_deep before r bs b n first many past least)
least_by before r bs b n first next many (inr (within, e)) least = subst (λ m. IsLeastLine (IsTooDeep (r ∷ before) (b ∷ bs)) m) (sym e) (not_too_deep before r bs b n first many within least)

pub least_next : (rows : List Row) (bs : List ℕ) (i : ℕ) (r : Row) (n : ℕ) (first next : Option ℕ) → i < length rows → i < length bs → r ≡ get_or rows i r
    → AreSoMany (marks_of r.item (reverse (take i rows))) n → IsNext first r.line (n + get_or bs i 0) next → IsLeastLine (IsTooDeep (reverse (take i rows)) (reverse (take i bs))) first
    → IsLeastLine (IsTooDeep (reverse (take (i + 1) rows)) (reverse (take (i + 1) bs))) next
least_next rows bs i r n first next within within_ at many is least =
    let more_rows = turned_more rows i r within at in
    let more_bs : reverse (take (i + 1) bs) ≡ get_or bs i 0 ∷ reverse (take i bs) = ap reverse (take_more bs i 0 within_) ∙ reverse-append (take i bs) (get_or bs i 0 ∷ []) in
    subst (λ rs. IsLeastLine (IsTooDeep rs (reverse (take (i + 1) bs))) next) (sym more_rows)
    (subst (λ ys. IsLeastLine (IsTooDeep (r ∷ reverse (take i rows)) ys) next) (sym more_bs) (least_by (reverse (take i rows)) r (reverse (take i bs)) (get_or bs i 0) n first next many is least))
