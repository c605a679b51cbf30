-- What an ender does to blocks that stand one inside the other.
use Rattle.std.proofs.Common.{◌≡◌, ◌⊎◌, inl, inr, ℕ, ◌<◌, ◌≤◌, true, List, [], ◌∷◌, ◌++◌, length, refl, sym, ◌∙◌, ap, arith}
use Rattle.vb_ends.specs.{declared.role.{Sort.Sort, Mark.Mark}, Enders.{Block, block, is_statement, Stops, Closes, IsOpen, IsAmong, AreNested, AreOpen}, Brackets.{mark_opens, mark_ends, mark_stays}, Stack.{HasNoBlock, SomeMarkBreaks}}

-- a line is that of one of the blocks
abbrev pub IsLineOf : List Block → ℕ → Type 0
IsLineOf bs line = (b : Block) × IsAmong bs b × (line ≡ b.line)

wider : (bs : List Block) (n m : ℕ) → n ≤ m → AreNested bs n → AreNested bs m
wider [] n m within nested = tt
wider (b ∷ bs) n m within nested = (omega (arith, nested.0, within), nested.1)

pub below : (bs : List Block) (n : ℕ) (b : Block) → AreNested bs n → IsAmong bs b → b.place < n
below [] n b nested h = absurd h
below (x ∷ xs) n b nested (inl e) = let same : b.place ≡ x.place = ap (λ y. y.place) e in omega (arith, same, nested.0)
below (x ∷ xs) n b nested (inr h) = let within : b.place < x.place = below xs x.place b nested.1 h in omega (arith, within, nested.0)

split : (ps : List Block) (c : Block) (rest : List Block) (b : Block) → IsAmong (ps ++ c ∷ rest) b → IsAmong ps b ⊎ (b ≡ c) ⊎ IsAmong rest b
split [] c rest b (inl e) = inr (inl e)
split [] c rest b (inr h) = inr (inr h)
split (x ∷ xs) c rest b (inl e) = inl (inl e)
split (x ∷ xs) c rest b (inr h) = elim (split xs c rest b h) [ inl k ↦ inl (inr k) | inr k ↦ inr k ]

front : (ps more : List Block) (b : Block) → IsAmong ps b → IsAmong (ps ++ more) b
front [] more b h = absurd h
front (x ∷ xs) more b (inl e) = inl e
front (x ∷ xs) more b (inr h) = inr (front xs more b h)

behind : (ps more : List Block) (b : Block) → IsAmong more b → IsAmong (ps ++ more) b
behind [] more b h = h
behind (x ∷ xs) more b h = inr (behind xs more b h)

inner : (ps more : List Block) (n : ℕ) → AreNested (ps ++ more) n → AreNested more n
inner [] more n nested = nested
inner (x ∷ xs) more n nested = wider more x.place n (omega (arith, nested.0)) (inner xs more x.place nested.1)

-- what stands before a block stands inside it
inside : (ps : List Block) (c : Block) (rest : List Block) (n : ℕ) (b : Block) → AreNested (ps ++ c ∷ rest) n → IsAmong ps b → c.place < b.place
inside [] c rest n b nested h = absurd h
inside (x ∷ xs) c rest n b nested (inl e) =
    let same : b.place ≡ x.place = ap (λ y. y.place) e in
    let within : c.place < x.place = below (xs ++ c ∷ rest) x.place c nested.1 (behind xs (c ∷ rest) c (inl refl)) in omega (arith, same, within)
inside (x ∷ xs) c rest n b nested (inr h) = inside xs c rest x.place b nested.1 h

pub open_more : (bs : List Block) (marks : List Mark) (s : Sort) (line : ℕ) → AreOpen bs marks → AreOpen (block (length marks) s line ∷ bs) (mark_opens s line ∷ marks)
open_more bs marks s line o = record {
  nested = (omega arith, o.nested);
  all = λ b h. elim h [ inl e ↦ inl e | inr k ↦ inr (o.all b k) ];
  none_else = λ b h. elim h [ inl e ↦ inl e | inr k ↦ inr (o.none_else b k) ];
}

pub open_same : (bs : List Block) (marks : List Mark) (line : ℕ) → AreOpen bs marks → AreOpen bs (mark_stays line ∷ marks)
open_same bs marks line o = record {
  nested = wider bs (length marks) (length (mark_stays line ∷ marks)) (omega arith) o.nested;
  all = o.all;
  none_else = o.none_else;
}

-- AN ENDER WITH A BLOCK

-- Of the blocks that are open this one is of the sort, and those inside it don't stop the ender.
pub record Found (ps : List Block) (c : Block) (rest : List Block) (marks : List Mark) (s : Sort) : Type 0 where
  pub are_open : AreOpen (ps ++ c ∷ rest) marks
  pub fits : c.sort ≡ s
  pub none_stops : (b : Block) → IsAmong ps b → Stops s b → ⊥

at_is : (ps : List Block) (c : Block) (rest : List Block) (marks : List Mark) (s : Sort) → Found ps c rest marks s → IsOpen marks c
at_is ps c rest marks s f = f.are_open.none_else c (behind ps (c ∷ rest) c (inl refl))

pub closes : (ps : List Block) (c : Block) (rest : List Block) (marks : List Mark) (s : Sort) → Found ps c rest marks s → Closes (IsOpen marks) s c
closes ps c rest marks s f = record {
  is_open = at_is ps c rest marks s f;
  fits = f.fits;
  innermost = λ other is_open stops. elim (split ps c rest other (f.are_open.all other is_open)) [
    | inl h ↦ absurd (f.none_stops other h stops)
    | inr (inl e) ↦ let same : other.place ≡ c.place = ap (λ y. y.place) e in omega (arith, same)
    | inr (inr h) ↦ let within : other.place < c.place = below rest c.place other (inner ps (c ∷ rest) _ f.are_open.nested).1 h in omega (arith, within)
  ];
}

only : (ps : List Block) (c : Block) (rest : List Block) (marks : List Mark) (s : Sort) → Found ps c rest marks s → (b : Block) → Closes (IsOpen marks) s b → b ≡ c
only ps c rest marks s f b k = elim (split ps c rest b (f.are_open.all b k.is_open)) [
  | inl h ↦ absurd (f.none_stops b h (inr k.fits))
  | inr (inl e) ↦ e
  | inr (inr h) ↦
      let within : b.place < c.place = below rest c.place b (inner ps (c ∷ rest) _ f.are_open.nested).1 h in
      let past : c.place ≤ b.place = k.innermost c (at_is ps c rest marks s f) (inr f.fits) in absurd (omega (arith, within, past))
]

-- what is open behind the ender
pub open_less : (ps : List Block) (c : Block) (rest : List Block) (marks : List Mark) (s : Sort) (line : ℕ) → Found ps c rest marks s → AreOpen rest (mark_ends s line ∷ marks)
open_less ps c rest marks s line f = record {
  nested = let inner_ = inner ps (c ∷ rest) _ f.are_open.nested in wider rest c.place (length (mark_ends s line ∷ marks)) (omega (arith, inner_.0)) inner_.1;
  all = λ b h. elim (split ps c rest b (f.are_open.all b h.0)) [
    | inl k ↦ let within = inside ps c rest _ b f.are_open.nested k in let past = h.1 c (closes ps c rest marks s f) in absurd (omega (arith, within, past))
    | inr (inl e) ↦ let same : b.place ≡ c.place = ap (λ y. y.place) e in let past = h.1 c (closes ps c rest marks s f) in absurd (omega (arith, same, past))
    | inr (inr k) ↦ k
  ];
  none_else = λ b h. (
    f.are_open.none_else b (behind ps (c ∷ rest) b (inr h)),
    λ closed k.
        let same : closed.place ≡ c.place = ap (λ y. y.place) (only ps c rest marks s f closed k) in
        let within = below rest c.place b (inner ps (c ∷ rest) _ f.are_open.nested).1 h in omega (arith, same, within),
  );
}

-- the openers of the blocks inside it break the rule
pub breaks_found : (ps : List Block) (c : Block) (rest : List Block) (marks : List Mark) (s : Sort) (here : ℕ) → Found ps c rest marks s
    → (line : ℕ) → SomeMarkBreaks marks line ⊎ IsLineOf ps line → SomeMarkBreaks (mark_ends s here ∷ marks) line
breaks_found ps c rest marks s here f line (inl h) = inr h
breaks_found ps c rest marks s here f line (inr (b, h, e)) = inl (inr (
  b,
  record {
    is_open = f.are_open.none_else b (front ps (c ∷ rest) b h);
    around = c;
    closes = closes ps c rest marks s f;
    inside = inside ps c rest _ b f.are_open.nested h;
  },
  e,
))

pub found_breaks : (ps : List Block) (c : Block) (rest : List Block) (marks : List Mark) (s : Sort) (here : ℕ) → Found ps c rest marks s
    → (line : ℕ) → SomeMarkBreaks (mark_ends s here ∷ marks) line → SomeMarkBreaks marks line ⊎ IsLineOf ps line
found_breaks ps c rest marks s here f line (inl (inl h)) = absurd (h.1 c (closes ps c rest marks s f))
found_breaks ps c rest marks s here f line (inl (inr (b, p, e))) =
    let same : p.around.place ≡ c.place = ap (λ y. y.place) (only ps c rest marks s f p.around p.closes) in
    let past = p.inside in
    elim (split ps c rest b (f.are_open.all b p.is_open)) [
      | inl k ↦ inr (b, k, e)
      | inr (inl k) ↦ let equal : b.place ≡ c.place = ap (λ y. y.place) k in absurd (omega (arith, same, past, equal))
      | inr (inr k) ↦ let within = below rest c.place b (inner ps (c ∷ rest) _ f.are_open.nested).1 k in absurd (omega (arith, same, past, within))
    ]
found_breaks ps c rest marks s here f line (inr h) = inl h

-- AN ENDER WITHOUT A BLOCK

pub open_still : (bs : List Block) (marks : List Mark) (s : Sort) (line : ℕ) → AreOpen bs marks → HasNoBlock (IsOpen marks) s → AreOpen bs (mark_ends s line ∷ marks)
open_still bs marks s line o none = record {
  nested = wider bs (length marks) (length (mark_ends s line ∷ marks)) (omega arith) o.nested;
  all = λ b h. o.all b h.0;
  none_else = λ b h. (o.none_else b h, λ closed k. absurd (none closed k));
}

pub breaks_alone : (marks : List Mark) (s : Sort) (here : ℕ) → HasNoBlock (IsOpen marks) s → (line : ℕ) → SomeMarkBreaks marks line ⊎ (line ≡ here) → SomeMarkBreaks (mark_ends s here ∷ marks) line
breaks_alone marks s here none line (inl h) = inr h
breaks_alone marks s here none line (inr e) = inl (inl (e, none))

pub alone_breaks : (marks : List Mark) (s : Sort) (here : ℕ) → HasNoBlock (IsOpen marks) s → (line : ℕ) → SomeMarkBreaks (mark_ends s here ∷ marks) line → SomeMarkBreaks marks line ⊎ (line ≡ here)
alone_breaks marks s here none line (inl (inl h)) = inr h.0
alone_breaks marks s here none line (inl (inr (b, p, e))) = absurd (none p.around p.closes)
alone_breaks marks s here none line (inr h) = inl h

-- nothing is open
pub none_in_none : (marks : List Mark) (s : Sort) → AreOpen [] marks → HasNoBlock (IsOpen marks) s
none_in_none marks s o b k = o.all b k.is_open

-- the innermost block is of another sort than the statement
pub none_of_statement : (x : Block) (bs : List Block) (marks : List Mark) (s : Sort) → AreOpen (x ∷ bs) marks → is_statement s ≡ true → (x.sort ≡ s → ⊥) → HasNoBlock (IsOpen marks) s
none_of_statement x bs marks s o statement differs b k = elim (o.all b k.is_open) [
  | inl e ↦ differs (sym (ap (λ y. y.sort) e) ∙ k.fits)
  | inr h ↦ let within = below bs x.place b o.nested.1 h in let past = k.innermost x (o.none_else x (inl refl)) (inl statement) in absurd (omega (arith, within, past))
]

-- no block that is open is of the sort
pub none_of_sort : (bs : List Block) (marks : List Mark) (s : Sort) → AreOpen bs marks → ((b : Block) → IsAmong bs b → b.sort ≡ s → ⊥) → HasNoBlock (IsOpen marks) s
none_of_sort bs marks s o differs b k = differs b (o.all b k.is_open) k.fits
