-- The list of the open blocks has those that are open.
use Rattle.std.proofs.Common.{◌≡◌, inl, inr, ℕ, Bool, true, false, if◌then◌else◌, List, [], ◌∷◌, ◌++◌, length, reverse, Option, Some, None, refl, sym, ◌∙◌, ap, subst}
use Rattle.vb_ends.specs.{declared.{role.{Sort.Sort, Role.Role, Mark.Mark}, stack.Open.Open, blocks.Blocks.Blocks}, Brackets.mark_ends, Counts.same_sort, Enders.{Block, is_statement, Stops, IsOpen, IsAmong, AreOpen}, OpenBlocks.{around, or_all, open_behind, open_blocks, innermost_is, in_interface}, Stack.{Tracks, kept, HasNoBlock}}
use Rattle.vb_ends.specs.declared.role.Sort.TheVariants as sort
use Rattle.vb_ends.specs.declared.role.Role.TheVariants as role
use Rattle.vb_ends.proofs.{Depths.first_by, Machine.snoc, Nesting.{open_more, open_same, open_less, open_still, none_in_none, none_of_statement, none_of_sort}, Sorts.{same_is, same_not}}

-- AN ENDER WITH A BLOCK

-- the block that an ender of the sort closes, those inside it, and those round it
record Parted (s : Sort) (bs rest : List Block) : Type 0 where
  pub ps : List Block
  pub at : Block
  pub parts : bs ≡ ps ++ at ∷ rest
  pub fits : at.sort ≡ s
  pub none_stops : (b : Block) → IsAmong ps b → Stops s b → ⊥

no_stop : (s : Sort) (x : Block) → same_sort x.sort s ≡ false → is_statement s ≡ false → Stops s x → ⊥
no_stop s x differs is (inl h) = cc
no_stop s x differs is (inr fits) = same_not x.sort s differs fits

some_list : (xs ys : List Block) → ◌≡◌ {A = Option (List Block)} (Some xs) (Some ys) → xs ≡ ys
some_list xs ys e = cc

parted_by : (same is : Bool) (s : Sort) (x : Block) (bs rest : List Block) → same_sort x.sort s ≡ same → is_statement s ≡ is
    → (around s bs ≡ Some rest → Parted s bs rest) → (if same then Some bs else if is then None else around s bs) ≡ Some rest → Parted s (x ∷ bs) rest
parted_by true is s x bs rest fits is_ more e = record {
  ps = [];
  at = x;
  parts = ap (λ ys. x ∷ ys) (some_list bs rest e);
  fits = same_is x.sort s fits;
  none_stops = λ b h k. absurd h;
}
parted_by false true s x bs rest fits is_ more e = absurd cc
parted_by false false s x bs rest fits is_ more e =
    let p = more e in
    record {
      ps = x ∷ p.ps;
      at = p.at;
      parts = ap (λ ys. x ∷ ys) p.parts;
      fits = p.fits;
      none_stops = λ b h k. elim h [ inl same ↦ no_stop s x fits is_ (subst (λ y. Stops s y) same k) | inr within ↦ p.none_stops b within k ];
    }

parted : (s : Sort) (bs rest : List Block) → around s bs ≡ Some rest → Parted s bs rest
parted s [] rest e = absurd cc
parted s (x ∷ bs) rest e = parted_by (same_sort x.sort s) (is_statement s) s x bs rest refl refl (parted s bs rest) e

-- AN ENDER WITHOUT A BLOCK

differs_by : (same is : Bool) (s : Sort) (x : Block) (bs : List Block) → same_sort x.sort s ≡ same → is ≡ false → (around s bs ≡ None → (b : Block) → IsAmong bs b → b.sort ≡ s → ⊥)
    → (if same then Some bs else if is then None else around s bs) ≡ None → (b : Block) → IsAmong (x ∷ bs) b → b.sort ≡ s → ⊥
differs_by true is s x bs same is_ more e b h fits = cc
differs_by false true s x bs same is_ more e b h fits = cc
differs_by false false s x bs same is_ more e b (inl here) fits = same_not x.sort s same (sym (ap (λ y. y.sort) here) ∙ fits)
differs_by false false s x bs same is_ more e b (inr h) fits = more e b h fits

differs : (s : Sort) (bs : List Block) → is_statement s ≡ false → around s bs ≡ None → (b : Block) → IsAmong bs b → b.sort ≡ s → ⊥
differs s [] is e b h fits = absurd h
differs s (x ∷ bs) is e b h fits = differs_by (same_sort x.sort s) (is_statement s) s x bs refl is (differs s bs is) e b h fits

not_first : (same is : Bool) (s : Sort) (x : Block) (bs : List Block) → same_sort x.sort s ≡ same → (if same then Some bs else if is then None else around s bs) ≡ None → x.sort ≡ s → ⊥
not_first true is s x bs same e fits = cc
not_first false is s x bs same e fits = same_not x.sort s same fits

alone_by : (is : Bool) (s : Sort) (bs : List Block) (marks : List Mark) → is_statement s ≡ is → AreOpen bs marks → around s bs ≡ None → HasNoBlock (IsOpen marks) s
alone_by is s [] marks is_ o e = none_in_none marks s o
alone_by true s (x ∷ bs) marks is_ o e = none_of_statement x bs marks s o is_ (not_first (same_sort x.sort s) (is_statement s) s x bs refl e)
alone_by false s (x ∷ bs) marks is_ o e = none_of_sort (x ∷ bs) marks s o (differs s (x ∷ bs) is_ e)

-- A MARK

ended : (s : Sort) (line : ℕ) (bs : List Block) (marks : List Mark) → AreOpen bs marks → (o : Option (List Block)) → around s bs ≡ o → AreOpen (or_all o bs) (mark_ends s line ∷ marks)
ended s line bs marks o None e = open_still bs marks s line o (alone_by (is_statement s) s bs marks refl o e)
ended s line bs marks o (Some rest) e =
    let p = parted s bs rest e in
    open_less p.ps p.at rest marks s line (record { are_open = subst (λ ys. AreOpen ys marks) p.parts o; fits = p.fits; none_stops = p.none_stops })

more_open : (k : Role) (line : ℕ) (bs : List Block) (marks : List Mark) → AreOpen bs marks → AreOpen (open_behind k (length marks) line bs) (record { role = k; line = line } ∷ marks)
more_open (role.Opens s) line bs marks o = open_more bs marks s line o
more_open (role.Ends s) line bs marks o = ended s line bs marks o (around s bs) refl
more_open role.Stays line bs marks o = open_same bs marks line o

pub are_open : (marks : List Mark) → AreOpen (open_blocks marks) marks
are_open [] = record { nested = tt; all = λ b h. h; none_else = λ b h. h }
are_open (m ∷ before) = more_open m.role m.line (open_blocks before) before (are_open before)

-- THE INNERMOST

innermost_one : (s : Sort) (xs ys : List Block) (marks : List Mark) → AreOpen xs marks → AreOpen ys marks → innermost_is s xs ≡ innermost_is s ys
innermost_one s [] [] marks a b = refl
innermost_one s [] (y ∷ ys) marks a b = absurd (a.all y (b.none_else y (inl refl)))
innermost_one s (x ∷ xs) [] marks a b = absurd (b.all x (a.none_else x (inl refl)))
innermost_one s (x ∷ xs) (y ∷ ys) marks a b =
    ap (λ v. same_sort v.sort s) (first_by x xs y ys (length marks) (length marks) a.nested b.nested (a.all y (b.none_else y (inl refl))) (b.all x (a.none_else x (inl refl))))

innermost_none : (s : Sort) (bs : List Block) → kept bs ≡ [] → innermost_is s bs ≡ false
innermost_none s [] e = refl
innermost_none s (b ∷ bs) e = absurd cc

innermost_some : (s : Sort) (bs : List Block) (o : Open) (os : List Open) → kept bs ≡ o ∷ os → innermost_is s bs ≡ same_sort o.sort s
innermost_some s [] o os e = absurd cc
innermost_some s (b ∷ bs) o os e = let here : b.sort ≡ o.sort = cc in ap (λ v. same_sort v s) here

pub none_inside : (blocks : Blocks) (marks : List Mark) → Tracks blocks marks → blocks.stack ≡ [] → false ≡ in_interface marks
none_inside blocks marks t e =
    sym (innermost_none sort.Interface t.blocks (t.kept_are ∙ ap reverse e)) ∙ innermost_one sort.Interface t.blocks (open_blocks marks) marks t.are_open (are_open marks)

pub last_inside : (blocks : Blocks) (marks : List Mark) (o : Open) (rest : List Open) → Tracks blocks marks → blocks.stack ≡ rest ++ o ∷ [] → same_sort o.sort sort.Interface ≡ in_interface marks
last_inside blocks marks o rest t e =
    sym (innermost_some sort.Interface t.blocks o (reverse rest) (t.kept_are ∙ ap reverse e ∙ snoc rest o))
    ∙ innermost_one sort.Interface t.blocks (open_blocks marks) marks t.are_open (are_open marks)
